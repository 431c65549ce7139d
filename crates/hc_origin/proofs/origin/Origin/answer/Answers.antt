use Rattle.std.{proofs.Common.{◌++◌, ◌∷◌, [], subst, sym}, specs.Prelude.{ℕ, List, Option}}
use Rattle.hc_msg.specs.Reading.{Reading}
use Rattle.hc_origin.proofs.{Maps.{map-other, map-own}, Steps.{asked-kept}}
use Rattle.hc_origin.specs.{Going.{asking_in}, Keeping.{Keeps}, Replies.{Unsent}}
use Rattle.hc_origin.proofs.origin.Origin.answer.Goals as goal

pub returns : goal.returns
returns c = λ log asks.
    let owed = c.args.self.now.answering.items in
    let new : ℕ → Option Reading = λ k. asking_in (record c.args.self.now { asking = c.remove.new.self }) k in
    let kept : Keeps log new (owed ++ c.in_ok-reply.reply ∷ []) =
    asked-kept c.args.k c.args.request.now log (asking_in c.args.self.now) new owed c.in_ok-reply.reply asks
    c.in_ok-reply.ensures.number c.in_ok-reply.ensures.responds
    (map-own c.args.self.now.asking c.remove.new.self c.args.k _ c.remove.ensures.updates)
    (map-other c.args.self.now.asking c.remove.new.self c.args.k _ c.remove.ensures.updates) in
    subst (λ (us : List Unsent). Keeps log new us) (sym c.in_ok-push.ensures.items) kept
