use Rattle.hc_origin.specs.Going.{IsTaken, asking_in}
use Rattle.hc_origin.proofs.Hearing.{handles-kept}
use Rattle.std.{proofs.Common.{subst}, specs.Prelude.{Result}}
use Rattle.hc_head.specs.declared.message.{MsgError.{MsgError}, WireRequest.{WireRequest}}
use Rattle.hc_msg.specs.declared.message.Taken.{Taken}
use Rattle.hc_origin.proofs.origin.Origin.take.Goals as goal

pub returns-in-Ok-clause-handles : goal.returns-in-Ok-clause-handles
returns-in-Ok-clause-handles g c = λ reports log follows taken.
    handles-kept reports c.go_on.new.self log _ _ c.go_on.result follows
    (c.go_on.ensures log (subst
    (λ (r : Result (Taken WireRequest) MsgError). IsTaken c.args.k r log (asking_in c.args.self.now) c.args.self.now.answering.items) c.in-Ok.is taken))

pub returns-in-Err-clause-handles : goal.returns-in-Err-clause-handles
returns-in-Err-clause-handles g c = λ reports log follows taken.
    c.refuse.ensures.handles reports log follows
    (subst (λ (r : Result (Taken WireRequest) MsgError). IsTaken c.args.k r log (asking_in c.args.self.now) c.args.self.now.answering.items) c.in-Err.is taken)
