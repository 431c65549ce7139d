use Rattle.std.proofs.Common.{◌≡◌, Ok, [], sym, ap, subst, ◌∙◌, inr, rules}
use Rattle.hc_msg.specs.{Reading.{Reading, Failed, Leads}, Asking.{asking, asking_by}, Inputs.{next_in, IsNextError}}
use Rattle.hc_msg.proofs.{Inputs.{error_next, call_next}, Leading.{stays_failed}, Spelled.{request_spelled}}
use Rattle.hc_msg.proofs.requests.RequestReader.take.Goals as goal

pub returns-in-Some-clause-takes : goal.returns-in-Some-clause-takes
returns-in-Some-clause-takes c =
    let e = c.in-Some.e in
    let piece = c.args.piece.now in
    let same : Failed e ≡ c.args.self.now = ap (λ o. asking_by o c.self.inside.call) (sym c.in-Some.is) ∙ c.self.view_is in
    inr (subst (λ (r : Reading). Leads r piece [] (Failed e)) same (stays_failed e piece))

pub returns-in-Some-clause-next : goal.returns-in-Some-clause-next
returns-in-Some-clause-next c = error_next 1 c.args.self.now c.args.piece.now c.in-Some.e (returns-in-Some-clause-takes c)

pub returns-in-Ok-clause-next : goal.returns-in-Ok-clause-next
returns-in-Ok-clause-next c =
    call_next c.self.inside.error c.self.inside.call c.take.new.self c.args.self.now c.args.piece.now c.in-Ok.taken c.in_default.not-Some c.self.view_is
    c.in-Ok.ensures.takes

pub returns-in-Err-clause-next : goal.returns-in-Err-clause-next
returns-in-Err-clause-next c =
    let same : asking c.self.inside.call ≡ c.args.self.now = search rules in
    let next = error_next 1 (asking c.self.inside.call) c.args.piece.now c.in-Err.e c.in-Err.ensures.takes in
    subst (λ (s : Reading). IsNextError (next_in 1 s c.args.piece.now) c.in-Err.e) same next

pub returns-in-Ok-clause-spelled : goal.returns-in-Ok-clause-spelled
returns-in-Ok-clause-spelled c = request_spelled (asking c.self.inside.call) c.args.piece.now (Ok c.in-Ok.taken) (asking c.take.new.self) c.in-Ok.ensures.takes
