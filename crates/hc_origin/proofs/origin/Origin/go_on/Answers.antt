use Rattle.std.{proofs.Common.{subst}, specs.Prelude.{Option}}
use Rattle.hc_head.specs.declared.message.WireRequest.{WireRequest}
use Rattle.hc_origin.specs.Going.{IsGot, asking_in}
use Rattle.hc_origin.proofs.origin.Origin.go_on.Goals as goal

pub returns-in-Some : goal.returns-in-Some
returns-in-Some c = λ log got.
    c.answer.ensures log (subst (λ (o : Option WireRequest). IsGot c.args.k o log (asking_in c.args.self.now) c.args.self.now.answering.items) c.in-Some.is got)

pub returns-in-None : goal.returns-in-None
returns-in-None c = λ log got.
    subst (λ (o : Option WireRequest). IsGot c.args.k o log (asking_in c.args.self.now) c.args.self.now.answering.items) c.in-None.is got
