use Rattle.std.proofs.Common.{◌≡◌, ◌⊎◌, Ok, [], sym, ap, subst, ◌∙◌, rules}
use Rattle.hc_head.specs.declared.message.MsgError.TheVariants as error
use Rattle.hc_msg.specs.{declared.answer.State.{State}, Taking.{reading_by, reading_of}, Reading.{Reading, Done, Failed, Leads}, Inputs.{TakesNext}}
use Rattle.hc_msg.proofs.{Inputs.{error_next, done_takes, takes_next}, Moves.{failed_takes}, Spelled.{part_spelled}}
use Rattle.hc_msg.proofs.reader.ResponseReader.take.Goals as goal

pub returns-in-Failed-clause-takes : goal.returns-in-Failed-clause-takes
returns-in-Failed-clause-takes c =
    let inside = c.self.inside.answer in
    failed_takes c.args.self.now c.in-Failed.e c.args.piece.now c.args.most Done
    (ap (λ (s : State). reading_by inside.no_body s inside.held.items) (sym c.in-Failed.is) ∙ c.self.view_is)

pub returns-in-Failed-clause-next : goal.returns-in-Failed-clause-next
returns-in-Failed-clause-next c = error_next c.args.most c.args.self.now c.args.piece.now c.in-Failed.e (returns-in-Failed-clause-takes c)

pub returns-in-Done-clause-next : goal.returns-in-Done-clause-next
returns-in-Done-clause-next c = done_takes c.args.most c.args.self.now c.args.piece.now (search rules)

pub returns-in-Ok-clause-next : goal.returns-in-Ok-clause-next
returns-in-Ok-clause-next c =
    let same : reading_of c.self.inside.answer ≡ c.args.self.now = c.self.view_is in
    let next = takes_next c.args.most (reading_of c.self.inside.answer) c.args.piece.now (Ok c.in-Ok.taken) (reading_of c.take.new.self)
    c.in-Ok.ensures.takes in
    subst (λ (s : Reading). TakesNext c.args.most s c.args.piece.now (Ok c.in-Ok.taken) (reading_of c.take.new.self)) same next

pub returns-in-Err : goal.returns-in-Err
returns-in-Err c =
    let same : reading_of c.self.inside.answer ≡ c.args.self.now = c.self.view_is in
    let takes = subst (λ (s : Reading). (c.in-Err.e ≡ error.NoMemory) ⊎ Leads s c.args.piece.now [] (Failed c.in-Err.e)) same c.in-Err.ensures.takes in
    record {
      takes = takes;
      next = error_next c.args.most c.args.self.now c.args.piece.now c.in-Err.e takes;
      again = search rules;
      stands = search rules;
      spelled = tt;
    }

pub returns-in-Ok-clause-spelled : goal.returns-in-Ok-clause-spelled
returns-in-Ok-clause-spelled c =
    part_spelled (reading_of c.self.inside.answer) c.args.piece.now c.args.most (Ok c.in-Ok.taken) (reading_of c.take.new.self) c.in-Ok.ensures.takes
