use Rattle.hc_msg.specs.Taking.{reading_of}
use Rattle.hc_msg.proofs.Looks.{part_looks, none_looks, error_looks}
use Rattle.hc_msg.proofs.answer.Answer.look_ahead.Goals as goal

pub returns-in-Some : goal.returns-in-Some
returns-in-Some c =
    part_looks (reading_of c.args.self.now) (reading_of c.in_ok-copy.copy) c.args.piece.now c.in-Ok.taken c.in-Some.field-0 (reading_of c.take.new.self)
    c.in_ok-copy.ensures.reading c.in-Some.is c.in-Ok.ensures.takes

pub returns-in-Ok : goal.returns-in-Ok
returns-in-Ok c =
    none_looks (reading_of c.args.self.now) (reading_of c.in_ok-copy.copy) c.args.piece.now c.in-Ok.taken (reading_of c.take.new.self)
    c.in_ok-copy.ensures.reading c.in-None.is c.in-Ok.ensures.takes

pub returns : goal.returns
returns c =
    error_looks (reading_of c.args.self.now) (reading_of c.in_ok-copy.copy) c.args.piece.now c.in-Err.e (reading_of c.take.new.self)
    c.look_at_error.result c.in_ok-copy.ensures.reading c.in-Err.ensures.takes c.look_at_error.ensures
