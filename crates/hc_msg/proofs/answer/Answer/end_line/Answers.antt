use Rattle.hc_msg.specs.Reading.{Done}
use Rattle.hc_msg.proofs.Moves.{line_bad, line_moves}
use Rattle.hc_msg.proofs.answer.Answer.end_line.Goals as goal

pub returns-in-None-clause-moves : goal.returns-in-None-clause-moves
returns-in-None-clause-moves c = λ most.
    let says = rw c.in-None.is at c.in_ok-whole_line.ensures.sized in
    line_bad c.args.self.now.held.items c.args.rest.now c.args.at most Done c.requires.line c.requires.short says

pub returns-in-Some-clause-moves : goal.returns-in-Some-clause-moves
returns-in-Some-clause-moves c = λ most.
    let says = rw c.in-Some.is at c.in_ok-whole_line.ensures.sized in
    line_moves c.args.self.now.held.items c.args.rest.now c.args.at most c.in-Some.size _ c.requires.line c.requires.short c.requires.within
    says (c.after_size-self.ensures.reading c.whole_line.new.self.no_body c.whole_line.new.self.held.items)
