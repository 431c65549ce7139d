use Rattle.std.proofs.Common.{rules}
use Rattle.hc_msg.proofs.Moves.{run_moves}
use Rattle.hc_msg.proofs.answer.Answer.take_run.Goals as goal

pub returns-clause-moves : goal.returns-clause-moves
returns-clause-moves c =
    run_moves c.args.most c.min-n.result c.args.rest.now c.piece_of.result c.requires.some c.requires.most (search rules) c.piece_of.ensures
