use Rattle.hc_msg.proofs.Moves.{chunk_moves}
use Rattle.hc_msg.proofs.answer.Answer.take_chunk.Goals as goal

pub returns-clause-moves : goal.returns-clause-moves
returns-clause-moves c =
    chunk_moves c.args.left c.args.most c.stretch-n.result c.args.rest.now c.in_ok-given.given _ c.requires.left c.requires.some c.requires.most
    c.stretch-n.ensures c.in_ok-given.ensures (c.chunk-self.ensures.reading c.args.self.now.no_body c.args.self.now.held.items)
