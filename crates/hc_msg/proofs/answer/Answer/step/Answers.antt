use Rattle.std.proofs.Common.{◌∙◌}
use Rattle.hc_msg.proofs.Moves.{chunk_end_moves, chunk_return_moves, trail_moves}
use Rattle.hc_msg.proofs.answer.Answer.step.Goals as goal

pub returns-in-ChunkEnd-clause-moves : goal.returns-in-ChunkEnd-clause-moves
returns-in-ChunkEnd-clause-moves c =
    let self = c.expect.new.self in
    rw c.in-ChunkEnd.is
    (chunk_end_moves self.no_body self.state self.held.items c.args.rest.now c.args.most c.expect.result c.requires.some c.expect.ensures.expects
    c.expect.ensures.state)

pub returns-in-ChunkReturn-clause-moves : goal.returns-in-ChunkReturn-clause-moves
returns-in-ChunkReturn-clause-moves c =
    let self = c.expect-in-ChunkReturn.new.self in
    let tokens = c.expect-in-ChunkReturn.ensures in
    let none = rw c.in-ChunkReturn.is at c.requires.sound in
    rw c.in-ChunkReturn.is
    (chunk_return_moves self.no_body self.state self.held.items c.args.rest.now c.args.most c.expect-in-ChunkReturn.result c.requires.some tokens.expects
    tokens.state (tokens.held ∙ none))

pub returns-in-Trailing-clause-moves : goal.returns-in-Trailing-clause-moves
returns-in-Trailing-clause-moves c =
    rw c.in-Trailing.is
    (trail_moves c.in-Trailing.place c.in-Trailing.count c.args.rest.now c.args.most c.take_trailer.result _ c.requires.some c.take_trailer.ensures.moves)
