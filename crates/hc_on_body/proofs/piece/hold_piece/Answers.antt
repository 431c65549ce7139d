use Rattle.std.proofs.Common.{refl}
use Rattle.hc_on_body.proofs.{Bringing.{comes_below}, LostPiece.{held_answered}}
use Rattle.hc_on_body.proofs.piece.hold_piece.Goals as goal

pub piece-requires-clause-below : goal.piece-requires-clause-below
piece-requires-clause-below g c = comes_below c.args.rows.now c.args.x _ _ c.requires.comes

pub returns-clause-answers : goal.returns-clause-answers
returns-clause-answers g c = λ now before limits t facts stands goes.
    held_answered c.args.rows.now _ t facts stands now c.args.x c.args.bytes.now goes c.requires.comes.stored refl refl refl refl c.in_ok-piece.ensures.ok
    before
