use Rattle.std.proofs.Common.{inl, inr, sym, ◌∙◌, rules}
use Rattle.hc_sched.specs.Pieces.{is_piece_text}
use Rattle.hc_sched.proofs.Hex.{decode_of-lower}
use Rattle.hc_sched.proofs.piece.read_bytes.Goals as goal

pub unreachable-requires : goal.unreachable-requires
unfolding is_piece_text
unreachable-requires c =
    let bytes = decode_of-lower c.args.text.now (search rules) in
    elim c.in-Err.ensures.err [
      | inl memory ↦ c.in_default.not-OutOfMemory memory
      | inr bad ↦ cc (sym bytes.1 ∙ bad)
    ]
