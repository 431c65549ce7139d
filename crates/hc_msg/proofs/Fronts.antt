-- What is found in the first bytes of a piece is found in the piece.
use Rattle.std.proofs.{Common.{◌≡◌, ℕ, ◌+◌, ◌<◌, ◌≤◌, true, List, ◌++◌, length, take, drop, arith, length-take, length-drop}, lemmas.List.{take-append-drop}}
use Rattle.hc_text.specs.Texts.{lacks}
use Rattle.hc_head.specs.Scans.{IsLineBefore}
use Rattle.hc_head.proofs.Fronts.{front_end, front_len}
use Rattle.hc_msg.specs.Chunks.{IsLongLine}

pub front_line : (held room : ℕ) (piece : List ℕ) (at : ℕ) → held + room ≡ 1024 → room < length piece → IsLineBefore (take room piece) at
    → IsLineBefore piece at × (held + (at + 1) ≤ 1024) × (at < length piece)
front_line held room piece at len past h =
    let front = front_len h.line h.rest piece room h.whole in
    let short = length-take room piece in (
      record { line = h.line; rest = h.rest ++ drop room piece; whole = front_end h.line h.rest piece room h.whole; len = h.len; is_line = h.is_line },
      omega (arith, front, short, h.len),
      omega (arith, front, short, h.len),
    )

pub front_long_line : (held room : ℕ) (piece : List ℕ) → held + room ≡ 1024 → room < length piece → lacks 10 (take room piece) ≡ true → IsLongLine held piece
front_long_line held room piece len past h = record {
  front = take room piece;
  rest = drop room piece;
  whole = take-append-drop room piece;
  some = omega (arith, length-drop room piece);
  len = omega (arith, length-take room piece);
  is_line = h;
}
