-- What is found in the first bytes of a piece is found in the piece.
use Rattle.std.proofs.{Common.{◌≡◌, ℕ, ◌+◌, ◌<◌, ◌≤◌, List, ◌∷◌, ◌++◌, length, take, drop, sym, ap, ◌∙◌, arith, append_assoc, length-append, length-take, length-drop}, lemmas.List.{take-append-drop}}
use Rattle.hc_head.specs.{declared.scan.Scan.{Scan}, Scans.{is_open, IsHeadEnd, StaysOpen}, Finding.{IsLong}}

pub front_end : (front rest piece : List ℕ) (room : ℕ) → front ++ 10 ∷ rest ≡ take room piece → front ++ 10 ∷ (rest ++ drop room piece) ≡ piece
front_end front rest piece room h =
    sym (append_assoc front (10 ∷ rest) (drop room piece)) ∙ ap (λ (t : List ℕ). t ++ drop room piece) h ∙ take-append-drop room piece

pub front_len : (front rest piece : List ℕ) (room : ℕ) → front ++ 10 ∷ rest ≡ take room piece → length front + 1 + length rest ≡ length (take room piece)
front_len front rest piece room h = omega (arith, ap length h, length-append front (10 ∷ rest))

pub front_head : (held room : ℕ) (scan : Scan) (piece : List ℕ) (n : ℕ) → held + room ≡ 32768 → room < length piece → IsHeadEnd scan (take room piece) n
    → IsHeadEnd scan piece n × (held + n ≤ 32768) × (n ≤ length piece)
front_head held room scan piece n len past h =
    let front = front_len h.front h.rest piece room h.whole in
    let short = length-take room piece in (
      record {
        front = h.front;
        rest = h.rest ++ drop room piece;
        whole = front_end h.front h.rest piece room h.whole;
        len = h.len;
        open_before =
            h.open_before;
        ends = h.ends;
      },
      omega (arith, front, short, h.len),
      omega (arith, front, short, h.len),
    )

pub front_long : (held room : ℕ) (scan next : Scan) (piece : List ℕ) → held + room ≡ 32768 → room < length piece → StaysOpen scan (take room piece) next →
    IsLong held scan piece
front_long held room scan next piece len past h = record {
  front = take room piece;
  rest = drop room piece;
  whole = take-append-drop room piece;
  some = omega (arith, length-drop room piece);
  len = omega (arith, length-take room piece);
  still_open = ap is_open (sym h.leads) ∙ h.still_open;
}
