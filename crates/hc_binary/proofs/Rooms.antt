-- Bytes that are put into a room.
use Rattle.std.{proofs.{Common.{◌≡◌, ℕ, ◌+◌, ◌-◌, ◌<◌, ◌≤◌, List, [], ◌∷◌, ◌++◌, length, take, drop, refl, sym, ap, ◌∙◌, inl, inr, arith, append_assoc, length-append}, lemmas.{Bool.{cases_lt}, Option.{slice_get_within, get_or_from_slice_get}, List.{append-nil, take_more, take-append-drop, length-take-le, take-append-le, take_all, take_at}}}, specs.{Prelude.{min, Some}, List.{slice_get}}}
use borrow.Rule.Slice.PartMut.{put_mid, post_of, same_len_mid}
use Rattle.hc_fields.specs.Lines.{field_text, fields_text}
use Rattle.hc_binary.specs.Copies.{HoldsPrefix, Puts}

pub puts_then : (old middle new : List ℕ) (at between n : ℕ) (bytes more : List ℕ) → Puts old at bytes middle between → Puts middle between more new n →
    Puts old at (bytes ++ more) new n
puts_then old middle new at between n bytes more first then = record {
  room = then.room ∙ first.room;
  holds = λ text h. let both = then.holds (text ++ bytes) (first.holds text h) in rw (append_assoc text bytes more) at both;
}

pub puts_none : (room : List ℕ) (at : ℕ) → Puts room at [] room at
puts_none room at = record { room = refl; holds = λ text h. rw (append-nil text) h }

-- a text that ends at a place, or where nothing is taken behind it
front_of : (text bytes : List ℕ) (at n : ℕ) → at ≤ length text → n ≤ length bytes → (at < length text → n ≡ 0) →
    take (at + n) (text ++ bytes) ≡ take at text ++ take n bytes
front_of text bytes at n within fits ends =
    elim (cases_lt at (length text)) [
      | inl below ↦
          let none : n ≡ 0 = ends below in
          let same : at + n ≡ at = omega (arith, none) in
          rw same (rw none (take-append-le at text bytes within ∙ sym (append-nil (take at text))))
      | inr past ↦
          let all : take at text ≡ text = take_all at text past in
          let len : length (text ++ take n bytes) ≡ at + n =
          let parts = length-append text (take n bytes) in
          let count = length-take-le n bytes fits in
          omega (arith, parts, count, within, past) in
          let whole : (text ++ take n bytes) ++ drop n bytes ≡ text ++ bytes = append_assoc text (take n bytes) (drop n bytes) ∙
          ap (λ (l : List ℕ). text ++ l) (take-append-drop n bytes) in
          ap (take (at + n)) (sym whole) ∙ (take_at (text ++ take n bytes) (drop n bytes) (at + n) len ∙ ap (λ (l : List ℕ). l ++ take n bytes) (sym all))
    ]

-- as many of the bytes as fit, in the place of as many from a place on
pub puts : (old bytes new : List ℕ) (at n k : ℕ) → at ≤ length old → n ≡ min (length bytes) (length old - at) → k ≡ n
    → length new ≡ length (take k (drop at old)) → new ≡ take n bytes → Puts old at bytes (put_mid at k old new) (at + n)
puts old bytes new at n k within is same len are =
    let room : length (put_mid at k old new) ≡ length old = same_len_mid at k old new len in
    let fits : n ≤ length bytes = omega (arith, is) in
    let before = length-take-le at old within in
    let count : length new ≡ n = ap length are ∙ length-take-le n bytes fits in
    let both : length (take at old ++ new) ≡ at + n = let parts = length-append (take at old) new in omega (arith, parts, before, count) in
    let left : take (at + n) (put_mid at k old new) ≡ take at old ++ new =
    ap (take (at + n)) (sym (append_assoc (take at old) new (post_of at k old))) ∙ take_at (take at old ++ new) (post_of at k old) (at + n) both in
    record {
      room = room;
      holds = λ text h.
          let all = length-append text bytes in
          let there = h.count in
          let right = front_of text bytes at n (omega (arith, there)) fits (λ below. omega (arith, there, is, below)) in
          record {
            count = omega (arith, all, there, is, room, within);
            front = left ∙ (ap (λ (l : List ℕ). l ++ new) h.front ∙ (ap (λ (l : List ℕ). take at text ++ l) are ∙ sym right));
          };
    }

-- LINES

texts-append : (fs gs : List (List ℕ × List ℕ)) → fields_text (fs ++ gs) ≡ fields_text fs ++ fields_text gs
texts-append [] gs = refl
texts-append (f ∷ fs) gs = ap (λ (l : List ℕ). field_text f ++ l) (texts-append fs gs) ∙ sym (append_assoc (field_text f) (fields_text fs) (fields_text gs))

texts-more : (fs : List (List ℕ × List ℕ)) (i : ℕ) (f : List ℕ × List ℕ) → slice_get fs i ≡ Some f →
    fields_text (take (i + 1) fs) ≡ fields_text (take i fs) ++ field_text f
texts-more fs i f is =
    let more : take (i + 1) fs ≡ take i fs ++ f ∷ [] = rw (get_or_from_slice_get fs i f f is) at (take_more fs i f (slice_get_within fs i f is)) in
    ap fields_text more ∙ (texts-append (take i fs) (f ∷ []) ∙ ap (λ (l : List ℕ). fields_text (take i fs) ++ l) (append-nil (field_text f)))

-- the first lines were put, and then one more
pub lines_more : (old middle new : List ℕ) (at between n : ℕ) (fs : List (List ℕ × List ℕ)) (i : ℕ) (f : List ℕ × List ℕ) → slice_get fs i ≡ Some f
    → Puts old at (fields_text (take i fs)) middle between → Puts middle between (field_text f) new n → Puts old at (fields_text (take (i + 1) fs)) new n
lines_more old middle new at between n fs i f is first then =
    rw (texts-more fs i f is) (puts_then old middle new at between n (fields_text (take i fs)) (field_text f) first then)

pub lines_all : (old new : List ℕ) (at n : ℕ) (fs : List (List ℕ × List ℕ)) (i : ℕ) → length fs ≤ i → Puts old at (fields_text (take i fs)) new n →
    Puts old at (fields_text fs) new n
lines_all old new at n fs i past h = rw (take_all i fs past) at h

-- from the beginning of a room
pub holds_from : (old new bytes : List ℕ) (n : ℕ) → Puts old 0 bytes new n → HoldsPrefix new n bytes
holds_from old new bytes n h = h.holds [] (record { count = omega arith; front = refl })

pub holds_none : (room : List ℕ) → HoldsPrefix room 0 []
holds_none room = record { count = omega arith; front = refl }
