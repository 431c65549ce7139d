-- The 20 bytes of a total.
use Rattle.std.{proofs.{Common.{◌≡◌, ℕ, zero, suc, ◌-◌, ◌<◌, ◌≤◌, ◌^◌, List, [], ◌∷◌, ◌++◌, length, take, drop, Option, Some, None, refl, sym, ap, ◌∙◌, inl, inr, arith, length-append}, lemmas.{Bool.{cases_eq}, Option.{same_Some}, Fmt.{length-decimal-le, decimal_is_IsNumeral, decimal-digits_value}, List.{length-replicate, append_assoc, drop_at, drop-drop}}}, specs.{Prelude.{replicate}, List.{replace_range}, Fmt.{decimal}, Str.Parse.{AllDigits, digits_value}}}
use borrow.Rule.Slice.PartMut.{put_mid}
use Rattle.hc_text.specs.Numbers.{IsNumber}
use Rattle.hc_text.proofs.NumberLemmas.{own}
use Rattle.hc_record.specs.{declared.{kind.Kind.{Kind}, version.Version.{Version, TheVariants.{First, Second}}}, Head.{Head, sealed_head}, Lines.{IsSmall, IsSmallTotal, total_text, sealed_record}, Record.{later_lines, spelling}}

pub length-decimal : (n : ℕ) → IsSmall n → length (decimal n) ≤ 20
length-decimal n small = length-decimal-le 20 n (omega arith) (omega arith) (omega arith)

pub length-total_text : (total : Option ℕ) → IsSmallTotal total → length (total_text total) ≡ 20
length-total_text None small = refl
length-total_text (Some n) small =
    let le = length-decimal n (small n refl) in
    length-append (replicate (20 - length (decimal n)) 48) (decimal n)
    ∙ omega (arith, le, length-replicate {A = ℕ} (20 - length (decimal n)) 48)

-- kind and total stand at their places
pub sealed-spelling : (kind : Kind) (total : Option ℕ) (version : Version) (head : Head) → IsSmallTotal head.total →
    sealed_record kind total (spelling version head) ≡ spelling version (sealed_head kind total head)
sealed-spelling kind total First head small =
    let later = later_lines First head in
    let rest : drop 20 ((total_text head.total ++ 10 ∷ []) ++ later) ≡ 10 ∷ later =
    rw (append_assoc (total_text head.total) (10 ∷ []) later)
    (drop_at (total_text head.total) (10 ∷ later) 20 (length-total_text head.total small)) in
    rw (rest, append_assoc (total_text total) (10 ∷ []) later) refl
sealed-spelling kind total Second head small =
    let later = later_lines Second head in
    let rest : drop 20 ((total_text head.total ++ 10 ∷ []) ++ later) ≡ 10 ∷ later =
    rw (append_assoc (total_text head.total) (10 ∷ []) later)
    (drop_at (total_text head.total) (10 ∷ later) 20 (length-total_text head.total small)) in
    rw (rest, append_assoc (total_text total) (10 ∷ []) later) refl

-- a write to bytes 11 to 30
pub put_mid-replace_range : (text bytes : List ℕ) → put_mid 11 20 text bytes ≡ replace_range text 11 31 bytes
put_mid-replace_range text bytes =
    sym (append_assoc (take 11 text) bytes (drop 20 (drop 11 text)))
    ∙ ap (λ (l : List ℕ). (take 11 text ++ bytes) ++ l) (drop-drop 20 11 text)

-- digits behind zeros have the value of the digits alone
AllDigits-zeros : (k : ℕ) (ds : List ℕ) → AllDigits 10 ds → AllDigits 10 (replicate k 48 ++ ds)
AllDigits-zeros zero ds h = h
AllDigits-zeros (suc k) ds h = (omega arith, AllDigits-zeros k ds h)

digits_value-zeros : (k : ℕ) (ds : List ℕ) → digits_value 10 (replicate k 48 ++ ds) ≡ digits_value 10 ds
digits_value-zeros zero ds = refl
digits_value-zeros (suc k) ds = digits_value-zeros k ds

-- a total is a number of 20 digits
pub IsNumber-total : (n : ℕ) (text : List ℕ) → IsSmall n → total_text (Some n) ≡ text → IsNumber text n
IsNumber-total n text small is =
    let written = decimal_is_IsNumeral n (omega arith) in
    let len = length-total_text (Some n) (λ x e. rw (sym (same_Some _ _ e)) small) in
    rw (← is) (
      small,
      (omega (arith, len), AllDigits-zeros (20 - length (decimal n)) (decimal n) written.0.1),
      omega (arith, len),
      digits_value-zeros (20 - length (decimal n)) (decimal n) ∙ written.1,
    )

-- digits are the plain number behind zeros
abbrev IsPadded : List ℕ → Type 0
IsPadded text =
    text ≡ replicate (length text - length (decimal (digits_value 10 text))) 48 ++ decimal (digits_value 10 text)

padded-zero : (cs : List ℕ) → IsPadded cs → IsPadded (48 ∷ cs)
padded-zero cs ih =
    let plain = decimal (digits_value 10 cs) in
    let zeros = length-replicate {A = ℕ} (length cs - length plain) 48 in
    let parts = ap length ih ∙ length-append (replicate (length cs - length plain) 48) plain in
    let more : suc (length cs) - length plain ≡ suc (length cs - length plain) = omega (arith, zeros, parts) in
    rw more (ap (λ (l : List ℕ). 48 ∷ l) ih)

padded-plain : (text : List ℕ) → decimal (digits_value 10 text) ≡ text → IsPadded text
padded-plain text plain =
    let none : length text - length (decimal (digits_value 10 text)) ≡ 0 = omega (arith, ap length plain) in
    rw none (sym plain)

pub padded : (text : List ℕ) → AllDigits 10 text → 0 < length text → digits_value 10 text < 2 ^ 62 → IsPadded text
padded [] digits some small = absurd (omega arith)
padded (c ∷ []) digits some small =
    padded-plain (c ∷ []) (decimal-digits_value own (c ∷ []) digits some (λ _. refl) (omega arith))
padded (c ∷ d ∷ ds) digits some small =
    elim (cases_eq c 48) [
      | inl zero_first ↦
          rw zero_first (padded-zero (d ∷ ds) (padded (d ∷ ds) digits.1 (omega arith) (rw zero_first at small)))
      | inr other ↦
          padded-plain (c ∷ d ∷ ds)
          (decimal-digits_value own (c ∷ d ∷ ds) digits some (λ e. absurd (other e)) (omega arith))
    ]

-- 20 digits are the total of their value
pub total-IsNumber : (n : ℕ) (text : List ℕ) → length text ≡ 20 → IsNumber text n → total_text (Some n) ≡ text
total-IsNumber n text len h =
    sym (rw (h.3, len) at (padded text h.1.1 h.1.0 (omega (arith, h.0, h.3))))
