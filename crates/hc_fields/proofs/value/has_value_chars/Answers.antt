use Rattle.std.{proofs.{Common.{◌≡◌, ℕ, ◌+◌, ◌-◌, ◌≤◌, Bool, true, false, List, ◌++◌, length, take, drop, refl, sym, ap, ◌∙◌, arith}, Math.{Bool.{and_assoc}, Seq.{take-add}}, lemmas.List.{take-append-drop, take_rest, Folds.{list_all-append}}}, specs.{Prelude.{◌&&◌}, List.{list_all}}}
use Rattle.http_header.specs.Token.{is_value_byte}
use Rattle.hc_fields.proofs.value.has_value_chars.Goals as goal

all-two : (xs ys zs : List ℕ) → xs ≡ ys ++ zs → list_all is_value_byte xs ≡ (list_all is_value_byte ys && list_all is_value_byte zs)
all-two xs ys zs is = ap (list_all is_value_byte) is ∙ list_all-append is_value_byte ys zs

joined_tests : (front middle back : Bool) → (middle && back && (front && middle)) ≡ (front && (middle && back))
joined_tests false false false = refl
joined_tests false false true = refl
joined_tests false true false = refl
joined_tests false true true = refl
joined_tests true false false = refl
joined_tests true false true = refl
joined_tests true true false = refl
joined_tests true true true = refl

-- what stands from one place on and what stands up to a later one are the whole
covered : (bytes : List ℕ) (from more : ℕ) →
    (list_all is_value_byte (drop from bytes) && list_all is_value_byte (take (from + more) bytes)) ≡ list_all is_value_byte bytes
covered bytes from more =
    let rest = drop from bytes in
    let back = all-two rest (take more rest) (drop more rest) (sym (take-append-drop more rest)) in
    let front = all-two (take (from + more) bytes) (take from bytes) (take more rest) (take-add from more bytes) in
    let whole = all-two bytes (take from bytes) rest (sym (take-append-drop from bytes)) in
    rw (whole, front, back) (joined_tests (list_all is_value_byte (take from bytes)) (list_all is_value_byte (take more rest))
    (list_all is_value_byte (drop more rest)))

covered_to : (bytes : List ℕ) (from to : ℕ) → from ≤ to →
    (list_all is_value_byte (drop from bytes) && list_all is_value_byte (take to bytes)) ≡ list_all is_value_byte bytes
covered_to bytes from to le =
    let more = to - from in
    let at : from + more ≡ to = omega (arith, le) in
    ap (λ (n : ℕ). list_all is_value_byte (drop from bytes) && list_all is_value_byte (take n bytes)) (sym at) ∙ covered bytes from more

pub returns-then-value-lt16 : goal.returns-then-value-lt16
returns-then-value-lt16 c =
    let bytes = c.args.value.now in
    rw (c.are_value_chars-then-value-lt16.ensures, c.are_value_chars-then-value-lt16-2.ensures, take_rest bytes (length bytes - 8))
    (covered_to bytes (length bytes - 8) 8 (omega (arith, c.if-value-lt16.true)))

-- what was tested, and some bytes more
stepped : (last : Bool) (bytes : List ℕ) (at width n : ℕ) → n ≡ width →
    (last && list_all is_value_byte (take at bytes) && list_all is_value_byte (take n (drop at bytes))) ≡
    (last && list_all is_value_byte (take (at + width) bytes))
stepped last bytes at width n is =
    let more = all-two (take (at + width) bytes) (take at bytes) (take width (drop at bytes)) (take-add at width bytes) in
    rw is (and_assoc last (list_all is_value_byte (take at bytes)) (list_all is_value_byte (take width (drop at bytes))) ∙
    ap (λ (b : Bool). last && b) (sym more))

pub loop-at-preserved : goal.loop-at-preserved
loop-at-preserved c =
    let bytes = c.args.value.now in
    let at = c.loop-at.at in
    let last = list_all is_value_byte (drop (length bytes - 16) bytes) in (
      rw (c.loop-at.invariant.0, c.are_value_chars-valid-in-loop-at.ensures) (stepped last bytes at 16 (at + 16 - at) (omega arith)),
      omega (arith, c.loop-at-test.true),
    )

pub returns : goal.returns
returns c =
    let bytes = c.args.value.now in
    c.loop-at.invariant.0 ∙ covered_to bytes (length bytes - 16) c.loop-at.at (omega (arith, c.loop-at-test.false))
