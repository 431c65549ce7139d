-- The size that a path tells.
use Rattle.std.{proofs.{Common.{◌≡◌, ℕ, ◌<◌, ◌≤◌, false, List, Some, None, refl, sym, arith, leb}, lemmas.{Bool.Decides.{nat_tests}, Fmt.{decimal_is_IsNumeral}}}, specs.Str.Parse.{digits_value}}
use Rattle.hc_text.proofs.Basics.{le-leb as leb-from, same_bytes}
use Rattle.hc_text.specs.Numbers.{IsPlain}
use Rattle.hc_validate.specs.Origin.{size_in}

leb-not : (m n : ℕ) → n < m → leb m n ≡ false
leb-not m n h = grind (arith, nat_tests)

value : (text : List ℕ) (n : ℕ) → IsPlain text n → digits_value 10 text ≡ n
value text n is = rw is.1 ((decimal_is_IsNumeral n (omega (arith, is.0))).1)

pub plain : (text : List ℕ) (n : ℕ) → IsPlain text n → n ≤ 1048576 → Some n ≡ size_in text
plain text n is small =
    let v = value text n is in
    sym (rw (v, sym is.1, same_bytes text, leb-from n 1048576 small) refl)

pub large : (text : List ℕ) (n : ℕ) → IsPlain text n → 1048576 < n → None ≡ size_in text
large text n is small =
    let v = value text n is in
    sym (rw (v, sym is.1, same_bytes text, leb-not n 1048576 small) refl)
