-- What is known of the statuses that may be stored. Proofs open `brings_whole` and `brings_part` nowhere else.
use Rattle.std.{proofs.{Common.{◌≡◌, ℕ, ◌<◌, ◌≤◌, true, false, arith}, lemmas.Bool.Decides.{nat_tests}}, specs.Prelude.{nat_eq}}
use Rattle.hc_rules.specs.Statuses.{brings_whole, brings_part}

-- none brings both
pub whole_is_no_part : (n : ℕ) → brings_whole n ≡ true → brings_part n ≡ false
unfolding brings_whole brings_part
whole_is_no_part n is = grind (arith, nat_tests)

pub part_is_no_whole : (n : ℕ) → brings_part n ≡ true → brings_whole n ≡ false
unfolding brings_whole brings_part
part_is_no_whole n is = grind (arith, nat_tests)

pub whole_or_part : (n : ℕ) → brings_whole n ≡ true → brings_part n ≡ true → ⊥
unfolding brings_whole brings_part
whole_or_part n whole part = grind (arith, nat_tests)

-- each is a success (RFC 9110 section 15.3)
pub whole_succeeds : (n : ℕ) → brings_whole n ≡ true → (200 ≤ n) × (n < 300)
unfolding brings_whole
whole_succeeds n is = grind (arith, nat_tests)

pub part_succeeds : (n : ℕ) → brings_part n ≡ true → (200 ≤ n) × (n < 300)
unfolding brings_part
part_succeeds n is = grind (arith, nat_tests)

pub past_no_whole : (n : ℕ) → 300 ≤ n → brings_whole n ≡ false
unfolding brings_whole
past_no_whole n past = grind (arith, nat_tests)

pub past_no_part : (n : ℕ) → 300 ≤ n → brings_part n ≡ false
unfolding brings_part
past_no_part n past = grind (arith, nat_tests)

-- what a client is shown with these is told by their own numbers
pub ok_no_part : (n : ℕ) → n ≡ 200 → brings_part n ≡ false
unfolding brings_part
ok_no_part n is = grind (arith, nat_tests)

pub partial_brings : (n : ℕ) → n ≡ 206 → brings_part n ≡ true
unfolding brings_part
partial_brings n is = grind (arith, nat_tests)

-- and a part has a body
pub part_not_204 : (n : ℕ) → brings_part n ≡ true → nat_eq n 204 ≡ false
unfolding brings_part
part_not_204 n is = grind (arith, nat_tests)
