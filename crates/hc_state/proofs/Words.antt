-- Small facts on tests, options and numbers.
use Rattle.std.{proofs.{lemmas.Bool.Decides.{nat_tests}, Common.{◌≡◌, ◌≢◌, ◌⊎◌, ℕ, ◌+◌, ◌<◌, ◌≤◌, ◌^◌, true, cond, Option, Some, None, Result, Ok, Err, refl, sym, ◌∙◌, arith}}, specs.Prelude.{is_some, IsSomeAnd, OnOk, ◌||◌, ◌&&◌}}
use Rattle.hc_text.proofs.Basics.{false_true}
use Rattle.hc_effects.proofs.Tests.{none_some}

-- a value that is there, and what is known of it
pub there : {A : Type 0} (o : Option A) (P : A → Type 0) → IsSomeAnd o P → (k : A) × (o ≡ Some k) × P k
there None P h = absurd h
there (Some k) P h = (k, refl, h)

pub or_none : {A : Type 0} (o : Option A) → cond (is_some o) o None ≡ o
or_none o = grind (arith, nat_tests)

-- what follows where a call succeeded
pub on_ok : {A E P Q R S : Type 0} (r : Result A E) → OnOk r P → OnOk r Q → OnOk r R → (P → Q → R → S) → OnOk r S
on_ok (Ok x) p q s f = f p q s
on_ok (Err e) p q s f = tt

pub ok_then : {A E P Q : Type 0} (r : Result A E) → OnOk r P → (P → Q) → OnOk r Q
ok_then (Ok x) p f = f p
ok_then (Err e) p f = tt

-- what is none isn't there
pub none_there : {A P : Type 0} (o : Option A) → o ≡ None → is_some o ≡ true → P
none_there None none on = false_true on
none_there (Some a) none on = none_some a (sym none)

pub on_ok_two : {A E P Q R : Type 0} (r : Result A E) → OnOk r P → OnOk r Q → (P → Q → R) → OnOk r R
on_ok_two (Ok x) p q f = f p q
on_ok_two (Err e) p q f = tt

-- HOW MANY BYTES CAME

-- and where both grow by as many
pub more_received : {a b m n : ℕ} (more : ℕ) → a ≡ b + more → n ≡ m + more → m ≤ b → n ≤ a
more_received more count reported most = omega (arith, count, reported, most)

pub none_received : (n : ℕ) → 0 ≤ n
none_received n = omega arith

-- while few are counted, few came
pub few_received : {n : ℕ} → n < 2 ^ 61 → n < 2 ^ 62
few_received small = omega (arith, small)
