-- Steps that may fail.
use Rattle.std.proofs.{lemmas.Bool.Decides.{nat_tests}, Common.{arith, ◌≡◌, Option, Some, None, refl}}
use Rattle.hc_sched.specs.Words.{◌>>=◌}

-- where the steps give a value, the first one did
pub bind-Some : {A B : Type 0} (o : Option A) (f : A → Option B) (y : B) → (o >>= f) ≡ Some y → (x : A) × (o ≡ Some x) × (f x ≡ Some y)
bind-Some None f y h = cc h
bind-Some (Some x) f y h = (x, refl, h)
