-- Small facts on tests and options.
use Rattle.std.{proofs.Common.{◌≡◌, Bool, true, false, Some, None, sym, refl}, specs.Prelude.{◌&&◌}}
use Rattle.hc_text.proofs.Basics.{false_true}

pub none_some : {A P : Type 0} (a : A) → None ≡ Some a → P
none_some a h = absurd (let never : None ≡ Some a = h in cc)

pub and_false : (a b : Bool) → a ≡ false → (a && b) ≡ false
and_false false b p = refl
and_false true b p = false_true (sym p)
