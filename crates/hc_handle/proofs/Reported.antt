-- What an error leads to, and what stands at a place.
use Rattle.std.{proofs.Common.{◌≡◌, ℕ, zero, suc, ◌<◌, List, [], ◌∷◌, length, get_or, Some, Result, Ok, Err, sym, ap, subst, arith}, specs.{Result.{IsErrAnd, IfErr}, List.{slice_get}}}

pub if_err : {A E : Type 0} (r : Result A E) (e : E) (Q : E → Type 0) → IsErrAnd r (λ (x : E). x ≡ e) → Q e → IfErr r Q
if_err (Ok a) e Q is q = absurd is
if_err (Err x) e Q is q = subst Q (sym is) q

pub got : {A : Type 0} (xs : List A) (i : ℕ) (x : A) → i < length xs → x ≡ get_or xs i x → slice_get xs i ≡ Some x
got [] i x lt is = absurd (omega (arith, lt))
got (y ∷ ys) zero x lt is = ap Some (sym is)
got (y ∷ ys) (suc i) x lt is = got ys i x (omega (arith, lt)) is
