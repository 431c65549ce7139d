-- Operations one after another.
use Rattle.std.{proofs.{lemmas.Bool.Decides.{nat_tests}, Common.{◌≡◌, inl, inr, ℕ, zero, suc, ◌+◌, ◌<◌, ◌≤◌, List, [], ◌∷◌, ◌++◌, length, take, Bool, true, false, Option, Some, None, refl, sym, ap, ◌∙◌, arith, add-one, get_or}, Math.Seq.{take-suc}}, specs.Prelude.{is_some, not, ◌&&◌, nat_le, Result, Ok, Err, OnErr}}
use Rattle.hc_text.proofs.Basics.{le_or as le_cases, never_true as one-of, lt_or as split}
use Rattle.hc_sparse.specs.{Cells.{Cells, Cell, AreAbsent, IsNext}, Ops.{are_absent, after, cells_after, IsAnswer, AreAnswers, HasAnswered}, declared.ops.{SparseOp.{SparseOp}, SparseAnswer.{SparseAnswer}}}

pub absent-is : (o : Option Cell) → is_some o ≡ false → o ≡ None
absent-is o is = grind (arith, nat_tests)

-- The test says what it is named for.
pub absent-all : (f : Cells) (p n : ℕ) → AreAbsent f p (p + n) → are_absent f p n ≡ true
absent-all f p zero absent = refl
absent-all f p (suc n) absent = rw (absent p (omega arith) (omega arith)) (absent-all f (p + 1) n (λ q ge lt. absent q (omega arith) (omega arith)))

both : (b rest : Bool) → (not b && rest) ≡ true → (b ≡ false) × (rest ≡ true)
both b rest is = grind (arith, nat_tests)

pub all-absent : (f : Cells) (p n : ℕ) → are_absent f p n ≡ true → AreAbsent f p (p + n)
all-absent f p zero is q ge lt = absurd (omega arith)
all-absent f p (suc n) is q ge lt =
    let parts = both (is_some (f p)) (are_absent f (p + 1) n) is in
    elim (split p q) [
      | inl past ↦ all-absent f (p + 1) n parts.1 q (omega arith) (omega arith)
      | inr by ↦ let here : q ≡ p = omega arith in rw here (absent-is (f p) parts.0)
    ]

pub present-not : (f : Cells) (p n q : ℕ) → is_some (f q) ≡ true → p ≤ q → q < p + n → are_absent f p n ≡ false
present-not f p n q here ge lt = one-of (are_absent f p n) (λ is. let none = all-absent f p n is q ge lt in let never : false ≡ true = rw none at here in cc)

-- The next position tells it.
pub next-reports : (f : Cells) (p n m : ℕ) → IsNext f p (Some m) → nat_le (p + n) m ≡ are_absent f p n
next-reports f p n m next = search (arith, le_cases, absent-all, present-not)

pub on_err : {T E : Type 0} {P : Type 0} (r : Result T E) → P → OnErr r P
on_err (Ok v) p = tt
on_err (Err e) p = p

made-append : (f : Cells) (os more : List SparseOp) → cells_after f (os ++ more) ≡ cells_after (cells_after f os) more
made-append f [] more = refl
made-append f (o ∷ os) more = made-append (after o f) os more

answers-append : (f : Cells) (os : List SparseOp) (rest : List SparseAnswer) (o : SparseOp) (a : SparseAnswer) → AreAnswers f os rest →
    IsAnswer (cells_after f os) o a → AreAnswers f (os ++ o ∷ []) (rest ++ a ∷ [])
answers-append f [] [] o a are is = (is, tt)
answers-append f [] (b ∷ rest) o a are is = absurd are
answers-append f (p ∷ os) [] o a are is = absurd are
answers-append f (p ∷ os) (b ∷ rest) o a are is = (are.0, answers-append (after p f) os rest o a are.1 is)

pub one-more : (os : List SparseOp) (i : ℕ) (o : SparseOp) → i < length os → o ≡ get_or os i o → take (i + 1) os ≡ take i os ++ o ∷ []
one-more os i o lt is = rw (add-one i) (take-suc os i o lt ∙ ap (λ p. take i os ++ p ∷ []) (sym is))

pub made-more : (f g h : Cells) (os : List SparseOp) (o : SparseOp) → g ≡ cells_after f os → h ≡ after o g → h ≡ cells_after f (os ++ o ∷ [])
made-more f g h os o has makes = makes ∙ (ap (after o) has ∙ sym (made-append f os (o ∷ [])))

-- One operation more.
pub answered-more : (f g h : Cells) (os : List SparseOp) (rest : List SparseAnswer) (o : SparseOp) (a : SparseAnswer) → HasAnswered f g os rest →
    IsAnswer g o a → h ≡ after o g → HasAnswered f h (os ++ o ∷ []) (rest ++ a ∷ [])
answered-more f g h os rest o a has is makes = search (arith, answers-append, made-more)
