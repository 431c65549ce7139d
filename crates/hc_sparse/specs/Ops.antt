-- What a list of operations makes of sparse bytes, and what it is answered.
use Rattle.std.specs.Prelude.{◌≡◌, ℕ, zero, suc, ◌+◌, ◌<◌, ◌≤◌, ◌^◌, List, [], ◌∷◌, length, Bool, true, false, not, is_some, if◌then◌else◌, ◌&&◌}
use Rattle.hc_sparse.specs.Cells.{Cells, cells_with, IsNext}
use Rattle.hc_sparse.specs.Stretch.{stretch}
use Rattle.hc_sparse.specs.declared.ops.SparseOp.{SparseOp}
use Rattle.hc_sparse.specs.declared.ops.SparseOp.TheVariants as op
use Rattle.hc_sparse.specs.declared.ops.SparseAnswer.{SparseAnswer}
use Rattle.hc_sparse.specs.declared.ops.SparseAnswer.TheVariants as answer

-- Whether nothing is at so many positions from one on.
abbrev pub are_absent : Cells → ℕ → ℕ → Bool
are_absent f p zero = true
are_absent f p (suc n) = not (is_some (f p)) && are_absent f (p + 1) n

-- A put ends by 2^62, and a read wants something.
abbrev pub IsAllowed : SparseOp → Type 0
IsAllowed (op.Put from x bytes) = from + length bytes ≤ 2 ^ 62
IsAllowed (op.RunAt p want) = 0 < want
IsAllowed (op.Next p) = Unit {0}

-- What an operation makes: a put at absent positions writes, and nothing else changes anything.
abbrev pub after : SparseOp → Cells → Cells
after (op.Put from x bytes) f = if are_absent f from (length bytes) then cells_with from x bytes f else f
after _ f = f

-- What operations make, one after another.
abbrev pub cells_after : Cells → List SparseOp → Cells
cells_after f [] = f
cells_after f (o ∷ os) = cells_after (after o f) os

-- What an operation is answered.
abbrev pub IsAnswer : Cells → SparseOp → SparseAnswer → Type 0
IsAnswer f (op.Put from x bytes) answer.Done = are_absent f from (length bytes) ≡ true
IsAnswer f (op.Put from x bytes) answer.Taken = are_absent f from (length bytes) ≡ false
IsAnswer f (op.RunAt p want) (answer.Run run) = run ≡ stretch f p want
IsAnswer f (op.Next p) (answer.Next next) = IsNext f p next
IsAnswer f _ _ = ⊥

-- What operations are answered, one after another.
abbrev pub AreAnswers : Cells → List SparseOp → List SparseAnswer → Type 0
AreAnswers f [] [] = Unit {0}
AreAnswers f (o ∷ os) (a ∷ rest) = IsAnswer f o a × AreAnswers (after o f) os rest
AreAnswers f _ _ = ⊥

-- The answers are those of the operations, which have made all that they make.
pub record HasAnswered (before after_all : Cells) (ops : List SparseOp) (answers : List SparseAnswer) : Type 0 where
  pub answers_are : AreAnswers before ops answers
  pub makes : after_all ≡ cells_after before ops
