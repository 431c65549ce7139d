use Rattle.std.proofs.Common.{◌≡◌, ℕ, ◌≤◌, List, [], ◌∷◌, length, get_or, Option, Some, None, IfSome, IfNone, arith}
use Rattle.hc_text.specs.Numbers.{IsPlain, IsNumber}
use Rattle.hc_text.proofs.{NumberLemmas.{IsNumber-plain, IsPlain-number, plain_first}, number.read_plain.Goals.{else-text-gt1-via-then-text-gt1+else-text-eq48, else-text-gt1-via-else-text-gt1}}
use Rattle.hc_text.proofs.number.read_plain.Goals as goal

one_byte : (text : List ℕ) → length text ≤ 1 → get_or text 0 0 ≡ 48 → length text ≡ 1
one_byte [] short zero = absurd (omega arith)
one_byte (c ∷ cs) short zero = omega arith

plain_found : (text : List ℕ) (r : Option ℕ) → (get_or text 0 0 ≡ 48 → length text ≡ 1) → IfSome r (IsNumber text) → IfSome r (IsPlain text)
plain_found text None first h = tt
plain_found text (Some n) first h = IsPlain-number text n h first

plain_none : (text : List ℕ) (r : Option ℕ) → IfNone r ((n : ℕ) → ¬ (IsNumber text n)) → IfNone r ((n : ℕ) → ¬ (IsPlain text n))
plain_none text None h = λ n p. h n (IsNumber-plain text n p)
plain_none text (Some n) h = tt

pub returns-then-text-eq48-clause-none : goal.returns-then-text-eq48-clause-none
returns-then-text-eq48-clause-none c = λ n h. let one = plain_first c.args.text.now n h c.if-text-eq48.true in absurd (omega arith)

pub returns-clause-found : goal.returns-clause-found
returns-clause-found c =
    plain_found c.args.text.now c.read_number.result
    (elim c.else-text-gt1.branch [
      | else-text-gt1-via-then-text-gt1+else-text-eq48 w ↦ λ e. absurd (w.if-text-eq48.false e)
      | else-text-gt1-via-else-text-gt1 w ↦ one_byte c.args.text.now w.if-text-gt1.false
    ])
    c.read_number.ensures.found

pub returns-clause-none : goal.returns-clause-none
returns-clause-none c = plain_none c.args.text.now c.read_number.result c.read_number.ensures.none
