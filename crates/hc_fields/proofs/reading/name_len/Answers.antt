use Rattle.std.proofs.Common.{ℕ, Bool, not, ap, sym, ◌∙◌, arith}
use Rattle.hc_fields.specs.Lines.{is_lower_byte}
use Rattle.hc_fields.proofs.FirstBytes.{position-none, position-some}
use Rattle.hc_fields.proofs.reading.name_len.Goals as goal

abbrev ends : ℕ → Bool
ends b = not (is_lower_byte b)

pub returns : goal.returns
returns c = position-none ends c.args.text.now (λ k lt. ap not (c.loop-i.invariant k (omega (arith, lt))))

pub returns-then-not-is_lower_char : goal.returns-then-not-is_lower_char
returns-then-not-is_lower_char c =
    position-some ends c.args.text.now c.loop-i.i c.loop-i-test.true (λ k lt. ap not (c.loop-i.invariant k lt))
    (ap not (sym c.is_lower_char.ensures ∙ c.if-not-is_lower_char.true))
