-- What the steps of reading say of their views.
use Rattle.std.{proofs.{lemmas.Bool.Decides.{nat_tests}, Common.{◌≡◌, ℕ, ◌≤◌, true, Option, refl, arith}}, specs.Prelude.{IsSome, IfSome}}
use Rattle.hc_text.proofs.Basics.{either}
use Rattle.hc_rules.specs.{declared.reading.ReadView.{ReadView}, Readings.{read_step, is_at_end, stored_or, held_or, fails_or, waits_or, opens}, Laws.{IsRightStep, StepsAreRight}}

at_end : (hi : Option ℕ) (offset : ℕ) → is_at_end hi offset ≡ true → IfSome hi (λ n. n ≤ offset) × IsSome hi
at_end hi offset h = grind (arith, nat_tests)

stored-right : (v : ReadView) (stored : Option ℕ) → v.stored ≡ stored →
    IsRightStep v (stored_or v.hi stored (held_or v.held (fails_or v.due (waits_or v.source (opens v)))))
stored-right v stored is = grind (arith, nat_tests)

pub steps-right : StepsAreRight
unfolding read_step
steps-right v = either (IsRightStep v) (is_at_end v.hi v.offset) _ _ (λ h. at_end v.hi v.offset h) (λ _. stored-right v v.stored refl)
