-- The parts that a cursor takes.
use Rattle.std.{proofs.{Common.{◌≡◌, ◌≢◌, ℕ, false, List, ◌++◌, take, Option, Some, None, refl, sym, ap, ◌∙◌}, lemmas.{Bool.{both_ways}, Option.{same_Some}, Slice.Eq.{bytes_eq-Decides}, List.{take_at}}}, specs.Prelude.{replicate, bytes_eq}}
use Rattle.hc_text.specs.Numbers.{IsNumber}
use Rattle.hc_record.specs.Lines.{IsSmall, IsSmallTotal, total_text}
use Rattle.hc_record.proofs.Totals.{length-total_text, IsNumber-total}

-- the first 20 bytes are no total
pub no_total : (text : List ℕ) → ((total : Option ℕ) → IsSmallTotal total → total_text total ≢ take 20 text) → (total : Option ℕ) (after : List ℕ) →
    IsSmallTotal total → total_text total ++ after ≢ text
no_total text none total after small same =
    none total small (sym (take_at (total_text total) after 20 (length-total_text total small)) ∙ ap (take 20) same)

-- 20 bytes that are neither hyphens nor a number are no total
pub no_total_text : (text hyphens : List ℕ) → hyphens ≡ replicate 20 45 → false ≡ bytes_eq text hyphens → ((n : ℕ) → ¬ (IsNumber text n)) →
    (total : Option ℕ) → IsSmallTotal total → total_text total ≢ text
no_total_text text hyphens is differs none None small same =
    both_ways _ (sym differs) ((bytes_eq-Decides text hyphens).1 (sym same ∙ sym is))
no_total_text text hyphens is differs none (Some n) small same = none n (IsNumber-total n text (small n refl) same)

pub small_total : (n : ℕ) → IsSmall n → IsSmallTotal (Some n)
small_total n small = λ x e. rw (← same_Some n x e) small
