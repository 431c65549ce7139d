-- The length of a whole that a head tells is below 2^62.
use Rattle.std.{proofs.{Common.{◌≡◌, ℕ, ◌<◌, ◌^◌, ◌==◌, List, Bool, true, false, Option, Some, None, refl, ap, sym, ◌∙◌, arith}, lemmas.Bool.Decides.{nat_tests}}, specs.Prelude.{if◌then◌else◌, nat_lt}}
use Rattle.hc_range.specs.declared.range.ContentRange.{ContentRange, TheVariants.{Part, Unsatisfied}}
use Rattle.hc_effects.proofs.Vocabulary.{content_range_of}
use Rattle.hc_effects.proofs.ReportedNumbers.{range_early}
use Rattle.hc_fetch.specs.{declared.{ended.FetchEnded.{FetchEnded}, first.First.{First}}, Bounds.{is_short}, Firsts.{total_in, total_to_start}, Heads.{Head, total_of, total_by}}
use Rattle.hc_fetch.proofs.Going.{none_to_start}

by_part : (fields : List (List ℕ × List ℕ)) (first last : ℕ) (total : Option ℕ) → content_range_of fields ≡ Some (Part first last total) → is_short total ≡ true
by_part fields first last None is = refl
by_part fields first last (Some n) is =
    let small : n < 2 ^ 62 = (range_early (record { status = 206; fields = fields }) (Part first last (Some n)) is).2 n refl in
    grind (arith, nat_tests, small)

by_range : (fields : List (List ℕ × List ℕ)) (q : Option ContentRange) → content_range_of fields ≡ q → is_short (total_by q) ≡ true
by_range fields None is = refl
by_range fields (Some (Part first last total)) is = by_first (first == 0)
  where
    by_first : (b : Bool) → is_short (if b then total else None) ≡ true
    by_first true = by_part fields first last total is
    by_first false = refl
by_range fields (Some (Unsatisfied total)) is = refl

pub short_total : (head : Head) → is_short (total_of head) ≡ true
short_total head = by_status (head.status == 206)
  where
    by_status : (b : Bool) → is_short (if b then total_by (content_range_of head.fields) else None) ≡ true
    by_status true = by_range head.fields (content_range_of head.fields) refl
    by_status false = refl

pub short_start : (was : Bool) (decides : Option FetchEnded) (first : Option First) (total : ℕ) → Some total ≡ total_to_start was decides first →
    is_short (total_in first) ≡ true → total < 2 ^ 62
short_start was decides first total is short =
    let same : is_short (total_in first) ≡ nat_lt total (2 ^ 62) = ap is_short (none_to_start was decides first total is).1 in
    let under : nat_lt total (2 ^ 62) ≡ true = sym same ∙ short in
    grind (arith, nat_tests, under)
