-- What is current may be let go, also once an exchange is opened, or a consumer stands where it waits for no body.
use Rattle.std.{proofs.Common.{◌≡◌, inl, inr, ℕ, true, false, Option, Some, refl, ap, sym, ◌∙◌}, specs.Prelude.{is_some}}
use Rattle.hc_text.proofs.Basics.{eqb-other, eqb-same, false_true, same_or, some_inj as some_is}
use Rattle.hc_effects.proofs.Vocabulary.{place, with_consumer, with_opening, MayLetGo, WaitsOn, has_passed, Tables, Exchange, Consumer}

pub may_opened : (t : Tables) (x : ℕ) (z : Exchange) → MayLetGo t → MayLetGo (with_opening x z t)
may_opened t x z may = record {
  one_current = may.one_current;
  founded = may.founded;
  started = may.started;
  waits = λ d q how j row at. let w = may.waits d q how j row at in
      record { v = w.v; row = w.row; key_is = w.key_is; not_gone = w.not_gone; queues = w.queues };
}

pub may_with : (t : Tables) (c : ℕ) (v w : Consumer) → t.consumer c ≡ Some v → has_passed w.place ≡ false → MayLetGo t → MayLetGo (with_consumer c (Some w) t)
may_with t c v w row unpassed may = record {
  one_current = may.one_current;
  founded = may.founded;
  started = λ d there. may.started d (there_too d there);
  waits = λ d q how j at_row at. elim (same_or c d) [
    | inl e ↦ (let itself : w ≡ j = some_is w j (sym (rw (← e, eqb-same c) refl) ∙ at_row) in never q how (ap (λ (z : Consumer). z.place) itself ∙ at))
    | inr ne ↦ still d q how j ne (sym (rw (eqb-other c d ne) refl) ∙ at_row) at
  ];
}
  where
    never : {P : Type 0} (q : ℕ) (how : Option ℕ) → w.place ≡ place.Passed q how → P
    never q how at = false_true (sym unpassed ∙ ap has_passed at)

    still : (d q : ℕ) (how : Option ℕ) (j : Consumer) → (c ≡ d → ⊥) → t.consumer d ≡ Some j → j.place ≡ place.Passed q how →
        WaitsOn (with_consumer c (Some w) t) q j
    still d q how j ne row_j at = let s = may.waits d q how j row_j at in
        record { v = s.v; row = s.row; key_is = s.key_is; not_gone = s.not_gone; queues = s.queues }

    there_too : (d : ℕ) → is_some ((with_consumer c (Some w) t).consumer d) ≡ true → is_some (t.consumer d) ≡ true
    there_too d there = elim (same_or c d) [
      | inl e ↦ rw (← e, row) refl
      | inr ne ↦ (rw (eqb-other c d ne) at there)
    ]
