use Rattle.std.proofs.Common.{◌≡◌, ℕ, List, ◌++◌, drop}
use Rattle.hc_fields.specs.{FieldList.{IsListOf}, Lines.{fields_text}}
use Rattle.hc_image.proofs.record.skip_fields.Given as goal

abbrev pub invariant-loop : goal.invariant-loop
invariant-loop l = (fields : List (List ℕ × List ℕ)) (after : List ℕ) → IsListOf l.count fields → fields_text fields ++ after ≡ l.initial.rest →
    fields_text (drop l.counter fields) ++ after ≡ l.rest
