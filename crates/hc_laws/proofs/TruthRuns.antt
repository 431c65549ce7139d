-- What is called truncated is some first bytes, since as many bytes are stored as positions: records are truthful in
-- every run.
use Rattle.std.{proofs.{Common.{◌≡◌, inl, inr, ℕ, ◌≤◌, true, Bool, cond, Option, None, sym, arith}, lemmas.Bool.Decides.{nat_tests}}, specs.Prelude.{is_some, nat_lt}}
use Rattle.hc_text.proofs.Basics.{and_left, and_right as and_then, bool_cases}
use Rattle.hc_record.specs.declared.kind.Kind.TheVariants as kind
use Rattle.hc_sparse.specs.Cells.{Cell, Covers, size_below}
use Rattle.hc_effects.proofs.Vocabulary.{kind_of, is_growing, is_complete, is_prefix, OfRuns, Representation, IsStored, tables}
use Rattle.hc_model.specs.Laws.{IsPrefix, IsTruthful, TruncatedIsPrefix}
use Rattle.hc_effects.proofs.HoleLemmas.{covers_all}
use Rattle.hc_laws.proofs.{Positions.{no_other_below}, SizesKeep.{sizes_in_runs}, SoundRuns.{runs_are_sound}, Truthful.{whole_is}}

front_by : (growing complete front : Bool) →
    (cond growing kind.Growing (cond complete kind.Whole (cond front kind.Truncated kind.Ranges))) ≡ kind.Truncated → front ≡ true
front_by growing complete front h = grind (arith, nat_tests)

none_by : (o : Option Cell) → (is_some o ≡ true → ⊥) → o ≡ None
none_by o h = grind (arith, nat_tests)

-- behind the reach nothing is stored
behind_reach : (v : Representation) (p : ℕ) → IsStored v → v.reach ≤ p → is_some (v.stored p) ≡ true → ⊥
behind_reach v p store le there = grind (arith, nat_tests)

front_of : (v : Representation) → IsStored v → v.size ≡ size_below v.stored v.reach → is_prefix v ≡ true → IsPrefix v
front_of v store count h =
    let all : Covers v.stored 0 v.size = covers_all v.stored v.reach 0 v.size (and_then (nat_lt 0 v.size) _ h) in (
      v.size,
      (let test : nat_lt 0 v.size ≡ true = and_left _ _ h in grind (arith, nat_tests)),
      all,
      λ p le. none_by (v.stored p) (λ there. elim (bool_cases (nat_lt p v.reach)) [
        | inl within ↦ no_other_below v.stored v.size p v.reach all (sym count) le (grind (arith, nat_tests)) there
        | inr past ↦ behind_reach v p store (grind (arith, nat_tests)) there
      ]),
    )

pub truncated_is : TruncatedIsPrefix
unfolding kind_of
truncated_is t s key r v is row count found = front_of v (s.rows r v row).store count (front_by (is_growing t r) (is_complete v) (is_prefix v) cc)

-- Records are truthful in every run.
pub truth_in_runs : OfRuns IsTruthful
truth_in_runs limits contents h may run =
    let t = tables contents h in
    record {
      whole = whole_is t;
      truncated = λ key r v is row kind. truncated_is t (runs_are_sound limits contents h may run) key r v is row
          ((sizes_in_runs limits contents h may run).counted r v row) kind;
    }
