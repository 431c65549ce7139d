-- What runs that are put one after another leave, and of what kind that is.
--
-- Runs that ascend don't overlap, so at each position stands the byte of the run that has it (`runs_cells`). They reach
-- to the last end (`runs_reach`), and nothing else of an entry changes (`runs_rest`). The kind has the work. It depends
-- on where they end and how many bytes they have, so contents say it right (`kind_begun`). What is called whole covers
-- its length (`whole_begun`). `BegunItems`, `BegunRows` and `Likewise` use these.
use Rattle.std.{proofs.{Common.{◌≡◌, ◌⊎◌, inl, inr, ℕ, ◌+◌, ◌-◌, ◌<◌, ◌≤◌, max, List, [], ◌∷◌, ◌++◌, length, Bool, true, Option, Some, None, refl, ap, sym, ◌∙◌, arith}, lemmas.Bool.Decides.{nat_tests}}, specs.{Prelude.{is_some, nat_le, nat_lt, ◌==◌, ◌&&◌, if◌then◌else◌}, Option.{option_or}}}
use Rattle.hc_text.proofs.Basics.{and_left, and_right, false_true}
use Rattle.hc_sparse.specs.{Cells.{Cells, Covers, size_below}, Runs.{cells_of, end_of}, declared.run.Run.{Run}}
use Rattle.hc_sparse.proofs.CellLemmas.{inside-cases, inside-before}
use Rattle.hc_record.specs.declared.kind.Kind.{Kind, TheVariants.{the_data as kind}}
use Rattle.hc_stored.specs.{Begun.{with_runs}, Kept.{Kept, kept_with_bytes}}
use Rattle.hc_effects.proofs.Vocabulary.{ascend_from, kind_of_runs, same_kind, is_kind_right, runs_from, Content, Contents, covers, kind_of, is_prefix, last_end, bytes_in, representation_of_content}
use Rattle.hc_model.specs.Kinds as kinds
use Rattle.hc_model.specs.Tables as tables
use Rattle.hc_laws.proofs.{Begins.{ends_all}, KindsLeft.{kind_by, kind_right, count_is, last_is}, Positions.{bytes_below, before_run}}
use Rattle.hc_effects.proofs.HoleLemmas.{covers_all}

-- ONE AFTER ANOTHER

pub runs_cells : (n x p : ℕ) (runs : List Run) (k : Kept) → ascend_from n x runs ≡ true → (with_runs runs k).cells p ≡ option_or (cells_of runs p) (k.cells p)
runs_cells n x p [] k good = refl
runs_cells n x p (run ∷ runs) k good =
    let later : ascend_from (end_of run) run.x runs ≡ true = and_right _ _ good in
    runs_cells (end_of run) run.x p runs (kept_with_bytes run.at run.x run.bytes None k) later ∙ elim (inside-cases run.at (length run.bytes) p) [
      | inl here ↦ rw (here.0, before_run (end_of run) run.x p runs later here.2) refl
      | inr off ↦ rw off.0 refl
    ]

pub runs_reach : (runs : List Run) (k : Kept) → (with_runs runs k).reach ≡ max k.reach (last_end runs)
runs_reach [] k = omega arith
runs_reach (run ∷ runs) k =
    runs_reach runs (kept_with_bytes run.at run.x run.bytes None k) ∙ turned k.reach (end_of run) (last_end runs)
  where
    turned : (a b c : ℕ) → max (max a b) c ≡ max a (max b c)
    turned a b c = omega arith

-- all else stays
pub runs_rest : (runs : List Run) (k : Kept) → with_runs runs k ≡ record k { cells = (with_runs runs k).cells; reach = (with_runs runs k).reach }
runs_rest [] k = refl
runs_rest (run ∷ runs) k = runs_rest runs (kept_with_bytes run.at run.x run.bytes None k)

-- one more
pub runs_more : (runs : List Run) (run : Run) (k : Kept) → with_runs (runs ++ run ∷ []) k ≡ kept_with_bytes run.at run.x run.bytes None (with_runs runs k)
runs_more [] run k = refl
runs_more (first ∷ runs) run k = runs_more runs run (kept_with_bytes first.at first.x first.bytes None k)

-- THEIR KIND

-- the last position before their end is there
tight : (n x m : ℕ) (runs : List Run) → ascend_from n x runs ≡ true → last_end runs ≡ m + 1 → is_some (cells_of runs m) ≡ true
tight n x m [] good end = absurd (omega arith)
tight n x m (run ∷ runs) good end =
    let later : ascend_from (end_of run) run.x runs ≡ true = and_right _ _ good in
    let some_test : nat_lt 0 (length run.bytes) ≡ true = and_right _ _ (and_left _ _ (and_left _ _ good)) in
    let some : 0 < length run.bytes = grind (arith, nat_tests) in
    elim (inside-cases run.at (length run.bytes) m) [
      | inl here ↦ rw here.0 refl
      | inr off ↦ rw off.0 (tight (end_of run) run.x m runs later (last_is_end some off.1))
    ]
  where
    last_is_end : 0 < length run.bytes → (m < run.at) ⊎ (run.at + length run.bytes ≤ m) → last_end runs ≡ m + 1
    last_is_end some before_or_past = grind (arith, nat_tests)

same_kind_is : (a b : Kind) → same_kind a b ≡ true → a ≡ b
same_kind_is a b h = grind (arith, nat_tests)

-- the kind tells no more of runs than where they end, and how many bytes they have
by_extent : (runs others : List Run) (total : ℕ) → last_end runs ≡ last_end others → bytes_in runs ≡ bytes_in others →
    kind_of_runs runs total ≡ kind_of_runs others total
by_extent runs others total end count = rw (end, count) refl

whole_by : (complete front : Bool) → kind_by complete front ≡ kind.Whole → complete ≡ true
whole_by complete front is = grind (arith, nat_tests)

module _ (item : Content) (ascends : ascend_from 0 0 item.runs ≡ true) where
  abbrev cells : Cells
  cells = cells_of item.runs

  abbrev reach : ℕ
  reach = last_end item.runs

  reported_by : (o : Option ℕ) → is_kind_right item o ≡ true →
      kind_by (kinds.covers_all (representation_of_content item) o) (is_prefix (representation_of_content item)) ≡ item.head.kind
  reported_by None right = false_true right
  reported_by (Some total) right =
      let test : nat_le reach total ≡ true = and_left _ _ right in
      let within : reach ≤ total = grind (arith, nat_tests) in
      let ends = ends_all item.runs in
      let last = λ (m : ℕ) (end : reach ≡ m + 1). tight 0 0 m item.runs ascends end in
      let count : bytes_in item.runs ≡ size_below cells reach = bytes_below 0 0 item.runs ascends in
      same_kind_is _ _ (kind_right cells reach total ends last within (bytes_in item.runs) count)
      ∙ (by_extent (runs_from cells 0 reach) item.runs total (last_is cells reach total ends last within)
      (count_is cells reach total ends last within ∙ sym count)
      ∙ sym (same_kind_is _ _ (and_right _ _ right)))

  module _ (right : is_kind_right item item.head.total ≡ true) where
    -- a good item is of the kind that it tells
    pub kind_begun : (contents : Contents) (r : ℕ) → kind_of (tables.first_tables contents) r (representation_of_content item) ≡ item.head.kind
    unfolding kind_of
    kind_begun contents r = reported_by item.head.total right

    -- what is called whole is
    pub whole_begun : (n : ℕ) → item.head.kind ≡ kind.Whole → item.head.total ≡ Some n → Covers cells 0 n
    whole_begun n is total =
        covers_all cells reach 0 n
        (whole_by (covers cells reach 0 n) (is_prefix (representation_of_content item))
        (reported_by (Some n) (ap (is_kind_right item) (sym total) ∙ right) ∙ is))
