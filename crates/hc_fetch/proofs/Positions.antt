-- What is given agrees with what was gathered, and no byte of it is past 2^62.
--
-- A body has no byte at or past 2^62 where fewer were received (`below_most`). What an event gives is some bytes of the
-- body that was shown first, and so is what was gathered before: so both agree (`all_fit`).
use Rattle.std.{proofs.{Common.{◌≡◌, ◌≢◌, inl, inr, ℕ, ◌+◌, ◌-◌, ◌<◌, ◌≤◌, ◌^◌, List, [], ◌∷◌, length, true, Option, Some, None, refl, ap, sym, ◌∙◌, arith}, lemmas.Bool.{cases_lt}}, specs.Prelude.{if◌then◌else◌, ◌&&◌}}
use Rattle.hc_text.proofs.Basics.{not_some as none_some, some_inj}
use Rattle.hc_sparse.specs.Cells.{Cells, Cell, EndsBy, cells_with}
use Rattle.hc_effects.proofs.Vocabulary.{Act, Limits, may_begin, Entry, History, no_contents, Numbers, AreShort, Delivers, Says, body_of, direct_cell, cell_by, Tables, Exchange, Representation, IsRun, tables, act}
use Rattle.hc_model.specs.Numbers.{most}
use Rattle.hc_laws.proofs.{LawfulRuns.{lawful_in_runs}, NumberRuns.{numbers_in_runs}, ReadNext.{gives_next}, PlacesGiven.{answer_below}}
use Rattle.hc_fetch.specs.{declared.plan.FetchPlan.{FetchPlan}, Ahead.{Fit}, Gathering.{gathered}, Heads.{Head, first_head}, Hearing.{AllFit}, Laws.{IsFetchRun}}
use Rattle.hc_fetch.proofs.{Bodies.{before, earlier, run_on, gathered_there, gives_of, gives_none, goes_there}, Gathers.{Stands, GivesOf, one_stands}}

-- WHERE A BODY ENDS

by_exchange : (t : Tables) (r p : ℕ) (cell : Cell) (q : Option Exchange) → t.exchange r ≡ q → Numbers t → direct_cell r p q ≡ Some cell → p < most t
by_exchange t r p cell None row n is = absurd (none_some cell is)
by_exchange t r p cell (Some w) row n is = let under = answer_below r p w cell is in let le = n.fronts r w row in omega (arith, under, le)

by_row : (t : Tables) (r p : ℕ) (cell : Cell) (q : Option Representation) → t.representation r ≡ q → Numbers t →
    ((v : Representation) → t.representation r ≡ Some v → EndsBy v.reach v.body)
    → cell_by t r p q ≡ Some cell → p < most t
by_row t r p cell None row n ends is = by_exchange t r p cell (t.exchange r) refl n is
by_row t r p cell (Some v) row n ends is = elim (cases_lt p v.reach) [
  | inl under ↦ let le = n.reaches r v row in omega (arith, under, le)
  | inr past ↦ absurd (none_some cell (sym (ends v row p past) ∙ is))
]

pub below_most : (limits : Limits) (h : History) → may_begin limits no_contents ≡ true → AreShort no_contents → IsRun limits no_contents h →
    (tables no_contents h).received ≤ 2 ^ 62
    → (r p : ℕ) (cell : Cell) → body_of (tables no_contents h) r p ≡ Some cell → p < 2 ^ 62
below_most limits h may short run few r p cell is =
    let law = lawful_in_runs limits no_contents h may run in
    let numbers = numbers_in_runs limits no_contents h may short run in
    let under = by_row (tables no_contents h) r p cell ((tables no_contents h).representation r) refl numbers
    (λ v row. (law.sound.rows r v row).store.ends) is in
    omega (arith, under, few)

-- WHAT IS GIVEN

abbrev GivesSome : List Act → Type 0
GivesSome acts = (c x at : ℕ) (bytes : List ℕ) → Says (act.Given c x at bytes) acts → length bytes ≢ 0

module _ (t : Tables) (r : ℕ) (low : (p : ℕ) (cell : Cell) → body_of t r p ≡ Some cell → p < 2 ^ 62) where
  one_fits : (x at : ℕ) (bytes : List ℕ) (g : Cells) → length bytes ≢ 0 → Delivers t r at x bytes → Stands t r g → Fit g at bytes
  one_fits x at bytes g some given stand = record {
    below = (let last : length bytes - 1 < length bytes = omega (arith, some) in
        let under = low (at + (length bytes - 1)) _ (given (length bytes - 1) last) in
        omega (arith, under, some));
    same = λ i cell lt is. ap (λ (c : Cell). c.byte) (some_inj cell _ (sym (stand (at + i) cell is) ∙ given i lt));
  }

  fits : (acts : List Act) (g : Cells) → GivesSome acts → GivesOf t r acts → Stands t r g → AllFit acts g
  fits [] g some gives stand = tt
  fits (act.Given c x at bytes ∷ acts) g some gives stand =
      let given = gives c x at bytes (inl refl) in (
        one_fits x at bytes g (some c x at bytes (inl refl)) given stand,
        fits acts (cells_with at x bytes g) (λ d y to more says. some d y to more (inr says)) (λ d y to more says. gives d y to more (inr says))
            (one_stands t r x at bytes g given stand),
      )
  fits (a ∷ acts) g some gives stand = fits acts g (λ d y to more says. some d y to more (inr says)) (λ d y to more says. gives d y to more (inr says)) stand

module _ (limits : Limits) (plan : FetchPlan) (e : Entry) (f : History) (q : IsFetchRun limits plan (e ∷ f)) (short : AreShort no_contents)
    (few : (tables no_contents (before limits plan e f q)).received ≤ 2 ^ 62) where
  some_given : GivesSome e.acts
  some_given c x at bytes says = (gives_next limits no_contents (before limits plan e f q) e q.begins (run_on limits plan e f q) c x at bytes says).2.some

  low : (r p : ℕ) (cell : Cell) → body_of (tables no_contents (before limits plan e f q)) r p ≡ Some cell → p < 2 ^ 62
  low = below_most limits (before limits plan e f q) q.begins short (run_on limits plan e f q).0 few

  by_first : (was : Rattle.std.specs.Prelude.Option Head) → first_head f ≡ was → AllFit e.acts (gathered f)
  by_first None is =
      let so_far = (gathered_there limits plan f (earlier limits plan e f q)).none is 0 in
      fits (tables no_contents (before limits plan e f q)) 0 (low 0) e.acts (gathered f) some_given (gives_none limits plan e f q is 0)
      (goes_there limits plan e f q 0 (gathered f) so_far)
  by_first (Some head) is =
      let so_far = (gathered_there limits plan f (earlier limits plan e f q)).there head is in
      fits (tables no_contents (before limits plan e f q)) head.r (low head.r) e.acts (gathered f) some_given (gives_of limits plan e f q head is)
      (goes_there limits plan e f q head.r (gathered f) so_far)

  pub all_fit : AllFit e.acts (gathered f)
  all_fit = by_first (first_head f) refl
