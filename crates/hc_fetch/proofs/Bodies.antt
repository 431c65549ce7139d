-- What a fetch writes is the body that its first consumer was shown.
--
-- What an event gives is next in what its consumer was shown before, which is of the representation that was shown
-- first (`gives_of`). Bodies only grow, also by the fetch's own starts (`goes_behind`). So all that is gathered stands
-- in that body, by induction over the events (`gathered_there`); nothing is gathered before the first head.
use Rattle.std.{proofs.Common.{◌≡◌, ℕ, zero, suc, ◌+◌, ◌<◌, List, [], ◌∷◌, ◌++◌, length, true, Option, Some, None, refl, ap, sym, ◌∙◌, subst, arith}, specs.{Prelude.{slice_index}, Option.{option_or}}}
use Rattle.hc_text.proofs.Basics.{not_some as none_some, some_inj}
use Rattle.hc_sparse.specs.Cells.{Cells, Cell}
use Rattle.hc_effects.proofs.Vocabulary.{act, Limits, may_begin, Entry, History, no_contents, shown_of, Delivers, Says, body_of, Tables, IsRun, tables}
use Rattle.hc_model.specs.Laws.{Grows}
use Rattle.hc_effects.proofs.{Basics.{append_none}, Runs.{by_later_entries}}
use Rattle.hc_laws.proofs.{GrowsInRuns.{bodies_grow_in_runs}, ReadNext.{gives_next}}
use Rattle.hc_fetch.specs.{declared.plan.FetchPlan.{FetchPlan}, Fetches.{started, starts_behind, cache_history}, Gathering.{gathered, given_end, written_of}, Heads.{Head, heads_in, first_in, first_head}, Laws.{IsFetchRun, WritesTheBody, WritesOn}}
use Rattle.hc_fetch.proofs.{Shows.{IsFirst, reads_first, was_undecided}, Gathers.{Stands, GivesOf, IsPartOf, gathers_there, gathers_on, writes_on, written_held}}

-- RUNS

pub run_before : (limits : Limits) (xs h : History) → IsRun limits no_contents (xs ++ h) → IsRun limits no_contents h
run_before limits [] h run = run
run_before limits (x ∷ xs) h run = run_before limits xs h run.0

pub run_of_started : (limits : Limits) (plan : FetchPlan) (now : ℕ) (h : History) → IsRun limits no_contents (started plan now h) → IsRun limits no_contents h
run_of_started limits plan now [] run = tt
run_of_started limits plan now (e ∷ h) run = run

-- a byte that stands in a body stays there
cell_grows : (old new : Tables) → Grows old new → (r p : ℕ) (cell : Cell) → body_of old r p ≡ Some cell → body_of new r p ≡ Some cell
cell_grows old new grow r p cell is =
    let place : p + 0 ≡ p = omega arith in
    subst (λ (q : ℕ). body_of new r q ≡ Some cell) place
    (grow r p cell.x (cell.byte ∷ []) (λ k below. one k below) 0 (omega arith))
  where
    one : (k : ℕ) → k < length (cell.byte ∷ []) → body_of old r (p + k) ≡ Some (record { byte = slice_index (cell.byte ∷ []) k; x = cell.x })
    one zero below = let place : p + 0 ≡ p = omega arith in rw place is
    one (suc k) below = absurd (omega arith)

abbrev Goes : History → History → Type 0
Goes h k = (r : ℕ) (f : Cells) → Stands (tables no_contents h) r f → Stands (tables no_contents k) r f

one_goes : (limits : Limits) → may_begin limits no_contents ≡ true → (e : Entry) (h : History) → IsRun limits no_contents (e ∷ h) → Goes h (e ∷ h)
one_goes limits may e h run r f stand p cell is =
    cell_grows (tables no_contents h) (tables no_contents (e ∷ h)) (bodies_grow_in_runs limits no_contents may h e run) r p cell (stand p cell is)

all_go : (limits : Limits) → may_begin limits no_contents ≡ true → (xs h : History) → IsRun limits no_contents (xs ++ h) → Goes h (xs ++ h)
all_go limits may xs h run r f stand =
    by_later_entries limits no_contents (λ h. Stands (tables no_contents h) r f) (λ h e run before. one_goes limits may e h run r f before) xs h run stand

started_goes : (limits : Limits) → may_begin limits no_contents ≡ true → (plan : FetchPlan) (now : ℕ) (h : History) →
    IsRun limits no_contents (started plan now h) → Goes h (started plan now h)
started_goes limits may plan now [] run r f stand = one_goes limits may _ [] run r f stand
started_goes limits may plan now (e ∷ h) run r f stand = stand

-- ONE EVENT

module _ (limits : Limits) (plan : FetchPlan) (e : Entry) (f : History) (q : IsFetchRun limits plan (e ∷ f)) where
  abbrev pub before : History
  before = started plan e.now (cache_history plan f)

  pub run_on : IsRun limits no_contents (e ∷ before)
  run_on = run_before limits (starts_behind plan f e) (e ∷ before) q.run

  pub earlier : IsFetchRun limits plan f
  earlier = record {
    begins = q.begins;
    run = run_of_started limits plan e.now (cache_history plan f) run_on.0;
    undecided_before = was_undecided plan f q.undecided_before;
  }

  -- who is given bytes was shown the representation that was shown first
  pub record IsGiven (c x at : ℕ) (bytes : List ℕ) : Type 0 where
    pub head : Head
    pub first : first_head f ≡ Some head
    pub delivered : Delivers (tables no_contents before) head.r at x bytes

  given : (c x at : ℕ) (bytes : List ℕ) → Says (act.Given c x at bytes) e.acts → IsGiven c x at bytes
  given c x at bytes says =
      let next = gives_next limits no_contents before e q.begins run_on c x at bytes says in
      let first : IsFirst (first_head f) next.0.r = reads_first plan e.now c f next.0 q.undecided_before (sym (append_none (shown_of c before)) ∙ next.1) in
      record {
        head = first.head;
        first = first.is;
        delivered = subst (λ (r : ℕ). Delivers (tables no_contents before) r at x bytes) (sym first.of) next.2.delivered;
      }

  pub gives_of : (head : Head) → first_head f ≡ Some head → GivesOf (tables no_contents before) head.r e.acts
  gives_of head is c x at bytes says =
      let g = given c x at bytes says in
      let same : g.head ≡ head = some_inj g.head head (sym g.first ∙ is) in
      subst (λ (z : Head). Delivers (tables no_contents before) z.r at x bytes) same g.delivered

  -- nothing is given before the first head
  pub gives_none : first_head f ≡ None → (r : ℕ) → GivesOf (tables no_contents before) r e.acts
  gives_none none r c x at bytes says = let g = given c x at bytes says in absurd (none_some g.head (sym none ∙ g.first))

  pub goes_there : Goes (cache_history plan f) before
  goes_there = started_goes limits q.begins plan e.now (cache_history plan f) run_on.0

  pub goes_behind : Goes before (cache_history plan (e ∷ f))
  goes_behind r g stand = all_go limits q.begins (starts_behind plan f e) (e ∷ before) q.run r g (one_goes limits q.begins e before run_on r g stand)

-- ALL EVENTS

-- what is gathered stands in the body that was shown first; before that nothing is gathered
pub record IsGathered (plan : FetchPlan) (f : History) : Type 0 where
  pub there : (head : Head) → first_head f ≡ Some head → Stands (tables no_contents (cache_history plan f)) head.r (gathered f)
  pub none : first_head f ≡ None → (r : ℕ) → Stands (tables no_contents (cache_history plan f)) r (gathered f)

gathered_more : (limits : Limits) (plan : FetchPlan) (e : Entry) (f : History) → IsFetchRun limits plan (e ∷ f) → IsGathered plan f →
    (was : Option Head) → first_head f ≡ was
    → (r : ℕ) → ((head : Head) → was ≡ Some head → head.r ≡ r) → Stands (tables no_contents (cache_history plan (e ∷ f))) r (gathered (e ∷ f))
gathered_more limits plan e f q so_far None is r of =
    goes_behind limits plan e f q r (gathered (e ∷ f))
    (gathers_there (tables no_contents (before limits plan e f q)) r e.acts (gathered f) (gives_none limits plan e f q is r)
    (goes_there limits plan e f q r (gathered f) (so_far.none is r)))
gathered_more limits plan e f q so_far (Some head) is r of =
    let there = goes_there limits plan e f q head.r (gathered f) (so_far.there head is) in
    subst (λ (z : ℕ). Stands (tables no_contents (cache_history plan (e ∷ f))) z (gathered (e ∷ f))) (of head refl)
    (goes_behind limits plan e f q head.r (gathered (e ∷ f))
    (gathers_there (tables no_contents (before limits plan e f q)) head.r e.acts (gathered f) (gives_of limits plan e f q head is) there))

first_stays : (was more : Option Head) (head now : Head) → option_or was more ≡ Some now → was ≡ Some head → head.r ≡ now.r
first_stays None more head now is was_is = absurd (none_some head was_is)
first_stays (Some z) more head now is was_is = ap (λ (q : Head). q.r) (some_inj head now (sym was_is ∙ is))

first_none : (was more : Option Head) (head : Head) (r : ℕ) → option_or was more ≡ None → was ≡ Some head → head.r ≡ r
first_none None more head r is was_is = absurd (none_some head was_is)
first_none (Some z) more head r is was_is = absurd (none_some z (sym is))

pub gathered_there : (limits : Limits) (plan : FetchPlan) (f : History) → IsFetchRun limits plan f → IsGathered plan f
gathered_there limits plan [] q = record {
  there = λ head is. absurd (none_some head is);
  none = λ is r p cell none. absurd (none_some cell none);
}
gathered_there limits plan (e ∷ f) q =
    let so_far = gathered_there limits plan f (earlier limits plan e f q) in
    record {
      there = λ head is. gathered_more limits plan e f q so_far (first_head f) refl head.r
          (λ z was. first_stays (first_head f) (first_in (heads_in e.acts)) z head is was);
      none = λ is r. gathered_more limits plan e f q so_far (first_head f) refl r (λ z was. first_none (first_head f) (first_in (heads_in e.acts)) z r is was);
    }

-- THE LAWS

pub writes_the_body : WritesTheBody
unfolding written_of
writes_the_body limits plan f q head is =
    written_held (tables no_contents (cache_history plan f)) head.r (gathered f) 0 (given_end f) ((gathered_there limits plan f q).there head is)

gathered_stays : (limits : Limits) (plan : FetchPlan) (e : Entry) (f : History) → IsFetchRun limits plan (e ∷ f) → (was : Option Head) →
    first_head f ≡ was → IsPartOf (gathered f) (gathered (e ∷ f))
gathered_stays limits plan e f q None is =
    let so_far = gathered_there limits plan f (earlier limits plan e f q) in
    gathers_on (tables no_contents (before limits plan e f q)) 0 e.acts (gathered f) (gives_none limits plan e f q is 0)
    (goes_there limits plan e f q 0 (gathered f) (so_far.none is 0))
gathered_stays limits plan e f q (Some head) is =
    let so_far = gathered_there limits plan f (earlier limits plan e f q) in
    gathers_on (tables no_contents (before limits plan e f q)) head.r e.acts (gathered f) (gives_of limits plan e f q head is)
    (goes_there limits plan e f q head.r (gathered f) (so_far.there head is))

pub writes_on_with_more : WritesOn
unfolding written_of
writes_on_with_more limits plan e f q =
    writes_on (gathered f) (gathered (e ∷ f)) 0 (given_end f) (given_end (e ∷ f)) (gathered_stays limits plan e f q (first_head f) refl) (omega arith)
