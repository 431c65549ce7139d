-- The first consumer is alone before its first head, and what that tells.
--
-- At the beginning it starts alone (`begun`), and each event of the input keeps it so (`lone_before`). The head that it
-- is shown first is that of a poll (`shower`), so what is known of what is shown first holds of it (`first_reported`). A
-- poll shows a head to its own consumer alone, by its move (`shower_of`); what other acts tell is no head.
use Rattle.std.{proofs.Common.{◌≡◌, inl, inr, ℕ, List, [], ◌∷◌, ◌++◌, Bool, true, false, Option, Some, None, refl, ap, sym, ◌∙◌, subst}, specs.{Prelude.{◌==◌, ◌&&◌, is_none, if◌then◌else◌}, Option.{option_or}}}
use Rattle.hc_text.proofs.Basics.{bool_cases, not_some as none_some, some_inj}
use Rattle.hc_effects.proofs.Vocabulary.{is_denied, shows_in, Act, Why, Event, Response, Limits, answer_acts, may_begin, case_of, consumer_after, new_consumer, current, Entry, History, no_contents, entry_without_acts, exchange_after, Flaw, flaw_in, Shown, shown_in, Move, Nothing, Asks, Opens, Shows, Gives, Ends, Fails, acts_of, move_of, Says, representation_after, Tables, Consumer, IsRun, tables, after_accepted, act, cause, wait, event, place}
use Rattle.hc_model.specs.Moves as moves
use Rattle.hc_effects.proofs.{ActParts.{IsSaid, said_is}, Basics.{some_none, or_false}, Owed.{acts_are, denied_shows}, PieceKeeps.{eq_cases}}
use Rattle.hc_effects.proofs.ActParts as parts
use Rattle.hc_laws.proofs.{TurnFacts.{IsTaken}, AimRuns.{aims_in_runs}, Barred.{next_tables, denied_tables}, PartRuns.{parts_in_runs}, PassedRuns.{passed_in_runs}, PlaceRuns.{places_in_runs}, ReadNext.{by_said}, SoundRuns.{carried}}
use Rattle.hc_laws.proofs.ReadNext as next
use Rattle.hc_fetch.specs.{declared.plan.FetchPlan.{FetchPlan}, Bounds.{IsPlan}, Deciding.{has_foreign, is_foreign, decided_by}, Fetches.{started, starts_behind, start_by_head, cache_history}, Heads.{Head, heads_in, first_in, first_head}, Laws.{IsFetchRun}, Plans.{first_start, first_fields, request_of}}
use Rattle.hc_fetch.proofs.{Bodies.{run_before, earlier}, LoneRuns.{IsLone, lone_kept, lone_denied, not_first}, ShownFacts.{FirstShown, first_shown}}
use Rattle.hc_fetch.proofs.LoneRuns as lone

-- AT THE BEGINNING

module _ (p : FetchPlan) (now : ℕ) where
  abbrev e0 : Entry
  e0 = entry_without_acts now (first_start p)

  abbrev k0 : Consumer
  k0 = new_consumer now (request_of p (first_fields p))

  begun : IsLone p (after_accepted (tables no_contents []) e0)
  unfolding tables consumer_after exchange_after representation_after current case_of
  begun = record {
    only = λ c k row. elim (eq_cases 1 c) [
      | inl same ↦ sym same.1
      | inr other ↦ absurd (none_some k (rw other.0 at row))
    ];
    asks = λ k row. ap (λ (z : Consumer). z.request) (sym (some_inj k0 k row));
    unshown = λ k row. ap (λ (z : Consumer). z.shown) (sym (some_inj k0 k row));
    misses = λ x w row. absurd (none_some w row);
    nothing = λ k row free. refl;
    good = λ x k w response row stands there head. absurd (none_some w there);
    first = λ k r lo hi how row stands. absurd (let no : place.Line ≡ place.Bound r lo hi how = ap (λ (z : Consumer). z.place) (some_inj k0 k row) ∙
        stands in cc);
    parts = λ r v row status. absurd (none_some v row);
  }

  pub started_lone : IsLone p (tables no_contents (e0 ∷ []))
  started_lone = subst (IsLone p) (next_tables no_contents [] e0 refl) begun

-- AN EVENT

lone_by : (limits : Limits) (p : FetchPlan) → IsPlan p → (h : History) (e : Entry) → may_begin limits no_contents ≡ true →
    IsRun limits no_contents (e ∷ h) → IsLone p (tables no_contents h) → is_foreign e.event ≡ false → shows_in 1 e.acts ≡ false → (b : Bool) →
    is_denied e.acts ≡ b → IsLone p (tables no_contents (e ∷ h))
lone_by limits p plan_is h e may run l own unshown true denied =
    subst (IsLone p) (denied_tables no_contents h e denied) (lone_denied p (tables no_contents h) e l)
lone_by limits p plan_is h e may run l own unshown false taken =
    subst (IsLone p) (next_tables no_contents h e taken)
    (lone_kept limits p plan_is (tables no_contents h) e (record { owed = run.1; not_denied = taken }) (carried limits no_contents h may run.0)
    (aims_in_runs limits no_contents h may run.0) (passed_in_runs limits no_contents h may run.0) l own unshown)

unshown_in : (acts : List Act) → first_in (heads_in acts) ≡ None → shows_in 1 acts ≡ false
unshown_in [] none = refl
unshown_in (act.Shown d r why status fields lo hi ∷ acts) none = elim (bool_cases (d == 1)) [
  | inl mine ↦ absurd (some_none _ (rw mine at none))
  | inr other ↦ rw other (unshown_in acts (rw other at none))
]
unshown_in (act.Opened x d need request ∷ acts) none = unshown_in acts none
unshown_in (act.Ask x ∷ acts) none = unshown_in acts none
unshown_in (act.Close x ∷ acts) none = unshown_in acts none
unshown_in (act.Given d x at bytes ∷ acts) none = unshown_in acts none
unshown_in (act.Ended d ∷ acts) none = unshown_in acts none
unshown_in (act.Failed d why ∷ acts) none = unshown_in acts none
unshown_in (act.Pending d z ∷ acts) none = unshown_in acts none
unshown_in (act.Denied refusal ∷ acts) none = unshown_in acts none
unshown_in (act.Lost r kind ∷ acts) none = unshown_in acts none
unshown_in (act.Evicted r ∷ acts) none = unshown_in acts none

pub none_shown : (acts : List Act) → first_in (heads_in acts) ≡ None → shown_in 1 acts ≡ []
none_shown [] none = refl
none_shown (act.Shown d r why status fields lo hi ∷ acts) none = elim (bool_cases (d == 1)) [
  | inl mine ↦ absurd (some_none _ (rw mine at none))
  | inr other ↦ rw other (none_shown acts (rw other at none))
]
none_shown (act.Opened x d need request ∷ acts) none = none_shown acts none
none_shown (act.Ask x ∷ acts) none = none_shown acts none
none_shown (act.Close x ∷ acts) none = none_shown acts none
none_shown (act.Given d x at bytes ∷ acts) none = none_shown acts none
none_shown (act.Ended d ∷ acts) none = none_shown acts none
none_shown (act.Failed d why ∷ acts) none = none_shown acts none
none_shown (act.Pending d z ∷ acts) none = none_shown acts none
none_shown (act.Denied refusal ∷ acts) none = none_shown acts none
none_shown (act.Lost r kind ∷ acts) none = none_shown acts none
none_shown (act.Evicted r ∷ acts) none = none_shown acts none

pub none_first : (a b : Option Head) → option_or a b ≡ None → (a ≡ None) × (b ≡ None)
none_first None b is = (refl, is)
none_first (Some z) b is = absurd (some_none z is)

pub none_starts : (p : FetchPlan) (f : History) (e : Entry) → first_in (heads_in e.acts) ≡ None → starts_behind p f e ≡ []
none_starts p f e none = by_decision (is_none (decided_by p f e.acts) && is_none (first_head f))
  where
    by_decision : (b : Bool) → (if b then start_by_head p e.now (first_in (heads_in e.acts)) else []) ≡ []
    by_decision true = ap (start_by_head p e.now) none
    by_decision false = refl

pub lone_before : (limits : Limits) (p : FetchPlan) → IsPlan p → (f : History) → IsFetchRun limits p f → has_foreign f ≡ false → first_head f ≡ None →
    (now : ℕ) → IsLone p (tables no_contents (started p now (cache_history p f)))
lone_before limits p plan_is [] q own none now = started_lone p now
lone_before limits p plan_is (e ∷ f) q own none now =
    let before = started p e.now (cache_history p f) in
    let parts_none = none_first (first_head f) (first_in (heads_in e.acts)) none in
    let parts_own = or_false (is_foreign e.event) (has_foreign f) own in
    let run : IsRun limits no_contents (e ∷ before) = run_before limits (starts_behind p f e) (e ∷ before) q.run in
    let was = lone_before limits p plan_is f (earlier limits p e f q) parts_own.1 parts_none.0 e.now in
    let on = lone_by limits p plan_is before e q.begins run was parts_own.0 (unshown_in e.acts parts_none.1) (is_denied e.acts) refl in
    let same : cache_history p (e ∷ f) ≡ e ∷ before = ap (λ (xs : History). xs ++ (e ∷ before)) (none_starts p f e parts_none.1) in
    subst (λ (h : History). IsLone p (tables no_contents (started p now h))) (sym same) on

-- WHO SHOWS IT

module _ (t : Tables) (now r status : ℕ) (why : Why) (fields : List (List ℕ × List ℕ)) (lo : ℕ) (hi : Option ℕ) where
  abbrev it : Act
  it = act.Shown 1 r why status fields lo hi

  pub record IsShower (ev : Event) : Type 0 where
    pub want : ℕ
    pub k : Consumer
    pub is_poll : ev ≡ event.Poll 1 want
    pub row : t.consumer 1 ≡ Some k
    pub head : Response
    pub status_is : head.status ≡ status
    pub fields_are : head.fields ≡ fields
    pub move_is : move_of t now want 1 k ≡ Shows r why head lo hi

  data ShowsIt (d : ℕ) (m : Move) : Type 0 where
    shows_it : (head : Response) → d ≡ 1 → head.status ≡ status → head.fields ≡ fields → m ≡ Shows r why head lo hi → ShowsIt d m

  shown_inj : (d q : ℕ) (y : Why) (head : Response) (a : ℕ) (b : Option ℕ) → act.Shown d q y head.status head.fields a b ≡ it → ShowsIt d (Shows q y head a b)
  shown_inj d q y head a b is =
      let one : q ≡ r = cc in
      let two : y ≡ why = cc in
      let three : a ≡ lo = cc in
      let four : b ≡ hi = cc in
      shows_it head (cc) (cc) (cc) (rw (one, two, three, four) refl)

  of_move : (d : ℕ) (m : Move) → Says it (acts_of d m) → ShowsIt d m
  of_move d Nothing h = absurd h
  of_move d (moves.Waits z) (inl is) = absurd (let no : act.Pending d z ≡ it = is in cc)
  of_move d (moves.Waits z) (inr h) = absurd h
  of_move d (Asks y) (inl is) = absurd (let no : act.Ask y ≡ it = is in cc)
  of_move d (Asks y) (inr (inl is)) = absurd (let no : act.Pending d (wait.Body y) ≡ it = is in cc)
  of_move d (Asks y) (inr (inr h)) = absurd h
  of_move d (Opens y n request) (inl is) = absurd (let no : act.Opened y d n request ≡ it = is in cc)
  of_move d (Opens y n request) (inr (inl is)) = absurd (let no : act.Pending d (wait.Head y) ≡ it = is in cc)
  of_move d (Opens y n request) (inr (inr h)) = absurd h
  of_move d (Shows q y head a b) (inl is) = shown_inj d q y head a b is
  of_move d (Shows q y head a b) (inr h) = absurd h
  of_move d (Gives run) (inl is) = absurd (let no : act.Given d run.x run.at run.bytes ≡ it = is in cc)
  of_move d (Gives run) (inr h) = absurd h
  of_move d Ends (inl is) = absurd (let no : act.Ended d ≡ it = is in cc)
  of_move d Ends (inr h) = absurd h
  of_move d (Fails z) (inl is) = absurd (let no : act.Failed d z ≡ it = is in cc)
  of_move d (Fails z) (inr h) = absurd h

  shower_by : (ev : Event) (d want : ℕ) (k : Consumer) → ev ≡ event.Poll d want → t.consumer d ≡ Some k → ShowsIt d (move_of t now want d k) → IsShower ev
  shower_by ev d want k here row (shows_it head same status_is fields_are is) = record {
    want = want;
    k = k;
    is_poll = here ∙ ap (λ n. event.Poll n want) same;
    row = sym (ap t.consumer same) ∙ row;
    head = head;
    status_is = status_is;
    fields_are = fields_are;
    move_is = sym (ap (λ n. move_of t now want n k) same) ∙ is;
  }

  shower_of : (ev : Event) (flaw : Flaw) (acts : List Act) → IsSaid t now ev flaw acts → Says it acts → IsShower ev
  shower_of ev flaw _ (parts.silent) h = absurd h
  shower_of ev flaw _ (parts.does d want k m here row is near) h = shower_by ev d want k here row (subst (ShowsIt d) is (of_move d m h))
  shower_of ev flaw _ (parts.misreads d want q here is) (inl same) = absurd (let no : act.Failed d (cause.StoreRead q) ≡ it = same in cc)
  shower_of ev flaw _ (parts.misreads d want q here is) (inr h) = absurd h

  pub shower : (limits : Limits) (ev : Event) (flaw : Flaw) → Says it (Rattle.hc_model.specs.Answers.accepted_acts limits t now ev flaw) → IsShower ev
  shower limits ev flaw h =
      shower_of ev flaw (answer_acts t now ev flaw) (said_is t now ev flaw) (by_said limits t now ev flaw it (next.shows 1 r why status fields lo hi) h)

-- WHAT IS SHOWN FIRST

-- a head among acts, to the first consumer
pub record IsAmong (head : Head) (acts : List Act) : Type 0 where
  pub why : Why
  pub lo : ℕ
  pub hi : Option ℕ
  pub says : Says (act.Shown 1 head.r why head.status head.fields lo hi) acts
  pub rest : List Shown
  pub shown : shown_in 1 acts ≡ record { r = head.r; why = why; lo = lo; hi = hi } ∷ rest

later : (a : Act) (acts : List Act) (head : Head) → shown_in 1 (a ∷ acts) ≡ shown_in 1 acts → IsAmong head acts → IsAmong head (a ∷ acts)
later a acts head same m = record { why = m.why; lo = m.lo; hi = m.hi; says = inr m.says; rest = m.rest; shown = same ∙ m.shown }

pub among : (acts : List Act) (head : Head) → first_in (heads_in acts) ≡ Some head → IsAmong head acts
among [] head is = absurd (none_some head is)
among (act.Shown d r why status fields lo hi ∷ acts) head is = elim (eq_cases d 1) [
  | inl mine ↦
      let made : Head = record { c = d; r = r; status = status; fields = fields } in
      let same : made ≡ head = some_inj made head (rw mine.0 at is) in
      subst (λ (z : Head). IsAmong z (act.Shown d r why status fields lo hi ∷ acts)) same
      (record {
        why = why;
        lo = lo;
        hi = hi;
        says = inl (ap (λ n. act.Shown n r why status fields lo hi) mine.1);
        rest = shown_in 1 acts;
        shown =
            rw mine.0 refl;
      })
  | inr other ↦ later (act.Shown d r why status fields lo hi) acts head (rw other.0 refl) (among acts head (rw other.0 at is))
]
among (act.Opened x d need request ∷ acts) head is = later (act.Opened x d need request) acts head refl (among acts head is)
among (act.Ask x ∷ acts) head is = later (act.Ask x) acts head refl (among acts head is)
among (act.Close x ∷ acts) head is = later (act.Close x) acts head refl (among acts head is)
among (act.Given d x at bytes ∷ acts) head is = later (act.Given d x at bytes) acts head refl (among acts head is)
among (act.Ended d ∷ acts) head is = later (act.Ended d) acts head refl (among acts head is)
among (act.Failed d why ∷ acts) head is = later (act.Failed d why) acts head refl (among acts head is)
among (act.Pending d z ∷ acts) head is = later (act.Pending d z) acts head refl (among acts head is)
among (act.Denied refusal ∷ acts) head is = later (act.Denied refusal) acts head refl (among acts head is)
among (act.Lost r kind ∷ acts) head is = later (act.Lost r kind) acts head refl (among acts head is)
among (act.Evicted r ∷ acts) head is = later (act.Evicted r) acts head refl (among acts head is)

module _ (limits : Limits) (p : FetchPlan) (plan_is : IsPlan p) (h : History) (e : Entry) (may : may_begin limits no_contents ≡ true)
    (run : IsRun limits no_contents (e ∷ h)) (l : IsLone p (tables no_contents h)) (head : Head) (m : IsAmong head e.acts) where
  abbrev t : Tables
  t = tables no_contents h

  nil_cons : (s : Shown) (rest : List Shown) → [] ≡ s ∷ rest → ⊥
  nil_cons s rest is = cc

  taken : (b : Bool) → is_denied e.acts ≡ b → b ≡ false
  taken true denied = absurd (nil_cons _ m.rest (sym (denied_shows 1 e.acts denied) ∙ m.shown))
  taken false denied = refl

  pub first_reported : FirstShown t head.r m.lo m.hi head.status head.fields
  first_reported =
      let accepted = taken (is_denied e.acts) refl in
      let c = carried limits no_contents h may run.0 in
      let owed : IsTaken limits t e = record { owed = run.1; not_denied = accepted } in
      let g = shower t e.now head.r head.status m.why head.fields m.lo m.hi limits e.event (flaw_in e.acts)
      (subst (Says (act.Shown 1 head.r m.why head.status head.fields m.lo m.hi)) (acts_are limits t e run.1 accepted) m.says) in
      let aims = aims_in_runs limits no_contents h may run.0 in
      let passed = passed_in_runs limits no_contents h may run.0 in
      let at = lone.shown_at limits p plan_is t e owed c aims passed l g.k g.row g.want (Shows head.r m.why g.head m.lo m.hi) g.move_is refl in
      let facts = first_shown p t c (places_in_runs limits no_contents h may run.0) (parts_in_runs limits no_contents h may run.0) l g.k g.row head.r
      m.why g.head m.lo m.hi
      (λ q a y d stands. not_first limits p plan_is t e owed c aims passed l g.k g.row q a y d stands) g.k.place refl at in
      subst (λ n. FirstShown t head.r m.lo m.hi n head.fields) g.status_is
      (subst (λ (z : List (List ℕ × List ℕ)). FirstShown t head.r m.lo m.hi g.head.status z) g.fields_are facts)
