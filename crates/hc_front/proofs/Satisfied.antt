-- Who is told that its copy holds is given nothing, before and later.
--
-- What the front tells of bytes is what the cache gives (`given_reported`). A consumer becomes satisfied by a poll of its
-- own that shows it a head. By that poll it is given nothing (`shows_alone`), and before its one head nothing was: a
-- law of hc_model. From then on its polls that want bytes are cancels, and those that want none are denied (`quiet`).
-- So it stays satisfied until it is over, and is over then (`stays`).
use Rattle.std.{proofs.{Common.{◌≡◌, ◌⊎◌, inl, inr, ℕ, ◌+◌, ◌≤◌, Bool, true, false, List, [], ◌∷◌, ◌++◌, length, map, Option, Some, None, refl, sym, ap, ◌∙◌, subst, arith, length-append}, lemmas.Bool.Decides.{nat_tests}}, specs.{Prelude.{◌&&◌, ◌||◌, not, nat_eq, nat_lt, if◌then◌else◌}, List.{list_any}}}
use Rattle.hc_text.proofs.Basics.{bool_cases}
use Rattle.hc_effects.proofs.Vocabulary.{is_denied, given_in, Act, Event, Request, Limits, accepted_acts, poll_acts, loss_acts, may_begin, closing, consumer_after, denial, is_live, is_live_place, Entry, History, Contents, Flaw, NoFlaw, Loses, Misreads, flaw_in, Shown, shown_in, shown_of, given_of, Lawful, Move, acts_of, poll_move, Tables, Consumer, IsRun, IsOwed, after, act, place}
use Rattle.hc_event.specs.declared.event.Event.TheVariants as event
use Rattle.hc_rules.specs.Refusals as refusals
use Rattle.hc_model.specs.Moves as moves
use Rattle.hc_effects.proofs.{ActParts.{far_closing, far_lost_only}, Basics.{some_none}, EventsKeep.{poll_live}, Givers.{some_want}, Owed.{IsDenied, is_denial, goes, acts_are, denied_gives}}
use Rattle.hc_laws.proofs.{OneHead.{one_head_is_shown}, TurnFacts.{far_from}, LawfulRuns.{lawful_in_runs}, LiveAfter.{consumer_behind, dead_stays}}
use Rattle.hc_effects.proofs.Owed as owed_by
use Rattle.hc_replay.specs.Histories.{run_of}
use Rattle.hc_condition.specs.{NotModified.{is_not_modified, fields_of_304, unconditioned}, ShownActs.{act_shown, is_satisfying}}
use Rattle.hc_front.specs.{declared.watches.Watched.{Watched}, Fronts.{Fronted, FrontEntry, is_watched, is_ending, handed, reported, answered_by, watched_polled, watched_by, while_live, core_entry, front_after}, FrontHistories.{FrontHistory, fronted, core_of, answered_of}, Laws.{SatisfiedGetNothing}, Watching.{newly}}
use Rattle.hc_front.proofs.Watchings.{core_is, watched_live, is_new}
use Rattle.hc_core.proofs.NobodyLive.{over_by as over_is}

-- WHAT THE FRONT TELLS OF BYTES

gives_as : (c : ℕ) (request : Request) (a : Act) (acts others : List Act) → given_in c acts ≡ given_in c others → given_in
    c (act_shown request a ∷ acts) ≡ given_in c (a ∷ others)
gives_as c request (act.Shown d r why status fields lo hi) acts others same = by_test (is_not_modified request status fields)
  where
    by_test : (b : Bool) → given_in
        c ((if b then act.Shown d r why 304 (fields_of_304 fields) 0 (Some 0) else act.Shown d r why status fields lo hi) ∷ acts) ≡ given_in c others
    by_test true = same
    by_test false = same
gives_as c request (act.Given d x at bytes) acts others same = ap (λ (l : List ℕ). if nat_eq d c then bytes ++ l else l) same
gives_as c request (act.Failed d why) acts others same = same
gives_as c request (act.Lost r kind) acts others same = same
gives_as c request (act.Opened x d need other) acts others same = same
gives_as c request (act.Ask x) acts others same = same
gives_as c request (act.Close x) acts others same = same
gives_as c request (act.Ended d) acts others same = same
gives_as c request (act.Pending d wait) acts others same = same
gives_as c request (act.Evicted r) acts others same = same
gives_as c request (act.Denied refusal) acts others same = same

gives_all : (c : ℕ) (request : Request) (acts : List Act) → given_in c (map (act_shown request) acts) ≡ given_in c acts
gives_all c request [] = refl
gives_all c request (a ∷ acts) = gives_as c request a (map (act_shown request) acts) acts (gives_all c request acts)

-- an end behind them gives nothing
gives_ended : (c d : ℕ) (acts : List Act) → given_in c (acts ++ act.Ended d ∷ []) ≡ given_in c acts
gives_ended c d [] = refl
gives_ended c d (act.Given e x at bytes ∷ acts) = ap (λ (l : List ℕ). if nat_eq e c then bytes ++ l else l) (gives_ended c d acts)
gives_ended c d (act.Failed e why ∷ acts) = gives_ended c d acts
gives_ended c d (act.Lost r kind ∷ acts) = gives_ended c d acts
gives_ended c d (act.Shown e r why status fields lo hi ∷ acts) = gives_ended c d acts
gives_ended c d (act.Opened x e need other ∷ acts) = gives_ended c d acts
gives_ended c d (act.Ask x ∷ acts) = gives_ended c d acts
gives_ended c d (act.Close x ∷ acts) = gives_ended c d acts
gives_ended c d (act.Ended e ∷ acts) = gives_ended c d acts
gives_ended c d (act.Pending e wait ∷ acts) = gives_ended c d acts
gives_ended c d (act.Evicted r ∷ acts) = gives_ended c d acts
gives_ended c d (act.Denied refusal ∷ acts) = gives_ended c d acts

gives_by : (c : ℕ) (o : Option Watched) (acts : List Act) → given_in c (answered_by o acts) ≡ given_in c acts
gives_by c None acts = refl
gives_by c (Some w) acts = gives_all c w.request acts

gives_reported : (c : ℕ) (t : Fronted) (ev : Event) (acts : List Act) → given_in c (reported t ev acts) ≡ given_in c acts
gives_reported c t (event.Poll d want) acts = by_test (is_ending (t.watched d) want)
  where
    by_test : (b : Bool) → given_in c (if b then acts ++ act.Ended d ∷ [] else answered_by (t.watched d) acts) ≡ given_in c acts
    by_test true = gives_ended c d acts
    by_test false = gives_by c (t.watched d) acts
gives_reported c t (event.Start d request) acts = refl
gives_reported c t (event.Cancel d) acts = refl
gives_reported c t (event.Head x response) acts = refl
gives_reported c t (event.Piece x bytes) acts = refl
gives_reported c t (event.End x) acts = refl
gives_reported c t (event.Fault x) acts = refl
gives_reported c t (event.Doom key) acts = refl

given_reported : (c : ℕ) (contents : Contents) (f : FrontHistory) → given_of c (run_of (answered_of contents f)) ≡ given_of c (core_of contents f)
given_reported c contents [] = refl
given_reported c contents (e ∷ f) =
    ap (λ (l : List ℕ). l ++ given_in c (reported (fronted contents f) e.event e.acts)) (given_reported c contents f)
    ∙ ap (λ (l : List ℕ). given_of c (core_of contents f) ++ l) (gives_reported c (fronted contents f) e.event e.acts)

-- WHAT AN ENTRY GIVES

module _ (limits : Limits) (t : Tables) (e : Entry) (is : IsOwed limits t e) where
  -- whose poll isn't accepted is given nothing
  ungiven : (c : ℕ) → ((want : ℕ) → e.event ≡ event.Poll c want → is_denied e.acts ≡ false → ⊥) → given_in c e.acts ≡ []
  ungiven c other = by_test (is_denied e.acts) refl
    where
      by_test : (b : Bool) → is_denied e.acts ≡ b → given_in c e.acts ≡ []
      by_test true denied = denied_gives c e.acts denied
      by_test false on = (far_from limits t e (record { owed = is; not_denied = on }) c (λ want at. other want at on)).given

  -- WHAT SHOWS A HEAD

  itself : (c : ℕ) → nat_eq c c ≡ true
  itself c = grind (arith, nat_tests)

  -- somebody is shown a head, and given nothing
  record ShowsAlone (c : ℕ) (acts : List Act) : Type 0 where
    given : given_in c acts ≡ []
    some : 1 ≤ length (shown_in c acts)

  losses_quiet : (request : Request) (flaw : Flaw) → list_any (is_satisfying request) (loss_acts flaw) ≡ false
  losses_quiet request NoFlaw = refl
  losses_quiet request (Loses r kind) = refl
  losses_quiet request (Misreads r) = refl

  rest_quiet : (request : Request) (ys : List ℕ) (flaw : Flaw) → list_any (is_satisfying request) (map act.Close ys ++ loss_acts flaw) ≡ false
  rest_quiet request [] flaw = losses_quiet request flaw
  rest_quiet request (y ∷ ys) flaw = rest_quiet request ys flaw

  never : {A : Type 0} (b : Bool) → b ≡ false → b ≡ true → A
  never b off on = absurd (let no : false ≡ true = sym off ∙ on in cc)

  module _ (c : ℕ) (request : Request) (ys : List ℕ) (flaw : Flaw) where
    abbrev rest : List Act
    rest = map act.Close ys ++ loss_acts flaw

    by_move : (m : Move) → list_any (is_satisfying request) (acts_of c m ++ rest) ≡ true → ShowsAlone c (acts_of c m ++ rest)
    by_move (moves.Shows r why head lo hi) on =
        let far = far_closing c ys (loss_acts flaw) (far_lost_only c flaw) in
        record {
          given = far.given;
          some = rw (itself c) (omega arith);
        }
    by_move moves.Nothing on = never _ (rest_quiet request ys flaw) on
    by_move (moves.Waits w) on = never _ (rest_quiet request ys flaw) on
    by_move (moves.Asks x) on = never _ (rest_quiet request ys flaw) on
    by_move (moves.Opens x need other) on = never _ (rest_quiet request ys flaw) on
    by_move (moves.Gives run) on = never _ (rest_quiet request ys flaw) on
    by_move moves.Ends on = never _ (rest_quiet request ys flaw) on
    by_move (moves.Fails why) on = never _ (rest_quiet request ys flaw) on

    by_flaw : (now want : ℕ) (z : Flaw) → list_any (is_satisfying request) (poll_acts t now want c z ++ rest) ≡ true →
        ShowsAlone c (poll_acts t now want c z ++ rest)
    by_flaw now want NoFlaw on = by_move (poll_move t now want c (t.consumer c)) on
    by_flaw now want (Loses r kind) on = by_move (poll_move t now want c (t.consumer c)) on
    by_flaw now want (Misreads r) on = never _ (rest_quiet request ys flaw) on

  denied_quiet : (request : Request) (acts : List Act) → IsDenied acts → list_any (is_satisfying request) acts ≡ false
  denied_quiet request _ (owed_by.denied refusal) = refl

  -- a poll that shows a head gives nothing
  shows_alone : (c want : ℕ) (request : Request) → e.event ≡ event.Poll c want → list_any (is_satisfying request) e.acts ≡ true → ShowsAlone c e.acts
  shows_alone c want request at on = by_test (is_denied e.acts) refl
    where
      by_test : (b : Bool) → is_denied e.acts ≡ b → ShowsAlone c e.acts
      by_test true denied = never _ (denied_quiet request e.acts (is_denial e.acts denied)) on
      by_test false accepted =
          let all : e.acts ≡ accepted_acts limits t e.now (event.Poll c want) (flaw_in e.acts) = acts_are limits t e is accepted ∙
          ap (λ (z : Event). accepted_acts limits t e.now z (flaw_in e.acts)) at in
          subst (ShowsAlone c) (sym all)
          (by_flaw c request (closing t
          (record { now = e.now; event = event.Poll c want; acts = poll_acts t e.now want c (flaw_in e.acts) ++ loss_acts (flaw_in e.acts) }))
          (flaw_in e.acts) e.now want (flaw_in e.acts)
          (sym (ap (list_any (is_satisfying request)) all) ∙ on))

-- nothing was given before the first head
ungiven_before : (limits : Limits) (contents : Contents) (c : ℕ) (e : Entry) (f : History) → IsRun limits contents (e ∷ f) →
    1 ≤ length (shown_in c e.acts) → given_of c f ≡ []
ungiven_before limits contents c e f run some =
    let all : length (shown_of c f ++ shown_in c e.acts) ≤ 1 = (one_head_is_shown limits contents (e ∷ f) run c).0 in
    let sum = length-append (shown_of c f) (shown_in c e.acts) in
    (one_head_is_shown limits contents f run.0 c).1 (by_length (shown_of c f) (omega arith))
  where
    by_length : (l : List Shown) → length l ≡ 0 → l ≡ []
    by_length [] none = refl
    by_length (s ∷ l) none = absurd (omega arith)

-- WHO IS SATISFIED, OR OVER

-- it was told that its copy holds, or is over
data IsQuiet (t : Fronted) (c : ℕ) : Type 0 where
  satisfied : (w : Watched) → t.watched c ≡ Some w → w.satisfied ≡ true → IsQuiet t c
  over : (k : Consumer) → t.core.consumer c ≡ Some k → k.place ≡ place.Over → IsQuiet t c

abbrev polled_by : Event → ℕ
polled_by (event.Poll c want) = c
polled_by _ = 0

abbrev wanted_by : Event → ℕ
wanted_by (event.Poll c want) = want
wanted_by _ = 0

module _ (limits : Limits) (t : Fronted) (law : Lawful t.core) (alive : (c : ℕ) (w : Watched) → t.watched c ≡ Some w → is_live (t.core.consumer c) ≡ true)
    (e : FrontEntry) (is : IsOwed limits t.core (core_entry t e)) where
  none_wanted : (n : ℕ) → nat_lt 0 n ≡ false → n ≡ 0
  none_wanted n off = grind (arith, nat_tests)

  by_both : (b : Bool) (n : ℕ) → b ≡ true → (b && nat_lt 0 n) ≡ false → n ≡ 0
  by_both true n on off = none_wanted n off
  by_both false n on off = absurd (let no : false ≡ true = on in cc)

  -- a poll that doesn't end who is satisfied wants nothing
  ending : (w : Watched) (want : ℕ) → w.satisfied ≡ true → is_ending (Some w) want ≡ false → want ≡ 0
  unfolding is_ending
  ending w want on off = by_both w.satisfied want on off

  quiet_poll : (c d n want : ℕ) (w : Watched) → t.watched c ≡ Some w → w.satisfied ≡ true → (b : Bool) → is_ending (t.watched d) n ≡ b →
      (if b then event.Cancel d else event.Poll d n) ≡ event.Poll c want → want ≡ 0
  quiet_poll c d n want w kept on true ends at = absurd (let no : event.Cancel d ≡ event.Poll c want = at in cc)
  quiet_poll c d n want w kept on false goes_on at =
      let same : d ≡ c = ap polled_by at in
      let count : n ≡ want = ap wanted_by at in
      ending w want on (ap (λ (o : Option Watched). is_ending o want) (sym kept) ∙
      (ap (λ (z : ℕ). is_ending (t.watched z) want) (sym same) ∙ (ap (is_ending (t.watched d)) (sym count) ∙ goes_on)))

  start_no_poll : (c d want : ℕ) (request other : Request) (b : Bool) → (if b then event.Start d other else event.Start d request) ≡ event.Poll c want → ⊥
  start_no_poll c d want request other true at = let no : event.Start d other ≡ event.Poll c want = at in cc
  start_no_poll c d want request other false at = let no : event.Start d request ≡ event.Poll c want = at in cc

  wants_none : (c want : ℕ) (w : Watched) → t.watched c ≡ Some w → w.satisfied ≡ true → (ev : Event) → handed t ev ≡ event.Poll c want → want ≡ 0
  wants_none c want w kept on (event.Poll d n) at = quiet_poll c d n want w kept on (is_ending (t.watched d) n) refl at
  wants_none c want w kept on (event.Start d request) at = absurd (start_no_poll c d want request (unconditioned request) (is_watched t.core request) at)
  wants_none c want w kept on (event.Cancel d) at = absurd (let no : event.Cancel d ≡ event.Poll c want = at in cc)
  wants_none c want w kept on (event.Head x response) at = absurd (let no : event.Head x response ≡ event.Poll c want = at in cc)
  wants_none c want w kept on (event.Piece x bytes) at = absurd (let no : event.Piece x bytes ≡ event.Poll c want = at in cc)
  wants_none c want w kept on (event.End x) at = absurd (let no : event.End x ≡ event.Poll c want = at in cc)
  wants_none c want w kept on (event.Fault x) at = absurd (let no : event.Fault x ≡ event.Poll c want = at in cc)
  wants_none c want w kept on (event.Doom key) at = absurd (let no : event.Doom key ≡ event.Poll c want = at in cc)

  -- it is given nothing
  polls_live : (c want : ℕ) → handed t e.event ≡ event.Poll c want → is_denied e.acts ≡ false → is_live (t.core.consumer c) ≡ true
  unfolding refusals.refusal_of
  polls_live c want at on =
      poll_live limits t.core e.now (flaw_in e.acts) law.sound c want (sym (ap (denial t.core) at) ∙ goes limits t.core (core_entry t e) is on)

  quiet : (c : ℕ) → IsQuiet t c → given_in c e.acts ≡ []
  quiet c (satisfied w kept on) =
      ungiven limits t.core (core_entry t e) is c
      (λ want at accepted.
      let some = some_want t.core c want (handed t e.event) (goes limits t.core (core_entry t e) is accepted) at in
      let none = wants_none c want w kept on e.event at in
      omega (arith, some, none))
  quiet c (over k row gone) =
      ungiven limits t.core (core_entry t e) is c
      (λ want at accepted.
      let live = polls_live c want at accepted in
      let dead : is_live (t.core.consumer c) ≡ false = ap is_live row ∙ ap is_live_place gone in
      (let no : false ≡ true = sym dead ∙ live in cc))

  -- WHAT IT STAYS

  row_after : (c : ℕ) (k : Consumer) (o : Option Consumer) → consumer_after t.core (core_entry t e) c (Some k) ≡ o → (q : Consumer) × (o ≡ Some q)
  unfolding consumer_after
  row_after c k None h = absurd (some_none _ h)
  row_after c k (Some q) h = (q, refl)

  -- who has a row has one behind it
  row_stays : (c : ℕ) (k : Consumer) → t.core.consumer c ≡ Some k → (q : Consumer) × ((after t.core (core_entry t e)).consumer c ≡ Some q)
  row_stays c k row =
      elim (consumer_behind t.core (core_entry t e) c) as (λ _. (q : Consumer) × ((after t.core (core_entry t e)).consumer c ≡ Some q)) [
        | inl same ↦ (k, same ∙ row)
        | inr on ↦ row_after c k ((after t.core (core_entry t e)).consumer c) (sym (on.1 ∙ ap (consumer_after t.core (core_entry t e) c) row))
      ]

  is_over : (c : ℕ) (q : Consumer) → (after t.core (core_entry t e)).consumer c ≡ Some q → is_live ((after t.core (core_entry t e)).consumer c) ≡ false →
      IsQuiet (front_after t e) c
  unfolding front_after
  is_over c q row dead = over q row (over_is q.place (sym (ap is_live row) ∙ dead))

  over_stays : (c : ℕ) (k : Consumer) → t.core.consumer c ≡ Some k → k.place ≡ place.Over → IsQuiet (front_after t e) c
  over_stays c k row gone =
      let next = row_stays c k row in
      is_over c next.0 next.1
      (elim (consumer_behind t.core (core_entry t e) c) as (λ _. is_live ((after t.core (core_entry t e)).consumer c) ≡ false) [
        | inl same ↦ ap is_live (same ∙ row) ∙ ap is_live_place gone
        | inr on ↦ ap is_live on.1 ∙ dead_stays limits t.core (core_entry t e) law is c k on.0 row gone
      ])

  -- WHO STARTS IS NEW

  by_watch : (d : ℕ) (request : Request) (b : Bool) → is_watched t.core request ≡ b → (other : Request) ×
      (handed t (event.Start d request) ≡ event.Start d other)
  by_watch d request true is_so = (unconditioned request, rw is_so refl)
  by_watch d request false is_so = (request, rw is_so refl)

  starts_new : (d : ℕ) (request : Request) → e.event ≡ event.Start d request → is_denied e.acts ≡ false → t.core.consumer d ≡ None
  starts_new d request at accepted =
      let start = by_watch d request (is_watched t.core request) refl in
      is_new t.core law d start.0 (sym (ap (denial t.core) (ap (handed t) at ∙ start.1)) ∙ goes limits t.core (core_entry t e) is accepted)

  -- so who is satisfied doesn't start again
  module _ (c : ℕ) (w : Watched) (kept : t.watched c ≡ Some w) (on : w.satisfied ≡ true) where
    record IsSatisfied (o : Option Watched) : Type 0 where
      u : Watched
      row : o ≡ Some u
      holds : u.satisfied ≡ true

    same_row : IsSatisfied (t.watched c)
    same_row = record { u = w; row = kept; holds = on }

    not_again : (d : ℕ) (request : Request) → e.event ≡ event.Start d request → (x y : Bool) → nat_eq d c ≡ x → is_denied e.acts ≡ y
        → IsSatisfied (if x && (not y && is_watched t.core request) then Some (newly request) else t.watched c)
    not_again d request at false y here denied = same_row
    not_again d request at true true here denied = same_row
    not_again d request at true false here accepted =
        let same : d ≡ c = grind (arith, nat_tests) in
        let live : is_live (t.core.consumer d) ≡ true = ap (λ (z : ℕ). is_live (t.core.consumer z)) same ∙ alive c w kept in
        let new = starts_new d request at accepted in
        absurd (let no : false ≡ true = sym (ap is_live new) ∙ live in cc)

    polled_again : (b : Bool) → IsSatisfied (if b then watched_polled e.acts (t.watched c) else t.watched c)
    polled_again false = same_row
    polled_again true = record {
      u = record w { satisfied = w.satisfied || list_any (is_satisfying w.request) e.acts };
      row = ap (watched_polled e.acts) kept;
      holds = ap (λ (b : Bool). b || list_any (is_satisfying w.request) e.acts) on;
    }

    kept_by : (ev : Event) → e.event ≡ ev → IsSatisfied (watched_by t.core e.acts c ev (t.watched c))
    kept_by (event.Start d request) at = not_again d request at (nat_eq d c) (is_denied e.acts) refl refl
    kept_by (event.Poll d want) at = polled_again (nat_eq d c)
    kept_by (event.Cancel d) at = same_row
    kept_by (event.Head x response) at = same_row
    kept_by (event.Piece x bytes) at = same_row
    kept_by (event.End x) at = same_row
    kept_by (event.Fault x) at = same_row
    kept_by (event.Doom key) at = same_row

    row_of_live : (o : Option Consumer) → t.core.consumer c ≡ o → is_live o ≡ true → (k : Consumer) × (t.core.consumer c ≡ Some k)
    row_of_live None row live = absurd (let no : false ≡ true = live in cc)
    row_of_live (Some k) row live = (k, row)

    satisfied_stays : IsQuiet (front_after t e) c
    unfolding front_after
    satisfied_stays = elim (bool_cases (is_live ((after t.core (core_entry t e)).consumer c))) [
      | inl live ↦
          let s = kept_by e.event refl in
          satisfied s.u (rw live s.row) s.holds
      | inr dead ↦
          let k = row_of_live (t.core.consumer c) refl (alive c w kept) in
          let next = row_stays c k.0 k.1 in
          is_over c next.0 next.1 dead
    ]

  stays : (c : ℕ) → IsQuiet t c → IsQuiet (front_after t e) c
  stays c (satisfied w kept on) = satisfied_stays c w kept on
  stays c (over k row gone) = over_stays c k row gone

-- OVER HISTORIES

module _ (limits : Limits) (contents : Contents) (may : may_begin limits contents ≡ true) where
  law_of : (f : FrontHistory) → IsRun limits contents (core_of contents f) → Lawful (fronted contents f).core
  law_of f run = subst Lawful (sym (core_is contents f)) (lawful_in_runs limits contents (core_of contents f) may run)

  owed_of : (e : FrontEntry) (f : FrontHistory) → IsRun limits contents (core_of contents (e ∷ f)) →
      IsOwed limits (fronted contents f).core (core_entry (fronted contents f) e)
  owed_of e f run = subst (λ (t : Tables). IsOwed limits t (core_entry (fronted contents f) e)) (sym (core_is contents f)) run.1

  -- what was given stays all
  none_later : (later f : FrontHistory) (c : ℕ) → IsRun limits contents (core_of contents (later ++ f)) → IsQuiet (fronted contents f) c →
      given_of c (core_of contents f) ≡ []
      → (given_of c (core_of contents (later ++ f)) ≡ []) × IsQuiet (fronted contents (later ++ f)) c
  unfolding fronted
  none_later [] f c run is none = (none, is)
  none_later (e ∷ later) f c run is none =
      let before = none_later later f c run.0 is none in
      let t = fronted contents (later ++ f) in
      let law = law_of (later ++ f) run.0 in
      let owed = owed_of e (later ++ f) run in (
        ap (λ (l : List ℕ). l ++ given_in c e.acts) before.0 ∙ quiet limits t law (watched_live contents (later ++ f)) e owed c before.1,
        stays limits t law (watched_live contents (later ++ f)) e owed c before.1,
      )

  -- HOW IT BECAME SO

  -- it was satisfied before, or its own poll showed it a head
  data Since (e : FrontEntry) (t : Fronted) (c : ℕ) : Type 0 where
    was : (u : Watched) → t.watched c ≡ Some u → u.satisfied ≡ true → Since e t c
    shown : (want : ℕ) (request : Request) → handed t e.event ≡ event.Poll c want → list_any (is_satisfying request) e.acts ≡ true → Since e t c

  module _ (e : FrontEntry) (t : Fronted) (c : ℕ) (w : Watched) (on : w.satisfied ≡ true) where
    as_was : t.watched c ≡ Some w → Since e t c
    as_was kept = was w kept on

    by_start : (request : Request) (b : Bool) → (if b then Some (newly request) else t.watched c) ≡ Some w → Since e t c
    by_start request true kept =
        let same : newly request ≡ w = cc in
        absurd (let no : false ≡ true = ap (λ (z : Watched). z.satisfied) same ∙ on in cc)
    by_start request false kept = as_was kept

    not_satisfied : (u : Watched) (want : ℕ) → u.satisfied ≡ false → is_ending (Some u) want ≡ false
    unfolding is_ending
    not_satisfied u want off = rw off refl

    by_flag : (u : Watched) (want : ℕ) (b : Bool) → u.satisfied ≡ b → t.watched c ≡ Some u → e.event ≡ event.Poll c want →
        (u.satisfied || list_any (is_satisfying u.request) e.acts) ≡ true → Since e t c
    by_flag u want true is_so kept at any = was u kept is_so
    by_flag u want false off kept at any =
        let goes_on : is_ending (t.watched c) want ≡ false = ap (λ (o : Option Watched). is_ending o want) kept ∙ not_satisfied u want off in
        let hand : handed t (event.Poll c want) ≡ event.Poll c want = rw goes_on refl in
        shown want u.request (ap (handed t) at ∙ hand) (sym (ap (λ (b : Bool). b || list_any (is_satisfying u.request) e.acts) off) ∙ any)

    by_poll : (want : ℕ) (o : Option Watched) → t.watched c ≡ o → e.event ≡ event.Poll c want → watched_polled e.acts o ≡ Some w → Since e t c
    by_poll want None kept at is_so = absurd (let no : None ≡ Some w = is_so in cc)
    by_poll want (Some u) kept at is_so =
        let same : record u { satisfied = u.satisfied || list_any (is_satisfying u.request) e.acts } ≡ w = cc in
        by_flag u want u.satisfied refl kept at (ap (λ (z : Watched). z.satisfied) same ∙ on)

    own_or_not : (d want : ℕ) (b : Bool) → nat_eq d c ≡ b → e.event ≡ event.Poll d want →
        (if b then watched_polled e.acts (t.watched c) else t.watched c) ≡ Some w → Since e t c
    own_or_not d want true here at kept =
        let same : d ≡ c = grind (arith, nat_tests) in
        by_poll want (t.watched c) refl (at ∙ ap (λ (z : ℕ). event.Poll z want) same) kept
    own_or_not d want false far at kept = as_was kept

    since : (ev : Event) → e.event ≡ ev → watched_by t.core e.acts c ev (t.watched c) ≡ Some w → Since e t c
    since (event.Start d request) at kept = by_start request (nat_eq d c && (not (is_denied e.acts) && is_watched t.core request)) kept
    since (event.Poll d want) at kept = own_or_not d want (nat_eq d c) refl at kept
    since (event.Cancel d) at kept = as_was kept
    since (event.Head x response) at kept = as_was kept
    since (event.Piece x bytes) at kept = as_was kept
    since (event.End x) at kept = as_was kept
    since (event.Fault x) at kept = as_was kept
    since (event.Doom key) at kept = as_was kept

    live_kept : (o : Option Consumer) (x : Option Watched) → while_live o x ≡ Some w → x ≡ Some w
    live_kept o x kept = by_test (is_live o) kept
      where
        by_test : (b : Bool) → (if b then x else None) ≡ Some w → x ≡ Some w
        by_test true g = g
        by_test false g = absurd (let no : None ≡ Some w = g in cc)

  by_since : (e : FrontEntry) (f : FrontHistory) (c : ℕ) → IsRun limits contents (core_of contents (e ∷ f)) →
      ((u : Watched) → (fronted contents f).watched c ≡ Some u → u.satisfied ≡ true → given_of c (core_of contents f) ≡ [])
      → Since e (fronted contents f) c → given_of c (core_of contents (e ∷ f)) ≡ []
  by_since e f c run before (was u there so) =
      ap (λ (l : List ℕ). l ++ given_in c e.acts) (before u there so)
      ∙ quiet limits (fronted contents f) (law_of f run.0) (watched_live contents f) e (owed_of e f run) c (satisfied u there so)
  by_since e f c run before (shown want request at any) =
      let alone = shows_alone limits (fronted contents f).core (core_entry (fronted contents f) e) (owed_of e f run) c want request at any in
      ap (λ (l : List ℕ). l ++ given_in c e.acts)
      (ungiven_before limits contents c (core_entry (fronted contents f) e) (core_of contents f) run alone.some) ∙ alone.given

  none_before : (f : FrontHistory) (c : ℕ) (w : Watched) → IsRun limits contents (core_of contents f) → (fronted contents f).watched c ≡ Some w →
      w.satisfied ≡ true → given_of c (core_of contents f) ≡ []
  unfolding fronted front_after
  none_before [] c w run kept on = refl
  none_before (e ∷ f) c w run kept on =
      by_since e f c run (λ u there so. none_before f c u run.0 there so)
      (since e (fronted contents f) c w on e.event refl (live_kept e (fronted contents f) c w on _ _ kept))

pub satisfied_nothing : SatisfiedGetNothing
satisfied_nothing limits contents later f may run c w kept on =
    given_reported c contents (later ++ f)
    ∙ (none_later limits contents may later f c run (satisfied w kept on) (none_before limits contents may f c w (run_before later run) kept on)).0
  where
    run_before : (l : FrontHistory) → IsRun limits contents (core_of contents (l ++ f)) → IsRun limits contents (core_of contents f)
    run_before [] run = run
    run_before (e ∷ l) run = run_before l run.0
