-- For whom an exchange is opened waits for its head: past the store, with the turn, or bound to what it asks a hole of.
--
-- A poll that opens closes, loses and evicts nothing, so nothing that its consumer waited for goes (`doom_not`,
-- `itself_not`, `gone_not`). So it doesn't start over (`stays_on`), and stands where the opening puts it (`placed`,
-- `acted_place`). By what is opened that is past the store, with the turn, or bound to what the exchange is about
-- (`free_place`, `bound_place`). `awaits` joins these.
use Rattle.std.{proofs.{Common.{◌≡◌, inl, inr, ℕ, List, Bool, true, false, Option, Some, None, refl, ap, sym, ◌∙◌, subst, arith}, lemmas.Bool.Decides.{nat_tests}}, specs.Prelude.{if◌then◌else◌, ◌&&◌, ◌||◌, ◌==◌, not, nat_eq}}
use Rattle.hc_text.proofs.Basics.{and_left, and_right, or_cases}
use Rattle.hc_range.specs.declared.range.Span.{Span}
use Rattle.hc_effects.proofs.Vocabulary.{brings_whole, Opening, opening_in, leaves_in, closes_in, Event, Need, Route, Limits, route_of, is_bypassing, range_of, wanted_of, Place, BoundBy, Showing, showing_in, loses_in, misreads_in, opened_place, unless_bound, by_opening, shown_place, own_after, waiting, consumer_acted, due_after, current, is_current, denial, doomed_key_of, bypass_key, bypassed_by, bypassed_for, is_key, Entry, exchange_opened, aim_from, aim_of, Flaw, becomes_gone, goes_itself, goes_in, goes_by_head, ends_early, ends_founding, is_keepable, entry_of, Opens, Owners, IsAwaiting, Awaits, poll_move, bound_to, Tables, Exchange, Representation, Consumer, may_stand, Sound, starts_over, sends_back, loses_what_it_waits_for, after_accepted, event, need, route, wanted, by}
use Rattle.hc_event.specs.declared.place.Place.TheVariants as place
use Rattle.hc_model.specs.Owners as owners
use Rattle.hc_effects.proofs.{Basics.{false_true}, FirstKeeps.{is_opener}, Forward.{is_kept}, OpenedAs.{OpenedAs, Way}, OpeningPoll.{leaves_none, misreads_none, evicts_none, shows_none, doomed_not, case_not, closes_none, loses_none}, StaysOn.{settled, stays_by}}
use Rattle.hc_effects.proofs.OpenedAs as opened

bypassed_not : (n : Need) (key : List ℕ) → (n ≡ need.Bypass → ⊥) → bypassed_for n key ≡ None
bypassed_not n key off = grind (arith, nat_tests)

-- who is bound to nothing asks about what is current
pub aim_free : (t : Tables) (key : List ℕ) (p : Place) → bound_to p ≡ None → aim_from t key p ≡ current t key
aim_free t key p free = grind (arith, nat_tests)

module _ (limits : Limits) (t : Tables) (now : ℕ) (flaw : Flaw) (s : Sound t) (o : Owners t) (c want : ℕ) (goes : denial t (event.Poll c want) ≡ None) where
  abbrev ev : Event
  ev = event.Poll c want

  abbrev e : Entry
  e = entry_of limits t now ev flaw

  abbrev now_on : Tables
  now_on = after_accepted t e

  module _ (p : Opening) (k : Consumer) (here : p.c ≡ c) (opens : opening_in e.acts ≡ Some p) (row : t.consumer c ≡ Some k)
      (way : OpenedAs t now c k p.need p.request) (move_is : poll_move t now want c (t.consumer c) ≡ Opens p.x p.need p.request)
      (stand : may_stand limits t e ≡ true) where
    -- WHAT IT WAITED FOR STAYS

    founding_not : (r : ℕ) (z : Option Exchange) → ends_founding e r z ≡ true → ⊥
    founding_not r None h = false_true h
    founding_not r (Some w) h = false_true (sym (closes_none limits t now flaw s c want p here opens move_is r) ∙ and_right w.is_open (closes_in r e.acts) h)

    doom_not : (r : ℕ) (v : Representation) (kept : Option ℕ) → k.place ≡ place.Passed r kept →
        (is_key (doomed_key_of t e) v.key || is_key (bypass_key e) v.key) ≡ true → ⊥
    doom_not r v kept at h = elim (or_cases (is_key (doomed_key_of t e) v.key) _ h) [
      | inl doom ↦ false_true (sym (ap (λ z. is_key z v.key) (doomed_not limits t now flaw s c want p here opens move_is)) ∙ doom)
      | inr bypass ↦
          let plain : is_bypassing k.request ≡ false = o.passed c r kept k row at in
          let none : bypass_key e ≡ None = ap bypassed_by opens ∙ bypassed_not p.need p.request.key (λ is. false_true (sym plain ∙ way.bypasses is)) in
          false_true (sym (ap (λ z. is_key z v.key) none) ∙ bypass)
    ]

    itself_not : (r : ℕ) (v : Representation) (kept : Option ℕ) → k.place ≡ place.Passed r kept → goes_itself t e r v ≡ true → ⊥
    itself_not r v kept at h = elim (or_cases _ (ends_early t e r v && not (is_keepable v)) h) [
      | inr early ↦ founding_not r (t.exchange r) (and_right (brings_whole v.head.status) _ (and_left _ _ early))
      | inl more ↦ elim (or_cases _ (misreads_in r e.acts) more) [
        | inr misread ↦ false_true (sym (misreads_none limits t now flaw s c want p here opens move_is r) ∙ misread)
        | inl less ↦ elim (or_cases _ (loses_in r e.acts) less) [
          | inr lost ↦ false_true (sym (loses_none limits t now flaw s c want p here opens move_is r stand) ∙ lost)
          | inl few ↦ elim (or_cases _ (goes_by_head t e r) few) [
            | inr headed ↦ false_true headed
            | inl doom ↦ doom_not r v kept at (and_right (is_current t v.key r) _ doom)
          ]
        ]
      ]
    ]

    gone_not : (r : ℕ) (v : Representation) (kept : Option ℕ) → k.place ≡ place.Passed r kept → becomes_gone t e r v ≡ true → ⊥
    unfolding becomes_gone
    gone_not r v kept at h = elim (or_cases (goes_itself t e r v) _ h) [
      | inl itself ↦ itself_not r v kept at itself
      | inr evicted ↦ false_true (sym (evicts_none limits t now flaw s c want p here opens move_is r) ∙ evicted)
    ]

    goes_not : (r : ℕ) (z : Option Representation) (kept : Option ℕ) → k.place ≡ place.Passed r kept → goes_in t e r z ≡ true → ⊥
    goes_not r None kept at h = false_true h
    goes_not r (Some v) kept at h = gone_not r v kept at h

    lost_not : (q : Place) → k.place ≡ q → loses_what_it_waits_for t e c q ≡ true → ⊥
    lost_not (place.Passed r kept) at h = goes_not r (t.representation r) kept at (and_left _ _ h)
    lost_not _ at h = false_true h

    stays_on : starts_over t e c k ≡ false
    stays_on =
        stays_by t e c k (lost_not k.place refl)
        (λ doom waits. false_true (sym (ap (λ z. is_key z k.request.key) (doomed_not limits t now flaw s c want p here opens move_is)) ∙ doom))
        (λ back mine. false_true (sym (ap sends_back (case_not limits t now flaw s c want p here opens move_is)) ∙ back))

    -- THE ROW AFTER THE POLL

    same_c : (p.c == c) ≡ true
    same_c = let test : nat_eq p.c c ≡ true = grind (arith, nat_tests) in test

    own_stays : (q : Place) (z : Option ℕ) → own_after t e c q z ≡ z
    own_stays q z = grind (arith, nat_tests)

    opened_is : (q : Consumer) →
        by_opening t c (opening_in e.acts) q ≡ record q
        { own = Some p.x; place = unless_bound (bound_to q.place) q.place (opened_place t p.x q (route_of p.need)) }
    opened_is q = ap (λ z. by_opening t c z q) opens ∙ rw same_c refl

    -- where it stands
    abbrev stands_at : Place
    stands_at = unless_bound (bound_to k.place) k.place (opened_place t p.x k (route_of p.need))

    placed : (leaves : Bool) (shows : Option Showing) (q : Place) → leaves ≡ false → shows ≡ None → (if leaves then place.Over else shown_place c shows q) ≡ q
    placed leaves shows q a b = rw (a, b) refl

    acted_place : (consumer_acted t e c k).place ≡ stands_at
    acted_place =
        let opener = is_opener limits t now flaw s ev goes c k p row opens here in
        placed (leaves_in c e.acts) (showing_in e.acts) (by_opening t c (opening_in e.acts) (waiting t e c k)).place
        (leaves_none limits t now flaw s c want p here opens move_is c) (shows_none limits t now flaw s c want p here opens move_is)
        ∙ (ap (λ (q : Consumer). q.place) (opened_is (waiting t e c k))
        ∙ ap (λ q. unless_bound (bound_to q) q (opened_place t p.x k (route_of p.need))) opener.place_is)

    acted_own : (consumer_acted t e c k).own ≡ Some p.x
    acted_own = own_stays k.place _ ∙ ap (λ (q : Consumer). q.own) (opened_is (waiting t e c k))

    -- AS WHAT IT WAITS

    free_place : (way_of : Route) → bound_to k.place ≡ None → route_of p.need ≡ way_of → stands_at ≡ opened_place t p.x k way_of
    free_place way_of free at = rw (free, at) refl

    first_place : (r : ℕ) (v : Representation) (span : Span) → current t k.request.key ≡ Some r → t.representation r ≡ Some v →
        wanted_of (range_of k.request) v.head.total ≡ wanted.Interval span →
        opened_place t p.x k route.Hole ≡ place.Bound r span.lo (Some span.hi) (by.FirstHole p.x)
    first_place r v span is there want_is = rw (is, there, want_is) refl

    bound_place : (r lo : ℕ) (hi : Option ℕ) (how : BoundBy) → k.place ≡ place.Bound r lo hi how → stands_at ≡ place.Bound r lo hi how
    bound_place r lo hi how at = ap (λ q. unless_bound (bound_to q) q (opened_place t p.x k (route_of p.need))) at

    aim_is : aim_of t (t.consumer p.c) ≡ aim_from t k.request.key k.place
    aim_is = ap (aim_of t) (ap t.consumer here ∙ row)

    awaits_by : Way t now c k p.need → IsAwaiting p.x (exchange_opened t e p) stands_at
    awaits_by (opened.passes_by free way) = owners.direct way (free_place route.Direct free way)
    awaits_by (opened.fetches free way cached) = owners.turn way (free_place route.Turn free way)
    awaits_by (opened.fills r v span hole free way is there want_is found need_is cached) =
        owners.hole r span.lo (Some span.hi) (by.FirstHole p.x) way (aim_is ∙ (aim_free t k.request.key k.place free ∙ is))
        (free_place route.Hole free way ∙ first_place r v span is there want_is)
    awaits_by (opened.goes_on r lo hi how at way) =
        owners.hole r lo hi how way (aim_is ∙ ap (aim_from t k.request.key) at) (bound_place r lo hi how at)

    pub awaits : Awaits now_on p.x (exchange_opened t e p)
    awaits =
        let on = is_kept t e c k row in
        let made : due_after t e c k (consumer_acted t e c k) ≡ on.u = sym (settled t e c k (consumer_acted t e c k) stays_on) ∙ on.is in
        record {
          k = on.u;
          row = ap now_on.consumer here ∙ on.row;
          own = sym (ap (λ (z : Consumer). z.own) made) ∙ acted_own;
          at = subst (IsAwaiting p.x (exchange_opened t e p)) (sym acted_place ∙ ap (λ (z : Consumer). z.place) made) (awaits_by way.way);
        }
