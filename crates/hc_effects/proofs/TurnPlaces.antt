-- Where a consumer's place comes from, as far as it waits.
--
-- `ComesFrom` tells why a consumer stands at a place: it stood there, the place is plain, or what brought it there. A
-- consumer is followed through an entry: by the cases of a head (`by_case`) and the other events (`heard_from`). Then
-- come what it is told to wait for (`waits_from`), what is opened for it, and what it is shown (`shown_from`).
-- `acted_from` joins these, and `is_after` adds who starts over.
use Rattle.std.{proofs.{lemmas.Bool.Decides.{nat_tests}, Common.{arith, ◌≡◌, ℕ, Bool, true, false, Option, Some, None, refl, ap, sym, ◌∙◌, subst}}, specs.Prelude.{◌&&◌, ◌||◌, ◌==◌, not, is_none, if◌then◌else◌}}
use Rattle.hc_text.proofs.Basics.{eq_reports as eq_is, some_inj}
use Rattle.hc_effects.proofs.Vocabulary.{Opening, opening_in, leaves_in, shows_in, Wait, Event, Response, Request, HeadCase, Route, Wanted, route_of, wanted_of, range_of, Place, wait_in, Showing, showing_in, case_at, bound_to_wanted, place_by_case, passed_on, by_head, by_fault, by_opening, consumer_after, consumer_acted, consumer_heard, waiting, waiting_place, passed_by, kept_by, opened_place, place_for_hole, unless_bound, shown_place, due_after, back_in_line, current, row_of, Entry, founded_total, reads, bound_to, Tables, Exchange, Representation, Consumer, starts_over, wait, event, case, route, wanted, by}
use Rattle.hc_event.specs.declared.place.Place.TheVariants as place
use Rattle.hc_model.specs.ConsumerRows.{with_opening}
use Rattle.hc_model.specs.ConsumerRows as rows
use Rattle.hc_effects.proofs.ConsumerFilters.{acted}

-- it waits neither with the turn, nor for a body, nor with a first hole
abbrev pub IsPlain : Place → Type 0
IsPlain (place.Turn x) = ⊥
IsPlain (place.Passed r kept) = ⊥
IsPlain (place.Bound r lo hi (by.FirstHole y)) = ⊥
IsPlain _ = Unit {0}

module _ (t : Tables) (e : Entry) (c : ℕ) (k : Consumer) where
  -- why it stands there after the entry
  pub data ComesFrom : Place → Type 0 where
    kept : ComesFrom k.place
    plain : (p : Place) → IsPlain p → ComesFrom p
    turned : (o : Opening) → opening_in e.acts ≡ Some o → o.c ≡ c → route_of o.need ≡ route.Turn → ComesFrom (place.Turn o.x)
    first_of : (o : Opening) (r lo : ℕ) (hi : Option ℕ) → opening_in e.acts ≡ Some o → o.c ≡ c → route_of o.need ≡ route.Hole →
        ComesFrom (place.Bound r lo hi (by.FirstHole o.x))
    busy : (d r : ℕ) (keeps : Option ℕ) → wait_in c e.acts ≡ Some (wait.Busy d) → current t k.request.key ≡ Some r → ComesFrom (place.Passed r keeps)
    validated : (x r : ℕ) (response : Response) (w : Exchange) → e.event ≡ event.Head x response → t.exchange x ≡ Some w → w.c ≡ c →
        case_at t e ≡ Some case.Validated → w.aim ≡ Some r → ComesFrom (place.Passed r (Some x))

  from_if : (b : Bool) (q z : Consumer) → (b ≡ true → ComesFrom q.place) → ComesFrom z.place → ComesFrom (if b then q else z).place
  from_if true q z a h = a refl
  from_if false q z a h = h

  founding : (x : ℕ) (other : Place) (wants : Wanted) → IsPlain other → ComesFrom (bound_to_wanted x by.Founding other wants)
  founding x other (wanted.Interval span) p = plain _ tt
  founding x other _ p = plain other p

  passes : (x : ℕ) (response : Response) (w : Exchange) (o : Option ℕ) → e.event ≡ event.Head x response → t.exchange x ≡ Some w → w.c ≡ c →
      case_at t e ≡ Some case.Validated → w.aim ≡ o → ComesFrom (passed_on x o)
  passes x response w None at row mine found is = plain place.Line tt
  passes x response w (Some r) at row mine found is = validated x r response w at row mine found is

  by_case : (x : ℕ) (response : Response) (w : Exchange) (o : Option HeadCase) → e.event ≡ event.Head x response → t.exchange x ≡ Some w → w.c ≡ c →
      case_at t e ≡ o → ComesFrom (place_by_case x response w k o)
  by_case x response w (Some case.Validated) at row mine found = passes x response w w.aim at row mine found refl
  by_case x response w (Some case.FoundsWhole) at row mine found = plain _ tt
  by_case x response w (Some case.FirstReplaced) at row mine found = plain _ tt
  by_case x response w (Some case.FoundsRange) at row mine found = founding x (place.Direct x) (wanted_of (range_of k.request) (founded_total w response)) tt
  by_case x response w (Some case.DirectBad) at row mine found = plain _ tt
  by_case x response w (Some case.TurnBad) at row mine found = plain _ tt
  by_case x response w (Some case.FirstBad) at row mine found = plain _ tt
  by_case x response w (Some case.TurnServerError) at row mine found = plain _ tt
  by_case x response w (Some case.PassesBy) at row mine found = plain _ tt
  by_case x response w (Some case.FirstServerError) at row mine found = plain _ tt
  by_case x response w (Some case.FirstPassesBy) at row mine found = plain _ tt
  by_case x response w None at row mine found = kept
  by_case x response w (Some case.DirectTaken) at row mine found = kept
  by_case x response w (Some case.NotValidated) at row mine found = kept
  by_case x response w (Some case.FirstJoins) at row mine found = kept
  by_case x response w (Some case.FirstChanged) at row mine found = kept
  by_case x response w (Some case.LaterBad) at row mine found = kept
  by_case x response w (Some case.LaterJoins) at row mine found = kept
  by_case x response w (Some case.LaterChanged) at row mine found = kept

  by_head_from : (x : ℕ) (response : Response) (o : Option Exchange) → e.event ≡ event.Head x response → t.exchange x ≡ o →
      ComesFrom (by_head t e c x response o k).place
  by_head_from x response None at row = kept
  by_head_from x response (Some w) at row = from_if (w.c == c) _ k (λ mine. by_case x response w (case_at t e) at row (eq_is w.c c mine) refl) kept

  by_fault_from : (x : ℕ) (o : Option Exchange) → ComesFrom (by_fault c x o k).place
  by_fault_from x None = kept
  by_fault_from x (Some w) = from_if (w.c == c && is_none w.head && not k.shown) _ k (λ mine. plain _ tt) kept

  heard_from : (ev : Event) → e.event ≡ ev → ComesFrom (consumer_heard t e c ev k).place
  heard_from (event.Head x response) at = by_head_from x response (t.exchange x) at refl
  heard_from (event.Fault x) at = by_fault_from x (t.exchange x)
  heard_from (event.Cancel d) at = from_if (d == c) _ k (λ mine. plain place.Over tt) kept
  heard_from _ at = kept

  heard_request : (ev : Event) → (consumer_heard t e c ev k).request ≡ k.request
  heard_request (event.Head x response) = by_row (t.exchange x)
    where
      by_if : (b : Bool) (w : Exchange) → (if b then rows.with_head t e x response w k else k).request ≡ k.request
      by_if b w = grind (arith, nat_tests)

      by_row : (o : Option Exchange) → (by_head t e c x response o k).request ≡ k.request
      by_row None = refl
      by_row (Some w) = by_if (w.c == c) w
  heard_request (event.Fault x) = by_row (t.exchange x)
    where
      by_if : (b : Bool) (p : Place) → (if b then record k { place = p } else k).request ≡ k.request
      by_if b p = grind (arith, nat_tests)

      by_row : (o : Option Exchange) → (by_fault c x o k).request ≡ k.request
      by_row None = refl
      by_row (Some w) = by_if (w.c == c && is_none w.head && not k.shown) _
  heard_request (event.Cancel d) = by_if (d == c)
    where
      by_if : (b : Bool) → (if b then record k { place = place.Over } else k).request ≡ k.request
      by_if b = grind (arith, nat_tests)
  heard_request _ = refl

  module _ (q : Consumer) (from : ComesFrom q.place) (same : q.request ≡ k.request) where
    busy_from : (d : ℕ) (o : Option ℕ) → wait_in c e.acts ≡ Some (wait.Busy d) → current t q.request.key ≡ o → ComesFrom (passed_by (kept_by q.place) o)
    busy_from d None waits is = plain place.Line tt
    busy_from d (Some r) waits is = busy d r (kept_by q.place) waits (ap (λ (z : Request). current t z.key) (sym same) ∙ is)

    waits_from : (o : Option Wait) → wait_in c e.acts ≡ o → ComesFrom (waiting_place t q o)
    waits_from None is = from
    waits_from (Some (wait.Turn d)) is = plain place.Line tt
    waits_from (Some (wait.Busy d)) is = busy_from d (current t q.request.key) is refl
    waits_from (Some (wait.Head x)) is = from
    waits_from (Some (wait.Body x)) is = from

    hole_from : (o : Opening) (r : ℕ) (wants : Wanted) → opening_in e.acts ≡ Some o → o.c ≡ c → route_of o.need ≡ route.Hole →
        ComesFrom (bound_to_wanted r (by.FirstHole o.x) place.Line wants)
    hole_from o r (wanted.Interval span) is mine way = first_of o r span.lo (Some span.hi) is mine way
    hole_from o r _ is mine way = plain place.Line tt

    holes_from : (o : Opening) (r : Option ℕ) (v : Option Representation) → opening_in e.acts ≡ Some o → o.c ≡ c → route_of o.need ≡ route.Hole →
        ComesFrom (place_for_hole o.x q.request r v)
    holes_from o None v is mine way = plain place.Line tt
    holes_from o (Some r) None is mine way = plain place.Line tt
    holes_from o (Some r) (Some v) is mine way = hole_from o r (wanted_of (range_of q.request) v.head.total) is mine way

    opened_from : (o : Opening) (way : Route) → opening_in e.acts ≡ Some o → o.c ≡ c → route_of o.need ≡ way → ComesFrom (opened_place t o.x q way)
    opened_from o route.Direct is mine way = plain _ tt
    opened_from o route.Turn is mine way = turned o is mine way
    opened_from o route.Hole is mine way = holes_from o (current t q.request.key) (row_of t (current t q.request.key)) is mine way

    unless_from : (o : Option ℕ) (new : Place) → ComesFrom new → ComesFrom (unless_bound o q.place new)
    unless_from o new p = grind (arith, nat_tests)

    opening_from : (o : Option Opening) → opening_in e.acts ≡ o → ComesFrom (by_opening t c o q).place
    opening_from None is = from
    opening_from (Some o) is =
        from_if (o.c == c) (with_opening t o q) q (λ mine. unless_from (bound_to q.place) _ (opened_from o (route_of o.need) is (eq_is o.c c mine) refl)) from

  shown_from : (p : Place) (o : Option Showing) → ComesFrom p → ComesFrom (shown_place c o p)
  shown_from p None from = from
  shown_from p (Some z) from = by_test (z.c == c && not (reads p))
    where
      by_test : (b : Bool) → ComesFrom (if b then place.Bound z.r z.lo z.hi by.Plan else p)
      by_test true = plain _ tt
      by_test false = from

  left_from : (b : Bool) (p : Place) → ComesFrom p → ComesFrom (if b then place.Over else p)
  left_from true p from = plain place.Over tt
  left_from false p from = from

  acted_from : ComesFrom (consumer_acted t e c (consumer_heard t e c e.event k)).place
  acted_from =
      let h = consumer_heard t e c e.event k in
      let w = waits_from h (heard_from e.event refl) (heard_request e.event) (wait_in c e.acts) refl in
      let o = opening_from (waiting t e c h) w (heard_request e.event) (opening_in e.acts) refl in
      left_from (leaves_in c e.acts) _ (shown_from (by_opening t c (opening_in e.acts) (waiting t e c h)).place (showing_in e.acts) o)

  -- it is plain, or it neither started over nor left
  pub data StaysOrPlain (p : Place) : Type 0 where
    is_plain : IsPlain p → StaysOrPlain p
    stayed : starts_over t e c k ≡ false → leaves_in c e.acts ≡ false → StaysOrPlain p

  left_or : (b : Bool) (p : Place) → leaves_in c e.acts ≡ b → starts_over t e c k ≡ false → StaysOrPlain (if b then place.Over else p)
  left_or true p leaves over = is_plain tt
  left_or false p leaves over = stayed over leaves

  -- a consumer that was there, after the entry
  pub record IsAfter (z : Consumer) : Type 0 where
    pub from : ComesFrom z.place
    pub stays : StaysOrPlain z.place
    pub request : z.request ≡ k.request
    pub shown : z.shown ≡ (shows_in c e.acts || k.shown)

  settled_after : (b : Bool) → starts_over t e c k ≡ b →
      IsAfter (if b then back_in_line e.now (consumer_acted t e c (consumer_heard t e c e.event k)) else
      due_after t e c k (consumer_acted t e c (consumer_heard t e c e.event k)))
  settled_after true over = let a = acted t e c k in record { from = plain place.Line tt; stays = is_plain tt; request = a.request_is; shown = a.shown_is }
  settled_after false over =
      let a = acted t e c k in
      record { from = acted_from; stays = left_or (leaves_in c e.acts) _ refl over; request = a.request_is; shown = a.shown_is }

  pub is_after : (z : Consumer) → t.consumer c ≡ Some k → consumer_after t e c (t.consumer c) ≡ Some z → IsAfter z
  unfolding consumer_after
  is_after z row h =
      subst IsAfter (some_inj _ z (sym (ap (consumer_after t e c) row) ∙ h)) (settled_after (starts_over t e c k) refl)
