-- How who is bound after an entry became so: it was, it founds, its first hole is opened, or it is shown what is there.
--
-- The place is followed back through the entry. It is bound since it was shown a head there (`shown`), since a first
-- hole was opened (`opened`), or by the event (`heard`); or it was before. The cases of a head have the most work
-- (`placed`): those that found bind, and all others leave the place or lead elsewhere. `bound_from` joins these. Most
-- lemmas on readers begin with it and go by its four ways.
use Rattle.std.{proofs.{lemmas.Bool.Decides.{nat_tests}, Common.{arith, ◌≡◌, ◌⊎◌, inl, inr, ℕ, Bool, true, false, Option, Some, None, refl, ap, sym, ◌∙◌}}, specs.Prelude.{if◌then◌else◌, ◌==◌}}
use Rattle.hc_text.proofs.Basics.{bool_cases, some_inj}
use Rattle.hc_effects.proofs.Vocabulary.{Opening, opening_in, leaves_in, Event, Response, Cause, Wait, HeadCase, Route, Wanted, route_of, range_of, wanted_of, Place, BoundBy, Showing, showing_in, wait_in, case_at, bound_to_wanted, place_by_case, passed_on, consumer_heard, by_head, by_fault, waiting_place, waiting, opened_place, unless_bound, by_opening, shown_place, consumer_acted, consumer_settled, consumer_made, consumer_after, due_after, current, Entry, promise_in, founded_total, bound_to, reads, Tables, Exchange, Representation, Consumer, starts_over, event, case, route, wanted, place, by}
use Rattle.hc_event.specs.declared.act.Cause.TheVariants as cause
use Rattle.hc_range.specs.declared.range.Span.{Span}
use Rattle.hc_effects.proofs.PieceKeeps.{eq_cases}

-- the parts of a bound place
pub record IsSamePlace (q a : ℕ) (b : Option ℕ) (d : BoundBy) (r lo : ℕ) (hi : Option ℕ) (how : BoundBy) : Type 0 where
  pub number : q ≡ r
  pub from : a ≡ lo
  pub to : b ≡ hi
  pub by_is : d ≡ how

pub place_inj : (q a : ℕ) (b : Option ℕ) (d : BoundBy) (r lo : ℕ) (hi : Option ℕ) (how : BoundBy) → place.Bound q a b d ≡ place.Bound r lo hi how →
    IsSamePlace q a b d r lo hi how
place_inj q a b d r lo hi how is = record { number = cc; from = cc; to = cc; by_is = cc }

-- an interval is read that is wanted
pub record IsInterval (w : Wanted) (lo : ℕ) (hi : Option ℕ) : Type 0 where
  pub span : Span
  pub wanted_is : w ≡ wanted.Interval span
  pub from : span.lo ≡ lo
  pub to : Some span.hi ≡ hi

pub wanted_bound : (r lo : ℕ) (hi : Option ℕ) (how : BoundBy) (q : ℕ) (d : BoundBy) (other : Place) (w : Wanted) →
    bound_to_wanted q d other w ≡ place.Bound r lo hi how → (other ≡ place.Bound r lo hi how) ⊎ (IsInterval w lo hi × (q ≡ r) × (d ≡ how))
wanted_bound r lo hi how q d other w is = grind (arith, nat_tests)

module _ (t : Tables) (e : Entry) (c r lo : ℕ) (hi : Option ℕ) (how : BoundBy) where
  -- what its head binds a consumer to
  pub data IsFounded (x : ℕ) (response : Response) (w : Exchange) (k : Consumer) : Option HeadCase → Type 0 where
    whole : lo ≡ 0 → hi ≡ promise_in w response → IsFounded x response w k (Some case.FoundsWhole)
    replaced : lo ≡ 0 → hi ≡ promise_in w response → IsFounded x response w k (Some case.FirstReplaced)
    part : IsInterval (wanted_of (range_of k.request) (founded_total w response)) lo hi → IsFounded x response w k (Some case.FoundsRange)

  -- of the place that a head gives
  data IsPlaced (x : ℕ) (response : Response) (w : Exchange) (k : Consumer) (o : Option HeadCase) : Type 0 where
    same : k.place ≡ place.Bound r lo hi how → IsPlaced x response w k o
    founded : x ≡ r → how ≡ by.Founding → IsFounded x response w k o → IsPlaced x response w k o

  down_bound : (cause : Cause) → place.Down cause ≡ place.Bound r lo hi how → ⊥
  down_bound cause is = cc

  line_bound : place.Line ≡ place.Bound r lo hi how → ⊥
  line_bound is = cc

  over_bound : place.Over ≡ place.Bound r lo hi how → ⊥
  over_bound is = cc

  direct_bound : (x : ℕ) → place.Direct x ≡ place.Bound r lo hi how → ⊥
  direct_bound x is = cc

  passed_bound : (x : ℕ) (o : Option ℕ) → passed_on x o ≡ place.Bound r lo hi how → ⊥
  passed_bound x o is = grind (arith, nat_tests)

  placed : (x : ℕ) (response : Response) (w : Exchange) (k : Consumer) (o : Option HeadCase) → place_by_case x response w k o ≡ place.Bound r lo hi how →
      IsPlaced x response w k o
  placed x response w k None is = same is
  placed x response w k (Some case.DirectBad) is = absurd (down_bound (cause.BadHead x) is)
  placed x response w k (Some case.DirectTaken) is = same is
  placed x response w k (Some case.TurnBad) is = absurd (down_bound (cause.BadHead x) is)
  placed x response w k (Some case.Validated) is = absurd (passed_bound x w.aim is)
  placed x response w k (Some case.NotValidated) is = same is
  placed x response w k (Some case.TurnServerError) is = absurd (direct_bound x is)
  placed x response w k (Some case.FoundsWhole) is =
      let p = place_inj x 0 (promise_in w response) by.Founding r lo hi how is in
      founded p.number (sym p.by_is) (whole (sym p.from) (sym p.to))
  placed x response w k (Some case.FoundsRange) is =
      elim (wanted_bound r lo hi how x by.Founding (place.Direct x) (wanted_of (range_of k.request) (founded_total w response)) is) [
        | inl never ↦ absurd (direct_bound x never)
        | inr all ↦ founded all.1 (sym all.2) (part all.0)
      ]
  placed x response w k (Some case.PassesBy) is = absurd (direct_bound x is)
  placed x response w k (Some case.FirstBad) is = absurd (down_bound (cause.BadHead x) is)
  placed x response w k (Some case.FirstJoins) is = same is
  placed x response w k (Some case.FirstServerError) is = absurd (direct_bound x is)
  placed x response w k (Some case.FirstChanged) is = same is
  placed x response w k (Some case.FirstReplaced) is =
      let p = place_inj x 0 (promise_in w response) by.Founding r lo hi how is in
      founded p.number (sym p.by_is) (replaced (sym p.from) (sym p.to))
  placed x response w k (Some case.FirstPassesBy) is = absurd (direct_bound x is)
  placed x response w k (Some case.LaterBad) is = same is
  placed x response w k (Some case.LaterJoins) is = same is
  placed x response w k (Some case.LaterChanged) is = same is

  -- what the event says of a consumer leaves it bound as it was, or founds
  data IsHeard (k : Consumer) : Type 0 where
    same : k.place ≡ place.Bound r lo hi how → IsHeard k
    founded : (x : ℕ) (response : Response) (w : Exchange) → e.event ≡ event.Head x response → t.exchange x ≡ Some w → w.c ≡ c → x ≡ r →
        how ≡ by.Founding → IsFounded x response w k (case_at t e) → IsHeard k

  heard_placed : (x : ℕ) (response : Response) (w : Exchange) (k : Consumer) → e.event ≡ event.Head x response → t.exchange x ≡ Some w → w.c ≡ c →
      IsPlaced x response w k (case_at t e) → IsHeard k
  heard_placed x response w k ev row here (same old) = same old
  heard_placed x response w k ev row here (founded of_r by_is how_is) = founded x response w ev row here of_r by_is how_is

  heard_head : (x : ℕ) (response : Response) (o : Option Exchange) (k : Consumer) → e.event ≡ event.Head x response → t.exchange x ≡ o →
      (by_head t e c x response o k).place ≡ place.Bound r lo hi how → IsHeard k
  heard_head x response None k ev row is = same is
  heard_head x response (Some w) k ev row is = elim (eq_cases w.c c) [
    | inr other ↦ same (rw other.0 at is)
    | inl here ↦ heard_placed x response w k ev row here.1 (placed x response w k (case_at t e) (rw here.0 at is))
  ]

  heard_fault : (x : ℕ) (o : Option Exchange) (k : Consumer) → (by_fault c x o k).place ≡ place.Bound r lo hi how → k.place ≡ place.Bound r lo hi how
  heard_fault x o k is = grind (arith, nat_tests)

  heard : (ev : Event) (k : Consumer) → e.event ≡ ev → (consumer_heard t e c ev k).place ≡ place.Bound r lo hi how → IsHeard k
  heard (event.Head x response) k ev is = heard_head x response (t.exchange x) k ev refl is
  heard (event.Fault x) k ev is = same (heard_fault x (t.exchange x) k is)
  heard (event.Cancel d) k ev is = elim (bool_cases (d == c)) [
    | inl here ↦ absurd (over_bound (rw here at is))
    | inr other ↦ same (rw other at is)
  ]
  heard _ k ev is = same is

  -- THE ACTS

  waited : (k : Consumer) (o : Option Wait) → waiting_place t k o ≡ place.Bound r lo hi how → k.place ≡ place.Bound r lo hi how
  waited k o is = grind (arith, nat_tests)

  -- a first hole
  pub record IsFirstHole (o : Opening) (k : Consumer) : Type 0 where
    pub v : Representation
    pub current_is : current t k.request.key ≡ Some r
    pub row : t.representation r ≡ Some v
    pub interval : IsInterval (wanted_of (range_of k.request) v.head.total) lo hi
    pub by_is : how ≡ by.FirstHole o.x

  by_route : (o : Opening) (k : Consumer) (way : Route) → route_of o.need ≡ way → opened_place t o.x k way ≡ place.Bound r lo hi how →
      (route_of o.need ≡ route.Hole) × IsFirstHole o k
  by_route o k way at is = grind (arith, nat_tests)

  -- what is opened for it leaves it bound, or is for its first hole
  data IsOpened (k : Consumer) : Type 0 where
    same : k.place ≡ place.Bound r lo hi how → IsOpened k
    opens : (o : Opening) → opening_in e.acts ≡ Some o → o.c ≡ c → bound_to k.place ≡ None → route_of o.need ≡ route.Hole → IsFirstHole o k → IsOpened k

  unless : (o : Opening) (k : Consumer) (q : Option ℕ) → opening_in e.acts ≡ Some o → o.c ≡ c → bound_to k.place ≡ q →
      unless_bound q k.place (opened_place t o.x k (route_of o.need)) ≡ place.Bound r lo hi how → IsOpened k
  unless o k None row here free is = let all = by_route o k (route_of o.need) refl is in opens o row here free all.0 all.1
  unless o k (Some q) row here free is = same is

  opened : (o : Option Opening) (k : Consumer) → opening_in e.acts ≡ o → (by_opening t c o k).place ≡ place.Bound r lo hi how → IsOpened k
  opened None k row is = same is
  opened (Some o) k row is = elim (eq_cases o.c c) [
    | inr other ↦ same (rw other.0 at is)
    | inl here ↦ unless o k (bound_to k.place) row here.1 refl (rw here.0 at is)
  ]

  -- what it is shown leaves it bound, or binds it
  pub record IsShown (s : Showing) (p : Place) : Type 0 where
    pub at : s.c ≡ c
    pub free : reads p ≡ false
    pub of_r : s.r ≡ r
    pub from : s.lo ≡ lo
    pub to : s.hi ≡ hi
    pub by_is : how ≡ by.Plan

  data IsShownOr (p : Place) : Type 0 where
    same : p ≡ place.Bound r lo hi how → IsShownOr p
    shows : (s : Showing) → showing_in e.acts ≡ Some s → IsShown s p → IsShownOr p

  shown : (o : Option Showing) (p : Place) → showing_in e.acts ≡ o → shown_place c o p ≡ place.Bound r lo hi how → IsShownOr p
  shown None p row is = same is
  shown (Some s) p row is = elim (eq_cases s.c c) [
    | inr other ↦ same (rw other.0 at is)
    | inl here ↦ elim (bool_cases (reads p)) [
      | inl old ↦ same (rw (here.0, old) at is)
      | inr free ↦
          let all = place_inj s.r s.lo s.hi by.Plan r lo hi how (rw (here.0, free) at is) in
          shows s row (record { at = here.1; free = free; of_r = all.number; from = all.from; to = all.to; by_is = sym all.by_is })
    ]
  ]

  -- THE ROW AFTER AN ENTRY

  -- the row before, and what was made of it
  pub record IsRow (k u : Consumer) : Type 0 where
    pub row : t.consumer c ≡ Some k
    pub stays : starts_over t e c k ≡ false
    pub leaves : leaves_in c e.acts ≡ false
    pub is : due_after t e c k (consumer_acted t e c (consumer_heard t e c e.event k)) ≡ u

  -- what is opened, of a consumer as the event left it, and what it is shown, where it stood then
  pub data BoundFrom (u : Consumer) : Type 0 where
    stays : (k : Consumer) → IsRow k u → k.place ≡ place.Bound r lo hi how → BoundFrom u
    founds : (k : Consumer) (x : ℕ) (response : Response) (w : Exchange) → IsRow k u → e.event ≡ event.Head x response → t.exchange x ≡ Some w → w.c ≡ c →
        x ≡ r → how ≡ by.Founding → IsFounded x response w k (case_at t e) → BoundFrom u
    opens : (k : Consumer) (o : Opening) → IsRow k u → opening_in e.acts ≡ Some o → o.c ≡ c →
        bound_to (waiting t e c (consumer_heard t e c e.event k)).place ≡ None → route_of o.need ≡ route.Hole →
        IsFirstHole o (waiting t e c (consumer_heard t e c e.event k)) → BoundFrom u
    shows : (k : Consumer) (s : Showing) → IsRow k u → showing_in e.acts ≡ Some s →
        IsShown s (by_opening t c (opening_in e.acts) (waiting t e c (consumer_heard t e c e.event k))).place → BoundFrom u

  module _ (k u : Consumer) (row : IsRow k u) where
    abbrev h : Consumer
    h = consumer_heard t e c e.event k

    from_heard : IsHeard k → BoundFrom u
    from_heard (same old) = stays k row old
    from_heard (founded x response w at there here of_r by_is all) = founds k x response w row at there here of_r by_is all

    waits : waiting_place t h (wait_in c e.acts) ≡ place.Bound r lo hi how → BoundFrom u
    waits is = from_heard (heard e.event k refl (waited h (wait_in c e.acts) is))

    from_opened : IsOpened (waiting t e c h) → BoundFrom u
    from_opened (same old) = waits old
    from_opened (opens o is here free way hole) = opens k o row is here free way hole

    from_shown : IsShownOr (by_opening t c (opening_in e.acts) (waiting t e c h)).place → BoundFrom u
    from_shown (same old) = from_opened (opened (opening_in e.acts) (waiting t e c h) refl old)
    from_shown (shows s is all) = shows k s row is all

    pub from_row : (if leaves_in c e.acts then place.Over else
        shown_place c (showing_in e.acts) (by_opening t c (opening_in e.acts) (waiting t e c h)).place) ≡ place.Bound r lo hi how → BoundFrom u
    from_row is = from_shown (shown (showing_in e.acts) (by_opening t c (opening_in e.acts) (waiting t e c h)).place refl (rw row.leaves at is))

  settled : (k q u : Consumer) (b : Bool) → starts_over t e c k ≡ b → consumer_settled t e c k q ≡ u → u.place ≡ place.Bound r lo hi how → (b ≡ false) ×
      (due_after t e c k q ≡ u) × (q.place ≡ place.Bound r lo hi how)
  settled k q u true over is stands =
      absurd (let never : place.Line ≡ place.Bound r lo hi how = ap (λ (z : Consumer). z.place) (rw over at is) ∙ stands in line_bound never)
  settled k q u false over is stands = let same : due_after t e c k q ≡ u = rw over at is in (refl, same, ap (λ (z : Consumer). z.place) same ∙ stands)

  stays_in : (p : Place) (b : Bool) → leaves_in c e.acts ≡ b → (if b then place.Over else p) ≡ place.Bound r lo hi how → b ≡ false
  stays_in p b leaves is = grind (arith, nat_tests)

  by_row : (k u : Consumer) → t.consumer c ≡ Some k → consumer_settled t e c k (consumer_acted t e c (consumer_heard t e c e.event k)) ≡ u →
      u.place ≡ place.Bound r lo hi how → BoundFrom u
  by_row k u row is stands =
      let all = settled k (consumer_acted t e c (consumer_heard t e c e.event k)) u (starts_over t e c k) refl is stands in
      from_row k u (record { row = row; stays = all.0; leaves = stays_in _ (leaves_in c e.acts) refl all.2; is = all.1 }) all.2

  made : (o : Option Consumer) (u : Consumer) → o ≡ Some u → (o ≡ consumer_made c e.now e.event) → u.place ≡ place.Bound r lo hi how → ⊥
  made o u is at stands = grind (arith, nat_tests)

  -- Who is bound after an entry was bound, founds, has a first hole opened, or is shown what is current.
  pub bound_from : (o : Option Consumer) (u : Consumer) → t.consumer c ≡ o → consumer_after t e c o ≡ Some u → u.place ≡ place.Bound r lo hi how → BoundFrom u
  unfolding consumer_after
  bound_from None u row is stands = absurd (made (consumer_made c e.now e.event) u is refl stands)
  bound_from (Some k) u row is stands = by_row k u row (some_inj _ u is) stands
