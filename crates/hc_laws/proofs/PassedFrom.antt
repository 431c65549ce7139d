-- Where it comes from that a consumer waits for a body, and keeps a 304: it did, its 304 came, or it was told to wait.
--
-- The place is followed back through the entry. Of a head only the case of a 304 that validates leads there (`placed`,
-- `validated`), of the acts only a wait. All else leaves a consumer there, or puts it elsewhere (`headed`, `faulted`,
-- `opened`, `shown`). `passed_before` joins these for who was there before; who has just started doesn't wait
-- (`started`). `passed_from` is for any row.
use Rattle.std.{proofs.{lemmas.Bool.Decides.{nat_tests}, Common.{arith, ◌≡◌, inl, inr, ℕ, Bool, cond, Option, Some, None, refl, ap, sym, ◌∙◌}}, specs.Prelude.{if◌then◌else◌}}
use Rattle.hc_text.proofs.Basics.{some_inj}
use Rattle.hc_effects.proofs.Vocabulary.{Opening, opening_in, leaves_in, Event, Response, Wait, HeadCase, Wanted, route_of, range_of, wanted_of, Place, BoundBy, Showing, showing_in, wait_in, case_at, bound_to_wanted, place_by_case, passed_on, passed_by, kept_by, consumer_heard, by_head, by_fault, waiting_place, waiting, opened_place, unless_bound, by_opening, shown_place, consumer_acted, consumer_settled, consumer_made, consumer_after, due_after, back_in_line, current, Entry, founded_total, entry_of, Tables, Exchange, Consumer, starts_over, after_accepted, event, wait, case, place, by}
use Rattle.hc_effects.proofs.{PieceKeeps.{eq_cases}, Step.{Step}}

-- only what validates is conditional
module _ (step : Step) (c q : ℕ) (kept : Option ℕ) (k : Consumer) (row : step.tables.consumer c ≡ Some k) where
  open step use {limits, tables as t, now, flaw, owners as o, event as ev}

  abbrev e : Entry
  e = entry_of limits t now ev flaw

  abbrev now_on : Tables
  now_on = after_accepted t e

  abbrev at : Place
  at = place.Passed q kept

  abbrev h : Consumer
  h = consumer_heard t e c ev k

  pub data PassedFrom : Type 0 where
    stood : k.place ≡ at → PassedFrom
    validates : (x : ℕ) (response : Response) (w : Exchange) → ev ≡ event.Head x response → t.exchange x ≡ Some w → w.c ≡ c →
        case_at t e ≡ Some case.Validated → w.aim ≡ Some q → kept ≡ Some x → PassedFrom
    busies : (d : ℕ) → wait_in c e.acts ≡ Some (wait.Busy d) → kept ≡ kept_by h.place → current t h.request.key ≡ Some q → PassedFrom

  passed_inj : (r : ℕ) (o : Option ℕ) → place.Passed r o ≡ at → (r ≡ q) × (o ≡ kept)
  passed_inj r o is = (cc, cc)

  line_passed : place.Line ≡ at → ⊥
  line_passed is = cc

  direct_passed : (x : ℕ) → place.Direct x ≡ at → ⊥
  direct_passed x is = cc

  wanted_passed : (r : ℕ) (how : BoundBy) (other : Place) (w : Wanted) → bound_to_wanted r how other w ≡ at → other ≡ at
  wanted_passed r how other w is = grind (arith, nat_tests)

  before : k.place ≡ at → PassedFrom
  before is = stood is

  -- THE HEAD OF ITS EXCHANGE

  validated : (x : ℕ) (response : Response) (w : Exchange) (z : Option ℕ) → ev ≡ event.Head x response → t.exchange x ≡ Some w → w.c ≡ c →
      case_at t e ≡ Some case.Validated → w.aim ≡ z → passed_on x z ≡ at → PassedFrom
  validated x response w None here there mine is aim p = absurd (line_passed p)
  validated x response w (Some r) here there mine is aim p = let same = passed_inj r (Some x) p in
      validates x response w here there mine is (aim ∙ ap Some same.0) (sym same.1)

  placed : (x : ℕ) (response : Response) (w : Exchange) (g : Option HeadCase) → ev ≡ event.Head x response → t.exchange x ≡ Some w → w.c ≡ c →
      case_at t e ≡ g → place_by_case x response w k g ≡ at → PassedFrom
  placed x response w None here there mine is p = before p
  placed x response w (Some case.DirectTaken) here there mine is p = before p
  placed x response w (Some case.Validated) here there mine is p = validated x response w w.aim here there mine is refl p
  placed x response w (Some case.NotValidated) here there mine is p = before p
  placed x response w (Some case.FoundsRange) here there mine is p =
      absurd (direct_passed x (wanted_passed x by.Founding (place.Direct x) (wanted_of (range_of k.request) (founded_total w response)) p))
  placed x response w (Some case.FirstJoins) here there mine is p = before p
  placed x response w (Some case.FirstChanged) here there mine is p = before p
  placed x response w (Some case.LaterBad) here there mine is p = before p
  placed x response w (Some case.LaterJoins) here there mine is p = before p
  placed x response w (Some case.LaterChanged) here there mine is p = before p
  placed x response w _ here there mine is p = cc

  headed : (x : ℕ) (response : Response) (z : Option Exchange) → ev ≡ event.Head x response → t.exchange x ≡ z →
      (by_head t e c x response z k).place ≡ at → PassedFrom
  headed x response None here there is = before is
  headed x response (Some w) here there is = elim (eq_cases w.c c) [
    | inr other ↦ before (rw other.0 at is)
    | inl mine ↦ placed x response w (case_at t e) here there mine.1 refl (rw mine.0 at is)
  ]

  faulted : (x : ℕ) (z : Option Exchange) → (by_fault c x z k).place ≡ at → PassedFrom
  faulted x z is = grind (arith, nat_tests)

  heard : (v : Event) → ev ≡ v → (consumer_heard t e c v k).place ≡ at → PassedFrom
  heard (event.Head x response) here is = headed x response (t.exchange x) here refl is
  heard (event.Fault x) here is = faulted x (t.exchange x) is
  heard (event.Cancel d) here is = grind (arith, nat_tests)
  heard _ here is = before is

  -- THE ACTS

  busy : (d : ℕ) (z : Option ℕ) → wait_in c e.acts ≡ Some (wait.Busy d) → current t h.request.key ≡ z → passed_by (kept_by h.place) z ≡ at → PassedFrom
  busy d None here is p = absurd (line_passed p)
  busy d (Some r) here is p = let same = passed_inj r (kept_by h.place) p in busies d here (sym same.1) (is ∙ ap Some same.0)

  waits : (z : Option Wait) → wait_in c e.acts ≡ z → waiting_place t h z ≡ at → PassedFrom
  waits (Some (wait.Turn d)) here is = absurd (line_passed is)
  waits (Some (wait.Busy d)) here is = busy d (current t h.request.key) here refl is
  waits _ here is = heard ev refl is

  unless : (p : Opening) (z : Consumer) (r : Option ℕ) → unless_bound r z.place (opened_place t p.x z (route_of p.need)) ≡ at → z.place ≡ at
  unless p z r is = grind (arith, nat_tests)

  opened : (z : Consumer) (p : Option Opening) → (by_opening t c p z).place ≡ at → z.place ≡ at
  opened z p is = grind (arith, nat_tests, eq_cases, unless)

  shown : (p : Place) (z : Option Showing) → shown_place c z p ≡ at → p ≡ at
  shown p z is = grind (arith, nat_tests)

  stays : (p : Place) (leaves : Bool) → (if leaves then place.Over else p) ≡ at → p ≡ at
  stays p leaves is = grind (arith, nat_tests)

  settled : (z u : Consumer) (over : Bool) → (cond over (back_in_line e.now z) (due_after t e c k z)) ≡ u → u.place ≡ at → z.place ≡ at
  settled z u over is stands = grind (arith, nat_tests)

  pub passed_before : (u : Consumer) → consumer_settled t e c k (consumer_acted t e c h) ≡ u → u.place ≡ at → PassedFrom
  passed_before u is stands =
      let acted = settled (consumer_acted t e c h) u (starts_over t e c k) is stands in
      let unshown = stays (shown_place c (showing_in e.acts) (by_opening t c (opening_in e.acts) (waiting t e c h)).place) (leaves_in c e.acts) acted in
      waits (wait_in c e.acts) refl
      (opened (waiting t e c h) (opening_in e.acts) (shown (by_opening t c (opening_in e.acts) (waiting t e c h)).place (showing_in e.acts) unshown))

module _ (step : Step) where
  open step use {limits, tables as t, now, flaw, event as ev}

  abbrev made_e : Entry
  made_e = entry_of limits t now ev flaw

  started : (c q : ℕ) (kept : Option ℕ) (v : Event) (u : Consumer) → consumer_made c made_e.now v ≡ Some u → u.place ≡ place.Passed q kept → ⊥
  started c q kept v u is stands = grind (arith, nat_tests)

  pub record IsPassedRow (c q : ℕ) (kept : Option ℕ) : Type 0 where
    pub k : Consumer
    pub row : t.consumer c ≡ Some k
    pub from : PassedFrom step c q kept k row

  by_row : (c q : ℕ) (kept : Option ℕ) (z : Option Consumer) (u : Consumer) → t.consumer c ≡ z → consumer_after t made_e c z ≡ Some u →
      u.place ≡ place.Passed q kept → IsPassedRow c q kept
  unfolding consumer_after
  by_row c q kept None u row is stands = absurd (started c q kept ev u is stands)
  by_row c q kept (Some k) u row is stands = record { k = k; row = row; from = passed_before step c q kept k row u (some_inj _ u is) stands }

  pub passed_from : (c q : ℕ) (kept : Option ℕ) (u : Consumer) → (after_accepted t made_e).consumer c ≡ Some u → u.place ≡ place.Passed q kept →
      IsPassedRow c q kept
  passed_from c q kept u row stands = by_row c q kept (t.consumer c) u refl row stands
