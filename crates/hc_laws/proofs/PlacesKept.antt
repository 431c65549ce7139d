-- Who has the turn or reads past the store has the exchange for that as its own, at each entry.
--
-- A consumer is followed through an entry: the event first (`heard_past`, `heard_turn`), then what the acts say to it.
-- Only a poll opens, and who waits for a head is told nothing else. So only what comes of its own exchange moves it. A
-- head that leaves it past the store neither joins nor fails (`left_past`), and none leaves it the turn (`turn_left`).
-- `own_kept` joins both.
use Rattle.std.{proofs.Common.{◌≡◌, ◌⊎◌, inl, inr, ℕ, List, length, Bool, true, false, cond, Option, Some, None, refl, ap, sym, ◌∙◌, subst}, specs.{Prelude.{if◌then◌else◌, is_some, is_none, ◌==◌, ◌&&◌, not}, Option.{option_and_then}}}
use Rattle.hc_text.proofs.Basics.{never_true, both_true as and_both, bool_cases, not_some as none_some, same_some as same_row, some_inj}
use Rattle.hc_effects.proofs.Vocabulary.{Opening, opening_in, Cause, Event, Request, Response, HeadCase, head_case, Wanted, route_of, piece_refusal, range_of, wanted_of, Place, BoundBy, has_loss, loses_in, case_at, head_view, is_joining, is_refused, consumer_after, consumer_made, new_consumer, consumer_heard, consumer_acted, consumer_settled, by_head, by_fault, by_opening, becomes_shared, own_after, left_to, waiting, due_after, place_by_case, passed_on, bound_to_wanted, denial, as_open, Entry, exchange_at, exchange_in, is_for, is_headless, exchange_opened, cause_by_case, founded_total, entry_of, IsAwaiting, IsPast, IsReading, if_headless, shows_at, shows_direct, bound_to, is_written, own_open, Tables, Exchange, Representation, Consumer, starts_over, sends_back, after_accepted, brings_body, loses_group, event, route, wanted, place, by}
use Rattle.hc_rules.specs.Refusals as refusals
use Rattle.hc_model.specs.Owners as owners
use Rattle.hc_effects.proofs.{Basics.{false_true, or_false, some_none, some_row}, BoundFrom.{IsRow}, ExchangeFrom.{IsHeaded}, FirstKeeps.{is_new, case_is}, Forward.{is_on, is_kept, opened_on, is_untouched}, FoundBy.{CaseBy, case_by}, MoveBy.{IsHeard}, Once.{taken, never}, OwnersKeep.{is_opened, new_number}, PastKeeps.{PlaceFrom, direct_from}, PieceKeeps.{eq_cases}, ShownStays.{IsFallback}, ToBeShown.{heard_place}, TurnPlaces.{ComesFrom, StaysOrPlain, is_after}, Waiters.{no_opening, IsWaiter, waiter_of, waiter_as, unclosed}, PastApart.{bound_direct}, Step.{Step}}
use Rattle.hc_effects.proofs.FoundBy as cases
use Rattle.hc_effects.proofs.PastKeeps as past
use Rattle.hc_effects.proofs.TurnPlaces as places

-- WHAT IS CARRIED

-- its own exchange, which was opened for it
pub record IsOwn (t : Tables) (c x : ℕ) (k : Consumer) : Type 0 where
  pub w : Exchange
  pub row : t.exchange x ≡ Some w
  pub for_it : w.c ≡ c
  pub own : k.own ≡ Some x

pub record IsOwnPast (t : Tables) (c x : ℕ) (k : Consumer) : Type 0 where
  pub its : IsOwn t c x k
  pub unjoined : its.w.joined ≡ None

pub record IsOwnTurn (t : Tables) (c x : ℕ) (k : Consumer) : Type 0 where
  pub its : IsOwn t c x k
  pub is_open : its.w.is_open ≡ true

pub record AreOwn (t : Tables) : Type 0 where
  pub direct : (c x : ℕ) (k : Consumer) → t.consumer c ≡ Some k → k.place ≡ place.Direct x → IsOwnPast t c x k
  pub turn : (c x : ℕ) (k : Consumer) → t.consumer c ≡ Some k → k.place ≡ place.Turn x → IsOwnTurn t c x k

-- PLACES APART

pub line_direct : (y : ℕ) → place.Line ≡ place.Direct y → ⊥
line_direct y is = cc

pub over_direct : (y : ℕ) → place.Over ≡ place.Direct y → ⊥
over_direct y is = cc

pub down_direct : (why : Cause) (y : ℕ) → place.Down why ≡ place.Direct y → ⊥
down_direct why y is = cc

pub turn_direct : (x y : ℕ) → place.Turn x ≡ place.Direct y → ⊥
turn_direct x y is = cc

pub direct_inj : (x y : ℕ) → place.Direct x ≡ place.Direct y → x ≡ y
direct_inj x y is = cc

passed_on_direct : (x : ℕ) (q : Option ℕ) (y : ℕ) → passed_on x q ≡ place.Direct y → ⊥
passed_on_direct x None y is = cc
passed_on_direct x (Some r) y is = cc

line_turn : (y : ℕ) → place.Line ≡ place.Turn y → ⊥
line_turn y is = cc

over_turn : (y : ℕ) → place.Over ≡ place.Turn y → ⊥
over_turn y is = cc

down_turn : (why : Cause) (y : ℕ) → place.Down why ≡ place.Turn y → ⊥
down_turn why y is = cc

pub bound_turn : (r lo : ℕ) (hi : Option ℕ) (how : BoundBy) (y : ℕ) → place.Bound r lo hi how ≡ place.Turn y → ⊥
bound_turn r lo hi how y is = cc

passed_on_turn : (x : ℕ) (q : Option ℕ) (y : ℕ) → passed_on x q ≡ place.Turn y → ⊥
passed_on_turn x None y is = cc
passed_on_turn x (Some r) y is = cc

wanted_direct : (x y : ℕ) (v : Wanted) → bound_to_wanted x by.Founding (place.Direct x) v ≡ place.Direct y → x ≡ y
wanted_direct x y (wanted.Interval span) is = absurd (bound_direct x span.lo (Some span.hi) by.Founding y is)
wanted_direct x y _ is = direct_inj x y is

wanted_turn : (x y : ℕ) (v : Wanted) → bound_to_wanted x by.Founding (place.Direct x) v ≡ place.Turn y → ⊥
wanted_turn x y (wanted.Interval span) is = bound_turn x span.lo (Some span.hi) by.Founding y is
wanted_turn x y _ is = turn_direct y x (sym is)

abbrev is_poll : Event → Bool
is_poll (event.Poll c want) = true
is_poll _ = false

pub poll_of : (v : Event) → ((d : ℕ) × (want : ℕ) × (v ≡ event.Poll d want)) ⊎ ((d want : ℕ) → v ≡ event.Poll d want → ⊥)
poll_of (event.Poll d want) = inl (d, want, refl)
poll_of _ = inr (λ c want is. false_true (ap is_poll is))

module _ (step : Step) (a : IsFallback step.tables) (g : AreOwn step.tables) where
  open step use {limits, tables as t, now, flaw, sound as s, owners as o, event as ev, accepted as goes}

  abbrev e : Entry
  e = entry_of limits t now ev flaw

  abbrev now_on : Tables
  now_on = after_accepted t e

  abbrev FreeRow : ℕ → Consumer → Consumer → Type 0
  FreeRow c k u = IsRow t e c 0 0 None by.Plan k u

  abbrev Unopened : ℕ → Type 0
  Unopened c = (p : Opening) → opening_in e.acts ≡ Some p → p.c ≡ c → ⊥

  -- THE OWN EXCHANGE

  pub opening_stays : (c : ℕ) (q : Consumer) (z : Option Opening) → opening_in e.acts ≡ z → Unopened c → by_opening t c z q ≡ q
  opening_stays c q None opens none = refl
  opening_stays c q (Some p) opens none = elim (eq_cases p.c c) [
    | inl here ↦ absurd (none p opens here.1)
    | inr off ↦ rw off.0 refl
  ]

  pub own_poll : (d want : ℕ) → ev ≡ event.Poll d want → (c : ℕ) (p : Place) (own : Option ℕ) → own_after t e c p own ≡ own
  own_poll d want here c (place.Bound r lo hi how) own = by_row (t.representation r)
    where
      off : (v : Representation) → loses_group t e r v ≡ false
      off v = ap (λ z. brings_body z && loses_in r e.acts && is_written t v) here

      by_row : (z : Option Representation) → left_to t e c r z own ≡ own
      by_row None = refl
      by_row (Some v) = rw (off v) refl
  own_poll d want here c _ own = refl

  pub own_free : (c : ℕ) (p : Place) (own : Option ℕ) → bound_to p ≡ None → own_after t e c p own ≡ own
  own_free c (place.Bound r lo hi how) own free = absurd (some_none r free)
  own_free c _ own free = refl

  pub own_is : (c : ℕ) (k u : Consumer) → FreeRow c k u → Unopened c → u.own ≡ own_after t e c (consumer_heard t e c ev k).place (consumer_heard t e c ev k).own
  own_is c k u row none =
      let h = consumer_heard t e c ev k in
      sym (ap (λ (z : Consumer). z.own) row.is) ∙
      ap (λ (q : Consumer). own_after t e c h.place q.own) (opening_stays c (waiting t e c h) (opening_in e.acts) refl none)

  -- only a poll opens
  pub unopened : ((d want : ℕ) → ev ≡ event.Poll d want → ⊥) → (c : ℕ) → Unopened c
  unopened unpolled c p opens mine = let opened = is_opened step p opens in unpolled p.c opened.want opened.at

  -- who waits for a head isn't to be told anything else
  pub waits_not : (y : ℕ) (k : Consumer) (w : Exchange) → k.own ≡ Some y → t.exchange y ≡ Some w → w.is_open ≡ true → w.head ≡ None → IsHeard t k → ⊥
  waits_not y k w mine row on bare heard =
      let own : own_open t k ≡ Some y = rw (mine, row, on) refl in
      let headless : is_headless (t.exchange y) ≡ true = rw (row, on, bare) refl in
      let waits : option_and_then (if_headless t) (own_open t k) ≡ Some y = ap (option_and_then (if_headless t)) own ∙
      ap (λ b. cond b (Some y) None) headless in
      some_none y (sym waits ∙ heard)

  pub past_not : (y : ℕ) (k : Consumer) → k.place ≡ place.Direct y → shows_at t k k.place ≡ None → IsHeard t k → IsPast t y k → ⊥
  past_not y k at none heard (owners.answered w row headed) =
      let got = some_row w.head headed in
      let also : shows_direct t y (Some w) ≡ None = sym (ap (shows_direct t y) row) ∙ (sym (ap (shows_at t k) at) ∙ none) in
      let gone = rw got.1 at also in some_none _ gone
  past_not y k at none heard (owners.waits w mine row on bare) = waits_not y k w mine row on bare heard

  -- and nothing for who reads past the store
  pub past_unopened : (c y : ℕ) (k : Consumer) → t.consumer c ≡ Some k → k.place ≡ place.Direct y → Unopened c
  past_unopened c y k row at p opens mine =
      let opened = is_opened step p opens in
      let its : t.consumer c ≡ Some opened.k = sym (ap t.consumer mine) ∙ opened.row in
      let there : opened.k.place ≡ place.Direct y = ap (λ (q : Consumer). q.place) (same_row (t.consumer c) opened.k k its row) ∙ at in
      let free : bound_to opened.k.place ≡ None = ap bound_to there in
      past_not y opened.k there (opened.way.unread free) opened.way.heard (o.past c y opened.k its there (opened.way.unshown free))

  -- ITS HEAD

  module _ (c x : ℕ) (response : Response) (k : Consumer) (w : Exchange) (here : ev ≡ event.Head x response) (exchange_row : t.exchange x ≡ Some w)
      (mine : w.c ≡ c) (row : t.consumer c ≡ Some k) where
    got : (q : Consumer) × IsWaiter t w.c x q w
    got = let new = is_new limits t now flaw s ev goes x response w here exchange_row in waiter_of step x w exchange_row new.is_open new.bare

    one : got.0 ≡ k
    one = same_row (t.consumer c) got.0 k (sym (ap t.consumer mine) ∙ got.1.row) row

    at : IsAwaiting x w k.place
    at = subst (λ (q : Consumer). IsAwaiting x w q.place) one got.1.at

    pub head_own : k.own ≡ Some x
    head_own = sym (ap (λ (q : Consumer). q.own) one) ∙ got.1.own

    abbrev view : Rattle.hc_rules.specs.declared.heads.HeadView.HeadView
    view = head_view t (has_loss e.acts) w response

    past_way : (y : ℕ) → k.place ≡ place.Direct y → IsAwaiting x w k.place → (route_of w.need ≡ route.Direct) × (x ≡ y)
    past_way y is (owners.direct way stands) = (way, direct_inj x y (sym stands ∙ is))
    past_way y is (owners.turn way stands) = absurd (turn_direct x y (sym stands ∙ is))
    past_way y is (owners.hole r lo hi how way aim stands) = absurd (bound_direct r lo hi how y (sym stands ∙ is))

    turn_way : (y : ℕ) → k.place ≡ place.Turn y → IsAwaiting x w k.place → route_of w.need ≡ route.Turn
    turn_way y is (owners.direct way stands) = absurd (turn_direct y x (sym is ∙ stands))
    turn_way y is (owners.turn way stands) = way
    turn_way y is (owners.hole r lo hi how way aim stands) = absurd (bound_turn r lo hi how y (sym stands ∙ is))

    turn_not : route_of w.need ≡ route.Turn → (y : ℕ) → k.place ≡ place.Direct y → ⊥
    turn_not way y is = let no : route.Turn ≡ route.Direct = sym way ∙ (past_way y is at).0 in cc

    hole_not : route_of w.need ≡ route.Hole → (y : ℕ) → k.place ≡ place.Direct y → ⊥
    hole_not way y is = let no : route.Hole ≡ route.Direct = sym way ∙ (past_way y is at).0 in cc

    direct_turn_not : route_of w.need ≡ route.Direct → (y : ℕ) → k.place ≡ place.Turn y → ⊥
    direct_turn_not way y is = let no : route.Direct ≡ route.Turn = sym way ∙ turn_way y is at in cc

    hole_turn_not : route_of w.need ≡ route.Hole → (y : ℕ) → k.place ≡ place.Turn y → ⊥
    hole_turn_not way y is = let no : route.Hole ≡ route.Turn = sym way ∙ turn_way y is at in cc

    -- where it leaves its consumer past the store, it neither is written together nor joins, fails nobody, and isn't refused
    abbrev Left : ℕ → Option HeadCase → Type 0
    Left y q = (x ≡ y) × (becomes_shared t e response w q ≡ false) × (is_joining q ≡ false) × (cause_by_case q x ≡ None) × (is_refused q ≡ false)

    left_by : (y : ℕ) (q : HeadCase) → CaseBy view q → place_by_case x response w k (Some q) ≡ place.Direct y → Left y (Some q)
    left_by y _ (cases.direct_bad way h) is = absurd (down_direct _ y is)
    left_by y _ (cases.direct_taken way) is = ((past_way y is at).1, refl, refl, refl, refl)
    left_by y _ (cases.turn_bad way h) is = absurd (down_direct _ y is)
    left_by y _ (cases.validated way h d l) is = absurd (passed_on_direct x w.aim y is)
    left_by y _ (cases.not_validated way h) is = absurd (turn_not way y is)
    left_by y _ (cases.founds_whole way h l f) is = absurd (bound_direct _ _ _ _ y is)
    left_by y _ (cases.founds_range way h f l d) is = (wanted_direct x y (wanted_of (range_of k.request) (founded_total w response)) is, refl, refl, refl, refl)
    left_by y _ (cases.first_bad way off h) is = absurd (down_direct _ y is)
    left_by y _ (cases.first_joins way off h f) is = absurd (hole_not way y is)
    left_by y _ (cases.first_changed way off) is = absurd (hole_not way y is)
    left_by y _ (cases.first_replaced way off h l f) is = absurd (bound_direct _ _ _ _ y is)
    left_by y _ (cases.later_bad way on h) is = absurd (hole_not way y is)
    left_by y _ (cases.later_joins way on h f) is = absurd (hole_not way y is)
    left_by y _ (cases.later_changed way on) is = absurd (hole_not way y is)
    left_by y _ _ is = (direct_inj x y is, refl, refl, refl, refl)

    case_here : case_at t e ≡ Some (head_case view)
    case_here = case_is t e x response w here exchange_row

    pub left_past : (y : ℕ) → place_by_case x response w k (case_at t e) ≡ place.Direct y → Left y (case_at t e)
    left_past y is = subst (Left y) (sym case_here) (left_by y (head_case view) (case_by view) (sym (ap (place_by_case x response w k) case_here) ∙ is))

    -- and with the turn it doesn't leave it, unless it sends it back
    turn_by : (y : ℕ) (q : HeadCase) → CaseBy view q → place_by_case x response w k (Some q) ≡ place.Turn y → sends_back (Some q) ≡ true
    turn_by y _ (cases.direct_taken way) is = absurd (direct_turn_not way y is)
    turn_by y _ (cases.validated way h d l) is = absurd (passed_on_turn x w.aim y is)
    turn_by y _ (cases.not_validated way h) is = refl
    turn_by y _ (cases.founds_range way h f l d) is = absurd (wanted_turn x y (wanted_of (range_of k.request) (founded_total w response)) is)
    turn_by y _ (cases.first_joins way off h f) is = absurd (hole_turn_not way y is)
    turn_by y _ (cases.first_changed way off) is = refl
    turn_by y _ (cases.later_bad way on h) is = absurd (hole_turn_not way y is)
    turn_by y _ (cases.later_joins way on h f) is = absurd (hole_turn_not way y is)
    turn_by y _ (cases.later_changed way on) is = absurd (hole_turn_not way y is)
    turn_by y _ _ is = cc

    pub turn_left : (y : ℕ) → place_by_case x response w k (case_at t e) ≡ place.Turn y → starts_over t e c k ≡ false → ⊥
    unfolding starts_over
    turn_left y is stays =
        let sends : sends_back (case_at t e) ≡ true = ap sends_back case_here ∙
        turn_by y (head_case view) (case_by view) (sym (ap (place_by_case x response w k) case_here) ∙ is) in
        let it : is_for (exchange_at t ev) c ≡ true = ap (λ v. is_for (exchange_at t v) c) here ∙ (ap (λ q. is_for q c) exchange_row ∙ mine_test) in
        false_true (sym (or_false _ _ ((or_false _ _ stays).0)).1 ∙ and_both _ _ sends it)
      where
        mine_test : (w.c == c) ≡ true
        mine_test = elim (eq_cases w.c c) [
          | inl hit ↦ hit.0
          | inr off ↦ absurd (off.1 mine)
        ]

  -- PAST THE STORE, AS THE EVENT LEAVES IT

  pub record HeardPast (c y : ℕ) (k : Consumer) (v : Event) : Type 0 where
    pub its : IsOwn t c y k
    pub unjoined : its.w.joined ≡ None
    pub stays : (consumer_heard t e c v k).own ≡ k.own

  stood : (c y : ℕ) (k : Consumer) (v : Event) → t.consumer c ≡ Some k → k.place ≡ place.Direct y → (consumer_heard t e c v k).own ≡ k.own → HeardPast c y k v
  stood c y k v row at same = let all = g.direct c y k row at in record { its = all.its; unjoined = all.unjoined; stays = same }

  head_past : (c x y : ℕ) (response : Response) (k : Consumer) (z : Option Exchange) → t.consumer c ≡ Some k → ev ≡ event.Head x response →
      t.exchange x ≡ z → (by_head t e c x response z k).place ≡ place.Direct y →
      (by_head t e c x response z k).own ≡ (consumer_heard t e c (event.Head x response) k).own → HeardPast c y k (event.Head x response)
  head_past c x y response k None row here exchange_row at same = stood c y k (event.Head x response) row at (sym same)
  head_past c x y response k (Some w) row here exchange_row at same = elim (eq_cases w.c c) [
    | inr off ↦ stood c y k (event.Head x response) row (rw off.0 at at) (sym same ∙ rw off.0 refl)
    | inl hit ↦
        let left = left_past c x response k w here exchange_row hit.1 row y (rw hit.0 at at) in
        record {
          its = record {
            w = w;
            row = ap t.exchange (sym left.0) ∙ exchange_row;
            for_it = hit.1;
            own =
                head_own c x response k w here exchange_row hit.1 row ∙ ap Some left.0;
          };
          unjoined = (s.waits.headless x w exchange_row ((is_new limits t now flaw s ev goes x response w here exchange_row).bare)).1;
          stays = sym same ∙ rw (hit.0, left.1) refl;
        }
  ]

  fault_past : (c x y : ℕ) (z : Option Exchange) (k : Consumer) → (by_fault c x z k).place ≡ place.Direct y → (k.place ≡ place.Direct y) ×
      ((by_fault c x z k).own ≡ k.own)
  fault_past c x y None k at = (at, refl)
  fault_past c x y (Some w) k at = elim (bool_cases (w.c == c && is_none w.head && not k.shown)) [
    | inl hit ↦ absurd (down_direct _ y (rw hit at at))
    | inr off ↦ (rw off at at, rw off refl)
  ]

  heard_past : (c y : ℕ) (k : Consumer) (v : Event) → t.consumer c ≡ Some k → ev ≡ v → (consumer_heard t e c v k).place ≡ place.Direct y → HeardPast c y k v
  heard_past c y k (event.Head x response) row here at = head_past c x y response k (t.exchange x) row here refl at refl
  heard_past c y k (event.Fault x) row here at = let all = fault_past c x y (t.exchange x) k at in stood c y k (event.Fault x) row all.0 all.1
  heard_past c y k (event.Cancel d) row here at = elim (bool_cases (d == c)) [
    | inl hit ↦ absurd (over_direct y (rw hit at at))
    | inr off ↦ stood c y k (event.Cancel d) row (rw off at at) (rw off refl)
  ]
  heard_past c y k v row here at = stood c y k v row at refl

  -- IT STAYS JOINED TO NOTHING

  kept_past : (c y : ℕ) (k u : Consumer) (i : IsOwn t c y k) → i.w.joined ≡ None →
      ((response : Response) → ev ≡ event.Head y response → is_joining (case_at t e) ≡ false) → u.own ≡ Some y → IsOwnPast now_on c y u
  kept_past c y k u i unjoined joins own =
      let on = is_on t e y i.w i.row in
      record {
        its = record { w = on.u; row = on.row; for_it = on.same.c_is ∙ i.for_it; own = own };
        unjoined = by_heard on.u on.same.heard_or;
      }
    where
      by_heard : (z : Exchange) → ((z.head ≡ i.w.head) × (z.joined ≡ i.w.joined)) ⊎ IsHeaded t e y i.w z → z.joined ≡ None
      by_heard z (inl same) = same.1 ∙ unjoined
      by_heard z (inr got) = got.joined_is ∙ (ap (λ b. if b then i.w.aim else i.w.joined) (joins got.response got.at) ∙ unjoined)

  -- a head of its own exchange leaves it there
  head_unjoined : (c y : ℕ) (k : Consumer) (response : Response) (i : IsOwn t c y k) → t.consumer c ≡ Some k → ev ≡ event.Head y response →
      (consumer_heard t e c ev k).place ≡ place.Direct y → is_joining (case_at t e) ≡ false
  head_unjoined c y k response i row here at = by_row (t.exchange y) i.row (sym (ap (λ v. (consumer_heard t e c v k).place) here) ∙ at)
    where
      by_row : (z : Option Exchange) → z ≡ Some i.w → (by_head t e c y response z k).place ≡ place.Direct y → is_joining (case_at t e) ≡ false
      by_row None none at = absurd (none_some i.w none)
      by_row (Some w) is at = elim (eq_cases w.c c) [
        | inl hit ↦ (left_past c y response k i.w here i.row i.for_it row y
            (subst (λ q. place_by_case y response q k (case_at t e) ≡ place.Direct y) (some_inj w i.w is) (rw hit.0 at at))).2
        | inr off ↦ absurd (off.1 (ap (λ (q : Exchange). q.c) (some_inj w i.w is) ∙ i.for_it))
      ]

  opened_own : (c y : ℕ) (k u : Consumer) (p : Opening) → (d want : ℕ) → ev ≡ event.Poll d want → FreeRow c k u → opening_in e.acts ≡ Some p → p.c ≡ c →
      p.x ≡ y → u.own ≡ Some y
  opened_own c y k u p d want here row opens mine number =
      let h = consumer_heard t e c ev k in
      sym (ap (λ (z : Consumer). z.own) row.is)
      ∙ (own_poll d want here c h.place _ ∙ (ap (λ z. (by_opening t c z (waiting t e c h)).own) opens ∙ by_test))
    where
      by_test : (by_opening t c (Some p) (waiting t e c (consumer_heard t e c ev k))).own ≡ Some y
      by_test = elim (eq_cases p.c c) [
        | inl hit ↦ rw hit.0 (ap Some number)
        | inr off ↦ absurd (off.1 mine)
      ]

  opened_row : (c y : ℕ) (u : Consumer) (p : Opening) → opening_in e.acts ≡ Some p → p.c ≡ c → p.x ≡ y → u.own ≡ Some y → IsOwn now_on c y u
  opened_row c y u p opens mine number own = record {
    w = exchange_opened t e p;
    row = opened_on t e y p (t.exchange y) (new_number step p y opens number) opens number;
    for_it = mine;
    own = own;
  }

  pub head_poll : (x d want : ℕ) (response : Response) → event.Head x response ≡ event.Poll d want → ⊥
  head_poll x d want response is = false_true (ap is_poll is)

  by_poll : (c y : ℕ) (k u : Consumer) (d want : ℕ) → ev ≡ event.Poll d want → FreeRow c k u → PlaceFrom t e c y k.place → IsOwnPast now_on c y u
  unfolding opened_row
  by_poll c y k u d want here row (past.heads response came) = absurd (head_poll y d want response (sym came ∙ here))
  by_poll c y k u d want here row (past.opens p opens mine number) = record {
    its = opened_row c y u p opens mine number (opened_own c y k u p d want here row opens mine number);
    unjoined = refl;
  }
  by_poll c y k u d want here row (past.stood at) =
      let i = g.direct c y k row.row at in
      kept_past c y k u i.its i.unjoined (λ response is. absurd (head_poll y d want response (sym is ∙ here)))
      (own_is c k u row (past_unopened c y k row.row at) ∙
      (own_poll d want here c _ _ ∙ (ap (λ (q : Consumer). q.own) (ap (λ v. consumer_heard t e c v k) here) ∙ i.its.own)))

  by_other : (c y : ℕ) (k u : Consumer) → ((d want : ℕ) → ev ≡ event.Poll d want → ⊥) → FreeRow c k u → u.place ≡ place.Direct y → IsOwnPast now_on c y u
  by_other c y k u unpolled row stands =
      let at : (consumer_heard t e c ev k).place ≡ place.Direct y = sym (heard_place step c 0 0 None by.Plan k u unpolled row) ∙ stands in
      let h = heard_past c y k ev row.row refl at in
      kept_past c y k u h.its h.unjoined (λ response is. head_unjoined c y k response h.its row.row is at)
      (own_is c k u row (unopened unpolled c) ∙ (own_free c _ _ (ap bound_to at) ∙ (h.stays ∙ h.its.own)))

  direct_kept : (c y : ℕ) (u : Consumer) → now_on.consumer c ≡ Some u → u.place ≡ place.Direct y → IsOwnPast now_on c y u
  direct_kept c y u after stands =
      let from = direct_from t e c y (t.consumer c) u refl after stands in
      let f = from.1 in
      let row : FreeRow c from.0 u = record { row = f.row; stays = f.stays; leaves = f.leaves; is = f.is } in
      elim (poll_of ev) [
        | inl poll ↦ by_poll c y from.0 u poll.0 poll.1 poll.2 row f.at
        | inr unpolled ↦ by_other c y from.0 u unpolled row stands
      ]

  -- WITH THE TURN

  made : (c : ℕ) (v : Event) (u : Consumer) → consumer_made c e.now v ≡ Some u → (request : Request) × (new_consumer e.now request ≡ u)
  made c (event.Start d request) u h = elim (eq_cases d c) [
    | inl here ↦ (request, some_inj _ u (rw here.0 at h))
    | inr off ↦ absurd (none_some u (rw off.0 at h))
  ]
  made c _ u h = absurd (none_some u h)

  -- who wasn't there has just started
  pub new_is : (c : ℕ) (q : Option Consumer) (u : Consumer) → q ≡ None → consumer_after t e c q ≡ Some u → (request : Request) ×
      (new_consumer e.now request ≡ u)
  unfolding consumer_after
  new_is c None u none h = made c ev u h
  new_is c (Some k) u none h = absurd (some_none k none)

  pub settled : (c : ℕ) (k u : Consumer) → t.consumer c ≡ Some k → now_on.consumer c ≡ Some u → starts_over t e c k ≡ false →
      due_after t e c k (consumer_acted t e c (consumer_heard t e c ev k)) ≡ u
  settled c k u row after stays =
      let on = is_kept t e c k row in
      let all : consumer_settled t e c k (consumer_acted t e c (consumer_heard t e c ev k)) ≡ u = on.is ∙ same_row (now_on.consumer c) on.u u on.row after in
      rw stays at all

  -- the event leaves it the turn
  heard_turn : (c y : ℕ) (k : Consumer) (v : Event) → t.consumer c ≡ Some k → ev ≡ v → starts_over t e c k ≡ false →
      (consumer_heard t e c v k).place ≡ place.Turn y → consumer_heard t e c v k ≡ k
  heard_turn c y k (event.Head x response) row here stays at = by_row (t.exchange x) refl at
    where
      by_row : (z : Option Exchange) → t.exchange x ≡ z → (by_head t e c x response z k).place ≡ place.Turn y → by_head t e c x response z k ≡ k
      by_row None exchange_row at = refl
      by_row (Some w) exchange_row at = elim (eq_cases w.c c) [
        | inl hit ↦ absurd (turn_left c x response k w here exchange_row hit.1 row y (rw hit.0 at at) stays)
        | inr off ↦ rw off.0 refl
      ]
  heard_turn c y k (event.Fault x) row here stays at = by_row (t.exchange x) at
    where
      by_row : (z : Option Exchange) → (by_fault c x z k).place ≡ place.Turn y → by_fault c x z k ≡ k
      by_row None at = refl
      by_row (Some w) at = elim (bool_cases (w.c == c && is_none w.head && not k.shown)) [
        | inl hit ↦ absurd (down_turn _ y (rw hit at at))
        | inr off ↦ rw off refl
      ]
  heard_turn c y k (event.Cancel d) row here stays at = elim (bool_cases (d == c)) [
    | inl hit ↦ absurd (over_turn y (rw hit at at))
    | inr off ↦ rw off refl
  ]
  heard_turn c y k _ row here stays at = refl

  -- an open exchange of who has the turn has no head
  pub turn_bare : (c y : ℕ) (k : Consumer) (w : Exchange) → t.consumer c ≡ Some k → k.place ≡ place.Turn y → k.own ≡ Some y → t.exchange y ≡ Some w →
      w.is_open ≡ true → w.head ≡ None
  turn_bare c y k w row at own exchange_row on = by_head_of w.head refl
    where
      reading_not : IsReading y k.place → ⊥
      reading_not (owners.direct is) = turn_direct y y (sym at ∙ is)
      reading_not (owners.bound r lo hi how is) = bound_turn r lo hi how y (sym is ∙ at)

      by_head_of : (q : Option Response) → w.head ≡ q → w.head ≡ None
      by_head_of None is = is
      by_head_of (Some response) is = absurd (reading_not (o.reading c y k w row own exchange_row on (ap (λ (q : Option Response). is_some q) is)))

  module _ (c y : ℕ) (k u : Consumer) (row : FreeRow c k u) (stands : u.place ≡ place.Turn y) (at : k.place ≡ place.Turn y) where
    i : IsOwnTurn t c y k
    i = g.turn c y k row.row at

    bare : i.its.w.head ≡ None
    bare = turn_bare c y k i.its.w row.row at i.its.own i.its.row i.is_open

    waits : IsWaiter t c y k i.its.w
    waits = waiter_as step c y k i.its.w row.row i.its.row i.its.for_it i.is_open bare

    unopened_turn : Unopened c
    unopened_turn p opens mine = no_opening step c y k i.its.w waits p opens mine

    heard_at : ((d want : ℕ) → ev ≡ event.Poll d want → ⊥) → (consumer_heard t e c ev k).place ≡ place.Turn y
    heard_at unpolled = sym (heard_place step c 0 0 None by.Plan k u unpolled row) ∙ stands

    heard_is : consumer_heard t e c ev k ≡ k
    heard_is = elim (poll_of ev) [
      | inl poll ↦ ap (λ v. consumer_heard t e c v k) poll.2
      | inr unpolled ↦ heard_turn c y k ev row.row refl row.stays (heard_at unpolled)
    ]

    own_stays : u.own ≡ Some y
    own_stays =
        own_is c k u row unopened_turn
        ∙ (own_free c _ _ (ap (λ (q : Consumer). bound_to q.place) heard_is ∙ ap bound_to at) ∙ (ap (λ (q : Consumer). q.own) heard_is ∙ i.its.own))

    -- THE EVENT ISN'T ONE OF ITS EXCHANGE

    cancelled : ev ≡ event.Cancel c → ⊥
    cancelled here =
        let none : (d want : ℕ) → ev ≡ event.Poll d want → ⊥ = λ d want is. false_true (ap is_poll (sym here ∙ is)) in
        let is : (consumer_heard t e c (event.Cancel c) k).place ≡ place.Turn y = sym (ap (λ v. (consumer_heard t e c v k).place) here) ∙ heard_at none in
        elim (eq_cases c c) [
          | inl hit ↦ over_turn y (rw hit.0 at is)
          | inr off ↦ off.1 refl
        ]

    headed_not : (response : Response) → ev ≡ event.Head y response → ⊥
    headed_not response here =
        by_row (t.exchange y) i.its.row
        (sym (ap (λ v. (consumer_heard t e c v k).place) here) ∙ heard_at (λ d want is. false_true (ap is_poll (sym here ∙ is))))
      where
        by_row : (z : Option Exchange) → z ≡ Some i.its.w → (by_head t e c y response z k).place ≡ place.Turn y → ⊥
        by_row None none is = none_some i.its.w none
        by_row (Some w) same is = elim (eq_cases w.c c) [
          | inl hit ↦ turn_left c y response k i.its.w here i.its.row i.its.for_it row.row y
              (subst (λ q. place_by_case y response q k (case_at t e) ≡ place.Turn y) (some_inj w i.its.w same) (rw hit.0 at is)) row.stays
          | inr off ↦ off.1 (ap (λ (q : Exchange). q.c) (some_inj w i.its.w same) ∙ i.its.for_it)
        ]

    unshown : k.shown ≡ false
    unshown = never_true k.shown (λ on. a.unturned c y k row.row at on)

    faulted_not : ev ≡ event.Fault y → ⊥
    faulted_not here =
        by_row (t.exchange y) i.its.row
        (sym (ap (λ v. (consumer_heard t e c v k).place) here) ∙ heard_at (λ d want is. false_true (ap is_poll (sym here ∙ is))))
      where
        by_row : (z : Option Exchange) → z ≡ Some i.its.w → (by_fault c y z k).place ≡ place.Turn y → ⊥
        by_row None none is = none_some i.its.w none
        by_row (Some w) same is = elim (eq_cases w.c c) [
          | inl hit ↦ down_turn _ y (rw (hit.0, ap (λ (q : Exchange). q.head) (some_inj w i.its.w same) ∙ bare, unshown) at is)
          | inr off ↦ off.1 (ap (λ (q : Exchange). q.c) (some_inj w i.its.w same) ∙ i.its.for_it)
        ]

    piece_refused : (bytes : List ℕ) → denial t (event.Piece y bytes) ≡ None → ⊥
    unfolding refusals.refusal_of
    piece_refused bytes h =
        let got = taken (length bytes) i.its.w (sym (ap (λ z. piece_refusal (as_open z) (length bytes)) i.its.row) ∙ h) in
        false_true (sym (ap (λ (z : Option Response). is_some z) bare) ∙ got.headed)

    end_refused : denial t (event.End y) ≡ None → ⊥
    unfolding refusals.refusal_of
    end_refused h = let b : i.its.w.head ≡ None = bare in let on : i.its.w.is_open ≡ true = i.is_open in let there : t.exchange y ≡ Some i.its.w =
        i.its.row in never _ (rw (there, on, b) at h)

    not_its : (v : Event) → ev ≡ v → exchange_in v ≡ Some y → ⊥
    not_its (event.Head x response) here is = headed_not response (here ∙ ap (λ n. event.Head n response) (some_inj x y is))
    not_its (event.Piece x bytes) here is = piece_refused bytes (sym (ap (denial t) (here ∙ ap (λ n. event.Piece n bytes) (some_inj x y is))) ∙ goes)
    not_its (event.End x) here is = end_refused (sym (ap (denial t) (here ∙ ap event.End (some_inj x y is))) ∙ goes)
    not_its (event.Fault x) here is = faulted_not (here ∙ ap event.Fault (some_inj x y is))
    not_its _ here is = none_some y is

    turn_on : IsOwnTurn now_on c y u
    turn_on =
        let off = unclosed step c y k i.its.w waits (not_its ev refl) cancelled row.leaves row.stays in
        let un = is_untouched t e y i.its.w i.its.row (not_its ev refl) off in
        let on = is_on t e y i.its.w i.its.row in
        let one : on.u ≡ un.u = same_row (now_on.exchange y) on.u un.u on.row un.row in
        record {
          its = record { w = un.u; row = un.row; for_it = sym (ap (λ (q : Exchange). q.c) one) ∙ (on.same.c_is ∙ i.its.for_it); own = own_stays };
          is_open = un.open_is ∙ i.is_open;
        }

  turn_step : (c : ℕ) (k u : Consumer) → t.consumer c ≡ Some k → now_on.consumer c ≡ Some u → (p : Place) → StaysOrPlain t e c k p → (y : ℕ) →
      p ≡ place.Turn y → FreeRow c k u
  turn_step c k u row after p (places.stayed stays leaves) y is = record { row = row; stays = stays; leaves = leaves; is = settled c k u row after stays }
  turn_step c k u row after p (places.is_plain plain) y is = absurd (subst places.IsPlain is plain)

  turn_from : (c y : ℕ) (k u : Consumer) → FreeRow c k u → u.place ≡ place.Turn y → (p : Place) → ComesFrom t e c k p → p ≡ place.Turn y →
      IsOwnTurn now_on c y u
  unfolding opened_row
  turn_from c y k u row stands _ (places.kept) is = turn_on c y k u row stands is
  turn_from c y k u row stands _ (places.plain p plain) is = absurd (subst places.IsPlain is plain)
  turn_from c y k u row stands _ (places.turned p opens mine way) is =
      let op = is_opened step p opens in
      let number : p.x ≡ y = cc in
      record { its = opened_row c y u p opens mine number (opened_own c y k u p p.c op.want op.at row opens mine number); is_open = refl }
  turn_from c y k u row stands _ _ is = cc

  turn_row : (c y : ℕ) (u : Consumer) (q : Option Consumer) → t.consumer c ≡ q → now_on.consumer c ≡ Some u → u.place ≡ place.Turn y → IsOwnTurn now_on c y u
  turn_row c y u None row after stands = absurd (line_turn y (sym (sym (ap (λ (z : Consumer). z.place) (new_is c (t.consumer c) u row after).1)) ∙ stands))
  turn_row c y u (Some k) row after stands =
      let its = is_after t e c k u row after in
      turn_from c y k u (turn_step c k u row after u.place its.stays y stands) stands u.place its.from stands

  pub own_kept : AreOwn now_on
  own_kept = record {
    direct = λ c y u after stands. direct_kept c y u after stands;
    turn = λ c y u after stands. turn_row c y u (t.consumer c) refl after stands;
  }
