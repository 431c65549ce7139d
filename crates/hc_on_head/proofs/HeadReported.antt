-- What the code looked up of a head is what the tables say: its consumer, its case, what it dooms and lets go.
--
-- An exchange that may be heard is open without a head, for a live consumer (`heard_as`). By `HeadViews` the code's
-- case of the head is that of the tables. Each property is then read off by cases: a bad head has a bad case, and only
-- a head past the store dooms. What is let go is what the exchange was opened about, where its role tells that
-- (`goes_by`). `reported_as`, `reported_unselected` and `reported_dooming` join these for `take_head`.
use Rattle.std.{proofs.{lemmas.Bool.Decides.{nat_tests}, Common.{arith, ◌≡◌, ◌⊎◌, inl, inr, ℕ, List, Bool, true, false, Option, Some, None, refl, ap, ap₂, sym, ◌∙◌, subst}}, specs.{Prelude.{IsTrue, is_some, nat_eq, nat_lt, option_map, IsSomeAnd, ◌&&◌, ◌||◌, if◌then◌else◌}, HashMap.{get}}}
use Rattle.hc_text.proofs.Basics.{and_both as both_of, false_true, same_some as same_row, some_inj as some_is}
use Rattle.hc_effects.proofs.Vocabulary.{brings_part, brings_whole, Limits, Request, Response, HeadCase, HeadView, Route, head_case, case_on, is_bad, route_of, head_refusal, Place, head_view, is_founding, current, doomed_by_case, changes, is_headless, is_in_line, Tables, Exchange, awaited_exchange, case, route, place, by}
use Rattle.hc_store.specs.declared.backend.Backend.{Ghosts}
use Rattle.hc_fields.specs.FieldList.{IsWithinLimits}
use Rattle.hc_rules.proofs.{RangeReads.{bytes_eq-same}, Statuses.{part_is_no_whole}}
use Rattle.hc_stored.specs.Entries.{shelf_of}
use Rattle.hc_entry.specs.{Keys.{kept_of, line_of}, Lines.{is_in}}
use Rattle.hc_text.specs.Sorted.{is_among}
use Rattle.hc_exch.specs.{declared.row.{ExchangeView.{ExchangeView}, Open.{Open}}, Exchanges.{table_of}, Known.{open_view, view_of, length_by}}
use Rattle.hc_effects.proofs.{FoundBy.{CaseBy, case_by, turn_direct}, Basics.{some_row}, Tests.{none_some}}
use Rattle.hc_effects.proofs.FoundBy as cases
use Rattle.hc_state.specs.{declared.rows.Rows.{Rows}, Handlers.{IsInKey}, Facts.{Facts}, Founding.{MayFound}, Heads.{aim_in, kept_at, heard_view, changes_by, is_past_case, is_bad_case, IsPastStore, puts_down, goes_past, starts_anew, let_go_by, goes_with}, Kept.{IsRunning}, Lines.{is_away, is_away_at}, Stands.{RowsStand, Stands}}
use Rattle.hc_txn.specs.declared.transaction.Transaction.{Transaction as Consumer}
use Rattle.hc_on_leave.proofs.{HeadCases.{it_is}, HeardRows.{Asker, Headless, asker, headless_of, heard_row, runs_as}, UnstoredHandlers.{awaits_viewed}}
use Rattle.hc_on_head.specs.Comings.{MayCome, IsPast, is_unused}
use Rattle.hc_on_head.proofs.HeadViews.{case_is, aim_is, view_is as views_as}
use Rattle.hc_state.proofs.{KeySteps.{lined}, Maps.{merely_true, some_that}}

-- A BAD HEAD IS OF A BAD CASE

bad_on : (way : Route) (v : HeadView) → v.bad ≡ true → is_bad_case (case_on way v) ≡ true
bad_on way v bad = grind (arith, nat_tests)

bad_shows : (v : HeadView) → v.bad ≡ true → is_bad_case (head_case v) ≡ true
unfolding head_case
bad_shows v bad = bad_on (route_of v.need) v bad

-- a head of another case is good
good_case : (v : HeadView) (k : HeadCase) → k ≡ head_case v → is_bad_case k ≡ false → v.bad ≡ false
good_case v k is off = grind (arith, nat_tests, bad_shows)

pub good_reported : (running : Option Open) (o : Open) (c : Option Consumer) (response : Response) (k : HeadCase) (kept : Option _) → running ≡ Some o →
    is_some c ≡ true → ((q : Open) (u : Consumer) → running ≡ Some q → c ≡ Some u → k ≡ head_case (heard_view q u kept response)) → is_bad_case k ≡ false
    → is_bad (length_by running response) ≡ false
good_reported running o c response k kept there lives reports off =
    let u = some_row c lives in
    ap (λ (z : Option Open). is_bad (length_by z response)) there ∙ good_case (heard_view o u.0 kept response) k (reports o u.0 there u.1) off

-- WHO WAITS FOR IT

-- what the code looked up of the exchange
pub viewed_as : (x : ℕ) (running : Option Open) (o : Open) (found : Option ExchangeView) (v : ExchangeView) → running ≡ Some o →
    found ≡ option_map (view_of x) running → found ≡ Some v → v ≡ view_of x o
viewed_as x running o found v there is at = sym (some_is (view_of x o) v (sym (ap (option_map (view_of x)) there) ∙ (sym is ∙ at)))

module _ {B : Type 0} {g : Ghosts B} {limits : Limits} (r : Rows B g) (t : Tables) (facts : Facts limits t) (stands : RowsStand limits r t) (x : ℕ)
    (o : Open) (there : (table_of r.exchanges x).running ≡ Some o) (headless : o.headed ≡ false) where
  -- the exchange, and its consumer
  pub record HeardAs : Type 0 where
    pub w : Exchange
    pub row : t.exchange x ≡ Some w
    pub asked : Asker r t x w
    pub for_it : w.c ≡ o.c

  pub heard_as : HeardAs
  heard_as =
      let h = heard_row r t x o stands there in
      record {
        w = h.w;
        row = h.row;
        asked = asker r t facts x h.w stands h.row h.is.is_open (bare h.w.head (sym h.is.headed ∙ headless));
        for_it = sym h.is.c;
      }
    where
      bare : (z : Option Response) → is_some z ≡ false → z ≡ None
      bare None off = refl
      bare (Some response) off = false_true (sym off)

  pub asker_lives : (c : ℕ) → o.c ≡ c → is_some (get nat_eq r.consumers c) ≡ true
  asker_lives c same = (let h = heard_as in ap (λ (z : Option Consumer). is_some z) (ap (get nat_eq r.consumers) (sym (h.for_it ∙ same)) ∙ h.asked.there))

-- whoever waits to found or to join is kept by its key
waits_in_key : {B : Type 0} {g : Ghosts B} {limits : Limits} (r : Rows B g) (t : Tables) (facts : Facts limits t) (stands : RowsStand limits r t) (x : ℕ)
    (w : Exchange) (a : Asker r t x w) → awaited_exchange a.v.place ≡ Some x → is_in w.c (line_of r.keys a.k.request.key) ≡ true
waits_in_key r t facts stands x w a waits = by_place a.v.place refl waits
  where
    key : List ℕ
    key = a.k.request.key

    same_key : key ≡ a.v.request.key
    same_key = ap (λ (q : Request). q.key) a.is.request

    first_on : (p q s : Bool) → p ≡ true → (p || q || s) ≡ true
    first_on true q s on = refl
    first_on false q s on = false_true on

    last_on : (p q s : Bool) → s ≡ true → (p || q || s) ≡ true
    last_on true q s on = refl
    last_on false true s on = refl
    last_on false false s on = on

    in_line : is_in_line key (Some a.v) ≡ true → is_in w.c (line_of r.keys key) ≡ true
    in_line on = first_on (is_among w.c (kept_of r.keys key).in_line) (is_among w.c (kept_of r.keys key).passed) (is_among w.c (kept_of r.keys key).away)
        ((stands.keys key).in_line w.c ∙ (ap (is_in_line key) a.awaits.asker ∙ on))

    away : is_away t key (Some a.v) ≡ true → is_in w.c (line_of r.keys key) ≡ true
    away on = last_on (is_among w.c (kept_of r.keys key).in_line) (is_among w.c (kept_of r.keys key).passed) (is_among w.c (kept_of r.keys key).away)
        ((stands.keys key).away w.c ∙ (ap (is_away t key) a.awaits.asker ∙ on))

    by_place : (p : Place) → a.v.place ≡ p → awaited_exchange p ≡ Some x → is_in w.c (line_of r.keys key) ≡ true
    by_place (place.Turn y) at on =
        let queues = facts.law.places.turn_queues w.c y a.v a.awaits.asker at in
        in_line (ap (λ k. is_in_line k (Some a.v)) same_key ∙ lined a.v (ap Rattle.hc_model.specs.Lines.stands_in_line at) queues.cached queues.asks)
    by_place (place.Bound q lo hi (by.FirstHole y)) at on =
        let same_y : y ≡ x = some_is y x on in
        let opened = a.awaits.is_open in
        let headless = a.awaits.headless in
        let waits : is_headless (t.exchange y) ≡ true = ap (λ (n : ℕ). is_headless (t.exchange n)) same_y ∙
        (ap is_headless a.awaits.row ∙ rw (opened, headless) refl) in
        away (ap₂ ◌&&◌ (bytes_eq-same a.v.request.key key (sym same_key)) (ap (is_away_at t) at ∙ waits))
    by_place _ at on = none_some x on

-- WHAT IS TOLD OF IT

-- it dooms nothing
doomless_as : (w : Exchange) (response : Response) (k : HeadCase) → (is_past_case k && changes w response) ≡ false → doomed_by_case (Some k) w response ≡ None
doomless_as w response k off = grind (arith, nat_tests)

turn_apart : (way : Route) → way ≡ route.Turn → way ≡ route.Direct → ⊥
turn_apart way turn is = let never : route.Turn ≡ route.Direct = sym turn ∙ is in cc

hole_apart : (way : Route) → way ≡ route.Hole → way ≡ route.Direct → ⊥
hole_apart way hole is = let never : route.Hole ≡ route.Direct = sym hole ∙ is in cc

-- what goes with it depends on what it is about only where that is told
goes_by : (now aim about : Option ℕ) (status : ℕ) (v : HeadView) (k : HeadCase) → CaseBy v k → ((route_of v.need ≡ route.Direct → ⊥) → aim ≡ about) →
    let_go_by now aim status k ≡ let_go_by now about status k
goes_by now aim about status v _ (cases.not_validated way s) same = same (turn_apart (route_of v.need) way)
goes_by now aim about status v _ (cases.first_changed way shown) same = same (hole_apart (route_of v.need) way)
goes_by now aim about status v _ (cases.first_passes_by way shown) same = same (hole_apart (route_of v.need) way)
goes_by now aim about status v _ (cases.later_changed way shown) same =
    ap (λ (o : Option ℕ). if nat_lt status 500 then o else None) (same (hole_apart (route_of v.need) way))
goes_by now aim about status v _ (cases.first_replaced way shown s kept good) same = same (hole_apart (route_of v.need) way)
goes_by now aim about status v _ _ same = refl

-- the row of its exchange, its case, and what goes with it
pub record Reported (t : Tables) (x : ℕ) (response : Response) (k : HeadCase) (goes : Option ℕ) : Type 0 where
  pub w : Exchange
  pub row : t.exchange x ≡ Some w
  pub is : head_case (head_view t false w response) ≡ k
  pub doomless : doomed_by_case (Some k) w response ≡ None
  pub same : goes ≡ goes_with t w response k

module _ {B : Type 0} {g : Ghosts B} {limits : Limits} (r : Rows B g) (t : Tables) (facts : Facts limits t) (stands : RowsStand limits r t) (x c : ℕ)
    (o : Open) (there : (table_of r.exchanges x).running ≡ Some o) (headless : o.headed ≡ false) (same_c : o.c ≡ c) (response : Response) (k : HeadCase)
    (reports : (q : Open) (u : Consumer) → (table_of r.exchanges x).running ≡ Some q → get nat_eq r.consumers c ≡ Some u →
    k ≡ head_case (heard_view q u (kept_at (shelf_of r.entries) (aim_in o.role)) response)) where
  h : HeardAs r t facts stands x o there headless
  h = heard_as r t facts stands x o there headless

  here : get nat_eq r.consumers c ≡ Some h.asked.k
  here = ap (get nat_eq r.consumers) (sym (h.for_it ∙ same_c)) ∙ h.asked.there

  runs : IsRunning t x o h.w
  runs = runs_as r t x o h.w stands there h.row

  -- whoever is to start anew waits in its key
  pub waits_reported : starts_anew k ≡ true → (u : Consumer) → get nat_eq r.consumers c ≡ Some u → is_in c (line_of r.keys u.request.key) ≡ true
  waits_reported on u at =
      let one = same_row (get nat_eq r.consumers c) h.asked.k u here at in
      let view : HeadView = heard_view o h.asked.k (kept_at (shelf_of r.entries) (aim_in o.role)) response in
      let waits = waits_in_key r t facts stands x h.w h.asked
      (awaits_viewed x h.w h.asked.v view k runs.need h.asked.is.shown h.asked.stands on (reports o h.asked.k there here)) in
      subst (λ (n : ℕ). is_in n (line_of r.keys u.request.key) ≡ true) (h.for_it ∙ same_c)
      (subst (λ (q : Consumer). is_in h.w.c (line_of r.keys q.request.key) ≡ true) one waits)

  module _ (apart : k ≡ case.NotValidated → ⊥) where
    is_reported : head_case (head_view t false h.w response) ≡ k
    is_reported = case_is r t facts stands x h.w h.asked o there response k (reports o h.asked.k there here) apart

    current_as : (kept_of r.keys o.request.key).current ≡ current t h.w.request.key
    current_as = (stands.keys o.request.key).current ∙ ap (λ (q : Request). current t q.key) runs.request

    pub reported_of : (goes : Option ℕ) → (is_past_case k && changes_by o.request response) ≡ false →
        goes ≡ let_go_by (kept_of r.keys o.request.key).current (aim_in o.role) response.status k → Reported t x response k goes
    reported_of goes off goes_is = record {
      w = h.w;
      row = h.row;
      is = is_reported;
      doomless = doomless_as h.w response k (ap (λ (q : Request). is_past_case k && changes_by q response) (sym runs.request) ∙ off);
      same = goes_is
          ∙ (ap (λ (n : Option ℕ). let_go_by n (aim_in o.role) response.status k) current_as
          ∙ goes_by (current t h.w.request.key) (aim_in o.role) h.w.aim response.status (head_view t false h.w response) k
          (subst (CaseBy (head_view t false h.w response)) is_reported (case_by (head_view t false h.w response)))
          (λ past. aim_is r t facts stands x h.w h.asked o there response (route_of h.w.need) refl past));
    }

-- A HEAD THAT DOOMS

-- one past the store
past_way : (v : HeadView) (k : HeadCase) → CaseBy v k → is_past_case k ≡ true → route_of v.need ≡ route.Direct
past_way v k it2 on = grind (arith, nat_tests)

-- it is bad, or is taken
pub taken_case : (k : HeadCase) → is_past_case k ≡ true → (k ≡ case.DirectBad → ⊥) → k ≡ case.DirectTaken
taken_case k on off = grind (arith, nat_tests)

past_apart : (k : HeadCase) → is_past_case k ≡ true → k ≡ case.NotValidated → ⊥
past_apart k on is = false_true (sym (ap is_past_case is) ∙ on)

-- the row of its exchange and its case, and that it may have changed something
pub record ReportedDooming (t : Tables) (x : ℕ) (response : Response) (k : HeadCase) : Type 0 where
  pub w : Exchange
  pub row : t.exchange x ≡ Some w
  pub is : head_case (head_view t false w response) ≡ k
  pub unsafe : changes w response ≡ true

-- A 304 TO A CONDITIONAL REQUEST

-- the row of its exchange, what that is about, and that it may select that
pub record ReportedUnselected (t : Tables) (x : ℕ) (response : Response) (aim : Option ℕ) : Type 0 where
  pub w : Exchange
  pub row : t.exchange x ≡ Some w
  pub about : aim ≡ w.aim
  pub is : head_case (record (head_view t false w response) { selects = false }) ≡ case.NotValidated

-- A HEAD THAT FOUNDS

-- by a whole or a part
founds_status : (v : HeadView) (k : HeadCase) → CaseBy v k → is_founding (Some k) ≡ true → IsTrue (brings_whole v.status || brings_part v.status)
founds_status v _ (cases.founds_whole way s kept good) on = rw s refl
founds_status v _ (cases.founds_range way s fits kept good) on = (let other = part_is_no_whole v.status s in rw (other, s) refl)
founds_status v _ (cases.first_replaced way shown s kept good) on = rw s refl
founds_status v _ _ on = false_true on

-- BY WHAT THE CODE LOOKED UP

module _ {B : Type 0} {g : Ghosts B} (r : Rows B g) (x : ℕ) (response : Response) (found : Option ExchangeView) (v : ExchangeView) (aim : Option ℕ)
    (k : HeadCase) (accepted : head_refusal (option_map open_view (table_of r.exchanges x).running) ≡ None)
    (viewed : found ≡ option_map (view_of x) (table_of r.exchanges x).running) (some : found ≡ Some v) (about : aim ≡ aim_in v.role)
    (reports : (q : Open) (u : Consumer) → (table_of r.exchanges x).running ≡ Some q → get nat_eq r.consumers v.c ≡ Some u →
    k ≡ head_case (heard_view q u (kept_at (shelf_of r.entries) aim) response)) where
  bare : Headless (table_of r.exchanges x).running
  bare = headless_of (table_of r.exchanges x).running accepted

  view_is : v ≡ view_of x bare.o
  view_is = viewed_as x (table_of r.exchanges x).running bare.o found v bare.there viewed some

  aim_as : aim ≡ aim_in bare.o.role
  aim_as = about ∙ ap (λ (z : ExchangeView). aim_in z.role) view_is

  for_c : bare.o.c ≡ v.c
  for_c = sym (ap (λ (z : ExchangeView). z.c) view_is)

  reports_as : (q : Open) (u : Consumer) → (table_of r.exchanges x).running ≡ Some q → get nat_eq r.consumers v.c ≡ Some u →
      k ≡ head_case (heard_view q u (kept_at (shelf_of r.entries) (aim_in bare.o.role)) response)
  reports_as q u there at = reports q u there at ∙ ap (λ (a : Option ℕ). head_case (heard_view q u (kept_at (shelf_of r.entries) a) response)) aim_as

  pub good_as : is_some (get nat_eq r.consumers v.c) ≡ true → is_bad_case k ≡ false → is_bad (length_by (table_of r.exchanges x).running response) ≡ false
  good_as lives off = good_reported (table_of r.exchanges x).running bare.o (get nat_eq r.consumers v.c) response k (kept_at (shelf_of r.entries) aim)
      bare.there lives reports off

  pub founds_as : is_some (get nat_eq r.consumers v.c) ≡ true → IsWithinLimits response.fields → is_founding (Some k) ≡ true → MayFound response
  founds_as lives within_limits on =
      let u = some_row (get nat_eq r.consumers v.c) lives in
      let view : HeadView = heard_view bare.o u.0 (kept_at (shelf_of r.entries) aim) response in
      record {
        status = founds_status view k (subst (CaseBy view) (sym (reports bare.o u.0 bare.there u.1)) (case_by view)) on;
        within_limits = within_limits;
      }

  pub waits_as_reported : ∥ Stands r ∥₁ → ((p : Stands r) → (t : Tables) × Facts p.limits t × RowsStand p.limits r t) →
      is_some (get nat_eq r.consumers v.c) ≡ true → starts_anew k ≡ true → IsSomeAnd (get nat_eq r.consumers v.c) (IsInKey r.keys v.c)
  waits_as_reported some_past past lives on =
      let u = some_row (get nat_eq r.consumers v.c) lives in
      some_that (get nat_eq r.consumers v.c) u.0 (IsInKey r.keys v.c) u.1
      (merely_true (is_in v.c (line_of r.keys u.0.request.key)) some_past
      (λ p. (let s = past p in waits_reported r s.0 s.1 s.2 x v.c bare.o bare.there bare.headless for_c response k reports_as on u.0 u.1)))

  pub reported_as : {limits : Limits} (t : Tables) (facts : Facts limits t) (stands : RowsStand limits r t) (d : Bool) (goes : Option ℕ) →
      ((q : Open) → (table_of r.exchanges x).running ≡ Some q → d ≡ (is_past_case k && changes_by q.request response)) → d ≡ false
      → ((q : Open) → (table_of r.exchanges x).running ≡ Some q → goes ≡ let_go_by (kept_of r.keys q.request.key).current aim response.status k) →
      (k ≡ case.NotValidated → ⊥) → Reported t x response k goes
  reported_as t facts stands d goes dooms off goes_is apart =
      reported_of r t facts stands x v.c bare.o bare.there bare.headless for_c response k reports_as apart goes (sym (dooms bare.o bare.there) ∙ off)
      (goes_is bare.o bare.there ∙ ap (λ (a : Option ℕ). let_go_by (kept_of r.keys bare.o.request.key).current a response.status k) aim_as)

  -- where it may select what is stored
  pub reported_unselected : {limits : Limits} (t : Tables) (facts : Facts limits t) (stands : RowsStand limits r t) → k ≡ case.NotValidated →
      ReportedUnselected t x response aim
  reported_unselected t facts stands is_k =
      let e = h r t facts stands x v.c bare.o bare.there bare.headless for_c response k reports_as in
      let its = here r t facts stands x v.c bare.o bare.there bare.headless for_c response k reports_as in
      let unselected : head_case (record (head_view t false e.w response) { selects = false }) ≡ case.NotValidated =
      sym (ap head_case (views_as r t facts stands x e.w e.asked bare.o bare.there response)) ∙ (sym (reports_as bare.o e.asked.k bare.there its) ∙ is_k) in
      record {
        w = e.w;
        row = e.row;
        about = aim_as ∙ aim_is r t facts stands x e.w e.asked bare.o bare.there response route.Turn (it_is (head_view t false e.w response) unselected).0
            turn_direct;
        is = unselected;
      }

  -- where it dooms
  module _ (d : Bool) (dooms : (q : Open) → (table_of r.exchanges x).running ≡ Some q → d ≡ (is_past_case k && changes_by q.request response))
      (on : d ≡ true) where
    parts : ((is_past_case k ≡ true) × (changes_by bare.o.request response ≡ true))
    parts = both_of (is_past_case k) (changes_by bare.o.request response) (sym (dooms bare.o bare.there) ∙ on)

    past_store : is_some (get nat_eq r.consumers v.c) ≡ true → IsPastStore (table_of r.exchanges x).running
    past_store lives = λ q there.
        let u = some_row (get nat_eq r.consumers v.c) lives in
        let view : HeadView = heard_view q u.0 (kept_at (shelf_of r.entries) aim) response in
        past_way view k (subst (CaseBy view) (sym (reports q u.0 there u.1)) (case_by view)) parts.0

    pub past_as : (now : ℕ) → is_some (get nat_eq r.consumers v.c) ≡ true → IsPast r (record { now = now; x = x; c = v.c }) k response
    past_as now lives = record { opened = past_store lives; case_is = parts.0; good = good_as lives }

    pub reported_dooming : {limits : Limits} (t : Tables) (facts : Facts limits t) (stands : RowsStand limits r t) → ReportedDooming t x response k
    reported_dooming t facts stands =
        let e = h r t facts stands x v.c bare.o bare.there bare.headless for_c response k reports_as in
        record {
          w = e.w;
          row = e.row;
          is = is_reported r t facts stands x v.c bare.o bare.there bare.headless for_c response k reports_as (past_apart k parts.0);
          unsafe = ap (λ (q : Request). changes_by q response) (sym (runs_as r t x bare.o e.w stands bare.there e.row).request) ∙ parts.1;
        }

-- a head that puts down lets nothing go
pub downs_none : (t : Tables) (w : Exchange) (response : Response) (k : HeadCase) → puts_down k ≡ true → None ≡ goes_with t w response k
downs_none t w response k on = grind (arith, nat_tests)

-- WHICH CASE IT IS

pub down_case : (k : HeadCase) → (k ≡ case.DirectBad) ⊎ ((k ≡ case.TurnBad) ⊎ (k ≡ case.FirstBad)) → puts_down k ≡ true
down_case k it1 = grind (arith, nat_tests)

pub past_case : (k : HeadCase) → (k ≡ case.TurnServerError) ⊎ ((k ≡ case.PassesBy) ⊎ ((k ≡ case.FirstServerError) ⊎ (k ≡ case.FirstPassesBy))) →
    goes_past k ≡ true
past_case k it1 = grind (arith, nat_tests)

pub good_past : (k : HeadCase) → (k ≡ case.TurnServerError) ⊎ ((k ≡ case.PassesBy) ⊎ ((k ≡ case.FirstServerError) ⊎ (k ≡ case.FirstPassesBy))) →
    is_bad_case k ≡ false
good_past k it1 = grind (arith, nat_tests)

pub anew_case : (k : HeadCase) → (k ≡ case.NotValidated) ⊎ (k ≡ case.FirstChanged) → starts_anew k ≡ true
anew_case k it1 = grind (arith, nat_tests)

-- SOME PAST

pub past_of_runs : {B : Type 0} {g : Ghosts B} (r : Rows B g) (s : Stands r) → (t : Tables) × Facts s.limits t × RowsStand s.limits r t
past_of_runs r s = (s.t, s.facts, s.rows)

-- its consumer is kept
pub live_now : {B : Type 0} {g : Ghosts B} (r : Rows B g) (x : ℕ) (found : Option ExchangeView) (v : ExchangeView) →
    head_refusal (option_map open_view (table_of r.exchanges x).running) ≡ None → found ≡ option_map (view_of x) (table_of r.exchanges x).running →
    found ≡ Some v → ∥ Stands r ∥₁
    → is_some (get nat_eq r.consumers v.c) ≡ true
live_now r x found v accepted viewed some some_past =
    let bare = headless_of (table_of r.exchanges x).running accepted in
    let view_is = viewed_as x (table_of r.exchanges x).running bare.o found v bare.there viewed some in
    merely_true (is_some (get nat_eq r.consumers v.c)) some_past
    (λ p. (let s = past_of_runs r p in asker_lives r s.0 s.1 s.2 x bare.o bare.there bare.headless v.c (sym (ap (λ (z : ExchangeView). z.c) view_is))))

-- its exchange is open without a head, for its consumer
pub heard_now : {B : Type 0} {g : Ghosts B} (r : Rows B g) (now x : ℕ) (found : Option ExchangeView) (v : ExchangeView) →
    head_refusal (option_map open_view (table_of r.exchanges x).running) ≡ None → found ≡ option_map (view_of x) (table_of r.exchanges x).running →
    found ≡ Some v → ∥ Stands r ∥₁
    → MayCome r (record { now = now; x = x; c = v.c })
heard_now r now x found v accepted viewed some some_past = record {
  stands = some_past;
  accepted = accepted;
  asker = λ o there. sym (ap (λ (z : ExchangeView). z.c) (viewed_as x (table_of r.exchanges x).running o found v there viewed some));
  live = live_now r x found v accepted viewed some some_past;
}

pub unused_case : (k : HeadCase) →
    (k ≡ case.DirectBad) ⊎ ((k ≡ case.TurnBad) ⊎ ((k ≡ case.FirstBad) ⊎ ((k ≡ case.FirstChanged) ⊎ ((k ≡ case.LaterBad) ⊎ (k ≡ case.LaterChanged))))) →
    is_unused k ≡ true
unused_case k it1 = grind (arith, nat_tests)
