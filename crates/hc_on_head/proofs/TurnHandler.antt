-- A 304 that may be about what is stored: it is answered.
--
-- A 304 has no body, so its exchange is over with it, and by its case the consumer has the turn (`at_turn`). Where what
-- it is about is still current, the entry tells whether it is selected (`reports_selected`). If so, the head is renewed
-- and the consumer let through (`validated_answered`). If not, the rows stay, and it is answered as other heads are
-- (`answered_on`). `validate` joins these; where the store fails, `LoseTurn` has it.
use Rattle.std.{proofs.{Common.{◌≡◌, inl, inr, ℕ, ◌≤◌, List, [], ◌∷◌, ◌++◌, Bool, true, false, Option, Some, None, Result, Ok, refl, ap, ap₂, sym, ◌∙◌, subst, arith}, Math.Logic.{∥∥₁_map}, lemmas.Bool.Decides.{nat_tests}}, specs.{Prelude.{is_some, IfOk, IsSomeAnd, nat_eq, map, option_map, not, ◌||◌, if◌then◌else◌}, HashMap.{get}}}
use Rattle.hc_text.proofs.Basics.{eqb-other, eqb-same, false_true, same_or}
use Rattle.hc_store.specs.declared.{backend.Backend.{Ghosts}, error.StoreError.{StoreError}}
use Rattle.hc_effects.proofs.Vocabulary.{Act, Event, Request, Response, Limits, head_case, length_of, is_head, is_same_number, head_refusal, head_view, validates, current, row_of, denial, with_event, all_closed, with_answer, with_consumer, with_representation, with_refreshed_head, unless_ended, promise_in, is_reached, IsAwaiting, Tables, Exchange, Representation, act, event, case, route, by, place}
use Rattle.hc_record.specs.Head.{Head}
use Rattle.hc_validate.specs.Selection.{selects}
use Rattle.hc_stored.specs.{Entries.{shelf_of}, Kept.{Kept, with_head}}
use Rattle.hc_stored.specs.Shelf as shelf
use Rattle.hc_entry.specs.Keys.{kept_of}
use Rattle.hc_exch.specs.{declared.row.Open.{Open}, Exchanges.{table_of}, Known.{open_view, length_by, without_exchange}}
use Rattle.hc_exch.specs.Exchanges as exch
use Rattle.hc_model.specs.Cases.{selects_row}
use Rattle.hc_model.specs.Owners as owners
use Rattle.hc_model.specs.Rows as rows
use Rattle.hc_effects.proofs.{KeysKeep.{current_row}, PollKeeps.{current_stays}, UpdateEffects.{validated}, Tests.{and_false, none_some}}
use Rattle.hc_state.specs.{declared.rows.Rows.{Rows}, Handlers.{IsInKey}, Facts.{Facts}, Heads.{AwaitsHead, IsAskedBy, IsUnread, unless_over}, Renewals.{KeepsBeside, IsSelected, renewed_head}, Stands.{Answered, KeepsRest, RowsStand, Stands}, Stored.{KeepsEntry, IsEntry, is_usable_kept}}
use Rattle.hc_state.proofs.{Answering.{does_answered}, Counting.{stands_counted}, Maps.{merely_true}, ReaderSteps.{answered_since, stands_read}}
use Rattle.hc_on_head.specs.{declared.arrival.Arrival.{Arrival}, Comings.{MayCome}}
use Rattle.hc_on_leave.proofs.{HeadCases.{it_is, case_selected, case_unselected}, HeardRows.{Asker, headless_of, runs_as}, RefuseHandler.{stands_refused, closes_as}, UnstoredHandlers.{beside, unread_then, unwritten}}
use Rattle.hc_on_head.proofs.{HeadReported.{past_of_runs}, RenewedHandler.{stands_renewed}}

-- WHERE WHAT IS STORED STAYS

pub stands_unrenewed : {B : Type 0} {g : Ghosts B} {limits : Limits} (r u : Rows B g) (t : Tables) → KeepsBeside r u →
    shelf.Stays (shelf_of r.entries) (shelf_of u.entries) → RowsStand limits r t → RowsStand limits u t
stands_unrenewed r u t rest same stands = stands_read r u t rest.last_start rest.consumers rest.exchanges rest.keys same stands

pub past_unrenewed : {B : Type 0} {g : Ghosts B} (r u : Rows B g) → KeepsBeside r u → shelf.Stays (shelf_of r.entries) (shelf_of u.entries) → Stands r →
    Stands u
past_unrenewed r u rest same p = record {
  limits = p.limits;
  t = p.t;
  facts = p.facts;
  numbers = p.numbers;
  within_limits = p.within_limits;
  received = p.received;
  rows = stands_unrenewed r u _ rest same p.rows;
}

-- WHAT IS CURRENT STILL

-- one that is current is kept
pub kept_current : {B : Type 0} {g : Ghosts B} {limits : Limits} (r : Rows B g) (t : Tables) (key : List ℕ) (q : ℕ) (v : Representation) →
    RowsStand limits r t → t.representation q ≡ Some v → v.is_gone ≡ false → (e : Kept) × ((shelf_of r.entries).kept q ≡ Some e) × IsEntry t q e v
kept_current r t key q v stands row stays =
    by_kept ((shelf_of r.entries).kept q) refl (subst (KeepsEntry t q ((shelf_of r.entries).kept q)) row (stands.entries.each q))
  where
    by_kept : (k : Option Kept) → (shelf_of r.entries).kept q ≡ k → KeepsEntry t q k (Some v) → (e : Kept) × ((shelf_of r.entries).kept q ≡ Some e) ×
        IsEntry t q e v
    by_kept None at keeps = false_true (sym stays ∙ keeps.gone)
    by_kept (Some e) at keeps = (e, at, keeps)

-- the same head selects, whatever is told of its length
pub selects_same : (t : Tables) (q : ℕ) (e : Kept) (v : Representation) (response : Response) → IsEntry t q e v →
    selects e.head response ≡ selects v.head response
selects_same t q e v response is = ap (λ (h : Head). selects h response) is.head

module _ {B : Type 0} {g : Ghosts B} {limits : Limits} (r mid thr u : Rows B g) (t : Tables) (facts : Facts limits t) (stands : RowsStand limits r t)
    (now x : ℕ) (response : Response) (goes : denial t (event.Head x response) ≡ None) (w : Exchange) (a : Asker r t x w)
    (unselected : head_case (record (head_view t false w response) { selects = false }) ≡ case.NotValidated) (q : ℕ) (v : Representation)
    (aim : w.aim ≡ Some q) (cur : current t w.request.key ≡ Some q) (row : t.representation q ≡ Some v) (before out : List Act) where
  abbrev ev : Event
  ev = event.Head x response

  abbrev aw : AwaitsHead t x w a.v
  aw = a.awaits

  pub at_turn : a.v.place ≡ place.Turn x
  at_turn = by_at a.at
    where
      by_at : IsAwaiting x w a.v.place → a.v.place ≡ place.Turn x
      by_at (owners.direct way stood) = absurd (let never : route.Direct ≡ route.Turn = sym way ∙ (it_is (head_view t false w response) unselected).0 in cc)
      by_at (owners.turn way stood) = stood
      by_at (owners.hole n lo hi how way named stood) =
          absurd (let never : route.Hole ≡ route.Turn = sym way ∙ (it_is (head_view t false w response) unselected).0 in cc)

  -- a 304 has no body
  bodiless : is_reached (promise_in w response) 0 ≡ true
  unfolding length_of
  bodiless = (let status = (it_is (head_view t false w response) unselected).1 in rw (status, or_last (is_head w.request)) refl)
    where
      or_last : (b : Bool) → (b || false || true) ≡ true
      or_last true = refl
      or_last false = refl

  ended : unless_ended x response w ≡ []
  ended = ap (λ (b : Bool). if b then [] else x ∷ []) bodiless

  -- IT SELECTS WHAT IS STORED

  abbrev z : rows.Consumer
  z = record a.v { place = place.Passed q (Some x) }

  abbrev m : Tables
  m = with_representation q (Some (with_refreshed_head now response w v)) t

  abbrev moved : Tables
  moved = with_consumer w.c (Some z) m

  founds_none : t.representation x ≡ None
  founds_none = facts.law.sound.numbered.names.unfounded x w aw.row aw.headless

  unfounded : moved.representation x ≡ None
  unfounded = grind (arith, nat_tests, same_or, none_some, founds_none, row, eqb-other)

  unread : IsUnread moved x w
  unread =
      unread_then t facts.law x w a.v aw moved z (rw (eqb-same w.c) refl) (λ d n is ne. inl (sym (beside m w.c d (Some z) ne) ∙ is)) aw.row unfounded
      (λ n lo hi h. (let never : place.Passed q (Some x) ≡ place.Bound n lo hi (by.FirstHole x) = h in absurd (cc)))
      (λ h. (let never : place.Passed q (Some x) ≡ place.Direct x = h in absurd (cc)))

  pub validated_answered : selects v.head response ≡ true → RowsStand limits thr moved → out ≡ before ++
      map act.Close (unless_over x (length_by (table_of thr.exchanges x).running response)) → KeepsRest thr u → u.consumers ≡ thr.consumers →
      exch.Becomes without_exchange x thr.exchanges u.exchanges
      → Answered limits (shelf_of r.entries).faults u t before out now ev
  validated_answered on stood reported rest consumers becomes =
      let is = case_selected (head_view t false w response) unselected (rw (cur, aim, eqb-same q, row) on) refl in
      let reports = reported ∙ (ap (λ (ys : List ℕ). before ++ map act.Close ys) (closes_as thr moved x w response stood aw.row aw.is_open ∙ ended)) in
      does_answered limits (shelf_of r.entries).faults u t (with_event now ev (with_consumer w.c (Some z) (with_answer now x response w.joined w m)))
      before out [] now ev
      (validated limits t facts.law now x response goes w aw.row a.v aw.asker q v aim row is) (unwritten t now x response w case.Validated aw.row is refl)
      refl reports
      (stands_counted u _ now ev refl
      (subst (λ (ys : List ℕ). RowsStand limits u (all_closed ys (with_answer now x response w.joined w moved))) ended
      (stands_refused thr u moved now x response w stood unread rest consumers becomes)))

  -- IT DOESN'T

  pub unselected_case : selects v.head response ≡ false → head_case (head_view t false w response) ≡ case.NotValidated
  unselected_case off = case_unselected (head_view t false w response) unselected (rw (cur, aim, eqb-same q, row) off)

-- FROM WHAT THE CODE LOOKED UP

pub not_still : (a b : Option ℕ) → None ≡ (if is_same_number a b then b else None) → is_same_number a b ≡ false
not_still a b is = grind (arith, nat_tests)

pub still : (a b : Option ℕ) (q : ℕ) → Some q ≡ (if is_same_number a b then b else None) → (a ≡ Some q) × (b ≡ Some q)
still a b q is = grind (arith, nat_tests)

-- what is current is kept
pub record IsStill {B : Type 0} {g : Ghosts B} (r : Rows B g) (t : Tables) (key : List ℕ) (q : ℕ) : Type 0 where
  pub cur : current t key ≡ Some q
  pub v : Representation
  pub row : t.representation q ≡ Some v
  pub e : Kept
  pub kept : (shelf_of r.entries).kept q ≡ Some e
  pub is : IsEntry t q e v

pub still_kept : {B : Type 0} {g : Ghosts B} {limits : Limits} (r : Rows B g) (t : Tables) (key : List ℕ) (q : ℕ) → RowsStand limits r t →
    (kept_of r.keys key).current ≡ Some q → IsStill r t key q
still_kept r t key q stands is =
    let cur : current t key ≡ Some q = sym (stands.keys key).current ∙ is in
    let found = current_row t q key cur in
    let k = kept_current r t key q found.0 stands found.1 (current_stays t key q found.0 cur found.1) in
    record { cur = cur; v = found.0; row = found.1; e = k.0; kept = k.1; is = k.2 }

pub there_still : {B : Type 0} {g : Ghosts B} (r : Rows B g) (key : List ℕ) (q : ℕ) → ∥ Stands r ∥₁ → (kept_of r.keys key).current ≡ Some q →
    shelf.is_kept (shelf_of r.entries) q ≡ true
there_still r key q some_past is = merely_true (shelf.is_kept (shelf_of r.entries) q) some_past
    (λ p. (let s = past_of_runs r p in let k = still_kept r s.0 key q s.2 is in ap (λ z. is_some z) k.kept))

pub usable_still : {B : Type 0} {g : Ghosts B} (r : Rows B g) (key : List ℕ) (q : ℕ) → ∥ Stands r ∥₁ → (kept_of r.keys key).current ≡ Some q →
    is_usable_kept ((shelf_of r.entries).kept q) ≡ true
usable_still r key q some_past is = merely_true (is_usable_kept ((shelf_of r.entries).kept q)) some_past
    (λ p. (let s = past_of_runs r p in let k = still_kept r s.0 key q s.2 is in ap is_usable_kept k.kept ∙
    ap not (k.is.is_gone ∙ current_stays s.0 key q k.v k.cur k.row)))

-- the exchange's key, as the code has it
pub key_heard : {B : Type 0} {g : Ghosts B} (r : Rows B g) (x : ℕ) (aim : Option ℕ) (found : Option ℕ) →
    head_refusal (option_map open_view (table_of r.exchanges x).running) ≡ None
    → ((o : Open) → (table_of r.exchanges x).running ≡ Some o → found ≡ (if is_same_number (kept_of r.keys o.request.key).current aim then aim else None))
    → (o : Open) × ((table_of r.exchanges x).running ≡ Some o) × (found ≡ (if is_same_number (kept_of r.keys o.request.key).current aim then aim else None))
key_heard r x aim found accepted reports = let h = headless_of (table_of r.exchanges x).running accepted in (h.o, h.there, reports h.o h.there)

-- where it isn't current any more, nothing is selected
pub unstill_as : {B : Type 0} {g : Ghosts B} {limits : Limits} (r : Rows B g) (t : Tables) (x : ℕ) (o : Open) (w : Exchange) (aim : Option ℕ)
    (response : Response) → RowsStand limits r t → (table_of r.exchanges x).running ≡ Some o → t.exchange x ≡ Some w → aim ≡ w.aim
    → is_same_number (kept_of r.keys o.request.key).current aim ≡ false → validates t w response ≡ false
unstill_as r t x o w aim response stands there row about off = grind (arith, nat_tests)

-- ALL BUT WHAT IS KEPT OF REPRESENTATIONS STAYS

module _ {B : Type 0} {g : Ghosts B} (r mid : Rows B g) (rest : KeepsBeside r mid) where
  pub waits_on : (c : ℕ) → IsSomeAnd (get nat_eq r.consumers c) (IsInKey r.keys c) → IsSomeAnd (get nat_eq mid.consumers c) (IsInKey mid.keys c)
  waits_on c waits = (let consumers = rest.consumers in let same_keys = rest.keys in rw (consumers, same_keys) waits)

  accepted_on : (x : ℕ) → head_refusal (option_map open_view (table_of r.exchanges x).running) ≡ None →
      head_refusal (option_map open_view (table_of mid.exchanges x).running) ≡ None
  accepted_on x accepted = (let exchanges = rest.exchanges in rw exchanges accepted)

  asked_on : (c x : ℕ) → IsAskedBy c (table_of r.exchanges x).running → IsAskedBy c (table_of mid.exchanges x).running
  asked_on c x asked = (let exchanges = rest.exchanges in rw exchanges asked)

  -- what is heard then
  pub heard_on : (heard : Arrival) → shelf.Stays (shelf_of r.entries) (shelf_of mid.entries) → MayCome r heard → MayCome mid heard
  heard_on heard same comes = record {
    stands = ∥∥₁_map comes.stands (λ p. past_unrenewed r mid rest same p);
    accepted = accepted_on heard.x comes.accepted;
    asker = asked_on heard.c heard.x comes.asker;
    live = ap (λ z. is_some (get nat_eq z heard.c)) rest.consumers ∙ comes.live;
  }

  -- what is answered from then on
  pub answered_on : {limits : Limits} (u : Rows B g) (t : Tables) (before out : List Act) (now : ℕ) (ev : Event) →
      (shelf_of r.entries).faults ≤ (shelf_of mid.entries).faults → Answered limits (shelf_of mid.entries).faults u t before out now ev →
      Answered limits (shelf_of r.entries).faults u t before out now ev
  answered_on {limits = limits} u t before out now ev le it =
      answered_since limits (shelf_of r.entries).faults (shelf_of mid.entries).faults u t before out now ev le it

-- WHAT IT SELECTED

pub selected_of : {B : Type 0} {g : Ghosts B} (r mid : Rows B g) (x now q : ℕ) (response : Response) (result : Result Bool StoreError) (b : Bool) →
    result ≡ Ok b → IfOk result (IsSelected r mid x now q response) → IsSelected r mid x now q response b
selected_of r mid x now q response result b is ok = subst (λ z. IfOk z (IsSelected r mid x now q response)) is ok

-- what the exchange was opened about is current still, and kept
pub record IsCurrentStill {B : Type 0} {g : Ghosts B} (r : Rows B g) (t : Tables) (w : Exchange) (q : ℕ) : Type 0 where
  pub cur : current t w.request.key ≡ Some q
  pub named : w.aim ≡ Some q
  pub v : Representation
  pub row : t.representation q ≡ Some v
  pub e : Kept
  pub kept : (shelf_of r.entries).kept q ≡ Some e
  pub is : IsEntry t q e v

pub current_still : {B : Type 0} {g : Ghosts B} {limits : Limits} (r : Rows B g) (t : Tables) (x : ℕ) (o : Open) (w : Exchange) (aim : Option ℕ) (q : ℕ) →
    RowsStand limits r t → (table_of r.exchanges x).running ≡ Some o → t.exchange x ≡ Some w → aim ≡ w.aim
    → Some q ≡ (if is_same_number (kept_of r.keys o.request.key).current aim then aim else None) → IsCurrentStill r t w q
current_still r t x o w aim q stands there row about reports =
    let runs = runs_as r t x o w stands there row in
    let found = still (kept_of r.keys o.request.key).current aim q reports in
    let s = still_kept r t o.request.key q stands found.0 in
    record {
      cur = ap (λ (n : Request). current t n.key) (sym runs.request) ∙ s.cur;
      named = sym about ∙ found.1;
      v = s.v;
      row = s.row;
      e = s.e;
      kept =
          s.kept;
      is = s.is;
    }

module _ {B : Type 0} {g : Ghosts B} {limits : Limits} (r mid : Rows B g) (t : Tables) (x now : ℕ) (o : Open) (w : Exchange) (q : ℕ) (response : Response)
    (stands : RowsStand limits r t) (there : (table_of r.exchanges x).running ≡ Some o) (row : t.exchange x ≡ Some w) (s : IsCurrentStill r t w q) where
  pub reports_selected : (b : Bool) → IsSelected r mid x now q response b → b ≡ selects s.v.head response
  reports_selected b sel = sel.reports s.e s.kept ∙ selects_same t q s.e s.v response s.is

  pub stands_selected : IsSelected r mid x now q response true → RowsStand limits mid (with_representation q (Some (with_refreshed_head now response w s.v)) t)
  stands_selected sel =
      let runs = runs_as r t x o w stands there row in
      stands_renewed r mid t now response w q s.v s.e s.row stands sel.rest s.kept
      (subst (λ (n : ℕ). shelf.Becomes (option_map (with_head (renewed_head n now response.fields s.e.head))) shelf.same_order q (shelf_of r.entries)
      (shelf_of mid.entries)) runs.moment (sel.head o there s.e s.kept))
