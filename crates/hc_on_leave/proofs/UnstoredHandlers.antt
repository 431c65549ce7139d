-- Heads of which nothing is stored are answered.
--
-- A type lists the cases that the code treats alike, and an effect says for each what the tables become. At a bad head
-- who waits for it fails. Where what is stored isn't what was asked about, who waits starts over; where a head was
-- shown already, a failure is due. Other answers go on past the store. That nobody reads the exchange (`IsUnread`), or
-- this consumer alone (`IsReadAlone`), has the work. `take_case` and its parts use this.
use Rattle.std.{proofs.{lemmas.{Bool.Decides.{nat_tests}, List.{append-nil}}, Common.{arith, ◌≡◌, ◌≢◌, ◌⊎◌, inl, inr, ℕ, List, [], ◌∷◌, ◌++◌, Bool, true, false, Option, Some, None, refl, ap, sym, ◌∙◌, subst}}, specs.Prelude.{is_some, map, ◌||◌, if◌then◌else◌}}
use Rattle.hc_text.proofs.Basics.{eqb-other, eqb-same, false_true, same_or, same_some as same_row, some_inj as some_is}
use Rattle.hc_store.specs.declared.backend.Backend.{Ghosts}
use Rattle.hc_effects.proofs.Vocabulary.{Act, Cause, Event, Response, HeadCase, HeadView, Route, Limits, route_of, head_case, length_of, is_bad, is_head, BoundBy, head_view, was_shown, is_founding, back_in_line, denial, doomed_by_case, changes, Does, with_event, let_some_go, tables_after_close, all_closed, with_consumer, with_exchange, with_answer, unless_ended, entry_without_acts, is_reached, is_headless, promise_in, NoFlaw, flaw_in, Lawful, StandsFor, MayLetGo, Tables, Exchange, awaited_exchange, write_in, act, cause, event, case, route, write, by, place}
use Rattle.hc_stored.specs.Entries.{shelf_of}
use Rattle.hc_exch.specs.{Exchanges.{table_of}, Known.{length_by, without_exchange}}
use Rattle.hc_exch.specs.Exchanges as exch
use Rattle.hc_model.specs.Laws as laws
use Rattle.hc_model.specs.Rows as rows
use Rattle.hc_effects.proofs.{FirstKeeps.{case_is}, FoundBy.{CaseBy, case_by}, HeadFacts.{stays_open, undue}, LettingGo.{may_let_go}, Tests.{none_some}, UpdateEffects.{unchanged}}
use Rattle.hc_effects.proofs.FoundBy as cases
use Rattle.hc_effects.proofs.HeadEffects as does
use Rattle.hc_state.specs.{declared.rows.Rows.{Rows}, Changes.{ChangesAt}, Facts.{Facts}, Heads.{AwaitsHead, IsBare, IsReadAlone, IsUnread, puts_down, goes_past, starts_anew, breaks_off, broken_by, goes_with, unless_over}, Stands.{Answered, KeepsRest, RowsStand}}
use Rattle.hc_txn.specs.Transactions.{with_due}
use Rattle.hc_state.proofs.{Answering.{does_answered}, Counting.{stands_counted}}
use Rattle.hc_on_leave.proofs.{AskerHandler.{unended}, DueHandler.{stands_due}, HeardRows.{Asker, waits_as}, RefuseHandler.{stands_refused, closes_as}}

-- THE EXCHANGE, WHERE ITS CONSUMER STANDS ELSEWHERE

-- another consumer stays
pub beside : (t : Tables) (c d : ℕ) (row : Option rows.Consumer) → c ≢ d → (with_consumer c row t).consumer d ≡ t.consumer d
beside t c d row ne = rw (eqb-other c d ne) refl

-- whoever else stands somewhere stood there, or stands in line

module _ (t : Tables) (law : Lawful t) (x : ℕ) (w : Exchange) (v : rows.Consumer) (awaits : AwaitsHead t x w v) (m : Tables) (z : rows.Consumer)
    (here : m.consumer w.c ≡ Some z) (since : (d : ℕ) (u : rows.Consumer) → m.consumer d ≡ Some u → w.c ≢ d → (t.consumer d ≡ Some u) ⊎ (u.place ≡ place.Line))
    (row : m.exchange x ≡ Some w) (unfounded : m.representation x ≡ None)
    (unfirst : (q lo : ℕ) (hi : Option ℕ) → z.place ≡ place.Bound q lo hi (by.FirstHole x) → ⊥) where
  it : (d : ℕ) (u : rows.Consumer) → m.consumer d ≡ Some u → w.c ≡ d → z ≡ u
  it d u is e = some_is z u (sym here ∙ (ap m.consumer e ∙ is))

  its : (d : ℕ) (e : Exchange) → t.exchange x ≡ Some e → e.c ≡ d → w.c ≡ d
  its d e at for_it = ap (λ (q : Exchange). q.c) (same_row (t.exchange x) w e awaits.row at) ∙ for_it

  pub bare_then : IsBare m x w
  bare_then = record {
    row = row;
    is_open = awaits.is_open;
    headless = awaits.headless;
    empty = (law.sound.waits.headless x w awaits.row awaits.headless).0;
    unended = (let a = waits_as t law x w v awaits in unended t law x w awaits.row awaits.is_open awaits.headless v awaits.asker a.own a.at);
    unjoined = (law.sound.waits.headless x w awaits.row awaits.headless).1;
    unfounded = unfounded;
    unbound = λ d q lo hi u is at. elim (same_or w.c d) [
      | inl e ↦ unfirst q lo hi (ap (λ (k : rows.Consumer). k.place) (it d u is e) ∙ at)
      | inr ne ↦ elim (since d u is ne) [
        | inl was ↦ (let first = law.owned.first_own d q lo x hi u was at in ne (its d first.w first.row first.for_it))
        | inr lined ↦ absurd (let never : place.Line ≡ place.Bound q lo hi (by.FirstHole x) = sym lined ∙ at in cc)
      ]
    ];
  }

  only : (d : ℕ) (u : rows.Consumer) → m.consumer d ≡ Some u → u.place ≡ place.Direct x → w.c ≡ d
  only d u is at = elim (same_or w.c d) [
    | inl e ↦ e
    | inr ne ↦ elim (since d u is ne) [
      | inl was ↦ (let reads = law.places.direct d x u was at in its d reads.w reads.row reads.for_it)
      | inr lined ↦ absurd (let never : place.Line ≡ place.Direct x = sym lined ∙ at in cc)
    ]
  ]

  pub unread_then : (z.place ≡ place.Direct x → ⊥) → IsUnread m x w
  unread_then apart = record { bare = bare_then; unread = λ d u is at. apart (ap (λ (k : rows.Consumer). k.place) (it d u is (only d u is at)) ∙ at) }

  pub read_then : z.place ≡ place.Direct x → z.shown ≡ false → IsReadAlone m x w z
  read_then at unshown = record { bare = bare_then; asker = here; at = at; unshown = unshown; only = λ d u is stood. sym (only d u is stood) }

-- WHAT MAY BE LET GO THEN

-- whoever stands elsewhere waits for nothing that is stored
pub may_moved : (t : Tables) (c : ℕ) (v z : rows.Consumer) → t.consumer c ≡ Some v → ((q : ℕ) (kept : Option ℕ) → z.place ≡ place.Passed q kept → ⊥) →
    MayLetGo t → MayLetGo (with_consumer c (Some z) t)
may_moved t c v z row unpassed may = record {
  one_current = may.one_current;
  founded = may.founded;
  started = λ d there. may.started d (elim (same_or c d) [
    | inl e ↦ ap (λ o. is_some o) (ap t.consumer (sym e) ∙ row)
    | inr ne ↦ ap (λ o. is_some o) (sym (others d ne)) ∙ there
  ]);
  waits = λ d q kept k is at. elim (same_or c d) [
    | inl e ↦ absurd (unpassed q kept (ap (λ (u : rows.Consumer). u.place) (some_is z k (sym (here e) ∙ is)) ∙ at))
    | inr ne ↦ (let w = may.waits d q kept k (sym (others d ne) ∙ is) at in
        record { v = w.v; row = w.row; key_is = w.key_is; not_gone = w.not_gone; queues = w.queues })
  ];
}
  where
    m : Tables
    m = with_consumer c (Some z) t

    others : (d : ℕ) → c ≢ d → (with_consumer c (Some z) t).consumer d ≡ t.consumer d
    others d ne = rw (eqb-other c d ne) refl

    here : {d : ℕ} → c ≡ d → (with_consumer c (Some z) t).consumer d ≡ Some z
    here {d} e = rw (e, eqb-same d) refl

pub may_heard : (t : Tables) (x : ℕ) (row : Option Exchange) → MayLetGo t → MayLetGo (with_exchange x row t)
may_heard t x row may = record {
  one_current = may.one_current;
  founded = may.founded;
  started = may.started;
  waits = λ d q kept k is at.
      (let w = may.waits d q kept k is at in record { v = w.v; row = w.row; key_is = w.key_is; not_gone = w.not_gone; queues = w.queues });
}

may_closed : (t : Tables) (x : ℕ) → MayLetGo t → MayLetGo (tables_after_close x t)
may_closed t x may = record {
  one_current = may.one_current;
  founded = may.founded;
  started = may.started;
  waits = λ d q kept k is at.
      (let w = may.waits d q kept k is at in record { v = w.v; row = w.row; key_is = w.key_is; not_gone = w.not_gone; queues = w.queues });
}

pub may_refused : (t : Tables) (x : ℕ) (b : Bool) → MayLetGo t → MayLetGo (all_closed (if b then [] else x ∷ []) t)
may_refused t x true may = may
may_refused t x false may = may_closed t x may

-- WHAT IS WRITTEN

-- what founds nothing writes nothing
pub unwritten : (t : Tables) (now x : ℕ) (response : Response) (w : Exchange) (g : HeadCase) → t.exchange x ≡ Some w →
    head_case (head_view t false w response) ≡ g → is_founding (Some g) ≡ false → write_in
    t (entry_without_acts now (event.Head x response)) (event.Head x response) ≡ None
unwritten t now x response w g row is off =
    ap (λ (h : Option HeadCase). if is_founding h then Some write.Slot else None)
    (case_is t (entry_without_acts now (event.Head x response)) x response w refl row ∙ ap Some is) ∙ rw off refl

no_doom : (b : Bool) (w : Exchange) → (if b then Some w.request.key else None) ≡ None → b ≡ false
no_doom b w none = grind (arith, nat_tests)

-- A BAD HEAD

-- why whoever waits for it is to fail
data Bad : HeadCase → Type 0 where
  direct : Bad case.DirectBad
  turn : Bad case.TurnBad
  first : Bad case.FirstBad

bad_of : (g : HeadCase) → puts_down g ≡ true → Bad g
bad_of case.DirectBad on = direct
bad_of case.TurnBad on = turn
bad_of case.FirstBad on = first
bad_of _ on = false_true on

bad_founds : (k : HeadCase) → Bad k → is_founding (Some k) ≡ false
bad_founds _ direct = refl
bad_founds _ turn = refl
bad_founds _ first = refl

-- WHOEVER WAITS STARTS OVER

data Anew : HeadCase → Type 0 where
  unselected : Anew case.NotValidated
  changed : Anew case.FirstChanged

anew_of : (g : HeadCase) → starts_anew g ≡ true → Anew g
anew_of case.NotValidated on = unselected
anew_of case.FirstChanged on = changed
anew_of _ on = false_true on

anew_founds : (k : HeadCase) → Anew k → is_founding (Some k) ≡ false
anew_founds _ unselected = refl
anew_founds _ changed = refl

-- where it stands that waits to found or to join
first_awaits : (x : ℕ) (v : rows.Consumer) (way : Route) → StandsFor x v way → way ≡ route.Hole → v.shown ≡ false → awaited_exchange v.place ≡ Some x
first_awaits x v way it3 is off = grind (arith, nat_tests)

turn_awaits : (x : ℕ) (v : rows.Consumer) (way : Route) → StandsFor x v way → way ≡ route.Turn → awaited_exchange v.place ≡ Some x
turn_awaits x v way it3 is = grind (arith, nat_tests)

anew_awaits : (x : ℕ) (w : Exchange) (v : rows.Consumer) (h : HeadView) (k : HeadCase) → h.need ≡ w.need → h.shown ≡ v.shown →
    StandsFor x v (route_of w.need) → Anew k → CaseBy h k → awaited_exchange v.place ≡ Some x
anew_awaits x w v h _ needs shows stands unselected (cases.not_validated way status) = turn_awaits x v (route_of w.need) stands (ap route_of (sym needs) ∙ way)
anew_awaits x w v h _ needs shows stands changed (cases.first_changed way shown) =
    first_awaits x v (route_of w.need) stands (ap route_of (sym needs) ∙ way) (sym shows ∙ shown)

-- whoever starts over waits in its key
pub awaits_viewed : (x : ℕ) (w : Exchange) (v : rows.Consumer) (h : HeadView) (k : HeadCase) → h.need ≡ w.need → h.shown ≡ v.shown →
    StandsFor x v (route_of w.need) → starts_anew k ≡ true → k ≡ head_case h → awaited_exchange v.place ≡ Some x
awaits_viewed x w v h k needs shows stands on is = anew_awaits x w v h k needs shows stands (anew_of k on) (subst (CaseBy h) (sym is) (case_by h))

pub awaits_anew : (t : Tables) (x : ℕ) (w : Exchange) (v : rows.Consumer) (response : Response) (k : HeadCase) → t.consumer w.c ≡ Some v →
    StandsFor x v (route_of w.need) → starts_anew k ≡ true → head_case (head_view t false w response) ≡ k → awaited_exchange v.place ≡ Some x
awaits_anew t x w v response k asker stands on is = awaits_viewed x w v (head_view t false w response) k refl (ap was_shown asker) stands on (sym is)

-- WHOEVER WAS SHOWN A HEAD READS ON

data Later : HeadCase → Type 0 where
  later_bad : Later case.LaterBad
  later_changed : Later case.LaterChanged

later_of : (g : HeadCase) → breaks_off g ≡ true → Later g
later_of case.LaterBad on = later_bad
later_of case.LaterChanged on = later_changed
later_of _ on = false_true on

later_founds : (k : HeadCase) → Later k → is_founding (Some k) ≡ false
later_founds _ later_bad = refl
later_founds _ later_changed = refl

later_reported : {h : HeadView} → CaseBy h case.LaterBad → h.bad ≡ true
later_reported (cases.later_bad way shown bad) = bad

-- it is bound, and was shown a head
record Reader (v : rows.Consumer) : Type 0 where
  r : ℕ
  lo : ℕ
  hi : Option ℕ
  how : BoundBy
  at : v.place ≡ place.Bound r lo hi how
  shown : v.shown ≡ true

shown_reads : (x : ℕ) (v : rows.Consumer) (way : Route) → StandsFor x v way → way ≡ route.Hole → v.shown ≡ true → Reader v
shown_reads x v _ (laws.first q lo hi at unshown) is on = false_true (sym unshown ∙ on)
shown_reads x v _ (laws.later q lo hi how at shown) is on = record { r = q; lo = lo; hi = hi; how = how; at = at; shown = shown }
shown_reads x v _ _ is on = cc

late_reader : (x : ℕ) (w : Exchange) (v : rows.Consumer) (h : HeadView) (k : HeadCase) → h.need ≡ w.need → h.shown ≡ v.shown →
    StandsFor x v (route_of w.need) → Later k → CaseBy h k → Reader v
late_reader x w v h _ needs shows stands later_bad (cases.later_bad way shown bad) =
    shown_reads x v (route_of w.need) stands (ap route_of (sym needs) ∙ way) (sym shows ∙ shown)
late_reader x w v h _ needs shows stands later_changed (cases.later_changed way shown) =
    shown_reads x v (route_of w.need) stands (ap route_of (sym needs) ∙ way) (sym shows ∙ shown)

-- who was shown a head isn't bound by a first hole whose exchange waits for its head
first_over : {limits : Limits} (t : Tables) (facts : Facts limits t) (x c q lo : ℕ) (hi : Option ℕ) (v : rows.Consumer) (w : Exchange) →
    AwaitsHead t x w v → v.shown ≡ true → v.place ≡ place.Bound q lo hi (by.FirstHole x) → ⊥
first_over t facts x c q lo hi v w awaits shown at =
    let f = facts.turns.first_hole w.c q lo x hi v awaits.asker at shown in
    grind (arith, nat_tests)

module _ {B : Type 0} {g : Ghosts B} {limits : Limits} (r mid u : Rows B g) (t : Tables) (facts : Facts limits t) (now x : ℕ) (response : Response)
    (goes : denial t (event.Head x response) ≡ None) (w : Exchange) (v : rows.Consumer) (awaits : AwaitsHead t x w v) (before out : List Act)
    (reported : out ≡ before ++ map act.Close (unless_over x (length_by (table_of mid.exchanges x).running response))) (rest : KeepsRest mid u)
    (consumers : u.consumers ≡ mid.consumers) (becomes : exch.Becomes without_exchange x mid.exchanges u.exchanges) where
  abbrev ev : Event
  ev = event.Head x response

  -- with its consumer elsewhere
  abbrev moved : rows.Consumer → Tables
  moved z = with_consumer w.c (Some z) t

  abbrev heard : Tables → Tables
  heard m = with_answer now x response w.joined w m

  unused : (z : rows.Consumer) → ((q lo : ℕ) (hi : Option ℕ) → z.place ≡ place.Bound q lo hi (by.FirstHole x) → ⊥) → (z.place ≡ place.Direct x → ⊥) →
      IsUnread (moved z) x w
  unused z unfirst apart =
      unread_then t facts.law x w v awaits (moved z) z (rw (eqb-same w.c) refl) (λ d u is ne. inl (sym (beside t w.c d _ ne) ∙ is)) awaits.row
      (facts.law.sound.numbered.names.unfounded x w awaits.row awaits.headless) unfirst apart

  module _ (z : rows.Consumer) (stands : RowsStand limits mid (moved z))
      (unfirst : (q lo : ℕ) (hi : Option ℕ) → z.place ≡ place.Bound q lo hi (by.FirstHole x) → ⊥) (apart : z.place ≡ place.Direct x → ⊥) where
    refused : RowsStand limits u (all_closed (unless_ended x response w) (heard (moved z)))
    refused = stands_refused mid u (moved z) now x response w stands (unused z unfirst apart) rest consumers becomes

    acts_are : out ≡ before ++ map act.Close (unless_ended x response w)
    acts_are = reported ∙ ap (λ (ys : List ℕ). before ++ map act.Close ys) (closes_as mid (moved z) x w response stands awaits.row awaits.is_open)

  abbrev Is : HeadCase → Type 0
  Is k = head_case (head_view t false w response) ≡ k

  by_case : (k : HeadCase) → Is k → CaseBy (head_view t false w response) k
  by_case k is = subst (CaseBy (head_view t false w response)) is (case_by (head_view t false w response))

  abbrev down : rows.Consumer
  down = record v { place = place.Down (cause.BadHead x) }

  bad_reported : (k : HeadCase) → Bad k → CaseBy (head_view t false w response) k → is_bad (length_of w.need w.request response) ≡ true
  bad_reported _ direct (cases.direct_bad way bad) = bad
  bad_reported _ turn (cases.turn_bad way bad) = bad
  bad_reported _ first (cases.first_bad way shown bad) = bad

  put_down_does : (k : HeadCase) → Bad k → Is k → doomed_by_case (Some k) w response ≡ None →
      Does limits t now ev NoFlaw (act.Close x ∷ []) (with_event now ev (with_consumer w.c (Some down) (tables_after_close x (heard t))))
  put_down_does _ direct is doomless =
      does.direct_bad limits t facts.law now x response goes w awaits.row v awaits.asker is (no_doom (changes w response) w doomless)
  put_down_does _ turn is doomless = does.turn_bad limits t facts.law now x response goes w awaits.row v awaits.asker is
  put_down_does _ first is doomless = does.first_bad limits t facts.law now x response goes w awaits.row v awaits.asker is

  pub put_down_answered : (k : HeadCase) → puts_down k ≡ true → Is k → doomed_by_case (Some k) w response ≡ None → RowsStand limits mid (moved down) →
      Answered limits (shelf_of r.entries).faults u t before out now ev
  put_down_answered k on is doomless stands =
      let b = bad_of k on in
      let open_still : is_reached (promise_in w response) 0 ≡ false = stays_open w response (bad_reported k b (by_case k is)) in
      let ended : unless_ended x response w ≡ x ∷ [] = rw open_still refl in
      let down_first : (q lo : ℕ) (hi : Option ℕ) → place.Down (cause.BadHead x) ≡ place.Bound q lo hi (by.FirstHole x) → ⊥ = λ q lo hi h. absurd (cc) in
      let down_apart : place.Down (cause.BadHead x) ≡ place.Direct x → ⊥ = λ h. absurd (cc) in
      does_answered limits (shelf_of r.entries).faults u t (with_event now ev (with_consumer w.c (Some down) (tables_after_close x (heard t)))) before out
      (act.Close x ∷ []) now ev (put_down_does k b is doomless)
      (unwritten t now x response w k awaits.row is (bad_founds k b)) refl
      (acts_are down stands down_first down_apart ∙ ap (λ (ys : List ℕ). before ++ map act.Close ys) ended)
      (stands_counted u (with_consumer w.c (Some down) (tables_after_close x (heard t))) now ev refl
      (subst (λ (ys : List ℕ). RowsStand limits u (all_closed ys (heard (moved down)))) ended (refused down stands down_first down_apart)))

  -- WHAT IS STORED ISN'T WHAT WAS ASKED ABOUT

  shut_is : (b : Bool) (z : rows.Consumer) →
      all_closed (if b then [] else x ∷ []) (heard (moved z)) ≡ with_consumer w.c (Some z) (all_closed (if b then [] else x ∷ []) (heard t))
  shut_is b z = grind (arith, nat_tests)

  quiet : (b : Bool) → flaw_in (map act.Close (if b then [] else x ∷ [])) ≡ NoFlaw
  quiet b = grind (arith, nat_tests)

  -- and it isn't used any more
  module _ (f : Rows B g) (gone : Option ℕ) (lets : (m : Tables) → MayLetGo m → RowsStand limits u m → RowsStand limits f (let_some_go now gone m))
      (z : rows.Consumer) (stands : RowsStand limits mid (moved z))
      (unfirst : (q lo : ℕ) (hi : Option ℕ) → z.place ≡ place.Bound q lo hi (by.FirstHole x) → ⊥) (apart : z.place ≡ place.Direct x → ⊥)
      (unpassed : (q : ℕ) (kept : Option ℕ) → z.place ≡ place.Passed q kept → ⊥) where
    may_shut : MayLetGo (all_closed (unless_ended x response w) (heard (moved z)))
    may_shut = may_refused (heard (moved z)) x (is_reached (promise_in w response) 0) (may_heard (moved z) x _ (may_moved t w.c v z awaits.asker unpassed (may_let_go t facts.law)))

    gone_then : RowsStand limits f (let_some_go now gone (with_consumer w.c (Some z) (all_closed (unless_ended x response w) (heard t))))
    gone_then =
        subst (λ (m : Tables). RowsStand limits f (let_some_go now gone m)) (shut_is (is_reached (promise_in w response) 0) z)
        (lets (all_closed (unless_ended x response w) (heard (moved z))) may_shut (refused z stands unfirst apart))

    pub shut_answered : (k : HeadCase) → Is k → is_founding (Some k) ≡ false → gone ≡ goes_with t w response k
        → Does limits t now ev NoFlaw (map act.Close (unless_ended x response w))
        (with_event now ev (let_some_go now (goes_with t w response k) (with_consumer w.c (Some z) (all_closed (unless_ended x response w) (heard t)))))
        → Answered limits (shelf_of r.entries).faults f t before out now ev
    shut_answered k is unfounding same done =
        let m : Tables = with_consumer w.c (Some z) (all_closed (unless_ended x response w) (heard t)) in
        does_answered limits (shelf_of r.entries).faults f t (with_event now ev (let_some_go now (goes_with t w response k) m)) before out
        (map act.Close (unless_ended x response w)) now ev done
        (unwritten t now x response w k awaits.row is unfounding) (quiet (is_reached (promise_in w response) 0)) (acts_are z stands unfirst apart)
        (stands_counted f (let_some_go now (goes_with t w response k) m) now ev refl
        (subst (λ (o : Option ℕ). RowsStand limits f (let_some_go now o m)) same gone_then))

  abbrev back : rows.Consumer
  back = back_in_line now v

  abbrev ShutDoes : HeadCase → rows.Consumer → Type 0
  ShutDoes k z = Does limits t now ev NoFlaw (map act.Close (unless_ended x response w))
      (with_event now ev (let_some_go now (goes_with t w response k) (with_consumer w.c (Some z) (all_closed (unless_ended x response w) (heard t)))))

  -- where it is over with its head, nothing is told
  ended_does : (ys : List ℕ) (goes_on : Option ℕ) (z : rows.Consumer) → unless_ended x response w ≡ ys →
      Does limits t now ev NoFlaw (map act.Close ys) (with_event now ev (let_some_go now goes_on (with_consumer w.c (Some z) (all_closed ys (heard t)))))
      → Does limits t now ev NoFlaw (map act.Close (unless_ended x response w))
      (with_event now ev (let_some_go now goes_on (with_consumer w.c (Some z) (all_closed (unless_ended x response w) (heard t)))))
  ended_does ys goes_on z is done =
      subst (λ (ys : List ℕ). Does limits t now ev NoFlaw (map act.Close ys)
      (with_event now ev (let_some_go now goes_on (with_consumer w.c (Some z) (all_closed ys (heard t)))))) (sym is) done

  -- a 304 has no body
  bodiless : response.status ≡ 304 → unless_ended x response w ≡ []
  unfolding length_of
  bodiless status = grind (arith, nat_tests)

  anew_does : (k : HeadCase) → Anew k → Is k → ShutDoes k back
  anew_does _ unselected is =
      ended_does [] w.aim back (bodiless (unchanged (by_case case.NotValidated is)))
      (does.not_validated limits t facts.law now x response goes w awaits.row v awaits.asker is)
  anew_does _ changed is = does.first_changed limits t facts.law now x response goes w awaits.row v awaits.asker is

  pub anew_answered : (f : Rows B g) (gone : Option ℕ) (k : HeadCase) → starts_anew k ≡ true → Is k → gone ≡ goes_with t w response k →
      RowsStand limits mid (moved back) → ((m : Tables) → MayLetGo m → RowsStand limits u m → RowsStand limits f (let_some_go now gone m)) →
      Answered limits (shelf_of r.entries).faults f t before out now ev
  anew_answered f gone k on is same stands lets =
      shut_answered f gone lets back stands (λ q lo hi h. (let never : place.Line ≡ place.Bound q lo hi (by.FirstHole x) = h in absurd (cc)))
      (λ h. (let never : place.Line ≡ place.Direct x = h in absurd (cc)))
      (λ q kept h. (let never : place.Line ≡ place.Passed q kept = h in absurd (cc))) k is (anew_founds k (anew_of k on)) same (anew_does k (anew_of k on) is)

  -- WHAT WAS SHOWN CAN'T BE COMPLETED

  -- with its failure due
  abbrev late : Cause → rows.Consumer
  late why = record v { due = Some why }

  late_does : (k : HeadCase) → Later k → Is k → ShutDoes k (late (broken_by x k))
  late_does _ later_bad is =
      ended_does (x ∷ []) None (late (cause.BadHead x)) (rw (stays_open w response (later_reported (by_case case.LaterBad is))) refl)
      (does.later_bad limits t facts.law now x response goes w awaits.row v awaits.asker is)
  late_does _ later_changed is = does.later_changed limits t facts.law now x response goes w awaits.row v awaits.asker is

  pub late_answered : (f : Rows B g) (gone : Option ℕ) (k : HeadCase) → StandsFor x v (route_of w.need) → breaks_off k ≡ true → Is k →
      gone ≡ goes_with t w response k → RowsStand limits mid (moved (late (broken_by x k))) →
      ((m : Tables) → MayLetGo m → RowsStand limits u m → RowsStand limits f (let_some_go now gone m)) →
      Answered limits (shelf_of r.entries).faults f t before out now ev
  late_answered f gone k stood on is same stands lets =
      let l = later_of k on in
      let reader = late_reader x w v (head_view t false w response) k refl (ap was_shown awaits.asker) stood l (by_case k is) in
      shut_answered f gone lets (late (broken_by x k)) stands
      (λ q lo hi h. first_over t facts x w.c q lo hi v w awaits (reader.shown) h)
      (λ h. (let at = reader.at in let never : place.Bound reader.r reader.lo reader.hi reader.how ≡ place.Direct x = sym at ∙ h in absurd (cc)))
      (λ q kept h. (let at = reader.at in let never : place.Bound reader.r reader.lo reader.hi reader.how ≡ place.Passed q kept = sym at ∙ h in absurd (cc)))
      k is (later_founds k l) same (late_does k l is)

-- AN ANSWER THAT GOES ON PAST THE STORE

data Past : HeadCase → Type 0 where
  turn_error : Past case.TurnServerError
  passes : Past case.PassesBy
  first_error : Past case.FirstServerError
  first_passes : Past case.FirstPassesBy

past_of : (g : HeadCase) → goes_past g ≡ true → Past g
past_of case.TurnServerError on = turn_error
past_of case.PassesBy on = passes
past_of case.FirstServerError on = first_error
past_of case.FirstPassesBy on = first_passes
past_of _ on = false_true on

past_founds : (k : HeadCase) → Past k → is_founding (Some k) ≡ false
past_founds _ turn_error = refl
past_founds _ passes = refl
past_founds _ first_error = refl
past_founds _ first_passes = refl

-- whoever has the turn was shown nothing
turn_unshown : (x : ℕ) (v : rows.Consumer) (way : Route) → StandsFor x v way → way ≡ route.Turn → v.shown ≡ false
turn_unshown x v way it3 is = grind (arith, nat_tests)

past_unshown : (x : ℕ) (w : Exchange) (v : rows.Consumer) (h : HeadView) (k : HeadCase) → h.need ≡ w.need → h.shown ≡ v.shown →
    StandsFor x v (route_of w.need) → Past k → CaseBy h k → v.shown ≡ false
past_unshown x w v h _ needs shows stands turn_error (cases.turn_server_error way) = turn_unshown x v (route_of w.need) stands (ap route_of (sym needs) ∙ way)
past_unshown x w v h _ needs shows stands passes (cases.passes_by way) = turn_unshown x v (route_of w.need) stands (ap route_of (sym needs) ∙ way)
past_unshown x w v h _ needs shows stands first_error (cases.first_server_error way shown) = sym shows ∙ shown
past_unshown x w v h _ needs shows stands first_passes (cases.first_passes_by way shown) = sym shows ∙ shown

module _ {B : Type 0} {g : Ghosts B} {limits : Limits} (r mid u : Rows B g) (t : Tables) (facts : Facts limits t) (now x : ℕ) (response : Response)
    (goes : denial t (event.Head x response) ≡ None) (w : Exchange) (v : rows.Consumer) (awaits : AwaitsHead t x w v)
    (stood : StandsFor x v (route_of w.need)) (gone : Option ℕ) (before : List Act) where
  abbrev comes : Event
  comes = event.Head x response

  abbrev past : rows.Consumer
  past = record v { place = place.Direct x }

  abbrev reading : Tables
  reading = with_consumer w.c (Some past) t

  abbrev after : Tables
  after = with_answer now x response w.joined w reading

  past_does : (k : HeadCase) → Past k → head_case (head_view t false w response) ≡ k →
      Does limits t now comes NoFlaw [] (with_event now comes (let_some_go now (goes_with t w response k) after))
  past_does _ turn_error is = does.server_error limits t facts.law now x response goes w awaits.row v awaits.asker is
  past_does _ passes is = does.passes_by limits t facts.law now x response goes w awaits.row v awaits.asker is
  past_does _ first_error is = does.first_server_error limits t facts.law now x response goes w awaits.row v awaits.asker is
  past_does _ first_passes is = does.first_passes_by limits t facts.law now x response goes w awaits.row v awaits.asker is

  shown_is : (head_view t false w response).shown ≡ v.shown
  shown_is = ap was_shown awaits.asker

  pub alone_past : (k : HeadCase) → goes_past k ≡ true → head_case (head_view t false w response) ≡ k → IsReadAlone reading x w past
  alone_past k on is =
      read_then t facts.law x w v awaits reading past (rw (eqb-same w.c) refl) (λ d u is ne. inl (sym (beside t w.c d _ ne) ∙ is)) awaits.row
      (facts.law.sound.numbered.names.unfounded x w awaits.row awaits.headless)
      (λ q lo hi h. (let never : place.Direct x ≡ place.Bound q lo hi (by.FirstHole x) = h in absurd (cc))) refl
      (past_unshown x w v (head_view t false w response) k refl shown_is stood (past_of k on)
      (subst (CaseBy (head_view t false w response)) is (case_by (head_view t false w response))))

  may_after : MayLetGo after
  may_after = may_heard reading x _
      (may_moved t w.c v past awaits.asker (λ q kept h. (let never : place.Direct x ≡ place.Passed q kept = h in absurd (cc))) (may_let_go t facts.law))

  pub past_answered : (k : HeadCase) → goes_past k ≡ true → head_case (head_view t false w response) ≡ k → gone ≡ goes_with t w response k →
      RowsStand limits mid after → (MayLetGo after → RowsStand limits mid after → RowsStand limits u (let_some_go now gone after)) →
      Answered limits (shelf_of r.entries).faults u t before before now comes
  past_answered k on is same stands lets =
      does_answered limits (shelf_of r.entries).faults u t (with_event now comes (let_some_go now (goes_with t w response k) after)) before before [] now
      comes (past_does k (past_of k on) is)
      (unwritten t now x response w k awaits.row is (past_founds k (past_of k on))) refl (sym (append-nil before))
      (stands_counted u (let_some_go now (goes_with t w response k) after) now comes refl
      (subst (λ (o : Option ℕ). RowsStand limits u (let_some_go now o after)) same (lets may_after stands)))

-- the failure of the case becomes due
pub due_then : {B : Type 0} {g : Ghosts B} {limits : Limits} (r mid : Rows B g) (t : Tables) (facts : Facts limits t) (now x c : ℕ) (response : Response)
    (w : Exchange) (a : Asker r t x w) (why : Cause) (k : HeadCase) → denial t (event.Head x response) ≡ None → RowsStand limits r t → w.c ≡ c →
    why ≡ broken_by x k
    → mid.last_start ≡ r.last_start → mid.exchanges ≡ r.exchanges → mid.keys ≡ r.keys → mid.entries ≡ r.entries →
    ChangesAt r.consumers mid.consumers c (with_due why)
    → RowsStand limits mid (with_consumer w.c (Some (record a.v { due = Some (broken_by x k) })) t)
due_then {limits = limits} r mid t facts now x c response w a why k goes stands for_it because last exchanges same_keys same_entries changes =
    stands_due r mid t w.c a.v a.k (broken_by x k) stands a.awaits.asker a.there a.is
    (undue limits t facts.law now x response goes w a.awaits.row a.v a.awaits.asker) last exchanges same_keys same_entries
    (subst (λ (d : ℕ). ChangesAt r.consumers mid.consumers d (with_due (broken_by x k))) (sym for_it)
    (subst (λ (z : Cause). ChangesAt r.consumers mid.consumers c (with_due z)) because changes))

-- AN ANSWER PAST THE STORE

taken_unshown : (x : ℕ) (v : rows.Consumer) (way : Route) → StandsFor x v way → way ≡ route.Direct → v.place ≡ place.Direct x
taken_unshown x v way it3 is = grind (arith, nat_tests)

taken_way : {h : HeadView} → CaseBy h case.DirectTaken → route_of h.need ≡ route.Direct
taken_way (cases.direct_taken way) = way

module _ {B : Type 0} {g : Ghosts B} {limits : Limits} (r u : Rows B g) (t : Tables) (facts : Facts limits t) (now x : ℕ) (response : Response)
    (goes : denial t (event.Head x response) ≡ None) (w : Exchange) (v : rows.Consumer) (awaits : AwaitsHead t x w v)
    (stood : StandsFor x v (route_of w.need)) (is : head_case (head_view t false w response) ≡ case.DirectTaken) where
  at : v.place ≡ place.Direct x
  at = taken_unshown x v (route_of w.need) stood (taken_way (subst (CaseBy (head_view t false w response)) is (case_by (head_view t false w response))))

  unshown : v.shown ≡ false
  unshown =
      let reads = facts.law.places.direct w.c x v awaits.asker at in
      (reads.unheard (ap (λ (z : Exchange). z.head) (same_row (t.exchange x) reads.w w reads.row awaits.row) ∙ awaits.headless)).unshown

  pub alone_taken : IsReadAlone t x w v
  alone_taken =
      read_then t facts.law x w v awaits t v awaits.asker (λ d u is ne. inl is) awaits.row
      (facts.law.sound.numbered.names.unfounded x w awaits.row awaits.headless)
      (λ q lo hi h. (let stands = at in let never : place.Direct x ≡ place.Bound q lo hi (by.FirstHole x) = sym stands ∙ h in absurd (cc))) at unshown

  pub taken_answered : (before : List Act) → doomed_by_case (Some case.DirectTaken) w response ≡ None →
      RowsStand limits u (with_answer now x response w.joined w t) → Answered limits (shelf_of r.entries).faults u t before before now (event.Head x response)
  taken_answered before doomless stands =
      does_answered limits (shelf_of r.entries).faults u t (with_event now (event.Head x response) (with_answer now x response w.joined w t)) before
      before [] now (event.Head x response)
      (does.taken limits t facts.law now x response goes w awaits.row v awaits.asker is (no_doom (changes w response) w doomless))
      (unwritten t now x response w case.DirectTaken awaits.row is refl) refl (sym (append-nil before))
      (stands_counted u (with_answer now x response w.joined w t) now (event.Head x response) refl stands)
