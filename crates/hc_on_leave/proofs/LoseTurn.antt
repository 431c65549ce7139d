-- What a 304 may be about can't be read or updated: it is lost, and whoever asked starts over. That is answered.
--
-- First a loss of what is written for several: its exchange is closed where nobody goes on (`loses_on`, `loses_out`).
-- The code hears the head and moves its consumer before it loses, and the tables after. That is no matter, as that
-- consumer isn't bound: the same one goes on in both (`survivor_same`). `alone_answered` is the case where nothing is
-- written for several; in `written_answered` the exchange that writes is another one. `lose_asked` uses both.
use Rattle.std.{proofs.{lemmas.{Bool.Decides.{nat_tests}, List.{append-nil}}, Common.{arith, ◌≡◌, ◌≢◌, inl, inr, ℕ, ◌<◌, List, [], ◌∷◌, ◌++◌, Bool, true, false, Option, Some, None, refl, ap, ap₂, sym, ◌∙◌, subst}}, specs.Prelude.{is_some, is_none, nat_eq, map, option_map, not, ◌&&◌, ◌||◌, ◌==◌, if◌then◌else◌}}
use mathlib.Core.Path.{fun_ext}
use Rattle.hc_text.proofs.Basics.{eqb-other, eqb-same, false_true, same_or, same_some as same_row, and_off as then_false}
use Rattle.hc_effects.proofs.Vocabulary.{Limits, Act, LostKind, Event, Response, head_case, length_of, is_head, is_same_number, Place, has_loss, head_view, is_founding, is_joining, case_at, back_in_line, current, denial, with_event, all_closed, with_answer, with_consumer, with_representation, group_lost, let_go, lost_to, unless_ended, unless_survived, back_from, promise_in, family, is_reached, is_headless, Loses, entry_of, brings_to, MayLetGo, IsAwaiting, bound, is_bound, is_bound_place, is_written, group_in, Tables, Exchange, Representation, is_kept, IsGrowing, exclusive, survivor, offset_in, written_representation, head_writes, may_validate, lossless, act, kind, event, case, route, place, by}
use Rattle.hc_store.specs.declared.backend.Backend.{Ghosts}
use Rattle.hc_stored.specs.Entries.{shelf_of}
use Rattle.hc_exch.specs.{Exchanges.{table_of}, Known.{length_by, is_open, without_exchange}}
use Rattle.hc_exch.specs.Exchanges as exch
use Rattle.hc_model.specs.Owners as owners
use Rattle.hc_model.specs.Rows as rows
use Rattle.hc_model.specs.Exchanges as exchanges
use Rattle.hc_model.specs.Reading.{is_open_writer}
use Rattle.hc_effects.proofs.{FirstKeeps.{case_is}, FoundBy.{unchanged_founds}, KeysKeep.{current_row}, LettingGo.{may_let_go}, ExclusiveWriters.{writer_some}, PollKeeps.{current_stays}, UpdateEffects.{validated_lost}, WrittenEffects.{validated_lost_written}, Tests.{none_some}}
use Rattle.hc_state.specs.{declared.rows.Rows.{Rows}, Facts.{Facts}, Heads.{IsUnread, unless_over}, DetachedReaders.{MayLoseShared, LosesGroup, shared_loss}, Kept.{unstored_bytes}, Leaving.{writer_group_of}, Stands.{Answered, KeepsRest, RowsStand}, Stopped.{HoldsNothing, NobodyAwaits}}
use Rattle.hc_state.proofs.{Answering.{lossy_answered}, Fallbacks.{unstored_moved}, Closing.{stands_unstored}, Counting.{stands_counted}, CurrentTies.{stays_stored}, LeftRows.{group_as}, Maps.{act_and}, TurnTies.{least_alike}}
use Rattle.hc_on_leave.proofs.{HeadCases.{it_is, parts, case_lost_too}, HeardRows.{Asker}, LoseAlone.{holds_none}, LoseDetachedReaders.{bound_among, members_in}, RefuseHandler.{stands_refused, closes_as}, UnstoredHandlers.{beside, unread_then, may_moved, may_heard}}

-- A WRITING IS LOST

-- where nobody goes on, its exchange is closed
pub closes_loss : {B : Type 0} {g : Ghosts B} {limits : Limits} (mid u : Rows B g) (t : Tables) (now r x : ℕ) (v : Representation)
    (detached_reader : Option ℕ) → MayLoseShared t r x v → RowsStand limits mid (shared_loss now r x v detached_reader t)
    → u.last_start ≡ mid.last_start → u.consumers ≡ mid.consumers → u.keys ≡ mid.keys → u.entries ≡ mid.entries →
    exch.Becomes without_exchange x mid.exchanges u.exchanges → RowsStand limits u (all_closed (x ∷ []) (shared_loss now r x v detached_reader t))
closes_loss mid u t now r x v detached_reader may stands last consumers same_keys same_entries becomes =
    stands_unstored mid u (shared_loss now r x v detached_reader t) x stands unawaited apart last consumers same_keys same_entries becomes
  where
    unawaited : NobodyAwaits (shared_loss now r x v detached_reader t) x
    unawaited d n lo hi k is at = ap is_headless may.row ∙ by_head may.w.head may.headed
      where
        by_head : (h : Option Response) → is_some h ≡ true → (may.w.is_open && is_none h) ≡ false
        by_head None on = false_true on
        by_head (Some response) on = then_false may.w.is_open false refl

    apart : (q : ℕ) (p : Representation) → (shared_loss now r x v detached_reader t).representation q ≡ Some p → p.is_gone ≡ false →
        brings_to q x (t.exchange x) ≡ false
    apart q p there stays = ap (brings_to q x) may.row ∙ elim (same_or r q) [
      | inl e ↦
          let mine : (shared_loss now r x v detached_reader t).representation q ≡ Some (record (lost_to detached_reader v) { is_gone = true }) =
          rw (e, eqb-same q) refl in
          false_true (sym stays ∙ ap (λ (z : Representation). z.is_gone)
          (same_row ((shared_loss now r x v detached_reader t).representation q) p (record (lost_to detached_reader v) { is_gone = true }) there mine))
      | inr ne ↦ then_false may.w.is_open (nat_eq (family x may.w) q) (ap (λ (n : ℕ). nat_eq n q) may.of_r ∙ eqb-other r q ne)
    ]

module _ {B : Type 0} {g : Ghosts B} (u : Rows B g) (t : Tables) (before mid out : List Act) (now r x : ℕ) (v : Representation) (why : LostKind)
    (detached_reader : Option ℕ) (is : detached_reader ≡ survivor t r v) (reported : mid ≡ before ++ (act.Lost r why ∷ [])) where
  -- somebody goes on
  pub loses_on : {limits : Limits} → is_none detached_reader ≡ false → out ≡ mid → RowsStand limits u (shared_loss now r x v detached_reader t) →
      LosesGroup limits u t before out now r x v why
  loses_on {limits = limits} some same stood = by_detached_reader detached_reader some is
    where
      by_detached_reader : (o : Option ℕ) → is_none o ≡ false → o ≡ survivor t r v → LosesGroup limits u t before out now r x v why
      by_detached_reader None off one = false_true (sym off)
      by_detached_reader (Some d) off one =
          let closes : unless_survived (survivor t r v) (Some x) ≡ [] = ap (λ (o : Option ℕ). unless_survived o (Some x)) (sym one) in
          record {
            acts = same ∙ (reported ∙ ap (λ (ys : List ℕ). before ++ (act.Lost r why ∷ map act.Close ys)) (sym closes));
            rows = subst (λ (ys : List ℕ). RowsStand limits u (all_closed ys (shared_loss now r x v (survivor t r v) t))) (sym closes)
                (subst (λ (o : Option ℕ). RowsStand limits u (shared_loss now r x v o t)) is stood);
          }

  -- nobody does
  pub loses_out : {limits : Limits} → is_none detached_reader ≡ true → out ≡ mid ++ (act.Close x ∷ []) →
      RowsStand limits u (all_closed (x ∷ []) (shared_loss now r x v detached_reader t)) → LosesGroup limits u t before out now r x v why
  loses_out {limits = limits} none closed stood = by_detached_reader detached_reader none is
    where
      by_detached_reader : (o : Option ℕ) → is_none o ≡ true → o ≡ survivor t r v → LosesGroup limits u t before out now r x v why
      by_detached_reader (Some d) on one = false_true on
      by_detached_reader None on one =
          let closes : unless_survived (survivor t r v) (Some x) ≡ x ∷ [] = ap (λ (o : Option ℕ). unless_survived o (Some x)) (sym one) in
          record {
            acts = act_and before mid out (act.Lost r why) (act.Close x ∷ []) reported closed ∙
                ap (λ (ys : List ℕ). before ++ (act.Lost r why ∷ map act.Close ys)) (sym closes);
            rows = subst (λ (ys : List ℕ). RowsStand limits u (all_closed ys (shared_loss now r x v (survivor t r v) t))) (sym closes)
                (subst (λ (o : Option ℕ). RowsStand limits u (all_closed (x ∷ []) (shared_loss now r x v o t))) is stood);
          }

-- WHO WRITES FOR SEVERAL

module _ {B : Type 0} {g : Ghosts B} {limits : Limits} (r : Rows B g) (t : Tables) (facts : Facts limits t) (stands : RowsStand limits r t) (q : ℕ)
    (v : Representation) (there : t.representation q ≡ Some v) where
  writer_group_is : writer_group_of (table_of r.exchanges) ((shelf_of r.entries).kept q) ≡ (if is_written t v then v.writer else None)
  writer_group_is = group_as r t stands facts.law q ∙ ap (group_in t) there

  -- an exchange does
  pub writes_it : (y : ℕ) → writer_group_of (table_of r.exchanges) ((shelf_of r.entries).kept q) ≡ Some y → (is_written t v ≡ true) × (v.writer ≡ Some y)
  writes_it y at = grind (arith, nat_tests, writer_group_is, none_some)

  pub grows : (y : ℕ) → writer_group_of (table_of r.exchanges) ((shelf_of r.entries).kept q) ≡ Some y → (z : Exchange) × IsGrowing t q v y z
  grows y at = (let on = writes_it y at in (facts.law.sound.rows q v there).growing y on.0 on.1)

  -- none does
  pub unwritten : writer_group_of (table_of r.exchanges) ((shelf_of r.entries).kept q) ≡ None → is_written t v ≡ false
  unwritten none = grind (arith, nat_tests, writer_some, writer_group_is)

-- WHO GOES ON IN OTHER TABLES

-- whoever is bound stands where it stood
pub survivor_same : (t s : Tables) (q : ℕ) (v : Representation) → MayLetGo t → MayLetGo s →
    ((c : ℕ) → ((offset_in s (s.consumer c) == v.reach) && is_bound q (s.consumer c)) ≡
    ((offset_in t (t.consumer c) == v.reach) && is_bound q (t.consumer c))) → survivor s q v ≡ survivor t q v
survivor_same t s q v may_t may_s alike = least_alike _ _ (λ c.
    members_in s v.reach c (bound s q)
    ∙ (ap (λ (b : Bool). (offset_in s (s.consumer c) == v.reach) && b) (bound_among s q c may_s)
    ∙ (alike c
    ∙ sym (members_in t v.reach c (bound t q) ∙ ap (λ (b : Bool). (offset_in t (t.consumer c) == v.reach) && b) (bound_among t q c may_t)))))

-- THE 304

module _ {B : Type 0} {g : Ghosts B} {limits : Limits} (r second : Rows B g) (t : Tables) (facts : Facts limits t) (stands : RowsStand limits r t)
    (now x : ℕ) (response : Response) (goes : denial t (event.Head x response) ≡ None) (w : Exchange) (row : t.exchange x ≡ Some w) (a : Asker r t x w)
    (q : ℕ) (aim : w.aim ≡ Some q) (cur : current t w.request.key ≡ Some q)
    (unselected : head_case (record (head_view t false w response) { selects = false }) ≡ case.NotValidated) where
  abbrev ev : Event
  ev = event.Head x response

  abbrev found : (v : Representation) × (t.representation q ≡ Some v) × (v.key ≡ w.request.key)
  found = current_row t q w.request.key cur

  abbrev pub v : Representation
  v = found.0

  pub there : t.representation q ≡ Some v
  there = found.1

  pub kept : v.is_lost ≡ false
  kept = stays_stored t facts.law q v there (current_stays t w.request.key q v cur there)

  nobody : v.alone ≡ None
  nobody = (facts.law.sound.rows q v there).store.nobody_alone kept

  unfounded : t.representation x ≡ None
  unfounded = facts.law.sound.numbered.names.unfounded x w row a.awaits.headless

  unjoined : w.joined ≡ None
  unjoined = (facts.law.sound.waits.headless x w row a.awaits.headless).1

  abbrev pub back : rows.Consumer
  back = back_in_line now a.v

  abbrev pub moved : Tables
  moved = with_consumer w.c (Some back) t

  abbrev pub heard : Tables
  heard = with_answer now x response w.joined w moved

  -- WHAT IT ANSWERS

  status_is : response.status ≡ 304
  status_is = (it_is (head_view t false w response) unselected).1

  ended : unless_ended x response w ≡ []
  unfolding length_of
  ended = grind (arith, nat_tests, status_is, is_head)

  is_lost_case : head_case (head_view t true w response) ≡ case.NotValidated
  is_lost_case = case_lost_too (head_view t false w response) unselected

  -- WHAT IT WRITES

  may_now : may_validate t w response ≡ true
  may_now = ap (λ b. b && is_same_number (current t w.request.key) w.aim) (parts (head_view t false w response) unselected).1 ∙ rw (cur, aim) (eqb-same q)

  writes_there : written_representation t (entry_of limits t now ev (Loses q kind.Fault)) ≡ Some q
  unfolding written_representation
  writes_there =
      let e = entry_of limits t now ev (Loses q kind.Fault) in
      let off : is_founding (case_at t (lossless e)) ≡ false = ap is_founding (case_is t (lossless e) x response w refl row) ∙
      unchanged_founds (head_view t (has_loss (lossless e).acts) w response) status_is in
      ap (head_writes t (lossless e) x response) row ∙
      (by_tests (is_founding (case_at t (lossless e))) (may_validate t w response) (is_joining (case_at t (lossless e))) off may_now ∙ aim)
    where
      by_tests : (f m j : Bool) → f ≡ false → m ≡ true → (if f then Some x else if m || j then w.aim else None) ≡ w.aim
      by_tests false true j off on = refl
      by_tests _ _ j off on = cc

  kept_now : is_kept (t.representation q) ≡ true
  kept_now = ap is_kept there ∙ ap not kept

  -- WHAT IS KEPT BEFORE THE LOSS

  unread : IsUnread moved x w
  unread =
      unread_then t facts.law x w a.v a.awaits moved back (rw (eqb-same w.c) refl) (λ d u is ne. inl (sym (beside t w.c d (Some back) ne) ∙ is)) row unfounded
      (λ n lo hi h. (let never : place.Line ≡ place.Bound n lo hi (by.FirstHole x) = h in absurd (cc)))
      (λ h. (let never : place.Line ≡ place.Direct x = h in absurd (cc)))

  pub heard_stands : (first : Rows B g) → RowsStand limits first moved → KeepsRest first second → second.consumers ≡ first.consumers →
      exch.Becomes without_exchange x first.exchanges second.exchanges → RowsStand limits second heard
  heard_stands first stood rest consumers becomes =
      subst (λ (ys : List ℕ). RowsStand limits second (all_closed ys heard)) ended
      (stands_refused first second moved now x response w stood unread rest consumers becomes)

  -- nothing is told of it
  pub quiet : (first : Rows B g) (before mid : List Act) → RowsStand limits first moved → mid ≡ before ++
      map act.Close (unless_over x (length_by (table_of first.exchanges x).running response)) → mid ≡ before
  quiet first before mid stood reported = reported ∙
      (ap (λ (ys : List ℕ). before ++ map act.Close ys) (closes_as first moved x w response stood row a.awaits.is_open ∙ ended) ∙ append-nil before)

  pub may_heard_now : MayLetGo heard
  may_heard_now = may_heard moved x _
      (may_moved t w.c a.v back a.awaits.asker (λ n how h. (let never : place.Line ≡ place.Passed n how = h in absurd (cc))) (may_let_go t facts.law))

  -- another exchange is as it was
  its_row : (y : ℕ) (z : Exchange) → heard.exchange y ≡ Some z → family y z ≡ q → t.exchange y ≡ Some z
  its_row y z at of_q = elim (same_or x y) [
    | inr ne ↦ sym (rw (eqb-other x y ne) refl) ∙ at
    | inl e ↦ absurd (
        let here : heard.exchange y ≡ Some
        (record w { head = Some response; answered = now; is_open = not (is_reached (promise_in w response) 0) && w.is_open }) = rw (e, eqb-same y) refl in
        let mine = same_row (heard.exchange y) z
        (record w { head = Some response; answered = now; is_open = not (is_reached (promise_in w response) 0) && w.is_open }) at here in
        let own : x ≡ q = e ∙ (sym (let none = unjoined in rw (mine, none) refl) ∙ of_q) in
        none_some v (sym unfounded ∙ (ap t.representation own ∙ there)))
  ]

  pub holds_then : (o : Option ℕ) → HoldsNothing t q v o → HoldsNothing heard q v o
  holds_then None nothing y z at of_q = refl
  holds_then (Some c) nothing y z at of_q = elim (same_or w.c c) [
    | inl e ↦ (let now_back : heard.consumer c ≡ Some back = rw (e, eqb-same c) refl in ap (unstored_bytes heard y z v) now_back)
    | inr ne ↦ ap (unstored_bytes heard y z v) (beside t w.c c (Some back) ne) ∙
        (unstored_moved t heard y z v (t.consumer c) ∙ nothing y z (its_row y z at of_q) of_q)
  ]

  -- IT ISN'T WRITTEN FOR SEVERAL

  pub alone_answered : (u : Rows B g) (faults : ℕ) (before out : List Act) (alone : Option ℕ) → alone ≡ exclusive t q v → is_written t v ≡ false →
      RowsStand limits second heard → out ≡ before ++ (act.Lost q kind.Fault ∷ [])
      → ((limits : Limits) (s : Tables) (p : Representation) → MayLetGo s → s.representation q ≡ Some p → p.alone ≡ None → HoldsNothing s q p alone →
      RowsStand limits second s → RowsStand limits u (let_go now q (with_representation q (Some (lost_to alone p)) s)))
      → faults < (shelf_of u.entries).faults → Answered limits faults u t before out now ev
  alone_answered u faults before out alone writer off stood reported loses failed =
      let lost = loses _ heard v may_heard_now there nobody
      (holds_then alone (subst (λ (o : Option ℕ). HoldsNothing t q v o) (sym writer) (holds_none limits t facts q v there kept))) stood in
      lossy_answered limits faults u t
      (with_event now ev (let_go now q
      (with_consumer w.c (Some back) (with_answer now x response w.joined w (with_representation q (Some (lost_to (exclusive t q v) v)) t))))) before out
      (act.Lost q kind.Fault ∷ []) now ev q
      (validated_lost limits t facts.law now x response goes w row a.v a.awaits.asker q v aim there kind.Fault kept off is_lost_case) writes_there
      kept_now refl failed reported
      (stands_counted u _ now ev refl
      (subst (λ (o : Option ℕ). RowsStand limits u (let_go now q (with_representation q (Some (lost_to o v)) heard))) writer lost))

  -- IT IS

  module _ (y : ℕ) (writer_group : writer_group_of (table_of r.exchanges) ((shelf_of r.entries).kept q) ≡ Some y) where
    on : is_written t v ≡ true
    on = (writes_it r t facts stands q v there y writer_group).0

    writer : v.writer ≡ Some y
    writer = (writes_it r t facts stands q v there y writer_group).1

    grown : (z : Exchange) × IsGrowing t q v y z
    grown = grows r t facts stands q v there y writer_group

    opened : grown.0.is_open ≡ true
    unfolding is_written
    opened = sym (ap (is_open_writer t) writer ∙ ap exchanges.is_open grown.1.row) ∙ later (not v.is_lost) (is_open_writer t v.writer) on
      where
        later : (a b : Bool) → (a && b) ≡ true → b ≡ true
        later true b both = both
        later false b both = false_true both

    -- it isn't the one whose head came
    pub other : x ≢ y
    other e =
        let one : w ≡ grown.0 = same_row (t.exchange x) w grown.0 row (ap t.exchange e ∙ grown.1.row) in
        false_true (sym (ap (λ (z : Exchange). is_some z.head) (sym one) ∙ ap (λ (h : Option Response). is_some h) a.awaits.headless) ∙ grown.1.headed)

    pub may_lose : MayLoseShared heard q y v
    may_lose = record {
      may = may_heard_now;
      there = there;
      kept = kept;
      nobody = nobody;
      w = grown.0;
      row = rw (eqb-other x y other) grown.1.row;
      opened = opened;
      headed = grown.1.headed;
      writes = writer;
      of_r = grown.1.family_is;
      front_is = grown.1.front_is;
    }

    -- whoever asked isn't bound
    asked_apart : is_bound_place q a.v.place ≡ false
    asked_apart = ap (is_bound_place q) at_turn
      where
        at_turn : a.v.place ≡ place.Turn x
        at_turn = by_at a.at
          where
            by_at : IsAwaiting x w a.v.place → a.v.place ≡ place.Turn x
            by_at (owners.direct way stood) =
                absurd (let never : route.Direct ≡ route.Turn = sym way ∙ (it_is (head_view t false w response) unselected).0 in cc)
            by_at (owners.turn way stood) = stood
            by_at (owners.hole n lo hi how way named stood) =
                absurd (let never : route.Hole ≡ route.Turn = sym way ∙ (it_is (head_view t false w response) unselected).0 in cc)

    stands_there : (o : Option rows.Consumer) → ((offset_in heard o == v.reach) && is_bound q o) ≡ ((offset_in t o == v.reach) && is_bound q o)
    stands_there o = grind (arith, nat_tests)

    detached_reader_same : survivor heard q v ≡ survivor t q v
    detached_reader_same = survivor_same t heard q v (may_let_go t facts.law) may_heard_now (λ c. elim (same_or w.c c) [
      | inr ne ↦ ap (λ (o : Option rows.Consumer). (offset_in heard o == v.reach) && is_bound q o) (beside t w.c c (Some back) ne) ∙ stands_there (t.consumer c)
      | inl e ↦
          let was : t.consumer c ≡ Some a.v = sym (ap t.consumer e) ∙ a.awaits.asker in
          let now_back : heard.consumer c ≡ Some back = rw (e, eqb-same c) refl in
          ap (λ (o : Option rows.Consumer). (offset_in heard o == v.reach) && is_bound q o) now_back
          ∙ (then_false (offset_in heard (Some back) == v.reach) false refl
          ∙ sym (ap (λ (o : Option rows.Consumer). (offset_in t o == v.reach) && is_bound q o) was ∙
          then_false (offset_in t (Some a.v) == v.reach) (is_bound q (Some a.v)) asked_apart))
    ])

    -- the tables, told otherwise
    abbrev lost_as : Option ℕ → List ℕ → Tables
    lost_as o ys = let_go now q
        (with_consumer w.c (Some back)
        (all_closed ys (with_answer now x response w.joined w (group_lost q o (Some y) (with_representation q (Some (lost_to o v)) t)))))

    consumers_as : (o : Option ℕ) → (shared_loss now q y v o heard).consumer ≡ (lost_as o []).consumer
    consumers_as o = fun_ext (λ d. ap (option_map (back_from now q)) (elim (same_or w.c d) [
      | inl e ↦ rw (e, eqb-same d) refl
      | inr ne ↦ rw (eqb-other w.c d ne) refl
    ]))

    tables_as : (o : Option ℕ) → all_closed (unless_survived o (Some y)) (shared_loss now q y v o heard) ≡ lost_as o (unless_survived o (Some y))
    tables_as None = ap (λ (f : ℕ → Option rows.Consumer). record (lost_as None (y ∷ [])) { consumer = f }) (consumers_as None)
    tables_as (Some d) = ap (λ (f : ℕ → Option rows.Consumer). record (lost_as (Some d) []) { consumer = f }) (consumers_as (Some d))

    pub written_answered : (u : Rows B g) (faults : ℕ) (before mid out : List Act) → mid ≡ before →
        LosesGroup limits u heard mid out now q y v kind.Fault → faults < (shelf_of u.entries).faults → Answered limits faults u t before out now ev
    written_answered u faults before mid out same loses failed =
        let done = validated_lost_written limits t facts.law now x response goes w row a.v a.awaits.asker q v aim there kind.Fault on is_lost_case in
        let acts_are : out ≡ before ++ (act.Lost q kind.Fault ∷ map act.Close (unless_survived (survivor t q v) v.writer)) =
        loses.acts ∙ ap₂ (λ (b : List Act) (ys : List ℕ). b ++ (act.Lost q kind.Fault ∷ map act.Close ys)) same
        (ap₂ unless_survived detached_reader_same (sym writer)) in
        let stood : RowsStand limits u (lost_as (survivor t q v) (unless_survived (survivor t q v) (Some y))) =
        subst (RowsStand limits u) (tables_as (survivor t q v))
        (subst (λ (o : Option ℕ). RowsStand limits u (all_closed (unless_survived o (Some y)) (shared_loss now q y v o heard))) detached_reader_same
        loses.rows) in
        lossy_answered limits faults u t
        (with_event now ev (let_go now q
        (with_consumer w.c (Some back)
        (all_closed (unless_survived (survivor t q v) v.writer)
        (with_answer now x response w.joined w (group_lost q (survivor t q v) v.writer (with_representation q (Some (lost_to (survivor t q v) v)) t)))))))
        before out
        (act.Lost q kind.Fault ∷ map act.Close (unless_survived (survivor t q v) v.writer)) now ev q done writes_there kept_now refl failed acts_are
        (stands_counted u _ now ev refl
        (subst (λ (o : Option ℕ). RowsStand limits u
        (let_go now q (with_consumer w.c (Some back)
        (all_closed (unless_survived (survivor t q v) o)
        (with_answer now x response w.joined w (group_lost q (survivor t q v) o (with_representation q (Some (lost_to (survivor t q v) v)) t)))))))
        (sym writer) stood))
