-- By what the code did at a head that founds: what it asked for may be asked for, and the head is answered.
--
-- Four calls stand before the store is asked: the consumer reads past the store, two representations go, and room is
-- made. Their contracts, one behind another, give the tables that `FoundHandler` speaks of (`stood`). There at most one
-- gives way, so the acts have room (`one_acts`, `fits_acts`), and nothing has the new number yet (`new_kept`). Where
-- the store took it, it is founded; where it refused, the kind of loss has its cause (`refused`). `found` uses these.
use Rattle.std.{proofs.{lemmas.Bool.Decides.{nat_tests}, Common.{◌≡◌, ℕ, ◌+◌, ◌<◌, ◌≤◌, List, [], ◌∷◌, ◌++◌, true, false, Option, Some, None, Result, Ok, Err, refl, ap, sym, ◌∙◌, subst, arith}}, specs.{Prelude.{IsSomeAnd, is_some, nat_eq, option_map}, HashMap.{get}}}
use Rattle.hc_text.proofs.Basics.{none_of, some_inj as some_is}
use Rattle.hc_store.specs.{Causes.{HasCause, IsWithin}, declared.{backend.Backend.{Ghosts}, error.StoreError.{StoreError}}}
use Rattle.hc_store.specs.declared.error.StoreError.TheVariants as errors
use Rattle.hc_effects.proofs.Vocabulary.{Act, LostKind, Request, Response, HeadCase, RequestClass, Limits, Room, head_case, head_refusal, class_of, range_of, head_view, is_founding, current, denial, let_some_go, with_consumer, with_answer, Loses, MayMakeRoom, MayLetGo, giving_way, Tables, Exchange, may_lose, room_for, is_fault, act, kind as kinds, event, room, write}
use Rattle.hc_stored.specs.{Entries.{shelf_of}, Kept.{Kept}}
use Rattle.hc_entry.specs.Keys.{kept_of}
use Rattle.hc_exch.specs.{declared.{exchanges.Exchanges.{Exchanges}, row.Open.{Open}}, Exchanges.{table_of}, Known.{open_view}}
use Rattle.hc_event.specs.declared.place.Place.TheVariants as place
use Rattle.hc_model.specs.Rows as rows
use Rattle.hc_effects.proofs.{FoundDoes.{Founds, founds_of}, Tests.{none_some}, EventsKeep.{no_head as head_none}}
use Rattle.hc_state.specs.{declared.{rows.Rows.{Rows}, founded.Founding.{Founding}}, Facts.{Facts}, Founding.{BeginsFounding, IsFounding}, Heads.{AwaitsHead, IsAskedBy, IsReadAlone, StandsApart, goes_with}, Kept.{IsRunning}, Renewals.{IsUnrenewed}, Room.{HasActs, LeavesActs, GivesWay, loss_by, room_for_write}, Stands.{Answered, RowsStand, Stands}, Stored.{KeepsEntry}}
use Rattle.hc_txn.specs.declared.transaction.Transaction.{Transaction as Consumer}
use Rattle.hc_on_leave.proofs.{AnswerHandler.{reader_kept}, FoundHandler.{fallback, first, second, es, m, may_fallback, may_first, make_second, one_way, m_unfounded, m_asker, read_alone, founds_answered, lost_answered, full_reported}, HeardRows.{Asker, Headless, asker, headless_of, heard_row, runs_as}}
use Rattle.hc_on_head.proofs.HeadReported.{past_of_runs}
use Rattle.hc_state.proofs.{Maps.{known_of, merely_below, merely_false}, ReaderSteps.{stands_read}, Rooms.{room_is}, Classes.{class_is}}

class_range : (request : Request) → (class_of request).range ≡ range_of request
unfolding class_of
class_range request = refl

abbrev pub err_of : StoreError → Result (Unit {0}) StoreError
err_of error = Err error

-- what is founded has the key of what was asked for
pub key_reported : {B : Type 0} {b : Ghosts B} (r : Rows B b) (now x c : ℕ) (g : HeadCase) (response : Response) (f : Founding) →
    IsSomeAnd (get nat_eq r.consumers c) (λ k. (o : Open) → (table_of r.exchanges x).running ≡ Some o → IsFounding o k g now response f)
    → (o : Open) → (table_of r.exchanges x).running ≡ Some o → f.key ≡ o.request.key
key_reported r now x c g response f = by_row (get nat_eq r.consumers c)
  where
    by_row : (row : Option Consumer) → IsSomeAnd row (λ k. (o : Open) → (table_of r.exchanges x).running ≡ Some o → IsFounding o k g now response f) →
        (o : Open) → (table_of r.exchanges x).running ≡ Some o → f.key ≡ o.request.key
    by_row None founding o there = absurd founding
    by_row (Some k) founding o there = (founding o there).key

module _ {B : Type 0} {b : Ghosts B} (r r1 r2 r3 : Rows B b) (now x c : ℕ) (gone reported : Option ℕ) (key : List ℕ)
    (accepted : head_refusal (option_map open_view (table_of r.exchanges x).running) ≡ None) (asks : IsAskedBy c (table_of r.exchanges x).running)
    (key_is : (o : Open) → (table_of r.exchanges x).running ≡ Some o → key ≡ o.request.key) (reported_is : reported ≡ (kept_of r.keys key).current)
    (falls_back : (limits : Limits) (t : Tables) (y : ℕ) (w : Exchange) (k : rows.Consumer) → Facts limits t → AwaitsHead t y w k → w.c ≡ c →
    StandsApart y (place.Direct x) → RowsStand limits r t → RowsStand limits r1 (with_consumer c (Some (record k { place = place.Direct x })) t))
    (goes_first : (limits : Limits) (t : Tables) → MayLetGo t → RowsStand limits r1 t → RowsStand limits r2 (let_some_go now gone t))
    (goes_second : (limits : Limits) (t : Tables) → MayLetGo t → RowsStand limits r2 t → RowsStand limits r3 (let_some_go now reported t)) where
  pub h : Headless (table_of r.exchanges x).running
  h = headless_of (table_of r.exchanges x).running accepted

  module _ {limits : Limits} (t : Tables) (facts : Facts limits t) (stands : RowsStand limits r t) (w : Exchange) (row : t.exchange x ≡ Some w) where
    pub runs : IsRunning t x h.o w
    runs = runs_as r t x h.o w stands h.there row

    pub a : Asker r t x w
    a = asker r t facts x w stands row runs.is_open (head_none w.head (sym runs.headed ∙ h.headless))

    for_it : w.c ≡ c
    for_it = sym runs.c ∙ asks h.o h.there

    reported_now : reported ≡ current t w.request.key
    reported_now = reported_is ∙ ((stands.keys key).current ∙ ap (current t) (key_is h.o h.there ∙ ap (λ (q : Request). q.key) runs.request))

    abbrev pub left : Tables
    left = second limits t facts now x w a.v a.awaits gone

    pub stood : RowsStand limits r3 left
    stood =
        subst (λ (o : Option ℕ). RowsStand limits r3 (let_some_go now o (first limits t facts now x w a.v a.awaits gone))) reported_now
        (goes_second _ (first limits t facts now x w a.v a.awaits gone) (may_first limits t facts now x w a.v a.awaits gone)
        (goes_first _ (fallback limits t facts now x w a.v a.awaits gone) (may_fallback limits t facts now x w a.v a.awaits gone)
        (subst (λ (d : ℕ). RowsStand limits r1 (with_consumer d (Some (record a.v { place = place.Direct x })) t)) (sym for_it)
        (falls_back _ t x w a.v facts a.awaits for_it refl stands))))

    pub one_acts : (count : ℕ) → room_for_write r3 write.Slot ≡ room.After count → count ≤ 1
    one_acts count is =
        one_way limits t facts now x w a.v a.awaits gone count
        (sym (room_is r3 left (make_second limits t facts now x w a.v a.awaits gone) stood write.Slot) ∙ is)

  module _ (some : ∥ Stands r ∥₁) where
    few_acts : (count : ℕ) → room_for_write r3 write.Slot ≡ room.After count → count < 2
    few_acts count is = merely_below count 2 some (λ s.
        let past = past_of_runs r s in
        let row = heard_row r past.0 x h.o past.2 h.there in
        let le = one_acts past.0 past.1 past.2 row.w row.row count is in
        omega (arith, le))

    pub fits_acts : (spare : ℕ) → 2 ≤ spare → HasActs spare (room_for_write r3 write.Slot)
    fits_acts spare le = by_room (room_for_write r3 write.Slot) refl
      where
        by_room : (e : Room) → room_for_write r3 write.Slot ≡ e → HasActs spare e
        by_room (room.After count) is = (let few = few_acts count is in omega (arith, few, le))
        by_room room.TooLarge is = tt
        by_room room.Full is = tt

    pub one_left : (whole rest : ℕ) → 2 ≤ whole → LeavesActs whole rest (room_for_write r3 write.Slot) → 0 < rest
    one_left whole rest le leaves = grind (arith, nat_tests, few_acts)

  module _ (u : Rows B b) (before mid : List Act)
      (made : (limits : Limits) (t : Tables) → MayMakeRoom t → RowsStand limits r3 t →
      GivesWay limits u t now (giving_way limits t write.Slot) before mid) where
    module _ {limits : Limits} (t : Tables) (facts : Facts limits t) (stands : RowsStand limits r t) (w : Exchange) (row : t.exchange x ≡ Some w) where
      pub gives : GivesWay limits u (left t facts stands w row) now
          (es limits t facts now x w (a t facts stands w row).v (a t facts stands w row).awaits gone) before mid
      gives =
          made _ (left t facts stands w row) (make_second limits t facts now x w (a t facts stands w row).v (a t facts stands w row).awaits gone)
          (stood t facts stands w row)

    pub new_kept : ∥ Stands r ∥₁ → (shelf_of u.entries).kept x ≡ None
    new_kept some = none_of ((shelf_of u.entries).kept x) (merely_false (is_some ((shelf_of u.entries).kept x)) some (λ s.
        let past = past_of_runs r s in
        let row = heard_row r past.0 x h.o past.2 h.there in
        let asker_is = a past.0 past.1 past.2 row.w row.row in
        let none = m_unfounded s.limits past.0 past.1 now x row.w asker_is.v asker_is.awaits gone in
        by_kept (m s.limits past.0 past.1 now x row.w asker_is.v asker_is.awaits gone) ((shelf_of u.entries).kept x)
        (subst (KeepsEntry (m s.limits past.0 past.1 now x row.w asker_is.v asker_is.awaits gone) x ((shelf_of u.entries).kept x)) none
        ((gives past.0 past.1 past.2 row.w row.row).rows.entries.each x))))
      where
        by_kept : (s : Tables) (o : Option Kept) → KeepsEntry s x o None → is_some o ≡ false
        by_kept s None keeps = refl
        by_kept s (Some e) keeps = absurd keeps

    -- IT IS ANSWERED

    module _ {limits : Limits} (u_exchanges : u.exchanges ≡ r.exchanges) (g : HeadCase) (on : is_founding (Some g) ≡ true) (response : Response)
        (f : Founding) (t : Tables) (facts : Facts limits t) (stands : RowsStand limits r t) (w : Exchange)
        (goes : denial t (event.Head x response) ≡ None) (row : t.exchange x ≡ Some w) (is : head_case (head_view t false w response) ≡ g)
        (same : gone ≡ goes_with t w response g) where
      founds : Founds g
      founds = founds_of g on

      abbrev its : Asker r t x w
      its = a t facts stands w row

      abbrev roomy : Tables
      roomy = m limits t facts now x w its.v its.awaits gone

      -- where the store took it
      pub taken : (z : Rows B b) (n : ℕ) →
          IsSomeAnd (get nat_eq r.consumers c) (λ k. (o : Open) → (table_of r.exchanges x).running ≡ Some o → IsFounding o k g now response f) →
          BeginsFounding u z x c f response
          → (result : Result (Unit {0}) StoreError) (v : Unit {0}) → result ≡ Ok v → IsWithin
          (shelf_of u.entries).limits 0 ((shelf_of u.entries).used + 32768) result → Answered limits n z t before mid now (event.Head x response)
      taken z n founding begins result v is_ok reported =
          let within : IsWithin {T = Unit {0}} (shelf_of u.entries).limits 0 ((shelf_of u.entries).used + 32768) (Ok v) =
          subst (IsWithin (shelf_of u.entries).limits 0 ((shelf_of u.entries).used + 32768)) is_ok reported in
          let asked_at : get nat_eq r.consumers c ≡ Some its.k = ap (get nat_eq r.consumers) (sym (for_it t facts stands w row)) ∙ its.there in
          let made_it = known_of (get nat_eq r.consumers c) its.k
          (λ k. (o : Open) → (table_of r.exchanges x).running ≡ Some o → IsFounding o k g now response f) asked_at founding h.o h.there in
          let reader = reader_kept u roomy w.c x (record its.v { place = place.Direct x }) (gives t facts stands w row).rows
          (m_asker limits t facts now x w its.v its.awaits gone) refl in
          let fits = (within.ok refl).1 in
          founds_answered limits t facts now x response goes w its.v its.awaits g founds is gone same u n before mid (gives t facts stands w row) z
          reader.0 its.k h.o f reader.1
          (ap (λ (e : Exchanges). (table_of e x).running) u_exchanges ∙ h.there)
          (ap (λ (e : RequestClass). e.range) (class_is its.is) ∙ class_range its.v.request) made_it
          (subst (λ (d : ℕ). BeginsFounding u z x d f response) (sym (for_it t facts stands w row)) begins)
          (subst (λ (l : Limits). (shelf_of u.entries).used + 32768 ≤ l.max_total) (gives t facts stands w row).rows.limits fits)

      -- and where it refused it
      may_by : (error : StoreError) (kind : LostKind) → loss_by error ≡ Some kind → IsWithin
          {T = Unit {0}} (shelf_of u.entries).limits 0 ((shelf_of u.entries).used + 32768) (Err error) →
          may_lose (room_for limits t now (event.Head x response)) kind ≡ true
      may_by errors.Fault kind lost within =
          (let one : kinds.Fault ≡ kind = some_is kinds.Fault kind lost in
          subst (λ (e : LostKind). may_lose (room_for limits t now (event.Head x response)) e ≡ true) one refl)
      may_by errors.TooLarge kind lost within = absurd (let never = within.too_large refl in omega (arith, never))
      may_by errors.Full kind lost within =
          let one : kinds.Full ≡ kind = some_is kinds.Full kind lost in
          let past = (within.full refl).1 in
          subst (λ (e : LostKind). may_lose (room_for limits t now (event.Head x response)) e ≡ true) one
          (full_reported limits t facts now x response goes w its.v its.awaits g founds is gone same u 0 before mid (gives t facts stands w row)
          (subst (λ (l : Limits). l.max_total < (shelf_of u.entries).used + 32768) (gives t facts stands w row).rows.limits past))
      may_by errors.NoMemory kind lost within = none_some kind lost

      fault_by : (error : StoreError) (kind : LostKind) (n k : ℕ) → loss_by error ≡ Some kind → HasCause {T = Unit {0}} n k (Err error) →
          is_fault (Loses x kind) ≡ true → n < k
      fault_by error kind n k lost cause fault = grind (arith, nat_tests)

      loss_in : Result (Unit {0}) StoreError → Option LostKind
      loss_in (Ok v) = None
      loss_in (Err error) = loss_by error

      lost_apart : (error : StoreError) (kind : LostKind) → loss_by error ≡ Some kind → err_of error ≡ err_of errors.NoMemory → ⊥
      unfolding loss_in
      lost_apart error kind lost is = none_some kind (sym (ap loss_in is) ∙ lost)

      pub refused : (y z : Rows B b) (error : StoreError) (kind : LostKind) (out : List Act) → loss_by error ≡ Some kind →
          (result : Result (Unit {0}) StoreError) → result ≡ Err error → ((err_of error ≡ err_of errors.NoMemory → ⊥) → IsUnrenewed u y)
          → IsWithin (shelf_of u.entries).limits 0 ((shelf_of u.entries).used + 32768) result →
          HasCause (shelf_of u.entries).faults (shelf_of y.entries).faults result
          → (shelf_of u.entries).faults ≡ (shelf_of r.entries).faults → (shelf_of z.entries).faults ≡ (shelf_of y.entries).faults
          → ((limits : Limits) (s : Tables) (e : Exchange) (k : rows.Consumer) → IsReadAlone s x e k → e.c ≡ c → RowsStand limits y s →
          RowsStand limits z (with_answer now x response e.joined e s)) → out ≡ mid ++ (act.Lost x kind ∷ [])
          → Answered limits (shelf_of r.entries).faults z t before out now (event.Head x response)
      refused y z error kind out lost result is_err unless reported caused was after past acts =
          let within : IsWithin {T = Unit {0}} (shelf_of u.entries).limits 0 ((shelf_of u.entries).used + 32768) (Err error) =
          subst (IsWithin (shelf_of u.entries).limits 0 ((shelf_of u.entries).used + 32768)) is_err reported in
          let cause : HasCause {T = Unit {0}} (shelf_of u.entries).faults (shelf_of y.entries).faults (Err error) =
          subst (HasCause (shelf_of u.entries).faults (shelf_of y.entries).faults) is_err caused in
          let stays = unless (λ same. lost_apart error kind lost same) in
          let rest = stays.rest in
          let alone = read_alone limits t facts now x response goes w its.v its.awaits g founds is gone same in
          let rows_y = stands_read u y roomy rest.last_start rest.consumers rest.exchanges rest.keys stays.same (gives t facts stands w row).rows in
          lost_answered limits t facts now x response goes w its.v its.awaits g founds is gone same u (shelf_of r.entries).faults before mid
          (gives t facts stands w row) z kind out
          (past _ roomy w (record its.v { place = place.Direct x }) alone (for_it t facts stands w row) rows_y) acts (may_by error kind lost within)
          (λ fault. (let more = fault_by error kind (shelf_of u.entries).faults (shelf_of y.entries).faults lost cause fault in
          subst (λ n. n < (shelf_of z.entries).faults) was (subst (λ n. (shelf_of u.entries).faults < n) (sym after) more)))
