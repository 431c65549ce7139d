-- A head that joins is answered.
--
-- `join_of` says what the code looked up: consumer, exchange, representation and entry. Where that was lost before,
-- only the exchange changes (`past_answered`). Else the stored head is renewed, and `JoinRows` has the rest. Its
-- consumer reads it alone, or shares it if it resumes a download (`stands_alone`, `stands_shared`). Where the renewal
-- fails, it is lost to this consumer, its exclusive writer (`lost_answered`). `join` uses all.
use Rattle.std.{proofs.{lemmas.{Bool.Decides.{nat_tests}, List.{append-nil}}, Common.{arith, ◌≡◌, ◌≢◌, inl, inr, ℕ, ◌+◌, ◌<◌, List, [], ◌∷◌, ◌++◌, Bool, true, false, Option, Some, None, refl, ap, ap₂, sym, ◌∙◌, subst}}, specs.{Prelude.{IsSomeAnd, is_some, nat_eq, not, option_map, ◌||◌, if◌then◌else◌}, HashMap.{get, hash_map_len}}}
use mathlib.Core.Path.{fun_ext}
use Rattle.hc_text.proofs.Basics.{eqb-other, eqb-same, false_true, same_or}
use Rattle.hc_effects.proofs.Vocabulary.{Limits, Act, Event, Response, HeadCase, head_case, head_refusal, has_loss, head_view, case_at, is_founding, is_joining, is_number, denial, is_live_place, with_event, let_go, lost_to, as_gone, with_answer, with_consumer, with_representation, promise_in, is_reached, Loses, updated_head, entry_of, Lawful, bound, is_bound, is_bound_place, resumes, Tables, Exchange, Representation, is_kept, exclusive, written_representation, head_writes, may_validate, lossless, act, kind, need, event}
use Rattle.hc_store.specs.declared.backend.Backend.{Ghosts}
use Rattle.hc_record.specs.{Head.{Head, sealed_head}, declared.kind.Kind.TheVariants.{the_data as kinds}}
use Rattle.hc_validate.specs.Updates.{updated_fields}
use Rattle.hc_stored.specs.{Entries.{shelf_of}, Kept.{Kept, with_head, written_by}, Shelf.{same_order}, Views.{is_lost_at}}
use Rattle.hc_stored.specs.Shelf as shelf
use Rattle.hc_exch.specs.{declared.row.Open.{Open}, Exchanges.{table_of}}
use Rattle.hc_exch.specs.Exchanges as exch
use Rattle.hc_model.specs.Rows as rows
use Rattle.hc_effects.proofs.{FirstKeeps.{case_is}, FoundBy.{case_by}, ExclusiveWriters.{filter_some}, LossStands.{joins_again, not_founding}, Basics.{some_row}}
use Rattle.hc_effects.proofs.UpdateEffects as does
use Rattle.hc_state.specs.{declared.rows.Rows.{Rows}, Changes.{BecomesAt, ChangesAt, Numbered}, Facts.{Facts}, Heads.{IsAskedBy}, Joining.{Brings, bringing, IsAbout, IsGrowing, Shares, growing, joins_hole}, Kept.{IsKept, KeepsConsumer}, Leaving.{LeavesKey}, Renewals.{renewed_head}, Stands.{Answered, RowsStand, open_at}, Stopped.{HoldsNothing}, Stored.{IsEntry, KeepsEntry, as_written}}
use Rattle.hc_txn.specs.{declared.transaction.Transaction.{Transaction as Consumer}, Transactions.{without_own}}
use Rattle.hc_state.proofs.{Answering.{does_answered, lossy_answered}, Counting.{stands_counted}, CurrentTies.{entry_row}, Maps.{known_of}, QueueHandler.{becomes_by}}
use Rattle.hc_on_leave.proofs.{HeardRows.{Asker, asked_by, asker_of, headless_of, kept_as, runs_as}, LoseAlone.{holds_none}, UnstoredHandlers.{unwritten}}
use Rattle.hc_on_head.proofs.{JoinEntries.{entries_joined, entry_gone, entry_growing}, JoinRows.{IsJoinable, stands_joined}, JoinReported.{Joins, first, later, goes_on, hole_aim, joinable_as, joinable_lost, joins_lost_too, joins_of, need_is, reported_of, view_joins}}

-- ROWS THAT STAY

pub stays_at : {A : Type 0} (m n : Numbered A) (c : ℕ) (k : A) → n ≡ m → get nat_eq m c ≡ Some k → BecomesAt m n c (Some k)
stays_at m n c k same there = record {
  places = λ d. ap (λ z. get nat_eq z d) same ∙ elim (same_or c d) [
    | inl e ↦ (let here : get nat_eq m d ≡ Some k = sym (ap (get nat_eq m) e) ∙ there in here ∙ rw (e, eqb-same d) refl)
    | inr ne ↦ rw (eqb-other c d ne) refl
  ];
  len = rw there (ap (λ z. hash_map_len z + 1) same);
}

-- a consumer and a representation that stay may be named
pub named_rows : (t : Tables) (now x c q : ℕ) (response : Response) (o : Option ℕ) (w : Exchange) (v : rows.Consumer) (p : Representation) →
    t.consumer c ≡ Some v → t.representation q ≡ Some p →
    with_consumer c (Some v) (with_answer now x response o w (with_representation q (Some p) t)) ≡ with_answer now x response o w t
named_rows t now x c q response o w v p consumer representation = grind (arith, nat_tests)

-- ITS ROWS THEN

module _ {B : Type 0} {g : Ghosts B} {limits : Limits} (r u : Rows B g) (m : Tables) (now x q c : ℕ) (response : Response) (w : Exchange)
    (v : rows.Consumer) (p : Representation) (j : IsJoinable m x q w v p) (k : Consumer) (o : Open) (e : Kept) (stands : RowsStand limits r m)
    (for_it : w.c ≡ c) (there : get nat_eq r.consumers w.c ≡ Some k)
    (running : (table_of r.exchanges x).running ≡ Some o) (on : is_reached (promise_in w response) 0 ≡ false)
    (kept : (shelf_of r.entries).kept q ≡ Some e) where
  is : IsEntry m q e p
  is = subst (λ (n : Option Kept). KeepsEntry m q n (Some p)) kept (subst (KeepsEntry m q ((shelf_of r.entries).kept q)) j.there (stands.entries.each q))

  its : IsKept m k v
  its = kept_as r m w.c v k stands j.asker there

  -- it is its consumer's own
  own_apart : (y : ℕ) → x ≢ y → is_number v.own y ≡ false
  own_apart y ne = ap (λ (n : Option ℕ). is_number n y) j.mine ∙ eqb-other x y ne

  -- what is gone brings no news
  pub gone_joined : p.is_gone ≡ true → Brings r u c x q response → RowsStand limits u (with_answer now x response (Some q) w m)
  gone_joined as_gone brings =
      subst (RowsStand limits u) (named_rows m now x w.c q response (Some q) w v p j.asker j.there)
      (stands_joined m now x q response w v p j p.head refl p.writer v.own own_apart r u k o stands there running on
      (ap (λ z. (shelf_of z).limits) brings.entries ∙ stands.limits) brings.last_start
      (subst (λ (n : Option ℕ). BecomesAt r.consumers u.consumers w.c (Some (record k { own = n }))) its.own
      (stays_at r.consumers u.consumers w.c k brings.consumers there))
      (known_of (get nat_eq r.consumers w.c) k _ there
      (subst (λ (d : ℕ). IsSomeAnd (get nat_eq r.consumers d) (λ n. LeavesKey d n.request.key r.keys u.keys)) (sym for_it) brings.line))
      brings.exchanges
      (entries_joined m now x q response w v p j p.head refl refl p.writer v.own own_apart (shelf_of r.entries) (shelf_of u.entries) e stands.entries
      (ap (λ z. (shelf_of z).order) brings.entries) (λ n ne. ap (λ z. (shelf_of z).kept n) brings.entries) (ap (λ z. (shelf_of z).kept q) brings.entries ∙ kept)
      (entry_gone m now x q response w v p j p.head refl refl p.writer v.own own_apart e is as_gone refl refl)))

  -- THE STORED HEAD IS RENEWED

  abbrev h : Head
  h = updated_head now response w p.head

  abbrev news : Head
  news = renewed_head w.opened now response.fields (growing e.head)

  reported_so : sealed_head kinds.Growing h.total news ≡ h
  reported_so = ap (λ (n : Head). record n { requested = w.opened; answered = now; fields = updated_fields n.fields response.fields }) is.head

  moment_is : o.moment ≡ w.opened
  moment_is = (runs_as r m x o w stands running j.row).moment

  module _ (mid brought : Rows B g) (grows : IsGrowing r mid x now q response) (brings : Brings mid brought c x q response) where
    its_line : LeavesKey w.c k.request.key r.keys brought.keys
    its_line =
        let line : IsSomeAnd (get nat_eq mid.consumers w.c) (λ n. LeavesKey w.c n.request.key mid.keys brought.keys) =
        subst (λ (d : ℕ). IsSomeAnd (get nat_eq mid.consumers d) (λ n. LeavesKey d n.request.key mid.keys brought.keys)) (sym for_it) brings.line in
        subst (λ z. LeavesKey w.c k.request.key z brought.keys) grows.rest.keys
        (known_of (get nat_eq mid.consumers w.c) k _ (ap (λ z. get nat_eq z w.c) grows.rest.consumers ∙ there) line)

    its_exchange : exch.Becomes (bringing q response) x r.exchanges brought.exchanges
    its_exchange = subst (λ z. exch.Becomes (bringing q response) x z brought.exchanges) grows.rest.exchanges brings.exchanges

    its_shelf : shelf.Becomes (option_map (with_head news)) same_order q (shelf_of r.entries) (shelf_of brought.entries)
    its_shelf =
        subst (λ z. shelf.Becomes (option_map (with_head news)) same_order q (shelf_of r.entries) (shelf_of z)) (sym brings.entries)
        (subst (λ (n : ℕ). shelf.Becomes (option_map (with_head (renewed_head n now response.fields (growing e.head)))) same_order q (shelf_of r.entries)
        (shelf_of mid.entries)) moment_is (grows.head o e running kept))

    kept_then : (shelf_of brought.entries).kept q ≡ Some (with_head news e)
    kept_then = its_shelf.kept q ∙ rw (eqb-same q, kept) refl

    others_then : (n : ℕ) → q ≢ n → (shelf_of brought.entries).kept n ≡ (shelf_of r.entries).kept n
    others_then n ne = its_shelf.kept n ∙ rw (eqb-other q n ne) refl

    -- its consumer reads it alone
    pub stands_alone : RowsStand limits brought
        (with_consumer w.c (Some (record v { own = v.own }))
        (with_answer now x response (Some q) w (with_representation q (Some (record p { head = h; writer = p.writer })) m)))
    stands_alone =
        stands_joined m now x q response w v p j h refl p.writer v.own own_apart r brought k o stands there running on
        (its_shelf.limits ∙ stands.limits) (brings.last_start ∙ grows.rest.last_start)
        (subst (λ (n : Option ℕ). BecomesAt r.consumers brought.consumers w.c (Some (record k { own = n }))) its.own
        (stays_at r.consumers brought.consumers w.c k (brings.consumers ∙ grows.rest.consumers) there))
        its_line its_exchange
        (entries_joined m now x q response w v p j h refl refl p.writer v.own own_apart (shelf_of r.entries) (shelf_of brought.entries) (with_head news e)
        stands.entries its_shelf.order others_then kept_then
        (entry_growing m now x q response w v p j h refl refl p.writer v.own own_apart e news e.writer is on reported_so refl refl is.writer))

    -- others may
    pub stands_shared : Shares brought u c x q →
        RowsStand limits u (with_consumer w.c (Some (record v { own = None }))
        (with_answer now x response (Some q) w (with_representation q (Some (record p { head = h; writer = Some x })) m)))
    stands_shared shares =
        stands_joined m now x q response w v p j h refl (Some x) None (λ y ne. refl) r u k o stands there running on
        (shares.entries.limits ∙ (its_shelf.limits ∙ stands.limits)) (shares.last_start ∙ (brings.last_start ∙ grows.rest.last_start))
        (becomes_by r.consumers u.consumers w.c k without_own there
        (subst (λ (d : ℕ). ChangesAt r.consumers u.consumers d without_own) (sym for_it)
        (subst (λ z. ChangesAt z u.consumers c without_own) (brings.consumers ∙ grows.rest.consumers) shares.consumers)))
        (subst (λ z. LeavesKey w.c k.request.key r.keys z) (sym shares.keys) its_line)
        (subst (λ z. exch.Becomes (bringing q response) x r.exchanges z) (sym shares.exchanges) its_exchange)
        (entries_joined m now x q response w v p j h refl refl (Some x) None (λ y ne. refl) (shelf_of r.entries) (shelf_of u.entries)
        (written_by x (with_head news e)) stands.entries (shares.entries.order ∙ its_shelf.order)
        (λ n ne. shares.entries.kept n ∙ (rw (eqb-other q n ne) (others_then n ne)))
        (shares.entries.kept q ∙ rw (eqb-same q) (ap (option_map (written_by x)) kept_then))
        (entry_growing m now x q response w v p j h refl refl (Some x) None (λ y ne. refl) e news (Some x) is on reported_so refl refl (as_written refl)))

-- IT IS ANSWERED

module _ {B : Type 0} {g : Ghosts B} {limits : Limits} (r u : Rows B g) (t : Tables) (facts : Facts limits t) (now x : ℕ) (response : Response)
    (goes : denial t (event.Head x response) ≡ None) (w : Exchange) (a : Asker r t x w) (case : HeadCase) (how : Joins case)
    (is : head_case (head_view t false w response) ≡ case) (q : ℕ) (aim : w.aim ≡ Some q) (p : Representation) (there : t.representation q ≡ Some p)
    (before : List Act) where
  abbrev ev : Event
  ev = event.Head x response

  on_joins : {k : HeadCase} → Joins k → is_joining (Some k) ≡ true
  on_joins first = refl
  on_joins later = refl

  as_model : {k : HeadCase} → Joins k → does.Joins limits t facts.law now x response goes w a.awaits.row a.v a.awaits.asker q p aim there k
  as_model first = does.first
  as_model later = does.later

  founds_none : is_founding (Some case) ≡ false
  founds_none = not_founding case (on_joins how)

  -- as before, where it was lost
  pub past_answered : p.is_lost ≡ true → RowsStand limits u (with_answer now x response (Some q) w t) →
      Answered limits (shelf_of r.entries).faults u t before before now ev
  past_answered lost stood =
      does_answered limits (shelf_of r.entries).faults u t (with_event now ev (with_answer now x response (Some q) w t)) before before [] now ev
      (does.joins_past limits t facts.law now x response goes w a.awaits.row a.v a.awaits.asker q p aim there case (as_model how) is lost)
      (unwritten t now x response w case a.awaits.row is founds_none) refl (sym (append-nil before))
      (stands_counted u _ now ev refl stood)

  -- updated
  abbrev after : Bool → Tables
  after b = with_consumer w.c (Some (record a.v { own = if b then None else a.v.own }))
      (with_answer now x response (Some q) w
      (with_representation q (Some (record p { head = updated_head now response w p.head; writer = if b then Some x else p.writer })) t))

  pub joins_answered : p.is_lost ≡ false → (b : Bool) → b ≡ resumes t response w p → RowsStand limits u (after b) → (faults : ℕ) →
      Answered limits faults u t before before now ev
  joins_answered kept b same stood faults =
      does_answered limits faults u t (with_event now ev (after (resumes t response w p))) before before [] now ev
      (does.joins limits t facts.law now x response goes w a.awaits.row a.v a.awaits.asker q p aim there case (as_model how) is kept)
      (unwritten t now x response w case a.awaits.row is founds_none) refl (sym (append-nil before))
      (stands_counted u _ now ev refl (subst (λ (n : Bool). RowsStand limits u (after n)) same stood))

  -- lost
  writes_it : written_representation t (entry_of limits t now ev (Loses q kind.Fault)) ≡ Some q
  unfolding written_representation
  writes_it =
      let e = entry_of limits t now ev (Loses q kind.Fault) in
      let k = head_case (head_view t (has_loss (lossless e).acts) w response) in
      let is_it : case_at t (lossless e) ≡ Some k = case_is t (lossless e) x response w refl a.awaits.row in
      let joins : is_joining (Some k) ≡ true = joins_again
      t false (has_loss (lossless e).acts) w response (head_case (head_view t false w response)) (case_by (head_view t false w response))
      (ap (λ z. is_joining (Some z)) is ∙ on_joins how) in
      ap (head_writes t (lossless e) x response) a.awaits.row
      ∙ (by_tests (is_founding (case_at t (lossless e))) (may_validate t w response) (is_joining (case_at t (lossless e)))
      (ap is_founding is_it ∙ not_founding k joins) (ap is_joining is_it ∙ joins) ∙ aim)
    where
      by_tests : (f m j : Bool) → f ≡ false → j ≡ true → (if f then Some x else if m || j then w.aim else None) ≡ w.aim
      by_tests false true j off on = refl
      by_tests false false j off on = rw on refl
      by_tests true m j off on = false_true (sym off)

  -- its consumer writes it alone
  pub alone : p.is_lost ≡ false → exclusive t q p ≡ Some w.c
  alone kept = does.joins_alone limits t facts.law now x response goes w a.awaits.row a.v a.awaits.asker q p aim there case (as_model how) false is kept

  pub holds_alone : p.is_lost ≡ false → (c : ℕ) → w.c ≡ c → HoldsNothing t q p (Some c)
  holds_alone kept c for_it = subst (λ (o : Option ℕ). HoldsNothing t q p o) (alone kept ∙ ap Some for_it) (holds_none limits t facts q p there kept)

  pub lost_answered : p.is_lost ≡ false → (c : ℕ) → w.c ≡ c → (faults : ℕ) (out : List Act) → out ≡ before ++ (act.Lost q kind.Fault ∷ []) →
      faults < (shelf_of u.entries).faults →
      RowsStand limits u (with_answer now x response (Some q) w (let_go now q (with_representation q (Some (lost_to (Some c) p)) t))) →
      Answered limits faults u t before out now ev
  lost_answered kept c for_it faults out reported failed stood =
      lossy_answered limits faults u t
      (with_event now ev (let_go now q (with_answer now x response (Some q) w (with_representation q (Some (lost_to (exclusive t q p) p)) t)))) before out
      (act.Lost q kind.Fault ∷ []) now ev q
      (does.joins_lost limits t facts.law now x response goes w a.awaits.row a.v a.awaits.asker q p aim there case (as_model how) kind.Fault kept
      (joins_lost_too (head_view t false w response) case how is)) writes_it (ap is_kept there ∙ ap not kept) refl failed reported
      (stands_counted u _ now ev refl
      (subst (λ (o : Option ℕ). RowsStand limits u (let_go now q (with_answer now x response (Some q) w (with_representation q (Some (lost_to o p)) t))))
      (sym (alone kept ∙ ap Some for_it)) stood))

-- BY WHAT THE CODE LOOKED UP

-- what joins, as the rows and the tables have it
pub record IsJoin {B : Type 0} {g : Ghosts B} (r : Rows B g) (t : Tables) (x c q : ℕ) (response : Response) (w : Exchange) : Type 0 where
  pub a : Asker r t x w
  pub for_it : w.c ≡ c
  pub o : Open
  pub running : (table_of r.exchanges x).running ≡ Some o
  pub aim : w.aim ≡ Some q
  pub p : Representation
  pub row : t.representation q ≡ Some p
  pub e : Kept
  pub kept : (shelf_of r.entries).kept q ≡ Some e
  pub is : IsEntry t q e p
  pub can : IsJoinable t x q w a.v p
  pub on : is_reached (promise_in w response) 0 ≡ false
  pub reported : e.head.total ≡ p.head.total
  pub hole : (from : ℕ) × (to : ℕ) × (w.need ≡ need.Hole from to)

pub join_of : {B : Type 0} {g : Ghosts B} {limits : Limits} (r : Rows B g) (t : Tables) (facts : Facts limits t) (stands : RowsStand limits r t)
    (now x c q : ℕ) (response : Response) (w : Exchange) (row : t.exchange x ≡ Some w) (k : HeadCase) → joins_hole k ≡ true →
    denial t (event.Head x response) ≡ None → head_case (head_view t false w response) ≡ k
    → head_refusal (open_at r x) ≡ None → IsAskedBy c (table_of r.exchanges x).running → IsAbout q (table_of r.exchanges x).running →
    shelf.is_kept (shelf_of r.entries) q ≡ true → IsJoin r t x c q response w
join_of r t facts stands now x c q response w row k joins goes is accepted asks opens kept =
    let a = asker_of r t facts now x response w stands goes row in
    let h = headless_of (table_of r.exchanges x).running accepted in
    let view = view_joins (head_view t false w response) k (joins_of k joins) is in
    let aim = hole_aim t x q h.o w (runs_as r t x h.o w stands h.there row) a.awaits.headless view.hole (opens h.o h.there) in
    let e = some_row ((shelf_of r.entries).kept q) kept in
    let p = entry_row r t stands q e.0 e.1 in
    record {
      a = a;
      for_it = asked_by r t x c w stands accepted asks row;
      o = h.o;
      running = h.there;
      aim = aim;
      p = p.0;
      row = p.1;
      e = e.0;
      kept = e.1;
      is = p.2;
      can = joinable_as r t facts x response w a view q aim p.0 p.1;
      on = goes_on r t facts x response w a view;
      reported = reported_of r t facts x response w a view q aim e.0 p.0 p.1 p.2;
      hole = need_is r t facts x response w a view;
    }

-- what is renewed is kept still
pub kept_growing : {B : Type 0} {g : Ghosts B} (r mid brought : Rows B g) (now x q : ℕ) (response : Response) → head_refusal (open_at r x) ≡ None →
    shelf.is_kept (shelf_of r.entries) q ≡ true → IsGrowing r mid x now q response → brought.entries ≡ mid.entries →
    shelf.is_kept (shelf_of brought.entries) q ≡ true
kept_growing r mid brought now x q response accepted kept grows same =
    let h = headless_of (table_of r.exchanges x).running accepted in
    grind (arith, nat_tests)

-- and what wasn't lost isn't
pub fresh_growing : {B : Type 0} {g : Ghosts B} (r mid brought : Rows B g) (now x q : ℕ) (response : Response) → head_refusal (open_at r x) ≡ None →
    ((e : Kept) → (shelf_of r.entries).kept q ≡ Some e → e.is_lost ≡ false) → shelf.is_kept (shelf_of r.entries) q ≡ true →
    IsGrowing r mid x now q response → brought.entries ≡ mid.entries → is_lost_at ((shelf_of brought.entries).kept q) ≡ false
fresh_growing r mid brought now x q response accepted fresh kept grows same = by_kept ((shelf_of r.entries).kept q) refl kept
  where
    by_kept : (o : Option Kept) → (shelf_of r.entries).kept q ≡ o → is_some o ≡ true → is_lost_at ((shelf_of brought.entries).kept q) ≡ false
    by_kept None at there = false_true there
    by_kept (Some e) at there =
        let h = headless_of (table_of r.exchanges x).running accepted in
        let becomes = grows.head h.o e h.there at in
        let now_at : (shelf_of mid.entries).kept q ≡ Some (with_head (renewed_head h.o.moment now response.fields (growing e.head)) e) =
        becomes.kept q ∙ rw (eqb-same q, at) refl in
        ap (λ z. is_lost_at ((shelf_of z).kept q)) same ∙ (ap is_lost_at now_at ∙ fresh e at)

-- WHERE IT IS LOST

module _ {B : Type 0} {g : Ghosts B} (l u : Rows B g) (t : Tables) (law : Lawful t) (now x q c : ℕ) (response : Response) (w : Exchange)
    (v : rows.Consumer) (p : Representation) (j : IsJoinable t x q w v p) (alone : Option ℕ) (for_it : w.c ≡ c) (o : Open)
    (running : (table_of l.exchanges x).running ≡ Some o) (on : is_reached (promise_in w response) 0 ≡ false) where
  abbrev m : Tables
  m = let_go now q (with_representation q (Some (lost_to alone p)) t)

  abbrev gone_p : Representation
  gone_p = as_gone (lost_to alone p)

  its_place : IsJoinable m x q w v gone_p
  its_place = joinable_lost t now x q w v p alone j

  bound_then : bound m q ≢ []
  unfolding bound
  bound_then none = grind (arith, nat_tests, is_bound, eqb-same, filter_some)

  pub brings_lost : {limits : Limits} → RowsStand limits l m → Brings l u c x q response → RowsStand limits u (with_answer now x response (Some q) w m)
  brings_lost stands brings =
      let e = by_kept ((shelf_of l.entries).kept q) refl (subst (KeepsEntry m q ((shelf_of l.entries).kept q)) its_place.there (stands.entries.each q)) in
      let k = by_consumer (get nat_eq l.consumers w.c) refl (subst (KeepsConsumer m (get nat_eq l.consumers w.c)) its_place.asker (stands.consumers w.c)) in
      gone_joined l u m now x q c response w v gone_p its_place k.0 o e.0 stands for_it k.1 running on e.1 refl brings
    where
      by_kept : (n : Option Kept) → (shelf_of l.entries).kept q ≡ n → KeepsEntry m q n (Some gone_p) → (e : Kept) × ((shelf_of l.entries).kept q ≡ Some e)
      by_kept None at dropped = absurd (bound_then dropped.unused)
      by_kept (Some e) at keeps = (e, at)

      by_consumer : (n : Option Consumer) → get nat_eq l.consumers w.c ≡ n → KeepsConsumer m n (Some v) → (k : Consumer) × (get nat_eq l.consumers w.c ≡ Some k)
      by_consumer None at dead = false_true (sym dead ∙ ap is_live_place j.at)
      by_consumer (Some k) at keeps = (k, at)
