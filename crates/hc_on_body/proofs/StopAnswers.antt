-- An end or a fault by which something fails is answered.
--
-- An event that stops an exchange seals what it brought, or loses it. `StopsBy` lists the effects of both, and
-- `stopped_answered` makes the answer of them. Code and effects tell the tables in two ways, which the first lemmas
-- equate. A fault is such an event past the store, of one reader, or of what is written for several (`fault_answered`).
-- Before the head its consumer fails (`wait_answered`). `ShortAnswers` does the same for an end.
use Rattle.std.{proofs.{Common.{◌≡◌, inl, inr, ℕ, ◌<◌, List, [], ◌∷◌, ◌++◌, Bool, true, false, Option, Some, None, refl, ap, sym, ◌∙◌, subst}, lemmas.List.{append-nil}}, specs.Prelude.{is_some, nat_eq, option_map, ◌==◌, ◌||◌, if◌then◌else◌}}
use mathlib.Core.Path.{fun_ext}
use Rattle.hc_text.proofs.Basics.{eqb-other, eqb-same, false_true, or_false as or_none, same_or, same_some as same_row}
use Rattle.hc_store.specs.declared.backend.Backend.{Ghosts}
use Rattle.hc_effects.proofs.Vocabulary.{Act, Cause, Event, Response, Limits, denial, Does, with_event, tables_after_close, over, put_down, failing, if_bound, with_consumer, with_due, with_dues, with_exchange, with_loss, with_representation, let_go, let_some_go, lost_to, going_with, Entry, entry_without_acts, family, NoFlaw, Loses, stops_early, Lawful, is_bound, is_bound_place, Tables, Exchange, Representation, received_in, write_in, written_representation, sealed_representation, lossless, stops, exclusive, act, cause, kind}
use Rattle.hc_event.specs.declared.event.Event.TheVariants as event
use Rattle.hc_model.specs.Rows as rows
use Rattle.hc_effects.proofs.StopEffects as past_effects
use Rattle.hc_effects.proofs.StopSeals as seal_effects
use Rattle.hc_effects.proofs.Tests.{none_some}
use Rattle.hc_state.specs.{declared.rows.Rows.{Rows}, Stands.{Answered, RowsStand}, Stopped.{with_consumers, due_for, HasStopped, quietly, unsealed, IsBroken, BrokeOff, Waited}}
use Rattle.hc_state.specs.Stopped as stopped
use Rattle.hc_state.proofs.{Answering.{does_answered, lossy_answered}, Counting.{stands_counted}, SealWritten.{sealed_stopping}}
use Rattle.hc_on_body.proofs.BreakHandler.{closed_is}

-- THE TABLES, AS THE EVENT LEAVES THEM

-- those who fail, told in two ways
abbrev bound_due : Tables → ℕ → Cause → ℕ → Option rows.Consumer
bound_due t r why d = option_map (if_bound r (failing (Some why))) (t.consumer d)

bound_dues : (t : Tables) (r : ℕ) (why : Cause) → due_for t (λ d. is_bound r (t.consumer d)) why ≡ bound_due t r why
bound_dues t r why = fun_ext (λ d. by_row (t.consumer d))
  where
    by_test : (b : Bool) (k : rows.Consumer) → (if b then Some (failing (Some why) k) else Some k) ≡ Some (if b then failing (Some why) k else k)
    by_test true k = refl
    by_test false k = refl

    by_row : (o : Option rows.Consumer) → (if is_bound r o then option_map (failing (Some why)) o else o) ≡ option_map (if_bound r (failing (Some why))) o
    by_row None = refl
    by_row (Some k) = by_test (is_bound_place r k.place) k

pub shared_tables : (t : Tables) (x r : ℕ) (w : Exchange) (why : Cause) → t.exchange x ≡ Some w →
    tables_after_close x (with_consumers (due_for t (λ d. is_bound r (t.consumer d)) why) t) ≡ with_dues r (Some why) (with_exchange x (Some (over w)) t)
shared_tables t x r w why row =
    closed_is (with_consumers (due_for t (λ d. is_bound r (t.consumer d)) why) t) x w row
    ∙ ap (λ (f : ℕ → Option rows.Consumer). record (with_exchange x (Some (over w)) t) { consumer = f }) (bound_dues t r why)

pub own_tables : (t : Tables) (x c : ℕ) (w : Exchange) (why : Cause) → t.exchange x ≡ Some w →
    tables_after_close x (with_consumers (due_for t (λ d. c == d) why) t) ≡ with_due c (Some why) (with_exchange x (Some (over w)) t)
own_tables t x c w why row = closed_is (with_consumers (due_for t (λ d. c == d) why) t) x w row

-- a loss, told in two ways
abbrev reported_lost : Tables → ℕ → Representation → Option ℕ → ℕ → Option Representation
reported_lost t r v alone q = if r == q then Some (lost_to alone v) else t.representation q

abbrev mapped_lost : Tables → ℕ → Option ℕ → ℕ → Option Representation
mapped_lost t r alone q = if r == q then option_map (lost_to alone) (t.representation q) else t.representation q

pub loss_is : (t : Tables) (r : ℕ) (v : Representation) (alone : Option ℕ) → t.representation r ≡ Some v →
    with_representation r (Some (lost_to alone v)) t ≡ with_loss r alone t
loss_is t r v alone there = ap (λ (f : ℕ → Option Representation). record t { representation = f }) rows_are
  where
    rows_are : reported_lost t r v alone ≡ mapped_lost t r alone
    rows_are = fun_ext (λ q. elim (same_or r q) [
      | inl e ↦
          let on : nat_eq r q ≡ true = ap (nat_eq r) (sym e) ∙ eqb-same r in
          let here : t.representation q ≡ Some v = sym (ap t.representation e) ∙ there in
          rw (on, here) refl
      | inr ne ↦ rw (eqb-other r q ne) refl
    ])

-- THE ANSWER

-- what an event does by which x stops, with what it writes
pub record StopsBy (limits : Limits) (t : Tables) (now x : ℕ) (w : Exchange) (ev : Event) (s : Tables) : Type 0 where
  pub quiet : Does limits t now ev NoFlaw [] (with_event now ev (let_some_go now (going_with t (Some x)) s))
  pub loses : (r : ℕ) (v : Representation) → family x w ≡ r → t.representation r ≡ Some v → v.is_lost ≡ false →
      Does limits t now ev (Loses r kind.Fault) (act.Lost r kind.Fault ∷ []) (with_event now ev (let_go now r (with_loss r (exclusive t r v) s)))
  pub unwritten : write_in t (entry_without_acts now ev) ev ≡ None
  pub bodiless : received_in ev ≡ 0
  pub stops_at : (y : ℕ) → stops y ev ≡ nat_eq x y
  pub early_at : (y : ℕ) (z : Exchange) → stops_early z y ev ≡ true → nat_eq x y ≡ true
  pub seals : (acts : List Act) →
      written_representation t (record { now = now; event = ev; acts = acts }) ≡ sealed_representation t
      (lossless (record { now = now; event = ev; acts = acts }))

module _ {B : Type 0} {g : Ghosts B} (limits : Limits) (faults : ℕ) (u : Rows B g) (t : Tables) (law : Lawful t) (now x : ℕ) (w : Exchange)
    (row : t.exchange x ≡ Some w) (ev : Event) (s : Tables) (by : StopsBy limits t now x w ev s) (f : ℕ → Option rows.Consumer)
    (same_rows : s.representation ≡ t.representation)
    (goes : (o : Option ℕ) → RowsStand limits u (let_some_go now o (tables_after_close x (with_consumers f t))) → RowsStand limits u (let_some_go now o s))
    (loses : (r : ℕ) (v : Representation) (alone : Option ℕ) →
    RowsStand limits u (let_go now r (with_representation r (Some (lost_to alone v)) (tables_after_close x (with_consumers f t)))) →
    RowsStand limits u (let_go now r (with_representation r (Some (lost_to alone v)) s))) where
  not_lost : (r : ℕ) (v : Representation) → t.representation r ≡ Some v → v.is_gone ≡ false → v.is_lost ≡ false
  not_lost r v there stays = by_test v.is_lost refl
    where
      by_test : (b : Bool) → v.is_lost ≡ b → b ≡ false
      by_test false is = refl
      by_test true is = false_true (sym stays ∙ (law.sound.rows r v there).store.lost_is_gone is)

  pub stopped_answered : (before out : List Act) → HasStopped limits faults u t f before out now x → Answered limits faults u t before out now ev
  stopped_answered before out (quietly same rows) =
      let z : Tables = let_some_go now (going_with t (Some x)) s in
      does_answered limits faults u t (with_event now ev z) before out [] now ev by.quiet by.unwritten refl (same ∙ sym (append-nil before))
      (stands_counted u z now ev by.bodiless (goes (going_with t (Some x)) rows))
  stopped_answered before out (unsealed l) =
      let q = l.sealed in
      let same_w : q.w ≡ w = same_row (t.exchange x) q.w w q.row row in
      let of_r : family x w ≡ q.r = ap (family x) (sym same_w) ∙ q.of_r in
      let kept = not_lost q.r q.v q.there q.stays in
      let z : Tables = let_go now q.r (with_loss q.r (exclusive t q.r q.v) s) in
      let does = by.loses q.r q.v of_r q.there kept in
      let e : Entry = record { now = now; event = ev; acts = [] } in
      lossy_answered limits faults u t (with_event now ev z) before out (act.Lost q.r kind.Fault ∷ []) now ev q.r does
      (ap (λ (acts : List Act). written_representation t (record { now = now; event = ev; acts = acts })) does.acts_are
      ∙ (by.seals (act.Lost q.r kind.Fault ∷ [])
      ∙ sealed_stopping t law e x w q.r q.v row of_r q.there q.stays q.kept (λ y. or_none (stops y ev) ∙ by.stops_at y)
      (λ y a on. by.early_at y a (sym (or_none (stops_early a y ev)) ∙ on))))
      (rw (q.there, kept) refl) refl l.failed l.acts
      (stands_counted u z now ev by.bodiless
      (subst (λ (a : Tables). RowsStand limits u (let_go now q.r a)) (loss_is s q.r q.v (exclusive t q.r q.v) (ap (λ h. h q.r) same_rows ∙ q.there))
      (loses q.r q.v (exclusive t q.r q.v) l.rows)))

-- A FAULT

module _ (t : Tables) (law : Lawful t) (x : ℕ) (w : Exchange) (row : t.exchange x ≡ Some w) where
  -- what brings a representation has its head
  pub headed_by : (v : Representation) → t.representation (family x w) ≡ Some v → is_some w.head ≡ true
  headed_by v there = by_head w.head refl
    where
      by_head : (h : Option Response) → w.head ≡ h → is_some h ≡ true
      by_head (Some response) is = refl
      by_head None bare =
          let joined = (law.sound.waits.headless x w row bare).1 in
          let own : family x w ≡ x = rw joined refl in
          none_some v (sym (law.sound.numbered.names.unfounded x w row bare) ∙ (ap t.representation (sym own) ∙ there))

  -- what goes past the store founded nothing
  pub unfounded : t.representation (family x w) ≡ None → t.representation x ≡ None
  unfounded none = by_row (t.representation x) refl
    where
      by_row : (o : Option Representation) → t.representation x ≡ o → o ≡ None
      by_row None is = refl
      by_row (Some v) is =
          let joined = law.owned.founders x w v row is in
          let own : family x w ≡ x = rw joined refl in
          none_some v (sym none ∙ (ap t.representation own ∙ is))

  pub nothing_goes : t.representation (family x w) ≡ None → going_with t (Some x) ≡ None
  nothing_goes none = (let there = unfounded none in rw there refl)

module _ {B : Type 0} {g : Ghosts B} (limits : Limits) (faults : ℕ) (u : Rows B g) (t : Tables) (law : Lawful t) (now x : ℕ) (w : Exchange)
    (broken : IsBroken t x w) (accepts : denial t (event.Fault x) ≡ None) where
  abbrev why : Cause
  why = cause.Net x

  by_fault : (s : Tables) → Does limits t now (event.Fault x) NoFlaw [] (with_event now (event.Fault x) (let_some_go now (going_with t (Some x)) s))
      → ((r : ℕ) (v : Representation) → family x w ≡ r → t.representation r ≡ Some v → v.is_lost ≡ false →
      Does limits t now (event.Fault x) (Loses r kind.Fault) (act.Lost r kind.Fault ∷ [])
      (with_event now (event.Fault x) (let_go now r (with_loss r (exclusive t r v) s))))
      → StopsBy limits t now x w (event.Fault x) s
  unfolding written_representation
  by_fault s quiet loses = record {
    quiet = quiet;
    loses = loses;
    unwritten = refl;
    bodiless = refl;
    stops_at = λ y. refl;
    early_at = λ y z on. on;
    seals = λ acts. refl;
  }

  pub fault_answered : (before out : List Act) → BrokeOff limits faults u t before out now x w why → Answered limits faults u t before out now (event.Fault x)
  fault_answered before out (stopped.own c (stopped.past none one) has) =
      let s : Tables = with_due w.c (Some why) (with_exchange x (Some (over w)) t) in
      let has_w : HasStopped limits faults u t (due_for t (λ d. w.c == d) why) before out now x =
      subst (λ (n : ℕ). HasStopped limits faults u t (due_for t (λ d. n == d) why) before out now x) one has in
      stopped_answered limits faults u t law now x w broken.row (event.Fault x) s
      (by_fault s (subst (λ o. Does limits t now (event.Fault x) NoFlaw [] (with_event now (event.Fault x) (let_some_go now o s)))
      (sym (nothing_goes t law x w broken.row none)) (by_head w.head refl))
      (λ r v of_r there kept. none_some v (sym none ∙ (ap t.representation of_r ∙ there))))
      (due_for t (λ d. w.c == d) why) refl
      (λ o rows. subst (λ (z : Tables). RowsStand limits u (let_some_go now o z)) (own_tables t x w.c w why broken.row) rows)
      (λ r v alone rows. subst (λ (z : Tables). RowsStand limits u (let_go now r (with_representation r (Some (lost_to alone v)) z)))
      (own_tables t x w.c w why broken.row) rows)
      before out has_w
    where
      by_head : (h : Option Response) → w.head ≡ h →
          Does limits t now (event.Fault x) NoFlaw [] (with_event now (event.Fault x) (with_due w.c (Some why) (with_exchange x (Some (over w)) t)))
      by_head (Some response) headed = past_effects.faults_past limits t law now x w broken.row none (ap (λ z. is_some z) headed) accepts
      by_head None bare =
          let waits = law.owned.waiting x w broken.row broken.is_open bare in
          past_effects.faults_later limits t law now x w broken.row bare waits.k waits.row accepts (broken.shown bare waits.k waits.row)
  fault_answered before out (stopped.own c (stopped.brings k v there at owns) has) =
      let s : Tables = with_due c (Some why) (with_exchange x (Some (over w)) t) in
      let headed = headed_by t law x w broken.row v there in
      stopped_answered limits faults u t law now x w broken.row (event.Fault x) s
      (by_fault s (seal_effects.faults_own limits t law now x w broken.row (family x w) v refl there c k at owns headed accepts)
      (λ r z of_r here kept. seal_effects.faults_own_lost limits t law now x w broken.row r z of_r here c k at owns headed accepts kind.Fault kept))
      (due_for t (λ d. c == d) why) refl
      (λ o rows. subst (λ (z : Tables). RowsStand limits u (let_some_go now o z)) (own_tables t x c w why broken.row) rows)
      (λ r z alone rows. subst (λ (a : Tables). RowsStand limits u (let_go now r (with_representation r (Some (lost_to alone z)) a)))
      (own_tables t x c w why broken.row) rows)
      before out has
  fault_answered before out (stopped.shared v there on writer has) =
      let r : ℕ = family x w in
      let s : Tables = with_dues r (Some why) (with_exchange x (Some (over w)) t) in
      let headed = headed_by t law x w broken.row v there in
      stopped_answered limits faults u t law now x w broken.row (event.Fault x) s
      (by_fault s (seal_effects.faults_shared limits t law now x w broken.row r v refl there on writer headed accepts)
      (λ q z of_q here kept. subst
      (λ (n : ℕ). Does limits t now (event.Fault x) (Loses n kind.Fault) (act.Lost n kind.Fault ∷ [])
      (with_event now (event.Fault x) (let_go now n (with_loss n (exclusive t n z) s)))) of_q
      (let here_r : t.representation r ≡ Some z = ap t.representation of_q ∙ here in
      let same : v ≡ z = same_row (t.representation r) v z there here_r in
      subst (λ (a : Representation). Does limits t now (event.Fault x) (Loses r kind.Fault) (act.Lost r kind.Fault ∷ [])
      (with_event now (event.Fault x) (let_go now r (with_loss r (exclusive t r a) s)))) same
      (seal_effects.faults_shared_lost limits t law now x w broken.row r v refl there on writer headed accepts kind.Fault
      (ap (λ (a : Representation). a.is_lost) same ∙ kept)))))
      (due_for t (λ d. is_bound r (t.consumer d)) why) refl
      (λ o rows. subst (λ (z : Tables). RowsStand limits u (let_some_go now o z)) (shared_tables t x r w why broken.row) rows)
      (λ q z alone rows. subst (λ (a : Tables). RowsStand limits u (let_go now q (with_representation q (Some (lost_to alone z)) a)))
      (shared_tables t x r w why broken.row) rows)
      before out has

-- BEFORE THE HEAD

pub wait_answered : {B : Type 0} {g : Ghosts B} (limits : Limits) (faults : ℕ) (u : Rows B g) (t : Tables) → Lawful t →
    (now x c : ℕ) (w : Exchange) (k : rows.Consumer) (before : List Act) → Waited t x c w k → denial t (event.Fault x) ≡ None
    → RowsStand limits u (with_consumer c (Some (put_down (cause.Net x) k)) (with_exchange x (Some (over w)) t)) →
    Answered limits faults u t before before now (event.Fault x)
wait_answered limits faults u t law now x c w k before waited accepts rows =
    let s : Tables = with_consumer w.c (Some (put_down (cause.Net x) k)) (with_exchange x (Some (over w)) t) in
    does_answered limits faults u t (with_event now (event.Fault x) s) before before [] now (event.Fault x)
    (past_effects.faults_first limits t law now x w waited.row waited.bare k (ap t.consumer waited.for_it ∙ waited.consumer) accepts waited.unshown) refl
    refl (sym (append-nil before))
    (stands_counted u s now (event.Fault x) refl
    (subst (λ (n : ℕ). RowsStand limits u (with_consumer n (Some (put_down (cause.Net x) k)) (with_exchange x (Some (over w)) t))) (sym waited.for_it) rows))
