-- An exchange that ends with less than it promised is a failure, which is answered.
--
-- It promised a length, so what it founded has one, and the end tells none (`length_stays`). What is kept tells an end
-- as it tells a close (`Ended`). So the end is an event that stops it, as in `StopAnswers`. There are three cases: past
-- the store, the exchange of one reader, or one that writes for several. In each the failure of the tables is the one
-- that the code made due (`short_answered`). `end` uses this.
use Rattle.std.{proofs.{Common.{◌≡◌, ◌≢◌, inl, inr, ℕ, ◌<◌, ◌≤◌, List, [], ◌∷◌, length, Bool, true, false, Option, Some, None, refl, ap, sym, ◌∙◌, subst, arith}, lemmas.Bool.Decides.{nat_tests}}, specs.{Prelude.{is_some, nat_eq, nat_lt, option_map, ◌==◌, ◌&&◌, if◌then◌else◌}, Option.{option_or}}}
use mathlib.Core.Path.{fun_ext}
use Rattle.hc_text.proofs.Basics.{eqb-other, eqb-same, false_true, same_or, same_some as same_row}
use Rattle.hc_store.specs.declared.backend.Backend.{Ghosts}
use Rattle.hc_effects.proofs.Vocabulary.{Act, Cause, Limits, denial, Does, with_event, tables_after_close, at_end, with_due, with_dues, with_exchange, with_length, with_loss, with_representation, let_go, let_some_go, lost_to, going_with, family, promised_bytes, is_reached, short_of, NoFlaw, Loses, is_short, is_below, stops_early, IsMeasured, reported, unreported, is_bound, with_total_if_none, Tables, Exchange, Representation, written_representation, exclusive, act, cause, kind, event}
use Rattle.hc_model.specs.Rows as rows
use Rattle.hc_effects.proofs.StopEffects as past_effects
use Rattle.hc_effects.proofs.{StopFrames.{end_of}, Tests.{none_some}}
use Rattle.hc_effects.proofs.StopSeals as seal_effects
use Rattle.hc_state.specs.{declared.rows.Rows.{Rows}, Facts.{Facts}, Stands.{Answered, RowsStand}, Stopped.{with_consumers, due_for, HasStopped, IsBroken, BrokeOff}}
use Rattle.hc_state.specs.Stopped as stopped
use Rattle.hc_on_body.proofs.{Ended.{with_over, with_end, stands_ended}, StopAnswers.{StopsBy, stopped_answered, own_tables, shared_tables, nothing_goes}}

-- A LENGTH THAT IS KNOWN STAYS

ended_known : (n m : ℕ) (v : Representation) → v.head.total ≡ Some m → with_total_if_none n v ≡ v
ended_known n m v known = ap (λ (o : Option ℕ). record v { head = record v.head { total = o } }) (ap (λ o. option_or o (Some n)) known ∙ sym known)

abbrev lengthened : Tables → ℕ → ℕ → ℕ → Option Representation
lengthened t x n q = if x == q then option_map (with_total_if_none n) (t.representation q) else t.representation q

-- where the length of what x founded is known
pub length_stays : (t : Tables) (x n : ℕ) → ((v : Representation) → t.representation x ≡ Some v → is_some v.head.total ≡ true) → with_length x n t ≡ t
length_stays t x n known = ap (λ (f : ℕ → Option Representation). record t { representation = f }) rows_are
  where
    by_total : (v : Representation) (o : Option ℕ) → v.head.total ≡ o → is_some o ≡ true → with_total_if_none n v ≡ v
    by_total v None is some = false_true some
    by_total v (Some m) is some = ended_known n m v is

    by_row : (o : Option Representation) → t.representation x ≡ o → option_map (with_total_if_none n) o ≡ o
    by_row None at = refl
    by_row (Some v) at = ap Some (by_total v v.head.total refl (known v at))

    rows_are : lengthened t x n ≡ t.representation
    rows_are = fun_ext (λ q. elim (same_or x q) [
      | inl e ↦
          let on : nat_eq x q ≡ true = ap (nat_eq x) (sym e) ∙ eqb-same x in
          rw on (subst (λ (m : ℕ). option_map (with_total_if_none n) (t.representation m) ≡ t.representation m) e (by_row (t.representation x) refl))
      | inr ne ↦ rw (eqb-other x q ne) refl
    ])

module _ {B : Type 0} {g : Ghosts B} (limits : Limits) (faults : ℕ) (u : Rows B g) (t : Tables) (facts : Facts limits t) (now x : ℕ) (w : Exchange)
    (broken : IsBroken t x w) (p : ℕ) (promises : promised_bytes w ≡ Some p) (accepts : denial t (event.End x) ≡ None) where
  abbrev why : Cause
  why = cause.Short x (length w.body) p

  few : length w.body < p
  few =
      let most : length w.body ≤ p = facts.law.places.promised_most x p w broken.row promises in
      let off : nat_eq p (length w.body) ≡ false = sym (ap (λ o. is_reached o (length w.body)) promises) ∙
      facts.law.endings.unreached x w broken.row broken.is_open in
      grind (arith, nat_tests)

  less : nat_lt (length w.body) p ≡ true
  less = (let lt = few in grind (arith, nat_tests))

  short : is_short w ≡ true
  short = ap (is_below (length w.body)) promises ∙ less

  due_is : short_of x w (promised_bytes w) ≡ Some why
  due_is = ap (short_of x w) promises ∙ rw less refl

  known : (v : Representation) → t.representation x ≡ Some v → is_some v.head.total ≡ true
  known v there =
      let joined = facts.law.owned.founders x w v broken.row there in
      let own : family x w ≡ x = rw joined refl in
      by_measure (facts.measures.brings x w v broken.row broken.is_open (end_of t x w broken.row accepts).headed (ap t.representation own ∙ there))
    where
      by_measure : IsMeasured w v → is_some v.head.total ≡ true
      by_measure (reported n total is known within) = ap (λ o. is_some o) known
      by_measure (unreported none unknown base unjoined all) = none_some p (sym none ∙ promises)

  early : (y : ℕ) (z : Exchange) → stops_early z y (event.End x) ≡ true → nat_eq x y ≡ true
  early y z on = by_tests (nat_eq x y) (is_short z) on
    where
      by_tests : (a b : Bool) → (a && b) ≡ true → a ≡ true
      by_tests true b is = refl
      by_tests false b is = false_true is

  -- what the end does, as the tables with those who fail tell it
  by_end : (s z : Tables) → z ≡ s →
      Does limits t now (event.End x) NoFlaw [] (with_event now (event.End x) (let_some_go now (if is_short w then going_with t (Some x) else None) z))
      → ((r : ℕ) (v : Representation) → family x w ≡ r → t.representation r ≡ Some v → v.is_lost ≡ false →
      Does limits t now (event.End x) (Loses r kind.Fault) (act.Lost r kind.Fault ∷ [])
      (with_event now (event.End x) (let_go now r (with_loss r (exclusive t r v) z))))
      → StopsBy limits t now x w (event.End x) s
  unfolding written_representation
  by_end s z same quiet loses = record {
    quiet =
        subst (λ (a : Tables). Does limits t now (event.End x) NoFlaw [] (with_event now (event.End x) (let_some_go now (going_with t (Some x)) a))) same
        (subst (λ b. Does limits t now (event.End x) NoFlaw []
        (with_event now (event.End x) (let_some_go now (if b then going_with t (Some x) else None) z))) short quiet);
    loses = λ r v of_r there kept. subst
        (λ (a : Tables). Does limits t now (event.End x) (Loses r kind.Fault) (act.Lost r kind.Fault ∷ [])
        (with_event now (event.End x) (let_go now r (with_loss r (exclusive t r v) a)))) same (loses r v of_r there kept);
    unwritten = refl;
    bodiless = refl;
    stops_at = λ y. refl;
    early_at = early;
    seals = λ acts. refl;
  }

  -- and so is it answered
  ends_with : (f : ℕ → Option rows.Consumer) (s : Tables) → s.representation ≡ t.representation →
      tables_after_close x (with_consumers f t) ≡ with_over x w t.exchange s → StopsBy limits t now x w (event.End x) (with_end x w t.exchange s) →
      (before out : List Act) → HasStopped limits faults u t f before out now x → Answered limits faults u t before out now (event.End x)
  ends_with f s same_rows same by before out has =
      stopped_answered limits faults u t facts.law now x w broken.row (event.End x) (with_end x w t.exchange s) by f same_rows
      (λ o stands. by_going o stands)
      (λ r v alone stands. stands_ended u (let_go now r (with_representation r (Some (lost_to alone v)) s)) t.exchange x w p promises
      (subst (λ (a : Tables). RowsStand limits u (let_go now r (with_representation r (Some (lost_to alone v)) a))) same stands))
      before out has
    where
      by_going : (o : Option ℕ) → RowsStand limits u (let_some_go now o (tables_after_close x (with_consumers f t))) →
          RowsStand limits u (let_some_go now o (with_end x w t.exchange s))
      by_going None stands = stands_ended u s t.exchange x w p promises (subst (RowsStand limits u) same stands)
      by_going (Some q) stands =
          stands_ended u (let_go now q s) t.exchange x w p promises (subst (λ (a : Tables). RowsStand limits u (let_go now q a)) same stands)

  -- one who fails
  one_is : (c : ℕ) → with_length x (length w.body) (with_due c (short_of x w (promised_bytes w)) (with_exchange x (Some (at_end w)) t)) ≡ with_end x w
      t.exchange (with_due c (Some why) t)
  one_is c = length_stays (with_due c (short_of x w (promised_bytes w)) (with_exchange x (Some (at_end w)) t)) x (length w.body) known ∙
      ap (λ o. with_due c o (with_exchange x (Some (at_end w)) t)) due_is

  all_are : (r : ℕ) → with_length x (length w.body) (with_dues r (short_of x w (promised_bytes w)) (with_exchange x (Some (at_end w)) t)) ≡ with_end x w
      t.exchange (with_dues r (Some why) t)
  all_are r = length_stays (with_dues r (short_of x w (promised_bytes w)) (with_exchange x (Some (at_end w)) t)) x (length w.body) known ∙
      ap (λ o. with_dues r o (with_exchange x (Some (at_end w)) t)) due_is

  pub short_answered : (before out : List Act) → BrokeOff limits faults u t before out now x w why → Answered limits faults u t before out now (event.End x)
  short_answered before out (stopped.own c (stopped.past none one) has) =
      let s : Tables = with_due w.c (Some why) t in
      let has_w : HasStopped limits faults u t (due_for t (λ d. w.c == d) why) before out now x =
      subst (λ (n : ℕ). HasStopped limits faults u t (due_for t (λ d. n == d) why) before out now x) one has in
      let going : (if is_short w then going_with t (Some x) else None) ≡ None = ap (λ b. if b then going_with t (Some x) else None) short ∙
      nothing_goes t facts.law x w broken.row none in
      ends_with (due_for t (λ d. w.c == d) why) s refl (own_tables t x w.c w why broken.row)
      (by_end (with_end x w t.exchange s) (with_due w.c (short_of x w (promised_bytes w)) (with_exchange x (Some (at_end w)) t))
      (ap (λ o. with_due w.c o (with_exchange x (Some (at_end w)) t)) due_is)
      (subst (λ o. Does limits t now (event.End x) NoFlaw []
      (with_event now (event.End x) (let_some_go now o (with_due w.c (short_of x w (promised_bytes w)) (with_exchange x (Some (at_end w)) t)))))
      (sym going) (past_effects.ends_past limits t facts.law now x w broken.row none accepts))
      (λ r v of_r there kept. none_some v (sym none ∙ (ap t.representation of_r ∙ there))))
      before out has_w
  short_answered before out (stopped.own c (stopped.brings k v there at owns) has) =
      ends_with (due_for t (λ d. c == d) why) (with_due c (Some why) t) refl (own_tables t x c w why broken.row)
      (by_end (with_end x w t.exchange (with_due c (Some why) t))
      (with_length x (length w.body) (with_due c (short_of x w (promised_bytes w)) (with_exchange x (Some (at_end w)) t))) (one_is c)
      (seal_effects.ends_own limits t facts.law now x w broken.row (family x w) v refl there c k at owns accepts)
      (λ r z of_r here kept. seal_effects.ends_own_lost limits t facts.law now x w broken.row r z of_r here c k at owns accepts kind.Fault kept))
      before out has
  short_answered before out (stopped.shared v there on writer has) =
      let r : ℕ = family x w in
      let z : Tables = with_length x (length w.body) (with_dues r (short_of x w (promised_bytes w)) (with_exchange x (Some (at_end w)) t)) in
      ends_with (due_for t (λ d. is_bound r (t.consumer d)) why) (with_dues r (Some why) t) refl (shared_tables t x r w why broken.row)
      (by_end (with_end x w t.exchange (with_dues r (Some why) t)) z (all_are r)
      (seal_effects.ends_shared limits t facts.law now x w broken.row r v refl there on writer accepts)
      (λ q a of_q here kept. subst
      (λ (n : ℕ). Does limits t now (event.End x) (Loses n kind.Fault) (act.Lost n kind.Fault ∷ [])
      (with_event now (event.End x) (let_go now n (with_loss n (exclusive t n a) z)))) of_q
      (let here_r : t.representation r ≡ Some a = ap t.representation of_q ∙ here in
      let same : v ≡ a = same_row (t.representation r) v a there here_r in
      subst (λ (b : Representation). Does limits t now (event.End x) (Loses r kind.Fault) (act.Lost r kind.Fault ∷ [])
      (with_event now (event.End x) (let_go now r (with_loss r (exclusive t r b) z)))) same
      (seal_effects.ends_shared_lost limits t facts.law now x w broken.row r v refl there on writer accepts kind.Fault
      (ap (λ (b : Representation). b.is_lost) same ∙ kept)))))
      before out has
