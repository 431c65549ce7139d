-- A consumer waits for another that uses what is current, outside of the line: what is kept represents the tables then.
--
-- One that is let through already stays as it is (`stands_passed`). One that stands in line leaves that and is kept
-- among those that passed: both places read nothing, so by `falls_back` all else stays (`stands_let`). What it waits
-- for is what its key keeps as current (`current_as`), so the wait is the one that its move owes (`use_waits`).
-- `wait_for_use` and `pass` use these.
use Rattle.std.{proofs.Common.{◌≡◌, ℕ, List, [], ◌∷◌, ◌++◌, Bool, true, false, Option, Some, refl, ap, sym, ◌∙◌, subst}, specs.{Prelude.{nat_eq, bytes_eq}, HashMap.{get}}}
use Rattle.hc_text.proofs.Basics.{false_true, some_inj as some_is, and_off as then_false}
use Rattle.hc_store.specs.declared.backend.Backend.{Ghosts}
use Rattle.hc_entry.specs.Keys as keys
use Rattle.hc_entry.specs.{Keys.{kept_of}, Kept.{on_line}, Lines.{line_after_pass}}
use Rattle.hc_effects.proofs.Vocabulary.{Act, Request, Limits, Place, kept_by, passed_by, current, is_live_place, with_event, with_consumer, Lawful, is_in_line, acts_of, move_of, reads, Tables, act, wait, event, lo_of, hi_of, place}
use Rattle.hc_rules.proofs.RangeReads.{bytes_eq-same}
use Rattle.hc_model.specs.Moves as moves
use Rattle.hc_model.specs.Rows as rows
use Rattle.hc_effects.proofs.{PollEffects.{same_consumer}, WaitEffects.{waits}, Tests.{and_false}}
use Rattle.hc_state.specs.{declared.rows.Rows.{Rows}, Changes.{ChangesAt}, Kept.{IsKept, KeepsConsumer, answer_for}, Lines.{KeepsKey}, Plans.{is_idle_at, let_through, HasCurrent}, Stands.{Answered, RowsStand}}
use Rattle.hc_txn.specs.{declared.transaction.Transaction.{Transaction as Consumer}, Transactions.{passed_for}}
use Rattle.hc_state.proofs.{Answering.{does_answered}, FallbackSteps.{falls_back}, ConsumerSteps.{keys_with}, Counting.{stands_counted}, KeySteps.{says_elsewhere, not_lined, passes_key}, QueueHandler.{becomes_by}}

module _ {B : Type 0} {g : Ghosts B} {limits : Limits} (r u : Rows B g) (t : Tables) (law : Lawful t) (c q : ℕ) (k : Consumer) (v : rows.Consumer)
    (stands : RowsStand limits r t) (there : get nat_eq r.consumers c ≡ Some k) (row : t.consumer c ≡ Some v) (now_is : current t v.request.key ≡ Some q)
    (last : u.last_start ≡ r.last_start) (exchanges : u.exchanges ≡ r.exchanges) (entries : u.entries ≡ r.entries) where
  kept : IsKept t k v
  kept = subst (KeepsConsumer t (Some k)) row (subst (λ o. KeepsConsumer t o (t.consumer c)) there (stands.consumers c))

  abbrev w : rows.Consumer
  w = let_through q v

  -- who has passed stays as it is
  pub stands_passed : is_idle_at k.place ≡ true → (k.place ≡ place.Line → ⊥) → u.consumers ≡ r.consumers → u.keys ≡ r.keys →
      RowsStand limits u (with_consumer c (Some w) t)
  stands_passed idle unlined consumers same_keys = by_place k.place refl
    where
      still : (n : ℕ) (how : Option ℕ) → v.place ≡ place.Passed n how → w ≡ v
      still n how at =
          let same : q ≡ n = some_is q n (sym now_is ∙ (law.passed.waits c n how v row at).current_is) in
          ap (λ (p : Place). record v { place = p }) (ap (place.Passed q) (ap kept_by at) ∙ (ap (λ (m : ℕ). place.Passed m how) same ∙ sym at))

      stands_still : with_consumer c (Some w) t ≡ t → RowsStand limits u (with_consumer c (Some w) t)
      stands_still same = subst (RowsStand limits u) (sym same) (record {
        limits = rw entries stands.limits;
        last_start = last ∙ stands.last_start;
        next = rw exchanges stands.next;
        count = rw consumers stands.count;
        consumers = rw consumers stands.consumers;
        exchanges = rw exchanges stands.exchanges;
        keys = rw same_keys stands.keys;
        entries = rw entries stands.entries;
      })

      by_place : (p : Place) → k.place ≡ p → RowsStand limits u (with_consumer c (Some w) t)
      by_place place.Line at = absurd (unlined at)
      by_place (place.Passed n how) at =
          stands_still (ap (λ (z : rows.Consumer). with_consumer c (Some z) t) (still n how (sym kept.place ∙ at)) ∙ same_consumer t t c v row)
      by_place _ at = false_true (sym (ap is_idle_at at) ∙ idle)

  -- who stands in line passes
  module _ (at : k.place ≡ place.Line) (changes : ChangesAt r.consumers u.consumers c (passed_for q))
      (passes : keys.Becomes (on_line (line_after_pass c)) k.request.key r.keys u.keys) where
    v_at : v.place ≡ place.Line
    v_at = sym kept.place ∙ at

    abbrev its : List ℕ
    its = v.request.key

    passed_kept : IsKept t (passed_for q k) w
    passed_kept = assumption (
      kept,
      ap (place.Passed q) (sym (ap kept_by v_at)),
      kept.answer ∙ by_shown v.shown refl,
      kept.begins ∙ ap (lo_of t) v_at,
      kept.ends ∙ ap (hi_of t) v_at,
    )
      where
        by_shown : (b : Bool) → v.shown ≡ b → answer_for t v ≡ answer_for t w
        by_shown true is = rw is refl
        by_shown false is = rw (is, v_at) refl

    keys_then : (key : List ℕ) → KeepsKey (with_consumer c (Some w) t) key (kept_of u.keys key)
    keys_then =
        let line_off : is_in_line its (Some w) ≡ false = not_lined its w refl in
        keys_with t c (Some w) (on_line (line_after_pass c)) its r.keys u.keys stands.keys
        (subst (λ (key : List ℕ). keys.Becomes (on_line (line_after_pass c)) key r.keys u.keys) (ap (λ (z : Request). z.key) kept.request) passes)
        (passes_key t c (Some w) its (kept_of r.keys its) line_off (rw (bytes_eq-same its its refl) refl) (then_false (bytes_eq its its) false refl)
        (and_false (is_in_line its (Some w)) false line_off))
        (λ other off. says_elsewhere t c v w other row refl off)

    pub stands_let : RowsStand limits u (with_consumer c (Some w) t)
    stands_let =
        falls_back r u t c v w (passed_for q k) stands row (ap reads v_at) refl (ap is_live_place v_at) refl last exchanges entries
        (becomes_by r.consumers u.consumers c k (passed_for q) there changes) passed_kept keys_then

module _ {B : Type 0} {g : Ghosts B} (limits : Limits) (faults : ℕ) (u : Rows B g) (t : Tables) (law : Lawful t) (now c want q d : ℕ) (v : rows.Consumer)
    (row : t.consumer c ≡ Some v) (before out : List Act) where
  pub use_waits : current t v.request.key ≡ Some q → move_of t now want c v ≡ moves.Waits (wait.Busy d) → out ≡ before ++
      (act.Pending c (wait.Busy d) ∷ []) → RowsStand limits u (with_consumer c (Some (let_through q v)) t) →
      Answered limits faults u t before out now (event.Poll c want)
  use_waits now_is is reported stands =
      let s : Tables = with_consumer c (Some (record v { place = passed_by (kept_by v.place) (current t v.request.key) })) t in
      let same : with_consumer c (Some (let_through q v)) t ≡ s =
      ap (λ (o : Option ℕ). with_consumer c (Some (record v { place = passed_by (kept_by v.place) o })) t) (sym now_is) in
      does_answered limits faults u t (with_event now (event.Poll c want) s) before out (acts_of c (moves.Waits (wait.Busy d))) now (event.Poll c want)
      (waits limits t law now c want v row (wait.Busy d) is) refl refl reported
      (stands_counted u s now (event.Poll c want) refl (subst (RowsStand limits u) same stands))

-- what is kept as current is
pub current_as : {B : Type 0} {g : Ghosts B} {limits : Limits} (r : Rows B g) (t : Tables) (k : Consumer) (v : rows.Consumer) (q : ℕ) →
    RowsStand limits r t → IsKept t k v → HasCurrent r.keys q k → current t v.request.key ≡ Some q
current_as r t k v q stands kept at =
    sym (stands.keys v.request.key).current ∙ (ap (λ (key : List ℕ). (kept_of r.keys key).current) (sym (ap (λ (z : Request). z.key) kept.request)) ∙ at)
