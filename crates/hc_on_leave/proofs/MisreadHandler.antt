-- The stored head of what is current can't be read: who asked for it fails, and what is current is let go.
use Rattle.std.{proofs.{lemmas.Bool.Decides.{nat_tests}, Common.{arith, ◌≡◌, ℕ, ◌<◌, List, [], ◌∷◌, ◌++◌, true, false, Option, Some, None, refl, ap, sym, ◌∙◌, subst}}, specs.Prelude.{map, ◌||◌}}
use Rattle.hc_text.proofs.Basics.{eqb-same, false_true, or_right as or_last}
use Rattle.hc_store.specs.declared.backend.Backend.{Ghosts}
use Rattle.hc_stored.specs.Entries.{shelf_of}
use Rattle.hc_effects.proofs.Vocabulary.{Act, Limits, Place, is_last_reader, current, is_number, Does, with_event, with_consumer, let_go, let_some_go, all_closed, as_over, left_by, going_with, Misreads, flaw_in, Lawful, IsAway, is_bound, Tables, Consumer, with_item_first, act, cause, event, place}
use Rattle.hc_effects.proofs.MisreadEffects.{misreads}
use Rattle.hc_state.specs.{declared.rows.Rows.{Rows}, Plans.{is_idle_at}, Stands.{Answered, RowsStand}}
use Rattle.hc_state.proofs.Counting.{stands_counted}

-- who reads nothing leaves no exchange
pub idle_leaves : (t : Tables) (law : Lawful t) (c : ℕ) (v : Consumer) → t.consumer c ≡ Some v → is_idle_at v.place ≡ true → left_by t c v ≡ None
idle_leaves t law c v row idle = grind (arith, nat_tests)

module _ {B : Type 0} {g : Ghosts B} (limits : Limits) (faults : ℕ) (u : Rows B g) (t : Tables) (law : Lawful t) (now c want r : ℕ) (v : Consumer)
    (row : t.consumer c ≡ Some v) (idle : is_idle_at v.place ≡ true) (before out : List Act) where
  abbrev s : Tables
  s = let_go now r (with_consumer c (Some (as_over v)) t)

  abbrev acts : List Act
  acts = act.Failed c (cause.StoreRead r) ∷ []

  does_fail : Does limits t now (event.Poll c want) (Misreads r) acts (with_event now (event.Poll c want) s)
  does_fail =
      let none = idle_leaves t law c v row idle in
      let does = misreads limits t law now c want v row r in
      record {
        acts_are = does.acts_are ∙ ap (λ (o : Option ℕ). act.Failed c (cause.StoreRead r) ∷ map act.Close (with_item_first o [])) none;
        tables_are = does.tables_are
            ∙ ap (λ (o : Option ℕ). with_event now (event.Poll c want)
            (let_go now r (let_some_go now (going_with t o) (with_consumer c (Some (as_over v)) (all_closed (with_item_first o []) t))))) none;
      }

  pub fault_answered : current t v.request.key ≡ Some r → faults < (shelf_of u.entries).faults → out ≡ before ++ acts → RowsStand limits u s →
      Answered limits faults u t before out now (event.Poll c want)
  fault_answered now_is failed reported stands = record {
    flaw = Misreads r;
    acts = reported ∙ ap (λ z. before ++ z) (sym does_fail.acts_are);
    shown = ap flaw_in does_fail.acts_are;
    may = rw row (or_last (is_bound r (Some v)) (is_number (current t v.request.key) r) (ap (λ (o : Option ℕ). is_number o r) now_is ∙ eqb-same r));
    caused = λ on. failed;
    rows = subst (RowsStand limits u) (sym does_fail.tables_are) (stands_counted u s now (event.Poll c want) refl stands);
  }
