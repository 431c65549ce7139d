-- A read of what a consumer is bound to failed: its poll is answered by that.
use Rattle.std.{proofs.{Common.{◌≡◌, ℕ, ◌+◌, ◌<◌, ◌≤◌, List, Bool, true, false, Option, Some, None, refl, ap, ap₂, sym, ◌∙◌, arith}, lemmas.Bool.Decides.{nat_tests}}, specs.{Prelude.{nat_eq, if◌then◌else◌, ◌==◌}, HashMap.{get}}}
use Rattle.hc_text.proofs.Basics.{eqb-same}
use Rattle.hc_store.specs.declared.backend.Backend.{Ghosts}
use Rattle.hc_effects.proofs.Vocabulary.{Act, Event, Limits, BoundBy, is_bound_place, Tables}
use Rattle.hc_event.specs.declared.event.Event.TheVariants as event
use Rattle.hc_stored.specs.{declared.entries.Entries.{Entries}, Entries.{shelf_of}, Kept.{Kept}, Shelf.{Shelf, Stays, cells_at, cells_in}}
use Rattle.hc_sparse.specs.{Stretch.{stretch}, declared.run.Run.{Run}}
use Rattle.hc_state.specs.{Handlers.{most}, declared.rows.Rows.{Rows}, Facts.{Facts}, Reads.{AnswersMisread, IsBoundBy, IsRunAhead, ReadsStore, bound, run_ahead}, Stands.{RowsStand, Answered, Answers}}
use Rattle.hc_txn.specs.declared.transaction.Transaction.{Transaction as Consumer}
use Rattle.hc_on_poll.specs.{Readers.{reader_of}, declared.read.Reader.{Reader}}
use Rattle.hc_on_poll.proofs.{PlanHandlers.{read_stands}, ShowStored.{bound_row_of}}
use Rattle.hc_sparse.proofs.StretchLemmas.{stretch-absent}
use Rattle.hc_state.proofs.ReaderSteps.{stands_read, answered_since}

module _ {B : Type 0} {g : Ghosts B} (r : Rows B g) (a : Entries B g) (stays : Stays (shelf_of r.entries) (shelf_of a))
    (failed : (shelf_of r.entries).faults < (shelf_of a).faults) (u : Rows B g) (before out : List Act) (now c q : ℕ) (k : Consumer)
    (there : get nat_eq r.consumers c ≡ Some k) where
  pub misread_answered : (how : _) → IsBoundBy q how k → AnswersMisread (record r { entries = a }) u before out now c q →
      (want : ℕ) (limits : Limits) (t : Tables) → Facts limits t → RowsStand limits r t →
      Answered limits (shelf_of r.entries).faults u t before out now (event.Poll c want)
  misread_answered how at misread want limits t facts stands =
      let rd = bound_row_of r t facts.law c q at.0 at.1 how k stands there at.2 in
      misread want (shelf_of r.entries).faults _ t rd.v failed facts (read_stands r a stays t stands) rd.row (bound (ap (is_bound_place q) rd.at ∙ eqb-same q))

-- after a read of the store
module _ {B : Type 0} {g : Ghosts B} (r mid u : Rows B g) (same : ReadsStore r mid) (before out : List Act) (now c q : ℕ) where
  pub stands_after : {limits : Limits} (t : Tables) → RowsStand limits r t → RowsStand limits mid t
  stands_after t stands = stands_read r mid t same.last_start same.consumers same.exchanges same.keys same.entries stands

  module _ (k : Consumer) (there : get nat_eq r.consumers c ≡ Some k) (how : BoundBy) (at : IsBoundBy q how k) where
    pub misread_after : (shelf_of r.entries).faults < (shelf_of mid.entries).faults → AnswersMisread mid u before out now c q →
        (want : ℕ) (limits : Limits) (t : Tables) → Facts limits t → RowsStand limits r t →
        Answered limits (shelf_of r.entries).faults u t before out now (event.Poll c want)
    misread_after failed misread want limits t facts stands =
        let rd = bound_row_of r t facts.law c q at.0 at.1 how k stands there at.2 in
        misread want (shelf_of r.entries).faults _ t rd.v failed facts (stands_after t stands) rd.row (bound (ap (is_bound_place q) rd.at ∙ eqb-same q))

  -- what is answered then is answered
  pub answers_after : (event : Event) → (shelf_of r.entries).faults ≤ (shelf_of mid.entries).faults → Answers mid u before out now event →
      Answers r u before out now event
  answers_after event later answers = λ limits t facts stands accepted.
      answered_since limits (shelf_of r.entries).faults (shelf_of mid.entries).faults u t before out now event later
      (answers _ t facts (stands_after t stands) accepted)

-- and what stands ahead of who reads on is the same
run_stays : (a b : Shelf) → Stays a b → (q o n : ℕ) → run_ahead b q o n ≡ run_ahead a q o n
run_stays a b stays q o n = ap (λ (row : Option Kept). if n == 0 then None else stretch (cells_in row) o n) (stays.kept q)

not_zero : (n : ℕ) → (n ≡ 0 → ⊥) → nat_eq n 0 ≡ false
not_zero n some = by_test (nat_eq n 0) refl
  where
    by_test : (b : Bool) → nat_eq n 0 ≡ b → b ≡ false
    by_test false is = refl
    by_test true is = absurd (some (let none : n ≡ 0 = grind (arith, nat_tests, is) in none))

-- what is read ahead stands there then
pub ahead_after : (s u : Shelf) → Stays s u → (a : Reader) (want : ℕ) (k : Consumer) → a ≡ reader_of a.c a.r k → (run : Option Run) (n : ℕ) →
    n ≡ most a.hi a.offset want → (n ≡ 0 → ⊥) → run ≡ stretch (cells_at s a.r) a.offset n → IsRunAhead u a.r want run k
ahead_after s u same a want k is run n n_is some run_is =
    run_is ∙ (sym (ap (λ (b : Bool). if b then None else stretch (cells_at s a.r) a.offset n) (not_zero n some))
    ∙ (ap₂ (λ (i m : ℕ). run_ahead s a.r i m) (ap (λ (z : Reader). z.offset) is) (n_is ∙ ap (λ (z : Reader). most z.hi z.offset want) is)
    ∙ sym (run_stays s u same a.r (k.lo + k.given) (most k.hi (k.lo + k.given) want))))

-- and what isn't stored isn't
pub unstored_after : (s u : Shelf) → Stays s u → (a : Reader) (k : Consumer) → a ≡ reader_of a.c a.r k → (run : Option Run) (n : ℕ) →
    run ≡ stretch (cells_at s a.r) a.offset n → run ≡ None → cells_at u a.r (k.lo + k.given) ≡ None
unstored_after s u same a k is run n run_is none =
    ap (λ (row : Option Kept). cells_in row (k.lo + k.given)) (same.kept a.r)
    ∙ (ap (λ (z : Reader). cells_at s a.r z.offset) (sym is) ∙ (stretch-absent (cells_at s a.r) a.offset n).0 (sym run_is ∙ none))
