-- What an exchange may bring of a piece that is accepted.
use Rattle.std.{proofs.Common.{◌≡◌, ℕ, true, Option, None, refl, sym, subst, arith}, specs.Prelude.{option_map}}
use Rattle.hc_store.specs.declared.backend.Backend.{Ghosts}
use Rattle.hc_effects.proofs.Vocabulary.{piece_refusal}
use Rattle.hc_stored.specs.{Entries.{shelf_of}, Shelf.{is_kept}}
use Rattle.hc_exch.specs.{declared.exchanges.Exchanges.{Exchanges}, Exchanges.{table_of}, Known.{EndsBelow, open_view}}
use Rattle.hc_state.specs.declared.rows.Rows.{Rows}
use Rattle.hc_on_leave.proofs.PieceHandler.{ends_below}
use Rattle.hc_on_body.specs.Arrivals.{IsPieceFor, MayBring}

-- it ends where bytes may be stored
pub comes_below : {B : Type 0} {g : Ghosts B} (r : Rows B g) (x n : ℕ) (o : Option ℕ) → IsPieceFor r x n o → EndsBelow n (table_of r.exchanges x).running
comes_below r x n o comes = let short = comes.short in ends_below r x n comes.stands (omega (arith, short)) (table_of r.exchanges x).running refl comes.accepted

-- as long as the exchanges are as they were, it may be brought to whatever is kept
pub may_bring : {B : Type 0} {g : Ghosts B} (r u : Rows B g) (x q n : ℕ) (o : Option ℕ) → IsPieceFor r x n o → u.exchanges ≡ r.exchanges →
    is_kept (shelf_of u.entries) q ≡ true → MayBring u x q n
may_bring r u x q n o comes same there = record {
  there = there;
  accepted = subst (λ (e : Exchanges). piece_refusal (option_map open_view (table_of e x).running) n ≡ None) (sym same) comes.accepted;
  below = subst (λ (e : Exchanges). EndsBelow n (table_of e x).running) (sym same) (comes_below r x n o comes);
}
