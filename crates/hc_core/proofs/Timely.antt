-- What comes for an exchange comes once that was opened.
use Rattle.std.proofs.{lemmas.Bool.Decides.{nat_tests}, Common.{◌≡◌, ℕ, ◌<◌, ◌≤◌, ◌^◌, Some, arith}, Math.{Bridge.{le_prop}, Logic.{∥∥₁_elim}}}
use Rattle.hc_stored.specs.Entries.{shelf_of}
use Rattle.hc_store.specs.declared.backend.Backend.{Ghosts}
use Rattle.hc_exch.specs.{declared.row.Open.{Open}, Exchanges.{table_of}}
use Rattle.hc_effects.proofs.Vocabulary.{Tables, StoredHeads, tables}
use Rattle.hc_state.specs.{declared.rows.Rows.{Rows}, Good.{StandsUntil}, Heads.{IsTimely}, Stands.{RowsStand}}
use Rattle.hc_laws.proofs.StoredHeadsKeep.{heads_in_runs}

module _ {B : Type 0} {g : Ghosts B} (r : Rows B g) (x : ℕ) (o : Open) (running : (table_of r.exchanges x).running ≡ Some o) where
  opened_by : (t : Tables) (now : ℕ) → StoredHeads t → RowsStand (shelf_of r.entries).limits r t → t.moment ≤ now → o.moment ≤ now
  opened_by t now heads stands until = grind (arith, nat_tests)

  pub since : (bytes now : ℕ) → StandsUntil r bytes now → o.moment ≤ now
  since bytes now (s, until) = opened_by (tables s.contents s.h) now (heads_in_runs (shelf_of r.entries).limits s.contents s.h s.begins s.run) s.rows until

pub timely : {B : Type 0} {g : Ghosts B} (r : Rows B g) (bytes x now : ℕ) → now < 2 ^ 62 → ∥ StandsUntil r bytes now ∥₁ →
    IsTimely now (table_of r.exchanges x).running
timely r bytes x now early some o running = record { later = ∥∥₁_elim some le_prop (λ until. since r x o running bytes now until); small = early }
