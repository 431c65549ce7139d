-- What is denied is what the tables say, and a denial changes the moment alone.
use Rattle.std.{proofs.{lemmas.Bool.Decides.{nat_tests}, Common.{arith, ◌≡◌, ℕ, Option, Some, refl, ap}}, specs.{Prelude.{option_map, nat_eq}, Option.{option_and_then}, HashMap.{get}}}
use Rattle.hc_effects.proofs.Vocabulary.{Limits, Event, Gate, refusal_of, denial, gate, as_open, exchange_in, Tables, Exchange, event}
use Rattle.hc_store.specs.declared.backend.Backend.{Ghosts}
use Rattle.hc_exch.specs.{Exchanges.{table_of}, Known.{open_view}, declared.row.Open.{Open}}
use Rattle.hc_model.specs.Denials.{names_live}
use Rattle.hc_state.specs.{declared.rows.Rows.{Rows}, Kept.{KeepsRunning, IsRunning}, Stands.{RowsStand, gate_of, open_at, names_kept}}
use Rattle.hc_state.proofs.Ties.{kept_lives}

-- an open exchange is seen as the tables have it
seen_as : (t : Tables) (x : ℕ) (o : Open) (w : Exchange) → IsRunning t x o w → Some (open_view o) ≡ as_open (Some w)
seen_as t x o w is = rw is.is_open (ap Some (rw (is.headed, is.asked, is.delivered, is.promised_is) refl))

sees : (t : Tables) (x : ℕ) (o : Option Open) (row : Option Exchange) → KeepsRunning t x o row → option_map open_view o ≡ as_open row
sees t x o row keeps = grind (arith, nat_tests)

sees_at : {B : Type 0} {g : Ghosts B} {limits : Limits} (r : Rows B g) (t : Tables) (x : Option ℕ) → RowsStand limits r t → option_and_then
    (open_at r) x ≡ as_open (option_and_then t.exchange x)
sees_at r t x stands = grind (arith, nat_tests)

names_as : {B : Type 0} {g : Ghosts B} {limits : Limits} (r : Rows B g) (t : Tables) (ev : Event) → RowsStand limits r t → names_kept r ev ≡ names_live t ev
names_as r t ev stands = grind (arith, nat_tests)

gates_are : {B : Type 0} {g : Ghosts B} {limits : Limits} (r : Rows B g) (t : Tables) (ev : Event) → RowsStand limits r t → gate_of r ev ≡ gate t ev
gates_are r t ev stands = rw (stands.last_start, stands.count, names_as r t ev stands, sees_at r t (exchange_in ev) stands) refl

-- What the rows refuse is what the tables deny.
pub denies_as : {B : Type 0} {g : Ghosts B} {limits : Limits} (r : Rows B g) (t : Tables) (ev : Event) → RowsStand limits r t →
    refusal_of (gate_of r ev) ev ≡ denial t ev
denies_as r t ev stands = ap (λ (g : Gate). refusal_of g ev) (gates_are r t ev stands)
