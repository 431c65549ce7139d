-- Who was let through: it waits for what is current, and the 304 that it kept came from its own exchange.
use Rattle.std.specs.Prelude.{◌≡◌, ℕ, false, Option, Some, None}
use Rattle.hc_event.specs.declared.place.Place.TheVariants as place
use Rattle.hc_model.specs.Currents.{current}
use Rattle.hc_model.specs.Rows.{Tables, Exchange, Representation, Consumer}

-- r is current for its key
pub record WaitsForCurrent (t : Tables) (r : ℕ) (k : Consumer) : Type 0 where
  pub v : Representation
  pub row : t.representation r ≡ Some v
  pub key_is : v.key ≡ k.request.key
  pub not_gone : v.is_gone ≡ false
  pub current_is : current t k.request.key ≡ Some r

-- x is its own exchange, and over
pub record OwnsOver (t : Tables) (x : ℕ) (k : Consumer) : Type 0 where
  pub own : k.own ≡ Some x
  pub w : Exchange
  pub row : t.exchange x ≡ Some w
  pub over : w.is_open ≡ false

pub record Passed (t : Tables) : Type 0 where
  pub waits : (c r : ℕ) (kept : Option ℕ) (k : Consumer) → t.consumer c ≡ Some k →
      k.place ≡ place.Passed r kept → WaitsForCurrent t r k
  pub kept : (c r x : ℕ) (k : Consumer) → t.consumer c ≡ Some k →
      k.place ≡ place.Passed r (Some x) → OwnsOver t x k
  pub unkept : (c r : ℕ) (k : Consumer) → t.consumer c ≡ Some k → k.place ≡ place.Passed r None →
      k.own ≡ None
