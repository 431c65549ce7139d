-- Delivered once: where a piece is accepted, none of its positions has come.
use Rattle.std.{proofs.{Common.{◌≡◌, ℕ, ◌+◌, ◌<◌, length, Bool, true, Option, Some, None, arith}, lemmas.Bool.Decides.{nat_tests}}, specs.Prelude.{is_some, if◌then◌else◌}}
use Rattle.hc_effects.proofs.Vocabulary.{as_open, promised_bytes, DeliversOnce, Tables, Exchange, Sound, piece_refusal, overlong}
use Rattle.hc_rules.specs.Refusals as refusals
use Rattle.hc_rules.specs.declared.refusal.OpenExchange.{OpenExchange}

pub never : {A : Type 0} (a : A) → (Some a ≡ None) → ⊥
never a h = cc

-- an accepted piece: its exchange is open, has its head, and promised that many bytes
pub record IsTaken (w : Exchange) (n : ℕ) : Type 0 where
  pub is_open : w.is_open ≡ true
  pub headed : is_some w.head ≡ true
  pub some : 0 < n
  pub fits : overlong (promised_bytes w) (length w.body + n) ≡ None

-- what the refusals test, one after another
module _ (delivered : ℕ) (o : Option ℕ) where
  gate_of : Bool → Bool → Bool → Option OpenExchange
  gate_of is_open headed asked = if is_open then Some (record { headed = headed; asked = asked; delivered = delivered; promised = o }) else None

pub taken : (n : ℕ) (w : Exchange) → piece_refusal (as_open (Some w)) n ≡ None → IsTaken w n
unfolding gate_of
taken n w h = grind (arith, nat_tests)

pub delivers_once : (t : Tables) → Sound t → DeliversOnce t
unfolding refusals.refusal_of
delivers_once t sound x bytes w v accepted is row p le lt = grind (arith, nat_tests)
