-- What the filters over acts say, act by act.
use Rattle.std.{proofs.Common.{◌≡◌, ℕ, Bool, List, [], ◌∷◌, ◌==◌, ◌||◌, not, refl, ap}, specs.{Prelude.{filter}, List.{list_any}}}
use Rattle.hc_event.specs.{declared.act.Act.{Act}, Filters.{closes_in, leaves_in}}
use Rattle.hc_event.specs.declared.act.Act.TheVariants as act
use Rattle.hc_generate.specs.{declared.exchange.Exchange.{Exchange}, Hearing.{closes, leaves, still_live, still_open}}

closes_in-any : (x : ℕ) (acts : List Act) → list_any (closes x) acts ≡ closes_in x acts
closes_in-any x [] = refl
closes_in-any x (act.Close y ∷ acts) = ap (λ (b : Bool). y == x || b) (closes_in-any x acts)
closes_in-any x (_ ∷ acts) = closes_in-any x acts

leaves_in-any : (c : ℕ) (acts : List Act) → list_any (leaves c) acts ≡ leaves_in c acts
leaves_in-any c [] = refl
leaves_in-any c (act.Ended d ∷ acts) = ap (λ (b : Bool). d == c || b) (leaves_in-any c acts)
leaves_in-any c (act.Failed d cause ∷ acts) = ap (λ (b : Bool). d == c || b) (leaves_in-any c acts)
leaves_in-any c (_ ∷ acts) = leaves_in-any c acts

-- those of which no act says so
pub still_open-any : (acts : List Act) (exchanges : List Exchange) →
    filter (λ (e : Exchange). not (list_any (closes e.x) acts)) exchanges ≡ still_open acts exchanges
still_open-any acts [] = refl
still_open-any acts (e ∷ exchanges) = rw (closes_in-any e.x acts, still_open-any acts exchanges) refl

pub still_live-any : (acts : List Act) (live : List ℕ) → filter (λ (c : ℕ). not (list_any (leaves c) acts)) live ≡ still_live acts live
still_live-any acts [] = refl
still_live-any acts (c ∷ live) = rw (leaves_in-any c acts, still_live-any acts live) refl
