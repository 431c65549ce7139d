-- What one list of acts says of an exchange or a consumer.
use Rattle.std.specs.Prelude.{ℕ, List, [], ◌∷◌, ◌++◌, Bool, true, false, Option, Some, None, if◌then◌else◌, ◌==◌, ◌||◌}
use Rattle.hc_event.specs.declared.act.Act.{Act}
use Rattle.hc_event.specs.declared.act.Act.TheVariants as act
use Rattle.hc_event.specs.declared.act.Need.{Need}
use Rattle.hc_event.specs.declared.event.Request.{Request}

-- the acts are one Denied
abbrev pub is_denied : List Act → Bool
is_denied (act.Denied refusal ∷ []) = true
is_denied _ = false

-- an exchange that is opened: for whom, with what need and request
pub record Opening : Type 0 where
  pub x : ℕ
  pub c : ℕ
  pub need : Need
  pub request : Request

-- the exchange that is opened among these acts. There is one at most
abbrev pub opening_in : List Act → Option Opening
opening_in [] = None
opening_in (act.Opened x c need request ∷ acts) = Some (record { x = x; c = c; need = need; request = request })
opening_in (_ ∷ acts) = opening_in acts

-- x is asked among these acts
abbrev pub asks_in : ℕ → List Act → Bool
asks_in x [] = false
asks_in x (act.Ask y ∷ acts) = y == x || asks_in x acts
asks_in x (_ ∷ acts) = asks_in x acts

-- x is closed among these acts
abbrev pub closes_in : ℕ → List Act → Bool
closes_in x [] = false
closes_in x (act.Close y ∷ acts) = y == x || closes_in x acts
closes_in x (_ ∷ acts) = closes_in x acts

-- c is shown a head among these acts
abbrev pub shows_in : ℕ → List Act → Bool
shows_in c [] = false
shows_in c (act.Shown d r why status fields lo hi ∷ acts) = d == c || shows_in c acts
shows_in c (_ ∷ acts) = shows_in c acts

-- the bytes that c is given among these acts
abbrev pub given_in : ℕ → List Act → List ℕ
given_in c [] = []
given_in c (act.Given d x at bytes ∷ acts) = if d == c then bytes ++ given_in c acts else given_in c acts
given_in c (_ ∷ acts) = given_in c acts

-- the bytes of the exchange x that are given among these acts
abbrev pub given_from : ℕ → List Act → List ℕ
given_from x [] = []
given_from x (act.Given c y at bytes ∷ acts) = if y == x then bytes ++ given_from x acts else given_from x acts
given_from x (_ ∷ acts) = given_from x acts

-- c ends or fails among these acts
abbrev pub leaves_in : ℕ → List Act → Bool
leaves_in c [] = false
leaves_in c (act.Ended d ∷ acts) = d == c || leaves_in c acts
leaves_in c (act.Failed d cause ∷ acts) = d == c || leaves_in c acts
leaves_in c (_ ∷ acts) = leaves_in c acts

-- r makes room among these acts
abbrev pub evicts_in : ℕ → List Act → Bool
evicts_in r [] = false
evicts_in r (act.Evicted s ∷ acts) = s == r || evicts_in r acts
evicts_in r (_ ∷ acts) = evicts_in r acts
