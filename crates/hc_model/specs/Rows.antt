-- The tables: what the past says of each exchange, each representation and each consumer.
use Rattle.std.specs.Prelude.{ℕ, List, Bool, Option}
use Rattle.hc_sparse.specs.Cells.{Cells}
use Rattle.hc_record.specs.Head.{Head}
use Rattle.hc_event.specs.declared.event.Request.{Request}
use Rattle.hc_event.specs.declared.event.Response.{Response}
use Rattle.hc_event.specs.declared.act.Need.{Need}
use Rattle.hc_event.specs.declared.act.Cause.{Cause}
use Rattle.hc_event.specs.declared.place.Place.{Place}

-- an exchange
pub record Exchange : Type 0 where
  pub c : ℕ  -- for whom it was opened
  pub need : Need
  pub request : Request
  pub opened : ℕ  -- the moment of its opening
  pub aim : Option ℕ  -- the representation that it was opened about
  pub head : Option Response
  pub answered : ℕ  -- the moment of its head
  pub joined : Option ℕ  -- the representation that it joined
  pub body : List ℕ  -- what its accepted pieces brought
  pub asked : Bool  -- an Ask of it stands after its last accepted piece
  pub is_ended : Bool  -- it had an accepted End
  pub is_open : Bool

-- a representation
pub record Representation : Type 0 where
  pub key : List ℕ
  pub head : Head  -- as it was founded and updated; its total once that is known
  pub body : Cells  -- what its family delivered, each byte with its exchange
  pub stored : Cells  -- what of it came before it was lost
  pub reach : ℕ  -- no byte of it came from this position on
  pub size : ℕ  -- how many of its bytes are stored
  pub writer : Option ℕ  -- the exchange of its writer group, the last one
  pub is_lost : Bool
  pub alone : Option ℕ  -- who goes on with it after it was lost
  pub is_gone : Bool

-- a consumer
pub record Consumer : Type 0 where
  pub request : Request
  pub since : ℕ  -- the moment of its start, or of its last starting over
  pub place : Place
  pub own : Option ℕ  -- the exchange that is its own, as long as it is open
  pub shown : Bool
  pub given : ℕ  -- how many bytes it was given
  pub due : Option Cause

pub record Tables : Type 0 where
  pub moment : ℕ
  pub entries : ℕ  -- how many events there were
  pub received : ℕ  -- how many bytes their pieces had
  pub last_start : ℕ  -- of the accepted ones
  pub starts : List ℕ  -- who started, the newest first
  pub opened : ℕ  -- the number of the last exchange
  pub openings : List ℕ  -- the exchanges, the newest first
  pub founded : List ℕ  -- the representations, the newest first
  pub used : List ℕ  -- the representations, first the one to which a consumer became bound last
  pub exchange : ℕ → Option Exchange
  pub representation : ℕ → Option Representation
  pub consumer : ℕ → Option Consumer
