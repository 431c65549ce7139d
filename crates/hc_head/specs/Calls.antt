-- What the code has of the whole head of a request, and what the head asks for.
use Rattle.std.specs.Prelude.{◌≡◌, ℕ, ◌⊎◌, List, Result, Ok, Err}
use Rattle.hc_head.specs.declared.message.MsgError.{MsgError}
use Rattle.hc_head.specs.declared.message.MsgError.TheVariants as error
use Rattle.hc_head.specs.declared.message.WireRequest.{WireRequest}
use Rattle.hc_head.specs.Requests.{Asked, Grants, Denies, IsAskedBy}

-- what the code answers is what was asked, or want of memory
abbrev pub Gives : Result WireRequest MsgError → Asked → Type 0
Gives (Ok request) asked = asked ≡ Grants request
Gives (Err e) asked = (asked ≡ Denies e) ⊎ (e ≡ error.NoMemory)

-- the text comes to what was asked
pub record CallsFor (text : List ℕ) (result : Result WireRequest MsgError) : Type 0 where
  pub asked : Asked
  pub gives : Gives result asked
  pub comes : IsAskedBy text asked
