-- What the code has of a whole head, and what the head comes to.
use Rattle.std.specs.Prelude.{◌≡◌, ℕ, ◌⊎◌, Bool, List, Result, Ok, Err}
use Rattle.hc_head.specs.declared.message.MsgError.{MsgError}
use Rattle.hc_head.specs.declared.message.MsgError.TheVariants as error
use Rattle.hc_head.specs.declared.response.ParsedHead.{ParsedHead}
use Rattle.hc_head.specs.declared.response.ParsedHead.TheVariants as reply
use Rattle.hc_head.specs.Responses.{HeadOutcome, Skips, Shows, Refuses, IsHeardIn}

-- what the code answers is what was heard, or want of memory
abbrev pub Hears : Result ParsedHead MsgError → HeadOutcome → Type 0
Hears (Ok reply.Skips) heard = heard ≡ Skips
Hears (Ok (reply.Shows response framing)) heard = heard ≡ Shows response framing
Hears (Err e) heard = (heard ≡ Refuses e) ⊎ (e ≡ error.NoMemory)

-- the text comes to what was heard
pub record RepliesTo (no_body : Bool) (text : List ℕ) (result : Result ParsedHead MsgError) : Type 0 where
  pub heard : HeadOutcome
  pub hears : Hears result heard
  pub comes : IsHeardIn no_body text heard
