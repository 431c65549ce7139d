-- What a whole head says, by equations.
use Rattle.std.specs.Prelude.{ℕ, nat_lt, Bool, List, length, Option, Some, None, if◌then◌else◌}
use Rattle.httparse.specs.Grammar.{RequestHead, ResponseHead, status_code}
use Rattle.hc_head.specs.declared.message.MsgError.TheVariants.{BadHead}
use Rattle.hc_head.specs.HeadLines.{request_head, response_head}
use Rattle.hc_head.specs.Requests.{Asked, Denies, asked_of, IsAskedBy}
use Rattle.hc_head.specs.Responses.{HeadOutcome, Refuses, heard_of, IsHeardIn}
use Rattle.hc_head.specs.Rules.{fields_of}

abbrev pub asked_by_head : Option RequestHead → Asked
asked_by_head None = Denies BadHead
asked_by_head (Some head) =
    if nat_lt 64 (length head.fields) then Denies BadHead
    else asked_of head.method head.target head.minor (fields_of head.fields)

-- what the text of a whole head asks for
unfoldable pub asked_in : List ℕ → Asked
asked_in text = asked_by_head (request_head text)

abbrev pub heard_by_head : Bool → Option ResponseHead → HeadOutcome
heard_by_head no_body None = Refuses BadHead
heard_by_head no_body (Some head) =
    if nat_lt 64 (length head.fields) then Refuses BadHead
    else heard_of no_body (status_code head) (fields_of head.fields)

-- what the text of a whole head answers
unfoldable pub heard_in : Bool → List ℕ → HeadOutcome
heard_in no_body text = heard_by_head no_body (response_head text)

-- the equations say what the grammar says, of every text
abbrev pub IsAskedByEquations : Type 0
IsAskedByEquations = (text : List ℕ) → IsAskedBy text (asked_in text)

abbrev pub IsHeardByEquations : Type 0
IsHeardByEquations = (no_body : Bool) (text : List ℕ) → IsHeardIn no_body text (heard_in no_body text)
