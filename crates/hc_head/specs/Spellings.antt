-- What is granted, and what is shown, has a spelling in a schedule.
use Rattle.std.specs.Prelude.{◌≡◌, ℕ, ◌≤◌, Bool, true, false, List, length, codes, bytes_eq}
use Rattle.std.specs.List.{list_all}
use Rattle.http_header.specs.Token.{is_token_byte}
use Rattle.hc_event.specs.declared.event.Request.{Request}
use Rattle.hc_event.specs.declared.event.Response.{Response}
use Rattle.hc_fields.specs.FieldList.{IsFieldList, IsWithinLimits}
use Rattle.hc_target.specs.Targets.{is_target}
use Rattle.hc_head.specs.declared.framing.Framing.{Framing}
use Rattle.hc_head.specs.declared.message.WireRequest.{WireRequest}
use Rattle.hc_head.specs.Requests.{Grants, IsAskedBy}
use Rattle.hc_head.specs.Responses.{Shows, IsHeardIn}

-- sorted fields, as few and as small as those of a head from outside
pub record AreSpelledFields (fields : List (List ℕ × List ℕ)) : Type 0 where
  pub list : IsFieldList fields
  pub within_limits : IsWithinLimits fields

-- a token of 1 to 15 bytes other than `CONNECT` (RFC 9110 section 9.1)
pub record IsMethod (method : List ℕ) : Type 0 where
  pub token : list_all is_token_byte method ≡ true
  pub some : 1 ≤ length method
  pub short : length method ≤ 15
  pub other : bytes_eq method (codes "CONNECT") ≡ false

pub record IsSpelledRequest (request : Request) : Type 0 where
  pub method : IsMethod request.method
  pub key : is_target request.key ≡ true
  pub fields : AreSpelledFields request.fields

pub record IsSpelledResponse (response : Response) : Type 0 where
  pub low : 200 ≤ response.status
  pub high : response.status ≤ 599
  pub fields : AreSpelledFields response.fields

-- each request that the text of a whole head asks for
abbrev pub GrantsAreSpelled : Type 0
GrantsAreSpelled =
    (text : List ℕ) (request : WireRequest) → length text ≤ 32768
    → IsAskedBy text (Grants request) → IsSpelledRequest request.request

-- each answer that the text of a whole head is
abbrev pub ShownAreSpelled : Type 0
ShownAreSpelled =
    (no_body : Bool) (text : List ℕ) (response : Response) (framing : Framing) → length text ≤ 32768
    → IsHeardIn no_body text (Shows response framing) → IsSpelledResponse response
