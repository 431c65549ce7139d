-- What the head of an answer says (RFC 9112 sections 4 and 6.3).
use Rattle.std.specs.Prelude.{◌≡◌, ℕ, ◌⊎◌, ◌==◌, ◌&&◌, ◌||◌, not, nat_le, nat_lt, ◌≤◌, Bool, false, List, [], ◌∷◌, length, codes, bytes_eq, Option, Some, None, if◌then◌else◌}
use Rattle.http_header.specs.Token.{lowercase}
use Rattle.httparse.specs.Grammar.{ResponseHead, ReadsResponse, status_code}
use Rattle.hc_event.specs.declared.event.Response.{Response}
use Rattle.hc_fields.specs.FirstValues.{elements_in}
use Rattle.hc_rules.specs.Lengths.{content_length_of, promise_of}
use Rattle.hc_head.specs.declared.message.MsgError.{MsgError}
use Rattle.hc_head.specs.declared.message.MsgError.TheVariants.{BadHead, BadLength}
use Rattle.hc_head.specs.declared.framing.Framing.{Framing}
use Rattle.hc_head.specs.declared.framing.Framing.TheVariants.{Bodiless, Chunked, Counted, ToClose}
use Rattle.hc_head.specs.declared.fields.Leaving.{Leaving}
use Rattle.hc_head.specs.declared.fields.Leaving.TheVariants.{Nothing, Length}
use Rattle.hc_head.specs.Rules.{fields_of, is_there, is_within_limits, kept_of}

-- the one element is `chunked`, in any case (RFC 9112 section 7.1)
abbrev pub is_chunked : List (List ℕ) → Bool
is_chunked (element ∷ []) = bytes_eq (lowercase element) (codes "chunked")
is_chunked _ = false

-- an answer to HEAD, and one with status 204 or 304, has no body
abbrev pub has_no_body : Bool → ℕ → Bool
has_no_body reported status = reported || status == 204 || status == 304

-- as long as Content-Length says, where it says one number (RFC 9110 section 8.6); else up to the close
abbrev pub by_length : Option ℕ → Framing
by_length None = ToClose
by_length (Some n) = Counted n

-- how the body is framed, None where Transfer-Encoding can't be read
abbrev pub framing_of : Bool → ℕ → List (List ℕ × List ℕ) → Option Framing
framing_of reported status fields =
    if has_no_body reported status then Some Bodiless
    else if is_there (codes "transfer-encoding") fields then
    (if is_chunked (elements_in (codes "transfer-encoding") fields) then Some Chunked else None)
    else Some (by_length (promise_of (content_length_of (elements_in (codes "content-length") fields))))

-- Content-Length says nothing of a chunked body
abbrev pub left_out : Framing → Leaving
left_out Chunked = Length
left_out Bodiless = Nothing
left_out (Counted n) = Nothing
left_out ToClose = Nothing

-- What the head of an answer comes to.
pub data HeadOutcome : Type 0 where
  -- an interim answer, which is passed over
  Skips : HeadOutcome
  Shows : (response : Response) (framing : Framing) → HeadOutcome
  Refuses : (e : MsgError) → HeadOutcome

abbrev pub with_framing : ℕ → List (List ℕ × List ℕ) → Option Framing → HeadOutcome
with_framing status fields None = Refuses BadLength
with_framing status fields (Some framing) =
    Shows (record { status = status; fields = kept_of (left_out framing) fields }) framing

-- 100 to 199, but for 101, which asks for another protocol (RFC 9110 section 15.2)
abbrev pub is_interim : ℕ → Bool
is_interim status = nat_le 100 status && nat_lt status 200 && not (status == 101)

-- by the status and the fields of the head
unfoldable pub heard_of : Bool → ℕ → List (List ℕ × List ℕ) → HeadOutcome
heard_of reported status fields =
    if not (is_within_limits fields) then Refuses BadHead
    else if is_interim status then Skips
    else if nat_lt status 200 || nat_le 600 status then Refuses BadHead
    else with_framing status fields (framing_of reported status fields)

-- the text is a head of at most 64 fields
pub record IsResponse (text : List ℕ) (head : ResponseHead) : Type 0 where
  pub reads : ReadsResponse text head []
  pub few : length head.fields ≤ 64

-- what the text of a whole head comes to
abbrev pub IsHeardIn : Bool → List ℕ → HeadOutcome → Type 0
IsHeardIn reported text heard =
    ((head : ResponseHead) × IsResponse text head
    × (heard ≡ heard_of reported (status_code head) (fields_of head.fields)))
    ⊎ (((head : ResponseHead) → ¬ (IsResponse text head)) × (heard ≡ Refuses BadHead))
