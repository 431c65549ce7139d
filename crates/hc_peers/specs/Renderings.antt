-- What a client is sent: the acts of its consumers, as bytes of HTTP/1.1 (RFC 9112).
use Rattle.std.specs.Prelude.{ℕ, List, [], ◌∷◌, ◌&&◌, ◌||◌, Bool, true, false, Option, Some, None, codes, bytes_eq, if◌then◌else◌}
use Rattle.hc_event.specs.declared.act.Act.{Act}
use Rattle.hc_event.specs.declared.act.Act.TheVariants as act
use Rattle.hc_event.specs.declared.act.Cause.{Cause}
use Rattle.hc_event.specs.declared.act.Cause.TheVariants as cause
use Rattle.hc_condition.specs.External.{is_external}
use Rattle.hc_condition.specs.NotModified.{is_not_modified, fields_of_304, unconditioned}
use Rattle.hc_head.specs.declared.message.MsgError.{MsgError}
use Rattle.hc_head.specs.declared.message.MsgError.TheVariants as error
use Rattle.hc_head.specs.declared.message.WireRequest.{WireRequest}
use Rattle.hc_head.specs.Responses.{has_no_body}
use Rattle.hc_event.specs.declared.event.Request.{Request}
use Rattle.hc_fields.specs.FirstValues.{has_field}
use Rattle.hc_msg.specs.Writing.{response_text, chunk_text}
use Rattle.hc_peers.specs.declared.reply.Asking.{Asking}
use Rattle.hc_peers.specs.declared.reply.Form.{Form}
use Rattle.hc_peers.specs.declared.reply.Form.TheVariants.{Headless, Plain, Chunks, Held}
use Rattle.hc_peers.specs.declared.reply.Reply.{Reply}

-- an answer to HEAD has no body (RFC 9110 section 9.3.2)
abbrev pub is_head : Request → Bool
is_head request = bytes_eq request.method (codes "HEAD")

-- a front answers the request by the copy on condition of which it was made (RFC 9110 section 13.1)
abbrev pub is_fronted : Bool → Request → Bool
is_fronted front request = front && is_external request

-- what is asked of the cache: without that condition
abbrev pub asked_of : Bool → WireRequest → Request
asked_of front r = if is_fronted front r.request then unconditioned r.request else r.request

abbrev pub reply_to : Bool → WireRequest → Reply
reply_to front r = record {
  old = r.old;
  no_body = is_head r.request;
  form = Headless;
  copy = if is_fronted front r.request then Some r.request else None;
}

abbrev pub asking_of : Bool → WireRequest → Asking
asking_of front r = record { request = asked_of front r; reply = reply_to front r }

-- HEADS

-- in chunks exactly where no Content-Length tells the length, the client knows chunks (RFC 9112
-- section 7), and there may be a body
abbrev pub form_of : Reply → ℕ → List (List ℕ × List ℕ) → Form
form_of reply status fields =
    if has_field (codes "content-length") fields || reply.old || has_no_body reply.no_body status
    then Plain else Chunks

-- the client holds a copy of what has this head (RFC 9110 section 13.2.2)
abbrev pub is_held : Option Request → ℕ → List (List ℕ × List ℕ) → Bool
is_held None status fields = false
is_held (Some request) status fields = is_not_modified request status fields

abbrev pub is_in_chunks : Form → Bool
is_in_chunks Chunks = true
is_in_chunks _ = false

abbrev pub head_text : ℕ → List (List ℕ × List ℕ) → Form → List ℕ
head_text status fields form =
    response_text (record { status = status; fields = fields }) (is_in_chunks form)

-- an answer without a body
abbrev pub empty_answer : ℕ → List ℕ
empty_answer status = head_text status ((codes "content-length", codes "0") ∷ []) Plain

-- BODIES

abbrev pub bytes_text : Form → List ℕ → List ℕ
bytes_text Chunks bytes = chunk_text bytes
bytes_text Held bytes = []
bytes_text _ bytes = bytes

-- the last chunk
abbrev pub end_text : Form → List ℕ
end_text Chunks = chunk_text []
end_text _ = []

-- FAILURES

-- Gateway Timeout where only what is stored was asked for (RFC 9111 section 5.2.1.7), Bad Gateway
-- where the origin failed
abbrev pub failure_status : Cause → ℕ
failure_status cause.Miss = 504
failure_status (cause.Net x) = 502
failure_status (cause.BadHead x) = 502
failure_status _ = 500

-- before its head was sent it can still be told
abbrev pub failure_text : Form → Cause → List ℕ
failure_text Headless cause = empty_answer (failure_status cause)
failure_text _ cause = []

-- a failure behind the head of a body is told by the close
abbrev pub is_cut_off : Form → Bool
is_cut_off Plain = true
is_cut_off Chunks = true
is_cut_off _ = false

abbrev pub closes_at_failure : Reply → Bool
closes_at_failure reply = reply.old || is_cut_off reply.form

-- ACTS

-- the bytes of an act
abbrev pub rendering : Reply → Act → List ℕ
rendering reply (act.Shown c r why status fields lo hi) =
    if is_held reply.copy status fields then head_text 304 (fields_of_304 fields) Plain
    else head_text status fields (form_of reply status fields)
rendering reply (act.Given c x at bytes) = bytes_text reply.form bytes
rendering reply (act.Ended c) = end_text reply.form
rendering reply (act.Failed c cause) = failure_text reply.form cause
rendering reply _ = []

-- how far the answer is behind an act
abbrev pub form_behind : Reply → Act → Form
form_behind reply (act.Shown c r why status fields lo hi) =
    if is_held reply.copy status fields then Held else form_of reply status fields
form_behind reply _ = reply.form

-- the answer is over behind an act
abbrev pub is_last : Act → Bool
is_last (act.Ended c) = true
is_last (act.Failed c cause) = true
is_last _ = false

-- the connection is closed once the bytes of the act are taken
abbrev pub closes : Reply → Act → Bool
closes reply (act.Ended c) = reply.old
closes reply (act.Failed c cause) = closes_at_failure reply
closes reply _ = false

-- REFUSED REQUESTS

-- Bad Request, Request Header Fields Too Large (RFC 6585 section 5), Not Implemented
abbrev pub error_status : MsgError → ℕ
error_status error.HeadTooLong = 431
error_status error.BadLength = 501
error_status error.UnsupportedMethod = 501
error_status _ = 400
