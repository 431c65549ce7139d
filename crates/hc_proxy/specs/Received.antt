-- What is told of an exchange: the heads and the bytes that are read out of what came of its connection.
use Rattle.std.specs.Prelude.{◌≡◌, ℕ, ◌==◌, List, [], ◌∷◌, ◌++◌, Bool, true, Some, Contains, if◌then◌else◌}
use Rattle.hc_event.specs.declared.act.Act.{Act}
use Rattle.hc_event.specs.declared.act.Act.TheVariants as act
use Rattle.hc_event.specs.declared.act.Need.{Need}
use Rattle.hc_event.specs.declared.event.Event.{Event}
use Rattle.hc_event.specs.declared.event.Event.TheVariants as event
use Rattle.hc_event.specs.declared.event.Request.{Request}
use Rattle.hc_model.specs.Beginnings.{may_begin}
use Rattle.hc_model.specs.Entries.{History}
use Rattle.hc_msg.specs.Reading.{Reading, Responses, Token, Answers, Leads, heading}
use Rattle.hc_msg.specs.Taking.{byte_tokens}
use Rattle.hc_peers.specs.Renderings.{is_head}
use Rattle.hc_rules.specs.declared.room.Limits.{Limits}
use Rattle.hc_wire.specs.Logs.{Called, Log}
use Rattle.hc_proxy.specs.Asked.{got_from}
use Rattle.hc_proxy.specs.Carrying.{acts_in}
use Rattle.hc_proxy.specs.Connections.{connection_of, dials_from}
use Rattle.hc_proxy.specs.Rows.{Proxy, Setting}
use Rattle.hc_proxy.specs.Sentences.{IsCall}
use Rattle.hc_proxy.specs.Turns.{turned, behind_all}

-- THE EVENTS

-- what an event tells of an exchange: the head of its answer, or bytes of its body
abbrev pub received_by : ℕ → Event → List Token
received_by x (event.Head y response) = if x == y then Answers response ∷ [] else []
received_by x (event.Piece y bytes) = if x == y then byte_tokens bytes else []
received_by x _ = []

-- what all of them tell, the oldest first, and denied ones among them
abbrev pub received_of : ℕ → History → List Token
received_of x [] = []
received_of x (e ∷ h) = received_of x h ++ received_by x e.event

-- WHAT CAME

-- Some first bytes tell just this. An answer to HEAD has no body (RFC 9110 section 9.3.2).
pub record HasSent (no_body : Bool) (came : List ℕ) (tokens : List Token) : Type 0 where
  pub front : List ℕ
  pub rest : List ℕ
  pub reading : Reading
  pub whole : front ++ rest ≡ came
  pub reads : Leads (heading (Responses no_body)) front tokens reading

-- The acts open the exchange for this request.
pub record IsOpenedFor (x : ℕ) (request : Request) (acts : List Act) : Type 0 where
  pub c : ℕ
  pub need : Need
  pub among : Contains acts (act.Opened x c need request)

-- It was opened in the turn of a call, and what its connection sent since tells this.
pub record IsSent (limits : Limits) (setting : Setting) (log : Log) (x : ℕ) (tokens : List Token) : Type 0 where
  pub call : Called
  pub p : Proxy
  pub at : IsCall limits setting log call p
  pub request : Request
  pub opened : IsOpenedFor x request
      (acts_in (turned limits (dials_from setting log.dialled) call p).part)
  pub k : ℕ
  pub connection : connection_of (dials_from setting log.dialled) x ≡ Some k
  pub sent : HasSent (is_head request) (got_from k at.after) tokens

-- Of an exchange nothing is told, or the first of what the origin sent.
pub data IsReceived (limits : Limits) (setting : Setting) (log : Log) (x : ℕ) (tokens : List Token) : Type 0 where
  nothing : tokens ≡ [] → IsReceived limits setting log x tokens
  since : IsSent limits setting log x tokens → IsReceived limits setting log x tokens

-- So it is of each exchange, whatever a log says.
abbrev pub EventsAreReceived : Type 0
EventsAreReceived =
    (limits : Limits) (setting : Setting) (log : Log) (x : ℕ) → may_begin limits setting.contents ≡ true →
    IsReceived limits setting log x (received_of x (behind_all limits setting log).history)
