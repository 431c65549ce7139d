-- When the end of an answer is told: where its bytes make a whole message, or the close makes them one.
use Rattle.std.specs.Prelude.{◌≡◌, ◌⊎◌, ℕ, ◌==◌, List, ◌∷◌, ◌++◌, Bool, true, false, Ok}
use Rattle.std.specs.List.{list_any}
use Rattle.hc_event.specs.declared.event.Event.TheVariants as event
use Rattle.hc_model.specs.Beginnings.{may_begin}
use Rattle.hc_model.specs.Entries.{Entry, History}
use Rattle.hc_msg.specs.declared.message.WirePart.TheVariants as part
use Rattle.hc_msg.specs.Reading.{Reading, Whole, Token}
use Rattle.hc_msg.specs.Taking.{ending}
use Rattle.hc_rules.specs.declared.room.Limits.{Limits}
use Rattle.hc_wire.specs.declared.event.WireEvent.{WireEvent}
use Rattle.hc_wire.specs.declared.event.WireEvent.TheVariants as wire
use Rattle.hc_wire.specs.Logs.{Called, Log}
use Rattle.hc_proxy.specs.Asked.{got_from}
use Rattle.hc_proxy.specs.Received.{received_of, IsSent}
use Rattle.hc_proxy.specs.Turns.{behind_all}
use Rattle.hc_proxy.specs.Rows.{Setting}

abbrev pub is_end_of : ℕ → WireEvent → Bool
is_end_of k (wire.Ended j) = k == j
is_end_of k _ = false

-- by one of these calls the connection had ended
abbrev pub has_ended : ℕ → List Called → Bool
has_ended k calls = list_any (λ (call : Called). is_end_of k call.event) calls

-- All that came until a call by which it had ended makes a message, since no more comes (RFC 9112 section 6.3).
pub record IsClosed (k : ℕ) (calls : List Called) (front : List ℕ) (reading : Reading)
    : Type 0 where
  pub until : List Called
  pub later : List Called
  pub calls_are : calls ≡ until ++ later
  pub over : has_ended k until ≡ true
  pub all : front ≡ got_from k until
  pub ends : ending reading ≡ Ok part.End

-- What was told is that of a whole answer.
pub record IsWhole (limits : Limits) (setting : Setting) (log : Log) (x : ℕ) (tokens : List Token) : Type 0 where
  pub reported : IsSent limits setting log x tokens
  pub whole : (reported.sent.reading ≡ Whole)
      ⊎ IsClosed reported.k reported.at.after reported.sent.front reported.sent.reading

-- So it is of what was told of an exchange before an end, whatever a log says.
abbrev pub EndsAreReceived : Type 0
EndsAreReceived =
    (limits : Limits) (setting : Setting) (log : Log) (x : ℕ) (later earlier : History) (e : Entry) →
    may_begin limits setting.contents ≡ true → (behind_all limits setting log).history ≡ later ++ e ∷ earlier → e.event ≡ event.End x →
    IsWhole limits setting log x (received_of x earlier)
