-- What came of a connection so far, and what its first request is.
use Rattle.std.specs.Prelude.{ℕ, ◌==◌, ◌&&◌, ◌||◌, not, Bool, true, false, List, [], ◌∷◌, ◌++◌, Option, Some, None, is_some, if◌then◌else◌}
use Rattle.hc_event.specs.declared.event.Request.{Request}
use Rattle.hc_wire.specs.declared.event.WireEvent.{WireEvent}
use Rattle.hc_wire.specs.declared.event.WireEvent.TheVariants as event
use Rattle.hc_wire.specs.Logs.{Called}
use Rattle.hc_wire.specs.Scripts.{is_got_by}
use Rattle.hc_msg.specs.Inputs.{Next, Waits, Reports, Brings, Ends, Fails, next_in}
use Rattle.hc_msg.specs.Reading.{Requests, Token, Asks, Answers, Byte, heading}

-- EVENTS

-- the connection was accepted
abbrev pub is_accept_of : ℕ → WireEvent → Bool
is_accept_of k (event.Accepted j) = j == k
is_accept_of k (event.Got j n) = false
is_accept_of k (event.Ended j) = false
is_accept_of k (event.Broke j) = false
is_accept_of k (event.Room j) = false
is_accept_of k event.Quiet = false

-- it ended or broke
abbrev pub is_stop_of : ℕ → WireEvent → Bool
is_stop_of k (event.Accepted j) = false
is_stop_of k (event.Got j n) = false
is_stop_of k (event.Ended j) = j == k
is_stop_of k (event.Broke j) = j == k
is_stop_of k (event.Room j) = false
is_stop_of k event.Quiet = false

-- CALLS

abbrev pub is_accepted : ℕ → List Called → Bool
is_accepted k [] = false
is_accepted k (call ∷ calls) = is_accept_of k call.event || is_accepted k calls

abbrev pub has_stopped : ℕ → List Called → Bool
has_stopped k [] = false
has_stopped k (call ∷ calls) = is_stop_of k call.event || has_stopped k calls

-- all bytes that were got of it, in order
abbrev pub bytes_of : ℕ → List Called → List ℕ
bytes_of k [] = []
bytes_of k (call ∷ calls) = (if is_got_by k call.event then call.bytes else []) ++ bytes_of k calls

-- What came of a connection: its bytes, and whether it ended or broke.
pub record Came : Type 0 where
  pub bytes : List ℕ
  pub stopped : Bool

abbrev pub came_of : ℕ → List Called → Came
came_of k calls = record { bytes = bytes_of k calls; stopped = has_stopped k calls }

-- THE FIRST REQUEST

abbrev pub request_of_token : Token → Option Request
request_of_token (Asks request) = Some request.request
request_of_token (Answers response) = None
request_of_token (Byte b) = None

abbrev pub request_from : Next → Option Request
request_from (Waits reading) = None
request_from (Reports token reading rest) = request_of_token token
request_from (Brings bytes reading rest) = None
request_from Ends = None
request_from (Fails e) = None

abbrev pub is_failing : Next → Bool
is_failing (Waits reading) = false
is_failing (Reports token reading rest) = false
is_failing (Brings bytes reading rest) = false
is_failing Ends = false
is_failing (Fails e) = true

-- what stands first in its bytes
abbrev pub first_in : Came → Next
first_in came = next_in 1 (heading Requests) came.bytes

-- its first request, once it is whole
abbrev pub request_in : Came → Option Request
request_in came = request_from (first_in came)

-- its first request is refused
abbrev pub is_refused : Came → Bool
is_refused came = is_failing (first_in came)

-- it ended or broke before its first request was whole
abbrev pub is_cut_off : Came → Bool
is_cut_off came = came.stopped && not (is_some (request_in came))
