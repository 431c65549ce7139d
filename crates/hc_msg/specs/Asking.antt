-- What a reader of requests stands for, and what it makes of the pieces that it is given.
use Rattle.std.specs.Prelude.{◌≡◌, ℕ, ◌-◌, ◌≤◌, ◌⊎◌, true, List, [], ◌++◌, length, take, Option, Some, None, Result, Ok, Err}
use Rattle.hc_msg.specs.declared.call.Call.{Call}
use Rattle.hc_head.specs.declared.message.MsgError.{MsgError}
use Rattle.hc_head.specs.declared.message.MsgError.TheVariants as error
use Rattle.hc_msg.specs.declared.message.Taken.{Taken}
use Rattle.hc_head.specs.declared.message.WireRequest.{WireRequest}
use Rattle.hc_head.specs.declared.scan.Sought.{Sought}
use Rattle.hc_head.specs.declared.scan.Sought.TheVariants as sought
use Rattle.hc_head.specs.declared.start.Start.{Start}
use Rattle.hc_head.specs.Scans.{is_open}
use Rattle.hc_head.specs.Starts.{begins_request, goes_on_from}
use Rattle.hc_msg.specs.Reading.{Reading, Heading, Requests, Failed, Asks, Leads, ReportsAtLast}
use Rattle.hc_head.specs.Calls.{CallsFor}

abbrev pub asking : Call → Reading
asking call = Heading Requests call.scan call.held.items

-- by the error that was answered
abbrev pub asking_by : Option MsgError → Call → Reading
asking_by None call = asking call
asking_by (Some e) call = Failed e

-- the head goes on as what is kept of its beginning says
abbrev pub GoesOn : Start → List ℕ → Type 0
GoesOn start held = (more : List ℕ) → goes_on_from start more ≡ begins_request (held ++ more)

pub record IsAsking (call : Call) : Type 0 where
  pub still_open : is_open call.scan ≡ true
  pub short : length call.held.items ≤ 32768
  pub begins : GoesOn call.start call.held.items

-- how many of the bytes are of the head, which has so many before
abbrev pub head_count : ℕ → List ℕ → Result Sought MsgError → ℕ
head_count held piece (Ok (sought.Ends n)) = n
head_count held piece (Ok (sought.Open next)) = length piece
head_count held piece (Err e) = 32768 - held

-- the text asks for something or is refused, or memory was refused
abbrev pub Called : List ℕ → Result WireRequest MsgError → Type 0
Called text result = (result ≡ Err error.NoMemory) ⊎ CallsFor text result

-- the first bytes of a piece end a request, or all of them were used
abbrev pub CompletesRequest : Reading → List ℕ → ℕ → Option WireRequest → Reading → Type 0
CompletesRequest s piece used None t = (used ≡ length piece) × Leads s piece [] t
CompletesRequest s piece used (Some request) t = ReportsAtLast s (take used piece) (Asks request) t

-- what a piece comes to
abbrev pub TakesRequest
    : Reading → List ℕ → Result (Taken WireRequest) MsgError → Reading → Type 0
TakesRequest s piece (Ok taken) t =
    (taken.used ≤ length piece) × CompletesRequest s piece taken.used taken.got t
TakesRequest s piece (Err e) t = (e ≡ error.NoMemory) ⊎ Leads s piece [] (Failed e)
