-- What stands next in the bytes that came and weren't read.
use Rattle.std.specs.Prelude.{◌≡◌, ◌⊎◌, ℕ, ◌+◌, ◌-◌, nat_lt, not, Bool, List, [], ◌∷◌, length, take, drop, min, Option, Some, None, Result, Ok, Err, if◌then◌else◌}
use Rattle.hc_head.specs.declared.message.MsgError.{MsgError}
use Rattle.hc_head.specs.declared.message.MsgError.TheVariants as error
use Rattle.hc_head.specs.declared.message.WireRequest.{WireRequest}
use Rattle.hc_msg.specs.declared.message.Look.{Look}
use Rattle.hc_msg.specs.declared.message.Look.TheVariants as look
use Rattle.hc_msg.specs.declared.message.Taken.{Taken}
use Rattle.hc_msg.specs.declared.message.WirePart.{WirePart}
use Rattle.hc_msg.specs.declared.message.WirePart.TheVariants as part
use Rattle.hc_head.specs.Decoding.{asked_in, heard_in}
use Rattle.hc_msg.specs.Reading.{Reading, Counts, Chunk, Done, Failed, Whole, Requests, Responses, Token, Asks, Answers, Move, Goes, EndsHead, EndsLine, Stays, Step, counts, chunk, quiet, after_asked, after_heard, after_line, move_of}
use Rattle.hc_msg.specs.Sizes.{size_in}
use Rattle.hc_msg.specs.Taking.{stretch, goes_on}

-- the step that a move is
abbrev pub step_of : Move → Step
step_of (Goes step) = step
step_of (EndsHead Requests text) = after_asked (asked_in text)
step_of (EndsHead (Responses no_body) text) = after_heard no_body (heard_in no_body text)
step_of (EndsLine text) = after_line (size_in text)
step_of Stays = quiet Done

-- What stands next in an input, and what is left behind it.
pub data Next : Type 0 where
  -- it has no whole part, and was read to its end
  Waits : (reading : Reading) → Next
  -- a whole head
  Reports : (token : Token) (reading : Reading) (rest : List ℕ) → Next
  -- bytes of a body that stand together
  Brings : (bytes : List ℕ) (reading : Reading) (rest : List ℕ) → Next
  -- the message is whole
  Ends : Next
  Fails : (e : MsgError) → Next

-- where nothing is read on
abbrev pub stopped : Reading → Next
stopped Whole = Ends
stopped (Failed e) = Fails e
stopped s = Waits s

-- behind so many bytes of a body
abbrev pub body_behind : Reading → ℕ → Reading
body_behind (Counts left) n = counts (left - n)
body_behind (Chunk left) n = chunk (left - n)
body_behind s n = s

abbrev pub brought : Reading → ℕ → List ℕ → Next
brought s n input = Brings (take n input) (body_behind s n) (drop n input)

-- the next byte is one of a body
abbrev pub is_in_body : Reading → Bool
is_in_body s = nat_lt 0 (stretch s 1)

-- a head that is told comes next, else what follows
abbrev pub reported_or : List Token → Reading → List ℕ → (Reading → Next) → Next
reported_or [] s rest go_on = go_on s
reported_or (token ∷ more) s rest go_on = Reports token s rest

-- what stands next, from where the reading stands, and of a body at most so many bytes
unfoldable pub next_in : ℕ → Reading → List ℕ → Next
next_in most s [] = stopped s
next_in most s (b ∷ input) =
    if not (goes_on s) then stopped s
    else if is_in_body s then brought s (min most (stretch s (length input + 1))) (b ∷ input)
    else let step = step_of (move_of s b) in
    reported_or step.tokens step.next input (λ t. next_in most t input)

-- WHAT THE READERS TAKE

-- an error is what stands next, or memory was refused
abbrev pub IsNextError : Next → MsgError → Type 0
IsNextError next e = (e ≡ error.NoMemory) ⊎ (next ≡ Fails e)

-- a part of an answer is what stands next, and so many bytes of the piece are used with it
abbrev pub IsNextPart : Next → List ℕ → ℕ → Option WirePart → Reading → Type 0
IsNextPart next piece used None t = next ≡ Waits t
IsNextPart next piece used (Some (part.Head response)) t =
    next ≡ Reports (Answers response) t (drop used piece)
IsNextPart next piece used (Some (part.Piece bytes)) t = next ≡ Brings bytes t (drop used piece)
IsNextPart next piece used (Some part.End) t = next ≡ Ends

-- what is taken of an answer is what stands next
abbrev pub TakesNext
    : ℕ → Reading → List ℕ → Result (Taken WirePart) MsgError → Reading → Type 0
TakesNext most s piece (Ok taken) t =
    IsNextPart (next_in most s piece) piece taken.used taken.got t
TakesNext most s piece (Err e) t = IsNextError (next_in most s piece) e

-- a request is what stands next, and so many bytes of the piece are used with it
abbrev pub IsNextRequest : Next → List ℕ → ℕ → Option WireRequest → Reading → Type 0
IsNextRequest next piece used None t = next ≡ Waits t
IsNextRequest next piece used (Some request) t = next ≡ Reports (Asks request) t (drop used piece)

-- what is taken of requests is what stands next
abbrev pub TakesNextRequest
    : ℕ → Reading → List ℕ → Result (Taken WireRequest) MsgError → Reading → Type 0
TakesNextRequest most s piece (Ok taken) t =
    IsNextRequest (next_in most s piece) piece taken.used taken.got t
TakesNextRequest most s piece (Err e) t = IsNextError (next_in most s piece) e

-- A LOOK WITHOUT TAKING

abbrev pub look_of : Next → Look
look_of (Waits reading) = look.Waits
look_of (Reports token reading rest) = look.Part
look_of (Brings bytes reading rest) = look.Part
look_of Ends = look.Part
look_of (Fails e) = look.Fails
