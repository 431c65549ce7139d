-- What a reader stands for, and what it makes of the pieces that it is given.
use Rattle.std.specs.Prelude.{◌≡◌, ℕ, ◌+◌, ◌<◌, ◌≤◌, ◌⊎◌, Bool, true, false, List, [], length, take, drop, map, min, Option, Some, None, Result, Ok, Err}
use Rattle.hc_msg.specs.declared.answer.Answer.{Answer}
use Rattle.hc_msg.specs.declared.answer.Moved.{Moved}
use Rattle.hc_msg.specs.declared.answer.Moved.TheVariants as moved
use Rattle.hc_msg.specs.declared.answer.State.{State}
use Rattle.hc_msg.specs.declared.answer.State.TheVariants as state
use Rattle.hc_head.specs.declared.message.MsgError.{MsgError}
use Rattle.hc_head.specs.declared.message.MsgError.TheVariants as error
use Rattle.hc_msg.specs.declared.message.Taken.{Taken}
use Rattle.hc_msg.specs.declared.message.WirePart.{WirePart}
use Rattle.hc_msg.specs.declared.message.WirePart.TheVariants as part
use Rattle.hc_head.specs.declared.response.ParsedHead.{ParsedHead}
use Rattle.hc_head.specs.declared.response.ParsedHead.TheVariants as reply
use Rattle.hc_text.specs.declared.memory.NoMemory.{NoMemory}
use Rattle.hc_msg.specs.declared.trailer.Trails.{Trails}
use Rattle.hc_msg.specs.Chunks.{LineSays}
use Rattle.hc_head.specs.Replies.{RepliesTo}
use Rattle.hc_head.specs.Scans.{is_open}
use Rattle.hc_msg.specs.Reading.{Reading, Heading, Responses, Counts, Runs, Sizing, Chunk, ChunkEnd, ChunkReturn, Trailing, Whole, Done, Failed, Token, Answers, Byte, Leads, ReportsAtLast, heading, body, quiet, fails, after_trail}

-- where the reading of an answer stands, of which these bytes are held
abbrev pub reading_by : Bool → State → List ℕ → Reading
reading_by no_body (state.Heading scan) held = Heading (Responses no_body) scan held
reading_by no_body (state.Counts left) held = Counts left
reading_by no_body state.Runs held = Runs
reading_by no_body state.Sizing held = Sizing held
reading_by no_body (state.Chunk left) held = Chunk left
reading_by no_body state.ChunkEnd held = ChunkEnd
reading_by no_body state.ChunkReturn held = ChunkReturn
reading_by no_body (state.Trailing place count) held = Trailing place count
reading_by no_body state.Whole held = Whole
reading_by no_body state.Done held = Done
reading_by no_body (state.Failed e) held = Failed e

abbrev pub reading_of : Answer → Reading
reading_of a = reading_by a.no_body a.state a.held.items

-- what holds of what is held
abbrev pub IsSoundAt : State → List ℕ → Type 0
IsSoundAt (state.Heading scan) held = (is_open scan ≡ true) × (length held ≤ 32768)
IsSoundAt (state.Counts left) held = (0 < left) × (held ≡ [])
IsSoundAt state.Runs held = held ≡ []
IsSoundAt state.Sizing held = length held ≤ 1024
IsSoundAt (state.Chunk left) held = (0 < left) × (held ≡ [])
IsSoundAt state.ChunkEnd held = held ≡ []
IsSoundAt state.ChunkReturn held = held ≡ []
IsSoundAt (state.Trailing place count) held = (count ≤ 32769) × (held ≡ [])
IsSoundAt state.Whole held = Unit {0}
IsSoundAt state.Done held = ⊥
IsSoundAt (state.Failed e) held = ⊥

-- an answer whose end or whose error wasn't told
abbrev pub IsSound : Answer → Type 0
IsSound a = IsSoundAt a.state a.held.items

abbrev pub IsKeptAt : State → List ℕ → Type 0
IsKeptAt state.Done held = Unit {0}
IsKeptAt (state.Failed e) held = Unit {0}
IsKeptAt state held = IsSoundAt state held

-- any answer
abbrev pub IsKept : Answer → Type 0
IsKept a = IsKeptAt a.state a.held.items

-- the text was heard, or memory was refused
abbrev pub Replied : Bool → List ℕ → Result ParsedHead MsgError → Type 0
Replied no_body text result = (result ≡ Err error.NoMemory) ⊎ RepliesTo no_body text result

-- what a head that is read leads to
abbrev pub Enters : Bool → ParsedHead → ℕ → Moved → Reading → Type 0
Enters no_body reply.Skips n made t = (made ≡ moved.Passes n) × (t ≡ heading (Responses no_body))
Enters no_body (reply.Shows response framing) n made t =
    (made ≡ moved.Gives n (part.Head response)) × (t ≡ body framing)

-- the size of a whole line, or memory was refused
abbrev pub Sized : List ℕ → Result (Option ℕ) NoMemory → Type 0
Sized text (Ok size) = LineSays text size
Sized text (Err e) = Unit {0}

-- the first n bytes are given as a piece, or memory was refused
abbrev pub IsPieceOf : List ℕ → ℕ → Result Moved MsgError → Type 0
IsPieceOf rest n (Ok made) = made ≡ moved.Gives n (part.Piece (take n rest))
IsPieceOf rest n (Err e) = e ≡ error.NoMemory

-- the byte is the one that is expected, and was passed; else the chunk is bad
abbrev pub Expects : Bool → Result Moved MsgError → Type 0
Expects hit (Ok made) = (hit ≡ true) × (made ≡ moved.Passes 1)
Expects hit (Err e) = (hit ≡ false) × (e ≡ error.BadChunk)

-- the byte of a trailer section was passed, or the section is too long
abbrev pub TrailMoves : Trails → Result Moved MsgError → Reading → Type 0
TrailMoves trails (Ok made) t = (made ≡ moved.Passes 1) × (after_trail trails ≡ quiet t)
TrailMoves trails (Err e) t = (e ≡ error.BadChunk) × (after_trail trails ≡ fails e)

-- how many of so many bytes are of the body and stand together there
abbrev pub stretch : Reading → ℕ → ℕ
stretch (Counts left) n = min left n
stretch (Chunk left) n = min left n
stretch Runs n = n
stretch _ n = 0

-- further bytes are read
abbrev pub goes_on : Reading → Bool
goes_on Whole = false
goes_on Done = false
goes_on (Failed e) = false
goes_on _ = true

-- the message is whole, and its end isn't told yet
abbrev pub is_whole : Reading → Bool
is_whole Whole = true
is_whole _ = false

-- bytes of a body
abbrev pub byte_tokens : List ℕ → List Token
byte_tokens bytes = map Byte bytes

-- the first n bytes give the part
abbrev pub GivesPart : Reading → List ℕ → ℕ → ℕ → WirePart → Reading → Type 0
GivesPart s piece most n (part.Head response) t =
    ReportsAtLast s (take n piece) (Answers response) t
GivesPart s piece most n (part.Piece bytes) t =
    (bytes ≡ take n piece) × (0 < n) × (n ≡ min most (stretch s (length piece)))
    × Leads s (take n piece) (byte_tokens (take n piece)) t
GivesPart s piece most n part.End t = ⊥

-- what is made of the first bytes of a piece that isn't empty
abbrev pub Moves : Reading → List ℕ → ℕ → Result Moved MsgError → Reading → Type 0
Moves s piece most (Ok (moved.Passes n)) t =
    (0 < n) × (n ≤ length piece) × Leads s (take n piece) [] t
Moves s piece most (Ok (moved.Gives n part)) t =
    (n ≤ length piece) × GivesPart s piece most n part t
Moves s piece most (Err e) t = (e ≡ error.NoMemory) ⊎ Leads s piece [] (Failed e)

-- the whole piece was used and more is waited for, or none of it behind the end
abbrev pub IsSpent : Reading → ℕ → ℕ → Reading → Type 0
IsSpent s len used t = ((used ≡ len) × (goes_on t ≡ true)) ⊎ ((s ≡ Done) × (used ≡ 0) × (t ≡ Done))

-- behind bytes that tell nothing, the longest run of body bytes that stand together, of at most so many
pub record GivesBytes (s : Reading) (piece : List ℕ) (most used : ℕ) (bytes : List ℕ) (t : Reading)
    : Type 0 where
  pub before : ℕ
  pub mid : Reading
  pub used_is : used ≡ before + length bytes
  pub passes : Leads s (take before piece) [] mid
  pub bytes_are : bytes ≡ take (length bytes) (drop before piece)
  pub some : 0 < length bytes
  pub longest : length bytes ≡ min most (stretch mid (length (drop before piece)))
  pub gives : Leads mid bytes (byte_tokens bytes) t

-- what the first bytes of a piece complete
abbrev pub Completes : Reading → List ℕ → ℕ → ℕ → Option WirePart → Reading → Type 0
Completes s piece most used None t = Leads s (take used piece) [] t × IsSpent s (length piece) used t
Completes s piece most used (Some (part.Head response)) t =
    ReportsAtLast s (take used piece) (Answers response) t
Completes s piece most used (Some (part.Piece bytes)) t = GivesBytes s piece most used bytes t
Completes s piece most used (Some part.End) t = Leads s (take used piece) [] Whole × (t ≡ Done)

-- what a piece comes to
abbrev pub Takes
    : Reading → List ℕ → ℕ → Result (Taken WirePart) MsgError → Reading → Type 0
Takes s piece most (Ok taken) t =
    (taken.used ≤ length piece) × Completes s piece most taken.used taken.got t
Takes s piece most (Err e) t = (e ≡ error.NoMemory) ⊎ Leads s piece [] (Failed e)

-- an error is answered again
abbrev pub AnswersAgain : {A : Type 0} → Reading → Result A MsgError → Type 0
AnswersAgain (Failed e) result = result ≡ Err e
AnswersAgain _ result = Unit {0}

-- what stands behind an error
abbrev pub StandsAt : {A : Type 0} → Result A MsgError → Reading → Type 0
StandsAt (Ok taken) t = Unit {0}
StandsAt (Err e) t = t ≡ Failed e

-- what the close of the connection comes to: the end, where the body runs to the close, has a known length or is whole
abbrev pub ending : Reading → Result WirePart MsgError
ending (Counts left) = Ok part.End
ending Runs = Ok part.End
ending Whole = Ok part.End
ending Done = Ok part.End
ending (Failed e) = Err e
ending _ = Err error.CutOff

abbrev pub reading_at_end : Reading → Reading
reading_at_end (Counts left) = Done
reading_at_end Runs = Done
reading_at_end Whole = Done
reading_at_end Done = Done
reading_at_end (Failed e) = Failed e
reading_at_end _ = Failed error.CutOff
