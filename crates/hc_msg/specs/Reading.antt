-- How messages are read, byte by byte: where the reading stands behind a byte, and what the byte brings.
use Rattle.std.specs.Prelude.{◌≡◌, ℕ, ◌-◌, ◌==◌, not, nat_lt, Bool, true, List, [], ◌∷◌, ◌++◌, length, Option, Some, None, if◌then◌else◌}
use Rattle.hc_event.specs.declared.event.Response.{Response}
use Rattle.hc_head.specs.declared.message.MsgError.{MsgError}
use Rattle.hc_head.specs.declared.message.MsgError.TheVariants as error
use Rattle.hc_head.specs.declared.message.WireRequest.{WireRequest}
use Rattle.hc_head.specs.declared.framing.Framing.{Framing}
use Rattle.hc_head.specs.declared.framing.Framing.TheVariants as framing
use Rattle.hc_head.specs.declared.scan.Scan.{Scan}
use Rattle.hc_head.specs.declared.scan.Scan.TheVariants as scan
use Rattle.hc_msg.specs.declared.trailer.Trailer.{Trailer}
use Rattle.hc_msg.specs.declared.trailer.Trailer.TheVariants as trailer
use Rattle.hc_head.specs.Scans.{scan_byte, is_open}
use Rattle.hc_head.specs.Starts.{begins_request}
use Rattle.hc_head.specs.Requests.{Asked, Grants, Denies, IsAskedBy}
use Rattle.hc_head.specs.Responses.{HeadOutcome, Skips, Shows, Refuses, IsHeardIn}
use Rattle.hc_msg.specs.declared.trailer.Trails.{Trails}
use Rattle.hc_msg.specs.declared.trailer.Trails.TheVariants.{On, Ends, TooLong}
use Rattle.hc_msg.specs.Chunks.{LineSays, trail}

-- Whose messages are read.
pub data Kind : Type 0 where
  Requests : Kind
  -- answers, of which it is told whether they are to HEAD and so have no body
  Responses : (no_body : Bool) → Kind

-- Where the reading of messages stands.
pub data Reading : Type 0 where
  -- within a head, whose bytes so far these are
  Heading : (kind : Kind) (scan : Scan) (text : List ℕ) → Reading
  -- within a body, of which so many bytes are to come
  Counts : (left : ℕ) → Reading
  -- within a body that runs to the close
  Runs : Reading
  -- within a chunk line, whose bytes so far these are
  Sizing : (text : List ℕ) → Reading
  -- within a chunk, of which so many bytes are to come
  Chunk : (left : ℕ) → Reading
  -- behind the bytes of a chunk, and behind the carriage return after them
  ChunkEnd : Reading
  ChunkReturn : Reading
  -- within the trailer section, of which so many bytes came
  Trailing : (place : Trailer) (count : ℕ) → Reading
  -- the message is whole, and its end isn't told yet
  Whole : Reading
  -- its end was told
  Done : Reading
  -- at an error
  Failed : (e : MsgError) → Reading

-- What is told.
pub data Token : Type 0 where
  Asks : (request : WireRequest) → Token
  Answers : (response : Response) → Token
  Byte : (b : ℕ) → Token

-- What is told at a byte, and where the reading stands behind it.
pub record Step : Type 0 where
  pub tokens : List Token
  pub next : Reading

-- What a byte makes of a reading: a step, or what a whole head or a whole chunk line says.
pub data Move : Type 0 where
  Goes : (step : Step) → Move
  EndsHead : (kind : Kind) (text : List ℕ) → Move
  EndsLine : (text : List ℕ) → Move
  -- the byte belongs to no message that is read here
  Stays : Move

abbrev pub quiet : Reading → Step
quiet next = record { tokens = []; next = next }

abbrev pub fails : MsgError → Step
fails e = quiet (Failed e)

-- a head at its beginning
abbrev pub heading : Kind → Reading
heading kind = Heading kind scan.Before []

-- so many bytes of a body or of a chunk are to come
abbrev pub counts : ℕ → Reading
counts left = if left == 0 then Whole else Counts left

abbrev pub chunk : ℕ → Reading
chunk left = if left == 0 then ChunkEnd else Chunk left

abbrev pub body : Framing → Reading
body framing.Bodiless = Whole
body framing.Chunked = Sizing []
body (framing.Counted n) = counts n
body framing.ToClose = Runs

abbrev pub after_asked : Asked → Step
after_asked (Grants request) = record { tokens = Asks request ∷ []; next = heading Requests }
after_asked (Denies e) = fails e

abbrev pub after_heard : Bool → HeadOutcome → Step
after_heard no_body Skips = quiet (heading (Responses no_body))
after_heard no_body (Shows response f) = record { tokens = Answers response ∷ []; next = body f }
after_heard no_body (Refuses e) = fails e

-- behind a line that announces so many bytes
abbrev pub reading_of_chunk : ℕ → Reading
reading_of_chunk size = if size == 0 then Trailing trailer.Beginning 0 else Chunk size

abbrev pub after_line : Option ℕ → Step
after_line None = fails error.BadChunk
after_line (Some size) = quiet (reading_of_chunk size)

abbrev pub after_trail : Trails → Step
after_trail (On place count) = quiet (Trailing place count)
after_trail Ends = quiet Whole
after_trail TooLong = fails error.BadChunk

-- a message may begin with these bytes: of a request it is looked at whether a method and a space can stand there
abbrev pub begins_head : Kind → List ℕ → Bool
begins_head Requests text = begins_request text
begins_head (Responses no_body) text = true

-- one more byte of a head of at most 32,768 bytes
abbrev pub head_move : Kind → Scan → List ℕ → Move
head_move kind scan text =
    if not (begins_head kind text) then Goes (fails error.BadHead)
    else if is_open scan then Goes (quiet (Heading kind scan text)) else EndsHead kind text

-- one more byte of a chunk line of at most 1,024 bytes
abbrev pub line_move : ℕ → List ℕ → Move
line_move b text = if b == 10 then EndsLine text else Goes (quiet (Sizing text))

unfoldable pub move_of : Reading → ℕ → Move
move_of (Heading kind scan text) b =
    if nat_lt (length text) 32768 then head_move kind (scan_byte scan b) (text ++ b ∷ [])
    else Goes (fails error.HeadTooLong)
move_of (Counts left) b = Goes (record { tokens = Byte b ∷ []; next = counts (left - 1) })
move_of Runs b = Goes (record { tokens = Byte b ∷ []; next = Runs })
move_of (Sizing text) b =
    if nat_lt (length text) 1024 then line_move b (text ++ b ∷ []) else Goes (fails error.BadChunk)
move_of (Chunk left) b = Goes (record { tokens = Byte b ∷ []; next = chunk (left - 1) })
move_of ChunkEnd b = Goes (if b == 13 then quiet ChunkReturn else fails error.BadChunk)
move_of ChunkReturn b = Goes (if b == 10 then quiet (Sizing []) else fails error.BadChunk)
move_of (Trailing place count) b = Goes (after_trail (trail place count b))
move_of Whole b = Stays
move_of Done b = Stays
move_of (Failed e) b = Goes (fails e)

-- what a whole head of a request comes to
abbrev pub AsksFor : List ℕ → Step → Type 0
AsksFor text step = (asked : Asked) × IsAskedBy text asked × (step ≡ after_asked asked)

-- what a whole head of an answer comes to
abbrev pub AnswersWith : Bool → List ℕ → Step → Type 0
AnswersWith no_body text step =
    (heard : HeadOutcome) × IsHeardIn no_body text heard × (step ≡ after_heard no_body heard)

abbrev pub HeadMakes : Kind → List ℕ → Step → Type 0
HeadMakes Requests text step = AsksFor text step
HeadMakes (Responses no_body) text step = AnswersWith no_body text step

abbrev pub LineMakes : List ℕ → Step → Type 0
LineMakes text step = (size : Option ℕ) × LineSays text size × (step ≡ after_line size)

-- the step that a move is
abbrev pub Makes : Move → Step → Type 0
Makes (Goes made) step = step ≡ made
Makes (EndsHead kind text) step = HeadMakes kind text step
Makes (EndsLine text) step = LineMakes text step
Makes Stays step = ⊥

-- The bytes lead from one reading to another, and tell this.
abbrev pub Leads : Reading → List ℕ → List Token → Reading → Type 0
Leads s [] tokens t = (tokens ≡ []) × (t ≡ s)
Leads s (b ∷ text) tokens t =
    (step : Step) × (rest : List Token) × Makes (move_of s b) step × Leads step.next text rest t
    × (tokens ≡ step.tokens ++ rest)

-- the last of the bytes tells this, and none before it tells anything
pub record ReportsAtLast (s : Reading) (text : List ℕ) (token : Token) (t : Reading) : Type 0 where
  pub before : List ℕ
  pub last : ℕ
  pub mid : Reading
  pub whole : before ++ last ∷ [] ≡ text
  pub passes : Leads s before [] mid
  pub reports : Leads mid (last ∷ []) (token ∷ []) t
