-- No bytes lead behind an end that was told.
--
-- Behind each byte the reading stands within a head, a body, a chunk line, a chunk, a trailer section, at the end of
-- the message or at an error, by the cases of where it stood before. At the end of a message no byte is read. So where
-- it doesn't stand behind a told end before some bytes, it doesn't behind them.
use Rattle.std.{proofs.Common.{◌≡◌, ℕ, ◌+◌, ◌-◌, ◌++◌, List, [], ◌∷◌, length, Bool, true, false, Option, Some, None, refl, ap, sym, ◌∙◌}, specs.Prelude.{◌==◌, not, nat_lt, nat_le, if◌then◌else◌}}
use Rattle.hc_head.specs.{Requests.{Asked, Grants, Denies}, Responses.{HeadOutcome, Skips, Shows, Refuses}, Scans.{scan_byte, is_open}, declared.framing.Framing.{Framing}}
use Rattle.hc_head.specs.declared.framing.Framing.TheVariants as framing
use Rattle.hc_head.specs.declared.message.MsgError.TheVariants as error
use Rattle.hc_msg.specs.{Chunks.{trailer_place, trail_on, trail}, declared.trailer.Trailer.{Trailer}, Reading.{Requests, Responses, Reading, Heading, Counts, Runs, Sizing, Chunk, ChunkEnd, ChunkReturn, Trailing, Whole, Done, Failed, Token, Step, Move, Goes, EndsHead, EndsLine, Stays, quiet, fails, counts, chunk, body, after_asked, after_heard, after_line, after_trail, begins_head, move_of, Makes, Leads}}
use Rattle.hc_msg.specs.declared.trailer.Trailer.TheVariants as trailer

abbrev is_done : Reading → Bool
is_done Done = true
is_done _ = false

abbrev Off : Step → Type 0
Off step = is_done step.next ≡ false

asked_off : (asked : Asked) → Off (after_asked asked)
asked_off (Grants request) = refl
asked_off (Denies e) = refl

counts_off : (n : ℕ) → is_done (counts n) ≡ false
counts_off n = by_test (n == 0)
  where
    by_test : (b : Bool) → is_done (if b then Whole else Counts n) ≡ false
    by_test true = refl
    by_test false = refl

chunk_off : (n : ℕ) → is_done (chunk n) ≡ false
chunk_off n = by_test (n == 0)
  where
    by_test : (b : Bool) → is_done (if b then ChunkEnd else Chunk n) ≡ false
    by_test true = refl
    by_test false = refl

body_off : (f : Framing) → is_done (body f) ≡ false
body_off framing.Bodiless = refl
body_off framing.Chunked = refl
body_off (framing.Counted n) = counts_off n
body_off framing.ToClose = refl

heard_off : (no_body : Bool) (h : HeadOutcome) → Off (after_heard no_body h)
heard_off no_body Skips = refl
heard_off no_body (Shows response f) = body_off f
heard_off no_body (Refuses e) = refl

line_off : (size : Option ℕ) → Off (after_line size)
line_off None = refl
line_off (Some size) = by_test (size == 0)
  where
    by_test : (b : Bool) → is_done (if b then Trailing trailer.Beginning 0 else Chunk size) ≡ false
    by_test true = refl
    by_test false = refl

count_off : (place : Trailer) (count most : ℕ) → (c : Bool) → nat_le count most ≡ c → Off (after_trail (trail_on place count most))
count_off place count most true is = rw is refl
count_off place count most false is = rw is refl

trail_off : (place : Trailer) (count b : ℕ) → Off (after_trail (trail place count b))
trail_off trailer.Beginning count b = count_off (trailer_place trailer.Beginning b) (count + 1) (if b == 13 then 32769 else 32768) _ refl
trail_off trailer.BeginningReturn count b = by_test (b == 10) refl
  where
    by_test : (c : Bool) → (b == 10) ≡ c → Off (after_trail (trail trailer.BeginningReturn count b))
    by_test true is = rw is refl
    by_test false is = rw is (count_off (trailer_place trailer.BeginningReturn b) (count + 1) 32768 _ refl)
trail_off trailer.Within count b = count_off (trailer_place trailer.Within b) (count + 1) 32768 _ refl
trail_off trailer.WithinReturn count b = count_off (trailer_place trailer.WithinReturn b) (count + 1) 32768 _ refl

-- A BYTE

abbrev OffMove : Move → Type 0
OffMove (Goes step) = Off step
OffMove _ = Unit {0}

made_off : (move : Move) (step : Step) → OffMove move → Makes move step → Off step
made_off (Goes made) step off h = ap (λ (s : Step). is_done s.next) h ∙ off
made_off (EndsHead Requests text) step off h = ap (λ (s : Step). is_done s.next) h.2 ∙ asked_off h.0
made_off (EndsHead (Responses no_body) text) step off h = ap (λ (s : Step). is_done s.next) h.2 ∙ heard_off no_body h.0
made_off (EndsLine text) step off h = ap (λ (s : Step). is_done s.next) h.2 ∙ line_off h.0
made_off Stays step off h = absurd h

byte_off : (s : Reading) (b : ℕ) → is_done s ≡ false → OffMove (move_of s b)
unfolding move_of
byte_off (Heading kind scan text) b off = by_length (nat_lt (length text) 32768) (begins_head kind (text ++ b ∷ [])) (is_open (scan_byte scan b))
  where
    by_length : (a c d : Bool) →
        OffMove (if a then (if not c then Goes (fails error.BadHead) else if d then Goes (quiet (Heading kind (scan_byte scan b) (text ++ b ∷ []))) else
        EndsHead kind (text ++ b ∷ [])) else Goes (fails error.HeadTooLong))
    by_length true true true = refl
    by_length true true false = tt
    by_length true false d = refl
    by_length false c d = refl
byte_off (Counts left) b off = counts_off (left - 1)
byte_off Runs b off = refl
byte_off (Sizing text) b off = by_length (nat_lt (length text) 1024) (b == 10)
  where
    by_length : (a c : Bool) →
        OffMove (if a then (if c then EndsLine (text ++ b ∷ []) else Goes (quiet (Sizing (text ++ b ∷ [])))) else Goes (fails error.BadChunk))
    by_length true true = tt
    by_length true false = refl
    by_length false c = refl
byte_off (Chunk left) b off = chunk_off (left - 1)
byte_off ChunkEnd b off = by_test (b == 13)
  where
    by_test : (c : Bool) → Off (if c then quiet ChunkReturn else fails error.BadChunk)
    by_test true = refl
    by_test false = refl
byte_off ChunkReturn b off = by_test (b == 10)
  where
    by_test : (c : Bool) → Off (if c then quiet (Sizing []) else fails error.BadChunk)
    by_test true = refl
    by_test false = refl
byte_off (Trailing place count) b off = trail_off place count b
byte_off Whole b off = tt
byte_off Done b off = absurd (let never : true ≡ false = off in cc)
byte_off (Failed e) b off = refl

-- ALL OF THEM

leads_off : (s : Reading) (text : List ℕ) (tokens : List Token) (t : Reading) → Leads s text tokens t → is_done s ≡ false → is_done t ≡ false
leads_off s [] tokens t leads off = ap is_done leads.1 ∙ off
leads_off s (b ∷ text) tokens t leads off = leads_off leads.0.next text leads.1 t leads.3 (made_off (move_of s b) leads.0 (byte_off s b off) leads.2)

pub never_done : (s : Reading) (text : List ℕ) (tokens : List Token) (t : Reading) → Leads s text tokens t → is_done s ≡ false → t ≡ Done → ⊥
never_done s text tokens t leads off done = let never : true ≡ false = sym (ap is_done done) ∙ leads_off s text tokens t leads off in cc
