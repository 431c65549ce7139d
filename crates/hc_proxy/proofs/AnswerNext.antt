-- What stands next of an answer: a head of an answer, bytes, an end, an error or nothing yet; and an answer is read on
-- behind it.
--
-- A byte of a head tells nothing or the head of an answer, and a byte of a chunk line, of the bytes behind a chunk or
-- of a trailer section tells nothing. Behind each of them an answer is read on: what is to come of a body or of a chunk
-- is never nothing, since behind its last byte the reading stands elsewhere. So each byte of a body is brought, and
-- none is told alone. The bytes are gone through one by one.
use Rattle.std.{proofs.{Common.{◌≡◌, ℕ, ◌+◌, ◌-◌, ◌++◌, List, [], ◌∷◌, length, Bool, true, false, Option, Some, None, refl, sym, arith}, lemmas.Bool.Decides.{nat_tests}}, specs.Prelude.{◌==◌, nat_le, nat_lt, min, if◌then◌else◌}}
use Rattle.hc_text.proofs.Basics.{true_false}
use Rattle.hc_head.specs.{Decoding.{heard_in}, Responses.{HeadOutcome, Skips, Shows, Refuses}, Scans.{scan_byte, is_open}, declared.{framing.Framing.{Framing}, scan.Scan.{Scan}}}
use Rattle.hc_head.specs.declared.framing.Framing.TheVariants as framing
use Rattle.hc_head.specs.declared.message.MsgError.TheVariants as error
use Rattle.hc_msg.specs.{Chunks.{trailer_place, trail_on, trail}, declared.trailer.Trailer.{Trailer}, Inputs.{Next, Waits, Reports, Brings, Fails, next_in, reported_or, step_of}, Reading.{Requests, Responses, Reading, Heading, Counts, Runs, Sizing, Chunk, ChunkEnd, ChunkReturn, Trailing, Whole, Done, Failed, Token, Asks, Answers, Byte, Step, Goes, EndsHead, EndsLine, quiet, fails, counts, chunk, body, after_heard, after_line, after_trail, reading_of_chunk, head_move, line_move, move_of}, Sizes.{size_in}}
use Rattle.hc_msg.specs.declared.trailer.Trailer.TheVariants as trailer
use Rattle.hc_msg.specs.Inputs as inputs
use Rattle.hc_proxy.specs.Headed.{is_answer}

abbrev pub IsAnswerNext : Next → Type 0
IsAnswerNext (Waits t) = is_answer t ≡ true
IsAnswerNext (Reports (Answers response) t rest) = is_answer t ≡ true
IsAnswerNext (Reports (Asks request) t rest) = ⊥
IsAnswerNext (Reports (Byte b) t rest) = ⊥
IsAnswerNext (Brings bytes t rest) = is_answer t ≡ true
IsAnswerNext inputs.Ends = Unit {0}
IsAnswerNext (Fails e) = Unit {0}

-- a step tells nothing, or a head
abbrev IsStep : List Token → Reading → Type 0
IsStep [] next = is_answer next ≡ true
IsStep (Answers response ∷ more) next = is_answer next ≡ true
IsStep (Asks request ∷ more) next = ⊥
IsStep (Byte b ∷ more) next = ⊥

abbrev IsAnswerStep : Step → Type 0
IsAnswerStep step = IsStep step.tokens step.next

counts_answer : (n : ℕ) → is_answer (counts n) ≡ true
counts_answer n = by_test (n == 0) refl
  where
    by_test : (b : Bool) → (n == 0) ≡ b → is_answer (if b then Whole else Counts n) ≡ true
    by_test true is = refl
    by_test false is = grind (arith, nat_tests)

chunk_answer : (n : ℕ) → is_answer (chunk n) ≡ true
chunk_answer n = by_test (n == 0) refl
  where
    by_test : (b : Bool) → (n == 0) ≡ b → is_answer (if b then ChunkEnd else Chunk n) ≡ true
    by_test true is = refl
    by_test false is = grind (arith, nat_tests)

line_answer : (size : ℕ) → is_answer (reading_of_chunk size) ≡ true
line_answer size = by_test (size == 0) refl
  where
    by_test : (b : Bool) → (size == 0) ≡ b → is_answer (if b then Trailing trailer.Beginning 0 else Chunk size) ≡ true
    by_test true is = refl
    by_test false is = grind (arith, nat_tests)

body_answer : (f : Framing) → is_answer (body f) ≡ true
body_answer framing.Bodiless = refl
body_answer framing.Chunked = refl
body_answer (framing.Counted n) = counts_answer n
body_answer framing.ToClose = refl

-- A BYTE

heard_step : (no_body : Bool) (h : HeadOutcome) → IsAnswerStep (after_heard no_body h)
heard_step no_body Skips = refl
heard_step no_body (Shows response f) = body_answer f
heard_step no_body (Refuses e) = refl

head_step : (no_body : Bool) (scan : Scan) (text : List ℕ) → IsAnswerStep (step_of (head_move (Responses no_body) scan text))
head_step no_body scan text = by_open (is_open scan)
  where
    by_open : (b : Bool) → IsAnswerStep (step_of (if b then Goes (quiet (Heading (Responses no_body) scan text)) else EndsHead (Responses no_body) text))
    by_open true = refl
    by_open false = heard_step no_body (heard_in no_body text)

heading_step : (no_body : Bool) (scan : Scan) (text : List ℕ) (b : ℕ) → IsAnswerStep (step_of (move_of (Heading (Responses no_body) scan text) b))
unfolding move_of
heading_step no_body scan text b = by_length (nat_lt (length text) 32768)
  where
    by_length : (c : Bool) →
        IsAnswerStep (step_of (if c then head_move (Responses no_body) (scan_byte scan b) (text ++ b ∷ []) else Goes (fails error.HeadTooLong)))
    by_length true = head_step no_body (scan_byte scan b) (text ++ b ∷ [])
    by_length false = refl

line_step : (size : Option ℕ) → IsAnswerStep (after_line size)
line_step None = refl
line_step (Some size) = line_answer size

sizing_step : (text : List ℕ) (b : ℕ) → IsAnswerStep (step_of (move_of (Sizing text) b))
unfolding move_of
sizing_step text b = by_length (nat_lt (length text) 1024)
  where
    by_end : (c : Bool) → IsAnswerStep (step_of (if c then EndsLine (text ++ b ∷ []) else Goes (quiet (Sizing (text ++ b ∷ [])))))
    by_end true = line_step (size_in (text ++ b ∷ []))
    by_end false = refl

    by_length : (c : Bool) → IsAnswerStep (step_of (if c then line_move b (text ++ b ∷ []) else Goes (fails error.BadChunk)))
    by_length true = by_end (b == 10)
    by_length false = refl

end_step : (b : ℕ) → IsAnswerStep (step_of (move_of ChunkEnd b))
unfolding move_of
end_step b = by_test (b == 13)
  where
    by_test : (c : Bool) → IsAnswerStep (step_of (Goes (if c then quiet ChunkReturn else fails error.BadChunk)))
    by_test true = refl
    by_test false = refl

return_step : (b : ℕ) → IsAnswerStep (step_of (move_of ChunkReturn b))
unfolding move_of
return_step b = by_test (b == 10)
  where
    by_test : (c : Bool) → IsAnswerStep (step_of (Goes (if c then quiet (Sizing []) else fails error.BadChunk)))
    by_test true = refl
    by_test false = refl

line_goes : (place : Trailer) (count most : ℕ) → (c : Bool) → nat_le count most ≡ c → IsAnswerStep (after_trail (trail_on place count most))
line_goes place count most true is = rw is refl
line_goes place count most false is = rw is refl

trail_goes : (place : Trailer) (count b : ℕ) → IsAnswerStep (after_trail (trail place count b))
trail_goes trailer.Beginning count b = line_goes (trailer_place trailer.Beginning b) (count + 1) (if b == 13 then 32769 else 32768) _ refl
trail_goes trailer.BeginningReturn count b = by_test (b == 10) refl
  where
    by_test : (c : Bool) → (b == 10) ≡ c → IsAnswerStep (after_trail (trail trailer.BeginningReturn count b))
    by_test true is = rw is refl
    by_test false is = rw is (line_goes (trailer_place trailer.BeginningReturn b) (count + 1) 32768 _ refl)
trail_goes trailer.Within count b = line_goes (trailer_place trailer.Within b) (count + 1) 32768 _ refl
trail_goes trailer.WithinReturn count b = line_goes (trailer_place trailer.WithinReturn b) (count + 1) 32768 _ refl

trailing_step : (place : Trailer) (count b : ℕ) → IsAnswerStep (step_of (move_of (Trailing place count) b))
unfolding move_of
trailing_step place count b = trail_goes place count b

-- ALL OF THEM

reported_answer : (tokens : List Token) (s : Reading) (rest : List ℕ) (go_on : Reading → Next) → IsStep tokens s →
    (is_answer s ≡ true → IsAnswerNext (go_on s)) → IsAnswerNext (reported_or tokens s rest go_on)
reported_answer [] s rest go_on step h = h step
reported_answer (Answers response ∷ more) s rest go_on step h = step
reported_answer (Asks request ∷ more) s rest go_on step h = absurd step
reported_answer (Byte b ∷ more) s rest go_on step h = absurd step

in_body : (left : ℕ) → nat_lt 0 left ≡ true → nat_lt 0 (min left 1) ≡ true
in_body left h = grind (arith, nat_tests)

pub answer_next : (most : ℕ) (s : Reading) (input : List ℕ) → is_answer s ≡ true → IsAnswerNext (next_in most s input)
unfolding next_in
answer_next most (Heading Requests scan text) input h = true_false (sym h)
answer_next most (Heading (Responses no_body) scan text) [] h = refl
answer_next most (Counts left) [] h = h
answer_next most Runs [] h = refl
answer_next most (Sizing text) [] h = refl
answer_next most (Chunk left) [] h = h
answer_next most ChunkEnd [] h = refl
answer_next most ChunkReturn [] h = refl
answer_next most (Trailing place count) [] h = refl
answer_next most Whole [] h = tt
answer_next most Done [] h = refl
answer_next most (Failed e) [] h = tt
answer_next most (Heading (Responses no_body) scan text) (b ∷ input) h =
    reported_answer (step_of (move_of (Heading (Responses no_body) scan text) b)).tokens
    (step_of (move_of (Heading (Responses no_body) scan text) b)).next input (λ t. next_in most t input)
    (heading_step no_body scan text b) (λ on. answer_next most (step_of (move_of (Heading (Responses no_body) scan text) b)).next input on)
answer_next most (Counts left) (b ∷ input) h = rw (in_body left h) (counts_answer (left - min most (min left (length input + 1))))
answer_next most Runs (b ∷ input) h = refl
answer_next most (Sizing text) (b ∷ input) h =
    reported_answer (step_of (move_of (Sizing text) b)).tokens (step_of (move_of (Sizing text) b)).next input (λ t. next_in most t input)
    (sizing_step text b) (λ on. answer_next most (step_of (move_of (Sizing text) b)).next input on)
answer_next most (Chunk left) (b ∷ input) h = rw (in_body left h) (chunk_answer (left - min most (min left (length input + 1))))
answer_next most ChunkEnd (b ∷ input) h =
    reported_answer (step_of (move_of ChunkEnd b)).tokens (step_of (move_of ChunkEnd b)).next input (λ t. next_in most t input)
    (end_step b) (λ on. answer_next most (step_of (move_of ChunkEnd b)).next input on)
answer_next most ChunkReturn (b ∷ input) h =
    reported_answer (step_of (move_of ChunkReturn b)).tokens (step_of (move_of ChunkReturn b)).next input (λ t. next_in most t input)
    (return_step b) (λ on. answer_next most (step_of (move_of ChunkReturn b)).next input on)
answer_next most (Trailing place count) (b ∷ input) h =
    reported_answer (step_of (move_of (Trailing place count) b)).tokens (step_of (move_of (Trailing place count) b)).next input (λ t. next_in most t input)
    (trailing_step place count b) (λ on. answer_next most (step_of (move_of (Trailing place count) b)).next input on)
answer_next most Whole (b ∷ input) h = tt
answer_next most Done (b ∷ input) h = refl
answer_next most (Failed e) (b ∷ input) h = tt
