-- What stands next where a head is still read: no body and no end. So whoever reads behind a head was told that.
use Rattle.std.{proofs.Common.{◌≡◌, ℕ, ◌++◌, List, [], ◌∷◌, length, Bool, true, false, refl, sym, ◌∙◌, subst}, specs.Prelude.{nat_lt, not, if◌then◌else◌}}
use Rattle.hc_text.proofs.Basics.{true_false}
use Rattle.hc_head.specs.{Decoding.{asked_in, heard_in}, Requests.{Asked, Grants, Denies}, Responses.{HeadOutcome, Skips, Shows, Refuses}, Scans.{scan_byte, is_open}, declared.scan.Scan.{Scan}}
use Rattle.hc_head.specs.declared.message.MsgError.TheVariants as error
use Rattle.hc_msg.specs.{Inputs.{Next, Waits, Reports, Brings, Ends, Fails, next_in, reported_or, step_of}, Reading.{Kind, Requests, Responses, Reading, Heading, Counts, Runs, Sizing, Chunk, ChunkEnd, ChunkReturn, Trailing, Whole, Done, Failed, Token, Answers, Step, Goes, EndsHead, quiet, fails, after_asked, after_heard, begins_head, head_move, move_of}}
use Rattle.hc_proxy.specs.Headed.{is_begun}

-- neither a body, nor an end, nor a wait behind a head
abbrev pub IsUnbegun : Next → Type 0
IsUnbegun (Waits t) = is_begun t ≡ false
IsUnbegun (Reports token t rest) = Unit {0}
IsUnbegun (Brings bytes t rest) = ⊥
IsUnbegun Ends = ⊥
IsUnbegun (Fails e) = Unit {0}

-- where a byte tells nothing, a head is still read behind it
abbrev IsOff : Step → Type 0
IsOff step = step.tokens ≡ [] → is_begun step.next ≡ false

asked_off : (a : Asked) → IsOff (after_asked a)
asked_off (Grants request) none = refl
asked_off (Denies e) none = refl

heard_off : (no_body : Bool) (h : HeadOutcome) → IsOff (after_heard no_body h)
heard_off no_body Skips none = refl
heard_off no_body (Shows response framing) none = absurd (let never : (Answers response ∷ []) ≡ [] = none in cc)
heard_off no_body (Refuses e) none = refl

head_off : (kind : Kind) (text : List ℕ) → IsOff (step_of (EndsHead kind text))
head_off Requests text = asked_off (asked_in text)
head_off (Responses no_body) text = heard_off no_body (heard_in no_body text)

move_off : (kind : Kind) (scan : Scan) (text : List ℕ) → (a b : Bool) →
    IsOff (step_of (if not a then Goes (fails error.BadHead) else if b then Goes (quiet (Heading kind scan text)) else EndsHead kind text))
move_off kind scan text false b none = refl
move_off kind scan text true true none = refl
move_off kind scan text true false none = head_off kind text none

byte_off : (kind : Kind) (scan : Scan) (text : List ℕ) (b : ℕ) → IsOff (step_of (move_of (Heading kind scan text) b))
unfolding move_of
byte_off kind scan text b = by_length (nat_lt (length text) 32768)
  where
    by_length : (c : Bool) → IsOff (step_of (if c then head_move kind (scan_byte scan b) (text ++ b ∷ []) else Goes (fails error.HeadTooLong)))
    by_length true none = move_off kind (scan_byte scan b) (text ++ b ∷ []) (begins_head kind (text ++ b ∷ [])) (is_open (scan_byte scan b)) none
    by_length false none = refl

reported_off : (tokens : List Token) (s : Reading) (rest : List ℕ) (go_on : Reading → Next) → (tokens ≡ [] → IsUnbegun (go_on s)) →
    IsUnbegun (reported_or tokens s rest go_on)
reported_off [] s rest go_on h = h refl
reported_off (token ∷ more) s rest go_on h = tt

pub unbegun : (most : ℕ) (s : Reading) (input : List ℕ) → is_begun s ≡ false → IsUnbegun (next_in most s input)
unfolding next_in
unbegun most (Heading kind scan text) [] off = refl
unbegun most (Failed e) [] off = tt
unbegun most (Heading kind scan text) (b ∷ input) off =
    reported_off (step_of (move_of (Heading kind scan text) b)).tokens (step_of (move_of (Heading kind scan text) b)).next input (λ t. next_in most t input)
    (λ none. unbegun most (step_of (move_of (Heading kind scan text) b)).next input (byte_off kind scan text b none))
unbegun most (Failed e) (b ∷ input) off = tt
unbegun most (Counts left) input off = true_false off
unbegun most Runs input off = true_false off
unbegun most (Sizing text) input off = true_false off
unbegun most (Chunk left) input off = true_false off
unbegun most ChunkEnd input off = true_false off
unbegun most ChunkReturn input off = true_false off
unbegun most (Trailing place count) input off = true_false off
unbegun most Whole input off = true_false off
unbegun most Done input off = true_false off

-- So of one that waits behind a head, brings a body or ends

by_begun : (most : ℕ) (s : Reading) (input : List ℕ) → (IsUnbegun (next_in most s input) → ⊥) → (b : Bool) → is_begun s ≡ b → is_begun s ≡ true
by_begun most s input never true is = is
by_begun most s input never false off = absurd (never (unbegun most s input off))

pub begun_waits : (most : ℕ) (s : Reading) (input : List ℕ) (t : Reading) → next_in most s input ≡ Waits t → is_begun t ≡ true → is_begun s ≡ true
begun_waits most s input t is begun =
    by_begun most s input
    (λ off. let still : is_begun t ≡ false = subst IsUnbegun is off in let never : true ≡ false = sym begun ∙ still in cc)
    (is_begun s) refl

pub begun_brings : (most : ℕ) (s : Reading) (input bytes : List ℕ) (t : Reading) (rest : List ℕ) → next_in most s input ≡ Brings bytes t rest →
    is_begun s ≡ true
begun_brings most s input bytes t rest is = by_begun most s input (λ off. subst IsUnbegun is off) (is_begun s) refl

pub begun_ends : (most : ℕ) (s : Reading) (input : List ℕ) → next_in most s input ≡ Ends → is_begun s ≡ true
begun_ends most s input is = by_begun most s input (λ off. subst IsUnbegun is off) (is_begun s) refl
