-- What stands next of a client is a request, an error, or nothing yet: of requests no other part is told. And who is
-- ready to be read.
use Rattle.std.{proofs.Common.{◌≡◌, ℕ, List, [], ◌∷◌, ◌++◌, Bool, true, false, Option, Some, None, refl, length}, specs.Prelude.{◌&&◌, not, nat_lt, is_none, if◌then◌else◌}}
use Rattle.hc_head.specs.{Decoding.{asked_in}, Requests.{Asked, Grants, Denies}, Scans.{scan_byte, is_open}, Starts.{begins_request}, declared.scan.Scan.{Scan}}
use Rattle.hc_head.specs.declared.message.MsgError.TheVariants as error
use Rattle.hc_msg.specs.{Inputs.{Next, Waits, Reports, Fails, step_of, reported_or, next_in}, Reading.{Reading, Heading, Requests, Failed, Token, Asks, Answers, Byte, Step, Move, Goes, EndsHead, quiet, fails, after_asked, head_move, move_of}}
use Rattle.hc_wire.specs.Logs.{Called}
use Rattle.hc_proxy.specs.{Connections.{has_unsent}, Invariants.{IsOfRequests}, Rows.{Client}, Starts.{is_ready}}

-- within the head of a request
abbrev pub IsHead : Reading → Type 0
IsHead (Heading Requests scan text) = Unit {0}
IsHead _ = ⊥

pub of_head : (s : Reading) → IsHead s → IsOfRequests s
of_head (Heading Requests scan text) is = tt
of_head _ is = absurd is

abbrev pub IsNextAsked : Next → Type 0
IsNextAsked (Waits reading) = IsHead reading
IsNextAsked (Reports (Asks request) reading rest) = IsHead reading
IsNextAsked (Fails e) = Unit {0}
IsNextAsked _ = ⊥

-- what is told at a byte, and where the reading stands behind it
abbrev IsStepAsked : List Token → Reading → Type 0
IsStepAsked [] next = IsOfRequests next
IsStepAsked (Asks request ∷ more) next = IsHead next
IsStepAsked _ next = ⊥

abbrev IsMoveAsked : Move → Type 0
IsMoveAsked move = IsStepAsked (step_of move).tokens (step_of move).next

asked_step : (asked : Asked) → IsStepAsked (after_asked asked).tokens (after_asked asked).next
asked_step (Grants request) = tt
asked_step (Denies e) = tt

byte_asked : (scan : Scan) (text : List ℕ) (b : ℕ) → IsMoveAsked (move_of (Heading Requests scan text) b)
unfolding move_of
byte_asked scan text b = by_length (nat_lt (length text) 32768)
  where
    by_scan : (d : Bool) → IsMoveAsked (if d then Goes (quiet (Heading Requests (scan_byte scan b) (text ++ b ∷ []))) else EndsHead Requests (text ++ b ∷ []))
    by_scan true = tt
    by_scan false = asked_step (asked_in (text ++ b ∷ []))

    by_begins : (d : Bool) →
        IsMoveAsked (if not d then Goes (fails error.BadHead) else if is_open (scan_byte scan b) then
        Goes (quiet (Heading Requests (scan_byte scan b) (text ++ b ∷ []))) else EndsHead Requests (text ++ b ∷ []))
    by_begins true = by_scan (is_open (scan_byte scan b))
    by_begins false = tt

    by_length : (d : Bool) → IsMoveAsked (if d then head_move Requests (scan_byte scan b) (text ++ b ∷ []) else Goes (fails error.HeadTooLong))
    by_length true = by_begins (begins_request (text ++ b ∷ []))
    by_length false = tt

reported_asked : (tokens : List Token) (next : Reading) (input : List ℕ) (go_on : Reading → Next) →
    ((s : Reading) → IsOfRequests s → IsNextAsked (go_on s)) → IsStepAsked tokens next → IsNextAsked (reported_or tokens next input go_on)
reported_asked [] next input go_on rest is = rest next is
reported_asked (Asks request ∷ more) next input go_on rest is = is
reported_asked (Answers response ∷ more) next input go_on rest is = absurd is
reported_asked (Byte b ∷ more) next input go_on rest is = absurd is

pub next_asks : (most : ℕ) (s : Reading) (input : List ℕ) → IsOfRequests s → IsNextAsked (next_in most s input)
unfolding next_in
next_asks most (Heading Requests scan text) [] is = tt
next_asks most (Failed e) [] is = tt
next_asks most (Failed e) (b ∷ input) is = tt
next_asks most (Heading Requests scan text) (b ∷ input) is =
    let step : Step = step_of (move_of (Heading Requests scan text) b) in
    reported_asked step.tokens step.next input (λ s. next_in most s input) (λ s of. next_asks most s input of) (byte_asked scan text b)
next_asks most _ input is = absurd is

-- WHO IS READY

-- who is ready waits for nothing, and isn't to be closed
pub ready_idle : (call : Called) (k : ℕ) (r : Client) → is_ready call k r ≡ true → (r.consumer ≡ None) × (r.closing ≡ false)
ready_idle call k r is = by_parts (nat_lt 0 (length r.input)) r.consumer (has_unsent call k r) r.closing refl refl is
  where
    by_parts : (a : Bool) (o : Option ℕ) (b d : Bool) → r.consumer ≡ o → r.closing ≡ d → (a && is_none o && not b && not d) ≡ true → (r.consumer ≡ None) ×
        (r.closing ≡ false)
    by_parts false o b d x y h = absurd (let never : false ≡ true = h in cc)
    by_parts true (Some c) b d x y h = absurd (let never : false ≡ true = h in cc)
    by_parts true None true d x y h = absurd (let never : false ≡ true = h in cc)
    by_parts true None false true x y h = absurd (let never : false ≡ true = h in cc)
    by_parts true None false false x y h = (x, y)
