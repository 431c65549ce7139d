-- What bytes tell has a spelling: only a whole head tells something that needs one, and its text is short.
--
-- Of each step it is shown that its tokens have a spelling (`step_spelled`). Bytes of bodies, chunk lines and trailers
-- tell no request and no head. In `heading_spelled` a byte goes on, ends the head or refuses it. A head that ends has
-- at most 32,768 bytes, and what such a text asks or answers has a spelling (`asked_spelled`). By induction it holds of
-- all tokens (`tokens_spelled`), and so of what a reader gives.
use Rattle.std.{proofs.{lemmas.{Bool.{cases_Bool, ltb-true, Decides.{nat_tests}}, List.Elements.{All-cons, All-head, All-append}}, Common.{◌≡◌, ℕ, ◌≤◌, ◌==◌, Bool, List, [], ◌∷◌, ◌++◌, length, sym, subst, inl, inr, arith, length-append}}, specs.Prelude.{nat_lt, All, IfSome, if◌then◌else◌, Option, Some, None, Result, Ok, Err}}
use Rattle.hc_head.specs.{declared.{message.{MsgError.{MsgError}, WireRequest.{WireRequest}}, scan.Scan.{Scan}}, Scans.{scan_byte, is_open}, Requests.{Asked, Grants, Denies, IsAskedBy}, Responses.{HeadOutcome, Shows, IsHeardIn}}
use Rattle.hc_head.proofs.Spellings.{granted_spelled, shown_spelled}
use Rattle.hc_msg.specs.{declared.{message.{Taken.{Taken}, WirePart.{WirePart}}, trailer.Trails.{Trails, TheVariants.{On}}}, Chunks.{trail}, Reading.{Kind, Requests, Responses, Reading, Heading, Sizing, ChunkEnd, ChunkReturn, Trailing, Whole, Done, Failed, Token, Asks, Answers, Byte, Step, Goes, after_asked, after_heard, after_trail, begins_head, move_of, HeadMakes, Makes, Leads}, Asking.{TakesRequest, CompletesRequest}, Taking.{Takes, Completes}, Spelled.{IsSpelled, IsSpelledPart, GivesSpelled}}
use Rattle.hc_msg.specs.declared.message.WirePart.TheVariants as part
use Rattle.hc_msg.proofs.Leading.{reports_leads}

none_spelled : All IsSpelled []
none_spelled = λ k d lt. absurd (omega arith)

-- a whole head
asked_spelled : (text : List ℕ) (asked : Asked) → length text ≤ 32768 → IsAskedBy text asked → All IsSpelled (after_asked asked).tokens
asked_spelled text (Grants request) short h = All-cons IsSpelled (Asks request) [] (granted_spelled text request short h) none_spelled
asked_spelled text (Denies e) short h = none_spelled

heard_spelled : (no_body : Bool) (text : List ℕ) (heard : HeadOutcome) → length text ≤ 32768 → IsHeardIn no_body text heard →
    All IsSpelled (after_heard no_body heard).tokens
heard_spelled no_body text (Shows response framing) short h =
    All-cons IsSpelled (Answers response) [] (shown_spelled no_body text response framing short h) none_spelled
heard_spelled no_body text _ short h = none_spelled

head_spelled : (kind : Kind) (text : List ℕ) (step : Step) → length text ≤ 32768 → HeadMakes kind text step → All IsSpelled step.tokens
head_spelled Requests text step short h = subst (λ (s : Step). All IsSpelled s.tokens) (sym h.2) (asked_spelled text h.0 short h.1)
head_spelled (Responses no_body) text step short h = subst (λ (s : Step). All IsSpelled s.tokens) (sym h.2) (heard_spelled no_body text h.0 short h.1)

-- a step that is known
goes_spelled : (made step : Step) → All IsSpelled made.tokens → Makes (Goes made) step → All IsSpelled step.tokens
goes_spelled made step h is = subst (λ (s : Step). All IsSpelled s.tokens) (sym is) h

trail_spelled : (trails : Trails) → All IsSpelled (after_trail trails).tokens
trail_spelled (On place count) = none_spelled
trail_spelled _ = none_spelled

byte_spelled : (b : ℕ) → All IsSpelled (Byte b ∷ [])
byte_spelled b = All-cons IsSpelled (Byte b) [] tt none_spelled

heading_spelled : (kind : Kind) (scan : Scan) (text : List ℕ) (b : ℕ) (step : Step) → Makes (move_of (Heading kind scan text) b) step →
    All IsSpelled step.tokens
unfolding move_of
heading_spelled kind scan text b step h = elim (cases_Bool (nat_lt (length text) 32768)) [
  | inr long ↦ (let is = rw long at h in goes_spelled _ step none_spelled is)
  | inl short ↦ elim (cases_Bool (begins_head kind (text ++ b ∷ []))) [
    | inr never ↦ (let is = rw (short, never) at h in goes_spelled _ step none_spelled is)
    | inl begins ↦ elim (cases_Bool (is_open (scan_byte scan b))) [
      | inl still ↦ (let is = rw (short, begins, still) at h in goes_spelled _ step none_spelled is)
      | inr over ↦ (let is = rw (short, begins, over) at h in
          let room = ltb-true (length text) 32768 short in
          head_spelled kind (text ++ b ∷ []) step (simp length-append (omega (arith, room))) is)
    ]
  ]
]

sizing_spelled : (text : List ℕ) (b : ℕ) (step : Step) → Makes (move_of (Sizing text) b) step → All IsSpelled step.tokens
unfolding move_of
sizing_spelled text b step h = grind (arith, nat_tests)

returned_spelled : (b c : ℕ) (one two : Step) → All IsSpelled one.tokens → All IsSpelled two.tokens → (step : Step) →
    step ≡ (if b == c then one else two) → All IsSpelled step.tokens
returned_spelled b c one two first second step h = grind (arith, nat_tests)

step_spelled : (s : Reading) (b : ℕ) (step : Step) → Makes (move_of s b) step → All IsSpelled step.tokens
unfolding move_of
step_spelled (Heading kind scan text) b step h = heading_spelled kind scan text b step h
step_spelled (Sizing text) b step h = sizing_spelled text b step h
step_spelled ChunkEnd b step h = returned_spelled b 13 _ _ none_spelled none_spelled step h
step_spelled ChunkReturn b step h = returned_spelled b 10 _ _ none_spelled none_spelled step h
step_spelled (Trailing place count) b step h = goes_spelled _ step (trail_spelled (trail place count b)) h
step_spelled Whole b step h = absurd h
step_spelled Done b step h = absurd h
step_spelled (Failed e) b step h = goes_spelled _ step none_spelled h
step_spelled _ b step h = goes_spelled _ step (byte_spelled b) h

pub tokens_spelled : (s : Reading) (text : List ℕ) (tokens : List Token) (t : Reading) → Leads s text tokens t → All IsSpelled tokens
tokens_spelled s [] tokens t h = subst (All IsSpelled) (sym h.0) none_spelled
tokens_spelled s (b ∷ text) tokens t h =
    subst (All IsSpelled) (sym h.4) (All-append IsSpelled h.0.tokens h.1 (step_spelled s b h.0 h.2) (tokens_spelled h.0.next text h.1 t h.3))

-- what the readers give
pub request_spelled : (s : Reading) (piece : List ℕ) (result : Result (Taken WireRequest) MsgError) (t : Reading) → TakesRequest s piece result t →
    GivesSpelled (λ request. IsSpelled (Asks request)) result
request_spelled s piece (Err e) t h = tt
request_spelled s piece (Ok taken) t h = given taken.got h.1 where
  given : (got : Option WireRequest) → CompletesRequest s piece taken.used got t → IfSome got (λ request. IsSpelled (Asks request))
  given None h = tt
  given (Some request) h = All-head IsSpelled (Asks request) [] (tokens_spelled s _ (Asks request ∷ []) t (reports_leads s _ (Asks request) t h))

pub part_spelled : (s : Reading) (piece : List ℕ) (most : ℕ) (result : Result (Taken WirePart) MsgError) (t : Reading) → Takes s piece most result t →
    GivesSpelled (IsSpelledPart most) result
part_spelled s piece most (Err e) t h = tt
part_spelled s piece most (Ok taken) t h = given taken.got h.1 where
  given : (got : Option WirePart) → Completes s piece most taken.used got t → IfSome got (IsSpelledPart most)
  given (Some (part.Head response)) h =
      All-head IsSpelled (Answers response) [] (tokens_spelled s _ (Answers response ∷ []) t (reports_leads s _ (Answers response) t h))
  given (Some (part.Piece bytes)) h = (h.some, omega (arith, h.longest))
  given _ h = tt
