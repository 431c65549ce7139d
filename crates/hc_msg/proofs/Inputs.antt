-- What the readers take is what stands next.
--
-- A byte has one step, and the equations name it (`makes_is`), so bytes that tell nothing are passed (`passes_next`).
-- Left is a head that is told at its last byte (`reports_next`), bytes of a body that stand together (`brings_next`), an
-- end or an error. A byte that tells nothing isn't one of a body; and where a token is no byte, the last byte of its
-- head isn't one either. `takes_next` joins the cases for an answer, and `takes_next_request` for a request.
use Rattle.std.{proofs.{Common.{◌≡◌, ℕ, ◌-◌, ◌<◌, true, List, [], ◌∷◌, ◌++◌, length, take, drop, refl, sym, ap, subst, ◌∙◌, inl, inr, arith, append_assoc, length-take, lt-ltb}, lemmas.List.{append-nil, drop_all, take-append-drop, drop-drop}}, specs.Prelude.{◌⊎◌, nat_lt, min, Option, Some, None, Result, Ok, Err}}
use Rattle.hc_head.specs.{declared.message.{MsgError.{MsgError}, WireRequest.{WireRequest}}, Decoding.{asked_in, heard_in}}
use Rattle.hc_head.specs.declared.message.MsgError.TheVariants as error
use Rattle.hc_head.proofs.Decoding.{asked_in_is, heard_in_is}
use Rattle.hc_msg.specs.{declared.{message.{Taken.{Taken}, WirePart.{WirePart}}, call.Call.{Call}}, Sizes.{size_in}, Reading.{Reading, Requests, Responses, Heading, Counts, Runs, Sizing, Chunk, ChunkEnd, ChunkReturn, Trailing, Whole, Done, Failed, Token, Asks, Answers, Byte, Step, Move, Goes, EndsHead, EndsLine, Stays, counts, chunk, move_of, Makes, Leads, ReportsAtLast}, Taking.{stretch, goes_on, byte_tokens, GivesBytes, IsSpent, Completes, Takes}, Asking.{asking, asking_by, CompletesRequest, TakesRequest}, Inputs.{Next, Waits, Reports, Brings, Ends, Fails, step_of, stopped, body_behind, reported_or, next_in, IsNextError, IsNextPart, TakesNext, IsNextRequest, TakesNextRequest}}
use Rattle.hc_msg.specs.declared.message.WirePart.TheVariants as part
use Rattle.hc_msg.proofs.{Leading.{makes_one, leads_one}, Sizes.{size_in_is}, Bytes.{counts_some, counts_on, chunk_on, runs_on}}

-- STEPS

pub makes_is : (move : Move) (step : Step) → Makes move step → step ≡ step_of move
makes_is (Goes made) step h = h
makes_is (EndsHead Requests text) step h = makes_one (EndsHead Requests text) step _ h (asked_in text, asked_in_is text, refl)
makes_is (EndsHead (Responses nb) text) step h = makes_one (EndsHead (Responses nb) text) step _ h (heard_in nb text, heard_in_is nb text, refl)
makes_is (EndsLine text) step h = makes_one (EndsLine text) step _ h (size_in text, size_in_is text, refl)
makes_is Stays step h = absurd h

-- what a step that tells nothing leaves, and what one that tells something names
silent : (made step : Step) (input : List ℕ) (go_on : Reading → Next) → step ≡ made → step.tokens ≡ [] →
    reported_or made.tokens made.next input go_on ≡ go_on step.next
silent made step input go_on same none = rw (← same, none) refl

reporting : (made step : Step) (token : Token) (input : List ℕ) (go_on : Reading → Next) → step ≡ made → step.tokens ≡ token ∷ [] →
    reported_or made.tokens made.next input go_on ≡ Reports token step.next input
reporting made step token input go_on same one = rw (← same, one) refl

-- a byte of a body is told
no_byte : (made step : Step) (b : ℕ) (rest : List Token) → step ≡ made → made.tokens ≡ Byte b ∷ [] → step.tokens ++ rest ≡ [] → ⊥
no_byte made step b rest same is none = cc (rw (same, is) at none)

other_byte : (made step : Step) (b : ℕ) (token : Token) (rest : List Token) → ((c : ℕ) → token ≡ Byte c → ⊥) → step ≡ made → made.tokens ≡ Byte b ∷ [] →
    token ∷ [] ≡ step.tokens ++ rest → ⊥
other_byte made step b token rest other same is one =
    let all : token ∷ [] ≡ Byte b ∷ rest = rw (same, is) at one in
    other b cc

left_nil : (xs ys : List Token) → [] ≡ xs ++ ys → xs ≡ []
left_nil [] ys h = refl
left_nil (x ∷ xs) ys h = let never : [] ≡ x ∷ (xs ++ ys) = h in absurd cc

-- BYTES THAT TELL NOTHING

pub failed_next : (most : ℕ) (e : MsgError) (input : List ℕ) → next_in most (Failed e) input ≡ Fails e
unfolding next_in
failed_next most e [] = refl
failed_next most e (b ∷ input) = refl

whole_next : (most : ℕ) (input : List ℕ) → next_in most Whole input ≡ Ends
unfolding next_in
whole_next most [] = refl
whole_next most (b ∷ input) = refl

done_next : (most : ℕ) (input : List ℕ) → next_in most Done input ≡ Waits Done
unfolding next_in
done_next most [] = refl
done_next most (b ∷ input) = refl

byte_next : (most : ℕ) (s : Reading) (b : ℕ) (input : List ℕ) (step : Step) (rest : List Token) → Makes (move_of s b) step → [] ≡ step.tokens ++ rest →
    next_in most s (b ∷ input) ≡ next_in most step.next input
unfolding next_in move_of
byte_next most (Counts left) b input step rest h none = absurd (no_byte _ step b rest h refl (sym none))
byte_next most Runs b input step rest h none = absurd (no_byte _ step b rest h refl (sym none))
byte_next most (Chunk left) b input step rest h none = absurd (no_byte _ step b rest h refl (sym none))
byte_next most ChunkEnd b input step rest h none =
    silent _ step input (λ t. next_in most t input) (makes_is (move_of ChunkEnd b) step h) (left_nil step.tokens rest none)
byte_next most ChunkReturn b input step rest h none =
    silent _ step input (λ t. next_in most t input) (makes_is (move_of ChunkReturn b) step h) (left_nil step.tokens rest none)
byte_next most Whole b input step rest h none = absurd h
byte_next most Done b input step rest h none = absurd h
byte_next most (Failed e) b input step rest h none =
    sym (ap (λ (m : Step). next_in most m.next input) h ∙ failed_next most e input)
byte_next most v b input step rest h none =
    silent _ step input (λ t. next_in most t input) (makes_is (move_of v b) step h) (left_nil step.tokens rest none)

pub passes_next : (most : ℕ) (s mid : Reading) (xs ys : List ℕ) → Leads s xs [] mid → next_in most s (xs ++ ys) ≡ next_in most mid ys
passes_next most s mid [] ys h = ap (λ (r : Reading). next_in most r ys) (sym h.1)
passes_next most s mid (b ∷ xs) ys h =
    let quietly : [] ≡ h.0.tokens ++ h.1 = h.4 in
    let behind : Leads h.0.next xs [] mid = subst (λ (l : List Token). Leads h.0.next xs l mid) (right_nil h.0.tokens h.1 quietly) h.3 in
    byte_next most s b (xs ++ ys) h.0 h.1 h.2 quietly ∙ passes_next most h.0.next mid xs ys behind where
      right_nil : (xs ys : List Token) → [] ≡ xs ++ ys → ys ≡ []
      right_nil [] ys h = sym h
      right_nil (x ∷ xs) ys h = let never : [] ≡ x ∷ (xs ++ ys) = h in absurd cc

-- the first bytes of a piece
front_next : (most : ℕ) (s mid : Reading) (piece : List ℕ) (n : ℕ) → Leads s (take n piece) [] mid → next_in most s piece ≡ next_in most mid (drop n piece)
front_next most s mid piece n h =
    ap (next_in most s) (sym (take-append-drop n piece)) ∙ passes_next most s mid (take n piece) (drop n piece) h

-- a piece of which all tells nothing
all_next : (most : ℕ) (s t : Reading) (piece : List ℕ) → Leads s piece [] t → next_in most s piece ≡ next_in most t []
all_next most s t piece h = ap (next_in most s) (sym (append-nil piece)) ∙ passes_next most s t piece [] h

-- A HEAD

last_next : (most : ℕ) (s : Reading) (b : ℕ) (input : List ℕ) (token : Token) (step : Step) (rest : List Token) → ((c : ℕ) → token ≡ Byte c → ⊥) →
    Makes (move_of s b) step
    → rest ≡ [] → token ∷ [] ≡ step.tokens ++ rest → next_in most s (b ∷ input) ≡ Reports token step.next input
unfolding next_in move_of
last_next most s b input token step rest other h none one = by s h where
  only : step.tokens ≡ token ∷ []
  only = sym (append-nil step.tokens) ∙ ap (λ (l : List Token). step.tokens ++ l) (sym none) ∙ sym one

  by : (s : Reading) → Makes (move_of s b) step → next_in most s (b ∷ input) ≡ Reports token step.next input
  by (Counts left) h = absurd (other_byte _ step b token rest other h refl one)
  by Runs h = absurd (other_byte _ step b token rest other h refl one)
  by (Chunk left) h = absurd (other_byte _ step b token rest other h refl one)
  by ChunkEnd h = reporting _ step token input (λ t. next_in most t input) (makes_is (move_of ChunkEnd b) step h) only
  by ChunkReturn h = reporting _ step token input (λ t. next_in most t input) (makes_is (move_of ChunkReturn b) step h) only
  by Whole h = absurd h
  by Done h = absurd h
  by (Failed e) h = let never : [] ≡ token ∷ [] = ap (λ (m : Step). m.tokens) (sym h) ∙ only in absurd cc
  by v h = reporting _ step token input (λ t. next_in most t input) (makes_is (move_of v b) step h) only

pub reports_next : (most : ℕ) (s : Reading) (text rest : List ℕ) (token : Token) (t : Reading) → ((c : ℕ) → token ≡ Byte c → ⊥) →
    ReportsAtLast s text token t → next_in most s (text ++ rest) ≡ Reports token t rest
reports_next most s text rest token t other h =
    rw (← h.whole, append_assoc, passes_next most s h.mid h.before (h.last ∷ rest) h.passes, h.reports.3.1)
    (last_next most h.mid h.last rest token h.reports.0 h.reports.1 other h.reports.2 h.reports.3.0 h.reports.4)

-- BYTES OF A BODY

-- such bytes, which lead on
brought_as : (k n : ℕ) (input bytes : List ℕ) (mid t : Reading) → k ≡ n → bytes ≡ take n input → t ≡ body_behind mid n →
    Brings (take k input) (body_behind mid k) (drop k input) ≡ Brings bytes t (drop n input)
brought_as k n input bytes mid t same are there = rw (same, are, there) refl

body_next : (most : ℕ) (mid : Reading) (input bytes : List ℕ) (t : Reading) → 0 < length bytes → bytes ≡ take (length bytes) input → length bytes ≡ min
    most (stretch mid (length input))
    → Leads mid bytes (byte_tokens bytes) t → next_in most mid input ≡ Brings bytes t (drop (length bytes) input)
unfolding next_in
body_next most mid [] bytes t some are count leads = absurd (omega (arith, ap length are, length-take {A = ℕ} (length bytes) []))
body_next most (Counts left) (b ∷ input) bytes t some are count leads =
    let here : nat_lt 0 (min left 1) ≡ true = lt-ltb 0 (min left 1) (omega arith) in
    let on = rw (counts_some left (omega arith)) at (counts_on bytes left (omega arith)) in
    let one = leads_one (Counts left) bytes (byte_tokens bytes) (byte_tokens bytes) t (counts (left - length bytes)) leads on in
    rw here (brought_as _ (length bytes) (b ∷ input) bytes (Counts left) t (omega arith) are one.next)
body_next most Runs (b ∷ input) bytes t some are count leads =
    let one = leads_one Runs bytes (byte_tokens bytes) (byte_tokens bytes) t Runs leads (runs_on bytes) in
    brought_as _ (length bytes) (b ∷ input) bytes Runs t (omega arith) are one.next
body_next most (Chunk left) (b ∷ input) bytes t some are count leads =
    let here : nat_lt 0 (min left 1) ≡ true = lt-ltb 0 (min left 1) (omega arith) in
    let one = leads_one (Chunk left) bytes (byte_tokens bytes) (byte_tokens bytes) t (chunk (left - length bytes)) leads
    (chunk_on bytes left (omega arith) (omega arith)) in
    rw here (brought_as _ (length bytes) (b ∷ input) bytes (Chunk left) t (omega arith) are one.next)
body_next most (Heading kind scan text) (b ∷ input) bytes t some are count leads = absurd (omega arith)
body_next most (Sizing text) (b ∷ input) bytes t some are count leads = absurd (omega arith)
body_next most ChunkEnd (b ∷ input) bytes t some are count leads = absurd (omega arith)
body_next most ChunkReturn (b ∷ input) bytes t some are count leads = absurd (omega arith)
body_next most (Trailing place count) (b ∷ input) bytes t some are n leads = absurd (omega arith)
body_next most Whole (b ∷ input) bytes t some are count leads = absurd (omega arith)
body_next most Done (b ∷ input) bytes t some are count leads = absurd (omega arith)
body_next most (Failed e) (b ∷ input) bytes t some are count leads = absurd (omega arith)

brings_next : (most : ℕ) (s : Reading) (piece : List ℕ) (used : ℕ) (bytes : List ℕ) (t : Reading) → GivesBytes s piece most used bytes t → next_in
    most s piece ≡ Brings bytes t (drop used piece)
brings_next most s piece used bytes t h =
    let left : drop (length bytes) (drop h.before piece) ≡ drop used piece = drop-drop (length bytes) h.before piece ∙
    ap (λ (n : ℕ). drop n piece) (sym h.used_is) in
    front_next most s h.mid piece h.before h.passes
    ∙ body_next most h.mid (drop h.before piece) bytes t h.some h.bytes_are h.longest h.gives ∙ ap (λ (l : List ℕ). Brings bytes t l) left

-- WHAT THE READERS TAKE

waits : (t : Reading) → goes_on t ≡ true → stopped t ≡ Waits t
waits Whole h = cc
waits (Failed e) h = cc
waits _ h = refl

open_next : (most : ℕ) (t : Reading) → goes_on t ≡ true → next_in most t [] ≡ Waits t
unfolding next_in
open_next most t h = waits t h

pub error_next : (most : ℕ) (s : Reading) (piece : List ℕ) (e : MsgError) → (e ≡ error.NoMemory) ⊎ Leads s piece [] (Failed e) →
    IsNextError (next_in most s piece) e
error_next most s piece e (inl memory) = inl memory
error_next most s piece e (inr failed) = inr (all_next most s (Failed e) piece failed ∙ failed_next most e [])

spent_next : (most : ℕ) (s : Reading) (piece : List ℕ) (used : ℕ) (t : Reading) → Leads s (take used piece) [] t → IsSpent s (length piece) used t →
    next_in most s piece ≡ Waits t
spent_next most s piece used t leads (inl all) =
    rw (front_next most s t piece used leads, drop_all used piece (omega (arith, all.0))) (open_next most t all.1)
spent_next most s piece used t leads (inr done) = rw (done.0, done.2) (done_next most piece)

completes_next : (most : ℕ) (s : Reading) (piece : List ℕ) (used : ℕ) (got : Option WirePart) (t : Reading) → Completes s piece most used got t →
    IsNextPart (next_in most s piece) piece used got t
completes_next most s piece used None t h = spent_next most s piece used t h.0 h.1
completes_next most s piece used (Some (part.Head response)) t h =
    ap (next_in most s) (sym (take-append-drop used piece)) ∙ reports_next most s (take used piece) (drop used piece) (Answers response) t (λ c same. cc) h
completes_next most s piece used (Some (part.Piece bytes)) t h = brings_next most s piece used bytes t h
completes_next most s piece used (Some part.End) t h = front_next most s Whole piece used h.0 ∙ whole_next most (drop used piece)

pub takes_next : (most : ℕ) (s : Reading) (piece : List ℕ) (result : Result (Taken WirePart) MsgError) (t : Reading) → Takes s piece most result t →
    TakesNext most s piece result t
takes_next most s piece (Ok taken) t h = completes_next most s piece taken.used taken.got t h.1
takes_next most s piece (Err e) t h = error_next most s piece e h

asks_next : (most : ℕ) (s : Reading) (piece : List ℕ) (used : ℕ) (got : Option WireRequest) (t : Reading) → goes_on t ≡ true →
    CompletesRequest s piece used got t → IsNextRequest (next_in most s piece) piece used got t
asks_next most s piece used None t on h = all_next most s t piece h.1 ∙ open_next most t on
asks_next most s piece used (Some request) t on h =
    ap (next_in most s) (sym (take-append-drop used piece)) ∙ reports_next most s (take used piece) (drop used piece) (Asks request) t (λ c same. cc) h

pub takes_next_request : (s : Reading) (piece : List ℕ) (result : Result (Taken WireRequest) MsgError) (t : Reading) → goes_on t ≡ true →
    TakesRequest s piece result t → TakesNextRequest 1 s piece result t
takes_next_request s piece (Ok taken) t on h = asks_next 1 s piece taken.used taken.got t on h.1
takes_next_request s piece (Err e) t on h = error_next 1 s piece e h

-- a reader that isn't at an error
pub call_next : (stopped_at : Option MsgError) (call new : Call) (s : Reading) (piece : List ℕ) (taken : Taken WireRequest) →
    ((e : MsgError) → stopped_at ≡ Some e → ⊥) → asking_by stopped_at call ≡ s
    → TakesRequest (asking call) piece (Ok taken) (asking new) → TakesNextRequest 1 s piece (Ok taken) (asking_by stopped_at new)
call_next None call new s piece taken reads same h =
    subst (λ (r : Reading). TakesNextRequest 1 r piece (Ok taken) (asking new)) same (takes_next_request (asking call) piece (Ok taken) (asking new) refl h)
call_next (Some e) call new s piece taken reads same h = absurd (reads e refl)

-- a reader whose end was told takes nothing
pub done_takes : (most : ℕ) (s : Reading) (piece : List ℕ) → Done ≡ s → next_in most s piece ≡ Waits s
done_takes most s piece same = subst (λ (r : Reading). next_in most r piece ≡ Waits r) same (done_next most piece)
