-- What one more call brings of a connection, and what more bytes make of its first request.
--
-- A call brings to what came of a connection what its event says, and to the others nothing. Bytes behind a whole
-- request, and behind a refused one, change nothing of it (`next_on`); where it isn't whole, they are read from where
-- its reading stands (`waits-more`). So what a connection is answered stays (`answer-more`).
use Rattle.std.{proofs.{Common.{◌≡◌, ℕ, List, [], ◌∷◌, ◌++◌, Bool, true, false, not, Option, Some, None, refl, sym, ap, subst, ◌∙◌, inl, inr, append_assoc}, lemmas.{List.{append-nil}, Bool.{cases_Bool}}}, specs.Prelude.{if◌then◌else◌, ◌||◌, ◌&&◌, is_some}}
use Rattle.hc_text.proofs.Basics.{cond_either as or_all, or_false as or_none}
use Rattle.hc_event.specs.declared.event.Request.{Request}
use Rattle.hc_wire.specs.{Logs.{Called}, Scripts.{is_got_by}}
use Rattle.hc_msg.specs.{Inputs.{Next, Waits, Reports, Brings, Ends, Fails, next_in, reported_or, is_in_body, step_of}, Reading.{Reading, Heading, Counts, Runs, Sizing, Chunk, ChunkEnd, ChunkReturn, Trailing, Whole, Done, Failed, Token, move_of, heading, Requests}}
use Rattle.hc_msg.proofs.Inputs.{failed_next}
use Rattle.hc_origin.specs.{Coming.{Came, bytes_of, came_of, first_in, has_stopped, is_accept_of, is_accepted, is_cut_off, is_failing, is_refused, is_stop_of, request_from, request_in}, Answering.{IsAnswer}, Going.{with_bytes, with_stop}}

-- ONE MORE CALL

or_more : (b x y z : Bool) → x ≡ (y || z) → (b || x) ≡ ((b || y) || z)
or_more true x y z is = refl
or_more false x y z is = is

pub accepted-more : (k : ℕ) (calls : List Called) (call : Called) → is_accepted k (calls ++ call ∷ []) ≡ (is_accepted k calls || is_accept_of k call.event)
accepted-more k [] call = or_none (is_accept_of k call.event)
accepted-more k (c ∷ calls) call = or_more (is_accept_of k c.event) _ _ _ (accepted-more k calls call)

pub stopped-more : (k : ℕ) (calls : List Called) (call : Called) → has_stopped k (calls ++ call ∷ []) ≡ (has_stopped k calls || is_stop_of k call.event)
stopped-more k [] call = or_none (is_stop_of k call.event)
stopped-more k (c ∷ calls) call = or_more (is_stop_of k c.event) _ _ _ (stopped-more k calls call)

pub bytes-more : (k : ℕ) (calls : List Called) (call : Called)
    → bytes_of k (calls ++ call ∷ []) ≡ bytes_of k calls ++ (if is_got_by k call.event then call.bytes else [])
bytes-more k [] call = append-nil (if is_got_by k call.event then call.bytes else [])
bytes-more k (c ∷ calls) call =
    let before = if is_got_by k c.event then c.bytes else [] in
    let behind = if is_got_by k call.event then call.bytes else [] in
    ap (λ (l : List ℕ). before ++ l) (bytes-more k calls call) ∙ sym (append_assoc before (bytes_of k calls) behind)

-- MORE BYTES

-- what more bytes make of what stands next
abbrev On : Next → List ℕ → Next → Type 0
On (Waits t) ys next = next ≡ next_in 1 t ys
On (Reports token t rest) ys next = next ≡ Reports token t (rest ++ ys)
On (Brings bytes t rest) ys next = Unit {0}
On Ends ys next = next ≡ Ends
On (Fails e) ys next = next ≡ Fails e

reported_on : (tokens : List Token) (s : Reading) (xs ys : List ℕ) → On (next_in 1 s xs) ys (next_in 1 s (xs ++ ys))
    → On (reported_or tokens s xs (λ t. next_in 1 t xs)) ys (reported_or tokens s (xs ++ ys) (λ t. next_in 1 t (xs ++ ys)))
reported_on [] s xs ys on = on
reported_on (token ∷ more) s xs ys on = refl

whole_next : (ys : List ℕ) → next_in 1 Whole ys ≡ Ends
unfolding next_in
whole_next [] = refl
whole_next (b ∷ ys) = refl

done_next : (ys : List ℕ) → next_in 1 Done ys ≡ Waits Done
unfolding next_in
done_next [] = refl
done_next (b ∷ ys) = refl

next_on : (s : Reading) (xs ys : List ℕ) → On (next_in 1 s xs) ys (next_in 1 s (xs ++ ys))
unfolding next_in move_of
next_on (Heading kind scan text) [] ys = refl
next_on (Counts left) [] ys = refl
next_on Runs [] ys = refl
next_on (Sizing text) [] ys = refl
next_on (Chunk left) [] ys = refl
next_on ChunkEnd [] ys = refl
next_on ChunkReturn [] ys = refl
next_on (Trailing place count) [] ys = refl
next_on Whole [] ys = whole_next ys
next_on Done [] ys = refl
next_on (Failed e) [] ys = failed_next 1 e ys
next_on (Heading kind scan text) (b ∷ xs) ys =
    let step = step_of (move_of (Heading kind scan text) b) in reported_on step.tokens step.next xs ys (next_on step.next xs ys)
next_on (Counts left) (b ∷ xs) ys = elim (cases_Bool (is_in_body (Counts left))) [
  | inl on ↦ rw on tt
  | inr off ↦ rw off refl
]
next_on Runs (b ∷ xs) ys = tt
next_on (Sizing text) (b ∷ xs) ys =
    let step = step_of (move_of (Sizing text) b) in reported_on step.tokens step.next xs ys (next_on step.next xs ys)
next_on (Chunk left) (b ∷ xs) ys = elim (cases_Bool (is_in_body (Chunk left))) [
  | inl on ↦ rw on tt
  | inr off ↦ rw off refl
]
next_on ChunkEnd (b ∷ xs) ys =
    let step = step_of (move_of ChunkEnd b) in reported_on step.tokens step.next xs ys (next_on step.next xs ys)
next_on ChunkReturn (b ∷ xs) ys =
    let step = step_of (move_of ChunkReturn b) in reported_on step.tokens step.next xs ys (next_on step.next xs ys)
next_on (Trailing place count) (b ∷ xs) ys =
    let step = step_of (move_of (Trailing place count) b) in reported_on step.tokens step.next xs ys (next_on step.next xs ys)
next_on Whole (b ∷ xs) ys = refl
next_on Done (b ∷ xs) ys = sym (done_next ys)
next_on (Failed e) (b ∷ xs) ys = refl

-- what is read on begins where the reading stands
pub waits-more : (came : Came) (s : Reading) (ys : List ℕ) → first_in came ≡ Waits s → first_in (with_bytes ys came) ≡ next_in 1 s ys
waits-more came s ys is = subst (λ (n : Next). On n ys (first_in (with_bytes ys came))) is (next_on (heading Requests) came.bytes ys)

request-on : (n next : Next) (ys : List ℕ) (request : Request) → On n ys next → request_from n ≡ Some request → request_from next ≡ Some request
request-on (Waits t) next ys request on is = absurd (cc)
request-on (Reports token t rest) next ys request on is = ap request_from on ∙ is
request-on (Brings bytes t rest) next ys request on is = absurd (cc)
request-on Ends next ys request on is = absurd (cc)
request-on (Fails e) next ys request on is = absurd (cc)

-- a whole request stays
pub answer-more : (came : Came) (ys text : List ℕ) → IsAnswer came text → IsAnswer (with_bytes ys came) text
answer-more came ys text is = record {
  request = is.request;
  asked = request-on (first_in came) (first_in (with_bytes ys came)) ys is.request (next_on (heading Requests) came.bytes ys) is.asked;
  responds = is.responds;
}

pub answer-stop : (came : Came) (text : List ℕ) → IsAnswer came text → IsAnswer (with_stop came) text
answer-stop came text is = record { request = is.request; asked = is.asked; responds = is.responds }

-- a request that isn't whole yet isn't there, and isn't refused
pub waits-none : (came : Came) (s : Reading) → first_in came ≡ Waits s → request_in came ≡ None
waits-none came s is = ap request_from is

pub waits-on : (came : Came) (s : Reading) → first_in came ≡ Waits s → is_refused came ≡ false
waits-on came s is = ap is_failing is

asked-on : (n : Next) (request : Request) → request_from n ≡ Some request → is_failing n ≡ false
asked-on (Waits t) request is = refl
asked-on (Reports token t rest) request is = refl
asked-on (Brings bytes t rest) request is = refl
asked-on Ends request is = refl
asked-on (Fails e) request is = absurd (cc)

pub answer-on : (came : Came) (text : List ℕ) → IsAnswer came text → is_refused came ≡ false
answer-on came text is = asked-on (first_in came) is.request is.asked

refused-on : (n : Next) → is_failing n ≡ true → request_from n ≡ None
refused-on (Waits t) is = absurd (cc)
refused-on (Reports token t rest) is = absurd (cc)
refused-on (Brings bytes t rest) is = absurd (cc)
refused-on Ends is = absurd (cc)
refused-on (Fails e) is = refl

pub refused-none : (came : Came) → is_refused came ≡ true → request_in came ≡ None
refused-none came is = refused-on (first_in came) is

and_not : (a : Bool) (o : Option Request) → (a && not (is_some o)) ≡ true → o ≡ None
and_not a None is = refl
and_not true (Some r) is = absurd (cc)
and_not false (Some r) is = absurd (cc)

pub cut-none : (came : Came) → is_cut_off came ≡ true → request_in came ≡ None
cut-none came is = and_not came.stopped (request_in came) is

-- a call that is about another connection
pub came-other : (k : ℕ) (calls : List Called) (call : Called) → is_got_by k call.event ≡ false → is_stop_of k call.event ≡ false
    → came_of k (calls ++ call ∷ []) ≡ came_of k calls
came-other k calls call ungot unstopped =
    let bytes : bytes_of k (calls ++ call ∷ []) ≡ bytes_of k calls = bytes-more k calls call ∙
    (ap (λ (b : Bool). bytes_of k calls ++ (if b then call.bytes else [])) ungot ∙ append-nil (bytes_of k calls)) in
    let stopped : has_stopped k (calls ++ call ∷ []) ≡ has_stopped k calls = stopped-more k calls call ∙
    (ap (λ (b : Bool). has_stopped k calls || b) unstopped ∙ or_none (has_stopped k calls)) in
    ap (λ (l : List ℕ). record { bytes = l; stopped = has_stopped k (calls ++ call ∷ []) }) bytes ∙
    ap (λ (b : Bool). record { bytes = bytes_of k calls; stopped = b }) stopped

-- bytes came
pub came-got : (k : ℕ) (calls : List Called) (call : Called) → is_got_by k call.event ≡ true → is_stop_of k call.event ≡ false
    → came_of k (calls ++ call ∷ []) ≡ with_bytes call.bytes (came_of k calls)
came-got k calls call got unstopped =
    let bytes : bytes_of k (calls ++ call ∷ []) ≡ bytes_of k calls ++ call.bytes = bytes-more k calls call ∙
    ap (λ (b : Bool). bytes_of k calls ++ (if b then call.bytes else [])) got in
    let stopped : has_stopped k (calls ++ call ∷ []) ≡ has_stopped k calls = stopped-more k calls call ∙
    (ap (λ (b : Bool). has_stopped k calls || b) unstopped ∙ or_none (has_stopped k calls)) in
    ap (λ (l : List ℕ). record { bytes = l; stopped = has_stopped k (calls ++ call ∷ []) }) bytes ∙
    ap (λ (b : Bool). record { bytes = bytes_of k calls ++ call.bytes; stopped = b }) stopped

-- it ended or broke
pub came-stop : (k : ℕ) (calls : List Called) (call : Called) → is_got_by k call.event ≡ false → is_stop_of k call.event ≡ true
    → came_of k (calls ++ call ∷ []) ≡ with_stop (came_of k calls)
came-stop k calls call ungot is =
    let bytes : bytes_of k (calls ++ call ∷ []) ≡ bytes_of k calls = bytes-more k calls call ∙
    (ap (λ (b : Bool). bytes_of k calls ++ (if b then call.bytes else [])) ungot ∙ append-nil (bytes_of k calls)) in
    let stopped : has_stopped k (calls ++ call ∷ []) ≡ true = stopped-more k calls call ∙
    (ap (λ (b : Bool). has_stopped k calls || b) is ∙ or_all (has_stopped k calls)) in
    ap (λ (l : List ℕ). record { bytes = l; stopped = has_stopped k (calls ++ call ∷ []) }) bytes ∙
    ap (λ (b : Bool). record { bytes = bytes_of k calls; stopped = b }) stopped

pub accepted-same : (k : ℕ) (calls : List Called) (call : Called) → is_accept_of k call.event ≡ false → is_accepted k (calls ++ call ∷ []) ≡ is_accepted k calls
accepted-same k calls call off = accepted-more k calls call ∙ (ap (λ (b : Bool). is_accepted k calls || b) off ∙ or_none (is_accepted k calls))
