-- What stands next is what the bytes lead to first.
--
-- By induction on the input. A step tells one head at most, and never leads behind the end of a message (`IsFair`), so
-- where it tells nothing the rest of the input says what stands next (`passes_stands`), and where it tells something
-- that stands next. Within a body the bytes that stand together lead on by the laws of bodies.
use Rattle.std.{proofs.{lemmas.{Bool.{cases_Bool, ltb-true, Decides.{nat_tests}}, List.{take-append-drop}}, Common.{◌≡◌, ℕ, ◌+◌, ◌-◌, ◌<◌, ◌≤◌, ◌==◌, Bool, true, false, List, [], ◌∷◌, ◌++◌, length, take, drop, refl, sym, ap, subst, ◌∙◌, inl, inr, arith, length-take}}, specs.Prelude.{not, nat_lt, min, if◌then◌else◌, Option}}
use Rattle.hc_head.specs.{declared.framing.Framing.{Framing}, Decoding.{asked_in, heard_in}, Scans.{scan_byte, is_open}}
use Rattle.hc_head.specs.declared.framing.Framing.TheVariants as framing
use Rattle.hc_head.proofs.Decoding.{asked_in_is, heard_in_is}
use Rattle.hc_msg.specs.{declared.trailer.Trails.{Trails, TheVariants.{On}}, Chunks.{trail}, Sizes.{size_in}, Reading.{Kind, Requests, Responses, Reading, Heading, Counts, Runs, Sizing, Chunk, ChunkEnd, ChunkReturn, Trailing, Whole, Done, Failed, Token, Byte, Step, Move, Goes, EndsHead, EndsLine, Stays, quiet, counts, chunk, body, after_line, after_trail, begins_head, move_of, Makes, Leads}, Taking.{stretch, goes_on, byte_tokens}, Inputs.{Next, Waits, Reports, Brings, Ends, Fails, step_of, body_behind, brought, reported_or, next_in}, NextParts.{StandsNext}}
use Rattle.hc_msg.proofs.{Leading.{leads_on, leads_byte, stays_failed, reports_on}, Sizes.{size_in_is}, Bytes.{counts_some, counts_on, chunk_on, runs_on}}

-- STEPS

-- the move has a step
abbrev HasStep : Move → Type 0
HasStep Stays = ⊥
HasStep _ = Unit {0}

makes_step : (move : Move) → HasStep move → Makes move (step_of move)
makes_step (Goes step) h = refl
makes_step (EndsHead Requests text) h = (asked_in text, asked_in_is text, refl)
makes_step (EndsHead (Responses nb) text) h = (heard_in nb text, heard_in_is nb text, refl)
makes_step (EndsLine text) h = (size_in text, size_in_is text, refl)
makes_step Stays h = absurd h

-- one token at most
abbrev IsShort : List Token → Type 0
IsShort [] = Unit {0}
IsShort (token ∷ []) = Unit {0}
IsShort (token ∷ next ∷ more) = ⊥

-- not behind the end
abbrev IsBefore : Reading → Type 0
IsBefore Done = ⊥
IsBefore _ = Unit {0}

record IsFair (step : Step) : Type 0 where
  short : IsShort step.tokens
  before : IsBefore step.next

choice : {A : Type 0} (P : A → Type 0) (b : Bool) (x y : A) → P x → P y → P (if b then x else y)
choice P true x y hx hy = hx
choice P false x y hx hy = hy

counts_before : (left : ℕ) → IsBefore (counts left)
counts_before left = choice IsBefore (left == 0) Whole (Counts left) tt tt

chunk_before : (left : ℕ) → IsBefore (chunk left)
chunk_before left = choice IsBefore (left == 0) ChunkEnd (Chunk left) tt tt

body_before : (f : Framing) → IsBefore (body f)
body_before (framing.Counted n) = counts_before n
body_before _ = tt

line_fair : (size : Option ℕ) → IsFair (after_line size)
line_fair size = grind (arith, nat_tests)

trail_fair : (trails : Trails) → IsFair (after_trail trails)
trail_fair (On place count) = record { short = tt; before = tt }
trail_fair _ = record { short = tt; before = tt }

-- the step that a move is, where it has one
record IsFairMove (move : Move) : Type 0 where
  goes : HasStep move
  fair : IsFair (step_of move)

head_fair : (kind : Kind) (text : List ℕ) → IsFairMove (EndsHead kind text)
head_fair kind text = grind (arith, nat_tests)

quiet_fair : (t : Reading) → IsBefore t → IsFairMove (Goes (quiet t))
quiet_fair t h = record { goes = tt; fair = record { short = tt; before = h } }

byte_fair : (b : ℕ) (t : Reading) → IsBefore t → IsFairMove (Goes (record { tokens = Byte b ∷ []; next = t }))
byte_fair b t h = record { goes = tt; fair = record { short = tt; before = h } }

move_fair : (s : Reading) (b : ℕ) → goes_on s ≡ true → IsFairMove (move_of s b)
unfolding move_of
move_fair (Heading kind scan text) b on =
    choice IsFairMove (nat_lt (length text) 32768) _ _
    (choice IsFairMove (not (begins_head kind (text ++ b ∷ []))) _ _ (quiet_fair _ tt)
    (choice IsFairMove (is_open (scan_byte scan b)) _ _ (quiet_fair _ tt) (head_fair kind (text ++ b ∷ []))))
    (quiet_fair _ tt)
move_fair (Counts left) b on = byte_fair b _ (counts_before (left - 1))
move_fair Runs b on = byte_fair b _ tt
move_fair (Sizing text) b on =
    choice IsFairMove (nat_lt (length text) 1024) _ _
    (choice IsFairMove (b == 10) _ _ (record { goes = tt; fair = line_fair (size_in (text ++ b ∷ [])) }) (quiet_fair _ tt))
    (quiet_fair _ tt)
move_fair (Chunk left) b on = byte_fair b _ (chunk_before (left - 1))
move_fair ChunkEnd b on = record { goes = tt; fair = choice IsFair (b == 13) _ _ (record { short = tt; before = tt }) (record { short = tt; before = tt }) }
move_fair ChunkReturn b on = record { goes = tt; fair = choice IsFair (b == 10) _ _ (record { short = tt; before = tt }) (record { short = tt; before = tt }) }
move_fair (Trailing place count) b on = record { goes = tt; fair = trail_fair (trail place count b) }
move_fair (Failed e) b on = quiet_fair _ tt
move_fair _ b on = let never : false ≡ true = on in absurd cc

-- WHAT STANDS NEXT

-- behind a byte that tells nothing
passes_stands : (most : ℕ) (s : Reading) (b : ℕ) (input : List ℕ) (t : Reading) (n : Next) → Leads s (b ∷ []) [] t → IsBefore t →
    StandsNext most t input n → StandsNext most s (b ∷ input) n
passes_stands most s b input t (Waits u) on before (inl h) = inl (leads_on s (b ∷ []) input [] [] t u on h.0, h.1)
passes_stands most s b input t (Waits u) on before (inr h) = absurd (subst IsBefore h.0 before)
passes_stands most s b input t (Reports token u rest) on before h = record {
  front = b ∷ h.front;
  whole = ap (λ (l : List ℕ). b ∷ l) h.whole;
  reports = reports_on s t u (b ∷ []) h.front token on h.reports;
}
passes_stands most s b input t (Brings bytes u rest) on before h = record {
  front = b ∷ h.front;
  mid = h.mid;
  whole = ap (λ (l : List ℕ). b ∷ l) h.whole;
  passes = leads_on s (b ∷ []) h.front [] [] t h.mid on h.passes;
  longest = h.longest;
  gives = h.gives;
}
passes_stands most s b input t Ends on before h = record {
  front = b ∷ h.front;
  rest = h.rest;
  whole = ap (λ (l : List ℕ). b ∷ l) h.whole;
  ends = leads_on s (b ∷ []) h.front [] [] t Whole on h.ends;
}
passes_stands most s b input t (Fails e) on before h = leads_on s (b ∷ []) input [] [] t (Failed e) on h

step_stands : (most : ℕ) (s : Reading) (b : ℕ) (input : List ℕ) (tokens : List Token) (t : Reading) →
    Makes (move_of s b) (record { tokens = tokens; next = t }) → IsShort tokens → IsBefore t
    → StandsNext most t input (next_in most t input) → StandsNext most s (b ∷ input) (reported_or tokens t input (λ r. next_in most r input))
step_stands most s b input [] t makes short before h =
    passes_stands most s b input t (next_in most t input) (leads_byte s b (record { tokens = []; next = t }) makes) before h
step_stands most s b input (token ∷ []) t makes short before h = record {
  front = b ∷ [];
  whole = refl;
  reports = record {
    before = [];
    last = b;
    mid = s;
    whole = refl;
    passes = (refl, refl);
    reports =
        leads_byte s b (record { tokens = token ∷ []; next = t }) makes;
  };
}
step_stands most s b input (token ∷ next ∷ more) t makes short before h = absurd short

made_stands : (most : ℕ) (s : Reading) (b : ℕ) (input : List ℕ) → goes_on s ≡ true → ((t : Reading) → StandsNext most t input (next_in most t input))
    → StandsNext most s (b ∷ input) (reported_or (step_of (move_of s b)).tokens (step_of (move_of s b)).next input (λ r. next_in most r input))
made_stands most s b input on h =
    let fair = move_fair s b on in
    step_stands most s b input (step_of (move_of s b)).tokens (step_of (move_of s b)).next (makes_step (move_of s b) fair.goes) fair.fair.short
    fair.fair.before (h (step_of (move_of s b)).next)

-- within a body
body_stands : (most n : ℕ) (s : Reading) (input : List ℕ) → n ≡ min most (stretch s (length input)) → n ≤ length input →
    Leads s (take n input) (byte_tokens (take n input)) (body_behind s n) → StandsNext most s input (brought s n input)
body_stands most n s input count fits leads =
    let same : take n input ++ drop n input ≡ input = take-append-drop n input in
    let len : length (take n input) ≡ n = length-take n input ∙ omega (arith, fits) in
    record {
      front = [];
      mid = s;
      whole = same;
      passes = (refl, refl);
      longest = len ∙ count ∙ ap (λ (l : List ℕ). min most (stretch s (length l))) (sym same);
      gives = leads;
    }

counted_leads : (left n : ℕ) (input : List ℕ) → 0 < left → n ≤ left → n ≤ length input →
    Leads (Counts left) (take n input) (byte_tokens (take n input)) (counts (left - n))
counted_leads left n input some low fits =
    let len : length (take n input) ≡ n = length-take n input ∙ omega (arith, fits) in
    rw (counts_some left some, len) at (counts_on (take n input) left (omega (arith, len, low)))

chunk_leads : (left n : ℕ) (input : List ℕ) → 0 < left → n ≤ left → n ≤ length input →
    Leads (Chunk left) (take n input) (byte_tokens (take n input)) (chunk (left - n))
chunk_leads left n input some low fits =
    let len : length (take n input) ≡ n = length-take n input ∙ omega (arith, fits) in
    rw len at (chunk_on (take n input) left (omega (arith, len, low)) some)

pub stands_next : (most : ℕ) (s : Reading) (input : List ℕ) → StandsNext most s input (next_in most s input)
unfolding next_in
stands_next most Whole [] = record { front = []; rest = []; whole = refl; ends = (refl, refl) }
stands_next most Done [] = inr (refl, refl)
stands_next most (Failed e) [] = (refl, refl)
stands_next most (Heading kind scan text) (b ∷ input) = made_stands most (Heading kind scan text) b input refl (λ t. stands_next most t input)
stands_next most (Counts left) (b ∷ input) = elim (cases_Bool (nat_lt 0 (min left 1))) [
  | inl inside ↦ (let some = ltb-true 0 (min left 1) inside in
      let n = min most (min left (length input + 1)) in
      let low : n ≤ left = omega arith in
      let fits : n ≤ length (b ∷ input) = omega arith in
      rw inside (body_stands most n (Counts left) (b ∷ input) (omega arith) fits (counted_leads left n (b ∷ input) (omega (arith, some)) low fits)))
  | inr out ↦ rw out (made_stands most (Counts left) b input refl (λ t. stands_next most t input))
]
stands_next most Runs (b ∷ input) = body_stands most (min most (length input + 1)) Runs (b ∷ input) (omega arith) (omega arith) (runs_on _)
stands_next most (Sizing text) (b ∷ input) = made_stands most (Sizing text) b input refl (λ t. stands_next most t input)
stands_next most (Chunk left) (b ∷ input) = elim (cases_Bool (nat_lt 0 (min left 1))) [
  | inl inside ↦ (let some = ltb-true 0 (min left 1) inside in
      let n = min most (min left (length input + 1)) in
      let low : n ≤ left = omega arith in
      let fits : n ≤ length (b ∷ input) = omega arith in
      rw inside (body_stands most n (Chunk left) (b ∷ input) (omega arith) fits (chunk_leads left n (b ∷ input) (omega (arith, some)) low fits)))
  | inr out ↦ rw out (made_stands most (Chunk left) b input refl (λ t. stands_next most t input))
]
stands_next most ChunkEnd (b ∷ input) = made_stands most ChunkEnd b input refl (λ t. stands_next most t input)
stands_next most ChunkReturn (b ∷ input) = made_stands most ChunkReturn b input refl (λ t. stands_next most t input)
stands_next most (Trailing place count) (b ∷ input) = made_stands most (Trailing place count) b input refl (λ t. stands_next most t input)
stands_next most Whole (b ∷ input) = record { front = []; rest = b ∷ input; whole = refl; ends = (refl, refl) }
stands_next most Done (b ∷ input) = inr (refl, refl)
stands_next most (Failed e) (b ∷ input) = stays_failed e (b ∷ input)
stands_next most _ [] = inl ((refl, refl), refl)
