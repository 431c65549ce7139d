-- What the code makes of the first bytes of a piece is where they lead.
--
-- Where the first bytes of a piece lead is known; here what the code answers is put beside that, case by case. A head
-- is whole, refused, too long or open (`head_moves`, `head_fails`, `head_long`, `head_open`); a chunk line the same. Of
-- a body some bytes are given. A head that is skipped tells nothing, and one that is shown is told at its last byte
-- (`shown_moves`). `gives_on` has the work of calls that follow: first what was passed, then what this one gives.
use Rattle.std.{proofs.{lemmas.{Bool.Decides.{nat_tests}, List.{take_all, take-append-drop}}, Common.{◌≡◌, ℕ, ◌+◌, ◌-◌, ◌<◌, ◌≤◌, ◌==◌, Bool, true, List, [], ◌∷◌, ◌++◌, length, take, drop, get_or, refl, sym, ap, subst, ◌∙◌, inl, inr, arith, length-take, length-drop, take-add}}, specs.Prelude.{◌⊎◌, min, OnOk, Option, Some, None, Result, Ok, Err}}
use Rattle.hc_msg.specs.{declared.{answer.{Moved.{Moved}, State.{State}}, trailer.Trailer.{Trailer}, message.WirePart.{WirePart}}, Chunks.{LineSays, IsLongLine, trail}, Reading.{Reading, Responses, Heading, Failed, Counts, Runs, Sizing, Chunk, ChunkEnd, ChunkReturn, Trailing, counts, chunk, reading_of_chunk, after_line, Answers, after_heard, body, quiet, fails, Makes, move_of, Leads}, Taking.{reading_by, Moves, Takes, Completes, Replied, Enters, IsPieceOf, Expects, TrailMoves}}
use Rattle.hc_msg.specs.declared.answer.Moved.TheVariants as moved
use Rattle.hc_head.specs.{declared.{message.MsgError.{MsgError}, response.ParsedHead.{ParsedHead}, scan.Scan.{Scan}}, Scans.{is_open, IsHeadEnd, StaysOpen, IsLineBefore}, Finding.{IsLong}, Responses.{HeadOutcome, Shows, IsHeardIn}, Replies.{Hears}}
use Rattle.hc_head.specs.declared.message.MsgError.TheVariants as error
use Rattle.hc_msg.specs.declared.message.WirePart.TheVariants as part
use Rattle.hc_head.specs.declared.response.ParsedHead.TheVariants as reply
use Rattle.hc_text.specs.Texts.{lacks}
use Rattle.hc_msg.specs.declared.answer.State.TheVariants as state
use Rattle.hc_msg.proofs.{Leading.{leads_on, leads_byte, stays_failed, reports_on}, Bytes.{heading_on, heading_ends, heading_reports, heading_long, line_on, line_ends, line_long, counts_on, counts_some, chunk_on, runs_on}}

-- a whole head
heard_leads : (nb : Bool) (scan : Scan) (held rest : List ℕ) (n : ℕ) (heard : HeadOutcome) → IsHeadEnd scan rest n → length held + n ≤ 32768
    → IsHeardIn nb (held ++ take n rest) heard
    → Leads (Heading (Responses nb) scan held) (take n rest) (after_heard nb heard).tokens (after_heard nb heard).next
heard_leads nb scan held rest n heard ends short comes =
    heading_ends (Responses nb) scan held rest n (after_heard nb heard) ends short refl (heard, comes, refl)

no_error : {A : Type 0} (e : MsgError) (value : A) → Ok value ≡ Err e → ⊥
no_error e value same = cc

shown_moves : (nb : Bool) (scan : Scan) (held rest : List ℕ) (n most : ℕ) (rep : ParsedHead) (made : Moved) (t : Reading) (heard : HeadOutcome) →
    IsHeadEnd scan rest n → length held + n ≤ 32768 → n ≤ length rest
    → Hears (Ok rep) heard → IsHeardIn nb (held ++ take n rest) heard → Enters nb rep n made t
    → Moves (Heading (Responses nb) scan held) rest most (Ok made) t
shown_moves nb scan held rest n most reply.Skips made t heard ends short within hears comes enters =
    let leads = heard_leads nb scan held rest n heard ends short comes in
    rw (enters.0, enters.1) (omega (arith, ends.len), within, rw hears at leads)
shown_moves nb scan held rest n most (reply.Shows response framing) made t heard ends short within hears comes enters =
    let shows = rw hears at comes in
    let shown = heading_reports (Responses nb) scan held rest n (Answers response) (body framing) ends short refl (Shows response framing, shows, refl) in
    rw (enters.0, enters.1) (within, shown)

pub head_moves : (nb : Bool) (scan : Scan) (held rest : List ℕ) (n most : ℕ) (rep : ParsedHead) (result : Result ParsedHead MsgError) (made : Moved)
    (t : Reading) → IsHeadEnd scan rest n → length held + n ≤ 32768 → n ≤ length rest
    → Replied nb (held ++ take n rest) result → result ≡ Ok rep → Enters nb rep n made t → Moves (Heading (Responses nb) scan held) rest most (Ok made) t
head_moves nb scan held rest n most rep result made t ends short within (inl failed) is enters = absurd (no_error error.NoMemory rep (sym is ∙ failed))
head_moves nb scan held rest n most rep result made t ends short within (inr tokens) is enters =
    shown_moves nb scan held rest n most rep made t tokens.heard ends short within
    (subst (λ (r : Result ParsedHead MsgError). Hears r tokens.heard) is tokens.hears) tokens.comes enters

refused_fails : (nb : Bool) (scan : Scan) (held rest : List ℕ) (n most : ℕ) (e : MsgError) (t : Reading) (heard : HeadOutcome) → IsHeadEnd scan rest n →
    length held + n ≤ 32768
    → Hears (Err e) heard → IsHeardIn nb (held ++ take n rest) heard → Moves (Heading (Responses nb) scan held) rest most (Err e) t
refused_fails nb scan held rest n most e t heard ends short (inr memory) comes = inl memory
refused_fails nb scan held rest n most e t heard ends short (inl refused) comes =
    let s = Heading (Responses nb) scan held in
    let leads = heard_leads nb scan held rest n heard ends short comes in
    let failed = rw refused at leads in
    inr (subst (λ (l : List ℕ). Leads s l [] (Failed e)) (take-append-drop n rest)
    (leads_on s (take n rest) (drop n rest) [] [] (Failed e) (Failed e) failed (stays_failed e (drop n rest))))

pub head_fails : (nb : Bool) (scan : Scan) (held rest : List ℕ) (n most : ℕ) (e f : MsgError) (result : Result ParsedHead MsgError) (t : Reading) →
    IsHeadEnd scan rest n → length held + n ≤ 32768
    → Replied nb (held ++ take n rest) result → result ≡ Err e → f ≡ e → Moves (Heading (Responses nb) scan held) rest most (Err f) t
head_fails nb scan held rest n most e f result t ends short (inl failed) is same =
    let memory : e ≡ error.NoMemory = cc in
    inl (same ∙ memory)
head_fails nb scan held rest n most e f result t ends short (inr tokens) is same =
    rw same
    (refused_fails nb scan held rest n most e t tokens.heard ends short (subst (λ (r : Result ParsedHead MsgError). Hears r tokens.heard) is tokens.hears)
    tokens.comes)

pub head_long : (nb : Bool) (scan : Scan) (held rest : List ℕ) (most : ℕ) (e : MsgError) (t : Reading) → e ≡ error.HeadTooLong → IsLong (length held) scan rest
    → Moves (Heading (Responses nb) scan held) rest most (Err e) t
head_long nb scan held rest most e t same long = inr (rw same (heading_long (Responses nb) scan held rest long refl))

pub head_open : (nb : Bool) (scan next : Scan) (held rest grown : List ℕ) (most : ℕ) → StaysOpen scan rest next → length held + length rest ≤ 32768 →
    grown ≡ held ++ rest → 0 < length rest
    → Moves (Heading (Responses nb) scan held) rest most (Ok (moved.Passes (length rest))) (Heading (Responses nb) next grown)
head_open nb scan next held rest grown most stays short grows some =
    let s = Heading (Responses nb) scan held in
    let leads = heading_on (Responses nb) rest scan held (ap is_open (sym stays.leads) ∙ stays.still_open) short refl in
    (some, omega arith, rw (take_all (length rest) rest (omega arith), grows, stays.leads) leads)

-- chunk lines
pub line_too_long : (held rest : List ℕ) (most : ℕ) (e : MsgError) (t : Reading) → e ≡ error.BadChunk → IsLongLine (length held) rest →
    Moves (Sizing held) rest most (Err e) t
line_too_long held rest most e t same long = inr (rw same (line_long held rest long))

pub line_stays : (held rest grown : List ℕ) (most : ℕ) (t : Reading) → lacks 10 rest ≡ true → length held + length rest ≤ 1024 → grown ≡ held ++ rest →
    t ≡ Sizing grown → 0 < length rest
    → Moves (Sizing held) rest most (Ok (moved.Passes (length rest))) t
line_stays held rest grown most t line short grows there some =
    (some, omega arith, rw (take_all (length rest) rest (omega arith), there, grows) (line_on rest held line short))

line_leads : (held rest : List ℕ) (at : ℕ) (size : Option ℕ) → IsLineBefore rest at → length held + (at + 1) ≤ 1024 → LineSays (held ++ take (at + 1) rest) size
    → Leads (Sizing held) (take (at + 1) rest) (after_line size).tokens (after_line size).next
line_leads held rest at size line short says = line_ends held rest at (after_line size) line short (size, says, refl)

pub line_bad : (held rest : List ℕ) (at most : ℕ) (t : Reading) → IsLineBefore rest at → length held + (at + 1) ≤ 1024 →
    LineSays (held ++ take (at + 1) rest) None
    → Moves (Sizing held) rest most (Err error.BadChunk) t
line_bad held rest at most t line short says =
    inr (subst (λ (l : List ℕ). Leads (Sizing held) l [] (Failed error.BadChunk)) (take-append-drop (at + 1) rest)
    (leads_on (Sizing held) (take (at + 1) rest) (drop (at + 1) rest) [] [] (Failed error.BadChunk) (Failed error.BadChunk)
    (line_leads held rest at None line short says) (stays_failed error.BadChunk (drop (at + 1) rest))))

pub line_moves : (held rest : List ℕ) (at most size : ℕ) (t : Reading) → IsLineBefore rest at → length held + (at + 1) ≤ 1024 → at < length rest →
    LineSays (held ++ take (at + 1) rest) (Some size) → t ≡ reading_of_chunk size
    → Moves (Sizing held) rest most (Ok (moved.Passes (at + 1))) t
line_moves held rest at most size t line short within says there =
    (omega arith, omega arith, rw there (line_leads held rest at (Some size) line short says))

-- bodies
pub counted_moves : (left most n : ℕ) (rest : List ℕ) (made : Moved) (t : Reading) → 0 < left → 0 < length rest → 0 < most → n ≡ min
    most (min left (length rest))
    → made ≡ moved.Gives n (part.Piece (take n rest)) → t ≡ counts (left - n) → Moves (Counts left) rest most (Ok made) t
counted_moves left most n rest made t some here much count is there =
    let len : length (take n rest) ≡ n = length-take n rest ∙ omega arith in
    let leads = rw (counts_some left some, len) at (counts_on (take n rest) left (omega (arith, len))) in
    rw (is, there) (omega arith, (refl, omega arith, count, leads))

pub chunk_moves : (left most n : ℕ) (rest : List ℕ) (made : Moved) (t : Reading) → 0 < left → 0 < length rest → 0 < most → n ≡ min most (min left (length rest))
    → made ≡ moved.Gives n (part.Piece (take n rest)) → t ≡ chunk (left - n) → Moves (Chunk left) rest most (Ok made) t
chunk_moves left most n rest made t some here much count is there =
    let len : length (take n rest) ≡ n = length-take n rest ∙ omega arith in
    let leads = rw len at (chunk_on (take n rest) left (omega (arith, len)) some) in
    rw (is, there) (omega arith, (refl, omega arith, count, leads))

pub run_moves : (most n : ℕ) (rest : List ℕ) (result : Result Moved MsgError) → 0 < length rest → 0 < most → n ≡ min (length rest) most →
    IsPieceOf rest n result → Moves Runs rest most result Runs
run_moves most n rest (Ok made) here much count is =
    rw is (omega arith, (refl, omega arith, omega arith, runs_on (take n rest)))
run_moves most n rest (Err e) here much count is = inl is

-- single bytes
first_byte : (rest : List ℕ) → 0 < length rest → take 1 rest ≡ get_or rest 0 0 ∷ []
first_byte rest some = grind (arith, nat_tests)

split_first : (rest : List ℕ) → 0 < length rest → rest ≡ get_or rest 0 0 ∷ drop 1 rest
split_first rest some = grind (arith, nat_tests)

pub byte_passes : (s t : Reading) (rest : List ℕ) (most : ℕ) → 0 < length rest → Makes (move_of s (get_or rest 0 0)) (quiet t) →
    Moves s rest most (Ok (moved.Passes 1)) t
byte_passes s t rest most some makes =
    (omega arith, omega arith, subst (λ (l : List ℕ). Leads s l [] t) (sym (first_byte rest some)) (leads_byte s (get_or rest 0 0) (quiet t) makes))

pub byte_fails : (s t : Reading) (rest : List ℕ) (most : ℕ) (e : MsgError) → 0 < length rest → Makes (move_of s (get_or rest 0 0)) (fails e) →
    Moves s rest most (Err e) t
byte_fails s t rest most e some makes =
    inr (subst (λ (l : List ℕ). Leads s l [] (Failed e)) (sym (split_first rest some)) (fails e, [], makes, stays_failed e (drop 1 rest), refl))

pub chunk_end_moves : (nb : Bool) (next : State) (held rest : List ℕ) (most : ℕ) (result : Result Moved MsgError) → 0 < length rest →
    Expects (get_or rest 0 0 == 13) result
    → OnOk result (next ≡ state.ChunkReturn) → Moves ChunkEnd rest most result (reading_by nb next held)
unfolding move_of
chunk_end_moves nb next held rest most (Ok made) some expects there =
    rw (expects.1, there) (byte_passes ChunkEnd ChunkReturn rest most some (rw expects.0 refl))
chunk_end_moves nb next held rest most (Err e) some expects there =
    rw expects.1 (byte_fails ChunkEnd (reading_by nb next held) rest most error.BadChunk some (rw expects.0 refl))

pub chunk_return_moves : (nb : Bool) (next : State) (held rest : List ℕ) (most : ℕ) (result : Result Moved MsgError) → 0 < length rest →
    Expects (get_or rest 0 0 == 10) result
    → OnOk result (next ≡ state.Sizing) → held ≡ [] → Moves ChunkReturn rest most result (reading_by nb next held)
unfolding move_of
chunk_return_moves nb next held rest most (Ok made) some expects there none =
    rw (expects.1, there, none) (byte_passes ChunkReturn (Sizing []) rest most some (rw expects.0 refl))
chunk_return_moves nb next held rest most (Err e) some expects there none =
    rw expects.1 (byte_fails ChunkReturn (reading_by nb next held) rest most error.BadChunk some (rw expects.0 refl))

pub trail_moves : (place : Trailer) (count : ℕ) (rest : List ℕ) (most : ℕ) (result : Result Moved MsgError) (t : Reading) → 0 < length rest
    → TrailMoves (trail place count (get_or rest 0 0)) result t → Moves (Trailing place count) rest most result t
unfolding move_of
trail_moves place count rest most (Ok made) t some tokens =
    rw tokens.0 (byte_passes (Trailing place count) t rest most some (sym tokens.1))
trail_moves place count rest most (Err e) t some tokens =
    byte_fails (Trailing place count) t rest most e some (sym tokens.1)

-- calls that follow one another
further : (piece : List ℕ) (used n : ℕ) → take (used + n) piece ≡ take used piece ++ take n (drop used piece)
further piece used n = take-add used n piece

pub passes_on : (s mid t : Reading) (piece : List ℕ) (used n : ℕ) → Leads s (take used piece) [] mid → Leads mid (take n (drop used piece)) [] t →
    Leads s (take (used + n) piece) [] t
passes_on s mid t piece used n before behind =
    rw (further piece used n) (leads_on s (take used piece) (take n (drop used piece)) [] [] mid t before behind)

pub gives_on : (s mid t : Reading) (piece : List ℕ) (used n most : ℕ) (p : WirePart) → used ≤ length piece → Leads s (take used piece) [] mid
    → Moves mid (drop used piece) most (Ok (moved.Gives n p)) t → (used + n ≤ length piece) × Completes s piece most (used + n) (Some p) t
gives_on s mid t piece used n most (part.Head response) within before moves = (
  omega (arith, moves.0, length-drop used piece),
  rw (further piece used n) (reports_on s mid t (take used piece) (take n (drop used piece)) (Answers response) before moves.1),
)
gives_on s mid t piece used n most (part.Piece bytes) within before moves =
    let len : length (take n (drop used piece)) ≡ n = length-take n (drop used piece) ∙ omega (arith, moves.0) in
    let same : length bytes ≡ n = ap length moves.1.0 ∙ len in (
      omega (arith, moves.0, length-drop used piece),
      record {
        before = used;
        mid = mid;
        used_is = omega (arith, same);
        passes = before;
        bytes_are = moves.1.0 ∙ ap (λ (k : ℕ). take k (drop used piece)) (sym same);
        some = omega (arith, same, moves.1.1);
        longest = same ∙ moves.1.2;
        gives = rw moves.1.0 moves.1.3;
      },
    )
gives_on s mid t piece used n most part.End within before moves = absurd moves.1

pub fails_on : (s mid : Reading) (piece : List ℕ) (used : ℕ) (e : MsgError) → Leads s (take used piece) [] mid →
    (e ≡ error.NoMemory) ⊎ Leads mid (drop used piece) [] (Failed e)
    → (e ≡ error.NoMemory) ⊎ Leads s piece [] (Failed e)
fails_on s mid piece used e before (inl memory) = inl memory
fails_on s mid piece used e before (inr failed) =
    inr (subst (λ (l : List ℕ). Leads s l [] (Failed e)) (take-append-drop used piece)
    (leads_on s (take used piece) (drop used piece) [] [] mid (Failed e) before failed))

pub failed_takes : (s : Reading) (e : MsgError) (piece : List ℕ) (most : ℕ) (t : Reading) → Failed e ≡ s → Takes s piece most (Err e) t
failed_takes s e piece most t same = inr (subst (λ (r : Reading). Leads r piece [] (Failed e)) same (stays_failed e piece))
