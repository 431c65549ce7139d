-- Where bytes lead within heads, chunk lines and bodies.
--
-- Each part goes byte by byte. Within a head bytes tell nothing while its end is open (`heading_on`), and the last one
-- tells it (`heading_ends`); `heading_cut` takes a head apart into these. A head that is too long, or with which none
-- begins, leads to its error. Chunk lines go the same way up to a line feed (`line_on`, `line_ends`). Bytes of a body
-- are told as they are (`counts_on`, `chunk_on`, `runs_on`). What the code makes of a piece is compared with these.
use Rattle.std.{proofs.{lemmas.{Bool.{cases_Bool, and_parts, ne_eqb, le-ltb, Decides.{nat_tests}}, List.{append-nil, take_at}}, Common.{◌≡◌, ℕ, suc, ◌+◌, ◌-◌, ◌<◌, ◌≤◌, ◌==◌, true, false, true≢false, inl, inr, List, [], ◌∷◌, ◌++◌, length, take, refl, sym, ap, subst, ◌∙◌, arith, append_assoc, length-append, lt-ltb}}, specs.Prelude.{not, map}}
use Rattle.hc_text.specs.Texts.{lacks}
use Rattle.hc_head.specs.declared.message.MsgError.TheVariants as error
use Rattle.hc_head.specs.{declared.scan.Scan.{Scan, TheVariants.{Ended}}, Scans.{scan_byte, scan_all, is_open, IsHeadEnd, IsLineBefore}, Finding.{IsLong}}
use Rattle.hc_msg.specs.{Reading.{Kind, Requests, Responses, Reading, Heading, Counts, Runs, Sizing, Chunk, Failed, Byte, Step, quiet, fails, counts, chunk, begins_head, move_of, HeadMakes, LineMakes, Makes, Leads, ReportsAtLast, Token}, Chunks.{IsLongLine}}
use Rattle.hc_head.proofs.{ScanLemmas.{not_equal}, Starts.{begins_front}}
use Rattle.hc_msg.proofs.Leading.{leads_on, leads_byte, stays_failed}

pub open_before : (scan : Scan) (bytes : List ℕ) → is_open (scan_all scan bytes) ≡ true → is_open scan ≡ true
open_before Ended [] h = h
open_before Ended (b ∷ bytes) h = open_before Ended bytes h
open_before _ bytes h = refl

-- what begins a head begins as it does
head_front : (kind : Kind) (xs ys : List ℕ) → begins_head kind (xs ++ ys) ≡ true → begins_head kind xs ≡ true
head_front Requests xs ys h = begins_front xs ys h
head_front (Responses no_body) xs ys h = refl

goes_in_head : (kind : Kind) (scan : Scan) (text : List ℕ) (b : ℕ) → length text < 32768 → is_open (scan_byte scan b) ≡ true →
    begins_head kind (text ++ b ∷ []) ≡ true
    → Makes (move_of (Heading kind scan text) b) (quiet (Heading kind (scan_byte scan b) (text ++ b ∷ [])))
unfolding move_of
goes_in_head kind scan text b short still begins = rw (lt-ltb (length text) 32768 short, begins, still) refl

ends_head : (kind : Kind) (scan : Scan) (text : List ℕ) (b : ℕ) (step : Step) → length text < 32768 → is_open (scan_byte scan b) ≡ false →
    begins_head kind (text ++ b ∷ []) ≡ true
    → HeadMakes kind (text ++ b ∷ []) step → Makes (move_of (Heading kind scan text) b) step
unfolding move_of
ends_head kind scan text b step short over begins h = rw (lt-ltb (length text) 32768 short, begins, over) h

refuses_head : (kind : Kind) (scan : Scan) (text : List ℕ) (b : ℕ) → length text < 32768 → begins_head kind (text ++ b ∷ []) ≡ false
    → Makes (move_of (Heading kind scan text) b) (fails error.BadHead)
unfolding move_of
refuses_head kind scan text b short never = rw (lt-ltb (length text) 32768 short, never) refl

passes_head : (kind : Kind) (scan : Scan) (text : List ℕ) (b : ℕ) → 32768 ≤ length text → Makes (move_of (Heading kind scan text) b) (fails error.HeadTooLong)
unfolding move_of
passes_head kind scan text b long = rw (le-ltb (length text) 32768 long) refl

pub heading_on : (kind : Kind) (bytes : List ℕ) (scan : Scan) (text : List ℕ) → is_open (scan_all scan bytes) ≡ true →
    length text + length bytes ≤ 32768 → begins_head kind (text ++ bytes) ≡ true
    → Leads (Heading kind scan text) bytes [] (Heading kind (scan_all scan bytes) (text ++ bytes))
heading_on kind [] scan text still short begins = (refl, ap (Heading kind scan) (append-nil text))
heading_on kind (b ∷ bytes) scan text still short begins =
    let next = scan_byte scan b in
    let same : (text ++ b ∷ []) ++ bytes ≡ text ++ (b ∷ bytes) = append_assoc text (b ∷ []) bytes in
    let all : begins_head kind ((text ++ b ∷ []) ++ bytes) ≡ true = ap (begins_head kind) same ∙ begins in
    let rest = heading_on kind bytes next (text ++ b ∷ []) still (simp length-append (omega arith)) all in (
      quiet (Heading kind next (text ++ b ∷ [])),
      [],
      goes_in_head kind scan text b (omega arith) (open_before next bytes still) (head_front kind (text ++ b ∷ []) bytes all),
      subst (λ (t : List ℕ). Leads (Heading kind next (text ++ b ∷ [])) bytes [] (Heading kind (scan_all next bytes) t)) same rest,
      refl,
    )

-- the bytes that a head ends with
pub end_of_head : (scan : Scan) (piece : List ℕ) (n : ℕ) (h : IsHeadEnd scan piece n) → take n piece ≡ h.front ++ 10 ∷ []
end_of_head scan piece n h =
    ap (take n) (sym h.whole ∙ sym (append_assoc h.front (10 ∷ []) h.rest)) ∙ take_at (h.front ++ 10 ∷ []) h.rest n (simp length-append (omega (arith, h.len)))

-- the last byte of a head, and those before it
record IsHeadCut (kind : Kind) (scan : Scan) (text : List ℕ) (head : List ℕ) (step : Step) : Type 0 where
  front : List ℕ
  mid : Reading
  cut : head ≡ front ++ 10 ∷ []
  passes : Leads (Heading kind scan text) front [] mid
  ends : Leads mid (10 ∷ []) step.tokens step.next

heading_cut : (kind : Kind) (scan : Scan) (text piece : List ℕ) (n : ℕ) (step : Step) → IsHeadEnd scan piece n → length text + n ≤ 32768
    → begins_head kind (text ++ take n piece) ≡ true → HeadMakes kind (text ++ take n piece) step → IsHeadCut kind scan text (take n piece) step
heading_cut kind scan text piece n step h short begins makes =
    let last = end_of_head scan piece n h in
    let mid = Heading kind (scan_all scan h.front) (text ++ h.front) in
    let whole : text ++ take n piece ≡ (text ++ h.front) ++ 10 ∷ [] =
    ap (λ (t : List ℕ). text ++ t) last ∙ sym (append_assoc text h.front (10 ∷ [])) in
    let made : HeadMakes kind ((text ++ h.front) ++ 10 ∷ []) step = subst (λ (t : List ℕ). HeadMakes kind t step) whole makes in
    let all : begins_head kind ((text ++ h.front) ++ 10 ∷ []) ≡ true = ap (begins_head kind) (sym whole) ∙ begins in
    record {
      front = h.front;
      mid = mid;
      cut = last;
      passes = heading_on kind h.front scan text h.open_before (omega (arith, h.len)) (head_front kind (text ++ h.front) (10 ∷ []) all);
      ends = leads_byte mid 10 step
          (ends_head kind (scan_all scan h.front) (text ++ h.front) 10 step (simp length-append (omega (arith, h.len))) (ap is_open h.ends) all made);
    }

pub heading_ends : (kind : Kind) (scan : Scan) (text piece : List ℕ) (n : ℕ) (step : Step) → IsHeadEnd scan piece n → length text + n ≤ 32768
    → begins_head kind (text ++ take n piece) ≡ true → HeadMakes kind (text ++ take n piece) step →
    Leads (Heading kind scan text) (take n piece) step.tokens step.next
heading_ends kind scan text piece n step h short begins makes =
    let c = heading_cut kind scan text piece n step h short begins makes in
    rw c.cut (leads_on (Heading kind scan text) c.front (10 ∷ []) [] step.tokens c.mid step.next c.passes c.ends)

-- a head that is told is told at its last byte
pub heading_reports : (kind : Kind) (scan : Scan) (text piece : List ℕ) (n : ℕ) (token : Token) (t : Reading) → IsHeadEnd scan piece n → length text + n ≤ 32768
    → begins_head kind (text ++ take n piece) ≡ true → HeadMakes kind (text ++ take n piece) (record { tokens = token ∷ []; next = t })
    → ReportsAtLast (Heading kind scan text) (take n piece) token t
heading_reports kind scan text piece n token t h short begins makes =
    let c = heading_cut kind scan text piece n (record { tokens = token ∷ []; next = t }) h short begins makes in
    record { before = c.front; last = 10; mid = c.mid; whole = sym c.cut; passes = c.passes; reports = c.ends }

pub heading_long : (kind : Kind) (scan : Scan) (text piece : List ℕ) (h : IsLong (length text) scan piece) → begins_head kind (text ++ h.front) ≡ true
    → Leads (Heading kind scan text) piece [] (Failed error.HeadTooLong)
heading_long kind scan text piece h begins = past h.rest h.some h.whole where
  past : (rest : List ℕ) → 0 < length rest → h.front ++ rest ≡ piece → Leads (Heading kind scan text) piece [] (Failed error.HeadTooLong)
  past [] some whole = absurd (omega arith)
  past (b ∷ rest) some whole =
      let mid = Heading kind (scan_all scan h.front) (text ++ h.front) in
      let on = heading_on kind h.front scan text h.still_open (omega (arith, h.len)) begins in
      let over : Makes (move_of mid b) (fails error.HeadTooLong) =
      passes_head kind (scan_all scan h.front) (text ++ h.front) b (simp length-append (omega (arith, h.len))) in
      rw (← whole) (leads_on (Heading kind scan text) h.front (b ∷ rest) [] [] mid (Failed error.HeadTooLong) on
      (fails error.HeadTooLong, [], over, stays_failed error.HeadTooLong rest, refl))

-- bytes with which no head begins, of which all but the last don't end it
pub heading_refused : (kind : Kind) (bytes : List ℕ) (scan : Scan) (text : List ℕ) → begins_head kind text ≡ true → begins_head kind (text ++ bytes) ≡ false
    → length text + length bytes ≤ 32768 → ((k : ℕ) → k < length bytes → is_open (scan_all scan (take k bytes)) ≡ true)
    → Leads (Heading kind scan text) bytes [] (Failed error.BadHead)
heading_refused kind [] scan text before never short opens =
    absurd (true≢false (sym before ∙ sym (ap (begins_head kind) (append-nil text)) ∙ never))
heading_refused kind (b ∷ []) scan text before never short opens =
    (fails error.BadHead, [], refuses_head kind scan text b (omega arith) never, stays_failed error.BadHead [], refl)
heading_refused kind (b ∷ c ∷ bytes) scan text before never short opens =
    let next = scan_byte scan b in
    let same : (text ++ b ∷ []) ++ (c ∷ bytes) ≡ text ++ (b ∷ c ∷ bytes) = append_assoc text (b ∷ []) (c ∷ bytes) in
    elim (cases_Bool (begins_head kind (text ++ b ∷ []))) [
      | inl on ↦ (let rest = heading_refused kind (c ∷ bytes) next (text ++ b ∷ []) on (ap (begins_head kind) same ∙ never)
          (simp length-append (omega arith)) (λ k lt. opens (suc k) (omega arith)) in
          (quiet (Heading kind next (text ++ b ∷ [])), [], goes_in_head kind scan text b (omega arith) (opens 1 (omega arith)) on, rest, refl))
      | inr off ↦ (fails error.BadHead, [], refuses_head kind scan text b (omega arith) off, stays_failed error.BadHead (c ∷ bytes), refl)
    ]

-- chunk lines
goes_in_line : (text : List ℕ) (b : ℕ) → length text < 1024 → (b == 10) ≡ false → Makes (move_of (Sizing text) b) (quiet (Sizing (text ++ b ∷ [])))
unfolding move_of
goes_in_line text b short other = rw (lt-ltb (length text) 1024 short, other) refl

ends_line : (text : List ℕ) (step : Step) → length text < 1024 → LineMakes (text ++ 10 ∷ []) step → Makes (move_of (Sizing text) 10) step
unfolding move_of
ends_line text step short h = rw (lt-ltb (length text) 1024 short) h

passes_line : (text : List ℕ) (b : ℕ) → 1024 ≤ length text → Makes (move_of (Sizing text) b) (fails error.BadChunk)
unfolding move_of
passes_line text b long = rw (le-ltb (length text) 1024 long) refl

pub line_on : (bytes text : List ℕ) → lacks 10 bytes ≡ true → length text + length bytes ≤ 1024 → Leads (Sizing text) bytes [] (Sizing (text ++ bytes))
line_on [] text h short = (refl, ap Sizing (append-nil text))
line_on (b ∷ bytes) text h short =
    let parts = and_parts (not (b == 10)) (lacks 10 bytes) h in
    let rest = line_on bytes (text ++ b ∷ []) parts.1 (simp length-append (omega arith)) in (
      quiet (Sizing (text ++ b ∷ [])),
      [],
      goes_in_line text b (omega arith) (not_equal b 10 parts.0),
      subst (λ (t : List ℕ). Leads (Sizing (text ++ b ∷ [])) bytes [] (Sizing t)) (append_assoc text (b ∷ []) bytes) rest,
      refl,
    )

pub end_of_line : (piece : List ℕ) (at : ℕ) (h : IsLineBefore piece at) → take (at + 1) piece ≡ h.line ++ 10 ∷ []
end_of_line piece at h =
    ap (take (at + 1)) (sym h.whole ∙ sym (append_assoc h.line (10 ∷ []) h.rest)) ∙
    take_at (h.line ++ 10 ∷ []) h.rest (at + 1) (simp length-append (omega (arith, h.len)))

pub line_ends : (text piece : List ℕ) (at : ℕ) (step : Step) → IsLineBefore piece at → length text + (at + 1) ≤ 1024
    → LineMakes (text ++ take (at + 1) piece) step → Leads (Sizing text) (take (at + 1) piece) step.tokens step.next
line_ends text piece at step h short makes =
    let last = end_of_line piece at h in
    let whole : text ++ take (at + 1) piece ≡ (text ++ h.line) ++ 10 ∷ [] =
    ap (λ (t : List ℕ). text ++ t) last ∙ sym (append_assoc text h.line (10 ∷ [])) in
    let made : LineMakes ((text ++ h.line) ++ 10 ∷ []) step = subst (λ (t : List ℕ). LineMakes t step) whole makes in
    let on = line_on h.line text h.is_line (omega (arith, h.len)) in
    let off = leads_byte (Sizing (text ++ h.line)) 10 step (ends_line (text ++ h.line) step (simp length-append (omega (arith, h.len))) made) in
    rw last (leads_on (Sizing text) h.line (10 ∷ []) [] step.tokens (Sizing (text ++ h.line)) step.next on off)

pub line_long : (text piece : List ℕ) → IsLongLine (length text) piece → Leads (Sizing text) piece [] (Failed error.BadChunk)
line_long text piece h = past h.rest h.some h.whole where
  past : (rest : List ℕ) → 0 < length rest → h.front ++ rest ≡ piece → Leads (Sizing text) piece [] (Failed error.BadChunk)
  past [] some whole = absurd (omega arith)
  past (b ∷ rest) some whole =
      let on = line_on h.front text h.is_line (omega (arith, h.len)) in
      let over : Makes (move_of (Sizing (text ++ h.front)) b) (fails error.BadChunk) =
      passes_line (text ++ h.front) b (simp length-append (omega (arith, h.len))) in
      subst (λ (t : List ℕ). Leads (Sizing text) t [] (Failed error.BadChunk)) whole
      (leads_on (Sizing text) h.front (b ∷ rest) [] [] (Sizing (text ++ h.front)) (Failed error.BadChunk) on
      (fails error.BadChunk, [], over, stays_failed error.BadChunk rest, refl))

-- bodies
pub counts_some : (left : ℕ) → 0 < left → counts left ≡ Counts left
counts_some left some = let none : (left == 0) ≡ false = ne_eqb left 0 (omega arith) in rw none refl

chunk_some : (left : ℕ) → 0 < left → chunk left ≡ Chunk left
chunk_some left some = let none : (left == 0) ≡ false = ne_eqb left 0 (omega arith) in rw none refl

less_none : (n : ℕ) → n - 0 ≡ n
less_none n = omega arith

pub counts_on : (bytes : List ℕ) (left : ℕ) → length bytes ≤ left → Leads (counts left) bytes (map Byte bytes) (counts (left - length bytes))
unfolding move_of
counts_on [] left h = (refl, ap counts (less_none left))
counts_on (b ∷ bytes) left h =
    let same : (left - 1) - length bytes ≡ left - length (b ∷ bytes) = omega arith in
    rw (← sym (counts_some left (omega arith))) (
      record { tokens = Byte b ∷ []; next = counts (left - 1) },
      map Byte bytes,
      refl,
      rw (← same) (counts_on bytes (left - 1) (omega arith)),
      refl,
    )

pub chunk_on : (bytes : List ℕ) (left : ℕ) → length bytes ≤ left → 0 < left → Leads (Chunk left) bytes (map Byte bytes) (chunk (left - length bytes))
unfolding move_of
chunk_on [] left h some = (refl, ap chunk (less_none left) ∙ chunk_some left some)
chunk_on (b ∷ []) left h some = (record { tokens = Byte b ∷ []; next = chunk (left - 1) }, [], refl, (refl, refl), refl)
chunk_on (b ∷ c ∷ bytes) left h some =
    let rest = chunk_on (c ∷ bytes) (left - 1) (omega arith) (omega arith) in
    let same : (left - 1) - length (c ∷ bytes) ≡ left - length (b ∷ c ∷ bytes) = omega arith in
    let moved = subst (λ (n : ℕ). Leads (Chunk (left - 1)) (c ∷ bytes) (map Byte (c ∷ bytes)) (chunk n)) same rest in (
      record { tokens = Byte b ∷ []; next = chunk (left - 1) },
      map Byte (c ∷ bytes),
      refl,
      subst (λ (s : Reading). Leads s (c ∷ bytes) (map Byte (c ∷ bytes)) (chunk (left - length (b ∷ c ∷ bytes))))
          (sym (chunk_some (left - 1) (omega arith))) moved,
      refl,
    )

pub runs_on : (bytes : List ℕ) → Leads Runs bytes (map Byte bytes) Runs
unfolding move_of
runs_on [] = (refl, refl)
runs_on (b ∷ bytes) = (record { tokens = Byte b ∷ []; next = Runs }, map Byte bytes, refl, runs_on bytes, refl)
