-- A text is read piece by piece.
--
-- Text that goes on is read on from where it stood (`after-append`, `events_in-append`). A whole line comes to what its
-- bytes come to one by one (`line_passes`): it grows until it is too long, which stops both alike. The same is shown of
-- the end of a piece without a line feed (`line_grows`, `line_too_long`). By these a loop over lines keeps what is read
-- (`Still-next`). It ends where a line is refused (`Still-refused`), or for want of memory (`Still-spent`).
use Rattle.std.proofs.{Common.{◌≡◌, ℕ, ◌+◌, ◌<◌, ◌≤◌, ◌==◌, true, not, List, [], ◌∷◌, ◌++◌, length, Some, Result, Err, refl, sym, ap, ◌∙◌, inl, inr, arith, append_assoc, length-append, lt-ltb}, lemmas.{Bool.{cases_lt, and_parts, le-ltb, not-true}, List.{append-nil}}}
use Rattle.hc_text.specs.Texts.{lacks}
use Rattle.hc_sched.specs.{declared.{place.Place.{Place}, reader.Reader.{Reader}, schedule.{FeedError.{FeedError}, Refused.{Refused}, Timed.{Timed}}}, Reading.{Progress, Reads, Stopped, Step, refuse, quiet, take_line, take_byte, after, events_in}, Feeding.{join_line, AddsFirst, ReadsOn, Feeds, AnswersAgain, progress_of}, Taking.{Does, Takes}}
use Rattle.hc_sched.specs.declared.schedule.FeedError.TheVariants as error
use Rattle.hc_sched.specs.declared.schedule.SchedRefusal.TheVariants as why

-- A refused text stays so.

pub after-stopped : (r : Refused) (text : List ℕ) → after (Stopped r) text ≡ Stopped r
unfolding take_byte
after-stopped r [] = refl
after-stopped r (b ∷ text) = after-stopped r text

pub events_in-stopped : (r : Refused) (text : List ℕ) → events_in (Stopped r) text ≡ []
unfolding take_byte
events_in-stopped r [] = refl
events_in-stopped r (b ∷ text) = events_in-stopped r text

-- A text that goes on.

pub after-append : (s : Progress) (xs ys : List ℕ) → after s (xs ++ ys) ≡ after (after s xs) ys
after-append s [] ys = refl
after-append s (b ∷ xs) ys = after-append (take_byte s b).next xs ys

pub events_in-append : (s : Progress) (xs ys : List ℕ) → events_in s (xs ++ ys) ≡ events_in s xs ++ events_in (after s xs) ys
events_in-append s [] ys = refl
events_in-append s (b ∷ xs) ys =
    ap (λ (l : List Timed). (take_byte s b).events ++ l) (events_in-append (take_byte s b).next xs ys)
    ∙ sym (append_assoc (take_byte s b).events (events_in (take_byte s b).next xs) (events_in (after (take_byte s b).next xs) ys))

-- One byte.

byte_feed : (p : Place) (line : List ℕ) → take_byte (Reads p line) 10 ≡ take_line p line
unfolding take_byte
byte_feed p line = refl

byte_grows : (p : Place) (line : List ℕ) (b : ℕ) → not (b == 10) ≡ true → length line < 140000 → take_byte (Reads p line) b ≡ quiet (Reads p (line ++ b ∷ []))
unfolding take_byte
byte_grows p line b other lt = rw (not-true (b == 10) other, lt-ltb (length line) 140000 lt) refl

byte_passes : (p : Place) (line : List ℕ) (b : ℕ) → not (b == 10) ≡ true → 140000 ≤ length line → take_byte (Reads p line) b ≡ refuse p why.LineTooLong
unfolding take_byte
byte_passes p line b other le = rw (not-true (b == 10) other, le-ltb (length line) 140000 le) refl

pub join_short : (p : Place) (line : List ℕ) → length line ≤ 140000 → join_line p line ≡ take_line p line
unfolding join_line
join_short p line le = rw (le-ltb 140000 (length line) le) refl

join_long : (p : Place) (line : List ℕ) → 140000 < length line → join_line p line ≡ refuse p why.LineTooLong
unfolding join_line
join_long p line lt = rw (lt-ltb 140000 (length line) lt) refl

-- The bytes of a whole line.

joined : (line seg : List ℕ) (b : ℕ) → (line ++ b ∷ []) ++ seg ≡ line ++ b ∷ seg
joined line seg b = append_assoc line (b ∷ []) seg

-- the reading after a line, and the events that it brings
pub record Passes (p : Place) (line text rest : List ℕ) (step : Step) : Type 0 where
  pub leads : after (Reads p line) text ≡ after step.next rest
  pub brings : events_in (Reads p line) text ≡ step.events ++ events_in step.next rest

stops_here : (p : Place) (line seg rest : List ℕ) (b : ℕ) → not (b == 10) ≡ true → 140000 ≤ length line →
    Passes p line (b ∷ seg) rest (refuse p why.LineTooLong)
stops_here p line seg rest b other le =
    let step = byte_passes p line b other le in
    let r : Refused = record { line = p.lines + 1; why = why.LineTooLong } in
    search (arith, after-stopped, events_in-stopped)

pub line_passes : (p : Place) (line seg rest : List ℕ) → lacks 10 seg ≡ true → length line ≤ 140000
    → Passes p line (seg ++ 10 ∷ rest) rest (join_line p (line ++ seg))
line_passes p line [] rest none le =
    let whole : join_line p (line ++ []) ≡ take_line p line = ap (join_line p) (append-nil line) ∙ join_short p line le in
    let step = byte_feed p line ∙ sym whole in
    search arith
line_passes p line (b ∷ seg) rest none le =
    let parts = and_parts (not (b == 10)) (lacks 10 seg) none in
    elim (cases_lt (length line) 140000) [
      | inl lt ↦
          let step = byte_grows p line b parts.0 lt in
          let more = line_passes p (line ++ b ∷ []) seg rest parts.1 (omega (arith, length-append line (b ∷ []))) in
          let same = ap (join_line p) (joined line seg b) in
          record {
            leads = ap (λ (s : Step). after s.next (seg ++ 10 ∷ rest)) step ∙ (more.leads ∙ ap (λ (s : Step). after s.next rest) same);
            brings = ap (λ (s : Step). s.events ++ events_in s.next (seg ++ 10 ∷ rest)) step ∙
                (more.brings ∙ ap (λ (s : Step). s.events ++ events_in s.next rest) same);
          }
      | inr full ↦
          let long = join_long p (line ++ b ∷ seg) (omega (arith, length-append line (b ∷ seg))) in
          let stops = stops_here p line (seg ++ 10 ∷ rest) rest b parts.0 full in
          record {
            leads = stops.leads ∙ ap (λ (s : Step). after s.next rest) (sym long);
            brings = stops.brings ∙ ap (λ (s : Step). s.events ++ events_in s.next rest) (sym long);
          }
    ]

-- The bytes of a line that isn't finished.

pub record Leads (s : Progress) (text : List ℕ) (t : Progress) : Type 0 where
  pub leads : after s text ≡ t
  pub none : events_in s text ≡ []

pub line_grows : (p : Place) (line seg : List ℕ) → lacks 10 seg ≡ true → length (line ++ seg) ≤ 140000 → Leads (Reads p line) seg (Reads p (line ++ seg))
line_grows p line [] none le = record { leads = ap (Reads p) (sym (append-nil line)); none = refl }
line_grows p line (b ∷ seg) none le =
    let parts = and_parts (not (b == 10)) (lacks 10 seg) none in
    let step = byte_grows p line b parts.0 (omega (arith, length-append line (b ∷ seg))) in
    let more = line_grows p (line ++ b ∷ []) seg parts.1 (rw (joined line seg b) le) in
    search (arith, joined)

pub line_too_long : (p : Place) (line seg : List ℕ) → lacks 10 seg ≡ true → length line ≤ 140000 → 140000 < length (line ++ seg)
    → Leads (Reads p line) seg (Stopped (record { line = p.lines + 1; why = why.LineTooLong }))
line_too_long p line [] none le long = absurd (omega (arith, ap length (append-nil line)))
line_too_long p line (b ∷ seg) none le long =
    let parts = and_parts (not (b == 10)) (lacks 10 seg) none in
    elim (cases_lt (length line) 140000) [
      | inl lt ↦
          let step = byte_grows p line b parts.0 lt in
          let more = line_too_long p (line ++ b ∷ []) seg parts.1 (omega (arith, length-append line (b ∷ []))) (rw (joined line seg b) long) in
          record {
            leads = ap (λ (s : Step). after s.next seg) step ∙ more.leads;
            none = ap (λ (s : Step). s.events ++ events_in s.next seg) step ∙ more.none;
          }
      | inr full ↦
          let stops = stops_here p line seg [] b parts.0 full in
          record { leads = stops.leads; none = stops.brings }
    ]

-- The loop of a reader.

-- what was read of a piece, and what is left of it
pub record Still (start : Progress) (piece : List ℕ) (old : List Timed) (p : Place) (line rest : List ℕ) (out : List Timed) : Type 0 where
  pub some : List Timed
  pub leads : after start piece ≡ after (Reads p line) rest
  pub brings : events_in start piece ≡ some ++ events_in (Reads p line) rest
  pub adds : out ≡ old ++ some

module _ (start : Progress) (piece : List ℕ) (old : List Timed) where
  -- one line more
  pub Still-next : (p q : Place) (line seg rest text : List ℕ) (out more : List Timed) → Still start piece old p line text out → lacks 10 seg ≡ true
      → length line ≤ 140000 → seg ++ 10 ∷ rest ≡ text → Does (join_line p (line ++ seg)) q out more → Still start piece old q [] rest more
  Still-next p q line seg rest text out more h none le is does =
      let passes = rw is at (line_passes p line seg rest none le) in
      let step = join_line p (line ++ seg) in
      let next : step.next ≡ Reads q [] = does.next in
      record {
        some = h.some ++ step.events;
        leads = h.leads ∙ (passes.leads ∙ ap (λ (s : Progress). after s rest) next);
        brings =
            h.brings ∙ (ap (λ (l : List Timed). h.some ++ l) (passes.brings ∙ ap (λ (s : Progress). step.events ++ events_in s rest) next)
            ∙ sym (append_assoc h.some step.events (events_in (Reads q []) rest)));
        adds = does.adds ∙ (ap (λ (l : List Timed). l ++ step.events) h.adds ∙ append_assoc old h.some step.events);
      }

  -- the line is refused
  pub Still-refused : (p q : Place) (line seg rest text : List ℕ) (out new : List Timed) (r : Refused) → Still start piece old p line text out →
      lacks 10 seg ≡ true
      → length line ≤ 140000 → seg ++ 10 ∷ rest ≡ text → Takes (join_line p (line ++ seg)) (Err (error.Refused r)) q out new →
      ReadsOn start piece (Stopped r) old new
  Still-refused p q line seg rest text out new r h none le is takes =
      let passes = rw is at (line_passes p line seg rest none le) in
      let step = join_line p (line ++ seg) in
      let next : step.next ≡ Stopped r = takes.0 in
      let quiet_ : step.events ++ events_in step.next rest ≡ [] =
      ap (λ (l : List Timed). l ++ events_in step.next rest) takes.1 ∙ (ap (λ (s : Progress). events_in s rest) next ∙ events_in-stopped r rest) in
      record {
        leads = h.leads ∙ (passes.leads ∙ (ap (λ (s : Progress). after s rest) next ∙ after-stopped r rest));
        adds = takes.2 ∙ (h.adds ∙
            ap (λ (l : List Timed). old ++ l) (sym (h.brings ∙ (ap (λ (l : List Timed). h.some ++ l) (passes.brings ∙ quiet_) ∙ append-nil h.some))));
      }

  -- memory was refused
  pub Still-spent : (p : Place) (line text : List ℕ) (out new : List Timed) → Still start piece old p line text out → new ≡ out → AddsFirst start piece old new
  Still-spent p line text out new h same =
      record { some = h.some; rest = events_in (Reads p line) text; whole = sym h.brings; adds = same ∙ h.adds }

  Still-error : (p q : Place) (line seg rest text : List ℕ) (out new : List Timed) (e : FeedError) (s : Progress) →
      Still start piece old p line text out → lacks 10 seg ≡ true
      → length line ≤ 140000 → seg ++ 10 ∷ rest ≡ text → Takes (join_line p (line ++ seg)) (Err e) q out new → Feeds start piece (Err e) s old new
  Still-error p q line seg rest text out new (error.Refused r) s h none le is takes = Still-refused p q line seg rest text out new r h none le is takes
  Still-error p q line seg rest text out new error.NoMemory s h none le is takes = Still-spent p line text out new h takes

  -- an error at a line is the reader's
  pub Still-fails : (p q : Place) (line seg rest text : List ℕ) (out new : List Timed) (e : FeedError) (taken given : Result (Unit {0}) FeedError)
      (s : Progress)
      → Still start piece old p line text out → lacks 10 seg ≡ true → length line ≤ 140000 → seg ++ 10 ∷ rest ≡ text
      → Takes (join_line p (line ++ seg)) taken q out new → taken ≡ Err e → given ≡ Err e → Feeds start piece given s old new
  Still-fails p q line seg rest text out new e taken given s h none le is takes was same =
      rw same (Still-error p q line seg rest text out new e s h none le is (rw was at takes))

-- The ends of a reader's work.

pub ReadsOn-from : (s t : Progress) (text : List ℕ) → Leads s text t → ReadsOn s text t [] []
ReadsOn-from s t text h = record { leads = h.leads; adds = sym h.none }

-- an error is answered again
pub feeds_again : (e : FeedError) (reader : Reader) (s : Progress) (piece : List ℕ) (old : List Timed) → progress_of (Some e) reader ≡ s →
    Feeds s piece (Err e) s old old
feeds_again (error.Refused r) reader s piece old is =
    rw (← is) (record {
      leads = after-stopped r piece;
      adds = sym (ap (λ (l : List Timed). old ++ l) (events_in-stopped r piece) ∙ append-nil old);
    })
feeds_again error.NoMemory reader s piece old is = record { some = []; rest = events_in s piece; whole = refl; adds = sym (append-nil old) }

pub answers_again : (e : FeedError) (reader : Reader) (s : Progress) → progress_of (Some e) reader ≡ s → AnswersAgain s (Err e)
answers_again (error.Refused r) reader s is = rw (← is) refl
answers_again error.NoMemory reader s is = rw (← is) refl
