-- A schedule goes on by a piece.
--
-- A schedule that isn't refused may go on: what its next piece brings may be stepped (`may_read` and so on). So it is of a new one
-- (`goes_first`), since a text brings no more than it has bytes, and behind a piece (`goes_more`): the rest of a text brings what the
-- whole text brings but for its first part. Where it was refused before, a piece brings nothing (`stepped_none`). Else it brings
-- what its events lead to, one after another (`stepped_on`).
use Rattle.std.{proofs.{Common.{◌≡◌, ℕ, ◌+◌, ◌<◌, ◌≤◌, ◌^◌, List, [], ◌++◌, length, Option, Some, None, Result, Ok, Err, true, false, refl, sym, ap, subst, ◌∙◌, inl, inr, arith, length-append}, lemmas.Bool.{cases_Bool}, Math.{Bridge.{le_prop}, Logic.{∥∥₁_elim}}, Props.{props}}, specs.Prelude.{is_some}}
use Rattle.hc_event.specs.declared.{event.Event.{Event}, act.Act.{Act}}
use Rattle.hc_sched.specs.{declared.{place.Place.{Place}, schedule.{Refused.{Refused}, Timed.{Timed}}}, Reading.{Progress, Reads, Stopped, Spent, after, events_in, beginning, is_between}, Feeding.{lines_in, ending, progress_at_end}, Laws.{AreTimed}}
use Rattle.hc_sched.specs.declared.schedule.FeedError.TheVariants as error
use Rattle.hc_sched.proofs.{FeedLemmas.{after-stopped, events_in-stopped, events_in-append}, OneReading.{brings_timed}}
use Rattle.hc_driver.specs.{declared.stop.Stop.{Stop}, Counting.{size_of, last_moment}, Endings.{IsReading, Wholly}, Pieces.{Passes}, Stepping.{Reports, never}}
use Rattle.hc_driver.specs.declared.stop.Stop.TheVariants as stop
use Rattle.hc_driver.specs.Courses as courses
use Rattle.hc_driver.specs.Stepping as steps
use Rattle.hc_driver.proofs.{Sizes.{size_of-append, brought_small, brought_few}, Timings.{timed_from, timed_back}}
use Rattle.hc_piecewise.specs.{declared.schedule.Schedule.{Schedule}, Texts.{Brings, is_reading}, Schedules.{progress_of, progress_in, entries_in, given_in, refusal_in, GoesOn, MayGoOn}}
use Rattle.hc_piecewise.proofs.{Props.{AreTimed-prop}, Texts.{brings_course}}

-- READING

pub no_refusal : (o : Option Refused) → is_some o ≡ false → o ≡ None
no_refusal None off = refl
no_refusal (Some r) off = absurd (let never : true ≡ false = off in cc)

pub some_refusal : (o : Option Refused) → is_some o ≡ true → (r : Refused) × (o ≡ Some r)
some_refusal None on = absurd (let never : false ≡ true = on in cc)
some_refusal (Some r) on = (r, refl)

pub some_not_none : (o : Option Refused) (r : Refused) → o ≡ Some r → o ≡ None → ⊥
some_not_none o r some none = let never : true ≡ false = sym (ap is_some some) ∙ ap is_some none in cc

pub reads : (p : Progress) → is_reading p ≡ true → IsReading p
reads (Reads place line) on = (place, line, refl)
reads (Stopped r) on = absurd (let never : false ≡ true = on in cc)
reads Spent on = absurd (let never : false ≡ true = on in cc)

pub reads_so : (p : Progress) → IsReading p → is_reading p ≡ true
reads_so p reading = ap is_reading reading.2

-- the end of a text that is read
module _ (place : Place) (line : List ℕ) where
  pub at_end : ending (Reads place line) ≡ Ok tt → progress_at_end (Reads place line) ≡ Reads place line
  at_end is = elim (cases_Bool (is_between place line)) [
    | inl rest ↦ rw rest refl
    | inr more ↦ absurd (let is' = rw more at is in cc)
  ]

  pub never_spent : ending (Reads place line) ≡ Err error.NoMemory → ⊥
  never_spent is = elim (cases_Bool (is_between place line)) [
    | inl rest ↦ let is' = rw rest at is in cc
    | inr more ↦ let is' = rw more at is in cc
  ]

pub stays_at_end : (p : Progress) → is_reading p ≡ true → ending p ≡ Ok tt → progress_at_end p ≡ p
stays_at_end (Reads place line) on is = at_end place line is
stays_at_end (Stopped r) on is = absurd (let never : false ≡ true = on in cc)
stays_at_end Spent on is = absurd (let never : false ≡ true = on in cc)

pub no_want : (p : Progress) → is_reading p ≡ true → ending p ≡ Err error.NoMemory → ⊥
no_want (Reads place line) on is = never_spent place line is
no_want (Stopped r) on is = let never : false ≡ true = on in cc
no_want Spent on is = let never : false ≡ true = on in cc

-- WHAT MAY GO ON

module _ (moment steps received : ℕ) (s : Schedule) (may : ∥ MayGoOn moment steps received s ∥₁) (none : refusal_in s ≡ None) where
  pub may_read : is_reading s.feed ≡ true
  may_read = ∥∥₁_elim may (Prim.hlevel props) (λ k. (k.0 none).reading)

  pub may_lines : lines_in s.feed ≤ 2 ^ 60
  may_lines = ∥∥₁_elim may le_prop (λ k. let lines = (k.0 none).lines in let few = k.1 in omega arith)

  pub may_timed : (piece : List ℕ) → AreTimed moment (events_in s.feed piece)
  may_timed piece = ∥∥₁_elim may (AreTimed-prop moment (events_in s.feed piece)) (λ k. (k.0 none).timed piece)

  pub may_numbered : entries_in s ≤ steps
  may_numbered = ∥∥₁_elim may le_prop (λ k. (k.0 none).numbered)

  module _ (piece : List ℕ) (few : given_in s + length piece ≤ 2 ^ 60) where
    pub more_lines : lines_in s.feed + length piece ≤ 2 ^ 60
    more_lines = ∥∥₁_elim may le_prop (λ k. let lines = (k.0 none).lines in omega (arith, lines, few))

    pub more_small : steps + received + size_of (events_in s.feed piece) ≤ 2 ^ 60
    more_small = ∥∥₁_elim may le_prop (λ k. let small = (k.0 none).small piece in omega (arith, small, few))

    pub more_few : steps + length (events_in s.feed piece) ≤ 2 ^ 59
    more_few = ∥∥₁_elim may le_prop (λ k. let count = (k.0 none).few piece in omega (arith, count, few))

-- at the beginning
pub goes_first : (moment last steps received : ℕ) (s : Schedule) → moment < 2 ^ 62 → s.feed ≡ beginning moment → entries_in s ≡ 0 → last ≤ moment →
    steps + received ≡ 0 → GoesOn last steps received s
goes_first moment last steps received s small first zero le none = record {
  reading = ap is_reading first;
  timed = λ piece. subst (λ (p : Progress). AreTimed last (events_in p piece)) (sym first)
      (timed_from moment last (events_in (beginning moment) piece) le (brings_timed moment piece small));
  small = λ piece.
      let brought = brought_small moment piece in
      let same : size_of (events_in s.feed piece) ≡ size_of (events_in (beginning moment) piece) = ap (λ (p : Progress). size_of (events_in p piece)) first in
      omega (arith, brought, same, none);
  few = λ piece.
      let brought = brought_few moment piece in
      let same : length (events_in s.feed piece) ≡ length (events_in (beginning moment) piece) = ap (λ (p : Progress). length (events_in p piece)) first in
      omega (arith, brought, same, none);
  lines = (let same : lines_in s.feed ≡ 0 = ap lines_in first in omega (arith, same));
  numbered = omega (arith, zero);
}

-- behind a piece
module _ (m n r m' n' r' : ℕ) (s t : Schedule) (piece : List ℕ) (on : GoesOn m n r s) (leads : after s.feed piece ≡ t.feed) (reading : IsReading t.feed)
    (lines : lines_in t.feed ≤ lines_in s.feed + length piece) (given : given_in t ≡ given_in s + length piece)
    (steps : n' ≡ n + length (events_in s.feed piece)) (size : n' + r' ≡ n + r + size_of (events_in s.feed piece))
    (last : m' ≡ last_moment m (events_in s.feed piece)) (number : entries_in t ≡ entries_in s + length (events_in s.feed piece)) where
  parts : (q : List ℕ) → events_in s.feed (piece ++ q) ≡ events_in s.feed piece ++ events_in t.feed q
  parts q = events_in-append s.feed piece q ∙ ap (λ (p : Progress). events_in s.feed piece ++ events_in p q) leads

  pub goes_more : GoesOn m' n' r' t
  goes_more = record {
    reading = reads_so t.feed reading;
    timed = λ q. rw last (timed_back m (events_in s.feed piece) (events_in t.feed q)
        (subst (λ (l : List Timed). AreTimed m l) (parts q) (on.timed (piece ++ q))));
    small = λ q.
        let all = on.small (piece ++ q) in
        let len = length-append piece q in
        let sizes : size_of (events_in s.feed (piece ++ q)) ≡ size_of (events_in s.feed piece) + size_of (events_in t.feed q) = ap size_of (parts q) ∙
        size_of-append (events_in s.feed piece) (events_in t.feed q) in
        omega (arith, all, len, sizes, size, given);
    few = λ q.
        let all = on.few (piece ++ q) in
        let len = length-append piece q in
        let counts : length (events_in s.feed (piece ++ q)) ≡ length (events_in s.feed piece) + length (events_in t.feed q) = ap length (parts q) ∙
        length-append (events_in s.feed piece) (events_in t.feed q) in
        omega (arith, all, len, counts, steps, given);
    lines = (let before = on.lines in omega (arith, before, lines, given));
    numbered = (let before = on.numbered in omega (arith, before, number, steps));
  }

-- WHERE IT STANDS

-- a schedule that may go on and isn't refused is read on
pub reads_in : (moment steps received : ℕ) (s : Schedule) → ∥ MayGoOn moment steps received s ∥₁ → refusal_in s ≡ None → is_reading (progress_in s) ≡ true
reads_in moment steps received s may none =
    ap (λ (o : Option Refused). is_reading (progress_of o s.feed)) none ∙ may_read moment steps received s may none

pub stopped_in : (s : Schedule) (r : Refused) → refusal_in s ≡ Some r → progress_in s ≡ Stopped r
stopped_in s r is = ap (λ (o : Option Refused). progress_of o s.feed) is

-- WHAT WAS STEPPED

module _ {A : Type 0} (answers : A → ℕ → Event → List Act → A → Type 0) (spent : A → A → Type 0) (s : Schedule) (piece : List ℕ) (m : ℕ) (q : Progress)
    (report : List ℕ) where
  pub stepped_none : (a : A) → is_some s.stopped ≡ true → q ≡ progress_in s → report ≡ [] → Brings answers (entries_in s) m (progress_in s) q piece report a a
  stepped_none a on same none =
      let some = some_refusal s.stopped on in
      let at : progress_in s ≡ Stopped some.0 = stopped_in s some.0 some.1 in
      record {
        entries = [];
        events_are = sym (ap (λ (p : Progress). events_in p piece) at ∙ events_in-stopped some.0 piece);
        leads = steps.nothing;
        report_is = none;
        progress = ap (λ (p : Progress). after p piece) at ∙ (after-stopped some.0 piece ∙ (sym at ∙ sym same));
        number = λ on. absurd (let never : false ≡ true = sym (ap is_reading (same ∙ at)) ∙ on in cc);
      }

  pub stepped_on : (a b : A) (out new : List ℕ) (next : Progress) → s.stopped ≡ None → out ≡ [] → after s.feed piece ≡ next
      → courses.Goes (Reports answers) never spent (entries_in s) a b (Some out) (Some new) Wholly (events_in s.feed piece)
      → report ≡ new → next ≡ q → (is_reading q ≡ true → m ≡ entries_in s + length (events_in s.feed piece)) →
      Brings answers (entries_in s) m (progress_in s) q piece report a b
  stepped_on a b out new next none empty leads (courses.wholly h are led is_open taken) told now number =
      let at : progress_in s ≡ s.feed = ap (λ (o : Option Refused). progress_of o s.feed) none in
      let events : events_in s.feed piece ≡ events_in (progress_in s) piece = ap (λ (p : Progress). events_in p piece) (sym at) in
      brings_course answers (entries_in s) m (progress_in s) q piece report a b h (are ∙ events) led
      (told ∙ (some_is taken ∙ ap (λ (l : List ℕ). l ++ courses.text_of h) empty)) (ap (λ (p : Progress). after p piece) at ∙ (leads ∙ now))
      (λ on. number on ∙ ap (λ (l : List Timed). entries_in s + length l) events)
    where
      value_of : Option (List ℕ) → List ℕ
      value_of None = []
      value_of (Some l) = l

      some_is : {x y : List ℕ} → Some x ≡ Some y → x ≡ y
      some_is e = ap value_of e

  pub stepped_refused : (a b : A) (out new : List ℕ) (feed : Progress) (result : Result (Unit {0}) Stop) (r : Refused) → result ≡ Err (stop.Refused r) →
      s.stopped ≡ None → out ≡ []
      → Passes (courses.Goes (Reports answers) never spent (entries_in s) a b (Some out) (Some new)) s.feed piece feed result → report ≡ new → q ≡ Stopped r →
      Brings answers (entries_in s) m (progress_in s) q piece report a b
  stepped_refused a b out new feed result r is none empty passes told at =
      let went =
      subst (λ (x : Result (Unit {0}) Stop). Passes (courses.Goes (Reports answers) never spent (entries_in s) a b (Some out) (Some new)) s.feed piece feed x)
      is passes in
      stepped_on a b out new (Stopped r) none empty went.0 went.1 told (sym at) (λ on. absurd (let no : false ≡ true = sym (ap is_reading at) ∙ on in cc))
