-- What a text leads to that is handed in by pieces.
--
-- Entries that were stepped behind others lead as far as all of them, and the report of all is both reports (`leads-append`,
-- `report-append`). A reading that is stopped brings nothing more, so its number of entries counts for nothing (`same_numbers`).
-- By these two pieces are as one (`pieces_as_one`). A report that is numbered from 1 is that of the steps (`from_first`). A text
-- that isn't refused spells items, so it is stepped through to its end (`stepped_through`).
-- What was answered in one way was answered in each weaker one (`brings_by`), and what each answer leaves is left (`leads_keep`).
use Rattle.std.proofs.{Common.{◌≡◌, ℕ, ◌+◌, List, [], ◌∷◌, ◌++◌, length, Some, true, false, refl, sym, ap, ◌∙◌, inl, inr, arith, append_assoc, length-append}, lemmas.{Bool.{cases_Bool}, List.{append-nil}}}
use Rattle.hc_event.specs.declared.{event.Event.{Event}, act.Act.{Act}}
use Rattle.hc_sched.specs.{declared.schedule.Timed.{Timed}, Reading.{Progress, Reads, Stopped, Spent, take_byte, after, events_in, refusal_at}, Report.{entry_text}}
use Rattle.hc_sched.proofs.{FeedLemmas.{after-append, after-stopped, events_in-append, events_in-stopped}, OneReading.{is_read, is_spelled}}
use Rattle.hc_driver.specs.Courses as courses
use Rattle.hc_driver.specs.Stepping as steps
use Rattle.hc_driver.specs.{Endings.{done}, Stepping.{Entry, History, report_of, Leads, nothing, more, Reports, never, wholly}}
use Rattle.hc_piecewise.specs.Texts.{is_reading, report_from, Brings, ArePiecesAsOne, IsSteppedThrough}

-- A READING THAT IS STOPPED

after-spent : (text : List ℕ) → after Spent text ≡ Spent
unfolding take_byte
after-spent [] = refl
after-spent (b ∷ text) = after-spent text

events_in-spent : (text : List ℕ) → events_in Spent text ≡ []
unfolding take_byte
events_in-spent [] = refl
events_in-spent (b ∷ text) = events_in-spent text

pub stays : (p : Progress) (text : List ℕ) → is_reading p ≡ false → after p text ≡ p
stays (Reads place line) text off = absurd (let never : true ≡ false = off in cc)
stays (Stopped r) text off = after-stopped r text
stays Spent text off = after-spent text

pub brings_none : (p : Progress) (text : List ℕ) → is_reading p ≡ false → events_in p text ≡ []
brings_none (Reads place line) text off = absurd (let never : true ≡ false = off in cc)
brings_none (Stopped r) text off = events_in-stopped r text
brings_none Spent text off = events_in-spent text

read_before : (p q : Progress) (text : List ℕ) → after p text ≡ q → is_reading q ≡ true → is_reading p ≡ true
read_before p q text leads on = elim (cases_Bool (is_reading p)) [
  | inl was ↦ was
  | inr off ↦ absurd (let never : false ≡ true = sym off ∙ (ap is_reading (sym (stays p text off) ∙ leads) ∙ on) in cc)
]

-- ENTRIES BEHIND OTHERS

pub length-events : (h : History) → length (steps.events_in h) ≡ length h
length-events [] = refl
length-events (e ∷ h) = let before = length-events h in let push = length-append (steps.events_in h) (e.timed ∷ []) in omega (arith, before, push)

none_left : (h : History) → length h ≡ 0 → h ≡ []
none_left [] is = refl
none_left (e ∷ h) is = absurd (omega (arith, is))

pub no_entries : (h : History) → steps.events_in h ≡ [] → h ≡ []
no_entries h is = let count = length-events h in let none : length (steps.events_in h) ≡ 0 = ap length is in none_left h (omega (arith, count, none))

events-append : (h g : History) → steps.events_in (h ++ g) ≡ steps.events_in g ++ steps.events_in h
events-append [] g = sym (append-nil (steps.events_in g))
events-append (e ∷ h) g =
    ap (λ (l : List Timed). l ++ e.timed ∷ []) (events-append h g) ∙ append_assoc (steps.events_in g) (steps.events_in h) (e.timed ∷ [])

report-append : (n : ℕ) (h g : History) → report_from n (h ++ g) ≡ report_from n g ++ report_from (n + length g) h
report-append n [] g = sym (append-nil (report_from n g))
report-append n (e ∷ h) g =
    let len = length-append h g in
    let at : n + length (h ++ g) + 1 ≡ n + length g + length h + 1 = omega (arith, len) in
    ap (λ (l : List ℕ). l ++ entry_text (n + length (h ++ g) + 1) e.acts) (report-append n h g)
    ∙ (ap (λ (k : ℕ). (report_from n g ++ report_from (n + length g) h) ++ entry_text k e.acts) at
    ∙ append_assoc (report_from n g) (report_from (n + length g) h) (entry_text (n + length g + length h + 1) e.acts))

-- the report of all entries is numbered from 1
pub from_first : (h : History) → report_from 0 h ≡ report_of h
from_first [] = refl
from_first (e ∷ h) =
    let at : 0 + length h + 1 ≡ length h + 1 = omega arith in
    ap (λ (l : List ℕ). l ++ entry_text (0 + length h + 1) e.acts) (from_first h) ∙ ap (λ (k : ℕ). report_of h ++ entry_text k e.acts) at

module _ {A : Type 0} (answers : A → ℕ → Event → List Act → A → Type 0) where
  leads-append : (a b c : A) (h g : History) → Leads answers a g b → Leads answers b h c → Leads answers a (h ++ g) c
  leads-append a b _ _ g first nothing = first
  leads-append a b _ _ g first (more h e t u leads answered) = more (h ++ g) e t u (leads-append a b t h g first leads) answered

  pub leads_keep : (P : A → Type 0) → ((s : A) (now : ℕ) (event : Event) (acts : List Act) (u : A) → answers s now event acts u → P u)
      → (a b : A) (h : History) → P a → Leads answers a h b → P b
  leads_keep P so a _ _ first nothing = first
  leads_keep P so a _ _ first (more h e t u leads answered) = so t e.timed.now e.timed.event e.acts u answered

  -- TWO PIECES

  module _ (n m k : ℕ) (p q r : Progress) (xs ys first second : List ℕ) (a b c : A) (one : Brings answers n m p q xs first a b)
      (two : Brings answers m k q r ys second b c) where
    same_numbers : report_from m two.entries ≡ report_from (n + length one.entries) two.entries
    same_numbers = elim (cases_Bool (is_reading q)) [
      | inl on ↦ ap (λ (j : ℕ). report_from j two.entries) (one.number on)
      | inr off ↦
          let none = no_entries two.entries (two.events_are ∙ brings_none q ys off) in
          ap (report_from m) none ∙ sym (ap (report_from (n + length one.entries)) none)
    ]

    both : Brings answers n k p r (xs ++ ys) (first ++ second) a c
    both = record {
      entries = two.entries ++ one.entries;
      events_are = events-append two.entries one.entries
          ∙ (ap (λ (l : List Timed). l ++ steps.events_in two.entries) one.events_are
          ∙ (ap (λ (l : List Timed). events_in p xs ++ l) two.events_are
          ∙ (ap (λ (s : Progress). events_in p xs ++ events_in s ys) (sym one.progress) ∙ sym (events_in-append p xs ys))));
      leads = leads-append a b c two.entries one.entries one.leads two.leads;
      report_is = ap (λ (l : List ℕ). l ++ second) one.report_is
          ∙ (ap (λ (l : List ℕ). report_from n one.entries ++ l) (two.report_is ∙ same_numbers) ∙ sym (report-append n two.entries one.entries));
      progress = after-append p xs ys ∙ (ap (λ (s : Progress). after s ys) one.progress ∙ two.progress);
      number = λ on.
          let m_is = one.number (read_before q r ys two.progress on) in
          let k_is = two.number on in
          let len = length-append two.entries one.entries in
          omega (arith, m_is, k_is, len);
    }

  pub pieces_as_one : ArePiecesAsOne answers
  pieces_as_one n m k p q r xs ys first second a b c one two = both n m k p q r xs ys first second a b c one two

  -- A WHOLE TEXT

  pub stepped_through : (spent : A → A → Type 0) → IsSteppedThrough answers spent
  stepped_through spent moment m q text report a b brings none =
      let spelled = is_spelled moment text (ap refusal_at brings.progress ∙ none) in
      let events = (is_read moment text spelled.0 spelled.1).1 in
      done text spelled.0 (refl, refl) spelled.1
      (wholly brings.entries (brings.events_are ∙ events) brings.leads (ap (λ (l : List ℕ). Some l) (brings.report_is ∙ from_first brings.entries)))

  -- AS A COURSE

  -- these entries have that course
  record Stepped (n : ℕ) (s u : A) (h : courses.History) : Type 0 where
    entries : History
    leads : Leads answers s entries u
    events_are : steps.events_in entries ≡ courses.events_in h
    report_is : report_from n entries ≡ courses.text_of h
    length_is : length entries ≡ length h

  stepped : (n : ℕ) (s u : A) (h : courses.History) → courses.Leads (Reports answers) never n s h u → Stepped n s u h
  stepped n s _ _ courses.nothing = record { entries = []; leads = nothing; events_are = refl; report_is = refl; length_is = refl }
  stepped n s _ _ (courses.more h e t u leads is_open reported) =
      let first = stepped n s t h leads in
      let entry : Entry = record { timed = e.timed; acts = reported.acts } in
      let number : n + length first.entries + 1 ≡ n + length h + 1 = let same = first.length_is in omega arith in
      let text : entry_text (n + length first.entries + 1) reported.acts ≡ e.text =
      ap (λ (k : ℕ). entry_text k reported.acts) number ∙ sym reported.text_is in
      record {
        entries = entry ∷ first.entries;
        leads = more first.entries entry t u first.leads reported.answered;
        events_are = ap (λ (l : List Timed). l ++ e.timed ∷ []) first.events_are;
        report_is = ap (λ (l : List ℕ). l ++ entry_text (n + length first.entries + 1) reported.acts) first.report_is
            ∙ ap (λ (l : List ℕ). courses.text_of h ++ l) text;
        length_is = let same = first.length_is in omega arith;
      }

  pub brings_course : (n m : ℕ) (p q : Progress) (text report : List ℕ) (a b : A) (h : courses.History) → courses.events_in h ≡ events_in p text
      → courses.Leads (Reports answers) never n a h b → report ≡ courses.text_of h → after p text ≡ q
      → (is_reading q ≡ true → m ≡ n + length (events_in p text)) → Brings answers n m p q text report a b
  brings_course n m p q text report a b h are leads report_is progress number =
      let by = stepped n a b h leads in
      record {
        entries = by.entries;
        events_are = by.events_are ∙ are;
        leads = by.leads;
        report_is = report_is ∙ sym by.report_is;
        progress = progress;
        number = λ on.
            let m_is = number on in
            let count = length-events by.entries in
            let same : length (steps.events_in by.entries) ≡ length (events_in p text) = ap length (by.events_are ∙ are) in
            omega (arith, m_is, count, same);
      }

-- IN ANOTHER WAY

module _ {A B : Type 0} (answers : A → ℕ → Event → List Act → A → Type 0) (replies : B → ℕ → Event → List Act → B → Type 0) (view : A → B)
    (so : (s : A) (now : ℕ) (event : Event) (acts : List Act) (u : A) → answers s now event acts u → replies (view s) now event acts (view u)) where
  leads_by : (a b : A) (h : History) → Leads answers a h b → Leads replies (view a) h (view b)
  leads_by a _ _ nothing = nothing
  leads_by a _ _ (more h e t u leads answered) =
      more h e (view t) (view u) (leads_by a t h leads) (so t e.timed.now e.timed.event e.acts u answered)

  pub brings_by : (n m : ℕ) (p q : Progress) (text report : List ℕ) (a b : A) → Brings answers n m p q text report a b
      → Brings replies n m p q text report (view a) (view b)
  brings_by n m p q text report a b brings = record {
    entries = brings.entries;
    events_are = brings.events_are;
    leads = leads_by a b brings.entries brings.leads;
    report_is = brings.report_is;
    progress = brings.progress;
    number = brings.number;
  }
