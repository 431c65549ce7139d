-- What a text leads to that is handed in by pieces, and that they are as one.
use Rattle.std.specs.Prelude.{◌≡◌, ℕ, ◌+◌, List, [], ◌∷◌, ◌++◌, length, Bool, true, false, Some, None}
use Rattle.hc_event.specs.declared.event.Event.{Event}
use Rattle.hc_event.specs.declared.act.Act.{Act}
use Rattle.hc_sched.specs.declared.schedule.Ended.TheVariants as ended
use Rattle.hc_sched.specs.declared.schedule.Refused.{Refused}
use Rattle.hc_sched.specs.Reading.{Progress, Reads, beginning, after, events_in, refusal_at}
use Rattle.hc_sched.specs.Report.{entry_text}
use Rattle.hc_driver.specs.Endings.{Ends}
use Rattle.hc_driver.specs.Stepping as steps
use Rattle.hc_driver.specs.Stepping.{History, Leads, Steps}

-- the reading isn't stopped
abbrev pub is_reading : Progress → Bool
is_reading (Reads place line) = true
is_reading _ = false

-- the text of each entry, the oldest first, numbered from n + 1 on
abbrev pub report_from : ℕ → History → List ℕ
report_from n [] = []
report_from n (e ∷ h) = report_from n h ++ entry_text (n + length h + 1) e.acts

-- A text led from one reading to another, and its events from the one to the other, each answered in turn. The report is that of
-- the answers, numbered behind n entries. There are m entries then, unless the reading is stopped.
pub record Brings {A : Type 0} (answers : A → ℕ → Event → List Act → A → Type 0) (n m : ℕ) (p q : Progress) (text report : List ℕ) (a b : A) : Type 0 where
  pub entries : History
  pub events_are : steps.events_in entries ≡ events_in p text
  pub leads : Leads answers a entries b
  pub report_is : report ≡ report_from n entries
  pub progress : after p text ≡ q
  pub number : is_reading q ≡ true → m ≡ n + length entries

-- what two pieces bring one after the other they bring as one, and their reports are one report
abbrev pub ArePiecesAsOne : {A : Type 0} → (A → ℕ → Event → List Act → A → Type 0) → Type 0
ArePiecesAsOne {A} answers =
    (n m k : ℕ) (p q r : Progress) (xs ys first second : List ℕ) (a b c : A) → Brings answers n m p q xs first a b →
    Brings answers m k q r ys second b c → Brings answers n k p r (xs ++ ys) (first ++ second) a c

-- What a text brings from its beginning on that isn't refused: it is stepped through to its end, and all of its report is taken.
abbrev pub IsSteppedThrough : {A : Type 0} → (A → ℕ → Event → List Act → A → Type 0) → (A → A → Type 0) → Type 0
IsSteppedThrough {A} answers spent =
    (moment m : ℕ) (q : Progress) (text report : List ℕ) (a b : A) → Brings answers 0 m (beginning moment) q text report a b → refusal_at q ≡ None →
    Ends (Steps answers spent a b (Some []) (Some report)) moment (Some text) (Some []) ended.Done

-- What a text brings from its beginning on that is refused: it is stepped through up to the line that is refused, or to its end where
-- it is cut short there. All of its report is taken, and some rest of the text is left.
abbrev pub IsSteppedToRefusal : {A : Type 0} → (A → ℕ → Event → List Act → A → Type 0) → (A → A → Type 0) → Type 0
IsSteppedToRefusal {A} answers spent =
    (moment m : ℕ) (q : Progress) (refused : Refused) (text report : List ℕ) (a b : A) → Brings answers 0 m (beginning moment) q text report a b →
    refusal_at q ≡ Some refused →
    (rest : List ℕ) × Ends (Steps answers spent a b (Some []) (Some report)) moment (Some text) (Some rest) (ended.Refused refused)
