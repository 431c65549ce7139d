-- What events go through where each is answered by a text that is written.
use Rattle.std.specs.Prelude.{◌≡◌, ◌⊎◌, ℕ, ◌+◌, List, [], ◌∷◌, ◌++◌, length, Bool, true, false, Option}
use Rattle.hc_event.specs.declared.event.Event.{Event}
use Rattle.hc_io.specs.Sink.{Takes}
use Rattle.hc_sched.specs.declared.schedule.Timed.{Timed}
use Rattle.hc_driver.specs.Endings.{How, Wholly, UpToEnd, UpToLast, UpToWant}

-- an event with its moment, and the text of its answer
pub record AnsweredBy : Type 0 where
  pub timed : Timed
  pub text : List ℕ

-- the newest first
abbrev pub History : Type 0
History = List AnsweredBy

-- the events, the oldest first
abbrev pub events_in : History → List Timed
events_in [] = []
events_in (e ∷ h) = events_in h ++ e.timed ∷ []

-- what was answered, the oldest first
abbrev pub text_of : History → List ℕ
text_of [] = []
text_of (e ∷ h) = text_of h ++ e.text

-- what was answered before the last event
abbrev pub text_before : History → List ℕ
text_before [] = []
text_before (e ∷ h) = text_of h

-- what was answered to the last event
abbrev pub last_text : History → List ℕ
last_text [] = []
last_text (e ∷ h) = e.text

-- Each event was answered where the one before it led, by its number from n + 1 on, and none where it was over.
pub data Leads {A : Type 0} (reports : A → ℕ → ℕ → Event → List ℕ → A → Type 0) (over : A → Bool) (n : ℕ) (s : A) : History → A → Type 0 where
  nothing : Leads reports over n s [] s
  more : (h : History) (e : AnsweredBy) (t u : A) → Leads reports over n s h t → over t ≡ false →
      reports t (n + length h + 1) e.timed.now e.timed.event e.text u → Leads reports over n s (e ∷ h) u

-- Memory was refused for the answer to the event of this number, or for its text alone.
abbrev pub Lacks : {A : Type 0} → (A → ℕ → ℕ → Event → List ℕ → A → Type 0) → (A → A → Type 0) → A → ℕ → ℕ → Event → A → Type 0
Lacks reports spent s number now event u = spent s u ⊎ ((text : List ℕ) × reports s number now event text u)

-- The first bytes went in, and then some first part of the text.
pub record TakesThenPrefix (out out' : Option (List ℕ)) (first text : List ℕ) : Type 0 where
  pub part : List ℕ
  pub rest : List ℕ
  pub whole : part ++ rest ≡ text
  pub takes : Takes out out' (first ++ part)

-- How far these events went through a course, from n events on, and what a sink took of that.
pub data Goes {A : Type 0} (reports : A → ℕ → ℕ → Event → List ℕ → A → Type 0) (over : A → Bool) (spent : A → A → Type 0) (n : ℕ) (s u : A) (out out' : Option (List ℕ)) : How → List Timed → Type 0 where
  wholly : {events : List Timed} (h : History) → events_in h ≡ events → Leads reports over n s h u → over u ≡ false →
      Takes out out' (text_of h) → Goes reports over spent n s u out out' Wholly events
  up_to_end : {events : List Timed} (h : History) → events_in h ≡ events → Leads reports over n s h u → over u ≡ true →
      Takes out out' (text_of h) → Goes reports over spent n s u out out' UpToEnd events
  up_to_last : {events : List Timed} (h : History) → events_in h ≡ events → Leads reports over n s h u →
      TakesThenPrefix out out' (text_before h) (last_text h) → Goes reports over spent n s u out out' UpToLast events
  up_to_want : {events : List Timed} (h : History) (last : A) → events_in h ≡ events → Leads reports over n s h last →
      over last ≡ false → Takes out out' (text_of h) → spent last u → Goes reports over spent n s u out out' UpToWant events
