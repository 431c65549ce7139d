-- The run of the generator, and its summary.
use Rattle.std.specs.Prelude.{◌≡◌, ℕ, ◌+◌, List, [], ◌∷◌, true, Some, None}
use Rattle.hc_event.specs.declared.event.Event.{Event}
use Rattle.hc_event.specs.declared.act.Act.{Act}
use Rattle.hc_rules.specs.declared.room.Limits.{Limits}
use Rattle.hc_text.specs.Sorted.{is_sorted, is_among, itself}
use Rattle.hc_generate.specs.States.{State, beginning}
use Rattle.hc_generate.specs.Rounds.{IsRound}
use Rattle.hc_generate.specs.Hearing.{state_after}
use Rattle.hc_generate.specs.Summary.{summary_text}
use Rattle.hc_model.specs.Entries.{Entry, History, no_contents}
use Rattle.hc_model.specs.Exchanges.{is_wanted}
use Rattle.hc_model.specs.Flaws.{failures_in}
use Rattle.hc_model.specs.Rows.{Tables}
use Rattle.hc_model.specs.Runs.{IsOwed}
use Rattle.hc_model.specs.Tables.{tables}

-- how much the store of the program may hold, in bytes: of one body, and of all
abbrev pub program_limits : Limits
program_limits = record { max_entry = 16777216; max_total = 268435456 }

-- the exchanges that are wanted, in ascending order of their numbers
pub record AreWanted (t : Tables) (wanted : List ℕ) : Type 0 where
  pub ascending : is_sorted itself wanted ≡ true
  pub are : (x : ℕ) → is_among x wanted ≡ is_wanted (t.exchange x)

-- the entry of an event that the generator made last
abbrev pub entry_at : State → Event → List Act → Entry
entry_at s event acts = record { now = s.moment; event = event; acts = acts }

-- After so many rounds the generator has this state, and what happened is this history: each event is
-- made by what is wanted, is answered as it is owed by a store that doesn't fail, and the answer is
-- heard.
pub data HasGone (limits : Limits) (seed : ℕ) : ℕ → State → History → Type 0 where
  nowhere : HasGone limits seed 0 (beginning seed) []
  quietly : (n : ℕ) (wanted : List ℕ) (s u : State) (h : History) → HasGone limits seed n s h →
      AreWanted (tables no_contents h) wanted → IsRound wanted s None u →
      HasGone limits seed (n + 1) u h
  on : (n : ℕ) (wanted : List ℕ) (event : Event) (acts : List Act) (s u : State) (h : History) →
      HasGone limits seed n s h → AreWanted (tables no_contents h) wanted →
      IsRound wanted s (Some event) u →
      IsOwed limits (tables no_contents h) (entry_at u event acts) → failures_in acts ≡ 0 →
      HasGone limits seed (n + 1) (state_after acts u) (entry_at u event acts ∷ h)

-- this is the summary of so many rounds
pub record IsSummary (limits : Limits) (seed n : ℕ) (text : List ℕ) : Type 0 where
  pub state : State
  pub history : History
  pub gone : HasGone limits seed n state history
  pub text_is : text ≡ summary_text state.counts
