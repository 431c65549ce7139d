-- How many consumers are live: no more than the refusals let start. How many exchanges are open: no more than that.
-- Who leaves, and how many exchanges were opened.
use Rattle.std.specs.Prelude.{◌≡◌, ◌≤◌, ℕ, ◌+◌, ◌-◌, length, true, false, Some, filter, nat_eq}
use Rattle.hc_event.specs.Filters.{is_denied}
use Rattle.hc_event.specs.declared.event.Event.TheVariants as event
use Rattle.hc_rules.specs.declared.room.Limits.{Limits}
use Rattle.hc_model.specs.Beginnings.{may_begin}
use Rattle.hc_model.specs.Denials.{live, is_live, is_live_place}
use Rattle.hc_model.specs.Entries.{Entry, History, Contents}
use Rattle.hc_model.specs.Exchanges.{is_open}
use Rattle.hc_model.specs.Reading.{source}
use Rattle.hc_model.specs.Rows.{Tables, Consumer}
use Rattle.hc_model.specs.Runs.{IsOwed, IsRun}
use Rattle.hc_model.specs.Tables.{tables, after}

-- a start past that is denied
abbrev pub most_live : ℕ
most_live = 1024

pub record FewLive (t : Tables) : Type 0 where
  pub few : live t ≤ most_live

-- how many exchanges are open
abbrev pub open_now : Tables → ℕ
open_now t = length (filter (λ x. is_open (t.exchange x)) t.openings)

-- a live consumer reads from x: it is its own, or that of the writer group of which it is a member
pub record IsReader (t : Tables) (x c : ℕ) : Type 0 where
  pub k : Consumer
  pub row : t.consumer c ≡ Some k
  pub live : is_live_place k.place ≡ true
  pub from : source t k ≡ Some x

-- Each open exchange has such a one, and nobody reads from two.
pub record FewOpen (t : Tables) : Type 0 where
  pub read : (x : ℕ) → is_open (t.exchange x) ≡ true → (c : ℕ) × IsReader t x c
  pub few : open_now t ≤ live t

-- WHO LEAVES

-- The entry is accepted, and c is over by it. All others are as live as they were.
pub record Leaves (t : Tables) (e : Entry) (c : ℕ) : Type 0 where
  pub accepted : is_denied e.acts ≡ false
  pub over : is_live ((after t e).consumer c) ≡ false
  pub others : (d : ℕ) → nat_eq d c ≡ false →
      is_live ((after t e).consumer d) ≡ is_live (t.consumer d)

-- A live consumer that is cancelled leaves.
abbrev pub WhoLeavesGoes : Limits → Tables → Type 0
WhoLeavesGoes limits t =
    (e : Entry) (c : ℕ) → IsOwed limits t e → e.event ≡ event.Cancel c →
    is_live (t.consumer c) ≡ true → Leaves t e c

-- HOW MANY WERE OPENED

-- An event opens one exchange at most.
abbrev pub OpeningsAreCounted : Type 0
OpeningsAreCounted =
    (limits : Limits) (contents : Contents) (h : History) → may_begin limits contents ≡ true →
    IsRun limits contents h → (tables contents h).opened ≤ contents.next_exchange - 1 + length h
