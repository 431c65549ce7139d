-- A history: what the store began with, what happened at each moment, and how it was answered.
use Rattle.std.specs.Prelude.{ℕ, List, []}
use Rattle.hc_record.specs.Head.{Head}
use Rattle.hc_sparse.specs.declared.run.Run.{Run}
use Rattle.hc_event.specs.declared.event.Event.{Event}
use Rattle.hc_event.specs.declared.act.Act.{Act}

pub record Entry : Type 0 where
  pub now : ℕ
  pub event : Event
  pub acts : List Act

-- the newest first
abbrev pub History : Type 0
History = List Entry

-- an entry without any act
abbrev pub entry_without_acts : ℕ → Event → Entry
entry_without_acts now event = record { now = now; event = event; acts = [] }

-- a representation with which a store begins
pub record Content : Type 0 where
  pub key : List ℕ
  pub r : ℕ
  pub head : Head
  pub runs : List Run

-- what a store begins with; the item to which a consumer was bound last stands at the end
pub record Contents : Type 0 where
  pub now : ℕ
  pub last_consumer : ℕ
  pub next_exchange : ℕ
  pub items : List Content

-- a store that begins empty
abbrev pub no_contents : Contents
no_contents = record { now = 0; last_consumer = 0; next_exchange = 1; items = [] }
