-- Front histories: what came to the front, how the cache answered, and the two histories that this is.
use Rattle.std.specs.Prelude.{List, [], ◌∷◌}
use Rattle.hc_driver.specs.Stepping as steps
use Rattle.hc_model.specs.Entries.{History, Contents}
use Rattle.hc_front.specs.Fronts.{Fronted, FrontEntry, front_begun, front_after, core_entry, reported}

-- the newest first
abbrev pub FrontHistory : Type 0
FrontHistory = List FrontEntry

-- what the past says
unfoldable pub fronted : Contents → FrontHistory → Fronted
fronted contents [] = front_begun contents
fronted contents (e ∷ f) = front_after (fronted contents f) e

-- the history of the cache
abbrev pub core_of : Contents → FrontHistory → History
core_of contents [] = []
core_of contents (e ∷ f) = core_entry (fronted contents f) e ∷ core_of contents f

-- an event as it came, and what the front told
abbrev pub front_entry : Fronted → FrontEntry → steps.Entry
front_entry t e = record {
  timed = record { now = e.now; event = e.event };
  acts = reported t e.event e.acts;
}

-- the history of the front
abbrev pub answered_of : Contents → FrontHistory → steps.History
answered_of contents [] = []
answered_of contents (e ∷ f) = front_entry (fronted contents f) e ∷ answered_of contents f
