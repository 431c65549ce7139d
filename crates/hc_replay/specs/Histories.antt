-- What was stepped, as a history of the consumer table.
use Rattle.std.specs.Prelude.{ℕ, ◌+◌, [], ◌∷◌, map}
use Rattle.hc_driver.specs.Stepping as steps
use Rattle.hc_model.specs.Entries.{Entry, History}
use Rattle.hc_model.specs.Flaws.{failures_in}

abbrev pub entry_of : steps.Entry → Entry
entry_of e = record { now = e.timed.now; event = e.timed.event; acts = e.acts }

-- what was stepped, as a history of the table
abbrev pub run_of : steps.History → History
run_of h = map entry_of h

-- how often acts tell that the store failed
abbrev pub failures : steps.History → ℕ
failures [] = 0
failures (e ∷ h) = failures_in e.acts + failures h
