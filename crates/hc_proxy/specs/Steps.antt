-- An event that is stepped: what the cache owes to it goes into the tables and the history.
use Rattle.std.specs.Prelude.{◌∷◌}
use Rattle.hc_event.specs.declared.event.Event.{Event}
use Rattle.hc_rules.specs.declared.room.Limits.{Limits}
use Rattle.hc_model.specs.Entries.{Entry}
use Rattle.hc_model.specs.Runs.{owed}
use Rattle.hc_model.specs.Tables.{after}
use Rattle.hc_proxy.specs.Rows.{Proxy}

unfoldable pub with_entry : Entry → Proxy → Proxy
with_entry e p = record p {
  tables = after p.tables e;
  history = e ∷ p.history;
  part = e ∷ p.part;
}

-- the event happens at the moment of the turn, over a store that never fails
abbrev pub stepped : Limits → Event → Proxy → Proxy
stepped limits event p = with_entry (owed limits p.tables p.moment event) p
