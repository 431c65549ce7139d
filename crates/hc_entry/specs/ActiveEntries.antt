-- What an active entry shows.
use Rattle.hc_entry.specs.declared.active.ActiveEntry.{ActiveEntry}
use Rattle.hc_entry.specs.Used.{Used}

abbrev pub used_of : ActiveEntry → Used
used_of e = record { bound = e.bound.items; first = e.first; way = e.way }
