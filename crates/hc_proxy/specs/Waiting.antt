-- When a call of `next` waits.
use Rattle.std.specs.Prelude.{◌&&◌, List, [], ◌∷◌, length, ◌==◌, Bool, true, false}
use Rattle.std.specs.List.{list_all}
use Rattle.hc_event.specs.declared.event.Event.{Event}
use Rattle.hc_event.specs.declared.event.Event.TheVariants as event
use Rattle.hc_event.specs.declared.act.Act.{Act}
use Rattle.hc_event.specs.declared.act.Act.TheVariants as act
use Rattle.hc_rules.specs.declared.room.Limits.{Limits}
use Rattle.hc_model.specs.Entries.{Entry}
use Rattle.hc_proxy.specs.Network.{heard}
use Rattle.hc_proxy.specs.Rows.{Proxy}

-- some act tells that its consumer waits
abbrev pub pends : List Act → Bool
pends [] = false
pends (act.Pending c wait ∷ acts) = true
pends (_ ∷ acts) = pends acts

abbrev pub pends_alone : Act → Bool
pends_alone a = pends (a ∷ [])

abbrev pub is_poll : Event → Bool
is_poll (event.Poll c want) = true
is_poll _ = false

-- a poll whose consumer waits
abbrev pub is_waiting : Entry → Bool
is_waiting e = is_poll e.event && pends e.acts

-- nothing that came would be handed to the cache now
abbrev pub hears_nothing : Limits → Proxy → Bool
hears_nothing limits p = length (heard limits (record p { part = [] })).part == 0

-- The first call waits, and a later one exactly where the turn before made no event but polls whose
-- consumers wait, and nothing would be handed to the cache now.
abbrev pub waits : Limits → Proxy → Bool
waits limits p = list_all is_waiting p.part && hears_nothing limits p
