-- What a contract sees of acts that are handed out.
use Rattle.std.specs.Prelude.{◌≡◌, ℕ, List, Option, reverse}
use Rattle.std.specs.Borrow.{GName}
use Rattle.std.specs.Iterator.{YieldsFirst, Yields}
use Rattle.hc_event.specs.declared.act.Act.{Act}
use Rattle.hc_event.specs.declared.drain.Drain.{Drain}
use Rattle.hc_event.specs.Acts.{act_list, room}

-- the acts that are still to come
abbrev pub left_of : Drain → List Act
left_of d = reverse (act_list d.acts.now)

-- how many acts the list will have room for
abbrev pub room_of : Drain → ℕ
room_of d = room d.acts.now

-- the ghost name of the reference to the list
abbrev pub lender_of : Drain → GName
lender_of d = d.acts.ghost_name

-- old and new hand out from the same list, and leave it the same room
abbrev pub KeepsRoom : Drain → Drain → Type 0
KeepsRoom old new = (lender_of new ≡ lender_of old) × (room_of new ≡ room_of old)

-- `next` took old to new, and gave the first act
abbrev pub Steps : Drain → Option Act → Drain → Type 0
Steps old act new = YieldsFirst left_of old act new × KeepsRoom old new

-- each state that calls of `next` lead to leaves what the first leaves
abbrev pub KeepsAlong : Drain → Type 0
KeepsAlong first = (acts : List Act) (later : Drain) → Yields Steps first acts later → KeepsRoom first later
