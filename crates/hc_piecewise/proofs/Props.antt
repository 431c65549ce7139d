-- That events are timed has one proof at most.
use Rattle.std.{specs.Coded.{Unit-prop}, proofs.{Props.{props}, Common.{ℕ, List, [], ◌∷◌}}}
use Rattle.hc_event.specs.declared.event.Event.{Event}
use Rattle.hc_event.specs.declared.event.Event.TheVariants as event
use Rattle.hc_sched.specs.{declared.schedule.Timed.{Timed}, Laws.{AreTimed}, Schedule.{IsEvent}}

IsEvent-prop : (e : Event) → IsProp (IsEvent e)
IsEvent-prop (event.Start c request) = Prim.hlevel props
IsEvent-prop (event.Poll c want) = Prim.hlevel props
IsEvent-prop (event.Head x response) = Prim.hlevel props
IsEvent-prop (event.Piece x bytes) = Prim.hlevel props
IsEvent-prop (event.End x) = Prim.hlevel props
IsEvent-prop (event.Fault x) = Prim.hlevel props
IsEvent-prop (event.Cancel c) = Prim.hlevel props
IsEvent-prop (event.Doom key) = Prim.hlevel props

timed_more : (a : ℕ) (x : Timed) (xs : List Timed) → IsProp (IsEvent x.event) → IsProp (AreTimed x.now xs) → IsProp (AreTimed a (x ∷ xs))
timed_more a x xs event rest = Prim.hlevel (props, event, rest)

pub AreTimed-prop : (a : ℕ) (xs : List Timed) → IsProp (AreTimed a xs)
AreTimed-prop a [] = Unit-prop
AreTimed-prop a (x ∷ xs) = timed_more a x xs (IsEvent-prop x.event) (AreTimed-prop x.now xs)
