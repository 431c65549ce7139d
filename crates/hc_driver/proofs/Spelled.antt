-- An event that has a spelling is within limits.
use Rattle.hc_event.specs.{declared.event.Event.{Event}, WithinLimits.{IsEventWithinLimits}}
use Rattle.hc_event.specs.declared.event.Event.TheVariants as event
use Rattle.hc_sched.specs.Schedule.{IsEvent}

pub within_limits_spelled : (e : Event) → IsEvent e → IsEventWithinLimits e
within_limits_spelled (event.Start c request) is = (is.0, is.2, is.3.within_limits)
within_limits_spelled (event.Poll c want) is = tt
within_limits_spelled (event.Head x response) is = is.3.within_limits
within_limits_spelled (event.Piece x bytes) is = is.1
within_limits_spelled (event.End x) is = tt
within_limits_spelled (event.Fault x) is = tt
within_limits_spelled (event.Cancel c) is = tt
within_limits_spelled (event.Doom key) is = tt
