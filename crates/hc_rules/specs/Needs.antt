-- What an exchange is for.
use Rattle.hc_event.specs.declared.act.Need.{Need}
use Rattle.hc_event.specs.declared.act.Need.TheVariants as need
use Rattle.hc_rules.specs.declared.need.Route.{Route}
use Rattle.hc_rules.specs.declared.need.Route.TheVariants as route

-- what an exchange that is opened for this need may become
abbrev pub route_of : Need → Route
route_of need.Disabled = route.Direct
route_of need.TimedOut = route.Direct
route_of need.Bypass = route.Turn
route_of need.Miss = route.Turn
route_of need.Vary = route.Turn
route_of need.Validate = route.Turn
route_of (need.Hole from to) = route.Hole
route_of need.Unsatisfied = route.Direct
