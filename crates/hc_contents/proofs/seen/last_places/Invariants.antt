use Rattle.std.{proofs.Common.{map, take, nat_eq}, specs.HashMap.{get}}
use Rattle.hc_contents.specs.{Known.{KnowsLast}, PlainContents.{plain_item}}
use Rattle.hc_contents.proofs.seen.last_places.Given as goal

abbrev pub invariant-loop-i : goal.invariant-loop-i
invariant-loop-i l = KnowsLast (get nat_eq l.last) (take l.i (map plain_item l.items))
