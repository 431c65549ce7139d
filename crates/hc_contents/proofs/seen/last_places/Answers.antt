use Rattle.std.{proofs.Common.{nat_eq, refl}, specs.HashMap.{get}}
use Rattle.hc_contents.proofs.Knowing.{reports_none, reports_next, reports_all}
use Rattle.hc_contents.proofs.seen.last_places.Goals as goal

pub loop-i-init : goal.loop-i-init
loop-i-init c = reports_none (get nat_eq c.new-last.result) (λ x. (let empty = c.new-last.ensures.empty in rw empty refl))

pub loop-i-preserved : goal.loop-i-preserved
loop-i-preserved c = reports_next (get nat_eq c.loop-i.last) (get nat_eq c.insert.new.self) c.args.items.now c.loop-i.i c.index-items-i.result
    c.loop-i-test.true c.index-items-i.is c.loop-i.invariant c.in_ok-insert.ensures.updates.0

pub returns : goal.returns
returns c = reports_all (get nat_eq c.loop-i.last) c.args.items.now c.loop-i.i c.loop-i-test.false c.loop-i.invariant
