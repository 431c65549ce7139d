use Rattle.std.{proofs.Common.{nat_eq, refl, ◌∙◌}, specs.HashMap.{get}}
use Rattle.hc_effects.proofs.Vocabulary.{cause}
use Rattle.hc_state.specs.Leaving.{LeavesPlace}
use Rattle.hc_on_body.proofs.BreakHandler.{stands_broken}
use Rattle.hc_state.proofs.Words.{there}
use Rattle.hc_on_body.proofs.stop.break_wait.Goals as goal

pub returns-clause-broken : goal.returns-clause-broken
returns-clause-broken g c = λ limits t w k facts stands waited.
    let r = c.args.rows.now in
    let mid = c.leave_place.new.rows in
    let found = there (get nat_eq r.consumers c.args.c) (LeavesPlace r mid c.args.c) c.leave_place.ensures.place in
    stands_broken t facts.law c.args.x c.args.c w k waited (cause.Net c.args.x) r mid (record mid { consumers = c.fail_with.new.consumers }) _ found.0
    stands found.1 found.2
    refl refl refl refl c.fail_with.ensures refl refl refl refl c.close.ensures
