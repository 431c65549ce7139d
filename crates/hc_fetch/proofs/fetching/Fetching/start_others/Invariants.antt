use Rattle.hc_fetch.proofs.Starting.{StartsOn}
use Rattle.hc_fetch.proofs.fetching.Fetching.start_others.Given as goal

abbrev pub invariant-loop-part : goal.invariant-loop-part
invariant-loop-part g l = StartsOn l.fn.self l.self l.now l.total l.count l.part
