use Rattle.std.proofs.Common.{sym}
use Rattle.hc_store.specs.Slots.{seals}
use Rattle.hc_store.proofs.Weights.{changed-entry}
use Rattle.hc_store.proofs.entries.seal_in.Goals as goal

pub returns-in-Some-clause-ok : goal.returns-in-Some-clause-ok
returns-in-Some-clause-ok c =
    changed-entry c.args.entries.now c.args.n c.in-Some.entry.now c.seal.new.self (seals c.args.kind c.args.total) (sym c.in-Some.ensures.value) c.seal.ensures
