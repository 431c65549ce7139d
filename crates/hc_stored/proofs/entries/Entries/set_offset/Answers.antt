use Rattle.hc_stored.proofs.ShelfLemmas.{same-shelved}
use Rattle.hc_stored.proofs.entries.Entries.set_offset.Goals as goal

pub invariant_of-self-clause-shelved : goal.invariant_of-self-clause-shelved
invariant_of-self-clause-shelved g c = same-shelved c.args.self.now.shelved c.stand_in.ensures.rows
