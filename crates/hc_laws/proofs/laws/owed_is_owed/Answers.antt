-- What is owed of a store that never fails may come next.
use Rattle.hc_effects.proofs.Vocabulary.{tables}
use Rattle.hc_laws.proofs.{LawfulRuns.{lawful_in_runs}, OwedEntries.{owed_is_owed}}
use Rattle.hc_laws.proofs.laws.owed_is_owed.Goals as goal

pub returns : goal.returns
returns c = λ limits contents h may run now event later.
    let law = lawful_in_runs limits contents h may run in
    owed_is_owed limits (tables contents h) now law.sound law.places later event
