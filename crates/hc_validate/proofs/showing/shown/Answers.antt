use Rattle.hc_validate.proofs.Names.{IsToken-content_length}
use Rattle.hc_validate.proofs.showing.shown.Goals as goal

pub set_number-requires-clause-name : goal.set_number-requires-clause-name
set_number-requires-clause-name c = IsToken-content_length

pub add_range-requires-clause-within : goal.add_range-requires-clause-within
add_range-requires-clause-within c =
    let within = c.requires c.if-ranged.true c.in-Some-Some.span c.in-Some-Some.is-0 in
    rw c.in-Some-Some.is-1 at within
