use Rattle.std.proofs.Common.{ap, arith}
use Rattle.hc_fields.specs.FieldList.{size_of}
use Rattle.hc_validate.proofs.{Names.{IsToken-content_length}, Common.{size-common}}
use Rattle.hc_validate.proofs.origin.whole.Goals as goal

pub set_number-requires-clause-name : goal.set_number-requires-clause-name
set_number-requires-clause-name c = IsToken-content_length

pub set_number-requires-clause-small : goal.set_number-requires-clause-small
set_number-requires-clause-small c = omega (arith, ap size_of c.requires, size-common c.args.size c.ranges.size.fits)
