use Rattle.std.proofs.Common.{ap, arith}
use Rattle.hc_fields.specs.FieldList.{size_of}
use Rattle.hc_validate.proofs.Common.{size-common}
use Rattle.hc_validate.proofs.origin.part.Goals as goal

pub add_range-requires-clause-small : goal.add_range-requires-clause-small
add_range-requires-clause-small c = omega (arith, ap size_of c.requires.is, size-common c.args.size c.ranges.size.fits)
