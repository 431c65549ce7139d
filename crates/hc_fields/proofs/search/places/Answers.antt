use Rattle.std.proofs.Common.{arith}
use Rattle.http_header.specs.Token.{lowercase}
use Rattle.hc_fields.specs.Marks.{fields_at}
use Rattle.hc_fields.proofs.Sorted.{is_parted}
use Rattle.hc_fields.proofs.search.places.Goals as goal

pub returns-clause-order : goal.returns-clause-order
returns-clause-order c =
    let parted = is_parted (lowercase c.args.name.now) (fields_at c.args.text.now c.args.marks.now) c.requires.list.sorted in
    let end_is = parted.end_is in
    rw (c.start_place-start.ensures.place, c.end_from.ensures.place) (omega (arith, end_is))
