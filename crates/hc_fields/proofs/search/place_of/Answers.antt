use Rattle.std.proofs.Common.{arith}
use Rattle.http_header.specs.Token.{lowercase}
use Rattle.hc_fields.specs.Marks.{fields_at}
use Rattle.hc_fields.proofs.{Edits.{size_of-parts, length-parts}, Kept.{fields_at-named, length-fields_at}, Sorted.{is_parted}}
use Rattle.hc_fields.proofs.search.place_of.Goals as goal

pub bytes_of-requires-clause-small : goal.bytes_of-requires-clause-small
bytes_of-requires-clause-small c =
    let small = c.requires.list.small in
    let parts = size_of-parts (lowercase c.args.name.now) (fields_at c.args.text.now c.args.marks.now) in
    rw (fields_at-named c.args.text.now c.args.marks.now (lowercase c.args.name.now) c.places-start.result.0 c.places-start.result.1
    c.requires.list.sorted c.places-start.ensures.start c.places-start.ensures.end)
    (omega (arith, parts, small))

pub returns : goal.returns
returns c =
    let fs = fields_at c.args.text.now c.args.marks.now in
    let name = lowercase c.args.name.now in
    let place = c.places-start.ensures in
    let parted = is_parted name fs c.requires.list.sorted in
    let end_is = parted.end_is in
    let start_is = place.start in
    let last = place.end in
    let within = place.within in
    let lengths = length-parts name fs in
    let sizes = size_of-parts name fs in
    let len = length-fields_at c.args.text.now c.args.marks.now in
    let bytes = rw (fields_at-named c.args.text.now c.args.marks.now name c.places-start.result.0 c.places-start.result.1 c.requires.list.sorted start_is
    last) at c.bytes_of.ensures in
    record {
      start_is = start_is;
      end_is = omega (arith, end_is, start_is, last);
      within = omega (arith, len, within, end_is, start_is, last);
      others = omega (arith, lengths, end_is, start_is, last);
      other_bytes = omega (arith, sizes, bytes);
    }
