use Rattle.std.proofs.Common.{◌≡◌, ◌-◌, ◌<◌, length, refl, ◌∙◌, sym, arith}
use Rattle.http_header.specs.Token.{lowercase}
use Rattle.hc_fields.specs.{FieldList.{has_name}, Marks.{fields_at}}
use Rattle.hc_fields.proofs.{Kept.{fields_at-named, length-fields_at}, Places.{first_is_start, before_end, none-found}}
use Rattle.hc_fields.proofs.search.named.Goals as goal

pub returns-then-start-marks-clause-fields : goal.returns-then-start-marks-clause-fields
returns-then-start-marks-clause-fields c =
    let fs = fields_at c.args.text.now c.args.marks.now in
    let len = length-fields_at c.args.text.now c.args.marks.now in
    let first = c.first_named-start.ensures.place in
    let none : length c.args.marks.now - c.first_named-start.result ≡ 0 = omega arith in
    let last : c.first_named-start.result ≡ length fs = omega (arith, len) in
    rw (none, none-found (has_name (lowercase c.args.name.now)) fs (sym first ∙ last)) refl

pub end_from-requires-clause-behind : goal.end_from-requires-clause-behind
end_from-requires-clause-behind c =
    let fs = fields_at c.args.text.now c.args.marks.now in
    let len = length-fields_at c.args.text.now c.args.marks.now in
    let within = c.first_named-start.ensures.within in
    let lt : c.first_named-start.result < length fs = omega (arith, len, within) in
    omega (arith, first_is_start (lowercase c.args.name.now) fs c.first_named-start.result c.requires.list.sorted c.first_named-start.ensures.place lt)

pub end_from-requires-clause-start : goal.end_from-requires-clause-start
end_from-requires-clause-start c =
    let fs = fields_at c.args.text.now c.args.marks.now in
    let len = length-fields_at c.args.text.now c.args.marks.now in
    let within = c.first_named-start.ensures.within in
    let lt : c.first_named-start.result < length fs = omega (arith, len, within) in
    omega (arith, before_end (lowercase c.args.name.now) fs c.first_named-start.result c.requires.list.sorted c.first_named-start.ensures.place lt)

pub returns-clause-fields : goal.returns-clause-fields
returns-clause-fields c =
    let fs = fields_at c.args.text.now c.args.marks.now in
    let name = lowercase c.args.name.now in
    let len = length-fields_at c.args.text.now c.args.marks.now in
    let within = c.first_named-start.ensures.within in
    let lt : c.first_named-start.result < length fs = omega (arith, len, within) in
    let start = first_is_start name fs c.first_named-start.result c.requires.list.sorted c.first_named-start.ensures.place lt in
    fields_at-named c.args.text.now c.args.marks.now name c.first_named-start.result c.end_from.result c.requires.list.sorted start c.end_from.ensures.place
