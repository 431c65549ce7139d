use Rattle.std.proofs.Common.{◌-◌, length, get_or}
use Rattle.hc_fields.specs.Marks.{field_at, fields_at}
use Rattle.hc_fields.proofs.{Ends.{none_after-last}, Kept.{last_at}, Places.{no_mark}}
use Rattle.hc_fields.proofs.reading.is_last.Goals as goal

pub returns-in-len1-up : goal.returns-in-len1-up
returns-in-len1-up c =
    let text = c.args.text.now in
    let marks = c.args.marks.now in
    rw (c.is_lt.ensures, c.cmp.ensures, c.name.ensures)
    (none_after-last c.args.name.now (fields_at text marks) (field_at text (get_or marks (length marks - 1) no_mark)) c.requires.list.sorted
    (last_at text marks no_mark c.in-len1-up.len_at_least))
