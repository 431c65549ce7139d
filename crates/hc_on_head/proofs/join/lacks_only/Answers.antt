use Rattle.std.proofs.Common.{sym, ◌∙◌}
use Rattle.hc_stored.specs.Entries.{shelf_of}
use Rattle.hc_on_head.proofs.JoinResumes.{lacks_is}
use Rattle.hc_on_head.proofs.join.lacks_only.Goals as goal

pub returns : goal.returns
returns g c =
    lacks_is ((shelf_of c.args.rows.now.entries).kept c.args.r) c.unwrap-entry.result c.args.from c.args.response.now c.covers.result
    (sym c.entry.ensures ∙ c.unwrap-entry.ensures)
    c.if-entry-from.false (sym c.ends_with.ensures ∙ c.if-not-ends_with.false) c.covers.ensures
