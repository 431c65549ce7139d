use Rattle.std.{proofs.Common.{sym, ap, ◌∙◌}, specs.Prelude.{is_some}}
use Rattle.hc_text.proofs.Basics.{none_of}
use Rattle.hc_stored.specs.Entries.{shelf_of}
use Rattle.hc_exch.specs.Exchanges.{table_of}
use Rattle.hc_on_leave.proofs.WriterTies.{written_by, exclusive_written}
use Rattle.hc_on_leave.proofs.writers.exclusive.Goals as goal

pub alone_in-requires-clause-unwritten : goal.alone_in-requires-clause-unwritten
alone_in-requires-clause-unwritten g c = sym c.group_in.ensures ∙ none_of c.group_in.result (sym c.is_some.ensures ∙ c.if-is_some.false)

pub returns-then-is_some : goal.returns-then-is_some
returns-then-is_some g c = λ limits t p facts stands here stays.
    let r = c.args.rows.now in
    let kept = (shelf_of r.entries).kept c.args.r in
    let written = c.group_in.ensures ∙ written_by (table_of r.exchanges) kept c.in_ok-entry.entry (sym c.in_ok-entry.ensures) in
    exclusive_written r t facts stands c.args.r p here (ap (λ o. is_some o) (sym written) ∙ (sym c.is_some.ensures ∙ c.if-is_some.true))
