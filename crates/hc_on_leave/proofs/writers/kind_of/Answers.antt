use Rattle.std.{proofs.Common.{sym, ap, refl, ◌∙◌}, specs.Prelude.{is_some}}
use Rattle.hc_text.proofs.Basics.{none_of}
use Rattle.hc_stored.specs.Entries.{shelf_of}
use Rattle.hc_exch.specs.Exchanges.{table_of}
use Rattle.hc_on_leave.proofs.WriterTies.{written_by, written_off, written_on}
use Rattle.hc_on_leave.proofs.writers.kind_of.Goals as goal

pub alone_in-requires-clause-unwritten : goal.alone_in-requires-clause-unwritten
alone_in-requires-clause-unwritten g c = sym c.group_in.ensures ∙ none_of c.group_in.result (sym c.is_some.ensures ∙ c.if-is_some.false)

pub returns-then-is_some : goal.returns-then-is_some
returns-then-is_some g c = λ limits t p facts stands here stays.
    let r = c.args.rows.now in
    let kept = (shelf_of r.entries).kept c.args.r in
    let written = c.group_in.ensures ∙ written_by (table_of r.exchanges) kept c.args.entry.now c.requires.entry in
    let on = written_on r t facts stands c.args.r p here (ap (λ o. is_some o) (sym written) ∙ (sym c.is_some.ensures ∙ c.if-is_some.true)) in
    rw on refl

pub returns-in-Some : goal.returns-in-Some
returns-in-Some g c = λ limits t p facts stands here stays.
    let r = c.args.rows.now in
    let kept = (shelf_of r.entries).kept c.args.r in
    let written = c.group_in.ensures ∙ written_by (table_of r.exchanges) kept c.args.entry.now c.requires.entry in
    let off = written_off r t facts stands c.args.r p here (ap (λ o. is_some o) (sym written) ∙ (sym c.is_some.ensures ∙ c.if-is_some.false)) in
    let alone = c.in-Some.ensures _ t p facts stands here stays in
    rw (off, ← alone) refl

pub returns-in-None : goal.returns-in-None
returns-in-None g c = λ limits t p facts stands here stays.
    let r = c.args.rows.now in
    let kept = (shelf_of r.entries).kept c.args.r in
    let written = c.group_in.ensures ∙ written_by (table_of r.exchanges) kept c.args.entry.now c.requires.entry in
    let off = written_off r t facts stands c.args.r p here (ap (λ o. is_some o) (sym written) ∙ (sym c.is_some.ensures ∙ c.if-is_some.false)) in
    let alone = c.in-None.ensures _ t p facts stands here stays in
    rw (off, ← alone) refl
