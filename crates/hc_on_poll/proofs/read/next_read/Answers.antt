use Rattle.std.{proofs.Common.{◌≡◌, ◌+◌, ap, ap₂, subst, sym, ◌∙◌, arith, nat_eq}, specs.HashMap.{get}}
use Rattle.hc_sparse.specs.Cells.{Cells}
use Rattle.hc_stored.specs.Entries.{shelf_of}
use Rattle.hc_exch.specs.Exchanges.{table_of}
use Rattle.hc_rules.specs.Readings.{read_step}
use Rattle.hc_partial.specs.Parts.{IsNextPart}
use Rattle.hc_txn.specs.Views.{reading_by}
use Rattle.hc_on_poll.specs.{Readers.{ReadsUnstored, NextReadIs}, declared.read.Reader.{Reader}}
use Rattle.hc_state.proofs.Maps.{known_of, lent, some_that}
use Rattle.hc_on_poll.proofs.Unstored.{held_as, source_as}
use Rattle.hc_on_poll.proofs.read.next_read.Goals as goal

pub next_read-requires : goal.next_read-requires
next_read-requires g c =
    let row = get nat_eq c.args.rows.now.consumers c.args.reader.c in
    let k = c.unwrap-consumer.result.now in
    let at = lent c.get.result row c.unwrap-consumer.result c.get.ensures.value c.unwrap-consumer.ensures in
    let its = known_of row k (ReadsUnstored c.args.rows.now c.args.reader) at c.requires.reads in
    let same : c.args.reader.offset ≡ k.lo + k.given = ap (λ (z : Reader). z.offset) its.reads.is in
    let small = c.requires.small in
    omega (arith, same, small)

pub returns : goal.returns
returns g c =
    let r = c.args.rows.now in
    let a = c.args.reader in
    let table = table_of r.exchanges in
    let e = (shelf_of r.entries).kept a.r in
    let view = c.unwrap-entry.result in
    let viewed = sym c.entry.ensures ∙ c.unwrap-entry.ensures in
    let row = get nat_eq r.consumers a.c in
    let k = c.unwrap-consumer.result.now in
    let at = lent c.get.result row c.unwrap-consumer.result c.get.ensures.value c.unwrap-consumer.ensures in
    let told = c.next_read.ensures in
    some_that row k (NextReadIs r a c.next_read.result) at (record {
      part = told.part;
      part_is = subst (λ (f : Cells). IsNextPart f (k.lo + k.given) told.part) c.bytes.ensures told.part_is;
      step_is = told.step_is ∙ ap₂ (λ held source. read_step (reading_by told.part held source k)) (c.is_held-held.ensures ∙ held_as table e view a viewed)
          (c.source-source.ensures ∙ source_as table e view a.own viewed);
    })
