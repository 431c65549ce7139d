use Rattle.std.{proofs.Common.{◌≡◌, ◌+◌, ◌-◌, sym, ap, ◌∙◌, arith}, specs.Prelude.{option_map, Some, is_some}}
use Rattle.hc_sparse.specs.Cells.{size}
use Rattle.hc_store.specs.Slots.{weigh}
use Rattle.hc_stored.specs.{Rows.{row_of}, Views.{view_of_row}}
use Rattle.hc_stored.proofs.{ShelfLemmas.{standing, kept-there}, ViewLemmas.{view-is}}
use Rattle.hc_stored.proofs.entries.Entries.entry.Goals as goal

pub used_by-size-requires : goal.used_by-size-requires
used_by-size-requires g c =
    let there = ap (option_map row_of) (sym c.in_ok-entry.ensures.value) in
    ap is_some (standing c.args.self.now.shelved c.args.r (row_of c.in_ok-entry.entry.now) there).there

pub overflow_sub-size : goal.overflow_sub-size
overflow_sub-size g c =
    let there = ap (option_map row_of) (sym c.in_ok-entry.ensures.value) in
    let held = standing c.args.self.now.shelved c.args.r (row_of c.in_ok-entry.entry.now) there in
    let is : c.used_by-size.result ≡ 32768 + size held.held.cells = c.used_by-size.ensures ∙ ap weigh held.there in
    omega arith

pub returns : goal.returns
returns g c =
    let there = ap (option_map row_of) (sym c.in_ok-entry.ensures.value) in
    let row = row_of c.in_ok-entry.entry.now in
    let held = standing c.args.self.now.shelved c.args.r row there in
    let is : c.used_by-size.result ≡ 32768 + size held.held.cells = c.used_by-size.ensures ∙ ap weigh held.there in
    let stored : c.used_by-size.result - 32768 ≡ size held.held.cells = omega arith in
    rw (kept-there c.args.self.now.shelved c.args.r row there, c.view.ensures) (ap Some (ap (view_of_row row) stored ∙ view-is row held.held held.summary))
