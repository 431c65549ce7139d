use Rattle.std.proofs.Common.{Option, None, sym, ap, ◌∙◌, rules}
use Rattle.hc_entry.specs.{declared.rows.KeyRow.{KeyRow}, Kept.{with_current}, KeyRows.{kept_by}}
use Rattle.hc_entry.proofs.KeyLemmas.{row-there, row-changes, row-gone, tidy-row}
use Rattle.hc_entry.proofs.rows.clear_current_in.Goals as goal

pub returns-then-says_nothing-clause-changes : goal.returns-then-says_nothing-clause-changes
returns-then-says_nothing-clause-changes c =
    let same = c.as_slice-bytes.ensures.value ∙ c.key.view_is in
    let there = row-there c.as_slice-bytes.result.now c.args.key.now c.args.rows.now _ same c.in-Some.ensures.value in
    let row : KeyRow = record { line = c.in-Some.row.now.line; current = None } in
    let put = (c.get_mut.follows.holds row).3 (search rules) in
    row-gone (with_current None) c.as_slice-bytes.result.now c.args.key.now c.args.rows.now (c.get_mut.follows.lender row) c.remove.new.self row same put
    c.remove.ensures.updates
    (row-changes c.as_slice-bytes.result.now c.args.rows.now _ _ put c.args.key.now same (with_current None)
    (sym (ap (λ (o : Option KeyRow). with_current None (kept_by o)) there)))
    c.if-says_nothing.ensures.nothing

pub returns-else-says_nothing-clause-changes : goal.returns-else-says_nothing-clause-changes
returns-else-says_nothing-clause-changes c =
    let same = c.as_slice-bytes.ensures.value ∙ c.key.view_is in
    let there = row-there c.as_slice-bytes.result.now c.args.key.now c.args.rows.now _ same c.in-Some.ensures.value in
    row-changes c.as_slice-bytes.result.now c.args.rows.now _ _ ((c.get_mut.follows.holds _).3 (search rules)) c.args.key.now same (with_current None)
    (sym (ap (λ (o : Option KeyRow). with_current None (kept_by o)) there))

pub returns-else-says_nothing-clause-tidy : goal.returns-else-says_nothing-clause-tidy
returns-else-says_nothing-clause-tidy c =
    let same = c.as_slice-bytes.ensures.value ∙ c.key.view_is in
    let row : KeyRow = record { line = c.in-Some.row.now.line; current = None } in
    tidy-row c.as_slice-bytes.result.now c.args.key.now c.args.rows.now (c.get_mut.follows.lender row) row same ((c.get_mut.follows.holds row).3 (search rules))
    (sym c.says_nothing.ensures.value ∙ c.if-says_nothing.false)
