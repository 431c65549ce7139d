use Rattle.std.proofs.Common.{Option, refl, sym, ap, ◌∙◌, rules}
use Rattle.hc_entry.specs.{declared.rows.KeyRow.{KeyRow}, Lines.{is_in, left_by}, Kept.{line_in, on_line}, KeyRows.{kept_by}}
use Rattle.hc_entry.proofs.KeyLemmas.{row-there, line-changes, row-gone, tidy-row}
use Rattle.hc_entry.proofs.rows.leave_in.Goals as goal

pub leave-requires : goal.leave-requires
leave-requires c =
    let same = c.as_slice-bytes.ensures.value ∙ c.key.view_is in
    let there = row-there c.as_slice-bytes.result.now c.args.key.now c.args.rows.now _ same c.in-Some.ensures.value in
    sym (ap (λ (o : Option KeyRow). is_in c.args.c (line_in (kept_by o))) there) ∙ c.requires

pub returns-then-says_nothing-clause-changes : goal.returns-then-says_nothing-clause-changes
returns-then-says_nothing-clause-changes c =
    let same = c.as_slice-bytes.ensures.value ∙ c.key.view_is in
    let row : KeyRow = record { line = c.leave.new.self; current = c.in-Some.row.now.current } in
    let put = (c.get_mut.follows.holds row).3 (search rules) in
    row-gone (on_line (left_by c.args.c)) c.as_slice-bytes.result.now c.args.key.now c.args.rows.now (c.get_mut.follows.lender row) c.remove.new.self row
    same put c.remove.ensures.updates
    (line-changes c.as_slice-bytes.result.now c.args.key.now c.args.rows.now _ c.in-Some.row.now c.leave.new.self (left_by c.args.c) same
    c.in-Some.ensures.value c.leave.ensures refl put)
    c.if-says_nothing.ensures.nothing

pub returns-else-says_nothing-clause-changes : goal.returns-else-says_nothing-clause-changes
returns-else-says_nothing-clause-changes c =
    let same = c.as_slice-bytes.ensures.value ∙ c.key.view_is in
    line-changes c.as_slice-bytes.result.now c.args.key.now c.args.rows.now _ c.in-Some.row.now c.leave.new.self (left_by c.args.c) same
    c.in-Some.ensures.value c.leave.ensures refl ((c.get_mut.follows.holds _).3 (search rules))

pub returns-else-says_nothing-clause-tidy : goal.returns-else-says_nothing-clause-tidy
returns-else-says_nothing-clause-tidy c =
    let same = c.as_slice-bytes.ensures.value ∙ c.key.view_is in
    let row : KeyRow = record { line = c.leave.new.self; current = c.in-Some.row.now.current } in
    tidy-row c.as_slice-bytes.result.now c.args.key.now c.args.rows.now (c.get_mut.follows.lender row) row same ((c.get_mut.follows.holds row).3 (search rules))
    (sym c.says_nothing.ensures.value ∙ c.if-says_nothing.false)
