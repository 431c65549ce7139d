use Rattle.std.proofs.Common.{Option, Some, refl, sym, ap, ◌∙◌, rules}
use Rattle.hc_entry.specs.{declared.rows.KeyRow.{KeyRow}, Lines.{Line, is_in, line_with}, Kept.{line_in}, KeyRows.{kept_by, RowsStay}}
use Rattle.hc_entry.proofs.KeyLemmas.{row-there, row-stays, line-changes, on-err}
use Rattle.hc_entry.proofs.rows.enter_in.Goals as goal

pub enter-requires : goal.enter-requires
enter-requires c =
    let same = c.as_slice.ensures.value ∙ c.key.view_is in
    let there = row-there c.as_slice.result.now c.args.key.now c.args.rows.now _ same c.in-Some.ensures.value in
    sym (ap (λ (o : Option KeyRow). is_in c.args.c (line_in (kept_by o))) there) ∙ c.requires

pub returns-in_err-enter-clause-err : goal.returns-in_err-enter-clause-err
returns-in_err-enter-clause-err c =
    let row : KeyRow = record { line = c.enter.new.self; current = c.in-Some.row.now.current } in
    on-err (RowsStay c.args.rows.now (c.get_mut.follows.lender row)) c.from_residual.result
    (row-stays c.as_slice.result.now c.args.rows.now (c.get_mut.follows.lender row) (Some row) ((c.get_mut.follows.holds row).3 (search rules))
    (ap (λ (l : Line). Some (record { line = l; current = c.in-Some.row.now.current })) c.in_err-enter.ensures.err ∙ c.in-Some.ensures.value))

pub returns-in-Some-clause-ok : goal.returns-in-Some-clause-ok
returns-in-Some-clause-ok c =
    let same = c.as_slice.ensures.value ∙ c.key.view_is in
    line-changes c.as_slice.result.now c.args.key.now c.args.rows.now _ c.in-Some.row.now c.enter.new.self
    (λ (l : Line). let more = line_with c.args.c l in record more { places = c.enter.new.self.places }) same
    c.in-Some.ensures.value c.in_ok-enter.ensures.ok.line refl ((c.get_mut.follows.holds _).3 (search rules))
