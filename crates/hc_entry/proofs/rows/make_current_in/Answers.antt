use Rattle.std.proofs.Common.{Option, Some, None, subst, sym, ap, ◌∙◌, rules}
use Rattle.hc_entry.specs.{declared.rows.KeyRow.{KeyRow}, Lines.{Line}, Kept.{with_current, kept_in}, KeyRows.{Rows, kept_by, RowChanges, rows_of}}
use Rattle.hc_entry.proofs.KeyLemmas.{row-there, row-changes}
use Rattle.hc_entry.proofs.rows.make_current_in.Goals as goal

pub returns-in-Some-clause-ok : goal.returns-in-Some-clause-ok
returns-in-Some-clause-ok c =
    let same = c.as_slice.ensures.value ∙ c.key.view_is in
    let there = row-there c.as_slice.result.now c.args.key.now c.args.rows.now _ same c.in-Some.ensures.value in
    row-changes c.as_slice.result.now c.args.rows.now _ _ ((c.get_mut.follows.holds _).3 (search rules)) c.args.key.now same (with_current (Some c.args.r))
    (sym (ap (λ (o : Option KeyRow). with_current (Some c.args.r) (kept_by o)) there))

pub returns-clause-ok : goal.returns-clause-ok
returns-clause-ok c =
    let r = c.args.r in
    let key = c.args.key.now in
    let was = c.get_mut.follows.holds-at-none in
    let same = c.in_ok-bytes.ensures.items_if_clones_equal (λ x y e. e) ∙ (c.deref.ensures.value ∙ c.key.view_is) in
    let none = row-there c.as_slice.result.now key c.args.rows.now None (c.as_slice.ensures.value ∙ c.key.view_is) c.in_default.ensures.value in
    subst (λ (rows : Rows). RowChanges (with_current (Some r)) key rows c.insert.new.self) was
    (row-changes c.in_ok-bytes.bytes.items c.get_mut.follows.lender-at-none c.insert.new.self _ c.in_ok-insert.ensures.updates key same (with_current (Some r))
    (ap (λ (l : Line). kept_in l (Some r)) c.new.ensures
    ∙ sym (ap (λ (rows : Rows). with_current (Some r) (rows_of rows key)) was ∙ ap (λ (o : Option KeyRow). with_current (Some r) (kept_by o)) none)))
