use Rattle.std.proofs.Common.{Option, None, sym, ap, ◌∙◌}
use Rattle.hc_entry.specs.{declared.rows.KeyRow.{KeyRow}, Lines.{Line, line_with}, Kept.{on_line, kept_in}, KeyRows.{kept_by}}
use Rattle.hc_entry.proofs.KeyLemmas.{row-changes}
use Rattle.hc_entry.proofs.rows.begin_in.Goals as goal

pub returns-clause-ok : goal.returns-clause-ok
returns-clause-ok c =
    let same = c.in_ok-bytes.ensures.items_if_clones_equal (λ x y e. e) ∙ (c.deref.ensures.value ∙ c.key.view_is) in
    let first = rw c.new-line.ensures at c.in_ok-enter.ensures.ok in
    row-changes c.in_ok-bytes.bytes.items c.args.rows.now c.insert.new.self _ c.in_ok-insert.ensures.updates c.args.key.now same (on_line (line_with c.args.c))
    (ap (λ (l : Line). kept_in l None) first.line ∙ sym (ap (λ (o : Option KeyRow). on_line (line_with c.args.c) (kept_by o)) c.requires))
