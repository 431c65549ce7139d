use Rattle.hc_entry.specs.{Lines.{left_by}, Kept.{line_in, on_line}, KeyRows.{rows_of}}
use Rattle.hc_entry.proofs.{OrderLemmas.{orderly-apart}, KeyLemmas.{tidy-changes, orderly-changes}}
use Rattle.hc_entry.proofs.keys.KeyTable.leave.Goals as goal

pub invariant_of-self : goal.invariant_of-self
invariant_of-self c =
    let t = c.args.self.now in
    let key = c.args.key.now in
    let d = c.args.c in
    let left = c.leave_in.new.rows in
    let changes = c.leave_in.ensures.changes in
    record {
      tidy = tidy-changes (on_line (left_by d)) key t.rows left changes (λ q off. t.tidy q) c.leave_in.ensures.tidy;
      orderly = orderly-changes (on_line (left_by d)) key t.rows left changes t.orderly
          (orderly-apart d (line_in (rows_of t.rows key)) (t.orderly key));
    }
