use Rattle.std.proofs.Common.{sym, ap, ◌∙◌}
use Rattle.hc_entry.specs.{Lines.{all_back}, Kept.{line_in, on_line, is_nothing}, KeyRows.{rows_of}}
use Rattle.hc_entry.proofs.{OrderLemmas.{orderly-all}, KeyLemmas.{kept-here, tidy-changes, orderly-changes, nothing-all}}
use Rattle.hc_entry.proofs.keys.KeyTable.all_back.Goals as goal

pub invariant_of-self : goal.invariant_of-self
invariant_of-self c =
    let t = c.args.self.now in
    let key = c.args.key.now in
    let k = rows_of t.rows key in
    let change = c.all_back_in.ensures.changes in
    let here = kept-here (on_line all_back) key t.rows c.all_back_in.new.rows change in
    record {
      tidy = tidy-changes (on_line all_back) key t.rows c.all_back_in.new.rows change (λ q off. t.tidy q)
          (λ none. c.all_back_in.ensures.absent (t.tidy key (sym (nothing-all k) ∙ (sym (ap is_nothing here) ∙ none))));
      orderly = orderly-changes (on_line all_back) key t.rows c.all_back_in.new.rows change t.orderly
          (orderly-all (line_in k) (t.orderly key));
    }
