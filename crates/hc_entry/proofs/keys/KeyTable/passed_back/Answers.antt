use Rattle.std.proofs.Common.{sym, ap, ◌∙◌}
use Rattle.hc_entry.specs.{Lines.{passed_back}, Kept.{line_in, on_line, is_nothing}, KeyRows.{rows_of}}
use Rattle.hc_entry.proofs.{OrderLemmas.{orderly-passed-back}, KeyLemmas.{kept-here, tidy-changes, orderly-changes, nothing-passed-back}}
use Rattle.hc_entry.proofs.keys.KeyTable.passed_back.Goals as goal

pub invariant_of-self : goal.invariant_of-self
invariant_of-self c =
    let t = c.args.self.now in
    let key = c.args.key.now in
    let k = rows_of t.rows key in
    let change = c.passed_back_in.ensures.changes in
    let here = kept-here (on_line passed_back) key t.rows c.passed_back_in.new.rows change in
    record {
      tidy = tidy-changes (on_line passed_back) key t.rows c.passed_back_in.new.rows change (λ q off. t.tidy q)
          (λ none. c.passed_back_in.ensures.absent (t.tidy key (sym (nothing-passed-back k) ∙ (sym (ap is_nothing here) ∙ none))));
      orderly = orderly-changes (on_line passed_back) key t.rows c.passed_back_in.new.rows change t.orderly
          (orderly-passed-back (line_in k) (t.orderly key));
    }
