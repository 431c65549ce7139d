use Rattle.hc_entry.specs.{Lines.{come_back}, Kept.{line_in, on_line}, KeyRows.{rows_of}}
use Rattle.hc_entry.proofs.{OrderLemmas.{in-back, orderly-back}, KeyLemmas.{tidy-some, orderly-changes, awaited-some}}
use Rattle.hc_entry.proofs.keys.KeyTable.back.Goals as goal

pub invariant_of-self : goal.invariant_of-self
invariant_of-self c =
    let t = c.args.self.now in
    let key = c.args.key.now in
    let d = c.args.c in
    let k = rows_of t.rows key in
    record {
      tidy = tidy-some (on_line (come_back d)) key t.rows c.reseat_in.new.rows c.reseat_in.ensures t.tidy
          (awaited-some d (on_line (come_back d) k) (in-back d (line_in k)));
      orderly = orderly-changes (on_line (come_back d)) key t.rows c.reseat_in.new.rows c.reseat_in.ensures t.orderly
          (orderly-back d (line_in k) (t.orderly key));
    }
