use Rattle.hc_entry.specs.{Lines.{held_by}, Kept.{line_in, on_line}, KeyRows.{rows_of}}
use Rattle.hc_entry.proofs.{OrderLemmas.{orderly-held}, KeyLemmas.{tidy-some, orderly-changes, awaited-some}}
use Rattle.hc_entry.proofs.keys.KeyTable.hold.Goals as goal

pub invariant_of-self : goal.invariant_of-self
invariant_of-self c =
    let t = c.args.self.now in
    let key = c.args.key.now in
    let d = c.args.c in
    let k = rows_of t.rows key in
    record {
      tidy = tidy-some (on_line (held_by d)) key t.rows c.hold_in.new.rows c.hold_in.ensures t.tidy
          (awaited-some d (on_line (held_by d) k) c.requires.inside);
      orderly = orderly-changes (on_line (held_by d)) key t.rows c.hold_in.new.rows c.hold_in.ensures t.orderly
          (orderly-held d (line_in k) c.requires.turn (t.orderly key));
    }
