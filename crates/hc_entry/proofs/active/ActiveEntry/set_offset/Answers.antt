use Rattle.hc_entry.proofs.UsedLemmas.{moved_group}
use Rattle.hc_entry.proofs.active.ActiveEntry.set_offset.Goals as goal

pub invariant_of-self : goal.invariant_of-self
invariant_of-self c =
    let e = c.args.self.now in
    record {
      used = record {
        ascending = e.used.ascending;
        group = rw c.set_offset.ensures (moved_group c.args.c c.args.offset e.bound.items e.way e.used.group);
      };
    }
