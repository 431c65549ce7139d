use Rattle.hc_entry.proofs.UsedLemmas.{resumed_group}
use Rattle.hc_entry.proofs.active.ActiveEntry.resume.Goals as goal

pub invariant_of-self : goal.invariant_of-self
invariant_of-self c =
    let e = c.args.self.now in
    record {
      used = record {
        ascending = e.used.ascending;
        group = rw (c.in_ok-writers.ensures, c.as_slice.ensures.value) (resumed_group c.args.x c.args.end e.bound.items);
      };
    }
