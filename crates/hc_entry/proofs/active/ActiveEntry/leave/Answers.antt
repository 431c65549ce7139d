use Rattle.hc_entry.proofs.UsedLemmas.{left_group, may_leave}
use Rattle.hc_entry.proofs.active.ActiveEntry.leave.Goals as goal

pub leave-requires : goal.leave-requires
leave-requires c = let e = c.args.self.now in may_leave c.args.c e.bound.items e.way c.requires e.used.group

pub invariant_of-self : goal.invariant_of-self
invariant_of-self c =
    let e = c.args.self.now in
    record {
      used = record {
        ascending = c.take_out.ensures.ordered;
        group = rw (c.leave.ensures.way, c.take_out.ensures.items) (left_group c.args.c e.bound.items e.way e.used.group);
      };
    }
