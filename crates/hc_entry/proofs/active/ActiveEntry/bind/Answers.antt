use Rattle.hc_entry.proofs.UsedLemmas.{joined_group, may_join}
use Rattle.hc_entry.proofs.active.ActiveEntry.bind.Goals as goal

pub join-requires : goal.join-requires
join-requires c = let e = c.args.self.now in may_join c.args.c e.bound.items e.way c.requires e.used.group

pub invariant_of-self-2 : goal.invariant_of-self-2
invariant_of-self-2 c =
    let e = c.args.self.now in
    record {
      used = record {
        ascending = c.put_reserved.ensures.ordered;
        group = rw (c.in_ok-join.ensures.ok, c.put_reserved.ensures.items, c.in_ok-reserve.ensures.items)
            (joined_group c.args.c e.bound.items e.way e.used.group);
      };
    }
