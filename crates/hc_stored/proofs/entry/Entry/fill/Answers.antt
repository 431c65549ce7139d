use Rattle.hc_stored.proofs.UserRows.{grows-within}
use Rattle.hc_stored.proofs.entry.Entry.fill.Goals as goal

pub arrived-requires : goal.arrived-requires
arrived-requires c =
    let e = c.args.self.now in
    grows-within e.reach c.args.end e.users.way c.if-self-end.true c.requires e.stored
