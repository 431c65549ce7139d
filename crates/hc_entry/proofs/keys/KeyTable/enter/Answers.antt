use Rattle.hc_entry.proofs.KeyLemmas.{entered}
use Rattle.hc_entry.proofs.keys.KeyTable.enter.Goals as goal

pub invariant_of-self : goal.invariant_of-self
invariant_of-self c =
    let t = c.args.self.now in
    let (tidy, orderly) = entered c.enter_in.result c.args.c c.args.key.now t.rows c.enter_in.new.rows c.requires
    c.enter_in.ensures.ok c.enter_in.ensures.err t.tidy t.orderly in
    record { tidy = tidy; orderly = orderly }
