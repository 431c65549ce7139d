use Rattle.hc_entry.proofs.KeyLemmas.{made-current}
use Rattle.hc_entry.proofs.keys.KeyTable.make_current.Goals as goal

pub invariant_of-self : goal.invariant_of-self
invariant_of-self c =
    let t = c.args.self.now in
    let (tidy, orderly) = made-current c.make_current_in.result c.args.r c.args.key.now t.rows c.make_current_in.new.rows
    c.make_current_in.ensures.ok c.make_current_in.ensures.err t.tidy t.orderly in
    record { tidy = tidy; orderly = orderly }
