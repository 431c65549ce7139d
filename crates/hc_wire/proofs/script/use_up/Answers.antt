use Rattle.std.proofs.Common.{sym, ◌∙◌}
use Rattle.hc_wire.proofs.StallLemmas.{used-some, used-none}
use Rattle.hc_wire.proofs.script.use_up.Goals as goal

pub returns-in-Some : goal.returns-in-Some
returns-in-Some c =
    used-some c.args.k c.args.n c.args.stalls.now.items c.in-Some.at c.index_mut.result.now c.use_up.new.self
    (rw c.as_slice.ensures.value at (sym c.place_of.ensures ∙ c.in-Some.is)) c.index_mut.ensures.value c.use_up.ensures

pub returns-in_default : goal.returns-in_default
returns-in_default c = used-none c.args.k c.args.n c.args.stalls.now.items (rw c.as_slice.ensures.value at (sym c.place_of.ensures ∙ c.in_default.is))
