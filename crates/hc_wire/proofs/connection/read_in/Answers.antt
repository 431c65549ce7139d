use Rattle.std.proofs.Common.{sym, ◌∙◌}
use Rattle.hc_wire.specs.Logs.{reading}
use Rattle.hc_wire.proofs.LogLemmas.{changed-some, changed-none}
use Rattle.hc_wire.proofs.connection.read_in.Goals as goal

pub returns-in-Some : goal.returns-in-Some
returns-in-Some c =
    changed-some c.args.k (reading c.args.on) c.args.connections.now.items c.in-Some.at c.index_mut.result.now c.read.new.self
    (rw c.as_slice.ensures.value at (sym c.place_of.ensures ∙ c.in-Some.is)) c.index_mut.ensures.value c.read.ensures

pub returns-in_default : goal.returns-in_default
returns-in_default c = changed-none c.args.k (reading c.args.on) c.args.connections.now.items
    (rw c.as_slice.ensures.value at (sym c.place_of.ensures ∙ c.in_default.is))
