use Rattle.std.{proofs.Common.{◌≡◌, Result, Ok, Err, set, sym, ◌∙◌}, specs.{Prelude.{OnOk}, declared.alloc.AllocError.{AllocError}}}
use Rattle.hc_wire.specs.Logs.{taking, changed_at}
use Rattle.hc_wire.proofs.LogLemmas.{changed-some, changed-none}
use Rattle.hc_wire.proofs.connection.take_in.Goals as goal

pub returns-in-Some-clause-ok : goal.returns-in-Some-clause-ok
returns-in-Some-clause-ok c = on c.take.result c.take.ensures.ok where
  on : (r : Result (Unit {0}) AllocError) → OnOk r (c.take.new.self ≡ taking c.args.bytes.now c.args.short c.args.events c.index_mut.result.now)
      → OnOk r (set c.args.connections.now.items c.in-Some.at c.take.new.self ≡ changed_at c.args.k (taking c.args.bytes.now c.args.short c.args.events)
      c.args.connections.now.items)
  on (Ok v) is =
      changed-some c.args.k (taking c.args.bytes.now c.args.short c.args.events) c.args.connections.now.items c.in-Some.at c.index_mut.result.now
      c.take.new.self
      (rw c.as_slice.ensures.value at (sym c.place_of.ensures ∙ c.in-Some.is)) c.index_mut.ensures.value is
  on (Err e) is = is

pub returns-in-None-clause-ok : goal.returns-in-None-clause-ok
returns-in-None-clause-ok c =
    changed-none c.args.k (taking c.args.bytes.now c.args.short c.args.events) c.args.connections.now.items
    (rw c.as_slice.ensures.value at (sym c.place_of.ensures ∙ c.in-None.is))
