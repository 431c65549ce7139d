use Rattle.std.proofs.Common.{◌≡◌, ℕ, length, sym, ap, ◌∙◌, rules}
use Rattle.hc_wire.specs.{declared.event.WireEvent.{WireEvent}, Following.{left_at, coming}, Plays.{script_due}}
use Rattle.hc_wire.proofs.FollowLemmas.{stands, comes_at}
use Rattle.hc_wire.proofs.script.ScriptWire.due.Goals as goal

place : (c : goal.In-Some) → left_at c.args.self.now.script.items c.loop-at.at c.loop-at.off ≡ script_due c.args.self.now
place c =
    let w = c.args.self.now in
    stands w.connections.items w.moment (length c.loop-at.into) c.loop-at.off c.index.result.now (c.in-Some.moment, c.in-Some.event)
    (sym c.in-Some.is ∙ c.due_of.ensures.value) w.script.items c.loop-at.at (search rules) c.index.ensures
    ∙ c.loop-at.invariant.left

pub returns-in-Some-clause-place : goal.returns-in-Some-clause-place
returns-in-Some-clause-place c = place c

pub returns-in-Some-clause-moment_is : goal.returns-in-Some-clause-moment_is
returns-in-Some-clause-moment_is c =
    let w = c.args.self.now in
    let comes = comes_at w.connections.items w.moment (length c.loop-at.into) c.loop-at.off c.index.result.now (c.in-Some.moment, c.in-Some.event)
    (sym c.in-Some.is ∙ c.due_of.ensures.value) w.script.items c.loop-at.at (search rules) c.index.ensures in
    ap (λ (q : ℕ × WireEvent). q.0)
    (comes
    ∙ (ap (coming w.connections.items w.moment (length c.loop-at.into)) (place c)
    ∙ ap (λ (n : ℕ). coming w.connections.items w.moment n (script_due w)) c.loop-at.invariant.room))
