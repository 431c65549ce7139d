use Rattle.std.proofs.Common.{◌≡◌, ◌-◌, ◌^◌}
use Rattle.hc_driver.proofs.Runs.{IsOn}
use Rattle.hc_driver.proofs.through.go_through_prefix.Given as goal

abbrev pub invariant-loop-events : goal.invariant-loop-events
invariant-loop-events g l = IsOn g.C.Course.reports g.C.Course.over g.C.Course.spent l.fn.on l.on l.fn.moment (g.S.Source.given l.fn.source)
    (record {
      number = l.answering.number;
      steps = g.C.Course.steps l.on;
      received = g.C.Course.received l.on;
      moment = g.C.Course.moment l.on;
      given =
          g.S.Source.given l.source;
    })
    l.feed (g.S.Source.left l.fn.source) (g.S.Source.left l.source) (g.K.Sink.taken l.fn.sink) (g.K.Sink.taken l.sink)
    × (g.S.Source.faults l.source ≡ g.S.Source.faults l.fn.source) × (g.K.Sink.faults l.sink ≡ g.K.Sink.faults l.fn.sink)

abbrev pub decreases-loop-events : goal.decreases-loop-events
decreases-loop-events g l = 2 ^ 60 - g.S.Source.given l.source
