use Rattle.hc_driver.proofs.Going.{IsWritten}
use Rattle.hc_driver.proofs.answering.Answering.go_all.Given as goal

abbrev pub invariant-loop-timed : goal.invariant-loop-timed
invariant-loop-timed g l = IsWritten g.C.Course.reports g.C.Course.over g.C.Course.spent l.fn.on l.on
    (record {
      number = l.fn.self.number;
      steps = g.C.Course.steps l.fn.on;
      received = g.C.Course.received l.fn.on;
      moment = g.C.Course.moment l.fn.on;
      faults = g.K.Sink.faults l.fn.sink;
    })
    (record {
      number = l.self.number;
      steps = g.C.Course.steps l.on;
      received = g.C.Course.received l.on;
      moment = g.C.Course.moment l.on;
      faults =
          g.K.Sink.faults l.sink;
    })
    l.events l.timed-index (g.K.Sink.taken l.fn.sink) (g.K.Sink.taken l.sink)
