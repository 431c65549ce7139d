use Rattle.std.proofs.Common.{◌≡◌, ◌++◌, take}
use Rattle.hc_sched.specs.Report.{acts_text}
use Rattle.hc_sched.proofs.report.write_entry.Given as goal

abbrev pub invariant-loop-act : goal.invariant-loop-act
invariant-loop-act l = l.to.items ≡ l.initial.to.items ++ acts_text (take l.act-index l.acts)
