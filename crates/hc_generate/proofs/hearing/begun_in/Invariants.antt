use Rattle.std.proofs.Common.{◌≡◌, drop}
use Rattle.hc_event.specs.Filters.{opening_in}
use Rattle.hc_generate.proofs.hearing.begun_in.Given as goal

abbrev pub invariant-loop-act : goal.invariant-loop-act
invariant-loop-act l = opening_in (drop l.act-index l.acts) ≡ opening_in l.acts
