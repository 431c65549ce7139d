use Rattle.std.{proofs.Common.{◌≡◌, take}, specs.List.{sum_by}}
use Rattle.hc_generate.specs.Summary.{given_size, up_to_end}
use Rattle.hc_generate.proofs.counts.bytes.Given as goal

abbrev pub invariant-loop-act : goal.invariant-loop-act
invariant-loop-act l = l.sum ≡ up_to_end (sum_by given_size (take l.act-index l.acts))
