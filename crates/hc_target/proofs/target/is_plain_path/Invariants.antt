use Rattle.std.proofs.Common.{◌≡◌, true, drop}
use Rattle.hc_target.specs.PlainTargets.{is_plain_path}
use Rattle.hc_target.proofs.target.is_plain_path.Given as goal

abbrev pub invariant-loop-b : goal.invariant-loop-b
invariant-loop-b l = is_plain_path l.begins (drop l.b-index l.path) ≡ is_plain_path true l.path
