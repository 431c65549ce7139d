use Rattle.std.{proofs.Common.{◌≡◌, ◌≤◌, drop}, specs.Option.{unwrap_or}}
use Rattle.hc_cachectl.specs.Seconds.{most_seconds, plain_seconds}
use Rattle.hc_cachectl.proofs.Steps.{seconds_after}
use Rattle.hc_cachectl.proofs.seconds.read_delta_seconds.Given as goal

abbrev pub invariant-loop-digit : goal.invariant-loop-digit
invariant-loop-digit l = record {
  small : unwrap_or l.seconds 0 ≤ most_seconds;
  seconds : seconds_after l.seconds (drop l.digit-index l.digits) ≡ plain_seconds l.digits;
}
