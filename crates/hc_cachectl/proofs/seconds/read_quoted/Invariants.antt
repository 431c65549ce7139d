use Rattle.std.{proofs.Common.{◌≡◌, ◌≤◌, ◌-◌, length, drop}, specs.Option.{option_and_then, unwrap_or}}
use Rattle.hc_cachectl.specs.Seconds.{most_seconds, plain_seconds, quoted_content}
use Rattle.hc_cachectl.proofs.Steps.{quoted_after}
use Rattle.hc_cachectl.proofs.seconds.read_quoted.Given as goal

abbrev pub invariant-loop-at : goal.invariant-loop-at
invariant-loop-at l = record {
  inside : l.at ≤ length l.text;
  small : unwrap_or l.seconds 0 ≤ most_seconds;
  seconds : quoted_after l.seconds (drop l.at l.text) ≡ option_and_then plain_seconds (quoted_content l.text);
}

abbrev pub decreases-loop-at : goal.decreases-loop-at
decreases-loop-at l = length l.text - l.at
