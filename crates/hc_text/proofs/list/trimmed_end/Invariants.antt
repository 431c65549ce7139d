use Rattle.std.{proofs.Common.{◌≡◌, ℕ, ◌<◌, ◌≤◌, true, get_or}, specs.Prelude.{slice_range}}
use Rattle.hc_text.specs.Elements.{trim_end, is_blank}
use Rattle.hc_text.proofs.list.trimmed_end.Given as goal

abbrev pub invariant-loop-end : goal.invariant-loop-end
invariant-loop-end l = record {
  after : l.start < l.end;
  within : l.end ≤ l.stop;
  same : trim_end (slice_range l.text l.start l.stop) ≡ trim_end (slice_range l.text l.start l.end);
  blanks : (k : ℕ) → l.end ≤ k → k < l.stop → is_blank (get_or l.text k 0) ≡ true;
}

abbrev pub decreases-loop-end : goal.decreases-loop-end
decreases-loop-end l = l.end
