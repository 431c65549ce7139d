use Rattle.std.{proofs.Common.{◌≡◌, cond, drop}, specs.Prelude.{slice_range}}
use Rattle.hc_text.specs.Elements.{cut_pieces, begin_with, Within, Taken}
use Rattle.hc_text.proofs.list.string_end.Given as goal

abbrev pub invariant-loop-at : goal.invariant-loop-at
invariant-loop-at l = cut_pieces Within
    (drop l.start l.text) ≡ begin_with (slice_range l.text l.start l.at) (cut_pieces (cond l.taken Taken Within) (drop l.at l.text))
