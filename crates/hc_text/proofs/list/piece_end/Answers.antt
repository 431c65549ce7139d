use Rattle.std.proofs.Common.{◌+◌, arith}
use Rattle.hc_text.specs.Elements.{Outside, Within}
use Rattle.hc_text.proofs.ElementLemmas.{cut_start, cut_plain, cut_quote, cut_on}
use Rattle.hc_text.proofs.list.piece_end.Goals as goal

pub loop-at-init : goal.loop-at-init
loop-at-init c = record {
  from = omega arith;
  inside = omega arith;
  piece = cut_start c.args.text.now c.args.start Outside;
}

pub loop-at-preserved-then-text-at-eq34 : goal.loop-at-preserved-then-text-at-eq34
loop-at-preserved-then-text-at-eq34 c =
    let text = c.args.text.now in
    let at = c.loop-at.at in
    let opened = cut_quote text c.args.start at c.loop-at.invariant.from c.loop-at-test.true c.if-text-at-eq34.true c.loop-at.invariant.piece in
    record {
      from = omega arith;
      inside = omega arith;
      piece = cut_on text c.args.start (at + 1) c.string_end-at.result Outside Within
          Outside (omega arith) c.string_end-at.ensures.bounds.0 opened c.string_end-at.ensures.string;
    }

pub loop-at-preserved : goal.loop-at-preserved
loop-at-preserved c = record {
  from = omega arith;
  inside = omega arith;
  piece = cut_plain c.args.text.now c.args.start c.loop-at.at c.loop-at.invariant.from c.loop-at-test.true c.if-text-at-ne44.true c.if-text-at-eq34.false
      c.loop-at.invariant.piece;
}
