use Rattle.std.proofs.Common.{arith, sym, ◌∙◌}
use Rattle.hc_folder.specs.Sums.{sum_behind}
use Rattle.hc_folder.proofs.Taking.{cut_text, right_text, wrong_text}
use Rattle.hc_folder.proofs.block.take_text.Goals as goal

pub returns-then-left-lt16 : goal.returns-then-left-lt16
returns-then-left-lt16 c = cut_text c.args.sum.now c.args.behind.now c.args.n c.ranges.n.fits (omega arith)

pub returns-then-right : goal.returns-then-right
returns-then-right c =
    let right = c.is_sum-right.ensures.yes c.if-right.true ∙ c.sum_of_more-due.ensures in (
      right_text c.args.sum.now c.args.behind.now c.args.n c.ranges.n.fits c.split_at.result.0.now c.split_at.result.1.now c.split_at-2.result.0.now
          c.split_at-2.result.1.now c.split_at.ensures.by_index.0 c.split_at-2.ensures.by_index.0 c.split_at.ensures.front_len
          c.split_at-2.ensures.front_len right,
      c.sum_of_more-due.ensures ∙ (λ i. sum_behind c.args.sum.now (sym c.split_at.ensures.front_len i) c.split_at.result.0.now),
      let long = c.split_at.ensures.front_len in let small = c.ranges.n.fits in omega (arith, long, small),
    )

pub returns-else-right : goal.returns-else-right
returns-else-right c =
    wrong_text c.args.sum.now c.args.behind.now c.args.n c.ranges.n.fits c.split_at.result.0.now c.split_at.result.1.now c.split_at-2.result.0.now
    c.split_at-2.result.1.now c.split_at.ensures.by_index.0 c.split_at-2.ensures.by_index.0 c.split_at.ensures.front_len c.split_at-2.ensures.front_len
    (λ is. c.is_sum-right.ensures.no c.if-right.false (is ∙ sym c.sum_of_more-due.ensures))
