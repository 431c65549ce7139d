use Rattle.std.proofs.Common.{sym, subst, ◌∙◌}
use Rattle.hc_folder.specs.Blocks.{IsTaken}
use Rattle.hc_folder.proofs.Taking.{cut_head, right_head, wrong_head}
use Rattle.hc_folder.proofs.block.take_block.Goals as goal

pub returns-then-file-lt24 : goal.returns-then-file-lt24
returns-then-file-lt24 c = cut_head c.args.sum.now c.args.file.now c.if-file-lt24.true

pub returns-then-right : goal.returns-then-right
returns-then-right c =
    let right = c.is_sum-right.ensures.yes c.if-right.true ∙ c.sum_of_more-due.ensures in
    let whole = right_head c.args.sum.now c.args.file.now c.split_at.result.0.now c.split_at.result.1.now c.split_at-2.result.0.now
    c.split_at-2.result.1.now c.number_in-n.result c.split_at.ensures.by_index.0 c.split_at-2.ensures.by_index.0 c.split_at.ensures.front_len
    c.split_at-2.ensures.front_len c.number_in-n.ensures.small c.number_in-n.ensures.bytes right in
    subst (λ l. IsTaken c.args.sum.now l c.take_text.result) whole c.take_text.ensures

pub returns-else-right : goal.returns-else-right
returns-else-right c =
    wrong_head c.args.sum.now c.args.file.now c.split_at.result.0.now c.split_at.result.1.now c.split_at-2.result.0.now c.split_at-2.result.1.now
    c.number_in-n.result c.split_at.ensures.by_index.0 c.split_at-2.ensures.by_index.0 c.split_at.ensures.front_len c.split_at-2.ensures.front_len
    c.number_in-n.ensures.small c.number_in-n.ensures.bytes (λ is. c.is_sum-right.ensures.no c.if-right.false (is ∙ sym c.sum_of_more-due.ensures))
