use Rattle.std.proofs.Common.{◌++◌, ◌∙◌}
use Rattle.hc_folder.specs.Blocks.{head_of}
use Rattle.hc_folder.proofs.Taking.{parts_written}
use Rattle.hc_folder.proofs.block.write_parts.Goals as goal

pub returns-clause-ok : goal.returns-clause-ok
unfolding head_of
returns-clause-ok c =
    parts_written c.args.to.now.items c.append.new.to.items c.append-2.new.to.items c.append-3.new.to.items c.append-4.new.to.items c.bytes_of-number.result
    c.sum_of_more-head_sum.result c.args.text.now c.sum_of_more-text_sum.result c.in_ok-append.ensures.ok c.in_ok-append-2.ensures.ok
    c.in_ok-append-3.ensures.ok c.in_ok-append-4.ensures.ok ∙
    (λ i. c.args.to.now.items ++ ((c.bytes_of-number.ensures i ++ c.sum_of_more-head_sum.ensures i) ++ (c.args.text.now ++ c.sum_of_more-text_sum.ensures i)))
