use Rattle.std.proofs.Common.{◌++◌, ◌∙◌}
use Rattle.md5.specs.Md5.{md5}
use Rattle.hc_folder.specs.Sums.{sum_behind}
use Rattle.hc_folder.proofs.sum.sum_of_more.Goals as goal

pub returns : goal.returns
unfolding sum_behind
returns c =
    c.finalize.ensures _ (c.update-3.ensures _ (c.update-2.ensures _ (c.update.ensures _ c.new-hasher.ensures))) ∙
    (λ i. md5 ((c.args.sum.now ++ c.bytes_of-number.ensures i) ++ c.args.text.now))
