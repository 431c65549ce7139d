use Rattle.std.proofs.Common.{◌∙◌, ap}
use Rattle.hc_folder.specs.ImageFiles.{image_file, image_sum}
use Rattle.hc_keeping.proofs.image.new_image.Goals as goal

pub returns : goal.returns
returns c =
    let written = c.in_ok-file.ensures in
    record {
      file_is = c.in_ok-sum.ensures.ok ∙ ap (λ l. image_file l c.args.number) written;
      sum_is = c.in_ok-sum.ensures.sum ∙ ap (λ l. image_sum l c.args.number) written;
    }
