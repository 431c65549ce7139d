use Rattle.std.proofs.Common.{rules}
use Rattle.hc_contents.specs.PlainContents.{plain_contents}
use Rattle.hc_image.proofs.{Fitting.{image_of_good}, Written.{image_written}}
use Rattle.hc_image.proofs.laws.contents_have_images.Goals as goal

pub returns-clause-has : goal.returns-clause-has
returns-clause-has c = λ begins. image_of_good c.args.limits c.args.contents.now (search rules) begins

pub returns-clause-spelled : goal.returns-clause-spelled
returns-clause-spelled c = λ begins. image_written (plain_contents c.args.contents.now) (image_of_good c.args.limits c.args.contents.now (search rules) begins)
