use Rattle.std.proofs.{Common.{rules, arith}, lemmas.Result.{IfOk-weaker}}
use Rattle.hc_contents.specs.PlainContents.{plain_contents}
use Rattle.hc_effects.proofs.Vocabulary.{no_contents}
use Rattle.hc_core.specs.Steps.{limits_in}
use Rattle.hc_image.proofs.{Fitting.{image_of_good}, Written.{image_written}}
use Rattle.hc_saving.proofs.Saved.{image_left}
use Rattle.hc_saving.proofs.leaving.image_left.Goals as goal

pub returns : goal.returns
returns c =
    let few = c.requires.few in
    let found = plain_contents c.in_ok-contents.contents in
    IfOk-weaker c.write_image.result _ _ (λ image written h stands count.
    image_left (limits_in c.args.cache) h found (c.in_ok-contents.ensures.left no_contents h stands) (omega (arith, few, count))
    c.in_ok-contents.ensures.fits
    (λ begins. image_written found (image_of_good (limits_in c.args.cache) c.in_ok-contents.contents (search rules) begins))
    image.items written) c.write_image.ensures
