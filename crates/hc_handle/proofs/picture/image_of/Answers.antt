use Rattle.std.proofs.lemmas.Result.{IfOk-weaker}
use Rattle.hc_contents.specs.PlainContents.{plain_contents}
use Rattle.hc_core.specs.Steps.{limits_in}
use Rattle.hc_handle.proofs.Larger.{may_more}
use Rattle.hc_handle.proofs.picture.image_of.Goals as goal

pub returns-clause-image : goal.returns-clause-image
returns-clause-image c = IfOk-weaker c.write_image.result _ _ (λ image written. record {
  contents = plain_contents c.in_ok-contents.contents;
  image_is = written;
  left = λ before h stands. c.in_ok-contents.ensures.reported before h stands;
  begins = λ few limits entry total. may_more (limits_in c.args.cache.now) limits (plain_contents c.in_ok-contents.contents) entry total
      (c.in_ok-contents.ensures.fits few);
}) c.write_image.ensures
