use Rattle.std.proofs.Common.{◌≡◌, codes, rules}
use Rattle.hc_image.proofs.Skipped.{second_is, after_tag}
use Rattle.hc_image.proofs.record.skip_tag.Goals as goal

pub returns : goal.returns
returns c = λ v head after own text same.
    let is : c.args.version.now ≡ codes "record 2" = search (rules, c.if-ne.ensures, c.if-ne.false) in
    let second = second_is v c.args.version.now text is in
    after_tag head after c.args.rest.now c.in_ok-_tag._tag.now c.take_to.new.self own (rw second at same) c.in_ok-_tag.ensures.0 c.in_ok-_tag.ensures.1
