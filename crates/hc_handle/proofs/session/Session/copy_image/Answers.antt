use Rattle.std.proofs.Common.{refl, ◌∙◌, arith, rules}
use Rattle.hc_binary.proofs.Rooms.{holds_from}
use Rattle.hc_handle.proofs.TextPieces.{keeps_same}
use Rattle.hc_handle.proofs.session.Session.copy_image.Goals as goal

pub invariant_of-self : goal.invariant_of-self
invariant_of-self c =
    let s = c.args.self.now in
    let stays = c.image_of.ensures.stays in
    record {
      tied = λ ready. stays.failed ∙ s.tied ready;
      silent = s.silent;
      unreported = s.unreported;
      no_text = s.no_text;
      early = λ ready. let at = stays.moment in let before = s.early ready in omega (arith, at, before);
      goes_on = keeps_same s.schedule _ _ _ _ _ _ s.spent stays.moment stays.steps stays.received s.goes_on;
    }

pub returns : goal.returns
returns c = record {
  copied = (
    c.if-self.false,
    omega (arith, c.live.ensures.kept, c.if-live-gt0.false),
    c.in_ok-image.image.items,
    c.in_ok-image.ensures.image,
    search (arith, rules),
    (c.put.result, rw c.deref.ensures.value at (holds_from _ _ _ _ c.put.ensures.puts)),
  );
  stays = c.image_of.ensures.stays;
  spent = refl;
  acts = refl;
  reported = refl;
  text = refl;
}
