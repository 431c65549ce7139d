use Rattle.std.proofs.Common.{◌≡◌, true, subst}
use Rattle.hc_contents.specs.PlainContents.{plain_contents}
use Rattle.hc_effects.proofs.Vocabulary.{Limits, may_begin}
use Rattle.hc_saving.proofs.Opened.{fitting, unbegun}
use Rattle.hc_saving.proofs.begin.begin.Goals as goal

pub returns-in-Ok-clause-begun : goal.returns-in-Ok-clause-begun
returns-in-Ok-clause-begun c =
    let contents = plain_contents c.args.contents in
    record {
      fits = fitting c.args.limits contents (subst (λ (l : Limits). may_begin l contents ≡ true) c.in-Ok.ensures.limits c.in-Ok.ensures.stands.begins);
      stands = c.in-Ok.ensures.stands;
      serves = c.in-Ok.ensures.serves;
      unused = c.in-Ok.ensures.unused;
      limited = c.in-Ok.ensures.limits;
    }

pub returns-clause-none : goal.returns-clause-none
returns-clause-none c = rw c.refused_as.ensures (unbegun c.args.limits (plain_contents c.args.contents) c.in-Err.refused.why _ _ c.in-Err.ensures.refused.cause)
