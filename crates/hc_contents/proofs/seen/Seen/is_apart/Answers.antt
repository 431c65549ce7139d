use Rattle.std.{proofs.Common.{◌+◌, ◌∙◌, ap, sym, not, drop}, specs.Prelude.{◌&&◌}}
use Rattle.hc_model.specs.Beginnings.{has_own_numbers}
use Rattle.hc_contents.specs.PlainContents.{plain_item}
use Rattle.hc_contents.proofs.seen.Seen.is_apart.Goals as goal

pub returns-then-not-has_key : goal.returns-then-not-has_key
returns-then-not-has_key c = λ contents earlier items knows below same.
    let own = has_own_numbers contents earlier (plain_item c.args.item.now) (drop (c.args.i + 1) items) in
    c.has_own_numbers.ensures contents earlier items knows below same
    ∙ ap (λ b. b && own) (sym (ap not (sym (c.has_key.ensures earlier items knows) ∙ c.if-not-has_key.true)))

pub returns-else-not-has_key : goal.returns-else-not-has_key
returns-else-not-has_key c = λ contents earlier items knows below same.
    let own = has_own_numbers contents earlier (plain_item c.args.item.now) (drop (c.args.i + 1) items) in
    ap not c.if-not-has_key.false
    ∙ ap (λ b. b && own) (sym (ap not (sym (c.has_key.ensures earlier items knows) ∙ c.if-not-has_key.false)))
