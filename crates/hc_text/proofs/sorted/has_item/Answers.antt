use Rattle.std.{proofs.Common.{◌≡◌, Option, Some, None, refl, sym, ap, ◌∙◌, Bor}, specs.Option.{option_copied, is_some}}
use Rattle.hc_text.proofs.SortedLemmas.{has-found}
use Rattle.hc_text.proofs.sorted.has_item.Goals as goal

is_some-copied : {X : Type 0} (o : Option (Bor X)) → is_some o ≡ is_some (option_copied o)
is_some-copied None = refl
is_some-copied (Some x) = refl

pub returns : goal.returns
returns g c =
    c.is_some.ensures ∙ (is_some-copied c.item_at.result ∙ (ap is_some c.item_at.ensures ∙ sym (has-found g.T.Numbered.number c.args.n c.args.items.now)))
