use Rattle.std.{proofs.{Common.{ap, ◌∙◌, sym}, lemmas.Bool.{ltb-true, ltb-false}}, specs.Option.{option_copied}}
use Rattle.hc_text.proofs.SortedLemmas.{found_here, found_other, found_past}
use Rattle.hc_text.proofs.sorted.item_at.Goals as goal

pub returns-in_err-item : goal.returns-in_err-item
returns-in_err-item g c =
    ap option_copied c.from_residual.ensures
    ∙ found_past g.T.Numbered.number c.args.n c.args.items.now c.place_of.result c.place_of.ensures.place (ltb-false _ _ (sym c.in_err-item.ensures.lookup.0))

pub returns-then-number-n : goal.returns-then-number-n
returns-then-number-n g c =
    let h = c.in_ok-item.ensures.lookup in
    found_here g.T.Numbered.number c.args.n c.args.items.now c.place_of.result c.in_ok-item.item.now c.requires c.place_of.ensures.place
    (ltb-true _ _ (sym h.0)) h.1 (sym c.number.ensures ∙ c.if-number-n.true)

pub returns-else-number-n : goal.returns-else-number-n
returns-else-number-n g c =
    let h = c.in_ok-item.ensures.lookup in
    found_other g.T.Numbered.number c.args.n c.args.items.now c.place_of.result c.in_ok-item.item.now c.requires c.place_of.ensures.place
    (ltb-true _ _ (sym h.0)) h.1 (λ e. c.if-number-n.false (c.number.ensures ∙ e))
