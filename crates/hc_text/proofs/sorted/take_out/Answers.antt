use Rattle.std.proofs.Common.{◌≡◌, length, vec_len, not, refl, arith, sym, ap, ◌∙◌, Some}
use Rattle.hc_text.specs.Sorted.{is_at, place}
use Rattle.hc_text.proofs.SortedLemmas.{place-has, remove-place, found-has, is_sorted-filter}
use Rattle.hc_text.proofs.sorted.take_out.Goals as goal

pub remove-requires : goal.remove-requires
remove-requires g c =
    let items = c.args.items.now.items in
    let at : c.place_of-at.result ≡ place g.T.Numbered.number c.args.n items = rw (c.place_of-at.ensures.place, c.as_slice.ensures.value) refl in
    let within = place-has g.T.Numbered.number c.args.n items c.requires.ordered c.requires.there in
    let len : length items ≡ vec_len c.args.items.now = ap length (sym c.as_slice.ensures.value) ∙ c.as_slice.ensures.len in
    omega arith

pub returns-clause-value : goal.returns-clause-value
returns-clause-value g c =
    found-has g.T.Numbered.number c.args.n c.args.items.now.items c.remove.result c.requires.ordered c.requires.there
    ∙ ap Some (sym (c.remove.ensures.value ∙ rw (c.place_of-at.ensures.place, c.as_slice.ensures.value)))

pub returns-clause-items : goal.returns-clause-items
returns-clause-items g c =
    rw (c.remove.ensures.items, c.place_of-at.ensures.place, c.as_slice.ensures.value)
    (remove-place g.T.Numbered.number c.args.n c.args.items.now.items c.requires.ordered c.requires.there)

pub returns-clause-ordered : goal.returns-clause-ordered
returns-clause-ordered g c =
    rw (
      c.remove.ensures.items,
      c.place_of-at.ensures.place,
      c.as_slice.ensures.value,
      remove-place g.T.Numbered.number c.args.n c.args.items.now.items c.requires.ordered c.requires.there,
    )
    (is_sorted-filter g.T.Numbered.number (λ x. not (is_at g.T.Numbered.number c.args.n x)) c.args.items.now.items c.requires.ordered)
