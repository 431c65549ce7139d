use Rattle.std.proofs.Common.{◌≡◌, length, vec_len, refl, arith, sym, ap, ◌∙◌}
use Rattle.hc_text.specs.Sorted.{place}
use Rattle.hc_text.proofs.SortedLemmas.{place-has, set-place, is_sorted-replaced}
use Rattle.hc_text.proofs.sorted.replace_in.Goals as goal

pub index_mut-requires : goal.index_mut-requires
index_mut-requires g c =
    let items = c.args.items.now.items in
    let n = g.T.Numbered.number c.args.item in
    let at : c.place_of-at.result ≡ place g.T.Numbered.number n items = rw (c.place_of-at.ensures.place, c.number.ensures, c.as_slice.ensures.value) refl in
    let within = place-has g.T.Numbered.number n items c.requires.ordered c.requires.there in
    let len : length items ≡ vec_len c.args.items.now = ap length (sym c.as_slice.ensures.value) ∙ c.as_slice.ensures.len in
    omega arith

pub returns-clause-items : goal.returns-clause-items
returns-clause-items g c =
    rw (c.place_of-at.ensures.place, c.number.ensures, c.as_slice.ensures.value)
    (set-place g.T.Numbered.number c.args.item c.args.items.now.items c.requires.ordered c.requires.there)

pub returns-clause-ordered : goal.returns-clause-ordered
returns-clause-ordered g c =
    rw (
      c.place_of-at.ensures.place,
      c.number.ensures,
      c.as_slice.ensures.value,
      set-place g.T.Numbered.number c.args.item c.args.items.now.items c.requires.ordered c.requires.there,
    )
    (is_sorted-replaced g.T.Numbered.number c.args.item c.args.items.now.items c.requires.ordered)
