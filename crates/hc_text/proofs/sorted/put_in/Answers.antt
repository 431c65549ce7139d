use Rattle.hc_text.proofs.SortedLemmas.{insert-place, is_sorted-with}
use Rattle.hc_text.proofs.sorted.put_in.Goals as goal

pub returns-clause-ok : goal.returns-clause-ok
returns-clause-ok g c =
    rw (c.in_ok-insert.ensures.items, c.place_of-at.ensures.place, c.number.ensures, c.as_slice.ensures.value)
    (insert-place g.T.Numbered.number c.args.item c.args.items.now.items)

pub returns-clause-ordered : goal.returns-clause-ordered
returns-clause-ordered g c =
    rw (
      c.in_ok-insert.ensures.items,
      c.place_of-at.ensures.place,
      c.number.ensures,
      c.as_slice.ensures.value,
      insert-place g.T.Numbered.number c.args.item c.args.items.now.items,
    )
    (is_sorted-with g.T.Numbered.number c.args.item c.args.items.now.items c.requires.ordered c.requires.absent)
