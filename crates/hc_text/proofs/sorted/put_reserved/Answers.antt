use Rattle.std.{proofs.Common.{◌≡◌, true}, specs.Result.{is_ok}}
use Rattle.hc_text.proofs.SortedLemmas.{insert-place, is_sorted-with}
use Rattle.hc_text.proofs.sorted.put_reserved.Goals as goal

pub returns-clause-items : goal.returns-clause-items
returns-clause-items g c =
    let ok : is_ok c.insert.result ≡ true = c.insert.ensures.succeeds c.requires.room in
    rw (c.insert.ensures.items, ok, c.place_of-at.ensures.place, c.number.ensures, c.as_slice.ensures.value)
    (insert-place g.T.Numbered.number c.args.item c.args.items.now.items)

pub returns-clause-ordered : goal.returns-clause-ordered
returns-clause-ordered g c =
    let ok : is_ok c.insert.result ≡ true = c.insert.ensures.succeeds c.requires.room in
    rw (
      c.insert.ensures.items,
      ok,
      c.place_of-at.ensures.place,
      c.number.ensures,
      c.as_slice.ensures.value,
      insert-place g.T.Numbered.number c.args.item c.args.items.now.items,
    )
    (is_sorted-with g.T.Numbered.number c.args.item c.args.items.now.items c.requires.ordered c.requires.absent)
