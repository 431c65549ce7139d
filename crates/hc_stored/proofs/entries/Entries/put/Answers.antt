use Rattle.std.proofs.Common.{◌+◌, length, refl, ap, ◌∙◌}
use Rattle.hc_store.specs.Slots.{Slots, puts}
use Rattle.hc_store.proofs.Weights.{weight-put}
use Rattle.hc_stored.specs.Rows.{rows_of, reaching}
use Rattle.hc_stored.proofs.{ShelfLemmas.{updated-shelved, cells-kept, live-slot, slot-number}, RowLemmas.{shelved-filled}, CurrentLemmas.{ordered-same}}
use Rattle.hc_stored.proofs.entries.Entries.put.Goals as goal

pub put-requires-clause-absent : goal.put-requires-clause-absent
put-requires-clause-absent g c = λ p le lt.
    let e = c.args.self.now in
    cells-kept (g.B.Backend.slots e.store) (rows_of e.rows c.args.r) c.slot_in.result.n c.slot_in.ensures p ∙ c.requires.absent p le lt

pub invariant_of-self-2-clause-shelved : goal.invariant_of-self-2-clause-shelved
invariant_of-self-2-clause-shelved g c =
    let e = c.args.self.now in
    let a = c.args in
    let f = reaching (a.at + length a.bytes.now) a.last in
    updated-shelved e.shelved a.r c.slot_in.result.n c.slot_in.ensures f (puts a.at a.x a.bytes.now a.last) (λ row. refl) c.fill_in.ensures
    (λ m. ap (λ (s : Slots). s m) c.in_ok-put.ensures.ok)
    (λ row held is h. shelved-filled a.at a.x a.bytes.now a.last row held c.requires.some h)
    (ordered-same e.shelved a.r f c.fill_in.ensures (λ row. refl))

pub returns-clause-used : goal.returns-clause-used
returns-clause-used g c =
    let e = c.args.self.now in
    let a = c.args in
    let slots = g.B.Backend.slots e.store in
    weight-put slots (g.B.Backend.slots c.put.new.self) c.slot_in.result.n a.at a.x a.bytes.now a.last
    (slot-number e.shelved a.r c.slot_in.result.n c.slot_in.ensures) (live-slot e.shelved a.r c.slot_in.result.n c.slot_in.ensures)
    (λ p le lt. cells-kept slots (rows_of e.rows a.r) c.slot_in.result.n c.slot_in.ensures p ∙ c.requires.absent p le lt) c.requires.end
    (λ m. ap (λ (s : Slots). s m) c.in_ok-put.ensures.ok)
