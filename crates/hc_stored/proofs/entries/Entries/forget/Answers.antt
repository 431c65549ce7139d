use Rattle.std.proofs.Common.{refl, sym, ap, ◌∙◌, None}
use Rattle.hc_store.specs.Slots.{Slots}
use Rattle.hc_stored.specs.Rows.{rows_of, going}
use Rattle.hc_stored.proofs.{ShelfLemmas.{updated-shelved, dropped-shelved, kept-slots}, RowLemmas.{shelved-going}, CurrentLemmas.{slot-kept, slot-before, row-after, gone-after, used-gone, ordered-going, ordered-out}}
use Rattle.hc_stored.proofs.entries.Entries.forget.Goals as goal

pub invariant_of-self-clause-shelved : goal.invariant_of-self-clause-shelved
invariant_of-self-clause-shelved g c =
    let e = c.args.self.now in
    let r = c.args.r in
    let slot = slot-before going (λ a. refl) (rows_of e.rows r) (rows_of c.go_in.new.rows r) c.drop_in-slot.result.n
    (row-after (rows_of e.rows) r going c.go_in.ensures) c.drop_in-slot.ensures.slot in
    let drops = gone-after (rows_of e.rows) r going c.go_in.ensures c.drop_in-slot.ensures.changes in
    rw c.take_out.ensures (dropped-shelved e.shelved r c.drop_in-slot.result.n slot drops (λ m. ap (λ (s : Slots). s m) c.drop_slot.ensures.dropped)
    (ordered-out e.shelved r None drops refl))

pub invariant_of-self-else-is_over-clause-shelved : goal.invariant_of-self-else-is_over-clause-shelved
invariant_of-self-else-is_over-clause-shelved g c =
    let e = c.args.self.now in
    let r = c.args.r in
    let slots = g.B.Backend.slots e.store in
    let slot = slot-kept slots (rows_of e.rows r) c.requires in
    let over = sym c.is_over.ensures ∙ c.if-is_over.false in
    rw c.take_out.ensures (updated-shelved e.shelved r slot.0 slot.1 going (λ h. h) (λ a. refl) c.go_in.ensures (kept-slots slots slot.0)
    (λ a b there h. shelved-going a b (used-gone (rows_of e.rows) r c.go_in.ensures over a there) h) (ordered-going e.shelved r c.go_in.ensures))
