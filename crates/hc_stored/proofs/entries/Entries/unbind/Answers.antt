use Rattle.std.proofs.Common.{refl, sym, ap, ◌∙◌, None}
use Rattle.hc_store.specs.Slots.{Slots}
use Rattle.hc_stored.specs.Rows.{rows_of, unused_by}
use Rattle.hc_stored.proofs.{GroupTies.{group_is}, ShelfLemmas.{updated-shelved, dropped-shelved, kept-slots}, RowLemmas.{shelved-left}, CurrentLemmas.{user-slot, slot-before, row-after, gone-after, kept-left, gone-left, ordered-same, ordered-left}, UserRows.{user-there}}
use Rattle.hc_stored.proofs.entries.Entries.unbind.Goals as goal

pub unbind_in-left-requires : goal.unbind_in-left-requires
unbind_in-left-requires g c =
    let e = c.args.self.now in
    user-there (g.B.Backend.slots e.store) c.args.c (rows_of e.rows c.args.r) c.requires

pub invariant_of-self-clause-shelved : goal.invariant_of-self-clause-shelved
invariant_of-self-clause-shelved g c =
    let e = c.args.self.now in
    let r = c.args.r in
    let f = unused_by c.args.c in
    let over = sym c.is_over.ensures ∙ c.if-is_over.true in
    let slot = slot-before f (λ a. refl) (rows_of e.rows r) (rows_of c.unbind_in-left.new.rows r) c.drop_in-slot.result.n
    (row-after (rows_of e.rows) r f c.unbind_in-left.ensures.rows) c.drop_in-slot.ensures.slot in
    let drops = gone-after (rows_of e.rows) r f c.unbind_in-left.ensures.rows c.drop_in-slot.ensures.changes in
    dropped-shelved e.shelved r c.drop_in-slot.result.n slot drops (λ m. ap (λ (s : Slots). s m) c.drop_slot.ensures.dropped)
    (ordered-left e.shelved r None drops (gone-left (rows_of e.rows) r c.args.c c.unbind_in-left.ensures.rows over) refl)

pub invariant_of-self-else-is_over-clause-shelved : goal.invariant_of-self-else-is_over-clause-shelved
invariant_of-self-else-is_over-clause-shelved g c =
    let e = c.args.self.now in
    let r = c.args.r in
    let f = unused_by c.args.c in
    let slots = g.B.Backend.slots e.store in
    let slot = user-slot slots c.args.c (rows_of e.rows r) c.requires in
    let over = sym c.is_over.ensures ∙ c.if-is_over.false in
    updated-shelved e.shelved r slot.0 slot.1 f (λ h. h) (λ a. refl) c.unbind_in-left.ensures.rows (kept-slots slots slot.0)
    (λ a b there h. shelved-left c.args.c a b (kept-left (rows_of e.rows) r c.args.c c.unbind_in-left.ensures.rows over a there) h)
    (ordered-same e.shelved r f c.unbind_in-left.ensures.rows (λ a. refl))

pub returns-then-is_over-clause-group : goal.returns-then-is_over-clause-group
returns-then-is_over-clause-group g c = group_is (g.B.Backend.slots c.args.self.now.store) c.args.self.now.rows c.args.r

pub returns-else-is_over-clause-group : goal.returns-else-is_over-clause-group
returns-else-is_over-clause-group g c = group_is (g.B.Backend.slots c.args.self.now.store) c.args.self.now.rows c.args.r
