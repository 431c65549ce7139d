use Rattle.std.proofs.Common.{refl}
use Rattle.hc_stored.specs.Rows.{rows_of, losing}
use Rattle.hc_stored.proofs.{GroupTies.{group_is}, ShelfLemmas.{updated-shelved, kept-slots}, RowLemmas.{shelved-lost}, CurrentLemmas.{slot-kept, ordered-same}}
use Rattle.hc_stored.proofs.entries.Entries.lose_shared.Goals as goal

pub invariant_of-self-clause-shelved : goal.invariant_of-self-clause-shelved
invariant_of-self-clause-shelved g c =
    let e = c.args.self.now in
    let r = c.args.r in
    let slots = g.B.Backend.slots e.store in
    let slot = slot-kept slots (rows_of e.rows r) c.requires in
    let f = losing c.lose_shared_in.result in
    updated-shelved e.shelved r slot.0 slot.1 f (λ h. h) (λ a. refl) c.lose_shared_in.ensures.rows (kept-slots slots slot.0)
    (λ a b is h. shelved-lost c.lose_shared_in.result a b h) (ordered-same e.shelved r f c.lose_shared_in.ensures.rows (λ a. refl))

pub returns-clause-group : goal.returns-clause-group
returns-clause-group g c = group_is (g.B.Backend.slots c.args.self.now.store) c.args.self.now.rows c.args.r
