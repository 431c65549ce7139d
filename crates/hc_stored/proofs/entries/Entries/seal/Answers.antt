use Rattle.std.proofs.Common.{refl, ap}
use Rattle.hc_store.specs.Slots.{Slots, seals}
use Rattle.hc_stored.specs.Rows.{sealed_as}
use Rattle.hc_stored.proofs.{ShelfLemmas.{updated-shelved}, RowLemmas.{shelved-sealed}, CurrentLemmas.{ordered-same}}
use Rattle.hc_stored.proofs.entries.Entries.seal.Goals as goal

pub invariant_of-self-2-clause-shelved : goal.invariant_of-self-2-clause-shelved
invariant_of-self-2-clause-shelved g c =
    let e = c.args.self.now in
    let r = c.args.r in
    let f = sealed_as c.args.kind c.args.total in
    updated-shelved e.shelved r c.slot_in.result.n c.slot_in.ensures f (seals c.args.kind c.args.total) (λ a. refl) c.seal_in.ensures
    (λ m. ap (λ (s : Slots). s m) c.in_ok-seal.ensures.ok)
    (λ a b is h. shelved-sealed c.args.kind c.args.total a b h) (ordered-same e.shelved r f c.seal_in.ensures (λ a. refl))
