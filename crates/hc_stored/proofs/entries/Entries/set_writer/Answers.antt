use Rattle.std.proofs.Common.{refl}
use Rattle.hc_stored.specs.Rows.{rows_of, written_in}
use Rattle.hc_stored.proofs.{ShelfLemmas.{updated-shelved, kept-slots, same-shelved}, RowLemmas.{shelved-written}, CurrentLemmas.{slot-kept, ordered-same}, UserRows.{either_way, fresh-row}}
use Rattle.hc_stored.proofs.entries.Entries.set_writer.Goals as goal

pub write_in-requires : goal.write_in-requires
write_in-requires g c =
    let e = c.args.self.now in
    fresh-row (g.B.Backend.slots e.store) (rows_of e.rows c.args.r) c.requires.there c.requires.fresh

pub invariant_of-self-clause-shelved : goal.invariant_of-self-clause-shelved
invariant_of-self-clause-shelved g c =
    let e = c.args.self.now in
    let r = c.args.r in
    let slots = g.B.Backend.slots e.store in
    let slot = slot-kept slots (rows_of e.rows r) c.requires.there in
    let f = written_in c.args.x in
    either_way c.write_in.result c.write_in.ensures.ok c.write_in.ensures.err
    (λ done. updated-shelved e.shelved r slot.0 slot.1 f (λ h. h) (λ a. refl) done (kept-slots slots slot.0)
    (λ a b is h. shelved-written c.args.x a b h) (ordered-same e.shelved r f done (λ a. refl)))
    (λ same. same-shelved e.shelved same)
