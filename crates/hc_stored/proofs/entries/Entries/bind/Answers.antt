use Rattle.std.proofs.Common.{refl}
use Rattle.hc_stored.specs.Rows.{rows_of, used_by}
use Rattle.hc_stored.proofs.{ShelfLemmas.{updated-shelved, kept-slots, same-shelved}, RowLemmas.{shelved-bound}, CurrentLemmas.{admits-row, absent-user, ordered-first}}
use Rattle.hc_stored.proofs.entries.Entries.bind.Goals as goal

pub invariant_of-self : goal.invariant_of-self
invariant_of-self g c = let e = c.args.self.now in record { limited = e.limited; shelved = same-shelved e.shelved c.in_err-bind_in.ensures.err }

pub invariant_of-self-2-clause-shelved : goal.invariant_of-self-2-clause-shelved
invariant_of-self-2-clause-shelved g c =
    let e = c.args.self.now in
    let r = c.args.r in
    let slots = g.B.Backend.slots e.store in
    let is = admits-row slots c.args.c (rows_of e.rows r) c.requires in
    let f = used_by c.args.c in
    rw c.move_first.ensures (updated-shelved e.shelved r is.0 is.1 f (λ h. h) (λ a. refl) c.in_ok-bind_in.ensures.ok (kept-slots slots is.0)
    (λ a b there h. shelved-bound c.args.c a b (absent-user c.args.c (rows_of e.rows r) a there is.3) h)
    (ordered-first e.shelved r f c.in_ok-bind_in.ensures.ok is.2 (λ a. refl)))
