use Rattle.std.proofs.Common.{◌≡◌, ℕ, ◌<◌, ◌^◌, Some, refl, ap, ◌∙◌, rules}
use Rattle.hc_record.specs.Plain.{plain}
use Rattle.hc_store.specs.Slots.{Slots, bare}
use Rattle.hc_store.proofs.Weights.{weight-new}
use Rattle.hc_stored.specs.{Begun.{begun_row}, Heads.{summary_of}, Rows.{Row, rows_of, with_row}}
use Rattle.hc_stored.proofs.{ShelfLemmas.{added-shelved, added-kept, same-shelved, same-slots, slots-back}, RowLemmas.{shelved-begun}, CurrentLemmas.{ordered-more, no-row}}
use Rattle.hc_stored.proofs.entries.Entries.begin_with.Goals as goal

pub invariant_of-self-in-Err-clause-shelved : goal.invariant_of-self-in-Err-clause-shelved
invariant_of-self-in-Err-clause-shelved g c =
    let e = c.args.self.now in
    let back = c.drop_slot-in-Err.ensures.dropped ∙
    slots-back c.in_ok-slot.slot.n (Some (bare (plain c.args.head.now))) (g.B.Backend.slots e.store) _ c.in_ok-slot.ensures.new c.in_ok-slot.ensures.ok in
    same-slots (same-shelved e.shelved c.in-Err.ensures.err) c.in-Err.ensures.unmoved back

pub invariant_of-self-in_default-keep_in-clause-shelved : goal.invariant_of-self-in_default-keep_in-clause-shelved
invariant_of-self-in_default-keep_in-clause-shelved g c =
    let a = c.args in
    let e = a.self.now in
    let n = c.in_ok-slot.slot.n in
    let number : n < 2 ^ 64 = search rules in
    let new = begun_row a.key n (summary_of (plain a.head.now)) in
    let adds : (q : ℕ) → rows_of c.keep_in.new.rows q ≡ with_row a.r (Some new) (rows_of e.rows) q = λ q. c.in_default-keep_in.ensures.ok q ∙
    ap (λ (row : Row). with_row a.r (Some row) (rows_of e.rows) q) c.in-Ok.ensures in
    rw c.in_default-keep_in.ensures.first
    (added-shelved e.shelved a.r new (bare (plain a.head.now)) (no-row e.shelved a.r c.requires.new) c.in_ok-slot.ensures.new adds
    (λ m. ap (λ (s : Slots). s m) c.in_ok-slot.ensures.ok)
    (shelved-begun a.key n (plain a.head.now) number)
    (ordered-more e.shelved a.r (Some new) adds refl))

pub returns-clause-ok : goal.returns-clause-ok
returns-clause-ok g c =
    let a = c.args in
    let e = a.self.now in
    let n = c.in_ok-slot.slot.n in
    let new = begun_row a.key n (summary_of (plain a.head.now)) in
    let adds : (q : ℕ) → rows_of c.keep_in.new.rows q ≡ with_row a.r (Some new) (rows_of e.rows) q = λ q. c.in_default-keep_in.ensures.ok q ∙
    ap (λ (row : Row). with_row a.r (Some row) (rows_of e.rows) q) c.in-Ok.ensures in
    record {
      kept = added-kept e.shelved a.r new (bare (plain a.head.now)) c.in_ok-slot.ensures.new adds (λ m. ap (λ (s : Slots). s m) c.in_ok-slot.ensures.ok);
      order = c.in_default-keep_in.ensures.first;
      limits = c.in_ok-slot.ensures.limits;
    }

pub returns-clause-used : goal.returns-clause-used
returns-clause-used g c =
    let n = c.in_ok-slot.slot.n in
    let number : n < 2 ^ 64 = search rules in
    weight-new (g.B.Backend.slots c.args.self.now.store) (g.B.Backend.slots c.create.new.self) n (plain c.args.head.now) number c.in_ok-slot.ensures.new
    (λ m. ap (λ (s : Slots). s m) c.in_ok-slot.ensures.ok)
