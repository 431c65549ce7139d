use Rattle.std.proofs.Common.{◌≡◌, ℕ, List, Option, refl, sym, ap, ◌∙◌, arith}
use Rattle.slab.specs.Slab.{Slab}
use Rattle.hc_entry.specs.declared.seat.Stand.TheVariants as stand
use Rattle.hc_entry.specs.{Tournaments.{at}, Lines.{is_in}}
use Rattle.hc_entry.proofs.SeatLemmas.{no-seat, seated-entered, entered-in_line, entered-other}
use Rattle.hc_entry.proofs.line.KeyLine.enter.Goals as goal

pub invariant_of-self-2 : goal.invariant_of-self-2
invariant_of-self-2 c =
    let i = c.self.inside in
    let p : ℕ = c.vacant_key-place.result in
    let rise = c.self.invariant.distinct in
    let absent = no-seat c.args.c i.seats.entries rise (ap (is_in c.args.c) c.self.view_is ∙ c.requires) in
    let kept = ap (λ (s : Slab ℕ). s.slots) c.in_ok-reserve.ensures.rest_kept in
    let is : c.insert_reserved.result ≡ p = c.insert_reserved.ensures.key ∙ sym c.vacant_key-place.ensures.value in
    let vacant = sym (ap (λ (l : List (Option ℕ)). at l p) kept) ∙ c.vacant_key-place.ensures.vacant in
    let there = ap (at c.insert_reserved.new.self.slots) (sym is) ∙ c.insert_reserved.ensures.updates.changed in
    let more = c.in_ok-grow.ensures.ok in
    let capacity = c.capacity.ensures.value in
    let in_range = c.insert_reserved.ensures.key_in_range in
    let same_capacity = c.insert_reserved.ensures.capacity in
    seated-entered i.seats.entries i.places.slots i.in_line i.holder c.self.invariant c.args.c p absent
    c.insert.new.self.entries (record { changes = c.in_ok-insert.ensures.updates.0; distinct = c.in_ok-insert.ensures.unique })
    c.insert_reserved.new.self.slots c.grow.new.self vacant there
    (λ k off. c.insert_reserved.ensures.updates.others k (λ e. off (e ∙ is)) ∙ ap (λ (l : List (Option ℕ)). at l k) kept)
    c.in_ok-grow.ensures.same c.in_ok-grow.ensures.kept (omega arith) c.set.new.self c.set.ensures

pub returns-clause-ok : goal.returns-clause-ok
returns-clause-ok c =
    let i = c.self.inside in
    let p : ℕ = c.vacant_key-place.result in
    let rise = c.self.invariant.distinct in
    let absent = no-seat c.args.c i.seats.entries rise (ap (is_in c.args.c) c.self.view_is ∙ c.requires) in
    let kept = ap (λ (s : Slab ℕ). s.slots) c.in_ok-reserve.ensures.rest_kept in
    let is : c.insert_reserved.result ≡ p = c.insert_reserved.ensures.key ∙ sym c.vacant_key-place.ensures.value in
    rw (← c.self.view_is) (record {
      line = rw (
        entered-in_line i.seats.entries i.places.slots i.in_line i.holder c.self.invariant c.args.c p absent c.insert.new.self.entries
            (record { changes = c.in_ok-insert.ensures.updates.0; distinct = c.in_ok-insert.ensures.unique }),
        entered-other i.seats.entries i.places.slots i.in_line i.holder c.self.invariant c.args.c p absent c.insert.new.self.entries
            (record { changes = c.in_ok-insert.ensures.updates.0; distinct = c.in_ok-insert.ensures.unique }) stand.Passed refl,
        entered-other i.seats.entries i.places.slots i.in_line i.holder c.self.invariant c.args.c p absent c.insert.new.self.entries
            (record { changes = c.in_ok-insert.ensures.updates.0; distinct = c.in_ok-insert.ensures.unique }) stand.Away refl,
      ) refl;
      free = sym (ap (λ (l : List (Option ℕ)). at l p) kept) ∙ c.vacant_key-place.ensures.vacant;
      there = ap (at c.insert_reserved.new.self.slots) (sym is) ∙ c.insert_reserved.ensures.updates.changed;
      others = λ k off. c.insert_reserved.ensures.updates.others k (λ e. off (e ∙ is)) ∙ ap (λ (l : List (Option ℕ)). at l k) kept;
    })
