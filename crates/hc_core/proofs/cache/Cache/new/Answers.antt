use Rattle.std.{proofs.Common.{◌≡◌, ℕ, None, refl, ap, ◌∙◌, arith, nat_eq}, specs.HashMap.{get}}
use Rattle.hc_core.proofs.Stepping.{begins_good, stands_beginning}
use Rattle.hc_core.proofs.cache.Cache.new.Goals as goal

pub invariant_of-result : goal.invariant_of-result
invariant_of-result g c =
    let none : (d : ℕ) → get nat_eq c.new.result d ≡ None = λ d. (let empty = c.new.ensures.empty in rw empty refl) in
    let first = c.new-2.ensures.next in
    let entries = c.in_ok-new.ensures in
    record {
      good = λ _. (
        ∣ begins_good _ refl first c.new.ensures.len none c.new-2.ensures.none c.new-3.ensures entries.nothing entries.order ∣₁,
        omega (arith, first),
        omega arith,
        omega arith,
      );
    }

pub returns-clause-stands : goal.returns-clause-stands
returns-clause-stands g c =
    let none : (d : ℕ) → get nat_eq c.new.result d ≡ None = λ d. (let empty = c.new.ensures.empty in rw empty refl) in
    let entries = c.in_ok-new.ensures in
    stands_beginning _ refl refl c.new-2.ensures.next c.new.ensures.len none c.new-2.ensures.none c.new-3.ensures entries.nothing entries.order

pub returns-clause-limits : goal.returns-clause-limits
returns-clause-limits g c = ap (λ z. g.B.Backend.limits z) c.in_ok-new.ensures.store ∙ c.requires.limits
