use Rattle.std.{proofs.Common.{◌≡◌, ℕ, None, refl, ap, ◌∙◌, nat_eq}, specs.HashMap.{get}}
use Rattle.hc_contents.specs.PlainContents.{plain_contents}
use Rattle.hc_core.proofs.BegunRows.{stands_before}
use Rattle.hc_core.proofs.rows.begin.before.Goals as goal

pub returns-clause-stands : goal.returns-clause-stands
returns-clause-stands g c =
    let none : (d : ℕ) → get nat_eq c.new.result d ≡ None = λ d. (let empty = c.new.ensures.empty in rw empty refl) in
    let entries = c.in-Ok.ensures in
    stands_before _ (plain_contents c.args.contents.now) refl c.from_number.ensures.next c.requires.first c.new.ensures.len none
    c.from_number.ensures.none c.new-2.ensures entries.nothing entries.order

pub returns-clause-limits : goal.returns-clause-limits
returns-clause-limits g c = ap (λ z. g.B.Backend.limits z) c.in-Ok.ensures.store ∙ c.requires.limits
