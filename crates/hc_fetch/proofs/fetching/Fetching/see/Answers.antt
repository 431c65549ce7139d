use Rattle.std.proofs.Common.{◌∙◌, refl, ap, Option, Some, ℕ}
use Rattle.hc_text.proofs.Basics.{none_of as none_is}
use Rattle.hc_fetch.specs.Bounds.{is_short}
use Rattle.hc_fetch.proofs.{Hearings.{sees_new}, Totals.{short_total}}
use Rattle.hc_fetch.proofs.fetching.Fetching.see.Goals as goal

pub invariant_of-self-clause-short : goal.invariant_of-self-clause-short
invariant_of-self-clause-short g c =
    ap is_short (c.total_of.ensures c.args.c c.args.r) ∙ short_total (record { c = c.args.c; r = c.args.r; status = c.args.status; fields = c.args.fields.now })

pub returns-then-is_none-clause-sees : goal.returns-then-is_none-clause-sees
returns-then-is_none-clause-sees g c =
    sees_new c.args.self.now _ (record { c = c.args.c; r = c.args.r; status = c.args.status; fields = c.args.fields.now }) c.decision-decides.result
    c.decision-decides.ensures.decides
    c.if-c-eq1.true (none_is c.args.self.now.first c.if-is_none.ensures)
    (ap (λ (t : Option ℕ). Some (record { r = c.args.r; total = t })) (c.total_of.ensures c.args.c c.args.r))
    (record { plan = refl; cache = refl; moment = refl; count = refl; decided = refl }) refl refl
