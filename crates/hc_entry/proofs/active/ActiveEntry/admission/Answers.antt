use Rattle.std.{proofs.Common.{ℕ, ap, ◌∙◌}, specs.Prelude.{Option}}
use Rattle.hc_entry.specs.Used.{admission_by}
use Rattle.hc_entry.proofs.AdmissionLemmas.{admission-map}
use Rattle.hc_entry.proofs.active.ActiveEntry.admission.Goals as goal

pub returns : goal.returns
returns c =
    let e = c.args.self.now in
    c.admission_by.ensures ∙ (ap (λ (o : Option ℕ). admission_by c.args.kind o c.args.ranged c.args.holes) c.least_bound.ensures
    ∙ admission-map c.args.kind e.bound.items c.args.ranged c.args.holes e.used.ascending)
