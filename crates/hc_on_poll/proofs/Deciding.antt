-- What a transaction decides is the plan of what was looked at.
use Rattle.std.{proofs.Common.{◌≡◌, ℕ, Bool, Option, Some, refl, sym, ap, ◌∙◌}, specs.Prelude.{unwrap_or}}
use Rattle.hc_effects.proofs.Vocabulary.{Candidate, PlanView, plan_of}
use Rattle.hc_store.specs.declared.backend.Backend.{Ghosts}
use Rattle.hc_entry.specs.{Keys.{line_of}, Lines.{turn_with}}
use Rattle.hc_model.specs.Planning.{has_passed}
use Rattle.hc_state.specs.{declared.rows.Rows.{Rows}, Plans.{plan_view}}
use Rattle.hc_state.proofs.Passing.{passed_alike, kept_alike}
use Rattle.hc_txn.specs.{declared.transaction.Transaction.{Transaction}, Plans.{plan_view_by}}
use Rattle.hc_txn.specs.Transactions as txn

abbrev view_with : ℕ → ℕ → ℕ → Transaction → Candidate → Bool → Option ℕ → PlanView
view_with now c turn k seen passed kept =
    record { moment = now; since = k.since; c = c; class = k.class; passed = passed; kept = kept; turn = turn; current = Some seen }

pub decided : {B : Type 0} {g : Ghosts B} (r : Rows B g) (now c : ℕ) (k : Transaction) (view : PlanView) → view ≡ plan_view r now c k
    → (seen : Candidate) → plan_of (plan_view_by now c view.turn seen k) ≡ plan_of (record view { current = Some seen })
decided r now c k view is seen =
    let turn : ℕ = unwrap_or (turn_with c (line_of r.keys k.request.key)) c in
    ap (λ (n : ℕ). plan_of (plan_view_by now c n seen k)) (ap (λ (v : PlanView). v.turn) is)
    ∙ (ap (λ (b : Bool). plan_of (view_with now c turn k seen b (txn.kept_by k.place))) (passed_alike k.place)
    ∙ (ap (λ (m : Option ℕ). plan_of (view_with now c turn k seen (has_passed k.place) m)) (kept_alike k.place)
    ∙ ap (λ (v : PlanView). plan_of (record v { current = Some seen })) (sym is)))
