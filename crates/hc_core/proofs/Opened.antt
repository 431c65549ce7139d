-- An event that is answered opens one exchange at most.
use Rattle.std.proofs.{lemmas.Bool.Decides.{nat_tests}, Common.{◌≡◌, ℕ, ◌+◌, ◌<◌, ◌≤◌, ◌^◌, List, [], ◌∷◌, ◌++◌, Option, Some, None, refl, ap, sym, ◌∙◌, arith}}
use Rattle.hc_store.specs.declared.backend.Backend.{Ghosts}
use Rattle.hc_effects.proofs.Vocabulary.{Act, Refusal, Event, Limits, refusal_of, denial, Flaw, entry_of, Tables, Sound, after_accepted, act}
use Rattle.hc_exch.specs.Exchanges.{next_of}
use Rattle.hc_effects.proofs.NumbersKeep.{opens_next}
use Rattle.hc_state.specs.{declared.rows.Rows.{Rows}, Good.{StandsUntil}, Stands.{Stands, Answers, gate_of}}
use Rattle.hc_state.proofs.Maps.{merely_below}
use Rattle.hc_on_leave.proofs.Gates.{denies_as}
use Rattle.hc_core.proofs.Standing.{stands_of_runs}

opens_one : (limits : Limits) (t : Tables) (now : ℕ) (flaw : Flaw) → Sound t → (ev : Event) → denial t ev ≡ None →
    (after_accepted t (entry_of limits t now ev flaw)).opened ≤ t.opened + 1
opens_one limits t now flaw sound ev free = grind (arith, nat_tests, opens_next)

module _ {B : Type 0} {g : Ghosts B} (r u : Rows B g) (before out : List Act) (now : ℕ) (ev : Event)
    (denied : (why : Refusal) → refusal_of (gate_of r ev) ev ≡ Some why → (u ≡ r) × (out ≡ before ++ act.Denied why ∷ []))
    (answers : refusal_of (gate_of r ev) ev ≡ None → Answers r u before out now ev) where
  by_gate : Stands r → (z : Option Refusal) → refusal_of (gate_of r ev) ev ≡ z → next_of u.exchanges ≤ next_of r.exchanges + 1
  by_gate s None is =
      let free = sym (denies_as r s.t ev s.rows) ∙ is in
      let done = answers is s.limits s.t s.facts s.rows free in
      let one = opens_one s.limits s.t now done.flaw s.facts.law.sound ev free in
      grind (arith, nat_tests)
  by_gate s (Some why) is = let same : next_of u.exchanges ≡ next_of r.exchanges = ap (λ (z : Rows B g). next_of z.exchanges) (denied why is).0 in omega (arith, same)

  pub next_after : (bytes : ℕ) → bytes < 2 ^ 61 → (last : ℕ) → ∥ StandsUntil r bytes last ∥₁ → next_of u.exchanges ≤ next_of r.exchanges + 1
  next_after bytes small last some =
      let lt = merely_below (next_of u.exchanges) (next_of r.exchanges + 2) some
      (λ s. (let le = by_gate (stands_of_runs r bytes small s.0) (refusal_of (gate_of r ev) ev) refl in omega (arith, le))) in
      omega (arith, lt)
