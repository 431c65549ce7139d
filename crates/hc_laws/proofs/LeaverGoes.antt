-- A live consumer that is cancelled leaves, and nobody else does.
use Rattle.std.{proofs.{Common.{◌≡◌, inl, inr, ℕ, Bool, true, false, refl, sym, ◌∙◌, subst, arith}, lemmas.Bool.Decides.{nat_tests}}, specs.Prelude.{nat_eq}}
use Rattle.hc_effects.proofs.Vocabulary.{leaves_in, Event, Limits, is_live, Entry, Lawful, Tables, IsOwed, after, event}
use Rattle.hc_model.specs.Live.{WhoLeavesGoes}
use Rattle.hc_laws.proofs.{Accepted.{is_accepted}, LiveAfter.{Starts, was_live}, StaysLive.{stays_live}, WhoLeaves.{cancel_goes, cancelled_over, leaver_polls}}

-- whom an event cancels
abbrev who : Event → ℕ
who (event.Cancel c) = c
who _ = 0

module _ (limits : Limits) (t : Tables) (law : Lawful t) (e : Entry) (c : ℕ) (is : IsOwed limits t e) (at : e.event ≡ event.Cancel c) where
  -- nobody is told the end or a failure by it
  quiet : (d : ℕ) → leaves_in d e.acts ≡ false
  quiet d = by_test (leaves_in d e.acts) refl
    where
      by_test : (b : Bool) → leaves_in d e.acts ≡ b → leaves_in d e.acts ≡ false
      by_test false off = off
      by_test true on =
          let p = leaver_polls limits t e law is d on in
          absurd (let never : event.Cancel c ≡ event.Poll d p.want = sym at ∙ p.at in cc)

  others : (d : ℕ) → nat_eq d c ≡ false → is_live ((after t e).consumer d) ≡ is_live (t.consumer d)
  others d far = by_test (is_live (t.consumer d)) refl
    where
      other : e.event ≡ event.Cancel d → ⊥
      other is_d = let never : true ≡ false = grind (arith, nat_tests) in cc

      by_test : (b : Bool) → is_live (t.consumer d) ≡ b → is_live ((after t e).consumer d) ≡ is_live (t.consumer d)
      by_test true on = stays_live t e d other (quiet d) on ∙ sym on
      by_test false off = behind (is_live ((after t e).consumer d)) refl
        where
          behind : (b : Bool) → is_live ((after t e).consumer d) ≡ b → is_live ((after t e).consumer d) ≡ is_live (t.consumer d)
          behind false dead = dead ∙ sym off
          behind true live = elim (was_live limits t e law is d live) [
            | inl was ↦ absurd (let never : true ≡ false = sym was ∙ off in cc)
            | inr starts ↦ absurd (subst (Starts d) at starts)
          ]

pub leaver_goes : (limits : Limits) (t : Tables) → Lawful t → WhoLeavesGoes limits t
leaver_goes limits t law e c is at live = record {
  accepted = is_accepted limits t e is (cancel_goes limits t e law is c at live);
  over = cancelled_over limits t e law is c at;
  others = others limits t law e c is at;
}
