-- The fetch's own starts are answered by nothing.
use Rattle.std.{proofs.{Common.{◌≡◌, ℕ, ◌<◌, [], false, None, refl, ap, ◌∙◌, arith}, lemmas.Bool.Decides.{nat_tests}}, specs.Prelude.{nat_le}}
use Rattle.hc_effects.proofs.Vocabulary.{Event, Request, Limits, answer, accepted_acts, denied_or, denial, live, Entry, NoFlaw, failures_in, Lawful, Tables, IsOwed, size_flaw, owed, room_for, event}
use Rattle.hc_rules.specs.Refusals as refusals
use Rattle.hc_laws.proofs.Faultless.{faultless_are_owed}
use Rattle.hc_effects.proofs.StartEffects.{starts}

module _ (limits : Limits) (t : Tables) (law : Lawful t) (now c : ℕ) (request : Request) (rises : t.last_start < c) (few : live t < 1024) where
  abbrev ev : Event
  ev = event.Start c request

  undenied : denial t ev ≡ None
  unfolding refusals.refusal_of
  undenied =
      let risen : nat_le c t.last_start ≡ false = grind (arith, nat_tests, rises) in
      let room_left : nat_le 1024 (live t) ≡ false = grind (arith, nat_tests, few) in
      rw (risen, room_left) refl

  -- it writes nothing, so there is room
  no_flaw : size_flaw limits t now ev ≡ NoFlaw
  unfolding room_for
  no_flaw = refl

  silent : (owed limits t now ev).acts ≡ []
  unfolding owed answer
  silent =
      ap (λ q. denied_or q (accepted_acts limits t now ev (size_flaw limits t now ev))) undenied
      ∙ (ap (λ flaw. accepted_acts limits t now ev flaw) no_flaw ∙ (starts limits t law now c request undenied).acts_are)

-- a start with a number above all before, where there is room for one more, over a store that doesn't fail
pub start_silent : (limits : Limits) (t : Tables) (e : Entry) (c : ℕ) (request : Request) → Lawful t → IsOwed limits t e → failures_in e.acts ≡ 0
    → e.event ≡ event.Start c request → t.last_start < c → live t < 1024 → e.acts ≡ []
start_silent limits t e c request law is none starts_is rises few =
    ap (λ (z : Entry). z.acts) (faultless_are_owed limits t e is none)
    ∙ (ap (λ (z : Event). (owed limits t e.now z).acts) starts_is ∙ silent limits t law e.now c request rises few)
