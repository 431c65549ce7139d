-- What is owed by a store that doesn't fail is told by the tables and the event: what it refuses, it refuses for its
-- size.
--
-- A denied event is answered alike whatever fails. Else the flaw that the acts show is one that may be: none where
-- there is room, and a loss of what is written, by the size that is passed. Only a head and a piece need room, and each
-- writes the same whatever else the acts say. So the flaw is the one of the sizes, and the acts are those that are owed
-- with it.
use Rattle.std.{proofs.Common.{◌≡◌, inl, inr, ℕ, List, Bool, true, false, Option, Some, None, refl, ap, sym, ◌∙◌}, specs.Prelude.{if◌then◌else◌, ◌||◌}}
use Rattle.hc_text.proofs.Basics.{and_left, and_right, or_cases}
use Rattle.hc_effects.proofs.Vocabulary.{is_denied, Act, LostKind, Refusal, Event, Response, Limits, Room, answer, accepted_acts, denied_or, case_of, is_founding, is_joining, denial, Entry, entry_without_acts, Flaw, NoFlaw, Loses, Misreads, flaw_in, is_fault, failures_in, Tables, Exchange, IsOwed, may_stand, may_be, may_lose, has_room, flaw_by_room, size_flaw, owed, room_for, written_representation, written_in, head_writes, may_validate, lossless, kind, event, room}
use Rattle.hc_model.specs.Runs.{FaultlessAreOwed}
use Rattle.hc_effects.proofs.{Basics.{false_true, true_false, number_is}, FoundCases.{no_loss}}
use Rattle.hc_laws.proofs.Undenied.{undenied}

-- WHAT IS WRITTEN

-- there is no room for it
abbrev lacks : Room → Bool
lacks (room.After count) = false
lacks _ = true

module _ (limits : Limits) (t : Tables) (e : Entry) where
  by_row : (x : ℕ) (response : Response) (q : Option Exchange) →
      head_writes t (lossless e) x response q ≡ head_writes t (entry_without_acts e.now e.event) x response q
  by_row x response None = refl
  by_row x response (Some w) =
      ap (λ z. if is_founding z then Some x else if may_validate t w response || is_joining z then w.aim else None)
      (ap (λ b. case_of t b e.event) (no_loss e.acts))

  -- a head or a piece writes the same whatever is lost, and nothing else needs room
  written_by : (ev : Event) → e.event ≡ ev → lacks (room_for limits t e.now ev) ≡ true → written_in t (lossless e) ev ≡ written_in
      t (entry_without_acts e.now e.event) ev
  unfolding room_for
  written_by (event.Head x response) at none = by_row x response (t.exchange x)
  written_by (event.Piece x bytes) at none = refl
  written_by _ at none = absurd (false_true none)

  same_written : lacks (room_for limits t e.now e.event) ≡ true → written_representation t e ≡ written_representation t (entry_without_acts e.now e.event)
  unfolding written_representation
  same_written none = written_by e.event refl none

  -- THE FLAW

  abbrev sizes : Flaw
  sizes = size_flaw limits t e.now e.event

  large_is : (q : Room) (o : Option ℕ) (r : ℕ) → may_lose q kind.TooLarge ≡ true → o ≡ Some r → Loses r kind.TooLarge ≡ flaw_by_room q o
  large_is room.TooLarge o r may is = ap (flaw_by_room room.TooLarge) (sym is)
  large_is _ o r may is = absurd (false_true may)

  full_is : (q : Room) (o : Option ℕ) (r : ℕ) → may_lose q kind.Full ≡ true → o ≡ Some r → Loses r kind.Full ≡ flaw_by_room q o
  full_is room.Full o r may is = ap (flaw_by_room room.Full) (sym is)
  full_is _ o r may is = absurd (false_true may)

  large_lacks : (q : Room) → may_lose q kind.TooLarge ≡ true → lacks q ≡ true
  large_lacks room.TooLarge may = refl
  large_lacks _ may = absurd (false_true may)

  full_lacks : (q : Room) → may_lose q kind.Full ≡ true → lacks q ≡ true
  full_lacks room.Full may = refl
  full_lacks _ may = absurd (false_true may)

  room_is : (q : Room) (o : Option ℕ) → has_room q ≡ true → NoFlaw ≡ flaw_by_room q o
  room_is (room.After count) o has = refl
  room_is _ o has = absurd (false_true has)

  by_kind : (r : ℕ) (k : LostKind) → is_fault (Loses r k) ≡ false → may_be limits t e (Loses r k) ≡ true → Loses r k ≡ sizes
  by_kind r kind.Fault sane may = absurd (true_false sane)
  by_kind r kind.TooLarge sane may =
      let lost = and_right _ _ may in
      let is = number_is (written_representation t e) r (and_left _ _ (and_left _ _ may)) in
      large_is (room_for limits t e.now e.event) _ r lost (sym (same_written (large_lacks (room_for limits t e.now e.event) lost)) ∙ is)
  by_kind r kind.Full sane may =
      let lost = and_right _ _ may in
      let is = number_is (written_representation t e) r (and_left _ _ (and_left _ _ may)) in
      full_is (room_for limits t e.now e.event) _ r lost (sym (same_written (full_lacks (room_for limits t e.now e.event) lost)) ∙ is)

  by_flaw : (f : Flaw) → is_fault f ≡ false → may_be limits t e f ≡ true → f ≡ sizes
  by_flaw NoFlaw sane may = room_is (room_for limits t e.now e.event) _ may
  by_flaw (Loses r k) sane may = by_kind r k sane may
  by_flaw (Misreads r) sane may = absurd (true_false sane)

  -- THE ACTS

  sane_by : (b : Bool) → ◌≡◌ {A = ℕ} (if b then 1 else 0) 0 → b ≡ false
  sane_by false none = refl
  sane_by true none = absurd (let no_one : ◌≡◌ {A = ℕ} 1 0 = none in cc)

  same_acts : IsOwed limits t e → failures_in e.acts ≡ 0 → (q : Option Refusal) → denial t e.event ≡ q →
      answer limits t e.now e.event (flaw_in e.acts) ≡ answer limits t e.now e.event sizes
  unfolding answer may_stand
  same_acts is none (Some refusal) denied =
      ap (λ z. denied_or z (accepted_acts limits t e.now e.event (flaw_in e.acts))) denied
      ∙ sym (ap (λ z. denied_or z (accepted_acts limits t e.now e.event sizes)) denied)
  same_acts is none None goes = ap (λ f. denied_or (denial t e.event) (accepted_acts limits t e.now e.event f)) (by_flaw (flaw_in e.acts) (sane_by _ none) may)
    where
      accepted : is_denied e.acts ≡ false
      accepted = ap is_denied (is.acts ∙ ap (λ z. denied_or z (accepted_acts limits t e.now e.event (flaw_in e.acts))) goes) ∙
          undenied limits t e.now e.event (flaw_in e.acts)

      may : may_be limits t e (flaw_in e.acts) ≡ true
      may = elim (or_cases (is_denied e.acts) (may_be limits t e (flaw_in e.acts)) is.flaw) [
        | inl denied ↦ absurd (false_true (sym accepted ∙ denied))
        | inr so ↦ so
      ]

-- An entry that tells no failure is owed by the tables and the event alone.
pub faultless_are_owed : FaultlessAreOwed
unfolding owed
faultless_are_owed limits t e is none = ap (λ (acts : List Act). record e { acts = acts }) (is.acts ∙ same_acts limits t e is none (denial t e.event) refl)
