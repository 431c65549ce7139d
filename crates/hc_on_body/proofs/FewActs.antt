-- The acts of what gives way to a piece fit: two at most give way to a small one.
use Rattle.std.proofs.{Common.{◌≡◌, ℕ, ◌<◌, ◌≤◌, ◌^◌, refl, sym, ◌∙◌, arith}, Math.{Bridge.{le_prop}, Logic.{∥∥₁_elim}}}
use Rattle.hc_store.specs.declared.backend.Backend.{Ghosts}
use Rattle.hc_effects.proofs.Vocabulary.{grown_by, Room, Write, room}
use Rattle.hc_effects.proofs.WeightsLeft.{two_give_way}
use Rattle.hc_state.specs.{declared.rows.Rows.{Rows}, Room.{HasActs, LeavesActs, room_for_write}, Stands.{Stands}}
use Rattle.hc_on_leave.proofs.PieceRoom.{may_make_room}
use Rattle.hc_state.proofs.Rooms.{room_is}

module _ {B : Type 0} {g : Ghosts B} (r : Rows B g) (w : Write) (small : grown_by w ≤ 65536) where
  few_for : (count : ℕ) → room_for_write r w ≡ room.After count → Stands r → count ≤ 2
  few_for count is s =
      let t = s.t in
      let facts = s.facts in
      two_give_way s.limits t w count facts.fits small (sym (room_is r t (may_make_room t facts) s.rows w) ∙ is)

  pub few_acts : ∥ Stands r ∥₁ → (count : ℕ) → room_for_write r w ≡ room.After count → count ≤ 2
  few_acts some count is = ∥∥₁_elim some le_prop (λ s. few_for count is s)

  pub has_few : ∥ Stands r ∥₁ → (spare : ℕ) → 2 ≤ spare → HasActs spare (room_for_write r w)
  has_few some spare most = by_room (room_for_write r w) refl
    where
      by_room : (a : Room) → room_for_write r w ≡ a → HasActs spare a
      by_room (room.After count) is = let few : count ≤ 2 = few_acts some count is in omega (arith, few, most)
      by_room _ is = tt

  -- and two more than those
  pub leaves_two : ∥ Stands r ∥₁ → (before after : ℕ) → 4 ≤ before → LeavesActs before after (room_for_write r w) → 2 ≤ after
  leaves_two some before after most leaves = by_room (room_for_write r w) refl leaves
    where
      by_room : (a : Room) → room_for_write r w ≡ a → LeavesActs before after a → 2 ≤ after
      by_room (room.After count) is fits = let few : count ≤ 2 = few_acts some count is in omega (arith, few, most, fits)
      by_room _ is same = omega (arith, most, same)
