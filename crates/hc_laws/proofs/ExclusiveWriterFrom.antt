-- Whoever is bound before and after an entry and is the exclusive writer after it was so before, survives the loss of a
-- writer group, or wrote alone what is lost.
use Rattle.std.{proofs.Common.{◌≡◌, ◌⊎◌, inl, inr, ℕ, true, false, Option, Some, ap, sym, ◌∙◌, subst}, specs.Prelude.{is_some}}
use Rattle.hc_text.proofs.Basics.{bool_cases, same_some as same_row}
use Rattle.hc_effects.proofs.Vocabulary.{BoundBy, loses_in, Entry, entry_of, Measures, Tables, Representation, Consumer, IsFirst, IsExclusiveWriter, after_accepted, came_alone, loses_group, survivor, goes_on_with, place}
use Rattle.hc_model.specs.Sound as sound
use Rattle.hc_effects.proofs.{Basics.{or_false}, Exclusives.{IsExclusive, exclusive_parts}, FirstKeeps.{came_kept}, LossBy.{IsReal, fresh}, RepFrom.{IsKept}, ServedKeeps.{lost_alone, kept_alone}, Step.{Step}}

module _ (step : Step) (m : Measures step.tables) (real : IsReal step.limits step.tables step.now step.event step.flaw) where
  open step use {limits, tables as t, now, flaw, sound as s, event as ev, accepted as goes}

  abbrev e : Entry
  e = entry_of limits t now ev flaw

  abbrev now_on : Tables
  now_on = after_accepted t e

  pub data ExclusiveWriterFrom (r c : ℕ) (v : Representation) : Type 0 where
    first : v.is_lost ≡ false → loses_in r e.acts ≡ false → IsFirst t r c → ExclusiveWriterFrom r c v
    alone : v.is_lost ≡ true → loses_in r e.acts ≡ false → v.alone ≡ Some c → ExclusiveWriterFrom r c v
    wrote : v.is_lost ≡ false → loses_in r e.acts ≡ true → IsExclusive t r c v → ExclusiveWriterFrom r c v
    survives : loses_group t e r v ≡ true → survivor t r v ≡ Some c → ExclusiveWriterFrom r c v

  -- who goes on with what is lost now
  pub loss_from : (r c : ℕ) (v p : Representation) → t.representation r ≡ Some v → IsKept t e r v p → loses_in r e.acts ≡ true → p.alone ≡ Some c →
      ExclusiveWriterFrom r c v
  loss_from r c v p there kept loses is =
      let goes_on : goes_on_with t e r v ≡ Some c = sym (lost_alone step m real r v p there kept loses).1 ∙ is in
      elim (bool_cases (loses_group t e r v)) [
        | inl losing ↦ survives losing (rw losing at goes_on)
        | inr off ↦ wrote (fresh step m real r v there loses) loses (exclusive_parts t r c v (rw off at goes_on))
      ]

  pub alone_from : (r c : ℕ) (v p : Representation) → t.representation r ≡ Some v → IsKept t e r v p → p.is_lost ≡ true → p.alone ≡ Some c →
      ExclusiveWriterFrom r c v
  alone_from r c v p there kept lost is = elim (bool_cases (loses_in r e.acts)) [
    | inl loses ↦ loss_from r c v p there kept loses is
    | inr quiet ↦ let all = kept_alone step m real r v p kept quiet in alone (sym all.0 ∙ lost) quiet (sym all.1 ∙ is)
  ]

  pub exclusive_writer_from : (r c lo : ℕ) (hi : Option ℕ) (how : BoundBy) (k u : Consumer) (v p : Representation) → t.consumer c ≡ Some k →
      k.place ≡ place.Bound r lo hi how → t.representation r ≡ Some v → IsKept t e r v p → now_on.consumer c ≡ Some u →
      u.place ≡ place.Bound r lo hi how → IsExclusiveWriter now_on r p c → ExclusiveWriterFrom r c v
  exclusive_writer_from r c lo hi how k u v p row at there kept after_row stands (sound.alone lost is) = alone_from r c v p there kept lost is
  exclusive_writer_from r c lo hi how k u v p row at there kept after_row stands (sound.first fresh_now (sound.first q a d g q_row q_at came)) =
      let one : q ≡ u = same_row (now_on.consumer c) q u q_row after_row in
      let came_now : came_alone now_on (place.Bound r lo hi how) ≡ true =
      subst (λ z. came_alone now_on z ≡ true) (sym q_at ∙ (ap (λ (z : Consumer). z.place) one ∙ stands)) came in
      let parts = or_false (loses_in r e.acts) v.is_lost (sym kept.lost_is ∙ fresh_now) in
      first parts.1 parts.0 (sound.first k lo hi how row at (sym (came_kept limits t now flaw s ev goes r lo hi how (ap is_some there)) ∙ came_now))

  -- but for who survives, it was the exclusive writer
  pub had_exclusive_writer : (r c : ℕ) (v : Representation) → ExclusiveWriterFrom r c v →
      IsExclusiveWriter t r v c ⊎ ((loses_group t e r v ≡ true) × (survivor t r v ≡ Some c))
  had_exclusive_writer r c v (first fresh_was quiet is) = inl (sound.first fresh_was is)
  had_exclusive_writer r c v (alone lost quiet is) = inl (sound.alone lost is)
  had_exclusive_writer r c v (wrote fresh_was loses x) = inl (sound.first fresh_was x.first)
  had_exclusive_writer r c v (survives losing is) = inr (losing, is)
