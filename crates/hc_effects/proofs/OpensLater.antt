-- Who opens an exchange where it reads opens it for a hole ahead of it, as the exclusive writer.
use Rattle.std.proofs.Common.{◌≡◌, ℕ, Option, Some, None, ap, sym, ◌∙◌, subst}
use Rattle.hc_text.proofs.Basics.{not_some as none_some, same_some as same_row, some_inj}
use Rattle.hc_effects.proofs.Vocabulary.{Opening, opening_in, Need, BoundBy, entry_of, aim_from, bound, bound_to, offset, held_of_lost, Tables, Representation, Consumer, place}
use Rattle.hc_model.specs.Sound as sound
use Rattle.hc_effects.proofs.{FirstKeeps.{is_opener}, OpensFrom.{IsHole, hole_is, opens_hole}, OwnersKeep.{is_opened}, ExclusiveWriters.{IsAtHole, bound_some}, PollTree.{later, first, OpensHole}, Step.{Step}}
use Rattle.hc_effects.proofs.OpenedAs as opened

pub record OpensLater (t : Tables) (c : ℕ) (k : Consumer) (n : Need) : Type 0 where
  pub hole : IsHole n
  pub r : ℕ
  pub end : ℕ
  pub most : ℕ
  pub v : Representation
  pub at_hole : IsAtHole t r c end v k
  pub unheld : held_of_lost c (offset t k) most (Some v) ≡ None
  pub from_is : hole.from ≡ offset t k

module _ (step : Step) where
  open step use {limits, tables as t, now, flaw, sound as s, event as ev, accepted as goes}

  pub opens_later : (c r lo : ℕ) (hi : Option ℕ) (how : BoundBy) (k : Consumer) (p : Opening) → t.consumer c ≡ Some k →
      k.place ≡ place.Bound r lo hi how → opening_in (entry_of limits t now ev flaw).acts ≡ Some p → p.c ≡ c → OpensLater t c k p.need
  opens_later c r lo hi how k p row at opens mine =
      let poll = is_opened step p opens in
      let one : poll.k ≡ k = same_row (t.consumer c) poll.k k (sym (ap t.consumer mine) ∙ poll.row) row in
      by_way (subst (λ (b : Consumer). opened.Way t now c b p.need) one (subst (λ d. opened.Way t now d poll.k p.need) mine poll.way.way))
    where
      by_hole : (hole : IsHole p.need) → OpensHole t c k hole.from hole.to → OpensLater t c k p.need
      by_hole hole (first q v span gap current_is aims q_row nobody found from_is to_is) =
          absurd (bound_some t r c k s.numbered (sound.is_bound lo hi how row at)
          (ap (bound t) (some_inj r q (sym (ap (aim_from t k.request.key) at) ∙ aims)) ∙ nobody))
      by_hole hole (later q end n v at_hole unheld from_is to_is) =
          record { hole = hole; r = q; end = end; most = n; v = v; at_hole = at_hole; unheld = unheld; from_is = from_is }

      by_way : opened.Way t now c k p.need → OpensLater t c k p.need
      by_way (opened.goes_on y b d g there way) =
          let h = hole_is p.need way in
          let opener = is_opener limits t now flaw s ev goes c k p row opens mine in
          by_hole h (opens_hole t c k p now opener.want s row opener.opening h.from h.to h.is)
      by_way (opened.passes_by free way) = absurd (none_some r (sym free ∙ ap bound_to at))
      by_way (opened.fetches free way cached) = absurd (none_some r (sym free ∙ ap bound_to at))
      by_way (opened.fills y v span gap free way is_current v_row wants found need_is cached) = absurd (none_some r (sym free ∙ ap bound_to at))
