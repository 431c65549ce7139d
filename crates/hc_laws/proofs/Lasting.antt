-- What is written for several and can't be completed later goes on being written, or is all there, as long as it isn't
-- gone.
use Rattle.std.{proofs.{Common.{◌≡◌, ◌⊎◌, inl, inr, ℕ, ◌≤◌, length, Bool, true, false, Some, refl, ap, sym, ◌∙◌, arith}, lemmas.Bool.Decides.{nat_tests}}, specs.Prelude.{◌&&◌, ◌==◌, not, nat_eq}}
use Rattle.hc_text.proofs.Basics.{bool_cases}
use Rattle.hc_effects.proofs.Vocabulary.{brings_whole, closes_in, loses_in, Entry, promised_bytes, is_open, becomes_gone, goes_itself, ends_early, ends_founding, stops_early, is_keepable, is_below, entry_of, Measures, is_written, Tables, Exchange, Representation, IsGrowing, after_accepted, event}
use Rattle.hc_effects.proofs.{ApartKeeps.{is_on}, Basics.{false_true, or_false}, RepFrom.{heard, IsKept}, GroupStops.{IsAll, ends_all}, Step.{Step}}

module _ (step : Step) (m : Measures step.tables) where
  open step use {limits, tables as t, now, flaw, sound as s, event as ev}

  abbrev e : Entry
  e = entry_of limits t now ev flaw

  abbrev now_on : Tables
  now_on = after_accepted t e

  module _ (r : ℕ) (v p : Representation) (there : t.representation r ≡ Some v) (kept : IsKept t e r v p) (not_gone : p.is_gone ≡ false) where
    goes_parts : (becomes_gone t e r v ≡ false) × (v.is_gone ≡ false)
    goes_parts = grind (arith, nat_tests, or_false, heard)

    pub was_not_gone : v.is_gone ≡ false
    was_not_gone = goes_parts.1

    -- why it would go
    pub not_lost : loses_in r e.acts ≡ false
    unfolding becomes_gone
    not_lost = grind (arith, nat_tests, or_false)

    not_early : (ends_early t e r v && not (is_keepable v)) ≡ false
    unfolding becomes_gone
    not_early = (or_false _ (ends_early t e r v && not (is_keepable v)) (or_false (goes_itself t e r v) _ goes_parts.0).0).1

    module _ (unkeepable : is_keepable v ≡ false) (whole : brings_whole v.head.status ≡ true) (on : is_written t v ≡ true) (writer : v.writer ≡ Some r) where
      lasts : ends_early t e r v ≡ false
      lasts = by_test (ends_early t e r v) (is_keepable v) not_early unkeepable
        where
          by_test : (a b : Bool) → (a && not b) ≡ false → b ≡ false → a ≡ false
          by_test a b h off = grind (arith, nat_tests)

      not_founding_end : ends_founding e r (t.exchange r) ≡ false
      not_founding_end = by_test (brings_whole v.head.status) (ends_founding e r (t.exchange r)) lasts whole
        where
          by_test : (a b : Bool) → (a && b) ≡ false → a ≡ true → b ≡ false
          by_test a b h on = grind (arith, nat_tests)

      grows : (w : Exchange) × IsGrowing t r v r w
      grows = (s.rows r v there).growing r on writer

      abbrev w : Exchange
      w = grows.0

      g : IsGrowing t r v r w
      g = grows.1

      was_open : w.is_open ≡ true
      was_open = sym (ap is_open g.row) ∙ (is_on t v r on writer).open_now

      -- it isn't closed, and doesn't stop early
      unended : (stops_early w r ev ≡ false) × (closes_in r e.acts ≡ false)
      unended = or_false (stops_early w r ev) (closes_in r e.acts) (by_open w.is_open _ was_open (sym (ap (ends_founding e r) g.row) ∙ not_founding_end))
        where
          by_open : (a b : Bool) → a ≡ true → (a && b) ≡ false → b ≡ false
          by_open a b on h = grind (arith, nat_tests)

      self : nat_eq r r ≡ true
      self = grind (arith, nat_tests)

      unclosed : closes_in r e.acts ≡ true → ⊥
      unclosed shut = false_true (sym unended.1 ∙ shut)

      unfaulted : ev ≡ event.Fault r → ⊥
      unfaulted here = false_true (sym unended.0 ∙ (ap (stops_early w r) here ∙ self))

      enough : ev ≡ event.End r → (n : ℕ) → promised_bytes w ≡ Some n → n ≤ length w.body
      enough here n is =
          let short : ((r == r) && is_below (length w.body) (Some n)) ≡ false = sym (ap (λ q. (r == r) && is_below (length w.body) q) is) ∙
          (sym (ap (stops_early w r) here) ∙ unended.0) in
          grind (arith, nat_tests)

      pub lasting : (is_open (now_on.exchange r) ≡ true) ⊎ IsAll p
      lasting = elim (bool_cases (is_open (now_on.exchange r))) [
        | inl still ↦ inl still
        | inr off ↦ inr (ends_all step m r r v p w there on writer kept g was_open (inl not_lost) unclosed unfaulted enough ev refl off)
      ]
