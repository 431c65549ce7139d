-- Where a writer group ends that isn't cut short, all of it is stored.
use Rattle.std.{proofs.{Common.{◌≡◌, ◌⊎◌, inl, inr, ℕ, ◌+◌, ◌≤◌, List, length, ◌++◌, Bool, true, false, Option, Some, None, refl, ap, sym, ◌∙◌, arith}, lemmas.Bool.Decides.{nat_tests}}, specs.{Prelude.{is_some, ◌&&◌, ◌||◌, not, nat_eq}, Option.{option_or}}}
use Rattle.hc_text.proofs.Basics.{both_false as both_off}
use Rattle.hc_sparse.specs.Cells.{Cells, Covers, cells_with}
use Rattle.hc_effects.proofs.Vocabulary.{closes_in, Event, Response, loses_in, brings_head, Entry, exchange_heard, is_open, is_reached, front, base, promised_bytes, entry_of, Measures, is_written, length_in, Tables, Exchange, Representation, IsGrowing, end_from, after_accepted, brings_body, event}
use Rattle.hc_effects.proofs.{ApartKeeps.{is_on}, Basics.{false_true}, EndsKeep.{known_kept}, FirstKeeps.{is_new}, Forward.{after_is}, PieceKeeps.{eq_cases}, RepFrom.{IsKept}, Stops.{last_piece}, Step.{Step}}

-- all of it is stored, and its length is known
pub record IsAll (p : Representation) : Type 0 where
  pub total : ℕ
  pub known : p.head.total ≡ Some total
  pub covered : Covers p.stored 0 total

module _ (step : Step) (m : Measures step.tables) where
  open step use {limits, tables as t, now, flaw, sound as s, event as ev, accepted as goes}

  abbrev e : Entry
  e = entry_of limits t now ev flaw

  abbrev now_on : Tables
  now_on = after_accepted t e

  -- an end tells a length that wasn't known
  pub ended_total : (r : ℕ) (v p : Representation) → IsKept t e r v p → ev ≡ event.End r →
      p.head.total ≡ option_or v.head.total (Some (length_in (t.exchange r)))
  ended_total r v p kept here = grind (arith, nat_tests)

  module _ (r x : ℕ) (v p : Representation) (w : Exchange) (there : t.representation r ≡ Some v) (on : is_written t v ≡ true) (writer : v.writer ≡ Some x)
      (kept : IsKept t e r v p) (g : IsGrowing t r v x w) (was_open : w.is_open ≡ true) where
    pub refused_not : (z : Event) → ev ≡ z → brings_head x z ≡ true → ⊥
    refused_not (event.Head y response) here h =
        let test : nat_eq y x ≡ true = h in
        let same : y ≡ x = grind (arith, nat_tests) in
        let bare = (is_new limits t now flaw s ev goes x response w (here ∙ ap (λ n. event.Head n response) same) g.row).bare in
        false_true (sym (ap (λ (q : Option Response). is_some q) bare) ∙ g.headed)
    refused_not _ here h = false_true h

    -- it isn't closed, doesn't fault, and has brought all that it promised
    module _ (calm : (loses_in r e.acts ≡ false) ⊎ (brings_body ev ≡ false)) (unclosed : closes_in x e.acts ≡ true → ⊥)
        (unfaulted : ev ≡ event.Fault x → ⊥) (enough : ev ≡ event.End x → (n : ℕ) → promised_bytes w ≡ Some n → n ≤ length w.body) where
      still_open : (exchange_heard t e x ev w).is_open ≡ true → is_open (now_on.exchange x) ≡ true
      still_open heard = ap is_open (after_is t e x w (t.exchange x) g.row) ∙ by_test (closes_in x e.acts) refl
        where
          by_test : (a : Bool) → closes_in x e.acts ≡ a → (not a && (exchange_heard t e x ev w).is_open) ≡ true
          by_test true shut = absurd (unclosed shut)
          by_test false shut = heard

      stored_on : (v.is_lost || loses_in r e.acts) ≡ false → (bytes : List ℕ) → ev ≡ event.Piece x bytes → p.stored ≡ cells_with (front w) x bytes v.stored
      stored_on quiet bytes here = grind (arith, nat_tests)

      -- with the last piece
      by_piece : (bytes : List ℕ) → ev ≡ event.Piece x bytes → is_reached (promised_bytes w) (length (w.body ++ bytes)) ≡ true → IsAll p
      by_piece bytes here reached = by_promise (promised_bytes w) refl
        where
          quiet_now : loses_in r e.acts ≡ false
          quiet_now = grind (arith, nat_tests)

          by_promise : (q : Option ℕ) → promised_bytes w ≡ q → IsAll p
          by_promise None is = absurd (false_true (sym (ap (λ z. is_reached z (length (w.body ++ bytes))) is) ∙ reached))
          by_promise (Some n) is =
              let known : v.head.total ≡ Some (base w + n) = g.promise ∙ ap (end_from (base w)) is in
              let stored_is = stored_on (both_off v.is_lost (loses_in r e.acts) (is_on t v x on writer).kept quiet_now) bytes here in
              record {
                total = base w + n;
                known = known_kept step m r (base w + n) v p kept known;
                covered = λ d from_lo lt. ap (λ (f : Cells). is_some (f d)) stored_is ∙ last_piece t r x (base w + n) bytes v w g known reached d from_lo lt;
              }

      -- by its end
      by_end : ev ≡ event.End x → IsAll p
      by_end here = by_promise (promised_bytes w) refl
        where
          by_promise : (q : Option ℕ) → promised_bytes w ≡ q → IsAll p
          by_promise q is = grind (arith, nat_tests)

      goes_on : (z : Event) → ev ≡ z → exchange_heard t e x z w ≡ w → is_open (now_on.exchange x) ≡ false → IsAll p
      goes_on z here same off =
          absurd (false_true (sym off ∙ still_open (ap (λ a. (exchange_heard t e x a w).is_open) here ∙ (ap (λ (q : Exchange). q.is_open) same ∙ was_open))))

      pub ends_all : (z : Event) → ev ≡ z → is_open (now_on.exchange x) ≡ false → IsAll p
      ends_all (event.Head y response) here off = elim (eq_cases y x) [
        | inl hit ↦ absurd (refused_not ev refl (ap (brings_head x) here ∙ hit.0))
        | inr other ↦ goes_on _ here (rw other.0 refl) off
      ]
      ends_all (event.Piece y bytes) here off = elim (eq_cases y x) [
        | inr other ↦ goes_on _ here (rw other.0 refl) off
        | inl hit ↦ by_test (is_reached (promised_bytes w) (length (w.body ++ bytes))) refl hit.1 hit.0
      ]
        where
          by_test : (a : Bool) → is_reached (promised_bytes w) (length (w.body ++ bytes)) ≡ a → y ≡ x → nat_eq y x ≡ true → IsAll p
          by_test true reached same test = by_piece bytes (here ∙ ap (λ n. event.Piece n bytes) same) reached
          by_test false reached same test =
              let heard : (exchange_heard t e x (event.Piece y bytes) w).is_open ≡ true = rw (test, reached, was_open) refl in
              absurd (false_true (sym off ∙ still_open (ap (λ a. (exchange_heard t e x a w).is_open) here ∙ heard)))
      ends_all (event.End y) here off = elim (eq_cases y x) [
        | inr other ↦ goes_on _ here (rw other.0 refl) off
        | inl hit ↦ by_end (here ∙ ap event.End hit.1)
      ]
      ends_all (event.Fault y) here off = elim (eq_cases y x) [
        | inr other ↦ goes_on _ here (rw other.0 refl) off
        | inl hit ↦
            absurd (unfaulted (here ∙ ap event.Fault hit.1))
      ]
      ends_all _ here off = goes_on _ here refl off
