-- An exchange that is opened changes nothing of what is kept by key.
use Rattle.std.{proofs.Common.{◌≡◌, ◌≢◌, inl, inr, ℕ, List, Bool, Option, Some, None, refl, ap, sym, ◌∙◌}, specs.Prelude.{bytes_eq, ◌&&◌}}
use Rattle.hc_text.proofs.Basics.{eqb-other, eqb-same, same_or}
use Rattle.hc_entry.specs.Kept as keyed
use Rattle.hc_effects.proofs.Vocabulary.{Place, current, with_consumer, with_opening, Lawful, Tables, Exchange, place, by}
use Rattle.hc_effects.proofs.Tests.{none_some}
use Rattle.hc_model.specs.Rows as rows
use Rattle.hc_state.specs.Lines.{KeepsKey, is_away, is_away_at}
use Rattle.hc_on_poll.proofs.OpenHandler.{WaitsFor, past, turned}
use Rattle.hc_state.proofs.Ties.{key_same}

module _ (t : Tables) (law : Lawful t) (x : ℕ) (z : Exchange) (free : t.exchange x ≡ None) where
  abbrev o : Tables
  o = with_opening x z t

  -- who is bound by a first hole waits for an exchange that was there before
  pub away_else : (d : ℕ) (key : List ℕ) (row : Option rows.Consumer) → t.consumer d ≡ row → is_away o key row ≡ is_away t key row
  away_else d key None row = refl
  away_else d key (Some k) row = ap (λ (b : Bool). bytes_eq k.request.key key && b) (by_place k.place refl)
    where
      by_place : (p : Place) → k.place ≡ p → is_away_at o k.place ≡ is_away_at t k.place
      by_place (place.Bound q lo hi (by.FirstHole y)) is =
          let there = law.owned.first_own d q lo y hi k row is in
          let ne : x ≢ y = λ e. none_some there.w (sym free ∙ (ap t.exchange e ∙ there.row)) in
          rw (is, eqb-other x y ne) refl
      by_place _ is = rw is refl

  pub key_with_opening : (key : List ℕ) (a : keyed.Kept) → KeepsKey t key a → KeepsKey o key a
  unfolding current
  key_with_opening key a kept =
      key_same t o key a (record {
        current = refl;
        in_line = λ d. refl;
        passed = λ d. refl;
        away = λ d. away_else d key (t.consumer d) refl;
        turn =
            λ d. refl;
      }) kept

-- nor where its consumer waits for it, past the store or with the turn
module _ (t : Tables) (law : Lawful t) (c x : ℕ) (w : rows.Consumer) (z : Exchange) (free : t.exchange x ≡ None) (at : WaitsFor x w.place) where
  abbrev m : Tables
  m = with_consumer c (Some w) t

  abbrev s : Tables
  s = with_consumer c (Some w) (with_opening x z t)

  away_here : (key : List ℕ) → is_away s key (Some w) ≡ is_away m key (Some w)
  away_here key = ap (λ (b : Bool). bytes_eq w.request.key key && b) (by_place w.place refl at)
    where
      by_place : (p : Place) → w.place ≡ p → WaitsFor x p → is_away_at s w.place ≡ is_away_at m w.place
      by_place _ is past = rw is refl
      by_place _ is turned = rw is refl

  away : (key : List ℕ) (d : ℕ) → is_away s key (s.consumer d) ≡ is_away m key (m.consumer d)
  away key d = elim (same_or c d) [
    | inl e ↦ rw (← e, eqb-same c) (away_here key)
    | inr ne ↦ rw (eqb-other c d ne) (away_else t law x z free d key (t.consumer d) refl)
  ]

  pub key_opened : (key : List ℕ) (a : keyed.Kept) → KeepsKey m key a → KeepsKey s key a
  unfolding current
  key_opened key a kept = key_same m s key a (record { current = refl; in_line = λ d. refl; passed = λ d. refl; away = away key; turn = λ d. refl }) kept
