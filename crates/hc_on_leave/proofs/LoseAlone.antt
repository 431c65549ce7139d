-- Nothing is held for who writes alone what isn't lost: all that its exchange brought is stored.
use Rattle.std.{proofs.{Common.{◌≡◌, ℕ, ◌-◌, ◌≤◌, [], drop, Bool, true, false, Option, Some, None, refl, ap, ◌∙◌, arith}, lemmas.{Bool.Decides.{nat_tests}, List.{drop_all}}}, specs.Prelude.{is_some, nat_eq, nat_le, ◌&&◌, if◌then◌else◌}}
use Rattle.hc_text.proofs.Basics.{and_off as then_false}
use Rattle.hc_effects.proofs.Vocabulary.{Response, Limits, is_number, base, front, family, is_bound_place, offset, Tables, Exchange, Representation, IsBound, IsExclusiveWriter, exclusive}
use Rattle.hc_sparse.specs.Cells.{Cell, EndsBy, Covers}
use Rattle.hc_model.specs.Rows as rows
use Rattle.hc_model.specs.Sound as sound
use Rattle.hc_effects.proofs.{Exclusives.{exclusive_parts}, HoleLemmas.{covers_yes}}
use Rattle.hc_state.specs.{Facts.{Facts}, Kept.{held_alone, unstored_bytes, first_lacking}, Stopped.{HoldsNothing}}
use Rattle.hc_on_leave.proofs.HeardExchange.{drop_none}

module _ (limits : Limits) (t : Tables) (facts : Facts limits t) (q : ℕ) (v : Representation) (there : t.representation q ≡ Some v)
    (kept : v.is_lost ≡ false) where
  stores : (p : ℕ) → v.stored p ≡ v.body p
  stores = (facts.law.sound.rows q v there).store.all_stored kept

  ends : EndsBy v.reach v.stored
  ends p le = stores p ∙ (facts.law.sound.rows q v there).store.ends p le

  module _ (c : ℕ) (k : rows.Consumer) (reader : IsBound t q c k) (undue : k.due ≡ None) (exclusive_writer : IsExclusiveWriter t q v c) (y : ℕ)
      (w : Exchange) (row : t.exchange y ≡ Some w) (owns : k.own ≡ Some y) where
    -- what came is stored up to the front
    past_front : is_some w.head ≡ true → front w ≤ first_lacking t w v k
    past_front headed =
        let covered : Covers v.stored (offset t k) (front w) = λ p low high. ap (λ (z : Option Cell). is_some z) (stores p) ∙
        facts.come.covered q c y v k w there exclusive_writer reader undue owns row headed p low high in
        let yes : nat_le (front w) (first_lacking t w v k) ≡ true = covers_yes v.stored v.reach (offset t k) (front w) ends covered in
        grind (arith, nat_tests, yes)

    none_left : drop (first_lacking t w v k - base w) w.body ≡ []
    none_left = by_head w.head refl
      where
        by_head : (h : Option Response) → w.head ≡ h → drop (first_lacking t w v k - base w) w.body ≡ []
        by_head None bare = drop_none (first_lacking t w v k - base w) w.body (facts.law.sound.waits.headless y w row bare).0
        by_head (Some response) headed =
            let far = past_front (ap (λ (o : Option Response). is_some o) headed) in
            drop_all (first_lacking t w v k - base w) w.body (omega arith)

  unstored_none : (c : ℕ) (k : rows.Consumer) → IsBound t q c k → k.due ≡ None → IsExclusiveWriter t q v c → (y : ℕ) (w : Exchange) →
      t.exchange y ≡ Some w → unstored_bytes t y w v (Some k) ≡ []
  unstored_none c k reader undue exclusive_writer y w row = by_own k.own refl
    where
      off : is_number k.own y ≡ false → unstored_bytes t y w v (Some k) ≡ []
      off other = ap (λ b. if b then drop (first_lacking t w v k - base w) w.body else [])
          (then_false (is_bound_place (family y w) k.place) (is_number k.own y) other)

      its : (n : ℕ) → k.own ≡ Some n → (b : Bool) → nat_eq n y ≡ b → unstored_bytes t y w v (Some k) ≡ []
      its n own false apart = off (ap (λ (o : Option ℕ). is_number o y) own ∙ apart)
      its n own true on =
          let same : n ≡ y = grind (arith, nat_tests, on) in
          by_test (is_bound_place (family y w) k.place && is_number k.own y) (own ∙ ap Some same)
        where
          by_test : (b : Bool) → k.own ≡ Some y → (if b then drop (first_lacking t w v k - base w) w.body else []) ≡ []
          by_test true mine = none_left c k reader undue exclusive_writer y w row mine
          by_test false mine = refl

      by_own : (o : Option ℕ) → k.own ≡ o → unstored_bytes t y w v (Some k) ≡ []
      by_own None own = off (ap (λ (o : Option ℕ). is_number o y) own)
      by_own (Some n) own = its n own (nat_eq n y) refl

  -- for whoever writes it alone
  pub holds_none : HoldsNothing t q v (exclusive t q v)
  holds_none y w row of_q = by_writer (exclusive t q v) refl
    where
      by_reader : (c : ℕ) (k : rows.Consumer) → IsBound t q c k → k.due ≡ None → IsExclusiveWriter t q v c → unstored_bytes t y w v (t.consumer c) ≡ []
      by_reader c k (sound.is_bound lo hi how at stands) undue exclusive_writer = ap (unstored_bytes t y w v) at ∙
          unstored_none c k (sound.is_bound lo hi how at stands) undue exclusive_writer y w row

      by_writer : (o : Option ℕ) → exclusive t q v ≡ o → held_alone t y w v o ≡ []
      by_writer None is = refl
      by_writer (Some c) is = (let p = exclusive_parts t q c v is in by_reader c p.k p.reader p.none_due (sound.first kept p.first))
