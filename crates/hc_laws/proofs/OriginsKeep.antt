-- A number goes on naming the bytes of one body alone.
--
-- A byte was there before, or comes with a piece (`by_fill`, `from_before`), and a piece comes of an exchange that may
-- deliver it. An exchange that may deliver a byte after the entry might before, or is new (`still`, `none_still`). So
-- each part of the law is read back to the tables before (`one_by`, `own_by`, `founded_by`, `opened_by`).
-- `origins_kept` joins these; a denied entry changes no row (`denied_origins`).
use Rattle.std.{proofs.{Common.{◌≡◌, ◌⊎◌, inl, inr, ℕ, ◌+◌, ◌<◌, ◌≤◌, List, length, true, Option, Some, None, refl, ap, sym, ◌∙◌, arith}, lemmas.Bool.Decides.{nat_tests}}, specs.Prelude.{is_some, nat_lt, unwrap_or}}
use Rattle.hc_text.proofs.Basics.{bool_cases, not_some as none_some, same_some as same_row, some_inj}
use Rattle.hc_effects.proofs.Vocabulary.{Opening, opening_in, Entry, family, front, entry_of, Measures, HasByte, MayDeliver, Origins, Tables, Exchange, Representation, after_accepted, after_denied, opened_after}
use Rattle.hc_sparse.specs.Cells.{Cell, cells_with}
use Rattle.hc_sparse.proofs.CellLemmas.{inside-cases}
use Rattle.hc_model.specs.Origins as origins
use Rattle.hc_effects.proofs.{Basics.{false_true}, ExchangeFrom.{ExchangeFrom, exchange_from}, Fills.{Fills, IsPiece, fills}, FirstKeeps.{is_new}, Forward.{is_on}, MeasuresKeep.{piece_taken}, NumbersKeep.{opens_next}, RepFrom.{RepFrom, rep_from}, Step.{Step}}
use Rattle.hc_effects.proofs.ExchangeFrom as exchange
use Rattle.hc_effects.proofs.Fills as fill
use Rattle.hc_effects.proofs.RepFrom as rep

some_there : {A : Type 0} (o : Option A) (a : A) → o ≡ Some a → is_some o ≡ true
some_there o a is = ap is_some is

module _ (t : Tables) (e : Entry) where
  -- a piece of r comes from x
  pub record Brought (r x : ℕ) : Type 0 where
    pub bytes : List ℕ
    pub w : Exchange
    pub is : IsPiece t e r x bytes w

  -- a byte was there, or comes with a piece
  by_fill : (r x p : ℕ) (cell : Cell) (v u : Representation) → t.representation r ≡ Some v → u.body p ≡ Some cell → cell.x ≡ x → Fills t e r v u →
      HasByte t r x ⊎ Brought r x
  by_fill r x p cell v u row there from (fill.still none body stored reach) = inl (origins.has_byte p cell v row (sym (ap (λ f. f p) body) ∙ there) from)
  by_fill r x p cell v u row there from (fill.more y bytes w is body stored reach) = elim (inside-cases (front w) (length bytes) p) [
    | inl here ↦
        let at : cells_with (front w) y bytes v.body p ≡ Some cell = sym (ap (λ f. f p) body) ∙ there in
        inr (record { bytes = bytes; w = w; is = subst_piece (ap (λ (z : Cell). z.x) (some_inj _ cell (rw here.0 at at)) ∙ from) is })
    | inr off ↦
        let at : cells_with (front w) y bytes v.body p ≡ Some cell = sym (ap (λ f. f p) body) ∙ there in
        inl (origins.has_byte p cell v row (rw off.0 at at) from)
  ]
    where
      subst_piece : y ≡ x → IsPiece t e r y bytes w → IsPiece t e r x bytes w
      subst_piece same is = rw (← same) is

  pub from_before : (r x : ℕ) → HasByte (after_accepted t e) r x → HasByte t r x ⊎ Brought r x
  from_before r x (origins.has_byte p cell u row there from) = by_row (rep_from t e r (t.representation r) u refl row)
    where
      by_row : RepFrom t e r u → HasByte t r x ⊎ Brought r x
      by_row (rep.was v kept) = by_fill r x p cell v u kept.row there from (fills t e r v u kept)
      by_row (rep.founded response w none at here on is) = absurd (none_some cell (ap (λ (z : Representation). z.body p) is ∙ there))

module _ (step : Step) (m : Measures step.tables) (g : Origins step.tables) where
  open step use {limits, tables as t, now, flaw, sound as s, owners as o, event as ev, accepted as goes}

  abbrev e : Entry
  e = entry_of limits t now ev flaw

  abbrev now_on : Tables
  now_on = after_accepted t e

  opened_more : (z : Option Opening) → opening_in e.acts ≡ z → t.opened ≤ opened_after z t.opened
  opened_more None is = omega arith
  opened_more (Some z) is = let next : z.x ≡ t.opened + 1 = opens_next limits t now flaw s ev z goes is in omega arith

  -- a number that has a row was given out
  in_range : (x : ℕ) (w : Exchange) → t.exchange x ≡ Some w → x ≤ t.opened
  in_range x w row = elim (bool_cases (nat_lt t.opened x)) [
    | inl past ↦ let over : t.opened < x = grind (arith, nat_tests) in absurd (none_some w (sym (s.numbered.lists.new_exchanges x over) ∙ row))
    | inr within ↦ grind (arith, nat_tests)
  ]

  brought_by : (r x : ℕ) (b : Brought t e r x) → MayDeliver t r x
  brought_by r x b = origins.came b.w b.is.row (piece_taken step m x b.bytes b.w b.is.at b.is.row).headed b.is.of_r

  -- where a byte is from, as it was known before
  record Before (r x : ℕ) : Type 0 where
    positive : 0 < x
    most : x ≤ t.opened
    way : MayDeliver t r x

  before : (r x : ℕ) → HasByte t r x ⊎ Brought t e r x → Before r x
  before r x (inl old) = let range = g.given_out r x old in record { positive = range.0; most = range.1; way = g.delivered r x old }
  before r x (inr b) = record { positive = g.opened x (some_there (t.exchange x) b.w b.is.row); most = in_range x b.w b.is.row; way = brought_by r x b }

  known : (r x : ℕ) → HasByte now_on r x → Before r x
  known r x has = before r x (from_before t e r x has)

  -- it may have delivered them still
  none_still : (r x : ℕ) → x ≤ t.opened → t.exchange x ≡ None → (z : Option Exchange) → now_on.exchange x ≡ z → MayDeliver now_on r x
  none_still r x most none None row = origins.begun row
  none_still r x most none (Some u) row = absurd (by_from (exchange_from t e x (t.exchange x) u refl row))
    where
      by_from : ExchangeFrom t e x u → ⊥
      by_from (exchange.was w at same) = none_some w (sym none ∙ at)
      by_from (exchange.new z at opening here is) = let next : z.x ≡ t.opened + 1 = opens_next limits t now flaw s ev z goes opening in
          let same : z.x ≡ x = here in omega arith

  still : (r x : ℕ) → x ≤ t.opened → MayDeliver t r x → MayDeliver now_on r x
  still r x most (origins.begun none) = none_still r x most none (now_on.exchange x) refl
  still r x most (origins.came w row headed of_r) = by_head (is_on t e x w row).same.heard_or
    where
      by_head : (((is_on t e x w row).u.head ≡ w.head) × ((is_on t e x w row).u.joined ≡ w.joined)) ⊎ exchange.IsHeaded t e x w (is_on t e x w row).u →
          MayDeliver now_on r x
      by_head (inl same) = origins.came (is_on t e x w row).u (is_on t e x w row).row (ap is_some same.0 ∙ headed)
          (ap (λ (z : Option ℕ). unwrap_or z x) same.1 ∙ of_r)
      by_head (inr h) = absurd (false_true (sym (ap is_some (is_new limits t now flaw s ev goes x h.response w h.at row).bare) ∙ headed))

  -- of one family
  of_one : (r q x : ℕ) (w : Exchange) → t.exchange x ≡ Some w → family x w ≡ r → MayDeliver t q x → r ≡ q
  of_one r q x w row of_r (origins.begun none) = absurd (none_some w (sym none ∙ row))
  of_one r q x w row of_r (origins.came z at headed of_q) = sym of_r ∙ (ap (family x) (same_row (t.exchange x) w z row at) ∙ of_q)

  one_by : (r q x : ℕ) → HasByte t r x ⊎ Brought t e r x → HasByte t q x ⊎ Brought t e q x → r ≡ q
  one_by r q x (inl a) (inl b) = g.one r q x a b
  one_by r q x (inr a) b = of_one r q x a.w a.is.row a.is.of_r (before q x b).way
  one_by r q x a (inr b) = sym (of_one q r x b.w b.is.row b.is.of_r (before r x a).way)

  headless_none : (r x : ℕ) (w : Exchange) → t.exchange x ≡ Some w → w.head ≡ None → MayDeliver t r x → ⊥
  headless_none r x w row bare (origins.begun none) = none_some w (sym none ∙ row)
  headless_none r x w row bare (origins.came z at headed of_r) =
      false_true (sym (ap is_some (ap (λ (q : Exchange). q.head) (same_row (t.exchange x) z w at row) ∙ bare)) ∙ headed)

  own_by : (r x : ℕ) (u : Representation) → HasByte now_on r x → HasByte t r x ⊎ Brought t e r x → RepFrom t e x u → x ≡ r
  own_by r x u has (inl a) (rep.was v kept) = g.own r x a (some_there (t.representation x) v kept.row)
  own_by r x u has (inr b) (rep.was v kept) = sym (ap (λ (z : Option ℕ). unwrap_or z x) (o.founders x b.w v b.is.row kept.row)) ∙ b.is.of_r
  own_by r x u has from (rep.founded response w none at row on is) =
      absurd (headless_none r x w row (is_new limits t now flaw s ev goes x response w at row).bare (before r x from).way)

  own_row : (r x : ℕ) (z : Option Representation) → HasByte now_on r x → now_on.representation x ≡ z → is_some z ≡ true → x ≡ r
  own_row r x None has row there = absurd (false_true there)
  own_row r x (Some u) has row there = own_by r x u has (from_before t e r x has) (rep_from t e x (t.representation x) u refl row)

  founded_by : (r : ℕ) (u : Representation) → RepFrom t e r u → 0 < r
  founded_by r u (rep.was v kept) = g.founded r (some_there (t.representation r) v kept.row)
  founded_by r u (rep.founded response w none at row on is) = g.opened r (some_there (t.exchange r) w row)

  founded_row : (r : ℕ) (z : Option Representation) → now_on.representation r ≡ z → is_some z ≡ true → 0 < r
  founded_row r None row there = absurd (false_true there)
  founded_row r (Some u) row there = founded_by r u (rep_from t e r (t.representation r) u refl row)

  opened_by : (x : ℕ) (u : Exchange) → ExchangeFrom t e x u → 0 < x
  opened_by x u (exchange.was w row same) = g.opened x (some_there (t.exchange x) w row)
  opened_by x u (exchange.new z none opening here is) = let next : z.x ≡ t.opened + 1 = opens_next limits t now flaw s ev z goes opening in
      let same : z.x ≡ x = here in omega arith

  opened_row : (x : ℕ) (z : Option Exchange) → now_on.exchange x ≡ z → is_some z ≡ true → 0 < x
  opened_row x None row there = absurd (false_true there)
  opened_row x (Some u) row there = opened_by x u (exchange_from t e x (t.exchange x) u refl row)

  pub origins_kept : Origins now_on
  origins_kept = record {
    founded = λ r there. founded_row r (now_on.representation r) refl there;
    opened = λ x there. opened_row x (now_on.exchange x) refl there;
    given_out = λ r x has. let b = known r x has in let most : x ≤ t.opened = b.most in let more : t.opened ≤ now_on.opened =
        opened_more (opening_in e.acts) refl in (b.positive, omega arith);
    delivered = λ r x has. let b = known r x has in still r x b.most b.way;
    one = λ r q x a b. one_by r q x (from_before t e r x a) (from_before t e q x b);
    own = λ r x has there. own_row r x (now_on.representation x) has refl there;
  }

-- A DENIED ENTRY

pub was_byte : (t : Tables) (e : Entry) (r x : ℕ) → HasByte (after_denied t e) r x → HasByte t r x
was_byte t e r x (origins.has_byte p cell v row there from) = origins.has_byte p cell v row there from

may_still : (t : Tables) (e : Entry) (r x : ℕ) → MayDeliver t r x → MayDeliver (after_denied t e) r x
may_still t e r x (origins.begun none) = origins.begun none
may_still t e r x (origins.came w row headed of_r) = origins.came w row headed of_r

pub denied_origins : (t : Tables) (e : Entry) → Origins t → Origins (after_denied t e)
denied_origins t e g = record {
  founded = g.founded;
  opened = g.opened;
  given_out = λ r x has. g.given_out r x (was_byte t e r x has);
  delivered = λ r x has. may_still t e r x (g.delivered r x (was_byte t e r x has));
  one = λ r q x a b. g.one r q x (was_byte t e r x a) (was_byte t e q x b);
  own = λ r x has there. g.own r x (was_byte t e r x has) there;
}
