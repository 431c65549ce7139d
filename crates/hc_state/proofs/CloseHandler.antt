-- An exchange is closed that stops: the acts, and the tables that the rows represent.
--
-- By `Stopping` it brought nothing that stays, or a whole that can't be completed later; what is to be sealed is for
-- `SealHandler`. In the first case what it founded is gone already, if anything, and letting that go changes nothing
-- (`let_gone_is`). In the second that is let go before. Who starts over then reads nothing and waits for no head, so
-- the exchange may still be closed (`stopped_going`). `has_left` says the same of a leave.
use Rattle.std.{proofs.{Common.{◌≡◌, ◌≢◌, inl, inr, ℕ, List, [], ◌∷◌, ◌++◌, Bool, true, false, Option, Some, None, refl, ap, sym, ◌∙◌, subst, arith}, lemmas.{Bool.Decides.{nat_tests}, List.{append-nil}}}, specs.Prelude.{nat_eq, map, option_map, ◌&&◌, if◌then◌else◌}}
use Rattle.hc_text.proofs.Basics.{eqb-other, eqb-same, false_true, same_or, same_some as same_row, some_inj as some_is, and_off as then_false}
use Rattle.hc_store.specs.declared.backend.Backend.{Ghosts}
use Rattle.hc_effects.proofs.Vocabulary.{Act, Limits, Place, BoundBy, back_in_line, with_consumer, as_over, with_representation, tables_after_close, all_closed, let_go, let_some_go, as_gone, lost_to, back_from, left_by, going_with, is_unkeepable, family, brings_to, Tables, Representation, with_item_first, exclusive, act, kind, place, by}
use Rattle.hc_exch.specs.Exchanges as exch
use Rattle.hc_exch.specs.Known as known
use Rattle.hc_model.specs.Effects.{waits_for}
use Rattle.hc_model.specs.Rows as rows
use Rattle.hc_effects.proofs.{SameTables.{same_tables}, Tests.{none_some}}
use Rattle.hc_state.specs.{declared.rows.Rows.{Rows}, Facts.{Facts}, Left.{HasLeft}, Stands.{RowsStand, KeepsRest}, Stopped.{with_consumers, NobodyAwaits, MayStop, HasStopped, quietly, unsealed}}
use Rattle.hc_state.specs.Left as leaving
use Rattle.hc_state.proofs.{Closing.{stands_unstored}, LeftAlone.{once_left}, Maps.{act_and}, Stopping.{IsApartNow, GoesWith}}

-- WHAT IS LET GO

-- nobody waits for it
abbrev pub NobodyWaits : Tables → ℕ → Type 0
NobodyWaits t q = (d : ℕ) (kept : Option ℕ) (u : rows.Consumer) → t.consumer d ≡ Some u → u.place ≡ place.Passed q kept → ⊥

-- what is gone already is let go by nothing
pub let_gone_is : (now : ℕ) (t : Tables) (q : ℕ) (p : Representation) → t.representation q ≡ Some p → p.is_gone ≡ true → NobodyWaits t q → let_go now q t ≡ t
let_gone_is now t q p row is_gone nobody = same_tables (let_go now q t) t (record {
  moment = refl;
  entries = refl;
  received = refl;
  last_start = refl;
  starts = refl;
  opened = refl;
  openings = refl;
  founded = refl;
  used = refl;
  exchange = λ x. refl;
  representation = rep_same;
  consumer = λ d. by_row d (t.consumer d) refl;
})
  where
    gone_same : as_gone p ≡ p
    gone_same = ap (λ (b : Bool). record p { is_gone = b }) (sym is_gone)

    rep_same : (n : ℕ) → (let_go now q t).representation n ≡ t.representation n
    rep_same n = elim (same_or q n) [
      | inl e ↦
          let here : t.representation n ≡ Some p = ap t.representation (sym e) ∙ row in
          rw (e, eqb-same n) refl ∙ (ap (option_map as_gone) here ∙ (ap Some gone_same ∙ sym here))
      | inr ne ↦ rw (eqb-other q n ne) refl
    ]

    by_row : (d : ℕ) (o : Option rows.Consumer) → t.consumer d ≡ o → option_map (back_from now q) o ≡ o
    by_row d None at = refl
    by_row d (Some u) at = ap Some (by_place u.place refl)
      where
        by_test : (n : ℕ) (kept : Option ℕ) (b : Bool) → u.place ≡ place.Passed n kept → nat_eq q n ≡ b → (if b then back_in_line now u else u) ≡ u
        by_test n kept false place_is off = refl
        by_test n kept true place_is same =
            let one : n ≡ q = grind (arith, nat_tests, same) in
            absurd (nobody d kept u at (place_is ∙ ap (λ (m : ℕ). place.Passed m kept) one))

        at_place : (p : Place) → u.place ≡ p → back_from now q u ≡ (if waits_for q p then back_in_line now u else u)
        at_place p place_is = ap (λ (z : Place). if waits_for q z then back_in_line now u else u) place_is

        by_place : (p : Place) → u.place ≡ p → back_from now q u ≡ u
        by_place (place.Passed n kept) place_is = at_place (place.Passed n kept) place_is ∙ by_test n kept (nat_eq q n) place_is refl
        by_place p place_is = at_place p place_is

-- whoever starts over reads nothing, and waits for no head
module _ (now q : ℕ) (t : Tables) (x : ℕ) where
  stood : (d : ℕ) (k u : rows.Consumer) → t.consumer d ≡ Some k → (let_go now q t).consumer d ≡ Some u → (u.place ≡ place.Line → ⊥) → u ≡ k
  stood d k u at is off = grind (arith, nat_tests)

  there : (d : ℕ) (u : rows.Consumer) → (let_go now q t).consumer d ≡ Some u → (k : rows.Consumer) × (t.consumer d ≡ Some k)
  there d u is = by_row (t.consumer d) refl is
    where
      by_row : (o : Option rows.Consumer) → t.consumer d ≡ o → option_map (back_from now q) o ≡ Some u → (k : rows.Consumer) × (t.consumer d ≡ Some k)
      by_row None at h = none_some u h
      by_row (Some k) at h = (k, at)

  line_not_direct : (y : ℕ) → place.Line ≡ place.Direct y → ⊥
  line_not_direct y h = cc

  pub unread_go : ((d : ℕ) (k : rows.Consumer) → t.consumer d ≡ Some k → k.place ≡ place.Direct x → ⊥) → (d : ℕ) (u : rows.Consumer) →
      (let_go now q t).consumer d ≡ Some u → u.place ≡ place.Direct x → ⊥
  unread_go nobody d u is at = grind (arith, nat_tests)

  line_not_bound : (r lo : ℕ) (hi : Option ℕ) (how : BoundBy) → place.Line ≡ place.Bound r lo hi how → ⊥
  line_not_bound r lo hi how h = cc

  pub unawaited_go : NobodyAwaits t x → NobodyAwaits (let_go now q t) x
  unawaited_go nobody d r lo hi u is at =
      let k = there d u is in
      let same = stood d k.0 u k.1 is (λ line. line_not_bound r lo hi (by.FirstHole x) (sym line ∙ at)) in
      nobody d r lo hi k.0 k.1 (sym (ap (λ (z : rows.Consumer). z.place) same) ∙ at)

-- WHERE IT STOPS

module _ {B : Type 0} {g : Ghosts B} (limits : Limits) (u : Rows B g) (t : Tables) (facts : Facts limits t) (f : ℕ → Option rows.Consumer) (x : ℕ)
    (alone : Option ℕ) (stop : MayStop t f x alone) (now faults : ℕ) (before out : List Act) where
  abbrev s : Tables
  s = with_consumers f t

  pub quiet : (o : Option ℕ) → going_with t (Some x) ≡ o → out ≡ before → RowsStand limits u (let_some_go now o (tables_after_close x s)) →
      HasStopped limits faults u t f before out now x
  quiet o going acts rows = quietly acts (subst (λ (z : Option ℕ). RowsStand limits u (let_some_go now z (tables_after_close x s))) (sym going) rows)

  -- nothing that isn't gone is stored by it
  pub stopped_nothing : (r : Rows B g) → RowsStand limits r s → KeepsRest r u → u.consumers ≡ r.consumers →
      exch.Becomes known.without_exchange x r.exchanges u.exchanges → IsApartNow t x → out ≡ before → HasStopped limits faults u t f before out now x
  stopped_nothing r stands rest consumers becomes apart acts = by_test (is_unkeepable (t.representation x)) refl
    where
      rows : RowsStand limits u (tables_after_close x s)
      rows = stands_unstored r u s x stands stop.unawaited apart.apart rest.last_start consumers rest.keys rest.entries becomes

      by_row : (z : Option Representation) → t.representation x ≡ z → is_unkeepable z ≡ true → let_go now x (tables_after_close x s) ≡ tables_after_close x s
      by_row None at on = false_true on
      by_row (Some p) at on =
          let went = apart.went p at on in
          let_gone_is now (tables_after_close x s) x p at went (λ d kept k is place_is.
          let w = stop.may.waits d x kept k is place_is in
          let gone_too : w.v.is_gone ≡ true = ap (λ (z : Representation). z.is_gone) (same_row (t.representation x) w.v p w.row at) ∙ went in
          let never : true ≡ false = sym gone_too ∙ w.not_gone in absurd (cc))

      by_test : (b : Bool) → is_unkeepable (t.representation x) ≡ b → HasStopped limits faults u t f before out now x
      by_test false off = quiet None (rw off refl) acts rows
      by_test true on = quiet (Some x) (rw on refl) acts (subst (RowsStand limits u) (sym (by_row (t.representation x) refl on)) rows)

  -- a whole that can't be completed later goes
  stopped_gone : (r : Rows B g) → RowsStand limits r (let_go now x s) → KeepsRest r u → u.consumers ≡ r.consumers →
      exch.Becomes known.without_exchange x r.exchanges u.exchanges → GoesWith t x x stop.w → out ≡ before → HasStopped limits faults u t f before out now x
  stopped_gone r stands rest consumers becomes goes acts =
      quiet (Some x) (rw (goes.row, goes.unkept) refl) acts
      (stands_unstored r u (let_go now x s) x stands (unawaited_go now x s x stop.unawaited) apart rest.last_start consumers rest.keys rest.entries becomes)
    where
      gone_there : (o : Option Representation) (p : Representation) → option_map as_gone o ≡ Some p → p.is_gone ≡ true
      gone_there None p h = none_some p h
      gone_there (Some a) p h = sym (ap (λ (z : Representation). z.is_gone) (some_is (as_gone a) p h))

      apart : (q : ℕ) (p : Representation) → (let_go now x s).representation q ≡ Some p → p.is_gone ≡ false → brings_to q x (t.exchange x) ≡ false
      apart q p there stays = elim (same_or x q) [
        | inl e ↦ false_true (sym stays ∙ gone_there (t.representation q) p (sym (rw (e, eqb-same q) refl) ∙ there))
        | inr ne ↦ ap (brings_to q x) stop.row ∙ then_false stop.w.is_open (nat_eq (family x stop.w) q) (rw goes.founded (eqb-other x q ne))
      ]

  -- whatever it is called
  pub stopped_going : (q : ℕ) (r : Rows B g) → RowsStand limits r (let_go now q s) → KeepsRest r u → u.consumers ≡ r.consumers →
      exch.Becomes known.without_exchange x r.exchanges u.exchanges → GoesWith t x q stop.w → out ≡ before → HasStopped limits faults u t f before out now x
  stopped_going q r stands rest consumers becomes goes acts =
      stopped_gone r (subst (λ (n : ℕ). RowsStand limits r (let_go now n s)) goes.here stands) rest consumers becomes
      (subst (λ (n : ℕ). GoesWith t x n stop.w) goes.here goes) acts

-- WHERE ITS CONSUMER LEFT

-- it told that it is closed
pub has_left : {B : Type 0} {g : Ghosts B} {limits : Limits} (u : Rows B g) (t : Tables) (c : ℕ) (v : rows.Consumer) (x now faults : ℕ)
    (before mid out : List Act) → left_by t c v ≡ Some x → mid ≡ before ++ (act.Close x ∷ []) →
    HasStopped limits faults u t (once_left t c v) mid out now x → HasLeft limits faults u t before out now c v
has_left {limits = limits} u t c v x now faults before mid out left first (quietly same rows) =
    leaving.quietly (same ∙ (first ∙ ap (λ (z : Option ℕ). before ++ map act.Close (with_item_first z [])) (sym left)))
    (subst (λ (z : Option ℕ). RowsStand limits u
    (let_some_go now (going_with t z) (with_consumer c (Some (as_over v)) (all_closed (with_item_first z []) t)))) (sym left) rows)
has_left {limits = limits} u t c v x now faults before mid out left first (unsealed f) = leaving.unsealed (record {
  x = x;
  left = left;
  sealed = f.sealed;
  acts = act_and before mid out (act.Close x) (act.Lost f.sealed.r kind.Fault ∷ []) first f.acts;
  failed = f.failed;
  rows = subst (λ (z : Option ℕ). RowsStand limits u
      (let_go now f.sealed.r (with_representation f.sealed.r (Some (lost_to (exclusive t f.sealed.r f.sealed.v) f.sealed.v))
      (with_consumer c (Some (as_over v)) (all_closed (with_item_first z []) t))))) (sym left) f.rows;
})

-- where it leaves nothing
pub leaves_nothing : {B : Type 0} {g : Ghosts B} {limits : Limits} (u : Rows B g) (t : Tables) (c : ℕ) (v : rows.Consumer) (now faults : ℕ)
    (before : List Act) → left_by t c v ≡ None → RowsStand limits u (with_consumer c (Some (as_over v)) t) → HasLeft limits faults u t before before now c v
leaves_nothing {limits = limits} u t c v now faults before none rows =
    leaving.quietly (sym (append-nil before) ∙ ap (λ (z : Option ℕ). before ++ map act.Close (with_item_first z [])) (sym none))
    (subst (λ (z : Option ℕ). RowsStand limits u
    (let_some_go now (going_with t z) (with_consumer c (Some (as_over v)) (all_closed (with_item_first z []) t)))) (sym none) rows)
