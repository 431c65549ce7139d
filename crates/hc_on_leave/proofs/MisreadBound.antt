-- What a consumer is bound to can't be read: it fails, what nobody reads any more is closed, and that is let go.
--
-- What it leaves is about what it was to read (`left_about`). So if that goes with the closed exchange, it is the same
-- one, and goes once (`going_is`). The code lets it go before it closes the exchange, and the tables after. What isn't
-- gone isn't brought by that exchange, so this is no matter (`apart`, `same_closed`). `misread_by` uses the two cases:
-- an exchange is left (`misread_closing`), or none (`misread_alone`).
use Rattle.std.{proofs.{Common.{◌≡◌, ◌≢◌, ℕ, ◌<◌, List, [], ◌∷◌, ◌++◌, Bool, true, false, Option, Some, None, refl, ap, sym, ◌∙◌, subst, arith}, lemmas.Bool.Decides.{nat_tests}}, specs.Prelude.{is_some, nat_eq, map, option_map, ◌||◌, ◌&&◌, if◌then◌else◌}}
use Rattle.hc_text.proofs.Basics.{eqb-other, eqb-same, false_true, or_left as or_first, same_some as same_row, some_inj as some_is, and_off as then_false}
use Rattle.hc_store.specs.declared.backend.Backend.{Ghosts}
use Rattle.hc_stored.specs.Entries.{shelf_of}
use Rattle.hc_effects.proofs.Vocabulary.{Act, Event, Limits, Place, BoundBy, is_current, Does, with_event, with_consumer, let_go, let_some_go, as_gone, tables_after_close, all_closed, as_over, left_by, going_with, is_unkeepable, family, Misreads, flaw_in, brings_to, Lawful, MayLetGo, is_bound_place, Tables, Exchange, Representation, Consumer, IsAbout, with_item_first, act, cause, event, place}
use Rattle.hc_exch.specs.Exchanges as exch
use Rattle.hc_exch.specs.Known as known
use Rattle.hc_model.specs.Sound as sound
use Rattle.hc_effects.proofs.{LettingGo.{may_let_go, keeps_may, let_go_nothing}, MisreadEffects.{misreads}, Stops.{writer_about}, Tests.{none_some}}
use Rattle.hc_state.specs.{declared.rows.Rows.{Rows}, Stands.{Answered, RowsStand, KeepsRest}}
use Rattle.hc_state.proofs.{CloseHandler.{unawaited_go}, Closing.{stands_unstored}, Counting.{stands_counted}, LeftAlone.{HowLeft, how_left, left_unawaited}, Maps.{act_and}}
use Rattle.hc_state.proofs.LeftAlone as left
use Rattle.hc_on_leave.proofs.MayGo.{may_with}

-- where it is bound
pub record BoundAt (q : ℕ) (p : Place) : Type 0 where
  pub lo : ℕ
  pub hi : Option ℕ
  pub how : BoundBy
  pub at : p ≡ place.Bound q lo hi how

pub bound_at : (q : ℕ) (p : Place) → is_bound_place q p ≡ true → BoundAt q p
bound_at q (place.Bound n lo hi how) on = let one : n ≡ q = grind (arith, nat_tests, on) in
    record { lo = lo; hi = hi; how = how; at = ap (λ (m : ℕ). place.Bound m lo hi how) one }
bound_at q _ on = false_true on

module _ (t : Tables) (law : Lawful t) (c q : ℕ) (v : Consumer) (row : t.consumer c ≡ Some v) (at : BoundAt q v.place) where
  -- what it leaves is about what it is bound to
  left_about : (x : ℕ) → HowLeft t c x v → IsAbout t q x
  left_about x (left.own mine opened) = law.sound.writes.own_about q c x v (sound.is_bound at.lo at.hi at.how row at.at) opened
  left_about x (left.shared_by r lo hi how p place_is there written writer) =
      let one : r ≡ q = (let both : place.Bound r lo hi how ≡ place.Bound q at.lo at.hi at.how = sym place_is ∙ at.at in cc) in
      subst (λ (n : ℕ). IsAbout t n x) one (writer_about t r x p law.sound there written writer)

  none_there : {P : Type 0} (o : Option Representation) → o ≡ None → is_some o ≡ true → P
  none_there None none on = false_true on
  none_there (Some p) none on = none_some p (sym none)

  -- a representation that it founded or joined is that
  its_own : (x n : ℕ) (w : Exchange) (p : Representation) → IsAbout t q x → t.exchange x ≡ Some w → t.representation n ≡ Some p → family x w ≡ n → n ≡ q
  its_own x n w p it4 at_w rep family_is = grind (arith, nat_tests)

  -- what goes with what it leaves is what it was to read
  going_is : (x n : ℕ) → HowLeft t c x v → going_with t (Some x) ≡ Some n → n ≡ q
  going_is x n how going = by_row (t.representation x) refl going
    where
      there : IsAbout t q x → (w : Exchange) × (t.exchange x ≡ Some w)
      there (sound.headed z ex on headed of_q some) = (z, ex)
      there (sound.asks z a b ex on bare need aim) = (z, ex)

      by_test : (p : Representation) (b : Bool) → t.representation x ≡ Some p → (if b then Some x else None) ≡ Some n → n ≡ q
      by_test p true at_p h =
          let w = there (left_about x how) in
          let founded : family x w.0 ≡ x = rw (law.owned.founders x w.0 p w.1 at_p) refl in
          sym (some_is x n h) ∙ its_own x x w.0 p (left_about x how) w.1 at_p founded
      by_test p false at_p h = none_some n h

      by_row : (o : Option Representation) → t.representation x ≡ o → (if is_unkeepable o then Some x else None) ≡ Some n → n ≡ q
      by_row None at_p h = none_some n h
      by_row (Some p) at_p h = by_test p (is_unkeepable (Some p)) at_p h

  -- it is let go once
  module _ (now : ℕ) where
    abbrev s : Tables
    s = with_consumer c (Some (as_over v)) t

    may_then : MayLetGo s
    may_then = may_with t c v (as_over v) row refl (may_let_go t law)

    gone_row : (o : Option Representation) (p : Representation) → option_map as_gone o ≡ Some p → p.is_gone ≡ true
    gone_row o p h = grind (arith, nat_tests)

    let_go_twice : let_go now q (let_go now q s) ≡ let_go now q s
    let_go_twice = let_go_nothing (let_go now q s) (keeps_may now q s may_then) now q
        (λ p is. gone_row (t.representation q) p (sym (rw (eqb-same q) refl) ∙ is))

    gone_with : (x : ℕ) → HowLeft t c x v → (o : Option ℕ) → going_with t (Some x) ≡ o → let_go now q (let_some_go now o s) ≡ let_go now q s
    gone_with x how None going = refl
    gone_with x how (Some n) going = ap (λ (m : ℕ). let_go now q (let_go now m s)) (going_is x n how going) ∙ let_go_twice

module _ (limits : Limits) (t : Tables) (law : Lawful t) (now c want q : ℕ) (v : Consumer) (row : t.consumer c ≡ Some v)
    (bound : is_bound_place q v.place ≡ true) where
  abbrev ev : Event
  ev = event.Poll c want

  -- it left, and that is let go
  abbrev quit : Tables
  quit = with_consumer c (Some (as_over v)) t

  abbrev failed_act : Act
  failed_act = act.Failed c (cause.StoreRead q)

  at : BoundAt q v.place
  at = bound_at q v.place bound

  gone_there : (o : Option Representation) (p : Representation) → option_map as_gone o ≡ Some p → p.is_gone ≡ true
  gone_there o p h = grind (arith, nat_tests)

  row_gone : (n : ℕ) → q ≡ n → (let_go now q quit).representation n ≡ option_map as_gone (t.representation n)
  row_gone n e = rw (e, eqb-same n) refl

  row_stays : (n : ℕ) → q ≢ n → (let_go now q quit).representation n ≡ t.representation n
  row_stays n ne = rw (eqb-other q n ne) refl

  -- what isn't gone then isn't brought by what it left
  apart : (x : ℕ) → HowLeft t c x v → (n : ℕ) (p : Representation) → (let_go now q quit).representation n ≡ Some p → p.is_gone ≡ false →
      brings_to n x (t.exchange x) ≡ false
  apart x how n p there stays = by_row (t.exchange x) refl
    where
      not_it : n ≢ q
      not_it same = false_true (sym stays ∙ gone_there (t.representation n) p (sym (row_gone n (sym same)) ∙ there))

      row_there : t.representation n ≡ Some p
      row_there = sym (row_stays n (λ e. not_it (sym e))) ∙ there

      by_family : (w : Exchange) → t.exchange x ≡ Some w → (b : Bool) → nat_eq (family x w) n ≡ b → (w.is_open && b) ≡ false
      by_family w ex false off = then_false w.is_open false refl
      by_family w ex true on =
          absurd (not_it (its_own t law c q v row at x n w p (left_about t law c q v row at x how) ex row_there
          (let same : family x w ≡ n = grind (arith, nat_tests, on) in same)))

      by_row : (o : Option Exchange) → t.exchange x ≡ o → brings_to n x o ≡ false
      by_row None ex = refl
      by_row (Some w) ex = by_family w ex (nat_eq (family x w) n) refl

  -- it doesn't matter whether it is closed before or after
  same_closed : (x : ℕ) → HowLeft t c x v → (o : Option ℕ) → going_with t (Some x) ≡ o →
      let_go now q (let_some_go now o (with_consumer c (Some (as_over v)) (tables_after_close x t))) ≡ tables_after_close x (let_go now q quit)
  same_closed x how None going = refl
  same_closed x how (Some n) going = ap (tables_after_close x) (gone_with t law c q v row at now x how (Some n) going)

  -- what is told and left by it
  abbrev left_tables : Option ℕ → Tables
  left_tables o = let_go now q (let_some_go now (going_with t o) (with_consumer c (Some (as_over v)) (all_closed (with_item_first o []) t)))

  does_misread : (o : Option ℕ) → left_by t c v ≡ o →
      Does limits t now ev (Misreads q) (failed_act ∷ map act.Close (with_item_first o [])) (with_event now ev (left_tables o))
  does_misread o is =
      let does = misreads limits t law now c want v row q in
      record {
        acts_are = does.acts_are ∙ ap (λ (z : Option ℕ). failed_act ∷ map act.Close (with_item_first z [])) is;
        tables_are = does.tables_are ∙ ap (λ (z : Option ℕ). with_event now ev (left_tables z)) is;
      }

  module _ {B : Type 0} {g : Ghosts B} (u : Rows B g) (faults : ℕ) (before out : List Act) (failed : faults < (shelf_of u.entries).faults) where
    reported : (z : Tables) (acts : List Act) → Does limits t now ev (Misreads q) (failed_act ∷ acts) (with_event now ev z) → out ≡ before ++
        (failed_act ∷ acts) → RowsStand limits u z → Answered limits faults u t before out now ev
    reported z acts does out_is stands = record {
      flaw = Misreads q;
      acts = out_is ∙ ap (λ y. before ++ y) (sym does.acts_are);
      shown = ap flaw_in does.acts_are;
      may = rw row (or_first (is_bound_place q v.place) (is_current t v.request.key q) bound);
      caused = λ on. failed;
      rows = subst (RowsStand limits u) (sym does.tables_are) (stands_counted u z now ev refl stands);
    }

    -- it leaves nothing
    pub misread_alone : left_by t c v ≡ None → out ≡ before ++ (act.Failed c (cause.StoreRead q) ∷ []) → RowsStand limits u (let_go now q quit) →
        Answered limits faults u t before out now (event.Poll c want)
    misread_alone none out_is stands = reported (let_go now q quit) [] (does_misread None none) out_is stands

    -- it leaves an exchange
    pub misread_closing : (r : Rows B g) (x : ℕ) (mid : List Act) → left_by t c v ≡ Some x → mid ≡ before ++ (act.Failed c (cause.StoreRead q) ∷ []) →
        out ≡ mid ++ (act.Close x ∷ []) → KeepsRest r u → u.consumers ≡ r.consumers
        → exch.Becomes known.without_exchange x r.exchanges u.exchanges → RowsStand limits r (let_go now q quit) →
        Answered limits faults u t before out now (event.Poll c want)
    misread_closing r x mid leaves first second rest consumers becomes stands =
        let how = how_left t c x v leaves in
        reported (tables_after_close x (let_go now q quit)) (act.Close x ∷ [])
        (let does = does_misread (Some x) leaves in
        record { acts_are = does.acts_are; tables_are = does.tables_are ∙ ap (with_event now ev) (same_closed x how (going_with t (Some x)) refl) })
        (act_and before mid out failed_act (act.Close x ∷ []) first second)
        (stands_unstored r u (let_go now q quit) x stands (unawaited_go now q quit x (left_unawaited t law c v row x how)) (apart x how) rest.last_start
        consumers rest.keys rest.entries becomes)
