-- An exchange stops with less than it should have brought: who reads from it, and that it may be closed.
--
-- By the laws there are three kinds of readers (`ReadBy`). These are its consumer past the store, one bound reader
-- whose own it is, or all for whom it writes. The code finds the same ones (`read_by`). In each case a failure is due
-- to them, and the exchange may be closed (`may_stop_..`). The one bound reader has the work: nothing is held for it.
-- `breaks_off` joins the cases for `break_off`.
use Rattle.std.{proofs.{Common.{◌≡◌, ◌≢◌, ℕ, ◌+◌, ◌-◌, ◌<◌, ◌≤◌, ◌^◌, List, [], length, Bool, true, false, Option, Some, None, refl, ap, sym, ◌∙◌, subst, arith}, lemmas.{Bool.Decides.{nat_tests}, List.{drop_all}}}, specs.{Prelude.{is_some, nat_eq, nat_le, drop, unwrap_or, option_map, ◌&&◌, ◌==◌, if◌then◌else◌}, HashMap.{get}}}
use Rattle.hc_text.proofs.Basics.{eqb-same, false_true, same_some as same_row, and_off as then_false}
use Rattle.hc_store.specs.declared.backend.Backend.{Ghosts}
use Rattle.hc_effects.proofs.Vocabulary.{Act, Cause, Response, Limits, BoundBy, is_number, base, front, family, is_headless, Lawful, own_open, is_bound, is_bound_place, is_written, group_in, offset, Tables, Exchange, Representation, IsBound, IsAbout, IsHad, IsExclusiveWriter, IsOwner, exclusive, place}
use Rattle.hc_sparse.specs.Cells.{Cell, Covers, EndsBy}
use Rattle.hc_text.specs.Sorted.{has, itself}
use Rattle.hc_stored.specs.{Entries.{shelf_of}, Kept.{Kept}, Views.{bound_in}}
use Rattle.hc_exch.specs.Exchanges.{table_of}
use Rattle.hc_model.specs.Rows as rows
use Rattle.hc_model.specs.Sound as sound
use Rattle.hc_model.specs.Whose as whose
use Rattle.hc_effects.proofs.{AboutKeeps.{own_open_of}, Exclusives.{exclusive_parts}, HoleLemmas.{covers_yes}, LettingGo.{may_let_go}, Stops.{writer_about}, Tests.{none_some}}
use Rattle.hc_state.specs.{declared.{rows.Rows.{Rows}, stop.Readers.{Readers, TheVariants.{the_data as readers}}}, Changes.{Numbered, ChangesAmong}, Facts.{Facts}, Kept.{held_alone, unstored_bytes, first_lacking}, Leaving.{writer_group_of}, Stands.{RowsStand, KeepsRest}, Stopped.{with_consumers, due_for, NobodyAwaits, MayStop, IsBroken, HasStopped, BrokeOff}, Stops.{readers_of, readers_by, reads_from, goes_on, opener_of, alone_in}, Stored.{KeepsEntry}}
use Rattle.hc_txn.specs.Transactions.{with_due}
use Rattle.hc_state.specs.Stopped as stopped
use Rattle.hc_state.proofs.{Fallbacks.{unstored_moved}, LeftAlone.{unwritten_none}, LeftRows.{group_as}, Stopping.{runs, head_there, brought_some, brought_none}}
use Rattle.hc_on_body.proofs.DueRows.{reported_same, may_due, awaits_due, stands_due}

-- the same ones, told otherwise
pub among_as : {A : Type 0} (old new : Numbered A) (f h : ℕ → Bool) (change : A → A) → ((d : ℕ) → f d ≡ h d) → ChangesAmong old new f change →
    ChangesAmong old new h change
among_as old new f h change alike changes = record {
  places = λ d. changes.places d ∙ ap (λ b. if b then option_map change (get nat_eq old d) else get nat_eq old d) (alike d);
  len = changes.len;
}

-- WHO READS FROM IT

-- its consumer past the store; the one bound whose own it is; or all who are bound to what it writes for several
pub data ReadBy (t : Tables) (x : ℕ) (w : Exchange) (by : Readers) : Type 0 where
  past : t.representation (family x w) ≡ None → by ≡ readers.One w.c → ReadBy t x w by
  own : (c : ℕ) (k : rows.Consumer) (v : Representation) → t.representation (family x w) ≡ Some v → IsBound t (family x w) c k → own_open t k ≡ Some x →
      k.due ≡ None → IsExclusiveWriter t (family x w) v c → by ≡ readers.One c → ReadBy t x w by
  shared : (v : Representation) → t.representation (family x w) ≡ Some v → is_written t v ≡ true → v.writer ≡ Some x → by ≡ readers.All (family x w) →
      ReadBy t x w by

module _ {B : Type 0} {g : Ghosts B} {limits : Limits} (r : Rows B g) (t : Tables) (facts : Facts limits t) (stands : RowsStand limits r t) (x : ℕ)
    (w : Exchange) (row : t.exchange x ≡ Some w) (opened : w.is_open ≡ true) where
  abbrev law : Lawful t
  law = facts.law

  abbrev q : ℕ
  q = family x w

  opener_is : opener_of (table_of r.exchanges x).running ≡ w.c
  opener_is = let runs_on = runs r t facts t.consumer stands x w row opened in ap opener_of runs_on.there ∙ runs_on.is.c

  module _ (v : Representation) (there : t.representation q ≡ Some v) where
    headed : is_some w.head ≡ true
    headed = head_there r t facts t.consumer stands x w row opened v there w.head refl

    about : IsAbout t q x
    about = sound.headed w row opened headed refl (ap (λ z. is_some z) there)

    writer_group_is : writer_group_of (table_of r.exchanges) ((shelf_of r.entries).kept q) ≡ (if is_written t v then v.writer else None)
    writer_group_is = group_as r t stands law q ∙ ap (group_in t) there

    kept_alone : alone_in ((shelf_of r.entries).kept q) ≡ v.alone
    kept_alone = by_kept ((shelf_of r.entries).kept q) (subst (KeepsEntry t q ((shelf_of r.entries).kept q)) there (stands.entries.each q))
      where
        by_kept : (o : Option Kept) → KeepsEntry t q o (Some v) → alone_in o ≡ v.alone
        by_kept None dropped = absurd (law.whose.unread q x v there dropped.unused about)
        by_kept (Some e) is = is.alone

    -- who goes on with what was lost, or else for whom it was opened
    owner_is : (c : ℕ) (k : rows.Consumer) → t.consumer c ≡ Some k → k.own ≡ Some x → IsExclusiveWriter t q v c → unwrap_or v.alone w.c ≡ c
    owner_is c k at owns (sound.first fresh first) =
        let nobody : v.alone ≡ None = (law.sound.rows q v there).store.nobody_alone fresh in
        ap (λ o. unwrap_or o w.c) nobody ∙ by_owner nobody (law.whose.owner c x k w at owns row)
      where
        by_owner : v.alone ≡ None → IsOwner t x w c → w.c ≡ c
        by_owner nobody (whose.opener for_it) = for_it
        by_owner nobody (whose.alone u rep is) =
            none_some c (sym nobody ∙ (ap (λ (z : Representation). z.alone) (same_row (t.representation q) v u there rep) ∙ is))
    owner_is c k at owns (sound.alone lost is) = ap (λ o. unwrap_or o w.c) is

    by_had : (b : Bool) → is_number (writer_group_of (table_of r.exchanges) ((shelf_of r.entries).kept q)) x ≡ b → IsHad t q v x →
        ReadBy t x w (if b then readers.All q else
        readers.One (unwrap_or (alone_in ((shelf_of r.entries).kept q)) (opener_of (table_of r.exchanges x).running)))
    by_had true on had = by_written (is_written t v) refl
      where
        by_written : (z : Bool) → is_written t v ≡ z → ReadBy t x w (readers.All q)
        by_written false off = false_true (sym (ap (λ o. is_number o x) (writer_group_is ∙ ap (λ z. if z then v.writer else None) off)) ∙ on)
        by_written true writes =
            shared v there writes (number_some v.writer (sym (ap (λ o. is_number o x) (writer_group_is ∙ ap (λ z. if z then v.writer else None) writes)) ∙
            on)) refl
          where
            number_some : (o : Option ℕ) → is_number o x ≡ true → o ≡ Some x
            number_some None h = false_true h
            number_some (Some n) h = ap Some (let same : n ≡ x = grind (arith, nat_tests, h) in same)
    by_had false off (sound.shared writes writer) =
        false_true (sym off ∙ (ap (λ o. is_number o x) (writer_group_is ∙ (ap (λ z. if z then v.writer else None) writes ∙ writer)) ∙ eqb-same x))
    by_had false off (sound.own c k (sound.is_bound lo hi way at place_is) owns undue exclusive_writer) =
        own c k v there (sound.is_bound lo hi way at place_is) owns undue exclusive_writer
        (ap (λ n. readers.One n)
        (ap (λ o. unwrap_or o (opener_of (table_of r.exchanges x).running)) kept_alone ∙
        (ap (unwrap_or v.alone) opener_is ∙ owner_is c k at (own_open_of t k x owns).own exclusive_writer)))

  pub read_by : ReadBy t x w (readers_of x (table_of r.exchanges) (shelf_of r.entries))
  read_by = by_row (t.representation q) refl
    where
      by_row : (o : Option Representation) → t.representation q ≡ o → ReadBy t x w (readers_of x (table_of r.exchanges) (shelf_of r.entries))
      by_row None none =
          subst (λ o. ReadBy t x w (readers_by x (table_of r.exchanges) (shelf_of r.entries) (opener_of (table_of r.exchanges x).running) o))
          (sym (brought_none r t facts t.consumer stands x w row opened none))
          (past none (ap (λ n. readers.One n) opener_is))
      by_row (Some v) there =
          subst (λ o. ReadBy t x w (readers_by x (table_of r.exchanges) (shelf_of r.entries) (opener_of (table_of r.exchanges x).running) o))
          (sym (brought_some r t facts t.consumer stands x w row opened v there))
          (by_had v there (is_number (writer_group_of (table_of r.exchanges) ((shelf_of r.entries).kept q)) x) refl
          (law.sound.writes.had q x v there (about v there)))

  -- whoever is bound is told in both
  pub users_are : (v : Representation) → t.representation q ≡ Some v → (d : ℕ) →
      has itself d (bound_in ((shelf_of r.entries).kept q)) ≡ is_bound q (t.consumer d)
  users_are v there d = by_kept ((shelf_of r.entries).kept q) (subst (KeepsEntry t q ((shelf_of r.entries).kept q)) there (stands.entries.each q))
    where
      by_kept : (o : Option Kept) → KeepsEntry t q o (Some v) → has itself d (bound_in o) ≡ is_bound q (t.consumer d)
      by_kept None dropped = absurd (law.whose.unread q x v there dropped.unused (about v there))
      by_kept (Some e) is = is.bound d

-- THAT IT MAY BE CLOSED

module _ (limits : Limits) (t : Tables) (facts : Facts limits t) (x : ℕ) (w : Exchange) (broken : IsBroken t x w) where
  abbrev the_law : Lawful t
  the_law = facts.law

  -- who waits for its head, bound by a first hole, was shown none
  unawaited : NobodyAwaits t x
  unawaited d r lo hi u is at = ap is_headless broken.row ∙ by_head broken.is_open w.head refl
    where
      by_head : w.is_open ≡ true → (h : Option Response) → w.head ≡ h → is_headless (Some w) ≡ false
      by_head on (Some response) headed = rw headed (then_false w.is_open false refl)
      by_head on None bare =
          let first = the_law.owned.first_own d r lo x hi u is at in
          let same_w : first.w ≡ w = same_row (t.exchange x) first.w w first.row broken.row in
          let one : w.c ≡ d = ap (λ (z : Exchange). z.c) (sym same_w) ∙ first.for_it in
          let was = facts.turns.first_hole d r lo x hi u is at (broken.shown bare u (ap t.consumer one ∙ is)) in
          ap (λ (z : Exchange). is_headless (Some z)) (sym (same_row (t.exchange x) was.0 w was.1 broken.row)) ∙ was.2

  -- where the writer group is on nobody writes alone
  pub none_alone : (r : ℕ) (v : Representation) → is_written t v ≡ true → None ≡ exclusive t r v
  none_alone r v written = by_one (exclusive t r v) refl
    where
      by_one : (o : Option ℕ) → exclusive t r v ≡ o → None ≡ o
      by_one None is = refl
      by_one (Some d) is = false_true (sym (exclusive_parts t r d v is).unwritten ∙ written)

  pub may_stop_shared : (v : Representation) (among : ℕ → Bool) (why : Cause) → t.representation (family x w) ≡ Some v → is_written t v ≡ true →
      MayStop t (due_for t among why) x None
  may_stop_shared v among why there written = record {
    w = w;
    row = broken.row;
    is_open = broken.is_open;
    may = may_due t among why (may_let_go t the_law);
    unawaited = awaits_due t among why x unawaited;
    writes = λ u headed at kept. none_alone (family x w) u (ap (is_written t) (same_row (t.representation (family x w)) u v at there) ∙ written);
    stored = λ u headed at kept y z of_y is. refl;
  }

  pub may_stop_past : (c : ℕ) (among : ℕ → Bool) (why : Cause) → t.representation (family x w) ≡ None → MayStop t (due_for t among why) x (Some c)
  may_stop_past c among why none = record {
    w = w;
    row = broken.row;
    is_open = broken.is_open;
    may = may_due t among why (may_let_go t the_law);
    unawaited = awaits_due t among why x unawaited;
    writes = λ u headed at kept. none_some u (sym none ∙ at);
    stored = λ u headed at kept. none_some u (sym none ∙ at);
  }

  module _ (c : ℕ) (k : rows.Consumer) (v : Representation) (there : t.representation (family x w) ≡ Some v) (lo : ℕ) (hi : Option ℕ) (way : BoundBy)
      (at : t.consumer c ≡ Some k) (place_is : k.place ≡ place.Bound (family x w) lo hi way) (owns : own_open t k ≡ Some x) (undue : k.due ≡ None)
      (exclusive_writer : IsExclusiveWriter t (family x w) v c) where
    abbrev qr : ℕ
    qr = family x w

    mine : k.own ≡ Some x
    mine = (own_open_of t k x owns).own

    -- it isn't written for several
    unwritten : is_written t v ≡ false
    unwritten = by_test (is_written t v) refl
      where
        writer_there : (o : Option ℕ) → v.writer ≡ o → is_written t v ≡ true → ⊥
        writer_there None none on = false_true (sym (unwritten_none t v none) ∙ on)
        writer_there (Some y) some on =
            let about_y : IsAbout t qr y = writer_about t qr y v the_law.sound there on some in
            let about_x : IsAbout t qr x = the_law.sound.writes.own_about qr c x k (sound.is_bound lo hi way at place_is) owns in
            let one : x ≡ y = the_law.sound.one_about qr x y about_x about_y in
            the_law.owned.apart qr x c v k there on (some ∙ ap Some (sym one)) at mine

        by_test : (b : Bool) → is_written t v ≡ b → b ≡ false
        by_test false is = refl
        by_test true is = absurd (writer_there v.writer refl is)

    writes_alone : v.is_lost ≡ false → Some c ≡ exclusive t qr v
    writes_alone kept = by_exclusive_writer exclusive_writer
      where
        by_exclusive_writer : IsExclusiveWriter t qr v c → Some c ≡ exclusive t qr v
        by_exclusive_writer (sound.first off came) =
            sym ((the_law.alone.writes qr c v k there kept unwritten came at undue).1 (rw owns refl))
        by_exclusive_writer (sound.alone lost_is is) = false_true (sym kept ∙ lost_is)

    -- all that its own exchange brought is stored
    all_stored : v.is_lost ≡ false → is_some w.head ≡ true → unstored_bytes t x w v (Some k) ≡ []
    all_stored kept headed = by_test (is_bound_place (family x w) k.place && is_number k.own x)
      where
        stores : (p : ℕ) → v.stored p ≡ v.body p
        stores = (the_law.sound.rows qr v there).store.all_stored kept

        ends : EndsBy v.reach v.stored
        ends p le = stores p ∙ (the_law.sound.rows qr v there).store.ends p le

        covered : Covers v.stored (offset t k) (front w)
        covered p from_it to_it = ap (λ (z : Option Cell). is_some z) (stores p) ∙
            facts.come.covered qr c x v k w there exclusive_writer (sound.is_bound lo hi way at place_is) undue mine broken.row headed p from_it to_it

        past_front : front w ≤ first_lacking t w v k
        past_front = (let yes : nat_le (front w) (first_lacking t w v k) ≡ true = covers_yes v.stored v.reach (offset t k) (front w) ends covered in
            grind (arith, nat_tests, yes))

        enough : length w.body ≤ first_lacking t w v k - base w
        enough = (let far = past_front in omega arith)

        by_test : (b : Bool) → (if b then drop (first_lacking t w v k - base w) w.body else []) ≡ []
        by_test true = drop_all (first_lacking t w v k - base w) w.body enough
        by_test false = refl

    module _ (among : ℕ → Bool) (why : Cause) where
      abbrev s : Tables
      s = with_consumers (due_for t among why) t

      number_only : (y : ℕ) (b : Bool) → nat_eq x y ≡ b → (z : Exchange) → t.exchange y ≡ Some z → v.is_lost ≡ false → is_some w.head ≡ true →
          unstored_bytes t y z v (Some k) ≡ []
      number_only y true same z there_y kept headed =
          let one : x ≡ y = grind (arith, nat_tests, same) in
          let same_z : w ≡ z = same_row (t.exchange x) w z broken.row (ap t.exchange one ∙ there_y) in
          subst (λ (n : ℕ). unstored_bytes t n z v (Some k) ≡ []) one
          (subst (λ (a : Exchange). unstored_bytes t x a v (Some k) ≡ []) same_z (all_stored kept headed))
      number_only y false off z there_y kept headed =
          let other : is_number k.own y ≡ false = ap (λ (o : Option ℕ). is_number o y) mine ∙ off in
          ap (λ b. if b then drop (first_lacking t z v k - base z) z.body else []) (then_false (is_bound_place (family y z) k.place) (is_number k.own y) other)

      pub may_stop_own : MayStop t (due_for t among why) x (Some c)
      may_stop_own = record {
        w = w;
        row = broken.row;
        is_open = broken.is_open;
        may = may_due t among why (may_let_go t the_law);
        unawaited = awaits_due t among why x unawaited;
        writes = λ u headed rep kept.
            let same : u ≡ v = same_row (t.representation (family x w)) u v rep there in
            subst (λ (z : Representation). Some c ≡ exclusive t qr z) (sym same) (writes_alone (ap (λ (z : Representation). z.is_lost) (sym same) ∙ kept));
        stored = λ u headed rep kept y z there_y of_y.
            let same : u ≡ v = same_row (t.representation (family x w)) u v rep there in
            subst (λ (p : Representation). held_alone s y z p (Some c) ≡ []) (sym same)
            (reported_same t among why (unstored_bytes s y z v) (λ a. refl) c ∙
            (unstored_moved t s y z v (t.consumer c) ∙
            (ap (unstored_bytes t y z v) at ∙ number_only y (nat_eq x y) refl z there_y (ap (λ (p : Representation). p.is_lost) (sym same) ∙ kept) headed)));
      }

-- IT BREAKS OFF

module _ {B : Type 0} {g : Ghosts B} {limits : Limits} (r mid u : Rows B g) (t : Tables) (facts : Facts limits t) (stands : RowsStand limits r t) (x : ℕ)
    (w : Exchange) (broken : IsBroken t x w) (by : Readers) (is : by ≡ readers_of x (table_of r.exchanges) (shelf_of r.entries)) (why : Cause)
    (rest : KeepsRest r mid) (same_exchanges : mid.exchanges ≡ r.exchanges)
    (changes : ChangesAmong r.consumers mid.consumers (reads_from (shelf_of r.entries) by) (with_due why))
    (faults now : ℕ) (before out : List Act)
    (stops : (f : ℕ → Option rows.Consumer) → MayStop t f x (goes_on by) → RowsStand limits mid (with_consumers f t) →
    HasStopped limits faults u t f before out now x) where
  dues : (among : ℕ → Bool) → ((d : ℕ) → reads_from (shelf_of r.entries) by d ≡ among d) → RowsStand limits mid (with_consumers (due_for t among why) t)
  dues among alike = stands_due r mid t among why stands rest.last_start same_exchanges rest.keys rest.entries (among_as r.consumers mid.consumers (reads_from (shelf_of r.entries) by) among (with_due why) alike changes)

  reads_one : (c : ℕ) → by ≡ readers.One c → (d : ℕ) → reads_from (shelf_of r.entries) by d ≡ nat_eq c d
  reads_one c one d = ap (λ b. reads_from (shelf_of r.entries) b d) one

  pub breaks_off : BrokeOff limits faults u t before out now x w why
  breaks_off = by_readers (read_by r t facts stands x w broken.row broken.is_open)
    where
      one_stops : (c : ℕ) → by ≡ readers.One c → MayStop t (due_for t (λ d. nat_eq c d) why) x (Some c) →
          HasStopped limits faults u t (due_for t (λ d. nat_eq c d) why) before out now x
      one_stops c one may = stops (due_for t (λ d. nat_eq c d) why)
          (subst (λ o. MayStop t (due_for t (λ d. nat_eq c d) why) x o) (sym (ap goes_on one)) may) (dues (λ d. nat_eq c d) (reads_one c one))

      by_readers : ReadBy t x w (readers_of x (table_of r.exchanges) (shelf_of r.entries)) → BrokeOff limits faults u t before out now x w why
      by_readers (past none one) =
          stopped.own w.c (stopped.past none refl) (one_stops w.c (is ∙ one) (may_stop_past limits t facts x w broken w.c (λ d. nat_eq w.c d) why none))
      by_readers (own c k v there (sound.is_bound lo hi way at place_is) owns undue exclusive_writer one) =
          stopped.own c (stopped.brings k v there at (own_open_of t k x owns).own)
          (one_stops c (is ∙ one) (may_stop_own limits t facts x w broken c k v there lo hi way at place_is owns undue exclusive_writer (λ d. nat_eq c d) why))
      by_readers (shared v there written writer all) =
          let those = is ∙ all in
          stopped.shared v there written writer
          (stops (due_for t (λ d. is_bound (family x w) (t.consumer d)) why)
          (subst (λ o. MayStop t (due_for t (λ d. is_bound (family x w) (t.consumer d)) why) x o) (sym (ap goes_on those))
          (may_stop_shared limits t facts x w broken v (λ d. is_bound (family x w) (t.consumer d)) why there written))
          (dues (λ d. is_bound (family x w) (t.consumer d))
          (λ d. ap (λ b. reads_from (shelf_of r.entries) b d) those ∙ users_are r t facts stands x w broken.row broken.is_open v there d)))
