-- An exchange that stops is closed, and what it brought is sealed, or lost where its seal fails.
--
-- No other exchange brings it (`nothing_else`), so it grows no more, and its kind is the one that the seal wrote. With
-- that its entry is rebuilt, and `Closing` does the rest (`stopped_sealed`). Where the seal failed, it is lost to its
-- exclusive writer, if there is one, and let go before the exchange is closed. Then it brings only what is gone, so
-- `stands_unstored` applies (`stopped_lost`). `seal_stopped` uses both.
use Rattle.std.{proofs.{lemmas.Bool.Decides.{nat_tests}, Common.{arith, ◌≡◌, ◌≢◌, inl, inr, ℕ, ◌<◌, List, [], ◌∷◌, ◌++◌, Bool, true, false, Option, Some, None, refl, ap, sym, ◌∙◌, subst}}, specs.Prelude.{is_some, nat_eq, option_map, ◌&&◌, if◌then◌else◌}}
use Rattle.hc_store.specs.declared.backend.Backend.{Ghosts}
use Rattle.hc_effects.proofs.Vocabulary.{Act, Limits, with_representation, tables_after_close, over, let_go, as_gone, lost_to, family, Grows, Lawful, kind_of, is_growing, is_complete, is_prefix, covers_all, brings_to, Tables, Exchange, Representation, bound, exclusive, Response, act, kind}
use Rattle.hc_record.specs.declared.kind.Kind.{Kind, TheVariants.{the_data as kinds}}
use Rattle.hc_sparse.specs.Cells.{Covers}
use Rattle.hc_stored.specs.{Entries.{shelf_of}, Kept.{Kept}, Shelf.{Shelf, same_order}, Views.{view_of}, declared.view.EntryView.{EntryView}}
use Rattle.hc_stored.specs.Kept as entry
use Rattle.hc_stored.specs.Shelf as shelf
use Rattle.hc_exch.specs.Exchanges as exch
use Rattle.hc_exch.specs.Known as known
use Rattle.hc_model.specs.Rows as rows
use Rattle.hc_effects.proofs.HoleLemmas as holes
use Rattle.hc_effects.proofs.Tests.{none_some}
use Rattle.hc_state.proofs.{Ties.{overs_closed, writer_then}, CloseHandler.{quiet, unawaited_go}, Closing.{entry_closed, stands_closed, stands_unstored}, OneOfEach.{first_row}, Stopping.{Stays}}
use Rattle.hc_state.specs.{declared.{rows.Rows.{Rows}, stop.Disposition.TheVariants.{the_data as stop}}, Facts.{Facts}, Stopped.{with_consumers, HoldsNothing, MayStop, HasStopped, unsealed}, Stands.{RowsStand, KeepsRest}, Stops.{brought_by, goes_with, stop_by, stop_at, stop_of, IsViewOf, kind_left}, Stored.{IsEntry, KnowsLength, reported, unreported, KeepsEntry, KeepsEntries, KnowsWriter}}
use Rattle.hc_exch.specs.declared.row.Open.{Open}
use Rattle.hc_text.proofs.Basics.{any_none, eq_reports, eqb-other, eqb-same, false_true, same_or, some_inj as some_is, and_off as then_false}

-- what is called whole is
whole_covers : (v : Representation) (n : ℕ) → kind_left v ≡ kinds.Whole → v.head.total ≡ Some n → Covers v.stored 0 n
whole_covers v n is known = by_test (is_complete v) refl is
  where
    by_front : (b : Bool) → (if b then kinds.Truncated else kinds.Ranges) ≡ kinds.Whole → ⊥
    by_front true h = cc
    by_front false h = cc

    by_test : (b : Bool) → is_complete v ≡ b → (if b then kinds.Whole else if is_prefix v then kinds.Truncated else kinds.Ranges) ≡ kinds.Whole →
        Covers v.stored 0 n
    by_test true all h = holes.covers_all v.stored v.reach 0 n
        (let reported_all : covers_all v (Some n) ≡ true = ap (covers_all v) (sym known) ∙ all in reported_all)
    by_test false off h = absurd (by_front (is_prefix v) h)

-- one exchange at most brings what is stored
pub nothing_else : (t : Tables) → Lawful t → (x q : ℕ) (p : Representation) → t.representation q ≡ Some p → Grows t x q → (y : ℕ) → x ≢ y →
    brings_to q y (t.exchange y) ≡ false
nothing_else t law x q p there grows y ne = by_row (t.exchange y) refl
  where
    headed_by : (z : Exchange) → t.exchange y ≡ Some z → family y z ≡ q → (h : Option Response) → z.head ≡ h → is_some h ≡ true
    headed_by z row of_q (Some response) is = refl
    headed_by z row of_q None bare =
        let joined = (law.sound.waits.headless y z row bare).1 in
        let none = law.sound.numbered.names.unfounded y z row bare in
        none_some p (sym none ∙ (ap t.representation (let own : family y z ≡ y = rw joined refl in sym own ∙ of_q) ∙ there))

    by_tests : (z : Exchange) → t.exchange y ≡ Some z → (on same : Bool) → z.is_open ≡ on → nat_eq (family y z) q ≡ same → (on && same) ≡ false
    by_tests z row false same is of_q = refl
    by_tests z row true false is of_q = refl
    by_tests z row true true is of_q =
        let own : family y z ≡ q = eq_reports (family y z) q of_q in
        absurd (ne (law.growing.one q x y p there grows (record { w = z; row = row; is_open = is; headed = headed_by z row own z.head refl; of_r = own })))

    by_row : (o : Option Exchange) → t.exchange y ≡ o → brings_to q y o ≡ false
    by_row None row = refl
    by_row (Some z) row = by_tests z row z.is_open (nat_eq (family y z) q) refl refl

module _ (limits : Limits) (t : Tables) (facts : Facts limits t) (f : ℕ → Option rows.Consumer) (x : ℕ) (w : Exchange) (ex : t.exchange x ≡ Some w)
    (opened : w.is_open ≡ true) (shelf_before : Shelf) (q : ℕ) where
  abbrev s : Tables
  s = with_consumers f t

  module _ (stays : Stays t s shelf_before x q w) where
    grows_here : Grows t x q
    grows_here = record { w = w; row = ex; is_open = opened; headed = stays.headed; of_r = stays.of_q }

    -- nothing else brings it
    only_grower : (y : ℕ) → brings_to q y ((tables_after_close x s).exchange y) ≡ false
    only_grower y = elim (same_or x y) [
      | inl e ↦ (let after : (tables_after_close x s).exchange y ≡ option_map over (t.exchange y) = rw (e, eqb-same y) refl in ap (brings_to q y) after ∙
          not_over (t.exchange y))
      | inr ne ↦ (let after : (tables_after_close x s).exchange y ≡ t.exchange y = rw (eqb-other x y ne) refl in ap (brings_to q y) after ∙ nothing_else
          t facts.law x q stays.p stays.row grows_here y ne)
    ]
      where
        not_over : (o : Option Exchange) → brings_to q y (option_map over o) ≡ false
        not_over None = refl
        not_over (Some z) = refl

    kind_is : kind_of (tables_after_close x s) q stays.p ≡ kind_left stays.p
    unfolding kind_of
    kind_is = (let still : is_growing (tables_after_close x s) q ≡ false =
        any_none (λ y. brings_to q y ((tables_after_close x s).exchange y)) t.openings only_grower in rw still refl)

    sealed_entry : (sort : Kind) (total : Option ℕ) → sort ≡ kind_left stays.p → total ≡ stays.e.head.total →
        IsEntry (tables_after_close x s) q (entry.sealed_kept sort total stays.e) stays.p
    unfolding bound
    sealed_entry sort total sort_is total_is =
        let is = stays.is in
        let same : total ≡ stays.p.head.total = total_is ∙ by_length is.length in
        let length : KnowsLength (entry.sealed_kept sort total stays.e) stays.p = reported same in
        let writer : KnowsWriter (tables_after_close x s).exchange stays.e.writer stays.p.writer =
        writer_then (λ y on. overs_closed (nat_eq x y) (t.exchange y) on) is.writer in
        let whole : (n : ℕ) → sort ≡ kinds.Whole → total ≡ Some n → Covers stays.p.stored 0 n =
        λ n whole known. whole_covers stays.p n (sym sort_is ∙ whole) (sym same ∙ known) in
        assumption (
          is,
          length,
          (λ (here : stays.p.is_gone ≡ false). sort_is ∙ sym kind_is),
          whole,
          writer,
          (λ (d : ℕ). is.first d ∙ sym (first_row s (tables_after_close x s) (λ n. refl) q (s.consumer d))),
        )
      where
        by_length : KnowsLength stays.e stays.p → stays.e.head.total ≡ stays.p.head.total
        by_length (reported same) = same
        by_length (unreported u) = false_true (sym stays.stays ∙ u.gone)

    entries_sealed : (b : Shelf) (sort : Kind) (total : Option ℕ) → sort ≡ kind_left stays.p → total ≡ stays.e.head.total → KeepsEntries s shelf_before →
        shelf.Becomes (option_map (entry.sealed_kept sort total)) same_order q shelf_before b → KeepsEntries (tables_after_close x s) b
    entries_sealed b sort total sort_is total_is kept becomes = record {
      each = λ n. elim (same_or q n) [
        | inl e ↦ subst (λ m. KeepsEntry (tables_after_close x s) m (b.kept m) ((tables_after_close x s).representation m)) e by_seal
        | inr ne ↦ rw (becomes.kept n, eqb-other q n ne)
            (entry_closed s x n (shelf_before.kept n) (t.representation n)
            (λ p there here. ap (brings_to n x) ex ∙ then_false w.is_open (nat_eq (family x w) n) (rw stays.of_q (eqb-other q n ne))) (kept.each n))
      ];
      order = becomes.order ∙ kept.order;
    }
      where
        by_seal : KeepsEntry (tables_after_close x s) q (b.kept q) (t.representation q)
        by_seal =
            let after : b.kept q ≡ Some (entry.sealed_kept sort total stays.e) = becomes.kept q ∙ rw (eqb-same q, stays.kept) refl in
            subst (λ k. KeepsEntry (tables_after_close x s) q k (t.representation q)) (sym after)
            (subst (KeepsEntry (tables_after_close x s) q (Some (entry.sealed_kept sort total stays.e))) (sym stays.row)
            (sealed_entry sort total sort_is total_is))

-- WHERE IT STOPS

module _ {B : Type 0} {g : Ghosts B} (limits : Limits) (r u : Rows B g) (t : Tables) (facts : Facts limits t) (f : ℕ → Option rows.Consumer) (x : ℕ)
    (alone : Option ℕ) (stop : MayStop t f x alone) (now faults : ℕ) (before out : List Act) (q : ℕ)
    (stays : Stays t (with_consumers f t) (shelf_of r.entries) x q stop.w) where
  abbrev after : Tables
  after = with_consumers f t

  -- it is sealed
  pub stopped_sealed : RowsStand limits r after → u.last_start ≡ r.last_start → u.consumers ≡ r.consumers → u.keys ≡ r.keys →
      exch.Becomes known.without_exchange x r.exchanges u.exchanges
      → (sort : Kind) (total : Option ℕ) → sort ≡ kind_left stays.p → total ≡ stays.e.head.total →
      shelf.Becomes (option_map (entry.sealed_kept sort total)) same_order q (shelf_of r.entries) (shelf_of u.entries) → out ≡ before →
      HasStopped limits faults u t f before out now x
  stopped_sealed stands last consumers keys becomes sort total sort_is total_is seals acts =
      quiet limits u t facts f x alone stop now faults before out None stays.keeps acts
      (stands_closed r u after x stands stop.unawaited last consumers keys becomes seals.limits
      (entries_sealed limits t facts f x stop.w stop.row stop.is_open (shelf_of r.entries) q stays (shelf_of u.entries) sort total sort_is total_is
      stands.entries seals))

  not_lost : stays.p.is_lost ≡ false
  not_lost = grind (arith, nat_tests)

  pub nobody_yet : stays.p.alone ≡ None
  nobody_yet = (facts.law.sound.rows q stays.p stays.row).store.nobody_alone not_lost

  family_row : t.representation (family x stop.w) ≡ Some stays.p
  family_row = ap t.representation stays.of_q ∙ stays.row

  pub who_is : alone ≡ exclusive t q stays.p
  who_is = stop.writes stays.p stays.headed family_row not_lost ∙ ap (λ n. exclusive t n stays.p) stays.of_q

  pub nothing_held : HoldsNothing after q stays.p alone
  nothing_held = subst (λ (n : ℕ). HoldsNothing after n stays.p alone) stays.of_q (stop.stored stays.p stays.headed family_row not_lost)

  -- lost by it
  abbrev lost_now : Tables
  lost_now = with_representation q (Some (lost_to alone stays.p)) after

  -- its seal failed
  pub stopped_lost : (mid : Rows B g) → RowsStand limits mid (let_go now q lost_now) → KeepsRest mid u → u.consumers ≡ mid.consumers →
      exch.Becomes known.without_exchange x mid.exchanges u.exchanges → faults < (shelf_of u.entries).faults → out ≡ before ++
      (act.Lost q kind.Fault ∷ []) → HasStopped limits faults u t f before out now x
  stopped_lost mid stands rest consumers becomes failed acts = unsealed (record {
    sealed = record { w = stop.w; r = q; v = stays.p; row = stop.row; of_r = stays.of_q; there = stays.row; stays = stays.stays; kept = stays.keeps };
    acts = acts;
    failed = failed;
    rows =
        subst (λ (z : Option ℕ). RowsStand limits u (let_go now q (with_representation q (Some (lost_to z stays.p)) (tables_after_close x after)))) who_is
        (stands_unstored mid u (let_go now q lost_now) x stands (unawaited_go now q lost_now x stop.unawaited) apart rest.last_start consumers rest.keys
        rest.entries becomes);
  })
    where
      gone_there : (o : Option Representation) (p : Representation) → option_map as_gone o ≡ Some p → p.is_gone ≡ true
      gone_there None p h = none_some p h
      gone_there (Some a) p h = sym (ap (λ (z : Representation). z.is_gone) (some_is (as_gone a) p h))

      apart : (n : ℕ) (p : Representation) → (let_go now q lost_now).representation n ≡ Some p → p.is_gone ≡ false → brings_to n x (t.exchange x) ≡ false
      apart n p there kept = elim (same_or q n) [
        | inl e ↦
            false_true (sym kept ∙ gone_there (lost_now.representation n) p (sym (rw (e, eqb-same n) refl) ∙ there))
        | inr ne ↦ ap (brings_to n x) stop.row ∙ then_false stop.w.is_open (nat_eq (family x stop.w) n) (rw stays.of_q (eqb-other q n ne))
      ]

-- WHAT A SEAL LEAVES

-- what is decided to be sealed is kept
pub seal_kept : (x q : ℕ) (running : Option Open) (s : Shelf) → stop_of x running s ≡ stop.Seal q → shelf.is_kept s q ≡ true
seal_kept x q running s is = by_brought (brought_by running) is
  where
    not_nothing : stop.Nothing ≡ stop.Seal q → ⊥
    not_nothing h = cc

    not_let_go : (n : ℕ) → stop.LetGo n ≡ stop.Seal q → ⊥
    not_let_go n h = cc

    seal_of : (n : ℕ) → stop.Seal n ≡ stop.Seal q → n ≡ q
    seal_of n h = cc

    by_goes : (n : ℕ) (e : Kept) → s.kept n ≡ Some e → (b : Bool) → (if b then stop.LetGo n else stop.Seal n) ≡ stop.Seal q → shelf.is_kept s q ≡ true
    by_goes n e at true h = absurd (not_let_go n h)
    by_goes n e at false h = subst (λ m. shelf.is_kept s m ≡ true) (seal_of n h) (ap (λ z. is_some z) at)

    by_gone : (n : ℕ) (e : Kept) → s.kept n ≡ Some e → (b : Bool) →
        (if b then stop.Nothing else if goes_with x n (view_of e) then stop.LetGo n else stop.Seal n) ≡ stop.Seal q → shelf.is_kept s q ≡ true
    by_gone n e at true h = absurd (not_nothing h)
    by_gone n e at false h = by_goes n e at (goes_with x n (view_of e)) h

    by_kept : (n : ℕ) (k : Option Kept) → s.kept n ≡ k → stop_by x n k ≡ stop.Seal q → shelf.is_kept s q ≡ true
    by_kept n None at h = absurd (not_nothing h)
    by_kept n (Some e) at h = by_gone n e at e.is_gone h

    by_brought : (o : Option ℕ) → stop_at x s o ≡ stop.Seal q → shelf.is_kept s q ≡ true
    by_brought None h = absurd (not_nothing h)
    by_brought (Some n) h = by_kept n (s.kept n) refl h

-- the view of what is kept
pub viewed : (s : Shelf) (q : ℕ) (e : Kept) (o : Option EntryView) (entry : EntryView) → s.kept q ≡ Some e → o ≡ option_map view_of (s.kept q) →
    o ≡ Some entry → entry ≡ view_of e
viewed s q e o entry at is some = some_is entry (view_of e) (sym some ∙ (is ∙ ap (option_map view_of) at))

pub reported_kept : (s : Shelf) (q : ℕ) (e : Kept) (p : Representation) (entry : EntryView) → s.kept q ≡ Some e → entry ≡ view_of e →
    IsViewOf p e.cells (view_of e) → IsViewOf p (shelf.cells_at s q) entry
reported_kept s q e p entry at is is_reported = record {
  total = ap (λ (z : EntryView). z.total) is ∙ is_reported.total;
  size = ap (λ (z : EntryView). z.size) is ∙ is_reported.size;
  stored = λ n. ap (λ k. shelf.cells_in k n) at ∙ is_reported.stored n;
  ends = is_reported.ends;
}
