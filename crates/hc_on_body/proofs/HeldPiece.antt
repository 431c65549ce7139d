-- A piece of what was lost is held for its detached reader: what is kept represents the tables then.
--
-- What is held for it is what it still lacks: the bytes of its exchange from the first one that isn't stored for it. No
-- byte is stored where the piece begins, so that place stays the same, or nothing came before. So what is held grows by
-- just the piece (`more`). Where nobody goes on, nothing is held, and the piece is dropped. `by_held` joins both with
-- `PieceRows`; `LosePiece` and `LostPiece` use `held_stands` and `dropped_stands`.
use Rattle.std.{proofs.{Common.{◌≡◌, ◌≢◌, inl, inr, ℕ, ◌+◌, ◌-◌, ◌<◌, ◌≤◌, ◌⊎◌, List, [], ◌++◌, length, drop, max, min, Bool, true, false, Option, Some, None, refl, ap, sym, ◌∙◌, subst, arith}, lemmas.List.{drop-append-le, length-append}}, specs.Prelude.{is_some, is_none, ◌==◌, ◌&&◌, if◌then◌else◌}}
use Rattle.hc_text.proofs.Basics.{eqb-other, eqb-same, false_true, order, same_or}
use Rattle.hc_effects.proofs.Vocabulary.{Limits, is_number, with_piece, family, base, front, first_place, absent_from, bound, is_bound_place, with_stored_bytes, Tables, Exchange, Representation, place, kind_of}
use Rattle.hc_store.specs.declared.backend.Backend.{Ghosts}
use Rattle.hc_sparse.specs.Cells.{Cell, Cells, inside}
use Rattle.hc_stored.specs.{Entries.{shelf_of}, Kept.{Kept}, declared.entries.Entries.{Entries}}
use Rattle.hc_exch.specs.Exchanges as exch
use Rattle.hc_exch.specs.Exchanges.{table_of}
use Rattle.hc_exch.specs.Known as known
use Rattle.hc_effects.proofs.HoleLemmas.{first_from, first_to, first_before, first_passes}
use Rattle.hc_state.proofs.{Ties.{overs_open, writer_then, OversStay}, Fallbacks.{unstored_moved}, OneOfEach.{first_by}}
use Rattle.hc_state.specs.{declared.rows.Rows.{Rows}, Kept.{first_lacking, unstored_bytes, held_alone, held_of, held_for}, Refused.{GoesOn, MayHold}, Stands.{RowsStand}, Stored.{IsEntry, KnowsLength, reported, unreported, KeepsEntry}}
use Rattle.hc_on_leave.proofs.{PieceHandler.{Runs, runs_of}, PieceRows.{s, IsLike, like_same, stands_pieced}}

-- WHAT IS HELD, WITH MORE BYTES

module _ (f : Cells) (offset base reach : ℕ) (body bytes : List ℕ) (within : offset ≤ base + length body) (absent : f (base + length body) ≡ None)
    (some : 0 < length bytes) (ends : (p : ℕ) → reach ≤ p → p + 1 ≡ base + length body → length body ≡ 0) (reached : (p : ℕ) → reach ≤ p → f p ≡ None) where
  abbrev old : ℕ
  old = absent_from f reach offset (base + length body)

  abbrev new : ℕ
  new = absent_from f (max reach (base + length body + length bytes)) offset (base + length (body ++ bytes))

  abbrev short : ℕ
  short = min (base + length body) reach - offset

  abbrev long : ℕ
  long = base + length body + length bytes - offset

  new_is : new ≡ first_place is_none f offset long
  new_is =
      let len : length (body ++ bytes) ≡ length body + length bytes = length-append body bytes in
      ap (first_place is_none f offset) (omega (arith, len))

  at_front : is_none (f (base + length body)) ≡ true
  at_front = ap (λ (o : Option Cell). is_none o) absent

  new_within : new ≤ base + length body
  new_within = elim (order new (base + length body)) [
    | inl lt ↦ omega (arith, lt)
    | inr (inl same) ↦ omega (arith, same)
    | inr (inr past) ↦ false_true
        (sym (first_before is_none f offset long (base + length body) within (let same = new_is in subst (λ n. base + length body < n) same past)) ∙ at_front)
  ]

  new_passes : is_none (f new) ≡ true
  new_passes =
      let low = new_within in
      let same = new_is in
      let lt : first_place is_none f offset long < offset + long =
      (let le : first_place is_none f offset long ≤ base + length body = subst (λ n. n ≤ base + length body) same low in omega arith) in
      subst (λ n. is_none (f n) ≡ true) (sym same) (first_passes is_none f offset long lt)

  -- both begin at the same place, or nothing came
  same_drop : drop (new - base) body ≡ drop (old - base) body
  same_drop = elim (order old new) [
    | inr (inl same) ↦ ap (λ n. drop (n - base) body) (sym same)
    | inr (inr past) ↦ false_true
        (sym (first_before is_none f offset short new (let same = new_is in subst (λ n. offset ≤ n) (sym same) (first_from is_none f offset long)) past) ∙
        new_passes)
    | inl before ↦ nothing_came before
  ]
    where
      nothing_came : old < new → drop (new - base) body ≡ drop (old - base) body
      nothing_came before =
          let from : offset ≤ old = first_from is_none f offset short in
          let same = new_is in
          let stored : is_none (f old) ≡ false = first_before is_none f offset long old from (subst (λ n. old < n) same before) in
          let end : old ≡ offset + short = elim (order old (offset + short)) [
            | inl lt ↦ false_true (sym stored ∙ first_passes is_none f offset short lt)
            | inr (inl is) ↦ is
            | inr (inr gt) ↦ (let le : old ≤ offset + short = first_to is_none f offset short in absurd (omega arith))
          ] in
          false_true (sym stored ∙ ap (λ (o : Option Cell). is_none o) (reached old (omega (arith, new_within))))

  pub more : drop (new - base) (body ++ bytes) ≡ drop (old - base) body ++ bytes
  more = drop-append-le (new - base) body bytes (omega (arith, new_within)) ∙ ap (λ (ys : List ℕ). ys ++ bytes) same_drop

unless : (xs : List ℕ) (a b : Bool) → b ≡ false → (if a && b then xs else []) ≡ []
unless xs true b off = rw off refl
unless xs false b off = refl

-- ALL OF IT

module _ {B : Type 0} {g : Ghosts B} {limits : Limits} (r u : Rows B g) (t : Tables) (stands : RowsStand limits r t) (now x : ℕ) (bytes : List ℕ)
    (w : Exchange) (v : Representation) (row : t.exchange x ≡ Some w) (opened : w.is_open ≡ true) (headed : is_some w.head ≡ true)
    (there : t.representation (family x w) ≡ Some v) (lost : v.is_lost ≡ true) (is_gone : v.is_gone ≡ true) (unended : w.is_ended ≡ false)
    (last : u.last_start ≡ r.last_start) (same_map : u.consumers ≡ r.consumers) (same_keys : u.keys ≡ r.keys) (same_entries : u.entries ≡ r.entries) where
  abbrev v2 : Representation
  v2 = with_stored_bytes false (front w) x bytes v

  abbrev vs : ℕ → Option Representation
  vs q = if family x w == q then Some v2 else t.representation q

  abbrev after : Tables
  after = s t now x w bytes vs

  vs_here : vs (family x w) ≡ Some v2
  vs_here = rw (eqb-same (family x w)) refl

  vs_else : (q : ℕ) → family x w ≢ q → vs q ≡ t.representation q
  vs_else q ne = rw (eqb-other (family x w) q ne) refl

  like : (q : ℕ) → IsLike (t.representation q) (vs q)
  like q = elim (same_or (family x w) q) [
    | inl e ↦
        subst (λ o. IsLike o (vs q)) (ap t.representation e) (subst (IsLike (t.representation (family x w))) (ap vs e)
        (subst (λ o. IsLike o (vs (family x w))) (sym there)
        (subst (IsLike (Some v)) (sym vs_here) (record { there = refl; total = refl; status = refl; usable = λ key. refl; usable_row = refl }))))
    | inr ne ↦ like_same (t.representation q) (vs q) (vs_else q ne)
  ]

  entry_then : (e : Kept) → IsEntry t (family x w) e v → IsEntry after (family x w) e v2
  unfolding bound
  entry_then e is =
      let kind : v.is_gone ≡ false → e.head.kind ≡ kind_of after (family x w) v2 =
      λ stays. false_true (sym stays ∙ is_gone) in
      let reach : v.is_lost ≡ false → e.reach ≡ v2.reach = λ fresh. false_true (sym fresh ∙ lost) in
      let first = λ (d : ℕ). first_by t after (λ n. (like n).status) (family x w) (t.consumer d) in
      let over : OversStay t.exchange after.exchange =
      overs_open t.exchange after.exchange x w row opened (λ y ne. rw (eqb-other x y ne) refl) in
      assumption (
        is,
        by_length is.length,
        kind,
        reach,
        writer_then over is.writer,
        (λ (d : ℕ). is.first d ∙ sym (first d)),
      )
    where
      there_still : (a : Bool) (cell : Cell) (o : Option Cell) → is_some o ≡ true → is_some (if a then Some cell else o) ≡ true
      there_still true cell o some_there = refl
      there_still false cell o some_there = some_there

      by_length : KnowsLength e v → KnowsLength e v2
      by_length (reported same) = reported same
      by_length (unreported n) =
          unreported (record {
            gone = n.gone;
            unreported = n.unreported;
            total = n.total;
            known = n.known;
            came =
                λ p low high. there_still (inside (front w) (length bytes) p) _ (v.body p) (n.came p low high);
            first = n.first;
          })

  its : KeepsEntry after (family x w) ((shelf_of u.entries).kept (family x w)) (vs (family x w))
  unfolding bound
  its = subst (λ (e : Entries B g). KeepsEntry after (family x w) ((shelf_of e).kept (family x w)) (vs (family x w))) (sym same_entries)
      (subst (KeepsEntry after (family x w) ((shelf_of r.entries).kept (family x w))) (sym vs_here)
      (by_kept ((shelf_of r.entries).kept (family x w))
      (subst (KeepsEntry t (family x w) ((shelf_of r.entries).kept (family x w))) there (stands.entries.each (family x w)))))
    where
      by_kept : (k : Option Kept) → KeepsEntry t (family x w) k (Some v) → KeepsEntry after (family x w) k (Some v2)
      by_kept None kept = record { gone = kept.gone; unused = kept.unused }
      by_kept (Some e) kept = entry_then e kept

  runs : Runs r t x w
  runs = runs_of r t x w stands row opened

  alone_moved : (y : ℕ) (e : Exchange) (p : Representation) (o : Option ℕ) → held_alone after y e p o ≡ held_alone t y e p o
  alone_moved y e p None = refl
  alone_moved y e p (Some d) = unstored_moved t after y e p (t.consumer d)

  -- by what is held then
  by_held : (hold : Bool) → exch.Becomes (known.with_piece bytes hold) x r.exchanges u.exchanges →
      (known.with_piece bytes hold (table_of r.exchanges x)).held ≡ held_for after x (Some (with_piece bytes w)) →
      ((y : ℕ) (e : Exchange) → x ≢ y → t.exchange y ≡ Some e → held_for after y (Some e) ≡ held_for t y (Some e)) → RowsStand limits u after
  by_held hold becomes here apart =
      stands_pieced t now x w bytes vs row opened headed r u stands unended like vs_else hold runs.o runs.running
      last same_map same_keys becomes here apart
      (rw same_entries stands.limits) (λ q ne. rw same_entries refl) (rw same_entries refl) its

  -- WHO GOES ON

  module _ (some : 0 < length bytes) (on : GoesOn t x w v) (within : on.lo + on.k.given ≤ front w) (absent : v.stored (front w) ≡ None)
      (reached : (p : ℕ) → v.reach ≤ p → v.stored p ≡ None) (brought_some : (p : ℕ) → v.reach ≤ p → p + 1 ≡ front w → length w.body ≡ 0) where
    held_new : unstored_bytes after x (with_piece bytes w) v2 (Some on.k) ≡ drop
        (absent_from v.stored (max v.reach (front w + length bytes)) (on.lo + on.k.given) (base w + length (w.body ++ bytes)) - base w) (w.body ++ bytes)
    held_new = (let at = on.at in let own = on.own in rw (at, own, eqb-same (family x w), eqb-same x) refl)

    held_old : unstored_bytes t x w v (Some on.k) ≡ drop (absent_from v.stored v.reach (on.lo + on.k.given) (front w) - base w) w.body
    held_old = (let at = on.at in let own = on.own in rw (at, own, eqb-same (family x w), eqb-same x) refl)

    held_then : held_for after x (Some (with_piece bytes w)) ≡ held_for t x (Some w) ++ bytes
    held_then =
        ap (held_of after x (with_piece bytes w)) vs_here
        ∙ (ap (held_alone after x (with_piece bytes w) v2) on.alone
        ∙ (ap (unstored_bytes after x (with_piece bytes w) v2) on.row
        ∙ (held_new
        ∙ (more v.stored (on.lo + on.k.given) (base w) v.reach w.body bytes within absent some brought_some reached
        ∙ ap (λ (ys : List ℕ). ys ++ bytes)
        (sym (ap (held_of t x w) there ∙ (ap (held_alone t x w v) on.alone ∙ (ap (unstored_bytes t x w v) on.row ∙ held_old))))))))

    none_for : (m : Tables) (y : ℕ) (e : Exchange) (p : Representation) → x ≢ y → unstored_bytes m y e p (Some on.k) ≡ []
    none_for m y e p ne = unless (drop (first_lacking m e p on.k - base e) e.body) (is_bound_place (family y e) on.k.place) (is_number on.k.own y)
        (ap (λ o. is_number o y) on.own ∙ eqb-other x y ne)

    held_else : (y : ℕ) (e : Exchange) → x ≢ y → t.exchange y ≡ Some e → held_for after y (Some e) ≡ held_for t y (Some e)
    held_else y e ne at = elim (same_or (family x w) (family y e)) [
      | inl one ↦
          ap (held_of after y e) (sym (ap vs one) ∙ vs_here)
          ∙ (ap (held_alone after y e v2) on.alone
          ∙ (ap (unstored_bytes after y e v2) on.row
          ∙ (none_for after y e v2 ne
          ∙ sym (ap (held_of t y e) (sym (ap t.representation one) ∙ there) ∙
          (ap (held_alone t y e v) on.alone ∙ (ap (unstored_bytes t y e v) on.row ∙ none_for t y e v ne))))))
      | inr other ↦ ap (held_of after y e) (vs_else (family y e) other) ∙ by_row (t.representation (family y e))
    ]
      where
        by_row : (o : Option Representation) → held_of after y e o ≡ held_of t y e o
        by_row None = refl
        by_row (Some p) = alone_moved y e p p.alone

    goes_on_stands : exch.Becomes (known.with_piece bytes true) x r.exchanges u.exchanges → RowsStand limits u after
    goes_on_stands becomes =
        by_held true becomes (ap (λ (ys : List ℕ). ys ++ bytes) ((stands.exchanges x).held ∙ ap (held_for t x) row) ∙ sym held_then) held_else

  pub held_stands : 0 < length bytes → MayHold t x w v → exch.Becomes (known.with_piece bytes true) x r.exchanges u.exchanges → RowsStand limits u after
  held_stands some may = goes_on_stands some may.on may.within may.absent may.reached may.brought_some

  -- NOBODY DOES

  module _ (nobody : v.alone ≡ None) where
    none_else : (y : ℕ) (e : Exchange) → x ≢ y → t.exchange y ≡ Some e → held_for after y (Some e) ≡ held_for t y (Some e)
    none_else y e ne at = elim (same_or (family x w) (family y e)) [
      | inl one ↦ ap (held_of after y e) (sym (ap vs one) ∙ vs_here) ∙
          (ap (held_alone after y e v2) nobody ∙ sym (ap (held_of t y e) (sym (ap t.representation one) ∙ there) ∙ ap (held_alone t y e v) nobody))
      | inr other ↦ ap (held_of after y e) (vs_else (family y e) other) ∙ by_row (t.representation (family y e))
    ]
      where
        by_row : (o : Option Representation) → held_of after y e o ≡ held_of t y e o
        by_row None = refl
        by_row (Some p) = alone_moved y e p p.alone

    pub dropped_stands : exch.Becomes (known.with_piece bytes false) x r.exchanges u.exchanges → RowsStand limits u after
    dropped_stands becomes =
        by_held false becomes
        ((stands.exchanges x).held ∙
        (ap (held_for t x) row ∙
        (ap (held_of t x w) there ∙
        (ap (held_alone t x w v) nobody ∙ sym (ap (held_of after x (with_piece bytes w)) vs_here ∙ ap (held_alone after x (with_piece bytes w) v2) nobody)))))
        none_else
