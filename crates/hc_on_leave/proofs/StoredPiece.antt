-- A piece is stored, after what is idle made room for it: what is kept represents the tables then.
--
-- The entry that grows has the work (`entry_then`): its bytes are as those of the tables, and its length is told. Its
-- kind stays that of what grows, unless these bytes are the last. No other exchange brings it, so it stops then, and
-- the kind that is left was stored with them. Letting go and storing are of different representations, so their order
-- is no matter (`tables_are`). By `PieceRows` the rest follows; `stored_answered` is what `StoreHandler` uses.
use Rattle.std.{proofs.{lemmas.Bool.Decides.{nat_tests}, Common.{◌≡◌, ◌≢◌, inl, inr, ℕ, ◌+◌, ◌-◌, ◌<◌, ◌≤◌, ◌⊎◌, List, [], ◌∷◌, ◌++◌, length, max, Bool, true, false, Option, Some, None, refl, ap, sym, ◌∙◌, subst, arith}}, specs.Prelude.{is_some, nat_eq, not, slice_index, map, option_map, ◌==◌, ◌&&◌, if◌then◌else◌}}
use mathlib.Core.Path.{fun_ext}
use Rattle.hc_text.proofs.Basics.{eqb-other, eqb-same, false_true, any_none as none_passes, never_true as not_true, same_or, some_inj as some_is}
use Rattle.hc_store.specs.{declared.backend.Backend.{Ghosts}, Heads.{with_kind}}
use Rattle.hc_sparse.specs.Cells.{Cell, Cells, Covers, inside, cells_with}
use Rattle.hc_record.specs.{Head.{Head, sealed_head}, declared.kind.Kind.{Kind, TheVariants.{the_data as kinds}}}
use Rattle.hc_effects.proofs.Vocabulary.{Act, Response, overlong, Limits, denial, with_event, let_all_go, with_exchange, with_representation, as_gone, with_piece, family, front, promised_bytes, NoFlaw, flaw_in, Grows, IsMeasured, kind_of, is_growing, brings_to, is_complete, is_prefix, bound, with_stored_bytes, Tables, Exchange, Representation, has_room, room_for, evicted, act, event}
use Rattle.hc_stored.specs.{Entries.{shelf_of}, Kept.{Kept, kept_with_bytes}, Shelf.{same_order}}
use Rattle.hc_stored.specs.Shelf as shelf
use Rattle.hc_exch.specs.Exchanges as exch
use Rattle.hc_exch.specs.Known as known
use Rattle.hc_model.specs.Measures as measures
use Rattle.hc_model.specs.Kinds as stored_kinds
use Rattle.hc_model.specs.Rows as rows
use Rattle.hc_model.specs.Sound as sound
use Rattle.hc_effects.proofs.{HoleLemmas.{covers_all}, Once.{delivers_once}, SameTables.{is_in, without, all_go_is}, Tests.{none_some}}
use Rattle.hc_effects.proofs.PieceEffects as does
use Rattle.hc_state.proofs.{Ties.{overs_open, writer_then, OversStay}, Fallbacks.{unstored_moved}, OneOfEach.{first_by}}
use Rattle.hc_state.specs.{declared.rows.Rows.{Rows}, Facts.{Facts}, Kept.{held_alone, held_of, held_for}, Pieces.{IsLastKind, more, ends}, Stands.{Answered, RowsStand}, Stops.{kind_left}, Stored.{IsEntry, KnowsLength, reported, unreported, KeepsEntry}}
use Rattle.hc_on_leave.proofs.{PieceHandler.{Runs, runs_of, open_unended, not_overlong}, PieceRows.{s, IsLike, like_same, grows_on, stands_pieced}}

still_there : (a : Bool) (cell : Cell) (o : Option Cell) → is_some o ≡ true → is_some (if a then Some cell else o) ≡ true
still_there a cell o on = grind (arith, nat_tests)

pub written_alike : (f h : Cells) (at x : ℕ) (bytes : List ℕ) (p : ℕ) → f p ≡ h p → cells_with at x bytes f p ≡ cells_with at x bytes h p
written_alike f h at x bytes p same = grind (arith, nat_tests)

whole_only : (v : Representation) → kind_left v ≡ kinds.Whole → is_complete v ≡ true
whole_only v = grind (arith, nat_tests)

-- whatever its kind, the head seals alike
sealed_alike : (last : Option Kind) (total : Option ℕ) (h : Head) → sealed_head kinds.Growing total (with_kind last h) ≡ sealed_head kinds.Growing total h
sealed_alike last total h = grind (arith, nat_tests)

total_alike : (last : Option Kind) (h : Head) → (with_kind last h).total ≡ h.total
total_alike last h = grind (arith, nat_tests)

module _ {B : Type 0} {g : Ghosts B} (mid u : Rows B g) (limits : Limits) (t : Tables) (facts : Facts limits t) (now x : ℕ) (bytes : List ℕ)
    (goes : denial t (event.Piece x bytes) ≡ None) (w : Exchange) (v : Representation) (row : t.exchange x ≡ Some w) (opened : w.is_open ≡ true)
    (headed : is_some w.head ≡ true) (some : 0 < length bytes) (fits : overlong (promised_bytes w) (length w.body + length bytes) ≡ None)
    (there : t.representation (family x w) ≡ Some v) (fresh : v.is_lost ≡ false)
    (es : List ℕ) (spared : is_in es (family x w) ≡ false) where
  -- what is idle made room
  abbrev m : Tables
  m = without now es t

  abbrev v2 : Representation
  v2 = with_stored_bytes true (front w) x bytes v

  abbrev vs : ℕ → Option Representation
  vs q = if family x w == q then Some v2 else m.representation q

  abbrev after : Tables
  after = s m now x w bytes vs

  m_there : m.representation (family x w) ≡ Some v
  m_there = rw spared there

  vs_here : vs (family x w) ≡ Some v2
  vs_here = rw (eqb-same (family x w)) refl

  vs_else : (q : ℕ) → family x w ≢ q → vs q ≡ m.representation q
  vs_else q ne = rw (eqb-other (family x w) q ne) refl

  like : (q : ℕ) → IsLike (m.representation q) (vs q)
  like q = elim (same_or (family x w) q) [
    | inl e ↦
        subst (λ o. IsLike o (vs q)) (ap m.representation e) (subst (IsLike (m.representation (family x w))) (ap vs e)
        (subst (λ o. IsLike o (vs (family x w))) (sym m_there)
        (subst (IsLike (Some v)) (sym vs_here) (record { there = refl; total = refl; status = refl; usable = λ key. refl; usable_row = refl }))))
    | inr ne ↦ like_same (m.representation q) (vs q) (vs_else q ne)
  ]

  store : sound.IsStored v
  store = (facts.law.sound.rows (family x w) v there).store

  -- WHETHER IT GROWS

  grower : Grows t x (family x w)
  grower = record { w = w; row = row; is_open = opened; headed = headed; of_r = refl }

  grows : is_growing m (family x w) ≡ true
  grows = facts.law.growing.grows (family x w) x grower

  head_there : (y : ℕ) (e : Exchange) → t.exchange y ≡ Some e → family y e ≡ family x w → (h : Option Response) → e.head ≡ h → is_some h ≡ true
  head_there y e at same h is = grind (arith, nat_tests)

  -- no other brings it
  apart : (y : ℕ) → x ≢ y → brings_to (family x w) y (t.exchange y) ≡ false
  apart y ne = by_row (t.exchange y) refl
    where
      both : (a b : Bool) → (a && b) ≡ true → (a ≡ true) × (b ≡ true)
      both true b on = (refl, on)
      both false b on = false_true on

      by_row : (o : Option Exchange) → t.exchange y ≡ o → brings_to (family x w) y o ≡ false
      by_row None at = refl
      by_row (Some e) at = not_true (e.is_open && nat_eq (family y e) (family x w)) (λ on.
          let parts = both e.is_open (nat_eq (family y e) (family x w)) on in
          let same : family y e ≡ family x w = same_number (family y e) (family x w) parts.1 in
          ne (facts.law.growing.one (family x w) x y v there grower
          (record { w = e; row = at; is_open = parts.0; headed = head_there y e at same e.head refl; of_r = same })))
        where
          same_number : (a b : ℕ) → nat_eq a b ≡ true → a ≡ b
          same_number a b on = elim (same_or a b) [ inl e ↦ e | inr ne ↦ false_true (sym (eqb-other a b ne) ∙ on) ]

  stops : (with_piece bytes w).is_open ≡ false → is_growing after (family x w) ≡ false
  stops over = none_passes (λ y. brings_to (family x w) y (after.exchange y)) t.openings (λ y. elim (same_or x y) [
    | inl e ↦ subst (λ (n : ℕ). brings_to (family x w) n (after.exchange n) ≡ false) e
        (ap (brings_to (family x w) x) (here_is x) ∙ ap (λ b. b && nat_eq (family x w) (family x w)) over)
    | inr ne ↦ ap (brings_to (family x w) y) (else_is y ne) ∙ apart y ne
  ])
    where
      here_is : (n : ℕ) → (if n == n then Some (with_piece bytes w) else t.exchange n) ≡ Some (with_piece bytes w)
      here_is n = rw (eqb-same n) refl

      else_is : (y : ℕ) → x ≢ y → after.exchange y ≡ t.exchange y
      else_is y ne = rw (eqb-other x y ne) refl

  -- WHAT IS KEPT OF IT

  -- its length is told, since not all of it came
  pub reports : (k : Kept) → KnowsLength k v → k.head.total ≡ v.head.total
  reports k (reported same) = same
  reports k (unreported n) = by_measure (facts.measures.brings x w v row opened headed there)
    where
      absent : v.body (front w) ≡ None
      absent = delivers_once t facts.law.sound x bytes w v goes row there (front w) (omega arith) (omega (arith, some))

      by_measure : IsMeasured w v → k.head.total ≡ v.head.total
      by_measure (measures.reported most total is known within) =
          let less : length w.body + length bytes ≤ most = not_overlong (promised_bytes w) (length w.body + length bytes) most fits is in
          let one : total ≡ n.total = some_is total n.total (sym known ∙ n.known) in
          let came = n.came (front w) (omega arith) (omega (arith, less, one, within, some)) in
          false_true (sym (ap (λ (o : Option Cell). is_some o) absent) ∙ came)
      by_measure (measures.unreported is unknown start alone reach) = none_some n.total (sym unknown ∙ n.known)

  module _ (last : Option Kind) (kind_is : IsLastKind (not (with_piece bytes w).is_open) v2 last) where
    kind_then : (k : Kept) → IsEntry m (family x w) k v → v.is_gone ≡ false → (with_kind last k.head).kind ≡ kind_of after (family x w) v2
    unfolding kind_of
    kind_then k is stays = by_last kind_is
      where
        before : k.head.kind ≡ kinds.Growing
        before = is.kind stays ∙ rw grows refl

        on_by : (b : Bool) → not b ≡ false → b ≡ true
        on_by true off = refl
        on_by false off = sym off

        off_by : (b : Bool) → not b ≡ true → b ≡ false
        off_by true on = sym on
        off_by false on = refl

        by_last : IsLastKind (not (with_piece bytes w).is_open) v2 last → (with_kind last k.head).kind ≡ kind_of after (family x w) v2
        by_last (more still_comes none) =
            let still = on_by (with_piece bytes w).is_open still_comes in
            let on : is_growing after (family x w) ≡ true = grows_on m now x w bytes vs row opened headed still (family x w) ∙ grows in
            ap (λ l. (with_kind l k.head).kind) none ∙ (before ∙ rw on refl)
        by_last (ends over some_kind) =
            let off : is_growing after (family x w) ≡ false = stops (off_by (with_piece bytes w).is_open over) in
            ap (λ l. (with_kind l k.head).kind) some_kind ∙ rw off refl

    covers_then : (lo hi : ℕ) → Covers v.stored lo hi → Covers v2.stored lo hi
    covers_then lo hi covered p low high = still_there (inside (front w) (length bytes) p) _ (v.stored p) (covered p low high)

    whole_then : (k : Kept) → IsEntry m (family x w) k v → (n : ℕ) → (with_kind last k.head).kind ≡ kinds.Whole → (with_kind last k.head).total ≡ Some n →
        Covers v2.stored 0 n
    whole_then k is n whole total = by_last kind_is
      where
        known : v2.head.total ≡ Some n
        known = sym (reports k is.length) ∙ (sym (total_alike last k.head) ∙ total)

        by_last : IsLastKind (not (with_piece bytes w).is_open) v2 last → Covers v2.stored 0 n
        by_last (more still_comes none) = covers_then
            0 n (is.whole n (sym (ap (λ l. (with_kind l k.head).kind) none) ∙ whole) (sym (total_alike last k.head) ∙ total))
        by_last (ends over some_kind) =
            let complete : is_complete v2 ≡ true = whole_only v2 (sym (ap (λ l. (with_kind l k.head).kind) some_kind) ∙ whole) in
            covers_all v2.stored v2.reach 0 n (ap (λ o. stored_kinds.covers_all v2 o) (sym known) ∙ complete)

    entry_then : (k : Kept) → IsEntry m (family x w) k v → IsEntry after (family x w) (kept_with_bytes (front w) x bytes last k) v2
    unfolding bound
    entry_then k is =
        let first = λ (d : ℕ). first_by m after (λ n. (like n).status) (family x w) (m.consumer d) in
        let over : OversStay m.exchange after.exchange =
        overs_open m.exchange after.exchange x w row opened (λ y ne. rw (eqb-other x y ne) refl) in
        let total_then : KnowsLength (kept_with_bytes (front w) x bytes last k) v2 =
        reported (total_alike last k.head ∙ reports k is.length) in
        assumption (
          is,
          sealed_alike last v.head.total k.head ∙ is.head,
          writer_then over is.writer,
          total_then,
          kind_then k is,
          whole_then k is,
          (λ (d : ℕ). is.first d ∙ sym (first d)),
          (λ (p : ℕ). written_alike k.cells v.stored (front w) x bytes p (is.cells p)),
          (λ (off : v.is_lost ≡ false). ap (λ (n : ℕ). max n (front w + length bytes)) (is.reach off)),
        )

    -- THE ROWS

    module _ (stands : RowsStand limits mid m) (last_start : u.last_start ≡ mid.last_start) (same_map : u.consumers ≡ mid.consumers)
        (same_keys : u.keys ≡ mid.keys)
        (fills : shelf.Becomes (option_map (kept_with_bytes (front w) x bytes last)) same_order (family x w) (shelf_of mid.entries) (shelf_of u.entries))
        (becomes : exch.Becomes (known.with_piece bytes false) x mid.exchanges u.exchanges) where
      kept_here : (shelf_of u.entries).kept (family x w) ≡ option_map (kept_with_bytes (front w) x bytes last) ((shelf_of mid.entries).kept (family x w))
      kept_here = fills.kept (family x w) ∙ rw (eqb-same (family x w)) refl

      kept_else : (q : ℕ) → family x w ≢ q → (shelf_of u.entries).kept q ≡ (shelf_of mid.entries).kept q
      kept_else q ne = fills.kept q ∙ rw (eqb-other (family x w) q ne) refl

      its : KeepsEntry after (family x w) ((shelf_of u.entries).kept (family x w)) (vs (family x w))
      unfolding bound
      its = subst (λ k. KeepsEntry after (family x w) k (vs (family x w))) (sym kept_here) (subst (KeepsEntry after (family x w) _) (sym vs_here)
          (by_kept ((shelf_of mid.entries).kept (family x w))
          (subst (KeepsEntry m (family x w) ((shelf_of mid.entries).kept (family x w))) m_there (stands.entries.each (family x w)))))
        where
          by_kept : (k : Option Kept) → KeepsEntry m (family x w) k (Some v) →
              KeepsEntry after (family x w) (option_map (kept_with_bytes (front w) x bytes last) k) (Some v2)
          by_kept None kept = record { gone = kept.gone; unused = kept.unused }
          by_kept (Some k) kept = entry_then k kept

      nobody : v.alone ≡ None
      nobody = store.nobody_alone fresh

      held_old : held_for m x (Some w) ≡ []
      held_old = ap (held_of m x w) m_there ∙ ap (held_alone m x w v) nobody

      held_new : held_for after x (Some (with_piece bytes w)) ≡ []
      held_new = ap (held_of after x (with_piece bytes w)) vs_here ∙ ap (held_alone after x (with_piece bytes w) v2) nobody

      alone_moved : (y : ℕ) (e : Exchange) (p : Representation) (o : Option ℕ) → held_alone after y e p o ≡ held_alone m y e p o
      alone_moved y e p o = grind (arith, nat_tests)

      held_else : (y : ℕ) (e : Exchange) → x ≢ y → m.exchange y ≡ Some e → held_for after y (Some e) ≡ held_for m y (Some e)
      held_else y e ne at = elim (same_or (family x w) (family y e)) [
        | inl one ↦
            ap (held_of after y e) (sym (ap vs one) ∙ vs_here) ∙ (ap (held_alone after y e v2) nobody
            ∙ sym (ap (held_of m y e) (sym (ap m.representation one) ∙ m_there) ∙ ap (held_alone m y e v) nobody))
        | inr other ↦ ap (held_of after y e) (vs_else (family y e) other) ∙ by_row (m.representation (family y e))
      ]
        where
          by_row : (o : Option Representation) → held_of after y e o ≡ held_of m y e o
          by_row None = refl
          by_row (Some p) = alone_moved y e p p.alone

      runs : Runs mid m x w
      runs = runs_of mid m x w stands row opened

      pub stored_stands : RowsStand limits u after
      stored_stands =
          stands_pieced m now x w bytes vs row opened headed mid u stands (open_unended t facts.law x w row opened) like vs_else false runs.o runs.running
          last_start same_map same_keys becomes
          ((stands.exchanges x).held ∙ (ap (held_for m x) row ∙ (held_old ∙ sym held_new)))
          held_else
          (fills.limits ∙ stands.limits) kept_else fills.order its

  -- THE TABLES

  -- what is let go before or after
  same_rows : (q : ℕ) → (if is_in es q then option_map as_gone (if family x w == q then Some v2 else t.representation q) else
      (if family x w == q then Some v2 else t.representation q)) ≡ vs q
  same_rows q = grind (arith, nat_tests)

  pub tables_are : with_event now (event.Piece x bytes)
      (let_all_go now es (with_representation (family x w) (Some v2) (with_exchange x (Some (with_piece bytes w)) t))) ≡ after
  tables_are = grind (arith, nat_tests, all_go_is, same_rows)

  evicts_quietly : (qs : List ℕ) → flaw_in (map act.Evicted qs) ≡ NoFlaw
  evicts_quietly [] = refl
  evicts_quietly (q ∷ qs) = evicts_quietly qs

  pub stored_answered : (faults : ℕ) (before out : List Act) → evicted limits t now (event.Piece x bytes) ≡ es →
      has_room (room_for limits t now (event.Piece x bytes)) ≡ true → out ≡ before ++ map act.Evicted es → RowsStand limits u after →
      Answered limits faults u t before out now (event.Piece x bytes)
  stored_answered faults before out gives room reports_them stands =
      let done = does.stored limits t facts.law now x bytes w row goes (family x w) v refl there fresh in
      record {
        flaw = NoFlaw;
        acts = reports_them ∙ ap (λ ys. before ++ ys) (ap (map act.Evicted) (sym gives) ∙ sym done.acts_are);
        shown = ap flaw_in done.acts_are ∙ evicts_quietly (evicted limits t now (event.Piece x bytes));
        may = room;
        caused = λ is. false_true is;
        rows = subst (RowsStand limits u)
            (sym (done.tables_are ∙ (ap
            (λ rs. with_event now (event.Piece x bytes)
            (let_all_go now rs (with_representation (family x w) (Some v2) (with_exchange x (Some (with_piece bytes w)) t)))) gives ∙ tables_are))) stands;
      }
