-- A piece is stored, by what the code did: it is answered.
--
-- A piece that isn't denied is of an open exchange with its head (`stores_of`). What that brings has a reader, so it
-- gave no way. It is still kept, and nothing stands where the bytes go, as the store asks. Where the store took them,
-- `StoredPiece` answers. Where it refused them, the kind of loss has the work: the entry is too large, the store is
-- full, or a call failed (`refuses_it`). `store_piece` uses the last module.
use Rattle.std.{proofs.{Common.{◌≡◌, ◌≢◌, ℕ, ◌+◌, ◌<◌, ◌≤◌, ◌^◌, List, [], ◌++◌, length, max, Bool, true, false, Option, Some, None, refl, ap, sym, ◌∙◌, subst, arith}, Math.{Logic.{∥∥₁_elim}, Seq.{take-append_seam}}, lemmas.Bool.Decides.{nat_tests}}, specs.Prelude.{is_some, not, map, option_map, ◌&&◌, if◌then◌else◌, take}}
use Rattle.hc_store.specs.declared.backend.Backend.{Ghosts}
use Rattle.hc_sparse.specs.Cells.{Cell, Cells, AreAbsent, EndsBy, cells_with, size}
use Rattle.hc_sparse.proofs.{OpLemmas.{absent-is}, SizeLemmas.{size-same}}
use Rattle.hc_record.specs.declared.kind.Kind.{Kind}
use Rattle.hc_effects.proofs.Vocabulary.{Act, piece_refusal, room_of, Limits, Room, denial, let_all_go, with_piece, family, front, promised_bytes, is_reached, IsInUse, MayMakeRoom, giving_way, room_now, weight_now, weights_now, idle_now, bound, with_stored_bytes, Tables, Exchange, Representation, has_room, room_for, LostKind, Write, may_lose, event, room, write, act, kind as kinds}
use Rattle.hc_rules.specs.Refusals as refusals
use Rattle.hc_stored.specs.{declared.view.EntryView.{EntryView}, Entries.{shelf_of}, Kept.{Kept}, Shelf.{is_kept, size_at, cells_in, cells_at, same_order}, Views.{view_of}}
use Rattle.hc_stored.specs.Kept as entry
use Rattle.hc_stored.specs.Shelf as shelf
use Rattle.hc_exch.specs.Exchanges as exch
use Rattle.hc_exch.specs.{Exchanges.{table_of}, Known.{is_open, is_last_of, open_view}, declared.row.Open.{Open}}
use Rattle.hc_exch.specs.Known as known
use Rattle.hc_model.specs.LettingGo as going
use Rattle.hc_model.specs.Sound as sound
use Rattle.hc_effects.proofs.{Once.{IsTaken, delivers_once}, SameTables.{is_in, without, all_go_is}, WeightsLeft.{fits_after}, Tests.{none_some}}
use Rattle.hc_state.specs.{declared.rows.Rows.{Rows}, Facts.{Facts}, Pieces.{unless_lost, stored_at, stored_by, larger_view, IsLastKind, PutsPiece}, Room.{GivesWay}, Stands.{Answered, Answers, RowsStand, Stands, open_at}, Stops.{brought_by, IsViewOf}, Stored.{IsEntry, KeepsEntry}, Refused.{Refuses}}
use Rattle.hc_on_leave.proofs.{PieceHandler.{Brought, brought_of, Runs, runs_of, brings_it, not_too_long}, PieceRoom.{may_make_room, room_same, gives_same, spared, room_there}, Gates.{denies_as}, PieceKinds.{outside_behind}, PieceRows.{IsLike, like_same, last_is}, StoredPiece.{written_alike, reports, stored_stands, stored_answered}, FoundHandler.{bound_without, make_gone}, RefusedPiece.{Refused, too_large, not_large}, Sets.{acts_set}}
use Rattle.hc_state.proofs.{Maps.{merely_true, merely_false}, Rooms.{used_is}, ReaderSteps.{stands_read}}
use Rattle.hc_text.proofs.Basics.{some_inj as some_is}
use Rattle.hc_on_leave.proofs.RefusedPiece as refusals_of

-- WHAT IS STORED OF IT

pub record Stores (t : Tables) (x q n : ℕ) : Type 0 where
  pub w : Exchange
  pub row : t.exchange x ≡ Some w
  pub taken : IsTaken w n
  pub of_q : family x w ≡ q
  pub v : Representation
  pub there : t.representation (family x w) ≡ Some v
  pub fresh : v.is_lost ≡ false

-- what the code looked at says that it isn't denied
pub undenied_piece : {B : Type 0} {g : Ghosts B} {limits : Limits} (r : Rows B g) (t : Tables) (x : ℕ) (bytes : List ℕ) → RowsStand limits r t →
    piece_refusal (open_at r x) (length bytes) ≡ None → denial t (event.Piece x bytes) ≡ None
unfolding refusals.refusal_of
undenied_piece r t x bytes stands none = sym (denies_as r t (event.Piece x bytes) stands) ∙ none

pub stores_of : {B : Type 0} {g : Ghosts B} {limits : Limits} (r : Rows B g) (t : Tables) (facts : Facts limits t) (x q : ℕ) (bytes : List ℕ) →
    RowsStand limits r t → denial t (event.Piece x bytes) ≡ None → stored_by r x ≡ Some q → Stores t x q (length bytes)
stores_of r t facts x q bytes stands goes grows = by_brought (brought_by (table_of r.exchanges x).running) refl (ap (λ o. o) grows)
  where
    b : Brought t x (length bytes)
    b = brought_of t x bytes goes

    ran : Runs r t x b.w
    ran = runs_of r t x b.w stands b.row b.taken.is_open

    kept_so : (p : ℕ) (k : Option Kept) → unless_lost p k ≡ Some q → (p ≡ q) × ((e : Kept) × (k ≡ Some e) × (e.is_lost ≡ false))
    kept_so p None is = none_some q is
    kept_so p (Some e) is = by_test e.is_lost refl is
      where
        by_test : (a : Bool) → e.is_lost ≡ a → (if a then None else Some p) ≡ Some q → (p ≡ q) × ((e2 : Kept) × (Some e ≡ Some e2) × (e2.is_lost ≡ false))
        by_test true lost h = none_some q h
        by_test false fresh h = (some_is p q h, (e, refl, fresh))

    by_brought : (o : Option ℕ) → brought_by (table_of r.exchanges x).running ≡ o → stored_by r x ≡ Some q → Stores t x q (length bytes)
    by_brought None at is = none_some q (sym (ap (stored_at (shelf_of r.entries)) at) ∙ is)
    by_brought (Some p) at is =
        let it = brings_it t x p ran.o b.w ran.is b.taken.headed (sym (ap brought_by ran.running) ∙ at) in
        let kept = kept_so p ((shelf_of r.entries).kept p) (sym (ap (stored_at (shelf_of r.entries)) at) ∙ is) in
        let v = it.1.0 in
        let entry : IsEntry t p kept.1.0 v =
        subst (λ (o : Option Representation). KeepsEntry t p (Some kept.1.0) o) (sym (ap t.representation it.0) ∙ it.1.1)
        (subst (λ (o : Option Kept). KeepsEntry t p o (t.representation p)) kept.1.1 (stands.entries.each p)) in
        record { w = b.w; row = b.row; taken = b.taken; of_q = it.0 ∙ kept.0; v = v; there = it.1.1; fresh = sym entry.is_lost ∙ kept.1.2 }

pub none_by : (stored body : Option Cell) → (is_some stored ≡ true → stored ≡ body) → body ≡ None → stored ≡ None
none_by stored body same none = grind (arith, nat_tests)

-- nothing stands past its end
ends_then : (f : Cells) (reach at x : ℕ) (bytes : List ℕ) (p : ℕ) → EndsBy reach f → max reach (at + length bytes) ≤ p → cells_with at x bytes f p ≡ None
ends_then f reach at x bytes p ends past = grind (arith, nat_tests)

-- as many bytes are kept as are stored
pub stored_size : {B : Type 0} {g : Ghosts B} {limits : Limits} (r : Rows B g) (t : Tables) (facts : Facts limits t) (q : ℕ) (v : Representation)
    (k : Kept) (m : Tables) → t.representation q ≡ Some v → IsInUse t q v → IsEntry m q k v → size k.cells ≡ v.size
stored_size r t facts q v k m there used is = size-same k.cells v.stored is.cells ∙ sym (facts.sized q v there used)

-- THE ROWS AFTER ROOM WAS MADE

module _ {B : Type 0} {g : Ghosts B} {limits : Limits} (r mid put u : Rows B g) (t : Tables) (facts : Facts limits t) (stands : RowsStand limits r t)
    (now x q : ℕ) (bytes : List ℕ) (goes : denial t (event.Piece x bytes) ≡ None) (grows : stored_by r x ≡ Some q) (before out : List Act) (stored : ℕ)
    (had : (k : Kept) → (shelf_of r.entries).kept q ≡ Some k → stored ≡ size k.cells)
    (gives : GivesWay limits mid t now (giving_way limits t (write.Piece stored (length bytes))) before out) (mid_last : mid.last_start ≡ r.last_start)
    (mid_exchanges : mid.exchanges ≡ r.exchanges) where
  pub it : Stores t x q (length bytes)
  it = stores_of r t facts x q bytes stands goes grows

  abbrev pub w : Exchange
  w = it.w

  abbrev pub v : Representation
  v = it.v

  record Has (rows : Rows B g) (m : Tables) : Type 0 where
    k : Kept
    kept : (shelf_of rows.entries).kept (family x w) ≡ Some k
    is : IsEntry m (family x w) k v

  some_bound : bound t (family x w) ≢ []
  some_bound none = facts.law.whose.unread (family x w) x v it.there none
      (sound.headed w it.row it.taken.is_open it.taken.headed refl (ap (λ (o : Option Representation). is_some o) it.there))

  first : Has r t
  first = by_kept ((shelf_of r.entries).kept (family x w)) refl
      (subst (KeepsEntry t (family x w) ((shelf_of r.entries).kept (family x w))) it.there (stands.entries.each (family x w)))
    where
      by_kept : (o : Option Kept) → (shelf_of r.entries).kept (family x w) ≡ o → KeepsEntry t (family x w) o (Some v) → Has r t
      by_kept None at kept = absurd (some_bound kept.unused)
      by_kept (Some k) at kept = record { k = k; kept = at; is = kept }

  stored_is : stored ≡ v.size
  stored_is = had first.k (ap (shelf_of r.entries).kept (sym it.of_q) ∙ first.kept) ∙
      stored_size r t facts (family x w) v first.k t it.there (λ gone. some_bound) first.is

  abbrev pub es : List ℕ
  es = giving_way limits t (write.Piece v.size (length bytes))

  gives_es : GivesWay limits mid t now es before out
  gives_es = subst (λ n. GivesWay limits mid t now (giving_way limits t (write.Piece n (length bytes))) before out) stored_is gives

  mid_stands : RowsStand limits mid (without now es t)
  mid_stands = subst (RowsStand limits mid) (all_go_is now es t) gives_es.rows

  kept_apart : is_in es (family x w) ≡ false
  kept_apart = spared limits t facts.law now x bytes goes w it.row v it.there it.fresh it.taken.is_open it.taken.headed

  m_row : (without now es t).representation (family x w) ≡ Some v
  m_row = (let apart = kept_apart in let there = it.there in rw apart there)

  second : Has mid (without now es t)
  second = by_kept ((shelf_of mid.entries).kept (family x w)) refl
      (subst (KeepsEntry (without now es t) (family x w) ((shelf_of mid.entries).kept (family x w))) m_row (mid_stands.entries.each (family x w)))
    where
      by_kept : (o : Option Kept) → (shelf_of mid.entries).kept (family x w) ≡ o → KeepsEntry (without now es t) (family x w) o (Some v) →
          Has mid (without now es t)
      by_kept None at kept = absurd (some_bound (sym (bound_without now es t (family x w)) ∙ kept.unused))
      by_kept (Some k) at kept = record { k = k; kept = at; is = kept }

  pub runs : Runs mid (without now es t) x w
  runs = runs_of mid (without now es t) x w mid_stands it.row it.taken.is_open

  at_front : runs.o.base + runs.o.delivered ≡ front w
  at_front = (let a = runs.is.base_is in let b = runs.is.delivered in omega (arith, a, b))

  -- WHAT THE STORE ASKS FOR

  pub mid_kept : is_kept (shelf_of mid.entries) q ≡ true
  mid_kept = ap (λ n. is_kept (shelf_of mid.entries) n) (sym it.of_q) ∙ ap (λ (o : Option Kept). is_some o) second.kept

  pub mid_absent : (o : Open) → (table_of mid.exchanges x).running ≡ Some o →
      AreAbsent (cells_at (shelf_of mid.entries) q) (o.base + o.delivered) (o.base + o.delivered + length bytes)
  mid_absent o running p low high =
      let one : runs.o ≡ o = some_is runs.o o (sym runs.running ∙ running) in
      let here : o.base + o.delivered ≡ front w = subst (λ (e : Open). e.base + e.delivered ≡ front w) one at_front in
      let le : front w ≤ p = omega (arith, here, low) in
      let lt : p < front w + length bytes = omega (arith, here, high) in
      let none : v.stored p ≡ None =
      none_by (v.stored p) (v.body p) ((facts.law.sound.rows (family x w) v it.there).store.some_stored p)
      (delivers_once t facts.law.sound x bytes w v goes it.row it.there p le lt) in
      ap (λ n. cells_at (shelf_of mid.entries) n p) (sym it.of_q) ∙ (ap (λ (e : Option Kept). cells_in e p) second.kept ∙ (second.is.cells p ∙ none))

  -- what it has of it, and may have
  limits_are : (shelf_of mid.entries).limits ≡ limits
  limits_are = mid_stands.limits

  size_here : size_at (shelf_of mid.entries) q ≡ v.size
  size_here =
      ap (λ n. size_at (shelf_of mid.entries) n) (sym it.of_q)
      ∙ (ap (λ (o : Option Kept). size (λ p. cells_in o p)) second.kept ∙
      stored_size r t facts (family x w) v second.k (without now es t) it.there (λ gone. some_bound) second.is)

  -- WHERE THE STORE TOOK IT

  abbrev v2 : Representation
  v2 = with_stored_bytes true (front w) x bytes v

  reported : IsViewOf v2 (cells_with (runs.o.base + runs.o.delivered) x bytes second.k.cells) (larger_view (length bytes) (view_of second.k))
  reported = record {
    total = reports mid u limits t facts now x bytes goes w v it.row it.taken.is_open it.taken.headed it.taken.some it.taken.fits it.there it.fresh es
        kept_apart second.k second.is.length;
    size = ap (λ n. n + length bytes) (stored_size r t facts (family x w) v second.k (without now es t) it.there (λ gone. some_bound) second.is);
    stored = λ p. ap (λ n. cells_with n x bytes second.k.cells p) at_front ∙ written_alike second.k.cells v.stored (front w) x bytes p (second.is.cells p);
    ends = λ p past. ends_then
        v.stored v.reach (front w) x bytes p
        (λ n le. none_by (v.stored n) (v.body n) ((facts.law.sound.rows (family x w) v it.there).store.some_stored n)
        ((facts.law.sound.rows (family x w) v it.there).store.ends n le)) past;
  }

  last_then : (last : Option Kind) → IsLastKind (is_last_of (Some runs.o) (length bytes)) v2 last → IsLastKind (not (with_piece bytes w).is_open) v2 last
  last_then last is = subst (λ b. IsLastKind b v2 last)
      (last_is (without now es t) now x w bytes (without now es t).representation it.row it.taken.is_open it.taken.headed runs.o runs.is (like_all) ∙ over) is
    where
      like_all : IsLike ((without now es t).representation (family x w)) ((without now es t).representation (family x w))
      like_all = like_same _ _ refl

      over : is_reached (promised_bytes w) (length (w.body ++ bytes)) ≡ not (with_piece bytes w).is_open
      over = (let opened = it.taken.is_open in rw opened (by_test (is_reached (promised_bytes w) (length (w.body ++ bytes)))))
        where
          by_test : (b : Bool) → b ≡ not (not b && true)
          by_test true = refl
          by_test false = refl

  module _ (puts : PutsPiece mid put x q runs.o bytes)
      (within : (size_at (shelf_of mid.entries) q + length bytes ≤ (shelf_of mid.entries).limits.max_entry) ×
      ((shelf_of mid.entries).used + length bytes ≤ (shelf_of mid.entries).limits.max_total))
      (u_entries : u.entries ≡ put.entries) (u_last : u.last_start ≡ mid.last_start) (u_map : u.consumers ≡ mid.consumers) (u_keys : u.keys ≡ mid.keys)
      (becomes : exch.Becomes (known.with_piece bytes false) x mid.exchanges u.exchanges) where
    puts_here : PutsPiece mid put x (family x w) runs.o bytes
    puts_here = subst (λ n. PutsPiece mid put x n runs.o bytes) (sym it.of_q) puts

    kind_is : IsLastKind (not (with_piece bytes w).is_open) v2 puts_here.last
    kind_is = last_then puts_here.last (puts_here.kind second.k v2 second.kept reported)

    fills : shelf.Becomes (option_map (entry.kept_with_bytes (front w) x bytes puts_here.last)) same_order (family x w) (shelf_of mid.entries)
        (shelf_of u.entries)
    fills = subst (λ e. shelf.Becomes (option_map (entry.kept_with_bytes (front w) x bytes puts_here.last)) same_order (family x w) (shelf_of mid.entries)
        (shelf_of e)) (sym u_entries)
        (subst (λ n. shelf.Becomes (option_map (entry.kept_with_bytes n x bytes puts_here.last)) same_order (family x w) (shelf_of mid.entries)
        (shelf_of put.entries)) at_front puts_here.fills)

    had_room : has_room (room_for limits t now (event.Piece x bytes)) ≡ true
    had_room =
        ap has_room (room_same limits t facts.law now x bytes goes w it.row v it.there it.fresh)
        ∙ room_there limits (weights_now t) v.size (length bytes) (map (weight_now t) (idle_now t)) entry_fits sum_fits
      where
        entry_fits : v.size + length bytes ≤ limits.max_entry
        entry_fits = subst (λ (l : Limits). v.size + length bytes ≤ l.max_entry) limits_are
            (subst (λ n. n + length bytes ≤ (shelf_of mid.entries).limits.max_entry) size_here within.0)

        sum_fits : room_of limits (weights_now t) (write.Piece v.size (length bytes)) (map (weight_now t) (idle_now t)) ≡ room.Full →
            weights_now t + length bytes ≤ limits.max_total
        sum_fits full =
            let none : es ≡ [] = ap (going.first_idle t) full in
            let as_before : RowsStand limits mid t = subst (λ rs. RowsStand limits mid (let_all_go now rs t)) none gives_es.rows in
            let used : (shelf_of mid.entries).used ≡ weights_now t = used_is mid t (may_make_room t facts) as_before in
            subst (λ (l : Limits). weights_now t + length bytes ≤ l.max_total) limits_are
            (subst (λ n. n + length bytes ≤ (shelf_of mid.entries).limits.max_total) used within.1)

    pub store_answered : Answered limits (shelf_of r.entries).faults u t before out now (event.Piece x bytes)
    store_answered =
        stored_answered mid u limits t facts now x bytes goes w v it.row it.taken.is_open it.taken.headed it.taken.some it.taken.fits it.there it.fresh es
        kept_apart (shelf_of r.entries).faults before out
        (gives_same limits t facts.law now x bytes goes w it.row v it.there it.fresh) had_room gives_es.acts
        (stored_stands mid u limits t facts now x bytes goes w v it.row it.taken.is_open it.taken.headed it.taken.some it.taken.fits it.there it.fresh es
        kept_apart puts_here.last kind_is mid_stands u_last u_map u_keys fills becomes)

  -- WHERE IT REFUSED IT

  module _ (kind : LostKind) (stays : shelf.Stays (shelf_of mid.entries) (shelf_of put.entries))
      (faulty : (shelf_of mid.entries).faults ≡ (shelf_of r.entries).faults)
      (why : Refused (shelf_of mid.entries).limits (size_at (shelf_of mid.entries) q + length bytes) ((shelf_of mid.entries).used + length bytes)
      (shelf_of mid.entries).faults (shelf_of put.entries).faults kind)
      (put_last : put.last_start ≡ mid.last_start) (put_map : put.consumers ≡ mid.consumers) (put_exchanges : put.exchanges ≡ mid.exchanges)
      (put_keys : put.keys ≡ mid.keys) where
    abbrev wrote : Write
    wrote = write.Piece v.size (length bytes)

    its_room : room_for limits t now (event.Piece x bytes) ≡ room_now limits t wrote
    its_room = room_same limits t facts.law now x bytes goes w it.row v it.there it.fresh

    abbrev left : Tables
    left = let_all_go now es t

    sum_here : (shelf_of mid.entries).used ≡ weights_now left
    sum_here = used_is mid left (make_gone now es t (may_make_room t facts)) gives_es.rows

    full_by : (entry : v.size + length bytes ≤ limits.max_entry) → limits.max_total < weights_now left + length bytes → (a : Room) →
        room_now limits t wrote ≡ a → may_lose a kinds.Full ≡ true
    full_by entry more (room.After count) is = (let fits = fits_after limits now t wrote count (may_make_room t facts) is in absurd (omega (arith, fits, more)))
    full_by entry more room.TooLarge is = absurd (not_large limits (weights_now t) v.size (length bytes) (map (weight_now t) (idle_now t)) entry is)
    full_by entry more room.Full is = refl

    may_by : (k : LostKind) →
        Refused (shelf_of mid.entries).limits (size_at (shelf_of mid.entries) q + length bytes) ((shelf_of mid.entries).used + length bytes)
        (shelf_of mid.entries).faults (shelf_of put.entries).faults k → may_lose (room_now limits t wrote) k ≡ true
    may_by _ (refusals_of.fault failed) = grind (arith, nat_tests)
    may_by _ (refusals_of.large more) = grind (arith, nat_tests, length, limits_are, size_here, too_large)
    may_by _ (refusals_of.full entry more) =
        full_by (subst (λ (l : Limits). v.size + length bytes ≤ l.max_entry) limits_are
        (subst (λ n. n + length bytes ≤ (shelf_of mid.entries).limits.max_entry) size_here entry))
        (subst (λ (l : Limits). l.max_total < weights_now left + length bytes) limits_are
        (subst (λ n. (shelf_of mid.entries).limits.max_total < n + length bytes) sum_here more))
        (room_now limits t wrote) refl

    caused_by : (k : LostKind) →
        Refused (shelf_of mid.entries).limits (size_at (shelf_of mid.entries) q + length bytes) ((shelf_of mid.entries).used + length bytes)
        (shelf_of mid.entries).faults (shelf_of put.entries).faults k → k ≡ kinds.Fault → (shelf_of r.entries).faults < (shelf_of put.entries).faults
    caused_by _ (refusals_of.fault failed) is = subst (λ n. n < (shelf_of put.entries).faults) faulty failed
    caused_by _ _ is = cc

    pub refuses_it : Refuses limits r put t now x bytes kind before out
    refuses_it =
        let same = gives_same limits t facts.law now x bytes goes w it.row v it.there it.fresh in
        record {
          gives = subst (λ rs. GivesWay limits put t now rs before out) (sym same) (record {
            acts = gives_es.acts;
            rows = stands_read mid put left put_last put_map put_exchanges put_keys stays gives_es.rows;
          });
          may = ap (λ a. may_lose a kind) its_room ∙ may_by kind why;
          caused = caused_by kind why;
        }

-- BEFORE THE STORE IS ASKED

pub accepted_open : (running : Option Open) (n : ℕ) → piece_refusal (option_map open_view running) n ≡ None → (is_some running ≡ true) × (0 < n)
accepted_open running n none = grind (arith, nat_tests)

pub kept_of : (o : Option Kept) (e : EntryView) → option_map view_of o ≡ Some e → (k : Kept) × (o ≡ Some k) × (e.size ≡ size k.cells)
kept_of None e is = none_some e is
kept_of (Some k) e is = (k, refl, ap (λ (z : EntryView). z.size) (sym (some_is (view_of k) e is)))

module _ {B : Type 0} {g : Ghosts B} (r mid : Rows B g) (now x q : ℕ) (bytes : List ℕ) (some : ∥ Stands r ∥₁)
    (accepted : piece_refusal (open_at r x) (length bytes) ≡ None) (grows : stored_by r x ≡ Some q) (before out : List Act) (stored : ℕ)
    (had : (k : Kept) → (shelf_of r.entries).kept q ≡ Some k → stored ≡ size k.cells)
    (gives : (limits : Limits) (t : Tables) → MayMakeRoom t → RowsStand limits r t →
    GivesWay limits mid t now (giving_way limits t (write.Piece stored (length bytes))) before out) (mid_last : mid.last_start ≡ r.last_start)
    (mid_exchanges : mid.exchanges ≡ r.exchanges) where
  pub kept_mid : is_kept (shelf_of mid.entries) q ≡ true
  kept_mid = merely_true (is_kept (shelf_of mid.entries) q) some (λ p.
      let t = p.t in
      let facts = p.facts in
      let stands = p.rows in
      mid_kept r mid mid mid t facts stands now x q bytes (undenied_piece r t x bytes stands accepted) grows before out stored had
      (gives _ t (may_make_room t facts) stands) mid_last mid_exchanges)

  pub absent_mid : (o : Open) → (table_of mid.exchanges x).running ≡ Some o →
      AreAbsent (cells_at (shelf_of mid.entries) q) (o.base + o.delivered) (o.base + o.delivered + length bytes)
  absent_mid o running n low high = absent-is (cells_at (shelf_of mid.entries) q n) (merely_false (is_some (cells_at (shelf_of mid.entries) q n)) some (λ p.
      let t = p.t in
      let facts = p.facts in
      let stands = p.rows in
      ap (λ (e : Option Cell). is_some e)
      (mid_absent r mid mid mid t facts stands now x q bytes (undenied_piece r t x bytes stands accepted) grows before out stored had
      (gives _ t (may_make_room t facts) stands) mid_last mid_exchanges o running n low high)))

  pub answered_mid : (put u : Rows B g) → ((o : Open) → (table_of mid.exchanges x).running ≡ Some o → PutsPiece mid put x q o bytes)
      → (size_at (shelf_of mid.entries) q + length bytes ≤ (shelf_of mid.entries).limits.max_entry) ×
      ((shelf_of mid.entries).used + length bytes ≤ (shelf_of mid.entries).limits.max_total)
      → u.entries ≡ put.entries → u.last_start ≡ mid.last_start → u.consumers ≡ mid.consumers → u.keys ≡ mid.keys →
      exch.Becomes (known.with_piece bytes false) x mid.exchanges u.exchanges
      → Answers r u before out now (event.Piece x bytes)
  answered_mid put u puts within entries last same_map same_keys becomes limits t facts stands goes =
      let made = gives _ t (may_make_room t facts) stands in
      let ran = runs r mid put u t facts stands now x q bytes goes grows before out stored had made mid_last mid_exchanges in
      store_answered r mid put u t facts stands now x q bytes goes grows before out stored had made mid_last mid_exchanges (puts ran.o ran.running) within
      entries last same_map same_keys becomes

  pub refused_mid : (put : Rows B g) (kind : LostKind) → shelf.Stays (shelf_of mid.entries) (shelf_of put.entries) →
      (shelf_of mid.entries).faults ≡ (shelf_of r.entries).faults
      → Refused (shelf_of mid.entries).limits (size_at (shelf_of mid.entries) q + length bytes) ((shelf_of mid.entries).used + length bytes)
      (shelf_of mid.entries).faults (shelf_of put.entries).faults kind
      → put.last_start ≡ mid.last_start → put.consumers ≡ mid.consumers → put.exchanges ≡ mid.exchanges → put.keys ≡ mid.keys
      → (limits : Limits) (t : Tables) → Facts limits t → RowsStand limits r t → denial t (event.Piece x bytes) ≡ None →
      Refuses limits r put t now x bytes kind before out
  refused_mid put kind stays faulty why last same_map exchanges same_keys limits t facts stands goes =
      refuses_it r mid put put t facts stands now x q bytes goes grows before out stored had (gives _ t (may_make_room t facts) stands) mid_last mid_exchanges
      kind stays faulty why last same_map exchanges same_keys

  -- what stood there stands there, and what gives way behind it
  pub front_mid : take (length before) out ≡ before
  front_mid = ∥∥₁_elim some (acts_set (take (length before) out) before) (λ p.
      let t = p.t in
      let made = gives _ t (may_make_room t p.facts) p.rows in
      ap (take (length before)) made.acts ∙ take-append_seam before (map act.Evicted (giving_way p.limits t (write.Piece stored (length bytes)))))
