-- A piece that is held is answered: for the detached reader of what was lost, or for who reads past the store.
--
-- What is lost isn't written for several. So by the laws its open exchange has an owner, which is bound to it and goes
-- on alone (`owner`). It has begun to read no further than the exchange came, and where the piece comes nothing is
-- stored (`owner_within`, `absent`): so `HeldPiece` applies (`lost_answered`). `held_answered` joins this with a piece
-- past the store, for `hold_piece`. `GrowHandler` takes the owner and its facts.
use Rattle.std.{proofs.{Common.{◌≡◌, ◌≢◌, inl, inr, ℕ, ◌+◌, ◌-◌, ◌<◌, ◌≤◌, ◌⊎◌, List, [], ◌∷◌, ◌++◌, length, Bool, true, false, Option, Some, None, refl, ap, sym, ◌∙◌, subst, arith}, lemmas.List.{append-nil}}, specs.Prelude.{is_some, ◌==◌, ◌&&◌, if◌then◌else◌}}
use Rattle.hc_text.proofs.Basics.{false_true, order}
use Rattle.hc_effects.proofs.Vocabulary.{Limits, Act, BoundBy, denial, entry_without_acts, with_piece, family, base, front, is_written, own_open, with_stored_bytes, Tables, Exchange, Representation, Sound, IsExclusiveWriter, IsHad, write_in, goes_on_at, event, place}
use Rattle.hc_store.specs.declared.backend.Backend.{Ghosts}
use Rattle.hc_sparse.specs.Cells.{Cell}
use Rattle.hc_stored.specs.{Entries.{shelf_of}, Kept.{Kept}}
use Rattle.hc_exch.specs.Exchanges as exch
use Rattle.hc_exch.specs.Exchanges.{table_of}
use Rattle.hc_exch.specs.Known as known
use Rattle.hc_model.specs.Rows as rows
use Rattle.hc_model.specs.Sound as sound
use Rattle.hc_effects.proofs.{AboutKeeps.{own_open_of}, Covers.{headed_at}, Once.{delivers_once}, Tests.{none_some}}
use Rattle.hc_effects.proofs.PieceEffects as does
use Rattle.hc_state.specs.{declared.rows.Rows.{Rows}, Facts.{Facts}, Pieces.{unless_lost, stored_at, stored_by}, Refused.{GoesOn, MayHold}, Stands.{Answered, RowsStand}, Stops.{brought_by}, Stored.{KeepsEntry}}
use Rattle.hc_state.proofs.Answering.{does_answered}
use Rattle.hc_on_body.proofs.HeldPiece.{held_stands}
use Rattle.hc_on_leave.proofs.{PieceHandler.{Brought, brought_of, Runs, runs_of, open_unended, brings_it, past_answered}, PieceRows.{s}, StoreHandler.{none_by}}

-- whose an open exchange is that isn't the writing's
pub record Owner (t : Tables) (x : ℕ) (w : Exchange) (v : Representation) : Type 0 where
  pub c : ℕ
  pub k : rows.Consumer
  pub lo : ℕ
  pub hi : Option ℕ
  pub how : BoundBy
  pub row : t.consumer c ≡ Some k
  pub at : k.place ≡ place.Bound (family x w) lo hi how
  pub own : k.own ≡ Some x
  pub opens : own_open t k ≡ Some x
  pub due : k.due ≡ None
  pub exclusive_writer : IsExclusiveWriter t (family x w) v c

pub owner : (t : Tables) (x : ℕ) (w : Exchange) (v : Representation) → Sound t → t.exchange x ≡ Some w → w.is_open ≡ true → is_some w.head ≡ true →
    t.representation (family x w) ≡ Some v → is_written t v ≡ false → Owner t x w v
owner t x w v s row opened headed there unwritten =
    by_had (s.writes.had (family x w) x v there (sound.headed w row opened headed refl (ap (λ (o : Option Representation). is_some o) there)))
  where
    by_had : IsHad t (family x w) v x → Owner t x w v
    by_had (sound.shared on writes) = false_true (sym unwritten ∙ on)
    by_had (sound.own c k (sound.is_bound lo hi how consumer at) owns due exclusive_writer) = record {
      c = c;
      k = k;
      lo = lo;
      hi = hi;
      how = how;
      row = consumer;
      at = at;
      own = (own_open_of t k x owns).own;
      opens = owns;
      due = due;
      exclusive_writer = exclusive_writer;
    }

-- what is lost isn't written for several
unwritten_lost : (t : Tables) (v : Representation) → v.is_lost ≡ true → is_written t v ≡ false
unfolding is_written
unwritten_lost t v lost = rw lost refl

-- what begins to be read isn't past what its own exchange brings
starts_within : {limits : Rattle.hc_rules.specs.declared.room.Limits.Limits} (t : Tables) (facts : Facts limits t) (x : ℕ) (w : Exchange)
    (v : Representation) (o : Owner t x w v) → t.exchange x ≡ Some w → w.is_open ≡ true → is_some w.head ≡ true → o.lo ≤ front w
starts_within t facts x w v o row opened headed =
    let begins = facts.fronts.begins o.c (family x w) o.lo x o.hi o.how o.k w o.row o.at o.due o.own row opened in
    let at : goes_on_at w w.head ≡ front w = headed_at w w.head refl headed in
    omega (arith, begins, at)

-- WHERE A PIECE COMES, NOTHING IS STORED

module _ {limits : Rattle.hc_rules.specs.declared.room.Limits.Limits} (t : Tables) (facts : Facts limits t) (x : ℕ) (bytes : List ℕ)
    (goes : denial t (event.Piece x bytes) ≡ None) (w : Exchange) (v : Representation) (row : t.exchange x ≡ Some w) (opened : w.is_open ≡ true)
    (headed : is_some w.head ≡ true) (some : 0 < length bytes) (there : t.representation (family x w) ≡ Some v) where
  store : sound.IsStored v
  store = (facts.law.sound.rows (family x w) v there).store

  body_absent : v.body (front w) ≡ None
  body_absent = delivers_once t facts.law.sound x bytes w v goes row there (front w) (omega arith) (omega (arith, some))

  pub owner_within : (o : Owner t x w v) → o.lo + o.k.given ≤ front w
  owner_within o = elim (order (front w) (o.lo + o.k.given)) [
    | inr (inl same) ↦ omega (arith, same)
    | inr (inr past) ↦ omega (arith, past)
    | inl before ↦
        let starts = starts_within t facts x w v o row opened headed in
        let covered = facts.law.given.covered o.c (family x w) o.lo o.hi o.how o.k v o.row o.at there (front w) starts before in
        false_true (sym (ap (λ (o : Option Cell). is_some o) body_absent) ∙ covered)
  ]

  pub absent : v.stored (front w) ≡ None
  absent = none_by (v.stored (front w)) (v.body (front w)) (store.some_stored (front w)) body_absent

  pub reached : (p : ℕ) → v.reach ≤ p → v.stored p ≡ None
  reached p past = none_by (v.stored p) (v.body p) (store.some_stored p) (store.ends p past)

  pub brought_some : (p : ℕ) → v.reach ≤ p → p + 1 ≡ front w → length w.body ≡ 0
  brought_some p past is = elim (order 0 (length w.body)) [
    | inr (inl same) ↦ sym same
    | inr (inr less) ↦ absurd (omega (arith, less))
    | inl some_came ↦
        let low : base w ≤ p = omega (arith, is, some_came) in
        none_some _ (sym (store.ends p past) ∙ facts.brings.stands x p w v row headed there low (omega (arith, is)))
  ]

-- A PIECE OF WHAT IS LOST

module _ {B : Type 0} {g : Ghosts B} {limits : Limits} (r u : Rows B g) (t : Tables) (facts : Facts limits t) (stands : RowsStand limits r t) (now x : ℕ)
    (bytes : List ℕ) (goes : denial t (event.Piece x bytes) ≡ None) (w : Exchange) (v : Representation) (row : t.exchange x ≡ Some w)
    (opened : w.is_open ≡ true) (headed : is_some w.head ≡ true) (some : 0 < length bytes) (there : t.representation (family x w) ≡ Some v)
    (lost : v.is_lost ≡ true)
    (last : u.last_start ≡ r.last_start) (same_map : u.consumers ≡ r.consumers) (same_keys : u.keys ≡ r.keys) (same_entries : u.entries ≡ r.entries)
    (becomes : exch.Becomes (known.with_piece bytes true) x r.exchanges u.exchanges) where
  o : Owner t x w v
  o = owner t x w v facts.law.sound row opened headed there (unwritten_lost t v lost)

  is_gone : v.is_gone ≡ true
  is_gone = (facts.law.sound.rows (family x w) v there).store.lost_is_gone lost

  on : GoesOn t x w v
  on = record { c = o.c; k = o.k; lo = o.lo; hi = o.hi; how = o.how; row = o.row; at = o.at; alone = by_exclusive_writer o.c o.exclusive_writer; own = o.own }
    where
      by_exclusive_writer : (c : ℕ) → IsExclusiveWriter t (family x w) v c → v.alone ≡ Some c
      by_exclusive_writer c (sound.first fresh is) = false_true (sym fresh ∙ lost)
      by_exclusive_writer c (sound.alone was is) = is

  may : MayHold t x w v
  unfolding on o
  may = record {
    on = on;
    lost = lost;
    gone = is_gone;
    unended = open_unended t facts.law x w row opened;
    within = owner_within t facts x bytes goes w v row opened headed some there o;
    absent = absent t facts x bytes goes w v row opened headed some there;
    reached = reached t facts x bytes goes w v row opened headed some there;
    brought_some = brought_some t facts x bytes goes w v row opened headed some there;
  }

  abbrev after : Tables
  after = s t now x w bytes (λ q. if family x w == q then Some (with_stored_bytes false (front w) x bytes v) else t.representation q)

  lost_stands : RowsStand limits u after
  lost_stands = held_stands r u t stands now x bytes w v row opened headed there lost is_gone (open_unended t facts.law x w row opened) last same_map
      same_keys same_entries some may becomes

  pub lost_answered : (before : List Act) → Answered limits (shelf_of r.entries).faults u t before before now (event.Piece x bytes)
  lost_answered before =
      does_answered limits (shelf_of r.entries).faults u t after before before [] now (event.Piece x bytes)
      (does.unstored limits t facts.law now x bytes w row goes (family x w) v refl there lost) unwritten refl (sym (append-nil before)) lost_stands
    where
      unwritten : write_in t (entry_without_acts now (event.Piece x bytes)) (event.Piece x bytes) ≡ None
      unwritten = rw (row, there, lost) refl

-- WHAT ISN'T STORED

module _ {B : Type 0} {g : Ghosts B} {limits : Limits} (r u : Rows B g) (t : Tables) (facts : Facts limits t) (stands : RowsStand limits r t) (now x : ℕ)
    (bytes : List ℕ) (goes : denial t (event.Piece x bytes) ≡ None) (unkept : stored_by r x ≡ None)
    (last : u.last_start ≡ r.last_start) (same_map : u.consumers ≡ r.consumers) (same_keys : u.keys ≡ r.keys) (same_entries : u.entries ≡ r.entries)
    (becomes : exch.Becomes (known.with_piece bytes true) x r.exchanges u.exchanges) (before : List Act) where
  b : Brought t x (length bytes)
  b = brought_of t x bytes goes

  ran : Runs r t x b.w
  ran = runs_of r t x b.w stands b.row b.taken.is_open

  is_lost : (q : ℕ) (v : Representation) → family x b.w ≡ q → t.representation q ≡ Some v → unless_lost q ((shelf_of r.entries).kept q) ≡ None →
      v.is_lost ≡ true
  is_lost q v of_q there none = by_kept ((shelf_of r.entries).kept q) none (subst (KeepsEntry t q ((shelf_of r.entries).kept q)) there (stands.entries.each q))
    where
      by_test : (a : Bool) → (if a then None else Some q) ≡ None → a ≡ true
      by_test true h = refl
      by_test false h = none_some q (sym h)

      by_kept : (k : Option Kept) → unless_lost q k ≡ None → KeepsEntry t q k (Some v) → v.is_lost ≡ true
      by_kept None h kept = absurd
          (facts.law.whose.unread q x v there kept.unused
          (sound.headed b.w b.row b.taken.is_open b.taken.headed of_q (ap (λ (o : Option Representation). is_some o) there)))
      by_kept (Some k) h kept = sym kept.is_lost ∙ by_test k.is_lost h

  by_brought : (o : Option ℕ) → brought_by (table_of r.exchanges x).running ≡ o →
      Answered limits (shelf_of r.entries).faults u t before before now (event.Piece x bytes)
  by_brought None past = past_answered r u t facts stands now x bytes goes past last same_map same_keys same_entries becomes before
  by_brought (Some q) brings =
      let it = brings_it t x q ran.o b.w ran.is b.taken.headed (sym (ap brought_by ran.running) ∙ brings) in
      let v = it.1.0 in
      let lost = is_lost q v it.0 (sym (ap t.representation it.0) ∙ it.1.1) (sym (ap (stored_at (shelf_of r.entries)) brings) ∙ unkept) in
      lost_answered r u t facts stands now x bytes goes b.w v b.row b.taken.is_open b.taken.headed b.taken.some it.1.1 lost last same_map same_keys
      same_entries becomes before

  pub held_answered : Answered limits (shelf_of r.entries).faults u t before before now (event.Piece x bytes)
  held_answered = by_brought (brought_by (table_of r.exchanges x).running) refl
