-- A piece that the store refuses is lost: what is kept represents the tables then.
--
-- The code loses what is written first, and then the piece comes to the exchange. By `HeldPiece` it is held for who
-- goes on alone, or dropped (`held_lost`, `dropped_lost`). Who wrote it alone goes on (`own_stands`). Of what several
-- read together, who goes on holds it, and the exchange stays (`stays_so`). Where nobody does, it is closed, unless the
-- piece was its last (`closes_it`). `lose_own_piece` and `lose_shared_piece` use these.
use Rattle.std.{proofs.Common.{◌≡◌, ◌⊎◌, inl, inr, ℕ, ◌+◌, ◌<◌, List, [], ◌∷◌, ◌++◌, length, Bool, true, false, Option, Some, None, refl, ap, sym, ◌∙◌, subst}, specs.Prelude.{is_some, is_none, nat_eq, not, map, ◌==◌, ◌&&◌, if◌then◌else◌}}
use Rattle.hc_text.proofs.Basics.{eqb-other, eqb-same, false_true, same_or, same_some as same_row, and_off as then_false}
use Rattle.hc_effects.proofs.Vocabulary.{Limits, Act, LostKind, Response, all_closed, as_gone, lost_to, with_piece, family, front, promised_bytes, is_reached, is_headless, brings_to, with_stored_bytes, Tables, Exchange, Representation, survivor, act}
use Rattle.hc_store.specs.declared.backend.Backend.{Ghosts}
use Rattle.hc_exch.specs.{declared.row.Open.{Open}, Exchanges.{table_of}, Known.{is_last_of}}
use Rattle.hc_exch.specs.Exchanges as exch
use Rattle.hc_exch.specs.Known as known
use Rattle.hc_state.specs.{declared.rows.Rows.{Rows}, DetachedReaders.{shared_loss}, Refused.{Brings, MayHold, MayLoseOwn, MayLosePiece, LosesPiece, brought_lost, own_loss, closes_with}, Stands.{KeepsRest, RowsStand}, Stopped.{NobodyAwaits}}
use Rattle.hc_state.proofs.{Closing.{stands_unstored}, Maps.{act_and}}
use Rattle.hc_on_body.proofs.HeldPiece.{held_stands, dropped_stands}
use Rattle.hc_on_leave.proofs.{PieceHandler.{Runs, runs_of}, PieceRows.{s, like_same, last_is}}

-- the rows that represent the tables once a loss was told, and then for those with the piece
module _ {B : Type 0} {g : Ghosts B} {limits : Limits} (mid u : Rows B g) (t : Tables) (now r x : ℕ) (bytes : List ℕ) (w : Exchange) (v : Representation)
    (stands : RowsStand limits mid t) (row : t.exchange x ≡ Some w) (opened : w.is_open ≡ true) (headed : is_some w.head ≡ true) (of_r : family x w ≡ r)
    (there : t.representation r ≡ Some v) (lost : v.is_lost ≡ true) (is_gone : v.is_gone ≡ true) (unended : w.is_ended ≡ false)
    (last : u.last_start ≡ mid.last_start) (same_map : u.consumers ≡ mid.consumers) (same_keys : u.keys ≡ mid.keys)
    (same_entries : u.entries ≡ mid.entries) where
  there_too : t.representation (family x w) ≡ Some v
  there_too = ap t.representation of_r ∙ there

  as_of : (n : ℕ) → RowsStand limits u
      (s t now x w bytes (λ q. if family x w == q then Some (with_stored_bytes false (front w) x bytes v) else t.representation q)) →
      RowsStand limits u (brought_lost now r x w bytes v t)
  as_of n = subst (λ (m : ℕ). RowsStand limits u
      (s t now x w bytes (λ q. if m == q then Some (with_stored_bytes false (front w) x bytes v) else t.representation q))) of_r

  pub held_lost : 0 < length bytes → MayHold t x w v → exch.Becomes (known.with_piece bytes true) x mid.exchanges u.exchanges →
      RowsStand limits u (brought_lost now r x w bytes v t)
  held_lost some may becomes =
      as_of r (held_stands mid u t stands now x bytes w v row opened headed there_too lost is_gone unended last same_map same_keys same_entries some may
      becomes)

  pub dropped_lost : v.alone ≡ None → exch.Becomes (known.with_piece bytes false) x mid.exchanges u.exchanges →
      RowsStand limits u (brought_lost now r x w bytes v t)
  dropped_lost nobody becomes =
      as_of r (dropped_stands mid u t stands now x bytes w v row opened headed there_too lost is_gone unended last same_map same_keys same_entries nobody
      becomes)

-- who writes alone goes on
pub own_stands : {B : Type 0} {g : Ghosts B} {limits : Limits} (mid u : Rows B g) (t : Tables) (now r x : ℕ) (bytes : List ℕ) (w : Exchange)
    (v : Representation) (alone : Option ℕ) → 0 < length bytes → MayLoseOwn t now r x w v alone → RowsStand limits mid (own_loss now r v alone t)
    → u.last_start ≡ mid.last_start → u.consumers ≡ mid.consumers → u.keys ≡ mid.keys → u.entries ≡ mid.entries →
    exch.Becomes (known.with_piece bytes true) x mid.exchanges u.exchanges
    → RowsStand limits u (brought_lost now r x w bytes (as_gone (lost_to alone v)) (own_loss now r v alone t))
own_stands mid u t now r x bytes w v alone some may stands last same_map same_keys same_entries becomes =
    let b = may.brings in
    held_lost mid u (own_loss now r v alone t) now r x bytes w (as_gone (lost_to alone v)) stands b.row b.opened b.headed b.of_r (rw (eqb-same r) refl)
    refl refl b.unended last same_map same_keys same_entries some may.holds becomes

-- WHAT IS WRITTEN FOR SEVERAL

is_over : (a b : Bool) → b ≡ true → a ≡ not (not a && b)
is_over true true on = refl
is_over false true on = refl
is_over a false on = false_true on

module _ {B : Type 0} {g : Ghosts B} {limits : Limits} (mid u : Rows B g) (t : Tables) (now r x : ℕ) (bytes : List ℕ) (w : Exchange) (v : Representation)
    (kind : LostKind) (some : 0 < length bytes) (may : MayLosePiece t now r x w v) (detached_reader : Option ℕ)
    (detached_reader_is : detached_reader ≡ survivor t r v) (stands : RowsStand limits mid (shared_loss now r x v detached_reader t))
    (last : u.last_start ≡ mid.last_start) (same_map : u.consumers ≡ mid.consumers) (same_keys : u.keys ≡ mid.keys)
    (same_entries : u.entries ≡ mid.entries) (becomes : exch.Becomes (known.with_piece bytes (is_some detached_reader)) x mid.exchanges u.exchanges) where
  b : Brings t r x w v
  b = may.brings

  abbrev lost_tables : Option ℕ → Tables
  lost_tables o = shared_loss now r x v o t

  abbrev then_tables : Option ℕ → Tables
  then_tables o = brought_lost now r x w bytes (as_gone (lost_to o v)) (lost_tables o)

  by_detached_reader : (o : Option ℕ) → o ≡ survivor t r v → RowsStand limits mid (lost_tables o) →
      exch.Becomes (known.with_piece bytes (is_some o)) x mid.exchanges u.exchanges → RowsStand limits u (then_tables o)
  by_detached_reader None is stood changed =
      dropped_lost mid u (lost_tables None) now r x bytes w (as_gone (lost_to None v)) stood b.row b.opened b.headed b.of_r (rw (eqb-same r) refl) refl
      refl b.unended last same_map same_keys same_entries refl changed
  by_detached_reader (Some d) is stood changed =
      held_lost mid u (lost_tables (Some d)) now r x bytes w (as_gone (lost_to (Some d) v)) stood b.row b.opened b.headed b.of_r (rw (eqb-same r) refl)
      refl refl b.unended last same_map same_keys same_entries some (may.holds d (sym is)) changed

  comes : RowsStand limits u (then_tables detached_reader)
  comes = by_detached_reader detached_reader detached_reader_is stands becomes

  ran : Runs mid (lost_tables detached_reader) x w
  ran = runs_of mid (lost_tables detached_reader) x w stands b.row b.opened

  -- the code is told whether it is over then
  open_is : is_last_of (table_of mid.exchanges x).running (length bytes) ≡ not (with_piece bytes w).is_open
  open_is =
      ap (λ (o : Option Open). is_last_of o (length bytes)) ran.running
      ∙ (last_is (lost_tables detached_reader) now x w bytes (lost_tables detached_reader).representation b.row b.opened b.headed ran.o ran.is
      (like_same _ _ refl)
      ∙ is_over (is_reached (promised_bytes w) (length (w.body ++ bytes))) w.is_open b.opened)

  abbrev closes : Option ℕ → List ℕ
  closes o = closes_with o x bytes w

  loses_by : (u2 : Rows B g) (before out : List Act) (ys : List ℕ) → closes detached_reader ≡ ys → out ≡ before ++ (act.Lost r kind ∷ map act.Close ys) →
      RowsStand limits u2 (all_closed ys (then_tables detached_reader)) → LosesPiece limits u2 t before out now r x bytes w v kind
  loses_by u2 before out ys same reported stood =
      let is : closes (survivor t r v) ≡ ys = ap closes (sym detached_reader_is) ∙ same in
      record {
        acts = reported ∙ ap (λ (zs : List ℕ). before ++ (act.Lost r kind ∷ map act.Close zs)) (sym is);
        rows = subst (λ (zs : List ℕ). RowsStand limits u2 (all_closed zs (then_tables (survivor t r v)))) (sym is)
            (subst (λ (o : Option ℕ). RowsStand limits u2 (all_closed ys (then_tables o))) detached_reader_is stood);
      }

  -- somebody goes on, or nothing more comes
  pub stays_so : (before out : List Act) →
      (is_none detached_reader ≡ false) ⊎ ((is_none detached_reader ≡ true) × (is_last_of (table_of mid.exchanges x).running (length bytes) ≡ true)) →
      out ≡ before ++ (act.Lost r kind ∷ []) → LosesPiece limits u t before out now r x bytes w v kind
  stays_so before out why reported = loses_by u before out [] (elim why [
    | inl off ↦ rw off refl
    | inr both ↦ let shut : (with_piece bytes w).is_open ≡ false = by_not (with_piece bytes w).is_open (sym open_is ∙ both.1) in rw (both.0, shut) refl
  ]) reported comes
    where
      by_not : (a : Bool) → not a ≡ true → a ≡ false
      by_not true on = sym on
      by_not false on = refl

  -- nobody does, and more would come
  module _ (u2 : Rows B g) (none : is_none detached_reader ≡ true) (more : is_last_of (table_of mid.exchanges x).running (length bytes) ≡ false)
      (rest : KeepsRest u u2) (same_too : u2.consumers ≡ u.consumers) (shut : exch.Becomes known.without_exchange x u.exchanges u2.exchanges) where
    here : (then_tables detached_reader).exchange x ≡ Some (with_piece bytes w)
    here = rw (eqb-same x) refl

    unawaited : NobodyAwaits (then_tables detached_reader) x
    unawaited d n lo hi k is at = ap is_headless here ∙ by_head w.head b.headed
      where
        by_head : (h : Option Response) → is_some h ≡ true → ((with_piece bytes w).is_open && is_none h) ≡ false
        by_head None on = false_true on
        by_head (Some response) on = then_false (with_piece bytes w).is_open false refl

    apart : (q : ℕ) (p : Representation) → (then_tables detached_reader).representation q ≡ Some p → p.is_gone ≡ false →
        brings_to q x ((then_tables detached_reader).exchange x) ≡ false
    apart q p there stays = ap (brings_to q x) here ∙ elim (same_or r q) [
      | inl e ↦
          let mine : (then_tables detached_reader).representation q ≡ Some
          (with_stored_bytes false (front w) x bytes (as_gone (lost_to detached_reader v))) = rw (e, eqb-same q) refl in
          false_true (sym stays ∙ ap (λ (z : Representation). z.is_gone)
          (same_row ((then_tables detached_reader).representation q) p (with_stored_bytes false (front w) x bytes (as_gone (lost_to detached_reader v)))
          there mine))
      | inr ne ↦ then_false (with_piece bytes w).is_open (nat_eq (family x w) q) (ap (λ (n : ℕ). nat_eq n q) b.of_r ∙ eqb-other r q ne)
    ]

    closed_too : RowsStand limits u2 (all_closed (x ∷ []) (then_tables detached_reader))
    closed_too = stands_unstored u u2 (then_tables detached_reader) x comes unawaited apart rest.last_start same_too rest.keys rest.entries shut

    pub closes_it : (before middle out : List Act) → middle ≡ before ++ (act.Lost r kind ∷ []) → out ≡ middle ++ (act.Close x ∷ []) →
        LosesPiece limits u2 t before out now r x bytes w v kind
    closes_it before middle out reported closing =
        let goes : (with_piece bytes w).is_open ≡ true = by_not (with_piece bytes w).is_open (sym open_is ∙ more) in
        loses_by u2 before out (x ∷ []) (rw (none, goes) refl) (act_and before middle out (act.Lost r kind) (act.Close x ∷ []) reported closing) closed_too
      where
        by_not : (a : Bool) → not a ≡ false → a ≡ true
        by_not true off = refl
        by_not false off = sym off
