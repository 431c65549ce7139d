-- The tables where a piece is lost for which others gave way: in whichever order that is told, they are the same.
--
-- The effects let the others go last, and the code first. Who waited for one that gave way starts over, and who reads
-- what is lost goes on or has a failure due. One consumer has one place, so these are different ones (`left_later`).
-- What is lost isn't among what gave way, so its row is the same too (`rows_then`). There are three cases: an own
-- exchange, a shared one that stays open, and one that is closed. `GrowHandler` uses them.
use Rattle.std.{proofs.Common.{◌≡◌, inl, inr, ℕ, List, [], ◌∷◌, Bool, true, false, Option, Some, None, refl, ap, ap₂, sym, ◌∙◌}, specs.Prelude.{◌==◌, option_map, if◌then◌else◌}}
use mathlib.Core.Path.{fun_ext}
use Rattle.hc_text.proofs.Basics.{eqb-other, eqb-same, same_or}
use Rattle.hc_effects.proofs.Vocabulary.{event, place, Place, is_number, all_closed, back_from, with_event, as_gone, if_bound, left_with, let_all_go, let_go, lost_to, with_exchange, with_representation, group_lost, with_piece, front, with_stored_bytes, Tables, Exchange, Representation}
use Rattle.hc_model.specs.Rows as rows
use Rattle.hc_effects.proofs.SameTables.{all_go_is, back_from_any, is_in}
use Rattle.hc_state.specs.{DetachedReaders.{shared_loss}, Refused.{brought_lost, own_loss}}

-- WHO WAITED, AND WHO READS

-- who waited for one that gives way doesn't read what is lost
module _ (now r : ℕ) (es : List ℕ) (detached_reader own : Option ℕ) (d : ℕ) where
  abbrev left : rows.Consumer → rows.Consumer
  left k = if_bound r (left_with r detached_reader own d) k

  left_later : (k : rows.Consumer) → back_from_any now es (back_from now r (left k)) ≡ back_from now r (left (back_from_any now es k))
  left_later k = by_place k.place refl
    where
      by_place : (p : Place) → k.place ≡ p → back_from_any now es (back_from now r (left k)) ≡ back_from now r (left (back_from_any now es k))
      by_place (place.Passed q kept) at = by_tests (r == q) (is_in es q) refl refl
        where
          by_tests : (a b : Bool) → (r == q) ≡ a → is_in es q ≡ b →
              back_from_any now es (back_from now r (left k)) ≡ back_from now r (left (back_from_any now es k))
          by_tests true false a b = rw (at, a, b) (rw a refl)
          by_tests false false a b = rw (at, a, b) (rw a refl)
          by_tests true true a b = rw (at, a, b) refl
          by_tests false true a b = rw (at, a, b) refl
      by_place (place.Bound q lo hi how) at = by_tests (q == r) (is_number detached_reader d) refl refl
        where
          by_tests : (a b : Bool) → (q == r) ≡ a → is_number detached_reader d ≡ b →
              back_from_any now es (back_from now r (left k)) ≡ back_from now r (left (back_from_any now es k))
          by_tests false true a b = rw (at, a) refl
          by_tests false false a b = rw (at, a) refl
          by_tests true true a b = rw (at, a, b) refl
          by_tests true false a b = rw (at, a, b) refl
      by_place _ at = rw at refl

  pub left_then : (o : Option rows.Consumer) →
      option_map (back_from_any now es) (option_map (back_from now r) (option_map left o)) ≡ option_map (back_from now r)
      (option_map left (option_map (back_from_any now es) o))
  left_then None = refl
  left_then (Some k) = ap Some (left_later k)

module _ (now r : ℕ) (es : List ℕ) where
  back_later : (k : rows.Consumer) → back_from_any now es (back_from now r k) ≡ back_from now r (back_from_any now es k)
  back_later k = by_place k.place refl
    where
      by_place : (p : Place) → k.place ≡ p → back_from_any now es (back_from now r k) ≡ back_from now r (back_from_any now es k)
      by_place (place.Passed q kept) at = by_tests (r == q) (is_in es q) refl refl
        where
          by_tests : (a b : Bool) → (r == q) ≡ a → is_in es q ≡ b → back_from_any now es (back_from now r k) ≡ back_from now r (back_from_any now es k)
          by_tests true false a b = rw (at, a, b) (rw a refl)
          by_tests false false a b = rw (at, a, b) (rw a refl)
          by_tests true true a b = rw (at, a, b) refl
          by_tests false true a b = rw (at, a, b) refl
      by_place _ at = rw at refl

  pub back_then : (o : Option rows.Consumer) →
      option_map (back_from_any now es) (option_map (back_from now r) o) ≡ option_map (back_from now r) (option_map (back_from_any now es) o)
  back_then None = refl
  back_then (Some k) = ap Some (back_later k)

-- THE TABLES

module _ (now r x : ℕ) (bytes : List ℕ) (w : Exchange) (v : Representation) (es : List ℕ) (t : Tables) (apart : is_in es r ≡ false)
    (detached_reader : Option ℕ) where
  abbrev filled_lost : Representation
  filled_lost = lost_to detached_reader (with_stored_bytes false (front w) x bytes v)

  abbrev brought : Tables
  brought = with_exchange x (Some (with_piece bytes w)) t

  -- the row of what is lost, and the others
  abbrev lost_row : ℕ → Option Representation
  lost_row q = if r == q then Some filled_lost else t.representation q

  abbrev gone_first : ℕ → Option Representation
  gone_first q = if is_in es q then option_map as_gone (t.representation q) else t.representation q

  rows_then : (q : ℕ) → (if is_in es q then option_map as_gone (if r == q then option_map as_gone (lost_row q) else lost_row q) else
      (if r == q then option_map as_gone (lost_row q) else lost_row q))
      ≡ (if r == q then Some (with_stored_bytes false (front w) x bytes (as_gone (lost_to detached_reader v))) else
      (if r == q then option_map as_gone (if r == q then Some (lost_to detached_reader v) else gone_first q) else
      (if r == q then Some (lost_to detached_reader v) else gone_first q)))
  rows_then q = elim (same_or r q) [
    | inl e ↦ let off : is_in es q ≡ false = ap (is_in es) (sym e) ∙ apart in rw (e, eqb-same q, off) refl
    | inr ne ↦ rw (eqb-other r q ne) refl
  ]

  pub own_tables : with_event now (event.Piece x bytes) (let_all_go now es (let_go now r (with_representation r (Some filled_lost) brought)))
      ≡ brought_lost now r x w bytes (as_gone (lost_to detached_reader v)) (own_loss now r v detached_reader (let_all_go now es t))
  own_tables =
      ap (with_event now (event.Piece x bytes)) (all_go_is now es (let_go now r (with_representation r (Some filled_lost) brought)))
      ∙ ap₂ (λ (f : ℕ → Option Representation) (h : ℕ → Option rows.Consumer). with_event now (event.Piece x bytes)
      (record brought { representation = f; consumer = h }))
      (fun_ext rows_then) (fun_ext (λ d. back_then now r es (t.consumer d)))
      ∙ sym (ap (λ (z : Tables). brought_lost now r x w bytes (as_gone (lost_to detached_reader v)) (own_loss now r v detached_reader z)) (all_go_is now es t))

  consumers_then : (d : ℕ) →
      option_map (back_from_any now es) (option_map (back_from now r) (option_map (if_bound r (left_with r detached_reader (Some x) d)) (t.consumer d)))
      ≡ option_map (back_from now r) (option_map (if_bound r (left_with r detached_reader (Some x) d)) (option_map (back_from_any now es) (t.consumer d)))
  consumers_then d = left_then now r es detached_reader (Some x) d (t.consumer d)

  -- the exchange stays open, or was closed before
  pub open_tables : with_event now (event.Piece x bytes)
      (let_all_go now es (let_go now r (with_representation r (Some filled_lost) (group_lost r detached_reader (Some x) brought))))
      ≡ brought_lost now r x w bytes (as_gone (lost_to detached_reader v)) (shared_loss now r x v detached_reader (let_all_go now es t))
  open_tables =
      ap (with_event now (event.Piece x bytes))
      (all_go_is now es (let_go now r (with_representation r (Some filled_lost) (group_lost r detached_reader (Some x) brought))))
      ∙ ap₂ (λ (f : ℕ → Option Representation) (h : ℕ → Option rows.Consumer). with_event now (event.Piece x bytes)
      (record brought { representation = f; consumer = h }))
      (fun_ext rows_then) (fun_ext consumers_then)
      ∙ sym (ap (λ (z : Tables). brought_lost now r x w bytes (as_gone (lost_to detached_reader v)) (shared_loss now r x v detached_reader z))
      (all_go_is now es t))

  -- it is closed
  shut_tables : with_event now (event.Piece x bytes)
      (let_all_go now es (let_go now r (with_representation r (Some filled_lost) (group_lost r detached_reader (Some x) (all_closed (x ∷ []) brought)))))
      ≡ all_closed (x ∷ []) (brought_lost now r x w bytes (as_gone (lost_to detached_reader v)) (shared_loss now r x v detached_reader (let_all_go now es t)))
  shut_tables =
      ap (with_event now (event.Piece x bytes))
      (all_go_is now es (let_go now r (with_representation r (Some filled_lost) (group_lost r detached_reader (Some x) (all_closed (x ∷ []) brought)))))
      ∙ ap₂ (λ (f : ℕ → Option Representation) (h : ℕ → Option rows.Consumer). with_event now (event.Piece x bytes)
      (record (all_closed (x ∷ []) brought) { representation = f; consumer = h }))
      (fun_ext rows_then) (fun_ext consumers_then)
      ∙ sym (ap (λ (z : Tables). all_closed (x ∷ [])
      (brought_lost now r x w bytes (as_gone (lost_to detached_reader v)) (shared_loss now r x v detached_reader z))) (all_go_is now es t))

  -- it is, where the piece leaves it open
  pub fails_tables : (b : Bool) →
      with_event now (event.Piece x bytes)
      (let_all_go now es (let_go now r
      (with_representation r (Some filled_lost) (group_lost r detached_reader (Some x) (all_closed (if b then x ∷ [] else []) brought)))))
      ≡ all_closed (if b then x ∷ [] else [])
      (brought_lost now r x w bytes (as_gone (lost_to detached_reader v)) (shared_loss now r x v detached_reader (let_all_go now es t)))
  fails_tables true = shut_tables
  fails_tables false = open_tables
