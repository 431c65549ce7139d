-- What an entry brings: bytes of a body and of an exchange, at a piece alone.
--
-- A body changes by a piece alone, of the exchange that brings it: this one's body is longer by it (`heard_body`,
-- `brings`), and a representation of its family has the bytes at its front (`pieced_by`, `heard`, `fills`). Each other
-- event is looked at and leaves both. What was told of a length stays, where the head does (`length_same`). Laws on
-- bytes compare the two, since one piece comes at a time.
use Rattle.std.{proofs.{lemmas.Bool.Decides.{nat_tests}, Common.{arith, ◌≡◌, inl, inr, ℕ, ◌+◌, List, length, ◌++◌, Bool, true, false, Option, Some, None, refl, ap, sym, ◌∙◌, subst, max}}, specs.Prelude.{if◌then◌else◌, ◌==◌, ◌||◌, not}}
use Rattle.hc_text.proofs.Basics.{same_some as same_row, some_inj}
use Rattle.hc_sparse.specs.Cells.{cells_with}
use Rattle.hc_effects.proofs.Vocabulary.{Event, Response, loses_in, Entry, exchange_after, exchange_heard, exchange_acted, front, family, length_by, representation_heard, representation_acted, representation_after_head, with_renewed_head, updates, representation_after_piece, with_stored_bytes, with_total_if_none, length_in, Tables, Exchange, Representation, event}
use Rattle.hc_effects.proofs.{Forward.{after_is}, PieceKeeps.{eq_cases}, RepFrom.{IsKept}}

module _ (t : Tables) (e : Entry) where
  -- a piece of the family of r comes
  pub record IsPiece (r x : ℕ) (bytes : List ℕ) (w : Exchange) : Type 0 where
    pub at : e.event ≡ event.Piece x bytes
    pub row : t.exchange x ≡ Some w
    pub of_r : family x w ≡ r

  -- what came of r stays, or a piece comes
  pub data Fills (r : ℕ) (v u : Representation) : Type 0 where
    still : ((x : ℕ) (bytes : List ℕ) (w : Exchange) → IsPiece r x bytes w → ⊥) → u.body ≡ v.body → u.stored ≡ v.stored → u.reach ≡ v.reach → Fills r v u
    more : (x : ℕ) (bytes : List ℕ) (w : Exchange) → IsPiece r x bytes w → u.body ≡ cells_with (front w) x bytes v.body →
        u.stored ≡ (if not (v.is_lost || loses_in r e.acts) then cells_with (front w) x bytes v.stored else v.stored) →
        u.reach ≡ max v.reach (front w + length bytes) → Fills r v u

  module _ (r : ℕ) (v : Representation) where
    headed_still : ((x : ℕ) (bytes : List ℕ) (w : Exchange) → IsPiece r x bytes w → ⊥) → (x : ℕ) (response : Response) (o : Option Exchange) →
        Fills r v (representation_after_head t e r x response o v)
    headed_still none x response None = still none refl refl refl
    headed_still none x response (Some w) = by_test (updates t e r w v)
      where
        by_test : (b : Bool) → Fills r v (if b then with_renewed_head t e x response w v else v)
        by_test true = still none refl refl refl
        by_test false = still none refl refl refl

    unpieced : (ev : Event) → e.event ≡ ev → ((x : ℕ) (bytes : List ℕ) → ev ≡ event.Piece x bytes → ⊥) → (x : ℕ) (bytes : List ℕ) (w : Exchange) →
        IsPiece r x bytes w → ⊥
    unpieced ev here other x bytes w is = other x bytes (sym here ∙ is.at)

    piece_inj : (x y : ℕ) (a b : List ℕ) → event.Piece x a ≡ event.Piece y b → (x ≡ y) × (a ≡ b)
    piece_inj x y a b is = (cc, cc)

    pieced_by : (x : ℕ) (bytes : List ℕ) (o : Option Exchange) → e.event ≡ event.Piece x bytes → t.exchange x ≡ o →
        Fills r v (representation_after_piece e r x bytes o v)
    pieced_by x bytes None here row =
        still (λ y more w is. let same = piece_inj y x more bytes (sym is.at ∙ here) in none_some w (sym row ∙ (sym (ap t.exchange same.0) ∙ is.row)))
        refl refl refl
      where
        none_some : (w : Exchange) → None ≡ Some w → ⊥
        none_some w h = cc
    pieced_by x bytes (Some w) here row = elim (eq_cases (family x w) r) [
      | inr off ↦ rw off.0 (still (λ y more z is.
          let same = piece_inj y x more bytes (sym is.at ∙ here) in
          let one : z ≡ w = same_row (t.exchange x) z w (sym (ap t.exchange same.0) ∙ is.row) row in
          off.1 (ap (family x) (sym one) ∙ (ap (λ n. family n z) (sym same.0) ∙ is.of_r))) refl refl refl)
      | inl hit ↦ rw hit.0 (by_kept (not (v.is_lost || loses_in r e.acts)) refl hit.1)
    ]
      where
        by_kept : (b : Bool) → not (v.is_lost || loses_in r e.acts) ≡ b → family x w ≡ r → Fills r v (with_stored_bytes b (front w) x bytes v)
        by_kept b is of_r = more x bytes w (record { at = here; row = row; of_r = of_r }) refl
            (ap (λ q. if q then cells_with (front w) x bytes v.stored else v.stored) (sym is)) refl

    ended_by : ((x : ℕ) (bytes : List ℕ) (w : Exchange) → IsPiece r x bytes w → ⊥) → (n : ℕ) (b : Bool) → Fills r v (if b then with_total_if_none n v else v)
    ended_by none n true = still none refl refl refl
    ended_by none n false = still none refl refl refl

    heard : (ev : Event) → e.event ≡ ev → Fills r v (representation_heard t e r ev v)
    heard (event.Head x response) here = headed_still (unpieced _ here (λ x bytes is. cc)) x response (t.exchange x)
    heard (event.Piece x bytes) here = pieced_by x bytes (t.exchange x) here refl
    heard (event.End x) here = ended_by (unpieced _ here (λ x bytes is. cc)) (length_in (t.exchange x)) (x == r)
    heard (event.Fault x) here = still (unpieced _ here (λ x bytes is. cc)) refl refl refl
    heard _ here = still (unpieced _ here (λ x bytes is. cc)) refl refl refl

    acted : (z : Representation) → Fills r v z → Fills r v (representation_acted t e r v z)
    acted z (still none body stored reach) = still none body stored reach
    acted z (more x bytes w is body stored reach) = more x bytes w is body stored reach

    pub fills : (u : Representation) → IsKept t e r v u → Fills r v u
    fills u kept = subst (Fills r v) kept.is (acted _ (heard e.event refl))

  -- AN EXCHANGE

  -- its body stays, or a piece of it comes
  pub data Brings (x : ℕ) (w z : Exchange) : Type 0 where
    still : ((bytes : List ℕ) → e.event ≡ event.Piece x bytes → ⊥) → z.body ≡ w.body → Brings x w z
    more : (bytes : List ℕ) → e.event ≡ event.Piece x bytes → z.body ≡ w.body ++ bytes → Brings x w z

  number_in : Event → ℕ
  number_in (event.Piece y bytes) = y
  number_in _ = 0

  heard_body : (x : ℕ) (w : Exchange) (ev : Event) → e.event ≡ ev → Brings x w (exchange_acted x e.acts (exchange_heard t e x ev w))
  unfolding number_in
  heard_body x w (event.Head y response) here = elim (eq_cases y x) [
    | inl hit ↦ rw hit.0 (still (λ bytes is. let no : event.Head y response ≡ event.Piece x bytes = sym here ∙ is in cc) refl)
    | inr off ↦ rw off.0 (still (λ bytes is. let no : event.Head y response ≡ event.Piece x bytes = sym here ∙ is in cc) refl)
  ]
  heard_body x w (event.Piece y more_bytes) here = elim (eq_cases y x) [
    | inl hit ↦ rw hit.0 (more more_bytes (here ∙ ap (λ n. event.Piece n more_bytes) hit.1) refl)
    | inr off ↦ rw off.0 (still (λ bytes is. off.1 (ap number_in (sym here ∙ is))) refl)
  ]
  heard_body x w (event.End y) here = elim (eq_cases y x) [
    | inl hit ↦ rw hit.0 (still (λ bytes is. let no : event.End y ≡ event.Piece x bytes = sym here ∙ is in cc) refl)
    | inr off ↦ rw off.0 (still (λ bytes is. let no : event.End y ≡ event.Piece x bytes = sym here ∙ is in cc) refl)
  ]
  heard_body x w (event.Fault y) here = elim (eq_cases y x) [
    | inl hit ↦ rw hit.0 (still (λ bytes is. let no : event.Fault y ≡ event.Piece x bytes = sym here ∙ is in cc) refl)
    | inr off ↦ rw off.0 (still (λ bytes is. let no : event.Fault y ≡ event.Piece x bytes = sym here ∙ is in cc) refl)
  ]
  heard_body x w ev here = still (λ bytes is. let no : ev ≡ event.Piece x bytes = sym here ∙ is in cc) refl

  pub brings : (x : ℕ) (w z : Exchange) → t.exchange x ≡ Some w → exchange_after t e x (t.exchange x) ≡ Some z → Brings x w z
  brings x w z row after = subst (Brings x w) (some_inj _ z (sym (after_is t e x w (t.exchange x) row) ∙ after)) (heard_body x w e.event refl)

-- what a head said stays said
pub length_same : (w z : Exchange) → z.need ≡ w.need → z.request ≡ w.request → z.head ≡ w.head → length_by z z.head ≡ length_by w w.head
length_same w z need_is request_is head_is = grind (arith, nat_tests)
