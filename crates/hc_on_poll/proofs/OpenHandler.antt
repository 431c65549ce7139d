-- A consumer that reads nothing opens an exchange, for whose head it waits: what is kept represents the tables then.
--
-- It goes past the store or has the turn (`WaitsFor`): in both places it is bound to nothing, and has nothing unread.
-- So who is bound or came alone stays (`users`, `firsts`). The exchange is new: nobody reads it (`unread_yet`), and
-- nothing of it is held, as no byte came (`none_held`). Of every other as much is held. Nothing that is there is
-- brought by it, so entries stay (`entries_opened`). The handlers of plans use these.
use Rattle.std.{proofs.Common.{◌≡◌, ◌≢◌, inl, inr, ℕ, zero, suc, List, [], ◌∷◌, false, Option, Some, None, refl, ap, sym, ◌∙◌, subst}, specs.Prelude.{drop, filter, not}}
use Rattle.hc_text.proofs.Basics.{eqb-other, eqb-same, false_true, same_or}
use Rattle.hc_stored.specs.Shelf.{Shelf}
use Rattle.hc_effects.proofs.Vocabulary.{Place, family, Lawful, reads, is_bound, Tables, Exchange, Representation, place}
use Rattle.hc_effects.proofs.Tests.{none_some}
use Rattle.hc_model.specs.Rows as rows
use Rattle.hc_state.specs.{Kept.{held_for, held_of, held_alone, unread, unstored_bytes}, Stored.{KeepsEntry, KeepsEntries, is_first, is_usable_row}}
use Rattle.hc_state.proofs.{Fallbacks.{unread_fallback, unstored_fallback}, FallbackSteps.{first_fallback}, OneOfEach.{bound_same, first_row}, Ties.{entry_same, overs_opened}}
use Rattle.hc_on_poll.proofs.OpenKinds.{kinds_opened}

-- past the store, or with the turn
pub data WaitsFor (x : ℕ) : Place → Type 0 where
  past : WaitsFor x (place.Direct x)
  turned : WaitsFor x (place.Turn x)

-- AN EXCHANGE THAT ISN'T THERE YET

-- nobody reads it
pub unread_yet : (t : Tables) (law : Lawful t) (x d : ℕ) (j : rows.Consumer) → t.exchange x ≡ None → t.consumer d ≡ Some j → j.place ≡ place.Direct x → ⊥
unread_yet t law x d j none row at = let p = law.places.direct d x j row at in none_some p.w (sym none ∙ p.row)

module _ (t s : Tables) (law : Lawful t) (c x : ℕ) (v w : rows.Consumer) (z : Exchange) (free : t.exchange x ≡ None) (unfounded : t.representation x ≡ None)
    (row : t.consumer c ≡ Some v) (here : s.consumer c ≡ Some w) (others : (d : ℕ) → d ≢ c → s.consumer d ≡ t.consumer d)
    (opened : s.exchange x ≡ Some z) (exchanges : (y : ℕ) → y ≢ x → s.exchange y ≡ t.exchange y) (lists : s.openings ≡ x ∷ t.openings)
    (same : (q : ℕ) → s.representation q ≡ t.representation q) (used : s.used ≡ t.used) (starts : s.starts ≡ t.starts)
    (idle : reads v.place ≡ false) (at : WaitsFor x w.place) (headless : z.head ≡ None) (unjoined : z.joined ≡ None) (empty : z.body ≡ []) (its : z.c ≡ c) where
  -- WHAT IS HELD

  unread_elsewhere : (y : ℕ) (e : Exchange) → y ≢ x → unread y e (Some w) ≡ []
  unread_elsewhere y e ne = by_place w.place refl at
    where
      by_place : (p : Place) → w.place ≡ p → WaitsFor x p → unread y e (Some w) ≡ []
      by_place _ is past = rw (is, eqb-other x y (λ e. ne (sym e))) refl
      by_place _ is turned = rw is refl

  unstored_then : (y : ℕ) (e : Exchange) (b : Representation) → unstored_bytes s y e b (Some w) ≡ []
  unstored_then y e b = by_place w.place refl at
    where
      by_place : (p : Place) → w.place ≡ p → WaitsFor x p → unstored_bytes s y e b (Some w) ≡ []
      by_place _ is past = rw is refl
      by_place _ is turned = rw is refl

  unstored_moved : (y : ℕ) (e : Exchange) (b : Representation) (o : Option rows.Consumer) → unstored_bytes s y e b o ≡ unstored_bytes t y e b o
  unstored_moved y e b None = refl
  unstored_moved y e b (Some k) = by_place k.place refl
    where
      by_place : (p : Place) → k.place ≡ p → unstored_bytes s y e b (Some k) ≡ unstored_bytes t y e b (Some k)
      by_place (place.Bound q lo hi by) is = rw is refl
      by_place _ is = rw is refl

  unread_by : (y d : ℕ) (e : Exchange) → y ≢ x → unread y e (s.consumer d) ≡ unread y e (t.consumer d)
  unread_by y d e ne = elim (same_or c d) [
    | inl is ↦ rw (← is, here, row) (unread_elsewhere y e ne ∙ sym (unread_fallback y e (Some v) (ap not idle)))
    | inr off ↦ ap (unread y e) (others d (λ is. off (sym is)))
  ]

  unstored_by : (y d : ℕ) (e : Exchange) (b : Representation) → unstored_bytes s y e b (s.consumer d) ≡ unstored_bytes t y e b (t.consumer d)
  unstored_by y d e b = elim (same_or c d) [
    | inl is ↦ rw (← is, here, row) (unstored_then y e b ∙ sym (unstored_fallback t y e b (Some v) (ap not idle)))
    | inr off ↦ ap (unstored_bytes s y e b) (others d (λ is. off (sym is))) ∙ unstored_moved y e b (t.consumer d)
  ]

  pub held_else : (y : ℕ) (e : Exchange) → y ≢ x → held_for s y (Some e) ≡ held_for t y (Some e)
  held_else y e ne = ap (held_of s y e) (same (family y e)) ∙ by_row (t.representation (family y e))
    where
      by_alone : (b : Representation) (o : Option ℕ) → held_alone s y e b o ≡ held_alone t y e b o
      by_alone b None = refl
      by_alone b (Some d) = unstored_by y d e b

      by_row : (o : Option Representation) → held_of s y e o ≡ held_of t y e o
      by_row None = unread_by y e.c e ne
      by_row (Some b) = by_alone b b.alone

  abbrev none : List ℕ
  none = []

  -- nothing came of it yet
  pub none_held : held_for s x (Some z) ≡ []
  none_held = rw (unjoined, same x, unfounded, its, here) (by_place w.place refl at)
    where
      drop_none : (n : ℕ) → drop n z.body ≡ []
      drop_none n = rw empty (by_count n)
        where
          by_count : (n : ℕ) → drop n none ≡ none
          by_count zero = refl
          by_count (suc n) = refl

      by_place : (p : Place) → w.place ≡ p → WaitsFor x p → unread x z (Some w) ≡ []
      by_place _ is past = rw (is, eqb-same x) (drop_none w.given)
      by_place _ is turned = rw is refl

  -- WHO IS BOUND

  unbound_then : (q : ℕ) → is_bound q (Some w) ≡ false
  unbound_then q = by_place w.place refl at
    where
      by_place : (p : Place) → w.place ≡ p → WaitsFor x p → is_bound q (Some w) ≡ false
      by_place _ is past = rw is refl
      by_place _ is turned = rw is refl

  unbound_before : (q : ℕ) → is_bound q (Some v) ≡ false
  unbound_before q = by_place v.place refl
    where
      by_place : (p : Place) → v.place ≡ p → is_bound q (Some v) ≡ false
      by_place (place.Bound a lo hi by) is = false_true (sym idle ∙ ap reads is)
      by_place _ is = rw is refl

  not_first : (q : ℕ) → is_first t q (Some w) ≡ false
  not_first q = by_place w.place refl at
    where
      by_place : (p : Place) → w.place ≡ p → WaitsFor x p → is_first t q (Some w) ≡ false
      by_place _ is past = rw is refl
      by_place _ is turned = rw is refl

  users : (q d : ℕ) → is_bound q (s.consumer d) ≡ is_bound q (t.consumer d)
  users q d = elim (same_or c d) [
    | inl is ↦ rw (← is, here, row) (unbound_then q ∙ sym (unbound_before q))
    | inr off ↦ ap (is_bound q) (others d (λ is. off (sym is)))
  ]

  firsts : (q d : ℕ) → is_first t q (s.consumer d) ≡ is_first t q (t.consumer d)
  firsts q d = elim (same_or c d) [
    | inl is ↦ rw (← is, here, row) (not_first q ∙ sym (first_fallback t q (Some v) (ap not idle)))
    | inr off ↦ ap (is_first t q) (others d (λ is. off (sym is)))
  ]

  pub entries_opened : (shelf : Shelf) → KeepsEntries t shelf → shelf.order ≡ filter (λ q. is_usable_row (s.representation q)) s.used → KeepsEntries s shelf
  entries_opened shelf kept order = record {
    each = λ q. subst (KeepsEntry s q (shelf.kept q)) (sym (same q))
        (entry_same t s q (shelf.kept q) (t.representation q) refl
        (record {
          users = users q;
          first = λ d. first_row t s same q (s.consumer d) ∙ firsts q d;
          list = bound_same t s q starts (users q);
          kind =
              kinds_opened t s x z free unfounded opened exchanges lists unjoined q;
          overs = overs_opened t.exchange s.exchange x free exchanges;
        }) (kept.each q));
    order = order;
  }
