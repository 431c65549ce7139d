-- What is stored of a representation is what the tables say, and what is current is kept.
use Rattle.std.{proofs.{lemmas.Bool.Decides.{nat_tests}, Common.{arith, ◌≡◌, ℕ, List, Bool, true, false, Option, Some, None, refl, ap, sym, ◌∙◌, subst}}, specs.Prelude.{is_some, option_map, ◌↔◌, IsTrue}}
use Rattle.hc_text.proofs.Basics.{false_true, same_test, some_inj as some_is}
use Rattle.hc_effects.proofs.Vocabulary.{Limits, current, covers, Lawful, Tables, Representation}
use Rattle.hc_store.specs.declared.backend.Backend.{Ghosts}
use Rattle.hc_sparse.specs.Cells.{EndsBy, Covers}
use Rattle.hc_stored.specs.{declared.view.EntryView.{EntryView}, Entries.{shelf_of}, Kept.{Kept}, Shelf.{is_kept}, Views.{view_of}}
use Rattle.hc_effects.proofs.{KeysKeep.{current_row}, PollKeeps.{current_stays}, Tests.{none_some}, HoleLemmas.{covers_all, covers_yes}}
use Rattle.hc_state.specs.{declared.rows.Rows.{Rows}, Stands.{RowsStand}, Stored.{IsEntry, KeepsEntry, KnowsLength, reported, unreported}}

-- WHAT IS STORED

module _ (t : Tables) (law : Lawful t) (q : ℕ) (p : Representation) (here : t.representation q ≡ Some p) where
  -- nothing is stored from its reach on, until it is lost
  pub stored_ends : p.is_lost ≡ false → EndsBy p.reach p.stored
  stored_ends kept n le = let rep = law.sound.rows q p here in rep.store.all_stored kept n ∙ rep.store.ends n le

  -- what isn't gone isn't lost
  pub stays_stored : p.is_gone ≡ false → p.is_lost ≡ false
  stays_stored stays = grind (arith, nat_tests)

-- a length is told, until it is gone
pub total_reported : (t : Tables) (q : ℕ) (e : Kept) (p : Representation) → IsEntry t q e p → p.is_gone ≡ false → e.head.total ≡ p.head.total
total_reported t q e p is stays = grind (arith, nat_tests)

-- what the store covers is covered
pub covers_as : (t : Tables) (q : ℕ) (e : Kept) (p : Representation) → IsEntry t q e p → EndsBy p.reach p.stored → (b : Bool) (lo hi : ℕ) →
    (IsTrue b ↔ Covers e.cells lo hi) → b ≡ covers p.stored p.reach lo hi
covers_as t q e p is ends b lo hi reports = same_test b (covers p.stored p.reach lo hi)
    (λ on. covers_yes p.stored p.reach lo hi ends (λ n low up. ap (λ z. is_some z) (sym (is.cells n)) ∙ reports.0 on n low up))
    (λ on. reports.1 (λ n low up. ap (λ z. is_some z) (is.cells n) ∙ covers_all p.stored p.reach lo hi on n low up))

module _ {B : Type 0} {g : Ghosts B} {limits : Limits} (r : Rows B g) (t : Tables) (stands : RowsStand limits r t) where
  -- what is kept is an entry
  pub kept_entry : (q : ℕ) (p : Representation) → t.representation q ≡ Some p → is_kept (shelf_of r.entries) q ≡ true → (e : Kept) ×
      ((shelf_of r.entries).kept q ≡ Some e) × IsEntry t q e p
  kept_entry q p here kept = by_kept ((shelf_of r.entries).kept q) refl kept (subst (KeepsEntry t q ((shelf_of r.entries).kept q)) here (stands.entries.each q))
    where
      by_kept : (o : Option Kept) → (shelf_of r.entries).kept q ≡ o → is_some o ≡ true → KeepsEntry t q o (Some p) → (e : Kept) ×
          ((shelf_of r.entries).kept q ≡ Some e) × IsEntry t q e p
      by_kept None at on each = false_true on
      by_kept (Some e) at on each = (e, at, each)

  -- what isn't gone is kept
  pub stays_kept : (q : ℕ) (p : Representation) → t.representation q ≡ Some p → p.is_gone ≡ false → (e : Kept) × ((shelf_of r.entries).kept q ≡ Some e) ×
      IsEntry t q e p
  stays_kept q p here stays = by_kept ((shelf_of r.entries).kept q) refl (subst (KeepsEntry t q ((shelf_of r.entries).kept q)) here (stands.entries.each q))
    where
      by_kept : (o : Option Kept) → (shelf_of r.entries).kept q ≡ o → KeepsEntry t q o (Some p) → (e : Kept) × ((shelf_of r.entries).kept q ≡ Some e) ×
          IsEntry t q e p
      by_kept None at each = false_true (sym stays ∙ each.gone)
      by_kept (Some e) at each = (e, at, each)

  -- what is current for a key, as the tables have it and as it is kept
  pub record IsNow (key : List ℕ) (q : ℕ) : Type 0 where
    pub p : Representation
    pub row : t.representation q ≡ Some p
    pub key_is : p.key ≡ key
    pub stays : p.is_gone ≡ false
    pub e : Kept
    pub kept : (shelf_of r.entries).kept q ≡ Some e
    pub is : IsEntry t q e p

  pub now_kept : (key : List ℕ) (q : ℕ) → current t key ≡ Some q → IsNow key q
  now_kept key q at =
      let there = current_row t q key at in
      let stays = current_stays t key q there.0 at there.1 in
      let kept = stays_kept q there.0 there.1 stays in
      record { p = there.0; row = there.1; key_is = there.2; stays = stays; e = kept.0; kept = kept.1; is = kept.2 }

-- WHAT IS TOLD OF IT

pub viewed_entry : (o : Option Kept) (view : EntryView) → option_map view_of o ≡ Some view → (e : Kept) × (o ≡ Some e) × (view_of e ≡ view)
viewed_entry None view is = none_some view is
viewed_entry (Some e) view is = (e, refl, some_is (view_of e) view is)

module _ {B : Type 0} {g : Ghosts B} {limits : Limits} (r : Rows B g) (t : Tables) (stands : RowsStand limits r t) (q : ℕ) (e : Kept)
    (kept : (shelf_of r.entries).kept q ≡ Some e) where
  -- it has a row
  pub entry_row : (p : Representation) × (t.representation q ≡ Some p) × IsEntry t q e p
  entry_row = by_row (t.representation q) refl (subst (λ (o : Option Kept). KeepsEntry t q o (t.representation q)) kept (stands.entries.each q))
    where
      by_row : (o : Option Representation) → t.representation q ≡ o → KeepsEntry t q (Some e) o → (p : Representation) × (t.representation q ≡ Some p) ×
          IsEntry t q e p
      by_row None at each = absurd each
      by_row (Some p) at each = (p, at, each)

  pub entry_at : (p : Representation) → t.representation q ≡ Some p → IsEntry t q e p
  entry_at p here = subst (λ (o : Option Representation). KeepsEntry t q (Some e) o) here
      (subst (λ (o : Option Kept). KeepsEntry t q o (t.representation q)) kept (stands.entries.each q))
