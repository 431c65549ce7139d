-- An exchange of which nothing came yet is another: keys, representations and other exchanges are kept as before.
--
-- Without bytes nothing of it is held (`held_empty`), and of every other exchange as much as before. Nobody waits for
-- its head bound by a first hole (`IsBare`), so of each key the same is said. It founded and joined nothing, before and
-- after, so it brings nothing of what is there: every entry keeps its kind (`entries_heard`). The files on heads past
-- the store, and on those that found or are refused, use these.
use Rattle.std.{proofs.{lemmas.Bool.Decides.{nat_tests}, Common.{arith, ◌≡◌, ◌≢◌, inl, inr, ℕ, zero, suc, List, [], Bool, true, false, Option, Some, None, refl, ap, sym, ◌∙◌, subst}}, specs.Prelude.{nat_eq, drop, bytes_eq, ◌&&◌}}
use Rattle.hc_text.proofs.Basics.{eqb-other, eqb-same, same_or, and_off as then_false}
use Rattle.hc_stored.specs.Shelf.{Shelf}
use Rattle.hc_entry.specs.Kept as keyed
use Rattle.hc_effects.proofs.Vocabulary.{Place, current, with_exchange, family, is_growing, brings_to, Tables, Exchange, Representation, place, by}
use Rattle.hc_effects.proofs.Tests.{none_some}
use Rattle.hc_model.specs.Rows as rows
use Rattle.hc_state.specs.{Heads.{IsBare}, Kept.{unread, held_for}, Lines.{KeepsKey, is_away, is_away_at}, Stored.{KeepsEntries}}
use Rattle.hc_state.proofs.{Fallbacks.{same, held_alike}, OneOfEach.{bound_same, first_row, growing_same, kind_same}, Ties.{key_same, entry_same, overs_open}}

abbrev none : List ℕ
none = []

pub drop_none : (n : ℕ) (bytes : List ℕ) → bytes ≡ none → drop n bytes ≡ none
drop_none n bytes empty = grind (arith, nat_tests)

-- nothing of an exchange without bytes is held past the store
pub unread_empty : (x : ℕ) (w : Exchange) (o : Option rows.Consumer) → w.body ≡ none → unread x w o ≡ none
unread_empty x w o empty = grind (arith, nat_tests, unread, none, drop_none)

-- nor of one that founded and joined nothing
pub held_empty : (t : Tables) (x : ℕ) (w : Exchange) → w.body ≡ none → w.joined ≡ None → t.representation x ≡ None → held_for t x (Some w) ≡ none
held_empty t x w empty unjoined unfounded = rw (unjoined, unfounded) (unread_empty x w (t.consumer w.c) empty)

module _ (t : Tables) (x : ℕ) (w z : Exchange) (bare : IsBare t x w) (unjoined : z.joined ≡ None) where
  abbrev pub s : Tables
  s = with_exchange x (Some z) t

  pub here : s.exchange x ≡ Some z
  here = rw (eqb-same x) refl

  pub others : (y : ℕ) → y ≢ x → s.exchange y ≡ t.exchange y
  others y ne = rw (eqb-other x y (λ e. ne (sym e))) refl

  pub held_else : (y : ℕ) (e : Exchange) → held_for s y (Some e) ≡ held_for t y (Some e)
  held_else y e = held_alike t s (λ d. same refl) y e refl

  -- KEYS

  away_same : (key : List ℕ) (d : ℕ) (o : Option rows.Consumer) → t.consumer d ≡ o → is_away s key o ≡ is_away t key o
  away_same key d o row = grind (arith, nat_tests)

  pub key_heard : (key : List ℕ) (k : keyed.Kept) → KeepsKey t key k → KeepsKey s key k
  unfolding current
  key_heard key k kept = key_same t s key k
      (record { current = refl; in_line = λ d. refl; passed = λ d. refl; away = λ d. away_same key d (t.consumer d) refl; turn = λ d. refl }) kept

  -- REPRESENTATIONS

  family_is : (e : Exchange) → e.joined ≡ None → family x e ≡ x
  family_is e none = rw none refl

  brings_none : (q : ℕ) (v : Representation) (e : Exchange) → t.representation q ≡ Some v → e.joined ≡ None → brings_to q x (Some e) ≡ false
  brings_none q v e there unjoined = grind (arith, nat_tests)

  growing_there : (q : ℕ) (v : Representation) → t.representation q ≡ Some v → is_growing s q ≡ is_growing t q
  growing_there q v there = grind (arith, nat_tests)

  pub entries_heard : (shelf : Shelf) → KeepsEntries t shelf → KeepsEntries s shelf
  entries_heard shelf kept = record {
    each = λ q. entry_same t s q (shelf.kept q) (t.representation q) refl
        (record {
          users = λ d. refl;
          first = λ d. first_row t s (λ n. refl) q (t.consumer d);
          list = bound_same t s q refl (λ d. refl);
          kind =
              λ v at. kind_same t s q v (growing_there q v at);
          overs =
              overs_open t.exchange s.exchange x w bare.row bare.is_open (λ y ne. others y (λ e. ne (sym e)));
        }) (kept.each q);
    order = kept.order;
  }
