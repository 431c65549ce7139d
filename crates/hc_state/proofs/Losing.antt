-- A representation is lost: what is kept represents the tables in which it is.
--
-- Of its row only changes that it is lost, and who goes on alone. What looks at neither is told as before
-- (`reported_same`): so are consumers, keys and other entries. What is held has the work. Nobody went on alone before, and
-- nothing is held for the one who does now (`held_lost`), as the user of this file proves. `stands_lost` joins this for
-- `lose_to`; by `may_lost` it may be let go then.
use Rattle.std.{proofs.{Common.{◌≡◌, ◌≢◌, inl, inr, ℕ, List, true, Option, Some, None, refl, ap, sym, ◌∙◌, subst, false, arith}, lemmas.Bool.Decides.{nat_tests}}, specs.{Prelude.{is_some, nat_eq, option_map}, HashMap.{get, hash_map_len}}}
use Rattle.hc_text.proofs.Basics.{eqb-other, eqb-same, false_true, filters_same, finds_same, same_or, same_some as same_row}
use Rattle.hc_effects.proofs.Vocabulary.{Limits, Place, current, is_usable, total_in, with_representation, lost_to, family, kind_of, MayLetGo, bound, Tables, Exchange, Representation, status_in, place, by}
use Rattle.hc_store.specs.declared.backend.Backend.{Ghosts}
use Rattle.hc_stored.specs.{Entries.{shelf_of}, Kept.{Kept, kept_as_lost}, Shelf.{Shelf, same_order}}
use Rattle.hc_stored.specs.Shelf as shelf
use Rattle.hc_entry.specs.Keys.{kept_of}
use Rattle.hc_exch.specs.Exchanges.{table_of, next_of}
use Rattle.hc_model.specs.Rows as rows
use Rattle.hc_state.specs.{declared.rows.Rows.{Rows}, Kept.{held_for, held_of, held_alone, unstored_bytes}, Stands.{RowsStand}, Stopped.{HoldsNothing}, Stored.{IsEntry, KnowsLength, reported, unreported, KeepsEntry, KeepsEntries, is_first, is_usable_row}}
use Rattle.hc_state.proofs.{Fallbacks.{unstored_moved}, Ties.{consumer_same, exchange_same, key_same, entry_same}}

module _ (t : Tables) (r : ℕ) (v : Representation) (alone : Option ℕ) (row : t.representation r ≡ Some v) where
  abbrev pub s : Tables
  s = with_representation r (Some (lost_to alone v)) t

  -- what it was, with its key
  record Was (q : ℕ) (u : Representation) : Type 0 where
    old : Representation
    was : t.representation q ≡ Some old
    key_is : u.key ≡ old.key
    gone_is : u.is_gone ≡ old.is_gone

  here : s.representation r ≡ Some (lost_to alone v)
  here = rw (eqb-same r) refl

  others : (q : ℕ) → r ≢ q → s.representation q ≡ t.representation q
  others q ne = rw (eqb-other r q ne) refl

  -- what a loss leaves is told as before
  reported_same : {A : Type 0} (f : Option Representation → A) → f (Some (lost_to alone v)) ≡ f (Some v) → (q : ℕ) →
      f (s.representation q) ≡ f (t.representation q)
  reported_same f leaves q = grind (arith, nat_tests)

  first_same : (q : ℕ) (o : Option rows.Consumer) → is_first s q o ≡ is_first t q o
  first_same q o = grind (arith, nat_tests)

  -- WHAT IS HELD

  alone_moved : (y : ℕ) (w : Exchange) (u : Representation) (o : Option ℕ) → held_alone s y w u o ≡ held_alone t y w u o
  alone_moved y w u o = grind (arith, nat_tests)

  held_lost : v.alone ≡ None → HoldsNothing t r v alone → (y : ℕ) (o : Option Exchange) → t.exchange y ≡ o → held_for s y o ≡ held_for t y o
  held_lost nobody nothing y None ex = refl
  held_lost nobody nothing y (Some w) ex = grind (arith, nat_tests)

  -- KEYS

  current_same : (key : List ℕ) → current s key ≡ current t key
  unfolding current
  current_same key = finds_same (λ q. is_usable key (t.representation q)) (λ q. is_usable key (s.representation q)) (reported_same (is_usable key) refl)
      t.founded

  -- WHAT MAY BE LET GO

  row_as : (q : ℕ) (u : Representation) → s.representation q ≡ Some u → Was q u
  row_as q u is = elim (same_or r q) [
    | inl e ↦
        let mine : u ≡ lost_to alone v = same_row (s.representation r) u (lost_to alone v) (ap s.representation e ∙ is) here in
        record {
          old = v;
          was = sym (ap t.representation e) ∙ row;
          key_is = ap (λ (z : Representation). z.key) mine;
          gone_is =
              ap (λ (z : Representation). z.is_gone) mine;
        }
    | inr ne ↦ record { old = u; was = sym (others q ne) ∙ is; key_is = refl; gone_is = refl }
  ]

  -- whoever waits for a body still does, and of each key no more is current
  pub may_lost : MayLetGo t → MayLetGo s
  may_lost may = record {
    one_current = λ q n u z is_u is_z u_stays z_stays keys_same.
        let a = row_as q u is_u in
        let b = row_as n z is_z in
        may.one_current q n a.old b.old a.was b.was (sym a.gone_is ∙ u_stays) (sym b.gone_is ∙ z_stays) (sym a.key_is ∙ (keys_same ∙ b.key_is));
    founded = λ q some. may.founded q (sym (reported_same (λ o. is_some o) refl q) ∙ some);
    started = may.started;
    waits = λ d q kept u is at.
        let w = may.waits d q kept u is at in
        elim (same_or r q) [
          | inl e ↦
              let one : w.v ≡ v = same_row (t.representation r) w.v v (ap t.representation e ∙ w.row) row in
              record {
                v = lost_to alone v;
                row = sym (ap s.representation e) ∙ here;
                key_is = ap (λ (z : Representation). z.key) (sym one) ∙ w.key_is;
                not_gone = ap (λ (z : Representation). z.is_gone) (sym one) ∙ w.not_gone;
                queues = w.queues;
              }
          | inr ne ↦ record { v = w.v; row = others q ne ∙ w.row; key_is = w.key_is; not_gone = w.not_gone; queues = w.queues }
        ];
  }

  -- REPRESENTATIONS

  entry_lost : (e : Kept) → IsEntry t r e v → IsEntry s r (kept_as_lost alone e) (lost_to alone v)
  unfolding bound kind_of
  entry_lost e is =
      let reach : true ≡ false → (kept_as_lost alone e).reach ≡ v.reach = λ off. false_true (sym off) in
      assumption (is, by_length is.length, reach, (λ (c : ℕ). is.first c ∙ sym (first_same r (t.consumer c))))
    where
      by_length : KnowsLength e v → KnowsLength (kept_as_lost alone e) (lost_to alone v)
      by_length (reported same) = reported same
      by_length (unreported u) =
          unreported (record { gone = u.gone; unreported = u.unreported; total = u.total; known = u.known; came = u.came; first = u.first })

  entries_lost : (a b : Shelf) → KeepsEntries t a → shelf.Becomes (option_map (kept_as_lost alone)) same_order r a b → shelf.is_kept a r ≡ true →
      KeepsEntries s b
  unfolding bound kind_of
  entries_lost a b kept becomes there = record {
    each = λ q. elim (same_or r q) [
      | inl e ↦ subst (λ n. KeepsEntry s n (b.kept n) (s.representation n)) e (by_kept (a.kept r) refl)
      | inr ne ↦ rw (becomes.kept q, eqb-other r q ne)
          (entry_same t s q (a.kept q) (t.representation q) refl
          (record { users = λ d. refl; first = λ d. first_same q (t.consumer d); list = refl; kind = λ p at. refl; overs = λ y on. on }) (kept.each q))
    ];
    order = becomes.order ∙ (kept.order ∙
        sym (filters_same (λ q. is_usable_row (t.representation q)) (λ q. is_usable_row (s.representation q)) (reported_same is_usable_row refl) t.used));
  }
    where
      by_kept : (k : Option Kept) → a.kept r ≡ k → KeepsEntry s r (b.kept r) (s.representation r)
      by_kept None at = false_true (sym (ap (λ z. is_some z) at) ∙ there)
      by_kept (Some e) at =
          let is : IsEntry t r e v = subst (λ k. KeepsEntry t r k (Some v)) at (subst (KeepsEntry t r (a.kept r)) row (kept.each r)) in
          let after : b.kept r ≡ Some (kept_as_lost alone e) = becomes.kept r ∙ rw (eqb-same r, at) refl in
          subst (λ k. KeepsEntry s r k (s.representation r)) (sym after) (subst (KeepsEntry s r (Some (kept_as_lost alone e))) (sym here) (entry_lost e is))

-- ALL OF IT

pub stands_lost : {B : Type 0} {g : Ghosts B} {limits : Limits} (r u : Rows B g) (t : Tables) (q : ℕ) (v : Representation) (alone : Option ℕ)
    (row : t.representation q ≡ Some v) → RowsStand limits r t → v.alone ≡ None → HoldsNothing t q v alone
    → u.last_start ≡ r.last_start → u.consumers ≡ r.consumers → u.keys ≡ r.keys → u.exchanges ≡ r.exchanges
    → shelf.Becomes (option_map (kept_as_lost alone)) same_order q (shelf_of r.entries) (shelf_of u.entries) →
    shelf.is_kept (shelf_of r.entries) q ≡ true → RowsStand limits u (with_representation q (Some (lost_to alone v)) t)
stands_lost r u t q v alone row stands nobody nothing last consumers keys exchanges becomes there =
    let z : Tables = with_representation q (Some (lost_to alone v)) t in
    record {
      limits = becomes.limits ∙ stands.limits;
      last_start = last ∙ stands.last_start;
      next = ap (λ z. next_of z) exchanges ∙ stands.next;
      count = ap (λ z. hash_map_len z) consumers ∙ stands.count;
      consumers = λ d. rw consumers
          (consumer_same t z (get nat_eq r.consumers d) (t.consumer d)
          (λ k at. record { past = λ x is. refl; length = λ n lo hi how is. reported_same t q v alone row total_in refl n }) (stands.consumers d));
      exchanges = λ y. rw exchanges
          (exchange_same t z y (table_of r.exchanges y)
          (record {
            row = refl;
            brings = λ w at. reported_same t q v alone row (λ o. is_some o) refl (family y w);
            held =
                held_lost t q v alone row nobody nothing y (t.exchange y) refl;
          }) (stands.exchanges y));
      keys = λ key. rw keys (key_same t z key (kept_of r.keys key)
          (record { current = current_same t q v alone row key; in_line = λ d. refl; passed = λ d. refl; away = λ d. refl; turn = λ d. refl }) (stands.keys key));
      entries = entries_lost t q v alone row (shelf_of r.entries) (shelf_of u.entries) stands.entries becomes there;
    }
