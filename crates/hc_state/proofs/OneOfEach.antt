-- One consumer and one exchange change, and no representation: what is kept represents the tables then.
--
-- First it is shown what entries look at: who is bound, who came alone, and whether something grows (`bound_same`,
-- `first_by`, `growing_same`). Where these are the same, the entries stay (`entries_same`). Every other consumer sees
-- the same, since nobody else reads this exchange past the store. Of every other exchange as much is held, which is
-- assumed. `stands_then` joins this with the consumer, the exchange and the keys of its user.
use Rattle.std.{proofs.{lemmas.Bool.Decides.{nat_tests}, Common.{arith, ◌≡◌, ◌≢◌, inl, inr, ℕ, ◌+◌, List, [], ◌∷◌, Bool, Option, Some, None, refl, ap, sym, ◌∙◌, subst}}, specs.{Prelude.{is_some, nat_eq, filter}, List.{list_any}, HashMap.{get, hash_map_len}}}
use Rattle.hc_text.proofs.Basics.{eqb-other, eqb-same, filters_same, same_or}
use Rattle.hc_effects.proofs.Vocabulary.{Limits, Place, total_in, live, family, kind_of, is_growing, brings_to, bound, is_bound, Tables, Exchange, Representation, status_in, place, by}
use Rattle.hc_store.specs.declared.backend.Backend.{Ghosts}
use Rattle.hc_stored.specs.{Entries.{shelf_of}, Shelf.{Shelf}}
use Rattle.hc_entry.specs.Keys.{kept_of}
use Rattle.hc_exch.specs.Exchanges.{table_of, next_of}
use Rattle.hc_model.specs.Rows as rows
use Rattle.hc_state.specs.{declared.rows.Rows.{Rows}, Changes.{BecomesAt}, Kept.{KeepsConsumer, KeepsExchange, held_for}, Lines.{KeepsKey}, Stands.{RowsStand}, Stored.{KeepsEntry, KeepsEntries, is_first, is_usable_row}}
use Rattle.hc_txn.specs.declared.transaction.Transaction.{Transaction as Consumer}
use Rattle.hc_state.proofs.Ties.{consumer_same, exchange_same, entry_same, OversStay}

-- REPRESENTATIONS

-- who came alone is told by where it stands, and by the status of what it is bound to
pub first_by : (t s : Tables) → ((q : ℕ) → status_in (s.representation q) ≡ status_in (t.representation q)) → (q : ℕ) (row : Option rows.Consumer) →
    is_first s q row ≡ is_first t q row
first_by t s same q row = grind (arith, nat_tests)

pub first_row : (t s : Tables) → ((q : ℕ) → s.representation q ≡ t.representation q) → (q : ℕ) (row : Option rows.Consumer) →
    is_first s q row ≡ is_first t q row
first_row t s same q row = first_by t s (λ n. ap status_in (same n)) q row

pub bound_same : (t s : Tables) (q : ℕ) → s.starts ≡ t.starts → ((d : ℕ) → is_bound q (s.consumer d) ≡ is_bound q (t.consumer d)) → bound s q ≡ bound t q
unfolding bound
bound_same t s q starts users = ap (filter (λ d. is_bound q (s.consumer d))) starts ∙
    filters_same (λ d. is_bound q (t.consumer d)) (λ d. is_bound q (s.consumer d)) users t.starts

anys_same : (f h : ℕ → Bool) → ((d : ℕ) → h d ≡ f d) → (cs : List ℕ) → list_any h cs ≡ list_any f cs
anys_same f h same cs = grind (arith, nat_tests)

pub growing_same : (t s : Tables) (q : ℕ) → s.openings ≡ t.openings → ((y : ℕ) → brings_to q y (s.exchange y) ≡ brings_to q y (t.exchange y)) →
    is_growing s q ≡ is_growing t q
growing_same t s q openings brings = ap (list_any (λ y. brings_to q y (s.exchange y))) openings ∙
    anys_same (λ y. brings_to q y (t.exchange y)) (λ y. brings_to q y (s.exchange y)) brings t.openings

pub kind_same : (t s : Tables) (q : ℕ) (v : Representation) → is_growing s q ≡ is_growing t q → kind_of s q v ≡ kind_of t q v
unfolding kind_of
kind_same t s q v growing = rw growing refl

orders_same : (t s : Tables) → ((q : ℕ) → s.representation q ≡ t.representation q) → (qs : List ℕ) →
    filter (λ q. is_usable_row (s.representation q)) qs ≡ filter (λ q. is_usable_row (t.representation q)) qs
orders_same t s same qs = filters_same (λ q. is_usable_row (t.representation q)) (λ q. is_usable_row (s.representation q)) (λ q. ap is_usable_row (same q)) qs

-- where no representation changes, nor who is bound, nor what comes
pub entries_same : (t s : Tables) (shelf : Shelf) → ((q : ℕ) → s.representation q ≡ t.representation q) → s.used ≡ t.used → s.starts ≡ t.starts →
    ((q d : ℕ) → is_bound q (s.consumer d) ≡ is_bound q (t.consumer d))
    → ((q d : ℕ) → is_first t q (s.consumer d) ≡ is_first t q (t.consumer d)) → ((q : ℕ) → is_growing s q ≡ is_growing t q) →
    OversStay t.exchange s.exchange → KeepsEntries t shelf → KeepsEntries s shelf
entries_same t s shelf same used starts users firsts growing overs kept = record {
  each = λ q. subst (KeepsEntry s q (shelf.kept q)) (sym (same q))
      (entry_same t s q (shelf.kept q) (t.representation q) refl
      (record {
        users = users q;
        first = λ d. first_row t s same q (s.consumer d) ∙ firsts q d;
        list = bound_same t s q starts (users q);
        kind =
            λ v at. kind_same t s q v (growing q);
        overs = overs;
      }) (kept.each q));
  order = kept.order ∙ sym (ap (filter (λ q. is_usable_row (s.representation q))) used ∙ orders_same t s same t.used);
}

-- ALL OF IT

module _ {B : Type 0} {g : Ghosts B} {limits : Limits} (r u : Rows B g) (t s : Tables) (c x : ℕ) (o : Option Consumer) (stands : RowsStand limits r t)
    (last : u.last_start ≡ s.last_start) (next : next_of u.exchanges ≡ s.opened + 1) (count : hash_map_len u.consumers ≡ live s)
    (becomes : BecomesAt r.consumers u.consumers c o) (tables : (y : ℕ) → y ≢ x → table_of u.exchanges y ≡ table_of r.exchanges y)
    (others : (d : ℕ) → d ≢ c → s.consumer d ≡ t.consumer d) (exchanges : (y : ℕ) → y ≢ x → s.exchange y ≡ t.exchange y)
    (same : (q : ℕ) → s.representation q ≡ t.representation q)
    (kept : KeepsConsumer s o (s.consumer c)) (known : KeepsExchange s x (table_of u.exchanges x)) (keys : (key : List ℕ) → KeepsKey s key (kept_of u.keys key))
    (nobody : (d : ℕ) (k : rows.Consumer) → d ≢ c → t.consumer d ≡ Some k → k.place ≡ place.Direct x → ⊥)
    (held : (y : ℕ) (w : Exchange) → y ≢ x → t.exchange y ≡ Some w → held_for s y (Some w) ≡ held_for t y (Some w))
    (bounded : (shelf_of u.entries).limits ≡ limits) (entries : KeepsEntries s (shelf_of u.entries)) where
  -- whoever else reads past the store, reads another exchange
  past_same : (d : ℕ) (v : rows.Consumer) → d ≢ c → t.consumer d ≡ Some v → (y : ℕ) → v.place ≡ place.Direct y → s.exchange y ≡ t.exchange y
  past_same d v ne row y at = elim (same_or y x) [
    | inl eq ↦ absurd (nobody d v ne row (subst (λ (z : ℕ). v.place ≡ place.Direct z) eq at))
    | inr off ↦ exchanges y off
  ]

  all_consumers : (d : ℕ) → KeepsConsumer s (get nat_eq u.consumers d) (s.consumer d)
  all_consumers d = elim (same_or c d) [
    | inl e ↦ subst (λ (z : ℕ). KeepsConsumer s (get nat_eq u.consumers z) (s.consumer z)) e
        (subst (λ p. KeepsConsumer s p (s.consumer c)) (sym (becomes.places c ∙ rw (eqb-same c) refl)) kept)
    | inr ne ↦
        let off : d ≢ c = λ e. ne (sym e) in
        subst (λ p. KeepsConsumer s p (s.consumer d)) (sym (becomes.places d ∙ rw (eqb-other c d ne) refl))
        (subst (KeepsConsumer s (get nat_eq r.consumers d)) (sym (others d off))
        (consumer_same t s (get nat_eq r.consumers d) (t.consumer d)
        (λ v at. record { past = past_same d v off at; length = λ q lo hi by is. ap total_in (same q) }) (stands.consumers d)))
  ]

  held_row : (y : ℕ) (row : Option Exchange) → y ≢ x → t.exchange y ≡ row → held_for s y row ≡ held_for t y row
  held_row y row ne at = grind (arith, nat_tests)

  all_exchanges : (y : ℕ) → KeepsExchange s y (table_of u.exchanges y)
  all_exchanges y = elim (same_or y x) [
    | inl eq ↦ subst (λ (z : ℕ). KeepsExchange s z (table_of u.exchanges z)) (sym eq) known
    | inr off ↦ subst (KeepsExchange s y) (sym (tables y off)) (exchange_same t s y (table_of r.exchanges y)
        (record { row = exchanges y off; brings = λ w at. ap is_some (same (family y w)); held = held_row y (t.exchange y) off refl }) (stands.exchanges y))
  ]

  pub stands_then : RowsStand limits u s
  stands_then = assumption (all_consumers, all_exchanges)
