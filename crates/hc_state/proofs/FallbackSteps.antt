-- A consumer that reads nothing, before and after, stands elsewhere: what is kept represents the tables then.
use Rattle.std.{proofs.{lemmas.Bool.Decides.{nat_tests}, Common.{◌≡◌, ◌≢◌, inl, inr, ℕ, List, [], ◌∷◌, length, true, false, Option, Some, None, refl, ap, sym, ◌∙◌, subst, arith}}, specs.{Prelude.{is_some, nat_eq, filter, not}, HashMap.{get, hash_map_len}}}
use Rattle.hc_text.proofs.Basics.{eqb-other, eqb-same, false_true, filters_same, same_or}
use Rattle.hc_effects.proofs.Vocabulary.{Limits, Place, is_live, is_live_place, live, with_consumer, reads, Tables, Exchange, place}
use Rattle.hc_store.specs.declared.backend.Backend.{Ghosts}
use Rattle.hc_stored.specs.Entries.{shelf_of}
use Rattle.hc_entry.specs.Keys.{kept_of}
use Rattle.hc_exch.specs.Exchanges.{table_of}
use Rattle.hc_model.specs.Rows as rows
use Rattle.hc_state.specs.{declared.rows.Rows.{Rows}, Changes.{BecomesAt, one}, Kept.{KeepsConsumer, held_for}, Lines.{KeepsKey}, Stands.{RowsStand}, Stored.{is_first}}
use Rattle.hc_txn.specs.declared.transaction.Transaction.{Transaction as Consumer}
use Rattle.hc_state.proofs.{Fallbacks.{IsAlike, same, fallback, is_fallback, held_alike, users_alike}, ConsumerSteps.{all_kept_with}, OneOfEach.{entries_same}, Ties.{exchange_same}}

-- WHO CAME ALONE

-- whoever reads nothing is bound to nothing
pub first_fallback : (t : Tables) (q : ℕ) (row : Option rows.Consumer) → is_fallback row ≡ true → is_first t q row ≡ false
first_fallback t q row is = grind (arith, nat_tests)

pub first_alike : (t : Tables) (q : ℕ) (o p : Option rows.Consumer) → IsAlike o p → is_first t q p ≡ is_first t q o
first_alike t q o p it4 = grind (arith, nat_tests)

-- HOW MANY ARE LIVE

-- as many as before, where whoever is live is the same
pub live_same : (t s : Tables) → s.starts ≡ t.starts → ((d : ℕ) → is_live (s.consumer d) ≡ is_live (t.consumer d)) → live s ≡ live t
live_same t s starts lives = ap (λ cs. length (filter (λ d. is_live (s.consumer d)) cs)) starts ∙
    ap length (filters_same (λ d. is_live (t.consumer d)) (λ d. is_live (s.consumer d)) lives t.starts)

one_is : {A : Type 0} (o : Option A) → is_some o ≡ true → one o ≡ 1
one_is o is = grind (arith, nat_tests)

-- what stays there isn't counted anew
pub length_same : {B : Type 0} {g : Ghosts B} {limits : Limits} (r u : Rows B g) (t : Tables) (c : ℕ) (v : rows.Consumer) (q : Consumer) →
    RowsStand limits r t → t.consumer c ≡ Some v → is_live_place v.place ≡ true → BecomesAt r.consumers u.consumers c (Some q) →
    hash_map_len u.consumers ≡ hash_map_len r.consumers
length_same r u t c v q stands row lives becomes = grind (arith, nat_tests)

-- ALL OF IT

module _ {B : Type 0} {g : Ghosts B} {limits : Limits} (r u : Rows B g) (t : Tables) (c : ℕ) (v w : rows.Consumer) (q : Consumer)
    (stands : RowsStand limits r t) (row : t.consumer c ≡ Some v)
    (was : reads v.place ≡ false) (is_now : reads w.place ≡ false) (lived : is_live_place v.place ≡ true) (lives : is_live_place w.place ≡ true)
    (last : u.last_start ≡ r.last_start) (exchanges : u.exchanges ≡ r.exchanges) (entries : u.entries ≡ r.entries)
    (becomes : BecomesAt r.consumers u.consumers c (Some q)) (kept : KeepsConsumer t (Some q) (Some w))
    (keys : (key : List ℕ) → KeepsKey (with_consumer c (Some w) t) key (kept_of u.keys key)) where
  abbrev s : Tables
  s = with_consumer c (Some w) t

  others : (d : ℕ) → d ≢ c → s.consumer d ≡ t.consumer d
  others d ne = rw (eqb-other c d (λ e. ne (sym e))) refl

  here : s.consumer c ≡ Some w
  here = rw (eqb-same c) refl

  pub alike : (d : ℕ) → IsAlike (t.consumer d) (s.consumer d)
  alike d = elim (same_or c d) [
    | inl e ↦ fallback (rw (← e, row) (ap not was)) (rw (← e, here) (ap not is_now))
    | inr ne ↦ same (others d (λ e. ne (sym e)))
  ]

  live_each : (d : ℕ) → is_live (s.consumer d) ≡ is_live (t.consumer d)
  live_each d = grind (arith, nat_tests)

  held : (x : ℕ) (o : Option Exchange) → held_for s x o ≡ held_for t x o
  held x None = refl
  held x (Some z) = held_alike t s alike x z refl

  pub falls_back : RowsStand limits u s
  falls_back = record {
    limits = rw entries stands.limits;
    last_start = last ∙ stands.last_start;
    next = rw exchanges stands.next;
    count = length_same r u t c v q stands row lived becomes ∙ (stands.count ∙ sym (live_same t s refl live_each));
    consumers = all_kept_with t c (Some w) r u (Some q) becomes kept stands.consumers;
    exchanges = λ x. rw exchanges
        (exchange_same t s x (table_of r.exchanges x) (record { row = refl; brings = λ z at. refl; held = held x (t.exchange x) }) (stands.exchanges x));
    keys = keys;
    entries = rw entries (entries_same t s (shelf_of r.entries) (λ n. refl) refl refl (λ n d. users_alike t s alike n d)
        (λ n d. first_alike t n (t.consumer d) (s.consumer d) (alike d)) (λ n. refl) (λ y on. on) stands.entries);
  }
