-- What is kept represents the tables after a denied event, and at the beginning.
use Rattle.std.{proofs.Common.{◌≡◌, ℕ, ◌+◌, List, [], None, refl, ap}, specs.{Prelude.{nat_eq}, HashMap.{get, hash_map_len}}}
use Rattle.hc_store.specs.declared.backend.Backend.{Ghosts}
use Rattle.hc_stored.specs.Entries.{shelf_of}
use Rattle.hc_entry.specs.{Keys.{kept_of}, Kept.{nothing}}
use Rattle.hc_exch.specs.{Exchanges.{table_of, next_of}, Known.{unknown}}
use Rattle.hc_effects.proofs.Vocabulary.{current, Entry, no_contents, Tables, first_tables, after_denied, received_in}
use Rattle.hc_state.specs.{declared.rows.Rows.{Rows}, Stands.{RowsStand}}
use Rattle.hc_state.proofs.Counting.{stands_recounted}

pub stands_denied : {B : Type 0} {g : Ghosts B} (r : Rows B g) (t : Tables) (e : Entry) → RowsStand (shelf_of r.entries).limits r t →
    RowsStand (shelf_of r.entries).limits r (after_denied t e)
stands_denied r t e stands =
    stands_recounted r r t e.now (t.entries + 1) (t.received + received_in e.event) refl refl refl refl refl stands

-- AT THE BEGINNING

pub stands_begun : {B : Type 0} {g : Ghosts B} (r : Rows B g) → r.last_start ≡ 0 → next_of r.exchanges ≡ 1 → hash_map_len r.consumers ≡ 0 →
    ((c : ℕ) → get nat_eq r.consumers c ≡ None) → ((x : ℕ) → table_of r.exchanges x ≡ unknown) → ((key : List ℕ) → kept_of r.keys key ≡ nothing) →
    ((q : ℕ) → (shelf_of r.entries).kept q ≡ None) → (shelf_of r.entries).order ≡ [] → RowsStand (shelf_of r.entries).limits r (first_tables no_contents)
unfolding current
stands_begun r last next count none unopened unawaited unkept order = record {
  limits = refl;
  entries = record { each = λ q. rw (unkept q) tt; order = order };
  last_start = last;
  next = next;
  count = count;
  consumers = λ c. rw (none c) refl;
  exchanges = λ x. record { running = rw (unopened x) refl; held = ap (λ z. z.held) (unopened x) };
  keys = λ key. rw (unawaited key) (record { current = refl; in_line = λ c. refl; passed = λ c. refl; away = λ c. refl; holder = λ c. refl });
}
