-- Where only the counts of the tables change, what is kept represents them as before.
use Rattle.std.{proofs.Common.{◌≡◌, ℕ, ◌+◌, refl, ◌∙◌}, specs.{Prelude.{nat_eq}, HashMap.{get}}}
use Rattle.hc_effects.proofs.Vocabulary.{Limits, current, kind_of, bound, Event, with_event, Tables, received_in}
use Rattle.hc_store.specs.declared.backend.Backend.{Ghosts}
use Rattle.hc_stored.specs.Entries.{shelf_of}
use Rattle.hc_entry.specs.Keys.{kept_of}
use Rattle.hc_exch.specs.Exchanges.{table_of}
use Rattle.hc_state.specs.{declared.rows.Rows.{Rows}, Stands.{RowsStand}}
use Rattle.hc_state.proofs.Ties.{consumer_same, key_same, entry_same, exchange_same}

-- the same tables, with other counts
abbrev pub recounted : ℕ → ℕ → ℕ → Tables → Tables
recounted moment entries received t = record t { moment = moment; entries = entries; received = received }

pub stands_recounted : {B : Type 0} {g : Ghosts B} {limits : Limits} (r u : Rows B g) (t : Tables) (moment entries received : ℕ) → u.last_start ≡ r.last_start
    → u.consumers ≡ r.consumers → u.exchanges ≡ r.exchanges → u.keys ≡ r.keys → u.entries ≡ r.entries → RowsStand limits r t →
    RowsStand limits u (recounted moment entries received t)
unfolding current bound kind_of
stands_recounted r u t moment entries received last consumers exchanges same_keys same_entries stands =
    let s : Tables = recounted moment entries received t in
    record {
      limits = rw same_entries stands.limits;
      last_start = last ∙ stands.last_start;
      next = rw exchanges stands.next;
      count = rw consumers stands.count;
      consumers = λ c. rw consumers
          (consumer_same t s (get nat_eq r.consumers c) (t.consumer c) (λ v is. record { past = λ x at. refl; length = λ q lo hi by at. refl })
          (stands.consumers c));
      exchanges = λ x. rw exchanges
          (exchange_same t s x (table_of r.exchanges x) (record { row = refl; brings = λ w is. refl; held = refl }) (stands.exchanges x));
      keys = λ key. rw same_keys
          (key_same t s key (kept_of r.keys key) (record { current = refl; in_line = λ c. refl; passed = λ c. refl; away = λ c. refl; turn = λ c. refl })
          (stands.keys key));
      entries = rw same_entries (record {
        each = λ q. entry_same t s q ((shelf_of r.entries).kept q) (t.representation q) refl
            (record { users = λ c. refl; first = λ c. refl; list = refl; kind = λ v is. refl; overs = λ y on. on }) (stands.entries.each q);
        order = stands.entries.order;
      });
    }

-- an event that brings no bytes is counted
pub stands_counted : {B : Type 0} {g : Ghosts B} {limits : Limits} (u : Rows B g) (t : Tables) (now : ℕ) (event : Event) → received_in event ≡ 0 →
    RowsStand limits u t → RowsStand limits u (with_event now event t)
stands_counted u t now event none stands =
    stands_recounted u u t now (t.entries + 1) (t.received + received_in event) refl refl refl refl refl stands
