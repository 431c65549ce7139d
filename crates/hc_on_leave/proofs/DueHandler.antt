-- A failure becomes due to a consumer: what is kept represents the tables then.
use Rattle.std.{proofs.{lemmas.Bool.Decides.{nat_tests}, Common.{arith, ◌≡◌, ◌≢◌, inl, inr, ℕ, List, Option, Some, None, refl, ap, sym, ◌∙◌}}, specs.{Prelude.{nat_eq}, Option.{option_or}, HashMap.{get}}}
use Rattle.hc_text.proofs.Basics.{eqb-other, eqb-same, same_or}
use Rattle.hc_effects.proofs.Vocabulary.{Limits, Cause, with_consumer, is_bound, Tables}
use Rattle.hc_store.specs.declared.backend.Backend.{Ghosts}
use Rattle.hc_stored.specs.Entries.{shelf_of}
use Rattle.hc_entry.specs.Keys.{kept_of}
use Rattle.hc_model.specs.Rows as rows
use Rattle.hc_state.specs.{declared.rows.Rows.{Rows}, Changes.{ChangesAt}, Kept.{IsKept}, Lines.{KeepsKey}, Stands.{RowsStand}, Stored.{is_first}}
use Rattle.hc_txn.specs.{declared.transaction.Transaction.{Transaction as Consumer}, Transactions.{with_due}}
use Rattle.hc_state.proofs.{ConsumerSteps.{key_with, key_stays}, OneOfEach.{entries_same}, QueueHandler.{becomes_by}}
use Rattle.hc_on_leave.proofs.OneConsumer.{stands_moved}

module _ {B : Type 0} {g : Ghosts B} {limits : Limits} (r u : Rows B g) (t : Tables) (c : ℕ) (v : rows.Consumer) (k : Consumer) (why : Cause)
    (stands : RowsStand limits r t) (row : t.consumer c ≡ Some v) (there : get nat_eq r.consumers c ≡ Some k) (is : IsKept t k v) (undue : v.due ≡ None)
    (last : u.last_start ≡ r.last_start) (exchanges : u.exchanges ≡ r.exchanges) (same_keys : u.keys ≡ r.keys) (same_entries : u.entries ≡ r.entries)
    (changes : ChangesAt r.consumers u.consumers c (with_due why)) where
  abbrev z : rows.Consumer
  z = record v { due = Some why }

  abbrev s : Tables
  s = with_consumer c (Some z) t

  here : s.consumer c ≡ Some z
  here = rw (eqb-same c) refl

  others : (d : ℕ) → d ≢ c → s.consumer d ≡ t.consumer d
  others d ne = rw (eqb-other c d (λ e. ne (sym e))) refl

  due_then : IsKept t (with_due why k) z
  due_then = assumption (is, ap (λ (d : Option Cause). option_or d (Some why)) (is.due ∙ undue))

  users : (q d : ℕ) → is_bound q (s.consumer d) ≡ is_bound q (t.consumer d)
  users q d = grind (arith, nat_tests)

  firsts : (q d : ℕ) → is_first t q (s.consumer d) ≡ is_first t q (t.consumer d)
  firsts q d = grind (arith, nat_tests)

  keys_then : (key : List ℕ) → KeepsKey s key (kept_of u.keys key)
  keys_then key = rw same_keys (key_with t c (Some z) key (kept_of r.keys key) (kept_of r.keys key) (stands.keys key)
      (key_stays t c (Some z) key (kept_of r.keys key) (stands.keys key)
      (record { in_line = rw row refl; passed = rw row refl; away = rw row refl; turn = rw row refl })))

  pub stands_due : RowsStand limits u s
  stands_due =
      stands_moved r u t c v z (with_due why k) stands row is.is_there is.is_there last exchanges (ap (λ e. (shelf_of e).limits) same_entries)
      (becomes_by r.consumers u.consumers c k (with_due why) there changes) due_then keys_then
      (rw same_entries (entries_same t s (shelf_of r.entries) (λ q. refl) refl refl users firsts (λ q. refl) (λ y on. on) stands.entries))
      (record { past = λ y e at. refl; lost = λ y e b at founded. refl })
