-- A consumer that reads nothing opens an exchange: what is kept represents the tables then, where what is kept by key does.
use Rattle.std.{proofs.Common.{◌≡◌, ◌≢◌, inl, inr, ℕ, ◌+◌, List, false, true, Option, Some, None, refl, ap, sym, ◌∙◌, subst, arith}, specs.{Prelude.{nat_eq}, HashMap.{get}}}
use Rattle.hc_text.proofs.Basics.{eqb-other, eqb-same, same_or}
use Rattle.hc_effects.proofs.Vocabulary.{Limits, Need, Request, route_of, Place, is_live, is_live_place, with_consumer, with_opening, just_opened, Lawful, reads, Tables, Exchange}
use Rattle.hc_store.specs.declared.backend.Backend.{Ghosts}
use Rattle.hc_stored.specs.Entries.{shelf_of}
use Rattle.hc_entry.specs.Keys.{kept_of}
use Rattle.hc_exch.specs.{declared.role.Role.{Role}, Exchanges.{table_of, next_of}, Known.{with_new_exchange, exchange_at_opening, Changes}}
use Rattle.hc_model.specs.Rows as rows
use Rattle.hc_state.specs.{declared.rows.Rows.{Rows}, Changes.{BecomesAt}, Kept.{KeepsConsumer, KeepsExchange, KeepsRunning, held_for, role_awaited}, Lines.{KeepsKey}, Stands.{RowsStand}}
use Rattle.hc_txn.specs.declared.transaction.Transaction.{Transaction as Consumer}
use Rattle.hc_state.proofs.{FallbackSteps.{length_same, live_same}, OneOfEach.{stands_then}}
use Rattle.hc_on_poll.proofs.{OpenHandler.{WaitsFor, unread_yet, held_else, none_held, entries_opened}, OpenRows.{runs, opener_kept, live_then}}

module _ {B : Type 0} {g : Ghosts B} {limits : Limits} (r u : Rows B g) (t : Tables) (law : Lawful t) (now c x : ℕ) (n : Need) (request copied : Request)
    (aim : Option ℕ) (role : Role) (k : Consumer) (v : rows.Consumer) (p : Place) (stands : RowsStand limits r t)
    (there : get nat_eq r.consumers c ≡ Some k) (row : t.consumer c ≡ Some v) (idle : reads v.place ≡ false) (lived : is_live_place v.place ≡ true)
    (at : WaitsFor x p) (is_next : x ≡ t.opened + 1)
    (last : u.last_start ≡ r.last_start) (same_entries : u.entries ≡ r.entries) (next : next_of u.exchanges ≡ next_of r.exchanges + 1)
    (launches : Changes (with_new_exchange c role n copied now) x (table_of r.exchanges) (table_of u.exchanges))
    (becomes : BecomesAt r.consumers u.consumers c (Some (record k { place = p; own = Some x }))) (copies : copied ≡ request)
    (role_is : role ≡ role_awaited (route_of n) aim) where
  abbrev w : rows.Consumer
  w = record v { own = Some x; place = p }

  abbrev z : Exchange
  z = just_opened now c n request aim

  abbrev s : Tables
  s = with_consumer c (Some w) (with_opening x z t)

  free : t.exchange x ≡ None
  free = law.sound.numbered.lists.new_exchanges x (omega (arith, is_next))

  unfounded : t.representation x ≡ None
  unfounded = law.sound.numbered.lists.new_representations x (omega (arith, is_next))

  here : s.consumer c ≡ Some w
  here = rw (eqb-same c) refl

  others : (d : ℕ) → d ≢ c → s.consumer d ≡ t.consumer d
  others d ne = rw (eqb-other c d (λ e. ne (sym e))) refl

  opened_is : s.exchange x ≡ Some z
  opened_is = rw (eqb-same x) refl

  exchanges : (y : ℕ) → y ≢ x → s.exchange y ≡ t.exchange y
  exchanges y ne = rw (eqb-other x y (λ e. ne (sym e))) refl

  live_each : (d : ℕ) → is_live (s.consumer d) ≡ is_live (t.consumer d)
  live_each d = elim (same_or c d) [
    | inl e ↦ rw (← e, here, row) (live_then t now c x n request aim v p idle at at ∙ sym lived)
    | inr off ↦ ap is_live (others d (λ e. off (sym e)))
  ]

  known_then : KeepsExchange s x (with_new_exchange c role n copied now (table_of r.exchanges x))
  known_then = record {
    running = subst (KeepsRunning s x (Some (exchange_at_opening c role n copied now))) (sym opened_is)
        (runs t now c x n request aim v p idle at role copied copies role_is);
    held = sym (ap (held_for s x) opened_is ∙
        none_held t s law c x v w z free unfounded row here others opened_is exchanges refl (λ q. refl) refl refl idle at refl refl refl refl);
  }

  launched_is : table_of u.exchanges x ≡ with_new_exchange c role n copied now (table_of r.exchanges x)
  launched_is = launches x ∙ rw (eqb-same x) refl

  kept_then : KeepsConsumer s (Some (record k { place = p; own = Some x })) (s.consumer c)
  kept_then = subst (KeepsConsumer s (Some (record k { place = p; own = Some x }))) (sym here)
      (opener_kept t now c x n request aim v p idle at k
      (subst (KeepsConsumer t (Some k)) row (subst (λ o. KeepsConsumer t o (t.consumer c)) there (stands.consumers c))))

  pub stands_opened : ((key : List ℕ) → KeepsKey s key (kept_of u.keys key)) → RowsStand limits u s
  stands_opened keys =
      stands_then r u t s c x (Some (record k { place = p; own = Some x })) stands (last ∙ stands.last_start)
      (let before = stands.next in omega (arith, next, before, is_next))
      (length_same r u t c v (record k { place = p; own = Some x }) stands row lived becomes ∙ (stands.count ∙ sym (live_same t s refl live_each)))
      becomes (λ y ne. launches y ∙ rw (eqb-other x y (λ e. ne (sym e))) refl) others exchanges (λ q. refl) kept_then
      (subst (KeepsExchange s x) (sym launched_is) known_then) keys
      (λ d j ne is place_is. unread_yet t law x d j free is place_is)
      (λ y e ne is. held_else t s law c x v w z free unfounded row here others opened_is exchanges refl (λ q. refl) refl refl idle at refl refl refl refl
      y e ne)
      (rw same_entries stands.limits)
      (rw same_entries (entries_opened t s law c x v w z free unfounded row here others opened_is exchanges refl (λ q. refl) refl refl idle at refl refl
      refl refl (shelf_of r.entries) stands.entries stands.entries.order))
