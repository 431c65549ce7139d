-- A consumer that reads nothing goes past the store: it opens its exchange, and stands in no line.
--
-- Idle is who stands in line or was let through: it is live and reads nothing (`idle_reads`, `idle_lives`). Its key has
-- the work. Where it waits with others the code takes it out of the line. Where it doesn't, nothing is said of it,
-- before or after (`unsaid`, `keys_past`). The exchange is new, so by `OpenHandler` nothing is held of it and entries
-- stay (`stands_past`). `open_past` uses `past_answered`; other plans use the lemmas on who is idle.
use Rattle.std.{proofs.Common.{◌≡◌, ℕ, ◌+◌, List, ◌++◌, Bool, true, false, Some, refl, ap, sym, ◌∙◌, subst, arith}, specs.{Prelude.{nat_eq, not, ◌&&◌}, HashMap.{get}}}
use Rattle.hc_text.proofs.Basics.{false_true}
use Rattle.hc_store.specs.declared.backend.Backend.{Ghosts}
use Rattle.hc_entry.specs.{declared.keys.KeyTable.{KeyTable}, Keys.{kept_of}, Kept.{on_line}, Lines.{left_by}}
use Rattle.hc_entry.specs.Keys as keys
use Rattle.hc_effects.proofs.Vocabulary.{Act, Need, Request, RequestClass, Limits, route_of, class_of, is_disabled, is_only, Place, current, is_live_place, with_event, with_consumer, with_opening, just_opened, Lawful, Opens, acts_of, move_of, reads, Tables, Exchange, event, route, place}
use Rattle.hc_exch.specs.{declared.{role.Role.TheVariants.{the_data as role}, exchanges.Exchanges.{Exchanges}}, Exchanges.{table_of, next_of}, Known.{with_new_exchange, Changes}}
use Rattle.hc_model.specs.Rows as rows
use Rattle.hc_effects.proofs.PastEffects.{passes_by}
use Rattle.hc_state.specs.{declared.rows.Rows.{Rows}, Handlers.{IsLeft, LeftIf, LeavesLine}, Changes.{Numbered, ChangesAt}, Kept.{IsKept, KeepsConsumer}, Lines.{KeepsKey}, Plans.{is_idle_at}, Stands.{Answered, RowsStand}}
use Rattle.hc_txn.specs.{declared.transaction.Transaction.{Transaction as Consumer}, Transactions.{queues, reading_past}}
use Rattle.hc_state.proofs.{Answering.{does_answered}, ConsumerSteps.{keys_with, key_with, key_stays}, Counting.{stands_counted}, KeySteps.{IsUnsaid, leaves_key, says_elsewhere, says_none, apart_unsaid, unqueued_unsaid}, Maps.{known_of}, QueueHandler.{becomes_by}, Classes.{class_is}}
use Rattle.hc_on_poll.proofs.{OpenHandler.{past}, OpenKeys.{key_opened}, OpenStands.{stands_opened}}

-- WHO IS IDLE

-- it reads nothing, and is there
pub idle_reads : (p : Place) → is_idle_at p ≡ true → reads p ≡ false
idle_reads place.Line idle = refl
idle_reads (place.Passed r kept) idle = refl
idle_reads _ idle = false_true idle

pub idle_lives : (p : Place) → is_idle_at p ≡ true → is_live_place p ≡ true
idle_lives place.Line idle = refl
idle_lives (place.Passed r kept) idle = refl
idle_lives _ idle = false_true idle

-- what is kept of its class says whether it waits with others
pub queues_as : (t : Tables) (k : Consumer) (v : rows.Consumer) → IsKept t k v → queues k ≡ (not (is_disabled v.request) && not (is_only v.request))
unfolding class_of
queues_as t k v kept = ap (λ (z : RequestClass). not z.disabled && not z.only) (class_is kept)

-- WHAT IS KEPT BY KEY

module _ (t : Tables) (law : Lawful t) (c : ℕ) (k : Consumer) (v w : rows.Consumer) (row : t.consumer c ≡ Some v) (kept : IsKept t k v)
    (idle : is_idle_at v.place ≡ true) (nothing : (key : List ℕ) → IsUnsaid t key (Some w)) (same : w.request ≡ v.request) where
  unsaid : (key : List ℕ) → queues k ≡ false → IsUnsaid t key (Some v)
  unsaid key off = by_place v.place refl
    where
      off_here : (not (is_disabled v.request) && not (is_only v.request)) ≡ false
      off_here = sym (queues_as t k v kept) ∙ off

      by_place : (p : Place) → v.place ≡ p → IsUnsaid t key (Some v)
      by_place place.Line is = unqueued_unsaid t key v is off_here
      by_place (place.Passed q how) is =
          let queued = law.places.passed_queues c q how v row is in
          false_true (sym off_here ∙ rw (queued.cached, queued.asks) refl)
      by_place _ is = false_true (sym (ap is_idle_at is) ∙ idle)

  -- it waits for its key no more
  pub keys_past : (a b : KeyTable) → ((key : List ℕ) → KeepsKey t key (kept_of a key)) → IsLeft a b c k → (key : List ℕ) →
      KeepsKey (with_consumer c (Some w) t) key (kept_of b key)
  keys_past a b each left = by_test (queues k) refl left
    where
      its : List ℕ
      its = v.request.key

      by_test : (q : Bool) → queues k ≡ q → LeftIf q c k.request.key a b → (key : List ℕ) → KeepsKey (with_consumer c (Some w) t) key (kept_of b key)
      by_test true is leaves =
          let none = nothing its in
          keys_with t c (Some w) (on_line (left_by c)) its a b each
          (subst (λ (key : List ℕ). keys.Becomes (on_line (left_by c)) key a b) (ap (λ (z : Request). z.key) kept.request) leaves)
          (leaves_key t c (Some w) its (kept_of a its) none.in_line none.passed none.away none.turn)
          (λ other off. says_elsewhere t c v w other row same off)
      by_test false is stays = λ key.
          rw (stays key) (key_with t c (Some w) key (kept_of a key) (kept_of a key) (each key)
          (key_stays t c (Some w) key (kept_of a key) (each key) (says_none t c v w key row (unsaid key is) (nothing key))))

-- ALL OF IT

module _ {B : Type 0} {g : Ghosts B} {limits : Limits} (r mid : Rows B g) (e : Exchanges) (m : Numbered Consumer) (t : Tables) (law : Lawful t)
    (now c want : ℕ) (n : Need) (k : Consumer) (v : rows.Consumer) (stands : RowsStand limits r t) (there : get nat_eq r.consumers c ≡ Some k)
    (row : t.consumer c ≡ Some v) (idle : is_idle_at k.place ≡ true)
    (x : ℕ) (copied : Request) (copies : copied ≡ k.request) (way : route_of n ≡ route.Direct)
    (moves : move_of t now want c v ≡ Opens (next_of r.exchanges) n k.request) (is_next : x ≡ next_of r.exchanges) (next : next_of e ≡ next_of r.exchanges + 1)
    (launches : Changes (with_new_exchange c role.Direct n copied now) (next_of r.exchanges) (table_of r.exchanges) (table_of e))
    (leaves : LeavesLine (record r { exchanges = e }) mid c) (changes : ChangesAt mid.consumers m c (reading_past x)) where
  abbrev u : Rows B g
  u = record mid { consumers = m }

  kept : IsKept t k v
  kept = subst (KeepsConsumer t (Some k)) row (subst (λ o. KeepsConsumer t o (t.consumer c)) there (stands.consumers c))

  v_idle : is_idle_at v.place ≡ true
  v_idle = sym (ap is_idle_at kept.place) ∙ idle

  abbrev w : rows.Consumer
  w = record v { own = Some x; place = place.Direct x }

  abbrev z : Exchange
  z = just_opened now c n k.request (current t v.request.key)

  abbrev s : Tables
  s = with_consumer c (Some w) (with_opening x z t)

  x_is : x ≡ t.opened + 1
  x_is = let same = stands.next in is_next ∙ same

  launched_then : Changes (with_new_exchange c role.Direct n copied now) x (table_of r.exchanges) (table_of mid.exchanges)
  launched_then = subst (λ (b : Exchanges). Changes (with_new_exchange c role.Direct n copied now) x (table_of r.exchanges) (table_of b))
      (sym leaves.exchanges) (subst (λ (y : ℕ). Changes (with_new_exchange c role.Direct n copied now) y (table_of r.exchanges) (table_of e))
      (sym is_next) launches)

  changed : ChangesAt r.consumers m c (reading_past x)
  changed = subst (λ (b : Numbered Consumer). ChangesAt b m c (reading_past x)) leaves.consumers changes

  left : IsLeft r.keys mid.keys c k
  left = known_of (get nat_eq r.consumers c) k (IsLeft r.keys mid.keys c) there leaves.line

  stands_past : RowsStand limits u s
  stands_past =
      stands_opened r u t law now c x n k.request copied (current t v.request.key) role.Direct k v (place.Direct x) stands there row
      (idle_reads v.place v_idle) (idle_lives v.place v_idle) past x_is
      leaves.last_start leaves.entries (ap next_of leaves.exchanges ∙ next) launched_then
      (becomes_by r.consumers m c k (reading_past x) there changed) copies (rw way refl)
      (λ key. key_opened t law c x w z (law.sound.numbered.lists.new_exchanges x (let above = x_is in omega (arith, above))) past key
      (kept_of mid.keys key) (keys_past t law c k v w row kept v_idle (λ other. apart_unsaid t other w refl refl refl) refl r.keys mid.keys stands.keys
      left key))

  pub past_answered : (faults : ℕ) (before out : List Act) → out ≡ before ++ acts_of c (Opens x n copied) →
      Answered limits faults u t before out now (event.Poll c want)
  past_answered faults before out reported =
      let is : move_of t now want c v ≡ Opens x n k.request = moves ∙ ap (λ (y : ℕ). Opens y n k.request) (sym is_next) in
      does_answered limits faults u t (with_event now (event.Poll c want) s) before out (acts_of c (Opens x n k.request)) now (event.Poll c want)
      (passes_by limits t law now c want v row x n k.request is way) refl refl (reported ∙ ap (λ (q : Request). before ++ acts_of c (Opens x n q)) copies)
      (stands_counted u s now (event.Poll c want) refl stands_past)
