-- A consumer is bound to what is current by its plan, and shown its head.
--
-- It read nothing, and is bound and shown a head now: its row is rebuilt (`bound_kept`), and in its key it waits no
-- more. By `BoundHandler` nothing is held otherwise, and the entry has one user more. All else stays by `stands_then`,
-- since no exchange changes (`stands_bound`). What is shown is the part that the plan says of the stored length, which
-- is that of the tables (`shows_reported`, `part_ends`, `current_total`). `bind` uses `bind_answered`.
use Rattle.std.{proofs.Common.{◌≡◌, ◌≢◌, ℕ, ◌+◌, List, ◌∷◌, [], ◌++◌, Bool, true, Option, Some, None, refl, ap, sym, ◌∙◌, subst, arith, inl, inr}, specs.{Prelude.{nat_eq, is_some, option_map}, HashMap.{get}, Option.{option_or}}}
use Rattle.hc_store.specs.declared.backend.Backend.{Ghosts}
use Rattle.hc_entry.specs.Keys.{kept_of}
use Rattle.hc_stored.specs.{declared.entries.Entries.{Entries}, Entries.{shelf_of}, Kept.{Kept, with_user}, Shelf.{moved_first}}
use Rattle.hc_stored.specs.Shelf as shelf
use Rattle.hc_effects.proofs.Vocabulary.{Act, Why, Response, Limits, current, total_in, is_live, with_event, with_consumer, used_last, kind_of, Lawful, Shows, acts_of, span_to, move_of, Tables, Exchange, Representation, act, event, by, place}
use Rattle.hc_range.specs.declared.range.Span.{Span}
use Rattle.hc_record.specs.Head.{Head}
use Rattle.hc_validate.specs.Showing.{shown_response}
use Rattle.hc_exch.specs.Exchanges.{table_of, next_of}
use Rattle.hc_model.specs.Rows as rows
use Rattle.hc_effects.proofs.ShowEffects.{shows_new}
use Rattle.hc_state.specs.{declared.rows.Rows.{Rows}, Handlers.{IsLeft, LeavesLine}, Changes.{Numbered, ChangesAt}, Kept.{IsKept, KeepsConsumer, KeepsExchange, held_for}, Lines.{KeepsKey}, Plans.{is_idle_at, begin_of, end_of, shows_part, HasCurrent}, Stands.{Answered, RowsStand}, Stored.{KeepsEntries}}
use Rattle.hc_txn.specs.{declared.transaction.Transaction.{Transaction as Consumer}, Transactions.{bound_shown}}
use Rattle.hc_state.proofs.{Answering.{does_answered}, Fallbacks.{answer_fallback}, FallbackSteps.{length_same, live_same}, Counting.{stands_counted}, CurrentTies.{now_kept, total_reported}, KeySteps.{apart_unsaid}, Maps.{known_of}, OneOfEach.{stands_then}, QueueHandler.{becomes_by}, Ties.{exchange_same, key_same}}
use Rattle.hc_on_poll.proofs.{BoundHandler.{held_bound, entry_with, entries_bound}, OpenHandler.{unread_yet}, PassesHandler.{current_as}, PastHandler.{idle_reads, idle_lives, keys_past}}
use Rattle.hc_text.proofs.Basics.{eqb-other, eqb-same, same_or, some_inj as some_is}

module _ {B : Type 0} {g : Ghosts B} {limits : Limits} (r mid : Rows B g) (a : Entries B g) (m : Numbered Consumer) (t : Tables) (law : Lawful t)
    (c q lo : ℕ) (hi : Option ℕ) (k : Consumer) (v : rows.Consumer) (stands : RowsStand limits r t) (there : get nat_eq r.consumers c ≡ Some k)
    (row : t.consumer c ≡ Some v) (idle : is_idle_at k.place ≡ true)
    (now_is : HasCurrent r.keys q k) (ends : hi ≡ option_or hi (total_in (t.representation q))) (leaves : LeavesLine (record r { entries = a }) mid c)
    (binds : shelf.Becomes (option_map (with_user c)) (moved_first q) q (shelf_of r.entries) (shelf_of a))
    (changes : ChangesAt mid.consumers m c (bound_shown q lo hi)) where
  abbrev u : Rows B g
  u = record mid { consumers = m }

  kept : IsKept t k v
  kept = subst (KeepsConsumer t (Some k)) row (subst (λ o. KeepsConsumer t o (t.consumer c)) there (stands.consumers c))

  v_idle : is_idle_at v.place ≡ true
  v_idle = sym (ap is_idle_at kept.place) ∙ idle

  abbrev w : rows.Consumer
  w = record v { place = place.Bound q lo hi by.Plan; shown = true }

  abbrev s : Tables
  s = used_last q (with_consumer c (Some w) t)

  abbrev x : ℕ
  x = t.opened + 1

  at_q : current t v.request.key ≡ Some q
  at_q = current_as r t k v q stands kept now_is

  here : s.consumer c ≡ Some w
  here = rw (eqb-same c) refl

  others : (d : ℕ) → d ≢ c → s.consumer d ≡ t.consumer d
  others d ne = rw (eqb-other c d (λ e. ne (sym e))) refl

  live_each : (d : ℕ) → is_live (s.consumer d) ≡ is_live (t.consumer d)
  live_each d = elim (same_or c d) [
    | inl e ↦ rw (← e, here, row) (sym (idle_lives v.place v_idle))
    | inr off ↦ ap is_live (others d (λ e. off (sym e)))
  ]

  bound_kept : IsKept s (bound_shown q lo hi k) w
  bound_kept = assumption (kept, kept.answer ∙ answer_fallback t v (idle_reads v.place v_idle), ends)

  changed : ChangesAt r.consumers m c (bound_shown q lo hi)
  changed = subst (λ (b : Numbered Consumer). ChangesAt b m c (bound_shown q lo hi)) leaves.consumers changes

  left : IsLeft r.keys mid.keys c k
  left = known_of (get nat_eq r.consumers c) k (IsLeft r.keys mid.keys c) there leaves.line

  keys_then : (key : List ℕ) → KeepsKey s key (kept_of mid.keys key)
  unfolding current
  keys_then key =
      key_same (with_consumer c (Some w) t) s key (kept_of mid.keys key)
      (record { current = refl; in_line = λ d. refl; passed = λ d. refl; away = λ d. refl; turn = λ d. refl })
      (keys_past t law c k v w row kept v_idle (λ other. apart_unsaid t other w refl refl refl) refl r.keys mid.keys stands.keys left key)

  kinds : (n : ℕ) (b : Representation) → t.representation n ≡ Some b → kind_of s n b ≡ kind_of t n b
  unfolding kind_of
  kinds n b at = refl

  shelf_limits : (shelf_of mid.entries).limits ≡ limits
  shelf_limits = ap (λ (e : Entries B g). (shelf_of e).limits) leaves.entries ∙ (binds.limits ∙ stands.limits)

  pub stands_bound : RowsStand limits u s
  stands_bound =
      let now = now_kept r t stands v.request.key q at_q in
      let reads_none = idle_reads v.place v_idle in
      stands_then r u t s c x (Some (bound_shown q lo hi k)) stands (leaves.last_start ∙ stands.last_start) (ap next_of leaves.exchanges ∙ stands.next)
      (length_same r u t c v (bound_shown q lo hi k) stands row (idle_lives v.place v_idle)
      (becomes_by r.consumers m c k (bound_shown q lo hi) there changed) ∙ (stands.count ∙ sym (live_same t s refl live_each)))
      (becomes_by r.consumers m c k (bound_shown q lo hi) there changed) (λ y ne. ap (λ e. table_of e y) leaves.exchanges) others (λ y ne. refl)
      (λ n. refl) (subst (KeepsConsumer s (Some (bound_shown q lo hi k))) (sym here) bound_kept)
      (subst (λ e. KeepsExchange s x (table_of e x)) (sym leaves.exchanges)
      (exchange_same t s x (table_of r.exchanges x) (record { row = refl; brings = λ z at. refl; held = held_row x (t.exchange x) }) (stands.exchanges x)))
      keys_then
      (λ d j ne is place_is. unread_yet t law x d j (law.sound.numbered.lists.new_exchanges x (omega arith)) is place_is)
      (λ y e ne is. held_bound t s law c q lo hi by.Plan v w now.p row here others reads_none refl (λ n. refl) refl refl now.row now.stays kinds y e)
      shelf_limits
      (subst (λ e. KeepsEntries s (shelf_of e)) (sym leaves.entries)
      (entries_bound t s law c q lo hi by.Plan v w now.p row here others reads_none refl (λ n. refl) refl refl now.row now.stays kinds (λ y on. on)
      (shelf_of r.entries) (shelf_of a) (with_user c) now.e stands.entries now.kept
      (entry_with t s law c q lo hi by.Plan v w now.p row here others reads_none refl (λ n. refl) refl refl now.row now.stays kinds now.e now.is
      (λ y on. on) refl) binds))
    where
      held_row : (y : ℕ) (o : Option Exchange) → held_for s y o ≡ held_for t y o
      held_row y None = refl
      held_row y (Some e) =
          let now = now_kept r t stands v.request.key q at_q in
          held_bound t s law c q lo hi by.Plan v w now.p row here others (idle_reads v.place v_idle) refl (λ n. refl) refl refl now.row now.stays kinds y e

  pub bind_answered : (faults now want : ℕ) (why : Why) (head : Response) (before out : List Act) → move_of t now want c v ≡ Shows q why head lo hi →
      out ≡ before ++ (act.Shown c q why head.status head.fields lo hi ∷ []) → Answered limits faults u t before out now (event.Poll c want)
  bind_answered faults now want why head before out is reported =
      does_answered limits faults u t (with_event now (event.Poll c want) s) before out (acts_of c (Shows q why head lo hi)) now (event.Poll c want)
      (shows_new limits t law now c want v row q why head lo hi is (idle_reads v.place v_idle)) refl refl reported
      (stands_counted u s now (event.Poll c want) refl stands_bound)

-- WHAT IS TOLD OF THE PART

-- what is shown is the part that its plan says
pub shows_reported : (q : ℕ) (head : Head) (why : Why) (span : Option Span) (k : Consumer) (lo : ℕ) (hi : Option ℕ) (ranged : Bool)
    (response : Response) → lo ≡ begin_of span → hi ≡ end_of span head.total → ranged ≡ is_some k.class.range →
    response ≡ shown_response head why (span_to lo hi) ranged → shows_part q head why span k ≡ Shows q why response lo hi
shows_reported q head why span k lo hi ranged response from to range reported = rw (reported, range, from, to) refl

-- it ends where the span does, or what is stored
pub part_ends : (row : Option Representation) (head : Head) (span : Option Span) (hi : Option ℕ) → hi ≡ end_of span head.total → head.total ≡ total_in
    row → hi ≡ option_or hi (total_in row)
part_ends row head None hi to same = by_known hi (to ∙ same)
  where
    by_known : (o : Option ℕ) → o ≡ total_in row → o ≡ option_or o (total_in row)
    by_known None is = is
    by_known (Some n) is = refl
part_ends row head (Some span) hi to same = rw to refl

-- the length that is stored of what is current is the one that the tables have
pub current_total : {B : Type 0} {g : Ghosts B} {limits : Limits} (r : Rows B g) (t : Tables) (key : List ℕ) (q : ℕ) (head : Head) →
    RowsStand limits r t → current t key ≡ Some q → shelf.head_at (shelf_of r.entries) q ≡ Some head → head.total ≡ total_in (t.representation q)
current_total r t key q head stands at is =
    let now = now_kept r t stands key q at in
    let same = some_is now.e.head head (sym (ap (option_map (λ (e : Kept). e.head)) now.kept) ∙ is) in
    ap (λ (h : Head). h.total) (sym same) ∙ (total_reported t q now.e now.p now.is now.stays ∙ sym (ap total_in now.row))
