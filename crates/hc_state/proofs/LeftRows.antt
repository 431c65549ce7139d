-- What the rows say that a consumer leaves is what the tables say.
--
-- It leaves its own exchange if that is open, or the one that writes what it alone reads. Both tell alike whether an
-- exchange is open (`is_open_as`), and a writer that was forgotten is over (`group_as`). Whether all who are bound
-- are this one has the work: two lists with the same members pass the same tests. `left_as` joins these. The last
-- lemmas say it of what the code found, for the files of leaves and misreads.
use Rattle.std.{proofs.{Common.{◌≡◌, inl, inr, ℕ, List, [], ◌∷◌, Bool, true, false, Option, Some, None, refl, ap, ap₂, sym, ◌∙◌, subst, arith}, lemmas.Bool.Decides.{nat_tests}}, specs.{Prelude.{is_some, IsSomeAnd, nat_eq, filter, not, ◌&&◌, ◌||◌, ◌==◌, if◌then◌else◌}, List.{list_all}, Option.{option_or, option_and_then}, HashMap.{get}}}
use Rattle.hc_text.proofs.Basics.{both_true as and_both, and_left as and_first, and_right as and_then, eqb-same, false_true, never_true as not_true, or_right as or_then, same_test}
use Rattle.hc_effects.proofs.Vocabulary.{Limits, Place, is_last_reader, is_number, left_by, with_consumer, as_over, is_open, Lawful, bound, is_bound, if_open, shared_exchange, group_in, is_written, is_open_writer, Tables, Exchange, Representation, Among, Cause, place}
use Rattle.hc_store.specs.declared.backend.Backend.{Ghosts}
use Rattle.hc_text.specs.Sorted.{has, itself}
use Rattle.hc_stored.specs.{Entries.{shelf_of}, Kept.{Kept}, Views.{bound_in}}
use Rattle.hc_exch.specs.{Exchanges.{table_of}, declared.row.Open.{Open}}
use Rattle.hc_exch.specs.Known as known
use Rattle.hc_model.specs.Rows as rows
use Rattle.hc_model.specs.Sound as sound
use Rattle.hc_effects.proofs.{OfConsumers.{left_open}, ExclusiveWriters.{filter_some}, Basics.{some_row}}
use Rattle.hc_state.specs.{declared.rows.Rows.{Rows}, Kept.{IsKept, KeepsConsumer, KeepsRunning}, Handlers.{IsDown}, Leaving.{if_running, writer_group_of, last_read, left_of}, Stands.{RowsStand}, Stored.{KeepsEntry, KnowsWriter, as_written, forgotten, is_over}}
use Rattle.hc_txn.specs.declared.transaction.Transaction.{Transaction as Consumer}
use Rattle.hc_state.proofs.{Ties.{kept_row}, Words.{there}}

-- LISTS

all_has : (test : ℕ → Bool) (cs : List ℕ) → ((d : ℕ) → has itself d cs ≡ true → test d ≡ true) → list_all test cs ≡ true
all_has test [] each = refl
all_has test (x ∷ xs) each =
    and_both (test x) (list_all test xs) (each x (rw (eqb-same x) refl)) (all_has test xs (λ d on. each d (or_then (nat_eq x d) (has itself d xs) on)))

has_first : (test : ℕ → Bool) (x d : ℕ) (xs : List ℕ) (b : Bool) → nat_eq x d ≡ b → (b || has itself d xs) ≡ true → test x ≡ true →
    (has itself d xs ≡ true → test d ≡ true) → test d ≡ true
has_first test x d xs b same on here rest = grind (arith, nat_tests)

has_all : (test : ℕ → Bool) (cs : List ℕ) → list_all test cs ≡ true → (d : ℕ) → has itself d cs ≡ true → test d ≡ true
has_all test [] all d on = false_true on
has_all test (x ∷ xs) all d on =
    has_first test x d xs (nat_eq x d) refl on (and_first (test x) (list_all test xs) all)
    (λ later. has_all test xs (and_then (test x) (list_all test xs) all) d later)

passing_first : (test f : ℕ → Bool) (x : ℕ) (xs : List ℕ) (b : Bool) → f x ≡ b → (f x ≡ true → test x ≡ true) → list_all test (filter f xs) ≡ true →
    list_all test (filter f (x ∷ xs)) ≡ true
passing_first test f x xs b on here rest = grind (arith, nat_tests)

pub all_passing : (test f : ℕ → Bool) (cs : List ℕ) → ((d : ℕ) → f d ≡ true → test d ≡ true) → list_all test (filter f cs) ≡ true
all_passing test f [] each = refl
all_passing test f (x ∷ xs) each = passing_first test f x xs (f x) refl (each x) (all_passing test f xs each)

first_passing : (test f : ℕ → Bool) (x d : ℕ) (xs : List ℕ) (b : Bool) → f x ≡ b → Among d (x ∷ xs) → f d ≡ true →
    list_all test (filter f (x ∷ xs)) ≡ true → (list_all test (filter f xs) ≡ true → Among d xs → test d ≡ true) → test d ≡ true
first_passing test f x d xs b passes it7 on all rest = grind (arith, nat_tests)

passing_all : (test f : ℕ → Bool) (cs : List ℕ) → list_all test (filter f cs) ≡ true → (d : ℕ) → Among d cs → f d ≡ true → test d ≡ true
passing_all test f [] all d among on = absurd among
passing_all test f (x ∷ xs) all d among on = first_passing test f x d xs (f x) refl among on all (λ more later. passing_all test f xs more d later on)

-- EXCHANGES

-- an exchange that is kept is open
pub open_as : (t : Tables) (x : ℕ) (o : Option Open) (row : Option Exchange) → KeepsRunning t x o row → is_some o ≡ is_open row
open_as t x o row keeps = grind (arith, nat_tests)

-- what is over isn't open
shut : (o : Option Exchange) → is_over o ≡ true → is_open o ≡ false
shut o on = grind (arith, nat_tests)

module _ {B : Type 0} {g : Ghosts B} {limits : Limits} (r : Rows B g) (t : Tables) (stands : RowsStand limits r t) where
  pub is_open_as : (x : ℕ) → known.is_open x (table_of r.exchanges) ≡ is_open (t.exchange x)
  is_open_as x = open_as t x (table_of r.exchanges x).running (t.exchange x) (stands.exchanges x).running

  pub running_as : (own : Option ℕ) → if_running (table_of r.exchanges) own ≡ option_and_then (if_open t) own
  running_as own = grind (arith, nat_tests)

  -- the exchange of the writing of what is kept
  pub group_as : (law : Lawful t) (q : ℕ) → writer_group_of (table_of r.exchanges) ((shelf_of r.entries).kept q) ≡ group_in t (t.representation q)
  unfolding is_written
  group_as law q = by_row ((shelf_of r.entries).kept q) (t.representation q) refl (stands.entries.each q)
    where
      both : (b : Bool) (z : Option ℕ) → (if b then None else if_running (table_of r.exchanges) z) ≡ (if (not b && is_open_writer t z) then z else None)
      both true z = refl
      both false None = refl
      both false (Some x) = running_as (Some x)

      none_written : (b : Bool) (z : Option ℕ) (x : ℕ) → z ≡ Some x → is_open (t.exchange x) ≡ false →
          (if b then None else None) ≡ (if (not b && is_open_writer t z) then z else None)
      none_written true z x is off = refl
      none_written false z x is off = rw (is, off) refl

      by_writer : (e : Kept) (v : Representation) → KnowsWriter t.exchange e.writer v.writer →
          (if v.is_lost then None else if_running (table_of r.exchanges) e.writer) ≡ (if (not v.is_lost && is_open_writer t v.writer) then v.writer else None)
      by_writer e v (as_written is) = rw is (both v.is_lost v.writer)
      by_writer e v (forgotten x none is on) = rw none (none_written v.is_lost v.writer x is (shut (t.exchange x) on))

      unwritten : (v : Representation) (b : Bool) → is_written t v ≡ b → (is_written t v ≡ true → ⊥) → None ≡ (if b then v.writer else None)
      unwritten v true is off = absurd (off is)
      unwritten v false is off = refl

      by_row : (k : Option Kept) (o : Option Representation) → t.representation q ≡ o → KeepsEntry t q k o →
          writer_group_of (table_of r.exchanges) k ≡ group_in t o
      by_row None None there kept = refl
      by_row None (Some v) there kept = unwritten v (is_written t v) refl (λ written. law.sound.writes.has_bound q v there written kept.unused)
      by_row (Some e) None there kept = absurd kept
      by_row (Some e) (Some v) there kept = rw kept.is_lost (by_writer e v kept.writer)

  module _ (law : Lawful t) (c : ℕ) (k : Consumer) (v : rows.Consumer) (row : t.consumer c ≡ Some v) (is : IsKept t k v) where
    bound_there : (q : ℕ) (o : Option rows.Consumer) → is_bound q o ≡ true → is_some o ≡ true
    bound_there q o on = grind (arith, nat_tests)

    -- whoever is bound is told in both
    all_as : (q : ℕ) (test : ℕ → Bool) → is_bound q (Some v) ≡ true → is_some (t.representation q) ≡ true →
        (e : Option Kept) (o : Option Representation) → t.representation q ≡ o → KeepsEntry t q e o → list_all test (bound_in e) ≡ list_all test (bound t q)
    unfolding bound
    all_as q test on some None None at kept = false_true (sym (ap (λ z. is_some z) at) ∙ some)
    all_as q test on some None (Some p) at kept =
        absurd (filter_some (λ d. is_bound q (t.consumer d)) c t.starts (law.sound.numbered.lists.started c (ap (λ z. is_some z) row))
        (ap (is_bound q) row ∙ on) kept.unused)
    all_as q test on some (Some e) None at kept = absurd kept
    all_as q test on some (Some e) (Some p) at kept = same_test (list_all test e.bound) (list_all test (filter (λ d. is_bound q (t.consumer d)) t.starts))
        (λ all. all_passing test (λ d. is_bound q (t.consumer d)) t.starts (λ d passes. has_all test e.bound all d (kept.bound d ∙ passes)))
        (λ all. all_has test e.bound
        (λ d has_it. let passes : is_bound q (t.consumer d) ≡ true = sym (kept.bound d) ∙ has_it in
        passing_all test (λ n. is_bound q (t.consumer n)) t.starts all d (law.sound.numbered.lists.started d (bound_there q (t.consumer d) passes)) passes))

    last_as : last_read (table_of r.exchanges) (shelf_of r.entries) c v.place ≡ (if is_last_reader t c v.place then shared_exchange t v.place else None)
    last_as = grind (arith, nat_tests, all_as, eqb-same, row, group_as)

    pub left_as : left_of r c k ≡ left_by t c v
    left_as = grind (arith, nat_tests, running_as, if_open, last_as)

-- WHAT THE CODE FOUND

pub open_row : (o : Option Exchange) → is_open o ≡ true → (w : Exchange) × (o ≡ Some w) × (w.is_open ≡ true)
open_row None on = false_true on
open_row (Some w) on = (w, refl, on)

module _ {B : Type 0} {g : Ghosts B} {limits : Limits} (r : Rows B g) (t : Tables) (law : Lawful t) (c : ℕ) (v : rows.Consumer)
    (row : t.consumer c ≡ Some v) (stands : RowsStand limits r t) where
  kept_here : (k : Consumer) → get nat_eq r.consumers c ≡ Some k → IsKept t k v
  kept_here k at = subst (λ o. KeepsConsumer t o (Some v)) at (subst (KeepsConsumer t (get nat_eq r.consumers c)) row (stands.consumers c))

  pub left_is : (left : Option ℕ) → IsSomeAnd (get nat_eq r.consumers c) (λ k. left ≡ left_of r c k) → left ≡ left_by t c v
  left_is left known =
      let found = there (get nat_eq r.consumers c) (λ k. left ≡ left_of r c k) known in
      found.2 ∙ left_as r t stands law c found.0 v row (kept_here found.0 found.1)

  pub own_is : (x : ℕ) (alone : Option ℕ) → IsSomeAnd (get nat_eq r.consumers c) (λ k. alone ≡ (if is_number k.own x then Some c else None)) →
      alone ≡ (if is_number v.own x then Some c else None)
  own_is x alone known = grind (arith, nat_tests)

-- what it leaves is still open once it is gone
pub left_runs : {B : Type 0} {g : Ghosts B} {limits : Limits} (r mid : Rows B g) (t : Tables) (law : Lawful t) (c x : ℕ) (left : Option ℕ) →
    is_some (get nat_eq r.consumers c) ≡ true → IsSomeAnd (get nat_eq r.consumers c) (λ k. left ≡ left_of r c k) → left ≡ Some x → RowsStand limits r t
    → ((v : rows.Consumer) → t.consumer c ≡ Some v → RowsStand limits mid (with_consumer c (Some (as_over v)) t)) →
    is_some (table_of mid.exchanges x).running ≡ true
left_runs r mid t law c x left lives known is stands after =
    let found = some_row (get nat_eq r.consumers c) lives in
    let kept = kept_row t found.0 (t.consumer c) (subst (λ o. KeepsConsumer t o (t.consumer c)) found.1 (stands.consumers c)) in
    let leaves : left_by t c kept.0 ≡ Some x = sym (left_is r t law c kept.0 kept.1 stands left known) ∙ is in
    is_open_as mid (with_consumer c (Some (as_over kept.0)) t) (after kept.0 kept.1) x ∙ left_open t law.sound law.owned c kept.0 kept.1 x leaves

-- the row of who is kept
pub live_row : {B : Type 0} {g : Ghosts B} {limits : Limits} (r : Rows B g) (t : Tables) (c : ℕ) → is_some (get nat_eq r.consumers c) ≡ true →
    RowsStand limits r t → (v : rows.Consumer) × (t.consumer c ≡ Some v)
live_row r t c lives stands =
    let found = some_row (get nat_eq r.consumers c) lives in
    let kept = kept_row t found.0 (t.consumer c) (subst (λ o. KeepsConsumer t o (t.consumer c)) found.1 (stands.consumers c)) in
    (kept.0, kept.1)

-- what is left is open
pub open_left : (t : Tables) (law : Lawful t) (c : ℕ) (v : rows.Consumer) → t.consumer c ≡ Some v → (x : ℕ) → left_by t c v ≡ Some x → (w : Exchange) ×
    (t.exchange x ≡ Some w) × (w.is_open ≡ true)
open_left t law c v row x left = open_row (t.exchange x) (left_open t law.sound law.owned c v row x left)

-- the row of who is down
pub down_row : {B : Type 0} {g : Ghosts B} {limits : Limits} (r : Rows B g) (t : Tables) (c : ℕ) (why : Cause) →
    IsSomeAnd (get nat_eq r.consumers c) (IsDown why) → RowsStand limits r t → (v : rows.Consumer) × (t.consumer c ≡ Some v) × (v.place ≡ place.Down why)
down_row r t c why down stands =
    let found = there (get nat_eq r.consumers c) (IsDown why) down in
    let kept = kept_row t found.0 (t.consumer c) (subst (λ o. KeepsConsumer t o (t.consumer c)) found.1 (stands.consumers c)) in
    (kept.0, kept.1, sym kept.2.place ∙ found.2)
