-- What is told of all idle ones is the contents of each run that the cache represents, and a cache may begin with it.
--
-- What is idle on the shelf is idle in the tables, in the same order. The item that is told of one has its key, its
-- head and the runs of its bytes. The entry of what isn't gone tells length and kind, so that item is the one of the
-- tables (`content_is`, `items_are`). `contents_reported` joins this. What such a run leaves is fit to begin with
-- (`may_again`). Reading leaves the cache as good as it was (`good_still`), as the loops need.
use Rattle.std.{proofs.{lemmas.Bool.{cases_Bool, Decides.{nat_tests}}, Common.{◌≡◌, inl, inr, ℕ, zero, suc, get_or, ◌<◌, ◌≤◌, ◌^◌, List, [], ◌∷◌, ◌++◌, map, Bool, true, false, Option, Some, None, refl, ap, sym, ◌∙◌, subst, arith}}, specs.Prelude.{option_map, filter, filter_map, reverse, ◌==◌, length}}
use Rattle.hc_text.proofs.Basics.{and_left, false_true, some_inj as some_is}
use Rattle.hc_store.specs.declared.backend.Backend.{Ghosts}
use Rattle.hc_sparse.specs.Cells.{Cells, EndsBy}
use Rattle.hc_record.specs.Head.{Head, sealed_head}
use Rattle.hc_stored.specs.{Entries.{shelf_of}, Kept.{Kept}, Shelf.{Shelf, Stays, idle, cells_at, cells_in}, Views.{key_in}}
use Rattle.hc_stored.specs.Shelf as shelves
use Rattle.hc_effects.proofs.Vocabulary.{may_begin, IsRun, content_of, content_at, contents_of, idle_now, runs_from, current, is_current, Content, Contents, History, kind_of, IsInLimits, bound, Lawful, Tables, Representation, IsStored, tables}
use Rattle.hc_model.specs.Contents.{is_idle}
use Rattle.hc_effects.proofs.{Basics.{number_is, same_functions}, LettingGo.{may_let_go}, PollKeeps.{current_stays}}
use Rattle.hc_laws.proofs.{RunsWithinLimits.{heads_come_within_limits}, LeavesGood.{leaves_good}}
use Rattle.hc_exch.specs.Exchanges.{next_of}
use Rattle.hc_contents.specs.declared.contents.Contents as coded_all
use Rattle.hc_contents.specs.PlainContents.{plain_contents, plain_item}
use Rattle.hc_state.specs.{declared.rows.Rows.{Rows}, Good.{StandsAt, IsGood}, Remains.{IsContentOf, AreContentsOf}, Stands.{RowsStand}, Stored.{IsEntry, KeepsEntry, KnowsLength}}
use Rattle.hc_state.specs.Stored as stored
use Rattle.hc_state.proofs.{Maps.{merely_true}, ReaderSteps.{stands_read}, Rooms.{idle_is}}
use Rattle.hc_core.proofs.Standing.{law_of_runs}
use Rattle.hc_core.specs.{declared.cache.Cache.{Cache}, Steps.{StandsFor}}

-- WHAT STAYS

pub stays_then : (a m u : Shelf) → Stays a m → Stays m u → Stays a u
stays_then a m u first later = record {
  kept = λ q. later.kept q ∙ first.kept q;
  order = later.order ∙ first.order;
  used = later.used ∙ first.used;
  limits = later.limits ∙ first.limits;
}

pub stays_itself : (a : Shelf) → Stays a a
stays_itself a = record { kept = λ q. refl; order = refl; used = refl; limits = refl }

pub stays_back : (a u : Shelf) → Stays a u → Stays u a
stays_back a u stays = record { kept = λ q. sym (stays.kept q); order = sym stays.order; used = sym stays.used; limits = sym stays.limits }

pub cells_same : (a u : Shelf) (r : ℕ) → Stays a u → cells_at u r ≡ cells_at a r
cells_same a u r stays = same_functions (cells_at u r) (cells_at a r) (λ p. ap (λ (o : Option Kept). cells_in o p) (stays.kept r))

-- ONE

reported_length : (k : Kept) (v : Representation) → v.is_gone ≡ false → KnowsLength k v → k.head.total ≡ v.head.total
reported_length k v fresh reports = grind (arith, nat_tests)

-- not lost as long as it isn't gone
stored_ends : (v : Representation) → v.is_gone ≡ false → IsStored v → EndsBy v.reach v.stored
stored_ends v fresh s p le = elim (cases_Bool v.is_lost) [
  | inl lost ↦ false_true (sym fresh ∙ s.lost_is_gone lost)
  | inr held ↦ s.all_stored held p ∙ s.ends p le
]

module _ (t : Tables) (s : Shelf) (q : ℕ) (k : Kept) (v : Representation) (item : Content) (kept : s.kept q ≡ Some k) (e : IsEntry t q k v)
    (fresh : v.is_gone ≡ false) (ends : EndsBy v.reach v.stored) (one : IsContentOf s q item) where
  key_is : v.key ≡ item.key
  key_is = sym e.key ∙ some_is k.key item.key (sym (ap (option_map key_in) kept) ∙ one.key)

  kept_head : k.head ≡ item.head
  kept_head = some_is k.head item.head (sym (ap (option_map (λ (z : Kept). z.head)) kept) ∙ one.head)

  sealed_is : sealed_head (kind_of t q v) v.head.total k.head ≡ k.head
  sealed_is = λ i. record k.head { kind = (sym (e.kind fresh)) i; total = (sym (reported_length k v fresh e.length)) i }

  head_is : sealed_head (kind_of t q v) v.head.total v.head ≡ item.head
  head_is = ap (λ (h : Head). sealed_head (kind_of t q v) v.head.total h) (sym e.head) ∙ (sealed_is ∙ kept_head)

  cells_are : (p : ℕ) → cells_at s q p ≡ v.stored p
  cells_are p = ap (λ (o : Option Kept). cells_in o p) kept ∙ e.cells p

  runs_are : runs_from v.stored 0 v.reach ≡ item.runs
  runs_are =
      ap (λ (f : Cells). runs_from f 0 v.reach) (sym (same_functions (cells_at s q) v.stored cells_are))
      ∙ sym (one.runs v.reach (λ p le. cells_are p ∙ ends p le))

  pub content_is : content_of t q v ≡ item
  content_is = λ i. record { key = key_is i; r = (sym one.number) i; head = head_is i; runs = runs_are i }

-- ALL

module _ {B : Type 0} {g : Ghosts B} (r : Rows B g) (t : Tables) (law : Lawful t) (stands : RowsStand (shelf_of r.entries).limits r t) where
  abbrev shelf : Shelf
  shelf = shelf_of r.entries

  at_one : (q : ℕ) (item : Content) (z : Option Representation) → t.representation q ≡ z → is_idle t q z ≡ true → IsContentOf shelf q item →
      option_map (content_of t q) z ≡ Some item
  at_one q item None row passes one = false_true passes
  at_one q item (Some v) row passes one = by_kept (shelf.kept q) refl (subst (KeepsEntry t q (shelf.kept q)) row (stands.entries.each q))
    where
      fresh : v.is_gone ≡ false
      fresh = current_stays t v.key q v (number_is (current t v.key) q (and_left (is_current t v.key q) (length (bound t q) == 0) passes)) row

      by_kept : (o : Option Kept) → shelf.kept q ≡ o → KeepsEntry t q o (Some v) → Some (content_of t q v) ≡ Some item
      by_kept None kept e = false_true (sym fresh ∙ e.gone)
      by_kept (Some k) kept e = ap Some (content_is t shelf q k v item kept e fresh (stored_ends v fresh (law.sound.rows q v row).store) one)

  all_are : (qs : List ℕ) (items : List Content) → AreContentsOf shelf (filter (λ q. is_idle t q (t.representation q)) qs) items →
      filter_map (content_at t) (filter (λ q. is_idle t q (t.representation q)) qs) ≡ items
  all_are [] [] reports = refl
  all_are [] (item ∷ items) reports = absurd reports
  all_are (q ∷ qs) items reports = elim (cases_Bool (is_idle t q (t.representation q))) [
    | inr off ↦ rw off (all_are qs items (rw off at reports))
    | inl on ↦ rw on (by_items items (rw on at reports) (λ rest reported_rest. all_are qs rest reported_rest) on)
  ]
    where
      by_items : (items : List Content) → AreContentsOf shelf (q ∷ filter (λ q. is_idle t q (t.representation q)) qs) items
          → ((rest : List Content) → AreContentsOf shelf (filter (λ q. is_idle t q (t.representation q)) qs) rest →
          filter_map (content_at t) (filter (λ q. is_idle t q (t.representation q)) qs) ≡ rest)
          → is_idle t q (t.representation q) ≡ true → filter_map (content_at t) (q ∷ filter (λ q. is_idle t q (t.representation q)) qs) ≡ items
      by_items [] reports again on = absurd reports
      by_items (item ∷ rest) reports again on =
          let first : content_at t q ≡ Some item = at_one q item (t.representation q) refl on reports.0 in
          rw (first, again rest reports.1) refl

  pub items_are : (items : List Content) → AreContentsOf shelf (idle shelf) items → filter_map (content_at t) (idle_now t) ≡ items
  items_are items reports =
      all_are (reverse t.used) items (subst (λ (qs : List ℕ). AreContentsOf shelf qs items) (idle_is r t (may_let_go t law) stands) reports)

-- THE CACHE

pub contents_reported : {B : Type 0} {g : Ghosts B} (s : Cache B g) (found : coded_all.Contents) → found.now ≡ s.last_moment →
    found.last_consumer ≡ s.rows.last_start → found.next_exchange ≡ next_of s.rows.exchanges
    → AreContentsOf (shelf_of s.rows.entries) (idle (shelf_of s.rows.entries)) (map plain_item found.items) → (contents : Contents) (h : History) →
    StandsFor s contents h → plain_contents found ≡ contents_of (tables contents h)
unfolding contents_of
contents_reported s found moment last next reports contents h stands =
    let law = law_of_runs (shelf_of s.rows.entries).limits contents h stands.begins stands.run in
    λ i. record {
      now = (moment ∙ stands.moment) i;
      last_consumer = (last ∙ stands.rows.last_start) i;
      next_exchange = (next ∙ stands.rows.next) i;
      items = (sym (items_are s.rows (tables contents h) law stands.rows (map plain_item found.items) reports)) i;
    }

-- a cache may begin with what a good one tells
pub may_again : {B : Type 0} {g : Ghosts B} (s : Cache B g) (found : coded_all.Contents) → found.now ≡ s.last_moment →
    found.last_consumer ≡ s.rows.last_start → found.next_exchange ≡ next_of s.rows.exchanges
    → AreContentsOf (shelf_of s.rows.entries) (idle (shelf_of s.rows.entries)) (map plain_item found.items) →
    IsGood s.rows s.received s.last_moment s.steps → found.next_exchange ≤ 2 ^ 60 → may_begin (shelf_of s.rows.entries).limits (plain_contents found) ≡ true
may_again s found moment last next reports good few =
    merely_true (may_begin (shelf_of s.rows.entries).limits (plain_contents found)) good.0 (λ at.
    let some = at.0 in
    let stands : StandsFor s some.contents some.h = record { begins = some.begins; short = some.short; run = some.run; moment = sym at.1; rows = some.rows } in
    let opened = some.rows.next in
    let in_limits : IsInLimits (tables some.contents some.h) = record {
      moment = subst (λ n. n < 2 ^ 62) (sym at.1) good.2;
      consumers = subst (λ n. n < 2 ^ 62) some.rows.last_start good.3;
      exchanges = omega (arith, few, next, opened);
    } in
    ap (may_begin (shelf_of s.rows.entries).limits) (contents_reported s found moment last next reports some.contents some.h stands)
    ∙ leaves_good (shelf_of s.rows.entries).limits some.contents some.begins some.h some.run (heads_come_within_limits some.h some.within_limits)
    some.starts in_limits)

-- the cache represents the same where what is kept stays
pub stands_still : {B : Type 0} {g : Ghosts B} (s u : Cache B g) → u.last_moment ≡ s.last_moment → u.rows.last_start ≡ s.rows.last_start →
    u.rows.consumers ≡ s.rows.consumers → u.rows.exchanges ≡ s.rows.exchanges → u.rows.keys ≡ s.rows.keys
    → Stays (shelf_of s.rows.entries) (shelf_of u.rows.entries) → (contents : Contents) (h : History) → StandsFor s contents h → StandsFor u contents h
stands_still s u moment last consumers exchanges same_keys stays contents h stands = record {
  begins = subst (λ l. may_begin l contents ≡ true) (sym stays.limits) stands.begins;
  short = stands.short;
  run = subst (λ l. IsRun l contents h) (sym stays.limits) stands.run;
  moment = moment ∙ stands.moment;
  rows = subst (λ l. RowsStand l u.rows (tables contents h)) (sym stays.limits)
      (stands_read s.rows u.rows (tables contents h) last consumers exchanges same_keys stays stands.rows);
}

-- what is idle is kept
at_filter : (test : ℕ → Bool) (xs : List ℕ) (i r : ℕ) → i < length (filter test xs) → r ≡ get_or (filter test xs) i r → test r ≡ true
at_filter test [] i r lt is = absurd (let none : i < 0 = lt in omega arith)
at_filter test (x ∷ xs) i r lt is = elim (cases_Bool (test x)) [
  | inr off ↦ at_filter test xs i r (rw off at lt) (rw off at is)
  | inl on ↦ by_place i (rw on at lt) (rw on at is) on (λ k less same. at_filter test xs k r less same)
]
  where
    by_place : (i : ℕ) → i < length (x ∷ filter test xs) → r ≡ get_or (x ∷ filter test xs) i r → test x ≡ true →
        ((k : ℕ) → k < length (filter test xs) → r ≡ get_or (filter test xs) k r → test r ≡ true) → test r ≡ true
    by_place zero lt is on again = ap test is ∙ on
    by_place (suc i) lt is on again = again i (let less : suc i < suc (length (filter test xs)) = lt in omega arith) is

pub any_default : (xs : List ℕ) (i d e : ℕ) → i < length xs → get_or xs i d ≡ get_or xs i e
any_default [] i d e lt = absurd (let none : i < 0 = lt in omega arith)
any_default (x ∷ xs) zero d e lt = refl
any_default (x ∷ xs) (suc i) d e lt = any_default xs i d e (omega arith)

pub idle_kept : (s : Shelf) (i r : ℕ) → i < length (idle s) → r ≡ get_or (idle s) i r → shelves.is_kept s r ≡ true
idle_kept s i r lt is = grind (arith, nat_tests, at_filter)

pub idle_at : (s : Shelf) (rs : List ℕ) (i : ℕ) → rs ≡ idle s → i < length rs → shelves.is_kept s (get_or rs i 0) ≡ true
idle_at s rs i same lt =
    subst (λ (zs : List ℕ). i < length zs → shelves.is_kept s (get_or zs i 0) ≡ true) (sym same)
    (λ less. idle_kept s i (get_or (idle s) i 0) less (any_default (idle s) i 0 (get_or (idle s) i 0) less)) lt

pub one_back : (a m : Shelf) (r : ℕ) (item : Content) → Stays a m → IsContentOf m r item → IsContentOf a r item
one_back a m r item stays one = record {
  number = one.number;
  key = sym (ap (option_map key_in) (stays.kept r)) ∙ one.key;
  head = sym (ap (option_map (λ (k : Kept). k.head)) (stays.kept r)) ∙ one.head;
  runs = λ n ends. subst (λ (f : Cells). EndsBy n f → item.runs ≡ runs_from f 0 n) (cells_same a m r stays) (one.runs n) ends;
}

pub reports_more : (s : Shelf) (rs : List ℕ) (items : List Content) (r : ℕ) (item : Content) → AreContentsOf s rs items → IsContentOf s r item →
    AreContentsOf s (rs ++ r ∷ []) (items ++ item ∷ [])
reports_more s [] [] r item all one = (one, tt)
reports_more s [] (x ∷ xs) r item all one = absurd all
reports_more s (q ∷ qs) [] r item all one = absurd all
reports_more s (q ∷ qs) (x ∷ xs) r item all one = (all.0, reports_more s qs xs r item all.1 one)

-- a cache is as good where what is kept stays
pub good_still : {B : Type 0} {g : Ghosts B} (r u : Rows B g) (bytes moment : ℕ) → u.last_start ≡ r.last_start → u.consumers ≡ r.consumers →
    u.exchanges ≡ r.exchanges → u.keys ≡ r.keys → Stays (shelf_of r.entries) (shelf_of u.entries) → StandsAt r bytes moment → StandsAt u bytes moment
good_still r u bytes moment last consumers exchanges same_keys stays at = (
  record {
    contents = at.0.contents;
    h = at.0.h;
    begins = subst (λ l. may_begin l at.0.contents ≡ true) (sym stays.limits) at.0.begins;
    short = at.0.short;
    within_limits = at.0.within_limits;
    starts = at.0.starts;
    run = subst (λ l. IsRun l at.0.contents at.0.h) (sym stays.limits) at.0.run;
    received = at.0.received;
    rows = subst (λ l. RowsStand l u (tables at.0.contents at.0.h)) (sym stays.limits)
        (stands_read r u (tables at.0.contents at.0.h) last consumers exchanges same_keys stays at.0.rows);
  },
  at.1,
)
