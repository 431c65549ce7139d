-- Items of contents, run by run and one by one.
--
-- Two loops put contents into a store, and a record says what was put so far. `ArePut` is of the runs of one item: they
-- ascend. So each next one is put where no byte is yet, and within the limits (`more_put`). `AreKept` is of items: each
-- is good, so its number is new, its weight fits, and by `BegunRows` the rows represent one item more
-- (`one_more_kept`). The loops of `put_runs` and `begin_with` use these, and so does `with_contents`.
use Rattle.std.{proofs.{Common.{◌≡◌, ◌⊎◌, ℕ, zero, suc, ◌+◌, ◌<◌, ◌≤◌, ◌^◌, max, map, reverse, List, [], ◌∷◌, ◌++◌, length, take, drop, get_or, Bool, true, false, cond, eqb, Option, Some, None, refl, ap, sym, ◌∙◌, subst, inl, inr, arith, take_all}, lemmas.{Bool.{cases_Bool, eqb-true, Decides.{nat_tests}}, List.{reverse-append, append_assoc, Folds.{list_any-append}, Sums.{sum_by-append, sum_by-take-le}}}}, specs.{Prelude.{Ok, Err, is_some, option_map, find, nat_le, nat_lt, ◌==◌, ◌&&◌, ◌||◌, not, if◌then◌else◌}, List.{list_any}, Option.{ForSome}}}
use Rattle.hc_store.specs.{declared.{backend.Backend.{Ghosts}, error.StoreError.TheVariants.{the_data as error}}, Causes.{HasCause}}
use Rattle.hc_text.proofs.Basics.{and_left, and_right, eqb-same, not_true as not_is}
use Rattle.hc_sparse.specs.{Cells.{AreAbsent, EndsBy, size, cells_with}, Runs.{end_of}, declared.run.Run.{Run}}
use Rattle.hc_sparse.proofs.{CellLemmas.{inside-past}, SizeLemmas.{size-put}}
use Rattle.hc_effects.proofs.Vocabulary.{Limits, weight_of, ascend_from, is_kind_right, is_good, are_good, says, has_own_numbers, weights_of, may_begin, has_right_head, Content, Contents, first_tables, last_end, bytes_in}
use Rattle.hc_stored.specs.{Begun.{with_runs}, Kept.{Kept, kept_with_bytes}, Shelf.{Shelf, Becomes, is_kept, cells_at, size_at, same_order}, Entries.{shelf_of}}
use Rattle.hc_effects.proofs.Basics.{or_false, append_none}
use Rattle.hc_state.specs.{declared.rows.Rows.{Rows}, Stands.{RowsStand}}
use Rattle.hc_core.specs.Begins.{with_items, KeepsItem}
use Rattle.hc_contents.specs.declared.contents.Content as coded
use Rattle.hc_contents.specs.declared.contents.Contents as coded_all
use Rattle.hc_contents.specs.PlainContents.{plain_contents, plain_item}
use Rattle.hc_contents.proofs.Counting.{longer}
use Rattle.hc_core.proofs.{BegunRuns.{runs_more}, BegunRows.{stands_more}}

-- RUN BY RUN

-- where one of them stands
pub record IsPlaced (runs : List Run) (i : ℕ) (run : Run) : Type 0 where
  pub behind : last_end (take i runs) ≤ run.at
  pub some : 0 < length run.bytes
  pub within : end_of run ≤ last_end runs

pub is_placed : (n x : ℕ) (runs : List Run) (i : ℕ) (run : Run) → ascend_from n x runs ≡ true → i < length runs → run ≡ get_or runs i run → IsPlaced runs i run
is_placed n x runs i run good lt is = let p = placed n x runs i run good lt is in record { behind = p.1; some = p.2; within = p.3 }
  where
    placed : (n x : ℕ) (runs : List Run) (i : ℕ) (run : Run) → ascend_from n x runs ≡ true → i < length runs → run ≡ get_or runs i run → (n ≤ run.at) ×
        (last_end (take i runs) ≤ run.at) × (0 < length run.bytes) × (end_of run ≤ last_end runs)
    placed n x [] i run good lt is = absurd (let none : i < 0 = lt in omega arith)
    placed n x (first ∷ runs) zero run good lt is =
        let low_test : nat_le n first.at ≡ true = and_left _ _ (and_left _ _ (and_left _ _ good)) in
        let some_test : nat_lt 0 (length first.bytes) ≡ true = and_right _ _ (and_left _ _ (and_left _ _ good)) in
        let low : n ≤ first.at = grind (arith, nat_tests) in
        let some : 0 < length first.bytes = grind (arith, nat_tests) in
        subst (λ (z : Run). (n ≤ z.at) × (0 ≤ z.at) × (0 < length z.bytes) × (end_of z ≤ last_end (first ∷ runs))) (sym is)
        (low, omega arith, some, omega arith)
    placed n x (first ∷ runs) (suc i) run good lt is =
        let low_test : nat_le n first.at ≡ true = and_left _ _ (and_left _ _ (and_left _ _ good)) in
        let low : n ≤ first.at = grind (arith, nat_tests) in
        let rest = placed (end_of first) first.x runs i run (and_right _ _ good) (omega arith) is in
        (omega arith, omega arith, rest.2, omega arith)

end_more : (runs : List Run) (run : Run) → last_end (runs ++ run ∷ []) ≡ max (last_end runs) (end_of run)
end_more [] run = omega arith
end_more (first ∷ runs) run = let rest = end_more runs run in omega (arith, rest)

bytes_more : (runs : List Run) (run : Run) → bytes_in (runs ++ run ∷ []) ≡ bytes_in runs + length run.bytes
bytes_more runs run =
    let both = sum_by-append (λ (r : Run). length r.bytes) runs (run ∷ []) in
    grind (arith, nat_tests)

pub take_next : {A : Type 0} (xs : List A) (i : ℕ) (x : A) → i < length xs → x ≡ get_or xs i x → take (i + 1) xs ≡ take i xs ++ x ∷ []
take_next {A = A} xs i x lt is = (let next : i + 1 ≡ suc i = omega arith in ap (λ n. take n xs) next) ∙ at xs i lt is
  where
    at : (xs : List A) (i : ℕ) → i < length xs → x ≡ get_or xs i x → take (suc i) xs ≡ take i xs ++ x ∷ []
    at [] i lt is = absurd (let none : i < 0 = lt in omega arith)
    at (y ∷ ys) zero lt is = ap (λ z. z ∷ []) (sym is)
    at (y ∷ ys) (suc i) lt is = ap (λ zs. y ∷ zs) (at ys i (omega arith) is)

twice : (f h k : Kept → Kept) (o : Option Kept) → ((z : Kept) → k z ≡ f (h z)) → option_map f (option_map h o) ≡ option_map k o
twice f h k o is = grind (arith, nat_tests)

-- so many runs were put into what had no byte
pub record ArePut (a u : Shelf) (r : ℕ) (runs : List Run) : Type 0 where
  pub becomes : Becomes (option_map (with_runs runs)) same_order r a u
  pub used : u.used ≡ a.used + bytes_in runs
  pub size : size_at u r ≡ bytes_in runs
  pub ends : EndsBy (last_end runs) (cells_at u r)
  pub faults : u.faults ≡ a.faults

pub none_put : (a : Shelf) (r : ℕ) → size_at a r ≡ 0 → ((p : ℕ) → cells_at a r p ≡ None) → ArePut a a r []
none_put a r size none = record {
  becomes = record { kept = λ q. same q (cases_Bool (eqb r q)); order = refl; limits = refl };
  used = omega arith;
  size = size;
  ends = λ p le. none p;
  faults = refl;
}
  where
    itself : (o : Option Kept) → o ≡ option_map (with_runs []) o
    itself None = refl
    itself (Some k) = refl

    same : (q : ℕ) → (eqb r q ≡ true) ⊎ (eqb r q ≡ false) → a.kept q ≡ cond (eqb r q) (option_map (with_runs []) (a.kept r)) (a.kept q)
    same q (inl here) = rw here (ap a.kept (sym (eqb-true r q here)) ∙ itself (a.kept r))
    same q (inr off) = rw off refl

-- it is still kept
pub still_kept : (a m : Shelf) (r : ℕ) (done : List Run) → is_kept a r ≡ true → ArePut a m r done → is_kept m r ≡ true
still_kept a m r done there before = grind (arith, nat_tests)

module _ (a m u : Shelf) (r i : ℕ) (runs : List Run) (run : Run) (there : is_kept a r ≡ true) (lt : i < length runs) (is : run ≡ get_or runs i run)
    (placed : IsPlaced runs i run)
    (before : ArePut a m r (take i runs)) (puts : Becomes (option_map (kept_with_bytes run.at run.x run.bytes None)) same_order r m u)
    (used : u.used ≡ m.used + length run.bytes) (faults : u.faults ≡ m.faults) (fits : last_end runs ≤ 2 ^ 62) where
  abbrev done : List Run
  done = take i runs

  one_more : take (i + 1) runs ≡ done ++ run ∷ []
  one_more = take_next runs i run lt is

  kept_still : is_some (m.kept r) ≡ true
  kept_still = still_kept a m r done there before

  absent : AreAbsent (cells_at m r) run.at (run.at + length run.bytes)
  absent p le lt = before.ends p (let behind = placed.behind in omega arith)

  kept_now : u.kept r ≡ option_map (kept_with_bytes run.at run.x run.bytes None) (m.kept r)
  kept_now = puts.kept r ∙ rw (eqb-same r) refl

  cells_now : (p : ℕ) → cells_at u r p ≡ cells_with run.at run.x run.bytes (cells_at m r) p
  cells_now p = grind (arith, nat_tests)

  becomes_now : Becomes (option_map (with_runs (done ++ run ∷ []))) same_order r a u
  becomes_now = record {
    kept = λ q. puts.kept q ∙ by_number q (eqb r q) (before.becomes.kept q);
    order = puts.order ∙ before.becomes.order;
    limits = puts.limits ∙ before.becomes.limits;
  }
    where
      here : option_map (kept_with_bytes run.at run.x run.bytes None) (m.kept r) ≡ option_map (with_runs (done ++ run ∷ [])) (a.kept r)
      here =
          ap (option_map (kept_with_bytes run.at run.x run.bytes None)) (before.becomes.kept r ∙ rw (eqb-same r) refl)
          ∙ twice (kept_with_bytes run.at run.x run.bytes None) (with_runs done) (with_runs (done ++ run ∷ [])) (a.kept r) (runs_more done run)

      by_number : (q : ℕ) (b : Bool) → m.kept q ≡ cond b (option_map (with_runs done) (a.kept r)) (a.kept q)
          → cond b (option_map (kept_with_bytes run.at run.x run.bytes None) (m.kept r)) (m.kept q) ≡ cond b
          (option_map (with_runs (done ++ run ∷ [])) (a.kept r)) (a.kept q)
      by_number q true was = here
      by_number q false was = was

  pub more_put : ArePut a u r (take (i + 1) runs)
  more_put = subst (ArePut a u r) (sym one_more) (record {
    becomes = becomes_now;
    used = (let was = before.used in let sum = bytes_more done run in omega (arith, used, was, sum));
    size =
        (let within = placed.within in
        let put = size-put (cells_at m r) (cells_at u r) run.at run.x run.bytes cells_now absent (omega arith) in
        let was = before.size in let sum = bytes_more done run in omega (arith, put, was, sum));
    ends = λ p le.
        (let sum = end_more done run in
        let far : run.at + length run.bytes ≤ p = omega (arith, sum) in
        let near : last_end done ≤ p = omega (arith, sum) in
        cells_now p ∙ rw (inside-past run.at (length run.bytes) p far) (before.ends p near));
    faults = faults ∙ before.faults;
  })

  -- what the store says of its limits isn't passed
  pub entry_fits : size_at m r + length run.bytes ≤ bytes_in runs
  entry_fits =
      let was = before.size in let sum = bytes_more done run in let same = ap bytes_in one_more in
      let most = sum_by-take-le (λ (z : Run). length z.bytes) runs (i + 1) in
      omega (arith, was, sum, same, most)

  pub sum_fits : m.used + length run.bytes ≤ a.used + bytes_in runs
  sum_fits =
      let was = before.used in let sum = bytes_more done run in let same = ap bytes_in one_more in
      let most = sum_by-take-le (λ (z : Run). length z.bytes) runs (i + 1) in
      omega (arith, was, sum, same, most)

-- ITEM BY ITEM

-- none of them says the number
unsaid : (r : ℕ) (items : List Content) → list_any (says r) items ≡ false → find (λ (o : Content). o.r == r) items ≡ None
unsaid r [] off = refl
unsaid r (item ∷ items) off =
    let both = or_false (says r item) (list_any (says r) items) off in
    let other : (item.r == r) ≡ false = (or_false (item.r == r) (list_any (λ (run : Run). run.x == r) item.runs) both.0).0 in
    rw other (unsaid r items both.1)

any_reverse : {A : Type 0} (test : A → Bool) (xs : List A) → list_any test (reverse xs) ≡ list_any test xs
any_reverse test [] = refl
any_reverse test (x ∷ xs) =
    ap (list_any test) (reverse-append (x ∷ []) xs) ∙ (list_any-append test (reverse xs) (x ∷ []) ∙ (rw (any_reverse test xs) (grind (arith, nat_tests))))

good_from : (limits : Limits) (contents : Contents) (earlier items : List Content) (i : ℕ) (item : Content) →
    are_good limits contents earlier items ≡ true → i < length items → item ≡ get_or items i item
    → is_good limits contents (reverse (take i items) ++ earlier) item (drop (suc i) items) ≡ true
good_from limits contents earlier [] i item good lt is = absurd (let none : i < 0 = lt in omega arith)
good_from limits contents earlier (first ∷ items) zero item good lt is =
    subst (λ (z : Content). is_good limits contents earlier z items ≡ true) (sym is) (and_left _ _ good)
good_from limits contents earlier (first ∷ items) (suc i) item good lt is =
    let rest = good_from limits contents (first ∷ earlier) items i item (and_right _ _ good) (omega arith) is in
    let same : reverse (first ∷ take i items) ++ earlier ≡ reverse (take i items) ++ first ∷ earlier =
    ap (λ zs. zs ++ earlier) (reverse-append (first ∷ []) (take i items)) ∙ rw append_assoc refl in
    subst (λ (zs : List Content). is_good limits contents zs item (drop (suc i) items) ≡ true) (sym same) rest

-- what is known of an item that is good
pub record IsFit (limits : Limits) (before : List Content) (item : Content) : Type 0 where
  pub new : find (λ (o : Content). o.r == item.r) before ≡ None
  pub ascending : ascend_from 0 0 item.runs ≡ true
  pub right : is_kind_right item item.head.total ≡ true
  pub small : bytes_in item.runs ≤ limits.max_entry
  pub moments : item.head.requested ≤ item.head.answered

fit_by : (limits : Limits) (contents : Contents) (before : List Content) (item : Content) (later : List Content) →
    is_good limits contents (reverse before) item later ≡ true → IsFit limits before item
fit_by limits contents before item later good =
    let most = and_left _ _ good in
    let upto_kind = and_left _ _ most in
    let upto_runs = and_left _ _ upto_kind in
    let numbers : has_own_numbers contents (reverse before) item later ≡ true = and_right _ _ (and_left _ _ upto_runs) in
    let apart : not (list_any (says item.r) (reverse before)) ≡ true = and_right _ _ (and_left _ _ numbers) in
    let small_test : nat_le (bytes_in item.runs) limits.max_entry ≡ true = and_right _ _ most in
    let head : has_right_head contents item ≡ true = and_right _ _ good in
    let moments_test : nat_le item.head.requested item.head.answered ≡ true = and_right _ _ (and_left _ _ (and_left _ _ (and_left _ _ (and_left _ _ head)))) in
    record {
      new = unsaid item.r before (sym (any_reverse (says item.r) before) ∙ not_is _ apart);
      ascending = and_right _ _ upto_runs;
      right = and_right _ _ upto_kind;
      small = grind (arith, nat_tests);
      moments = grind (arith, nat_tests);
    }

module _ (limits : Limits) (contents : Contents) (good : are_good limits contents [] contents.items ≡ true) (i : ℕ) (item : Content)
    (lt : i < length contents.items) (is : item ≡ get_or contents.items i item) where
  pub is_fit : IsFit limits (take i contents.items) item
  is_fit = fit_by limits contents (take i contents.items) item (drop (suc i) contents.items)
      (subst (λ (zs : List Content). is_good limits contents zs item (drop (suc i) contents.items) ≡ true) (append_none (reverse (take i contents.items)))
      (good_from limits contents [] contents.items i item good lt is))

  pub items_more : take (i + 1) contents.items ≡ take i contents.items ++ item ∷ []
  items_more = take_next contents.items i item lt is

  pub weights_more : weights_of (take (i + 1) contents.items) ≡ weights_of (take i contents.items) + weight_of (bytes_in item.runs)
  weights_more =
      let same = ap weights_of items_more in
      let both = sum_by-append (λ (o : Content). weight_of (bytes_in o.runs)) (take i contents.items) (item ∷ []) in
      grind (arith, nat_tests)

  pub light : nat_le (weights_of contents.items) limits.max_total ≡ true →
      weights_of (take i contents.items) + weight_of (bytes_in item.runs) ≤ limits.max_total
  light test =
      let all : weights_of contents.items ≤ limits.max_total = grind (arith, nat_tests) in
      let some = sum_by-take-le (λ (o : Content). weight_of (bytes_in o.runs)) contents.items (i + 1) in
      let next = weights_more in
      omega (arith, some, next)

-- the runs of such an item end by 2^62
pub fit_ends : (item : Content) → is_kind_right item item.head.total ≡ true → ForSome item.head.total (λ n. n < 2 ^ 62) → last_end item.runs ≤ 2 ^ 62
fit_ends item right short = grind (arith, nat_tests)

-- ALL OF THEM

-- so many items are kept
pub record AreKept {B : Type 0} {g : Ghosts B} (a u : Rows B g) (contents : Contents) (i : ℕ) : Type 0 where
  pub stands : RowsStand (shelf_of u.entries).limits u (first_tables (with_items (take i contents.items) contents))
  pub used : (shelf_of u.entries).used ≡ weights_of (take i contents.items)
  pub bounds : (shelf_of u.entries).limits ≡ (shelf_of a.entries).limits
  pub faults : (shelf_of u.entries).faults ≡ (shelf_of a.entries).faults

module _ {B : Type 0} {g : Ghosts B} (r : Rows B g) (contents : Contents) where
  -- what has no number there isn't kept
  pub unkept : (items : List Content) (n : ℕ) → RowsStand (shelf_of r.entries).limits r (first_tables (with_items items contents)) →
      find (λ (o : Content). o.r == n) items ≡ None → (shelf_of r.entries).kept n ≡ None
  unkept items n stands none = grind (arith, nat_tests)

  pub none_kept : RowsStand (shelf_of r.entries).limits r (first_tables (with_items [] contents)) → (shelf_of r.entries).used ≡ 0 → AreKept r r contents 0
  none_kept stands used = record { stands = stands; used = used; bounds = refl; faults = refl }

  pub all_kept : (u : Rows B g) (i : ℕ) → length contents.items ≤ i → AreKept r u contents i → RowsStand (shelf_of u.entries).limits u (first_tables contents)
  all_kept u i le k = subst (λ (zs : List Content). RowsStand (shelf_of u.entries).limits u (first_tables (with_items zs contents)))
      (take_all i contents.items le) k.stands

reported_at : (items : List coded.Content) (i : ℕ) (item : coded.Content) → i < length items → item ≡ get_or items i item →
    plain_item item ≡ get_or (map plain_item items) i (plain_item item)
reported_at [] i item lt is = absurd (let none : i < 0 = lt in omega arith)
reported_at (x ∷ xs) zero item lt is = ap plain_item is
reported_at (x ∷ xs) (suc i) item lt is = reported_at xs i item (omega arith) is

pub good_of : (limits : Limits) (contents : Contents) → may_begin limits contents ≡ true → are_good limits contents [] contents.items ≡ true
unfolding may_begin
good_of limits contents may = and_left _ _ (and_left _ _ (and_left _ _ (and_left _ _ (and_left _ _ may))))

weight_fits : (limits : Limits) (contents : Contents) → may_begin limits contents ≡ true → nat_le (weights_of contents.items) limits.max_total ≡ true
unfolding may_begin
weight_fits limits contents may = and_right _ _ may

pub next_fits : (limits : Limits) (contents : Contents) → may_begin limits contents ≡ true → (0 < contents.next_exchange) × (contents.next_exchange ≤ 2 ^ 60)
unfolding may_begin
next_fits limits contents may = grind (arith, nat_tests, and_right, and_left)

-- what the item at a place needs, and what it leaves
module _ {B : Type 0} {g : Ghosts B} (a r : Rows B g) (contents : coded_all.Contents) (i : ℕ) (item : coded.Content) (lt : i < length contents.items)
    (is : item ≡ get_or contents.items i item)
    (may : may_begin (shelf_of a.entries).limits (plain_contents contents) ≡ true) (kept : AreKept a r (plain_contents contents) i) where
  abbrev place : i < length (map plain_item contents.items)
  place = longer contents.items i lt

  abbrev at : plain_item item ≡ get_or (map plain_item contents.items) i (plain_item item)
  at = reported_at contents.items i item lt is

  abbrev good : are_good (shelf_of a.entries).limits (plain_contents contents) [] (map plain_item contents.items) ≡ true
  good = good_of (shelf_of a.entries).limits (plain_contents contents) may

  pub item_fits : IsFit (shelf_of a.entries).limits (take i (map plain_item contents.items)) (plain_item item)
  item_fits = is_fit (shelf_of a.entries).limits (plain_contents contents) good i (plain_item item) place at

  pub item_new : (shelf_of r.entries).kept item.r ≡ None
  item_new = unkept r (plain_contents contents) (take i (map plain_item contents.items)) item.r kept.stands item_fits.new

  pub item_ends : last_end item.runs ≤ 2 ^ 62
  item_ends = fit_ends (plain_item item) item_fits.right item.head.own.small_total

  bounds_are : (shelf_of r.entries).limits ≡ (shelf_of a.entries).limits
  bounds_are = kept.bounds

  pub item_small : bytes_in item.runs ≤ (shelf_of r.entries).limits.max_entry
  item_small = subst (λ (l : Limits). bytes_in item.runs ≤ l.max_entry) (sym bounds_are) item_fits.small

  pub item_light : (shelf_of r.entries).used + weight_of (bytes_in item.runs) ≤ (shelf_of r.entries).limits.max_total
  item_light =
      subst (λ (l : Limits). (shelf_of r.entries).used + weight_of (bytes_in item.runs) ≤ l.max_total) (sym bounds_are)
      (subst (λ (n : ℕ). n + weight_of (bytes_in item.runs) ≤ (shelf_of a.entries).limits.max_total) (sym kept.used)
      (light (shelf_of a.entries).limits (plain_contents contents) good i (plain_item item) place at
      (weight_fits (shelf_of a.entries).limits (plain_contents contents) may)))

  pub one_more_kept : (u : Rows B g) → KeepsItem r u (plain_item item) →
      (shelf_of u.entries).used ≡ (shelf_of r.entries).used + weight_of (bytes_in item.runs) → (shelf_of u.entries).faults ≡ (shelf_of r.entries).faults →
      AreKept a u (plain_contents contents) (i + 1)
  one_more_kept u keeps used faults = record {
    stands =
        subst (λ (zs : List Content). RowsStand (shelf_of u.entries).limits u (first_tables (with_items zs (plain_contents contents))))
        (sym (items_more (shelf_of a.entries).limits (plain_contents contents) good i (plain_item item) place at))
        (stands_more r u (plain_contents contents) (take i (map plain_item contents.items)) (plain_item item) item_fits.ascending item_fits.right
        item_fits.new keeps kept.stands);
    used = used ∙ (ap (λ (n : ℕ). n + weight_of (bytes_in item.runs)) kept.used ∙
        sym (weights_more (shelf_of a.entries).limits (plain_contents contents) good i (plain_item item) place at));
    bounds = keeps.entries.limits ∙ kept.bounds;
    faults = faults ∙ kept.faults;
  }

-- where a call succeeded, the store didn't fail
pub calm_ok : {T : Type 0} (before now : ℕ) (x : T) → HasCause before now (Ok x) → now ≡ before
calm_ok before now x cause = cause.calm (λ is. (let never : Ok x ≡ Err error.Fault = is in cc))
