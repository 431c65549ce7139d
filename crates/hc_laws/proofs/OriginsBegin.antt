-- With what a store may begin, a number names the bytes of one body alone.
--
-- Each item is good after those before it, so a number that it says is said by none of them (`not_before`). So, by
-- induction over the list, two items with bytes of one number are one (`one_item`). If there is an item of that number,
-- it is this one (`own_item`). Each byte of the first tables is one of an item (`byte_of`), and its number was given
-- out (`range`). `origins_begin` joins these.
use Rattle.std.{proofs.{Common.{◌≡◌, inl, inr, ℕ, ◌-◌, ◌<◌, ◌≤◌, List, [], ◌∷◌, length, Bool, true, false, Option, Some, None, refl, ap, sym, ◌∙◌, arith}, lemmas.Bool.Decides.{nat_tests}}, specs.{Prelude.{is_some, find, nat_eq, nat_lt, option_map, ◌==◌, ◌||◌}, List.{list_any, list_all}}}
use Rattle.hc_text.proofs.Basics.{and_left, and_right, bool_cases, not_some as none_some, not_true, or_right, some_inj}
use Rattle.hc_effects.proofs.Vocabulary.{Limits, may_begin, are_good, is_good, is_given_out, is_own_run, says, Content, Contents, HasByte, Origins, Representation, first_tables, representation_of_content}
use Rattle.hc_sparse.proofs.CellLemmas.{inside-cases}
use Rattle.hc_sparse.specs.{Cells.{Cell}, Runs.{cells_of}, declared.run.Run.{Run}}
use Rattle.hc_model.specs.Origins as origins
use Rattle.hc_effects.proofs.{Basics.{false_true, or_false}, PieceKeeps.{eq_cases}}
use Rattle.hc_laws.proofs.Starts.{numbers_begin}

abbrev pub of_number : ℕ → Content → Bool
of_number r item = item.r == r

abbrev pub is_of : ℕ → Run → Bool
is_of x run = run.x == x

-- a run of the item is of x
abbrev pub has_run : ℕ → Content → Bool
has_run x item = list_any (is_of x) item.runs

-- a byte is one of a run
of_run : (runs : List Run) (p : ℕ) (cell : Cell) → cells_of runs p ≡ Some cell → list_any (is_of cell.x) runs ≡ true
of_run [] p cell is = absurd (none_some cell is)
of_run (run ∷ runs) p cell is = elim (inside-cases run.at (length run.bytes) p) [
  | inl here ↦
      let test : nat_eq run.x cell.x ≡ true = grind (arith, nat_tests) in
      rw test refl
  | inr off ↦ or_right (is_of cell.x run) (list_any (is_of cell.x) runs) (of_run runs p cell (rw off.0 at is))
]

-- what holds of each run holds of one of x
record OneOf (test : Run → Bool) (x : ℕ) : Type 0 where
  run : Run
  from : run.x ≡ x
  passes : test run ≡ true

one_of : (test : Run → Bool) (x : ℕ) (runs : List Run) → list_all test runs ≡ true → list_any (is_of x) runs ≡ true → OneOf test x
one_of test x [] all any = absurd (false_true any)
one_of test x (run ∷ runs) all any = elim (eq_cases run.x x) [
  | inl here ↦ record { run = run; from = here.1; passes = and_left (test run) (list_all test runs) all }
  | inr off ↦ one_of test x runs (and_right (test run) (list_all test runs) all) (rw off.0 at any)
]

unless_so : (b c : Bool) → b ≡ false → (b || c) ≡ true → c ≡ true
unless_so b c off one = rw off at one

module _ (limits : Limits) (contents : Contents) where
  -- what a good item says of a number of its own
  record SaysAlone (r x : ℕ) (earlier later : List Content) : Type 0 where
    given : is_given_out contents x ≡ true
    fresh : list_any (says x) earlier ≡ false
    alone : nat_eq r x ≡ false → list_any (of_number x) later ≡ false

  run_alone : (x : ℕ) (earlier : List Content) (item : Content) (later : List Content) → is_good limits contents earlier item later ≡ true →
      has_run x item ≡ true → SaysAlone item.r x earlier later
  run_alone x earlier item later good has =
      by_run (one_of (is_own_run contents earlier item.r later) x item.runs
      (and_right _ _ (and_right _ _ (and_left _ _ (and_left _ _ (and_left _ _ (and_left _ _ good)))))) has)
    where
      by_run : OneOf (is_own_run contents earlier item.r later) x → SaysAlone item.r x earlier later
      by_run a = rw (← a.from) (record {
        given = and_left _ _ (and_left _ _ a.passes);
        fresh = not_true (list_any (says a.run.x) earlier) (and_right _ _ (and_left _ _ a.passes));
        alone = λ other. not_true (list_any (of_number a.run.x) later) (unless_so (nat_eq item.r a.run.x) _ other (and_right _ _ a.passes));
      })

  -- an item says a number: as that of its representation, or of a run
  says_run : (x : ℕ) (item : Content) → has_run x item ≡ true → says x item ≡ true
  says_run x item has = or_right (of_number x item) (has_run x item) has

  says_row : (x : ℕ) (item : Content) → item.r ≡ x → says x item ≡ true
  says_row x item same = let test : nat_eq item.r x ≡ true = grind (arith, nat_tests) in rw test refl

  given : (r x : ℕ) (a : Content) (earlier items : List Content) → are_good limits contents earlier items ≡ true → find (of_number r) items ≡ Some a →
      has_run x a ≡ true → is_given_out contents x ≡ true
  given r x a earlier [] good is has = absurd (none_some a is)
  given r x a earlier (item ∷ later) good is has = elim (eq_cases item.r r) [
    | inl here ↦ (run_alone x earlier item later (and_left _ _ good) (ap (has_run x) (some_inj item a (rw here.0 at is)) ∙ has)).given
    | inr off ↦ given r x a (item ∷ earlier) later (and_right _ _ good) (rw off.0 at is) has
  ]

  -- a number that is said by one that stands later is said by no earlier one
  not_before : (q x : ℕ) (b : Content) (earlier items : List Content) → are_good limits contents earlier items ≡ true →
      find (of_number q) items ≡ Some b → has_run x b ≡ true → list_any (says x) earlier ≡ false
  not_before q x b earlier [] good is has = absurd (none_some b is)
  not_before q x b earlier (item ∷ later) good is has = elim (eq_cases item.r q) [
    | inl here ↦ (run_alone x earlier item later (and_left _ _ good) (ap (has_run x) (some_inj item b (rw here.0 at is)) ∙ has)).fresh
    | inr off ↦ (or_false (says x item) (list_any (says x) earlier) (not_before q x b (item ∷ earlier) later (and_right _ _ good) (rw off.0 at is) has)).1
  ]

  -- and so it is by no item that stands before
  said_before : (q x : ℕ) (a b : Content) (earlier later : List Content) → are_good limits contents (a ∷ earlier) later ≡ true →
      find (of_number q) later ≡ Some b → has_run x b ≡ true → says x a ≡ true → ⊥
  said_before q x a b earlier later good is has said =
      false_true (sym ((or_false (says x a) (list_any (says x) earlier) (not_before q x b (a ∷ earlier) later good is has)).0) ∙ said)

  one_item : (r q x : ℕ) (a b : Content) (earlier items : List Content) → are_good limits contents earlier items ≡ true →
      find (of_number r) items ≡ Some a → find (of_number q) items ≡ Some b → has_run x a ≡ true → has_run x b ≡ true → r ≡ q
  one_item r q x a b earlier [] good is also has too = absurd (none_some a is)
  one_item r q x a b earlier (item ∷ later) good is also has too = elim (eq_cases item.r r) [
    | inl here ↦ elim (eq_cases item.r q) [
      | inl there ↦ sym here.1 ∙ there.1
      | inr off ↦
          absurd (said_before q x item b earlier later (and_right _ _ good) (rw off.0 at also) too
          (says_run x item (ap (has_run x) (some_inj item a (rw here.0 at is)) ∙ has)))
    ]
    | inr off ↦ elim (eq_cases item.r q) [
      | inl there ↦
          absurd (said_before r x item a earlier later (and_right _ _ good) (rw off.0 at is) has
          (says_run x item (ap (has_run x) (some_inj item b (rw there.0 at also)) ∙ too)))
      | inr other ↦ one_item r q x a b (item ∷ earlier) later (and_right _ _ good) (rw off.0 at is) (rw other.0 at also) has too
    ]
  ]

  found_any : (x : ℕ) (b : Content) (items : List Content) → find (of_number x) items ≡ Some b → list_any (of_number x) items ≡ true
  found_any x b [] is = absurd (none_some b is)
  found_any x b (item ∷ items) is = elim (bool_cases (of_number x item)) [
    | inl here ↦ rw here refl
    | inr off ↦ or_right (of_number x item) (list_any (of_number x) items) (found_any x b items (rw off at is))
  ]

  own_item : (r x : ℕ) (a b : Content) (earlier items : List Content) → are_good limits contents earlier items ≡ true →
      find (of_number r) items ≡ Some a → find (of_number x) items ≡ Some b → has_run x a ≡ true → x ≡ r
  own_item r x a b earlier [] good is also has = absurd (none_some a is)
  own_item r x a b earlier (item ∷ later) good is also has = elim (eq_cases item.r r) [
    | inl here ↦ elim (eq_cases item.r x) [
      | inl there ↦ sym there.1 ∙ here.1
      | inr off ↦
          let one : item ≡ a = some_inj item a (rw here.0 at is) in
          absurd (false_true (sym ((run_alone x earlier item later (and_left _ _ good) (ap (has_run x) one ∙ has)).alone off.0) ∙
          found_any x b later (rw off.0 at also)))
    ]
    | inr off ↦ elim (eq_cases item.r x) [
      | inl there ↦ absurd (said_before r x item a earlier later (and_right _ _ good) (rw off.0 at is) has (says_row x item there.1))
      | inr other ↦ own_item r x a b (item ∷ earlier) later (and_right _ _ good) (rw off.0 at is) (rw other.0 at also) has
    ]
  ]

  -- IN THE TABLES

  abbrev pub item_at : ℕ → Option Content
  item_at r = find (of_number r) contents.items

  -- a byte is one of a run of an item
  pub record IsLoadedByte (r x : ℕ) : Type 0 where
    pub item : Content
    pub found : item_at r ≡ Some item
    pub has : has_run x item ≡ true

  loaded_byte : (r x p : ℕ) (cell : Cell) (v : Representation) (z : Option Content) → item_at r ≡ z → option_map representation_of_content z ≡ Some v →
      v.body p ≡ Some cell → cell.x ≡ x → IsLoadedByte r x
  loaded_byte r x p cell v None found row there from = absurd (none_some v row)
  loaded_byte r x p cell v (Some item) found row there from = record {
    item = item;
    found = found;
    has = ap (λ n. has_run n item) (sym from) ∙
        of_run item.runs p cell (ap (λ (q : Representation). q.body p) (some_inj (representation_of_content item) v row) ∙ there);
  }

  pub byte_of : (r x : ℕ) → HasByte (first_tables contents) r x → IsLoadedByte r x
  byte_of r x (origins.has_byte p cell v row there from) = loaded_byte r x p cell v (item_at r) refl row there from

  -- a row is that of an item
  row_item : (r : ℕ) (z : Option Content) → item_at r ≡ z → is_some (option_map representation_of_content z) ≡ true → (item : Content) × (item_at r ≡ Some item)
  row_item r None found there = absurd (false_true there)
  row_item r (Some item) found there = (item, found)

  module _ (may : may_begin limits contents ≡ true) where
    good : are_good limits contents [] contents.items ≡ true
    unfolding may_begin
    good = and_left _ _ (and_left _ _ (and_left _ _ (and_left _ _ (and_left _ _ may))))

    range : (x : ℕ) → is_given_out contents x ≡ true → (0 < x) × (x ≤ contents.next_exchange - 1)
    range x is =
        let low : nat_lt 0 x ≡ true = and_left (nat_lt 0 x) (nat_lt x contents.next_exchange) is in
        let high : nat_lt x contents.next_exchange ≡ true = and_right (nat_lt 0 x) (nat_lt x contents.next_exchange) is in
        let under : x < contents.next_exchange = grind (arith, nat_tests) in
        ((grind (arith, nat_tests)), omega arith)

    pub origins_begin : Origins (first_tables contents)
    origins_begin = record {
      founded = λ r there. let i = row_item r (item_at r) refl there in numbers_begin limits contents may r i.0 i.1;
      opened = λ x there. absurd (false_true there);
      given_out = λ r x has. let b = byte_of r x has in range x (given r x b.item [] contents.items good b.found b.has);
      delivered = λ r x has. origins.begun refl;
      one = λ r q x a b. let c = byte_of r x a in let d = byte_of q x b in one_item r q x c.item d.item [] contents.items good c.found d.found c.has d.has;
      own = λ r x has there. let b = byte_of r x has in let i = row_item x (item_at x) refl there in
          own_item r x b.item i.0 [] contents.items good b.found i.1 b.has;
    }
