-- Which exchanges a doom closes: those for whose heads the ones wait who wait for the key, and the refused one.
--
-- The code asks each seat of the key for whose head it waits; the tables ask each exchange who waits for it. That is
-- the same: who waits for a head opened that exchange, for its key (`awaited_then`, `awaited_before`). Two ascending
-- lists with the same members are equal (`closes_are`). No more close than consumers are kept: each waits for one at
-- most, and that of the refused one for none (`few_close`). `doom` takes its room by that.
use Rattle.std.{proofs.{lemmas.Bool.Decides.{nat_tests}, Common.{◌≡◌, ◌≢◌, inl, inr, ℕ, ◌+◌, ◌<◌, ◌≤◌, List, [], ◌∷◌, length, Bool, true, false, Option, Some, None, refl, ap, sym, ◌∙◌, subst, arith}}, specs.{Prelude.{filter, reverse, is_some, is_none, bytes_eq, option_and_then, nat_eq, ◌==◌, ◌&&◌, ◌||◌, if◌then◌else◌}, HashMap.{get, hash_map_len}}}
use Rattle.hc_text.proofs.{Basics.{and_both as both_parts, or_cases as either_part, eqb-other, eqb-same, false_true, none_by, none_of, same_or, same_some as same_row, some_inj as some_is}, SortedLemmas.{is_sorted-filter, is_sorted-above}}
use Rattle.hc_effects.proofs.Vocabulary.{Limits, Request, route_of, Place, awaits, is_number, is_live, is_awaited, awaited_and, is_headless, Lawful, IsAwaiting, Awaits, Tables, Exchange, awaited_exchange, waits_at, with_item_first, route, place, by}
use Rattle.hc_effects.proofs.{Tests.{none_some}, Basics.{number_yes, number_is}}
use Rattle.hc_store.specs.declared.backend.Backend.{Ghosts}
use Rattle.hc_entry.specs.{Keys.{line_of}, Lines.{is_in}}
use Rattle.hc_text.specs.Sorted.{is_among, itself, is_sorted}
use Rattle.hc_entry.proofs.SeatLemmas.{same_members, first_in}
use Rattle.hc_exch.specs.{declared.row.Open.{Open}, Exchanges.{table_of}, Known.{is_open}}
use Rattle.hc_rules.proofs.RangeReads.{same_bytes, bytes_eq-same}
use Rattle.hc_model.specs.Exchanges as exchanges
use Rattle.hc_model.specs.Owners as owners
use Rattle.hc_model.specs.Rows as rows
use Rattle.hc_state.specs.{declared.rows.Rows.{Rows}, Dooms.{IsAwaited, IsToClose, IsUnheard}, Kept.{KeepsConsumer, KeepsRunning}, Stands.{RowsStand}}
use Rattle.hc_txn.specs.declared.transaction.Transaction.{Transaction as Consumer}
use Rattle.hc_on_head.proofs.{AscendingLists.{above_first, among_later, among_cases, is_first, is_later, among-reverse, reverse_ascends}, Woken.{stands_for, Stood, nobody, back, beside, stays, stood, Waits, waits_of, waiting_lives}}
use Rattle.hc_state.proofs.{Ties.{kept_row}, TurnTies.{among_in, filter_in}}

-- NO MORE THAN THERE ARE

-- without its first occurrence
drop_one : ℕ → List ℕ → List ℕ
drop_one y [] = []
drop_one y (z ∷ zs) = if z == y then zs else z ∷ drop_one y zs

drop_length : (y : ℕ) (zs : List ℕ) → is_among y zs ≡ true → length (drop_one y zs) + 1 ≡ length zs
unfolding drop_one
drop_length y [] there = false_true there
drop_length y (z ∷ zs) there = elim (same_or z y) [
  | inl same ↦ rw (same, eqb-same y) (omega arith)
  | inr ne ↦
      let off : nat_eq z y ≡ false = eqb-other z y ne in
      let rest : length (drop_one y zs) + 1 ≡ length zs = drop_length y zs (rw off at there) in
      rw off (omega arith)
]

drop_keeps : (x y : ℕ) (zs : List ℕ) → x ≢ y → is_among x zs ≡ true → is_among x (drop_one y zs) ≡ true
unfolding drop_one
drop_keeps x y [] ne there = false_true there
drop_keeps x y (z ∷ zs) ne there = elim (same_or z y) [
  | inl same ↦ elim (among_cases x z zs there) [
    | is_first e ↦ absurd (ne (sym e ∙ same))
    | is_later later ↦ (let on : nat_eq z y ≡ true = ap (λ n. nat_eq n y) same ∙ eqb-same y in rw on later)
  ]
  | inr off ↦ (let apart : nat_eq z y ≡ false = eqb-other z y off in rw apart (elim (among_cases x z zs there) [
    | is_first e ↦ subst (λ n. is_among n (z ∷ drop_one y zs) ≡ true) e (first_in z (drop_one y zs))
    | is_later later ↦ among_later z x (drop_one y zs) (drop_keeps x y zs ne later)
  ]))
]

-- a sorted list is no longer than one that has all of it
fits_in : (ys zs : List ℕ) → is_sorted itself ys ≡ true → ((x : ℕ) → is_among x ys ≡ true → is_among x zs ≡ true) → length ys ≤ length zs
fits_in [] zs up all = omega arith
fits_in (y ∷ ys) zs up all =
    let shorter : length (drop_one y zs) + 1 ≡ length zs = drop_length y zs (all y (first_in y ys)) in
    let rest : length ys ≤ length (drop_one y zs) = fits_in
    ys (drop_one y zs) (is_sorted-above itself y ys up)
    (λ x later. drop_keeps x y zs (λ same. (let lt : y < x = above_first x y ys up later in omega arith)) (all x (among_later y x ys later))) in
    omega arith

-- what each of these has
all_of : (ℕ → Option ℕ) → List ℕ → List ℕ
all_of f [] = []
all_of f (c ∷ cs) = with_item_first (f c) (all_of f cs)

added_one : (o : Option ℕ) (xs : List ℕ) → length (with_item_first o xs) ≤ length xs + 1
added_one o xs = grind (arith, nat_tests)

all_few : (f : ℕ → Option ℕ) (cs : List ℕ) → length (all_of f cs) ≤ length cs
unfolding all_of
all_few f [] = omega arith
all_few f (c ∷ cs) = let more = added_one (f c) (all_of f cs) in let rest = all_few f cs in omega arith

-- one of them has none
all_fewer : (f : ℕ → Option ℕ) (c : ℕ) (cs : List ℕ) → is_among c cs ≡ true → f c ≡ None → length (all_of f cs) + 1 ≤ length cs
unfolding all_of
all_fewer f c [] there none = false_true there
all_fewer f c (d ∷ cs) there none = elim (among_cases c d cs there) [
  | is_first e ↦ (let here : f d ≡ None = ap f e ∙ none in let few : length (all_of f cs) ≤ length cs = all_few f cs in rw here (omega arith))
  | is_later later ↦ (let more = added_one (f d) (all_of f cs) in let rest = all_fewer f c cs later none in omega arith)
]

added_keeps : (o : Option ℕ) (x : ℕ) (xs : List ℕ) → is_among x xs ≡ true → is_among x (with_item_first o xs) ≡ true
added_keeps o x xs there = grind (arith, nat_tests)

added_has : (o : Option ℕ) (x : ℕ) (xs : List ℕ) → o ≡ Some x → is_among x (with_item_first o xs) ≡ true
added_has o x xs is = subst (λ z. is_among x (with_item_first z xs) ≡ true) (sym is) (first_in x xs)

all_has : (f : ℕ → Option ℕ) (c x : ℕ) (cs : List ℕ) → is_among c cs ≡ true → f c ≡ Some x → is_among x (all_of f cs) ≡ true
unfolding all_of
all_has f c x [] there is = false_true there
all_has f c x (d ∷ cs) there is = elim (among_cases c d cs there) [
  | is_first e ↦ added_has (f d) x (all_of f cs) (ap f e ∙ is)
  | is_later later ↦ added_keeps (f d) x (all_of f cs) (all_has f c x cs later is)
]

-- EXCHANGES WITHOUT A HEAD

-- it is open, has no head yet, and is of the key
pub record IsBare (t : Tables) (key : List ℕ) (x : ℕ) : Type 0 where
  pub w : Exchange
  pub row : t.exchange x ≡ Some w
  pub is_open : w.is_open ≡ true
  pub bare : w.head ≡ None
  pub of_key : w.request.key ≡ key

headless_parts : (w : Exchange) → is_headless (Some w) ≡ true → (w.is_open ≡ true) × (w.head ≡ None)
headless_parts w on = let parts = both_parts w.is_open (is_none w.head) on in (parts.0, none_by w.head parts.1)

pub headless_row : (o : Option Exchange) → is_headless o ≡ true → (w : Exchange) × (o ≡ Some w) × (w.is_open ≡ true) × (w.head ≡ None)
headless_row None on = false_true on
headless_row (Some w) on = let parts = headless_parts w on in (w, refl, parts.0, parts.1)

-- as it is kept
pub bare_unheard : {B : Type 0} {g : Ghosts B} {limits : Limits} (r : Rows B g) (t : Tables) (key : List ℕ) (x : ℕ) → RowsStand limits r t →
    IsUnheard (table_of r.exchanges) key x → IsBare t key x
bare_unheard r t key x stands is = by_row (t.exchange x) refl (subst (λ z. KeepsRunning t x z (t.exchange x)) is.running (stands.exchanges x).running)
  where
    by_row : (z : Option Exchange) → t.exchange x ≡ z → KeepsRunning t x (Some is.o) z → IsBare t key x
    by_row None row runs = absurd runs
    by_row (Some w) row runs = record {
      w = w;
      row = row;
      is_open = runs.is_open;
      bare = none_of w.head (sym runs.headed ∙ is.headless);
      of_key = ap (λ (q : Request). q.key) (sym runs.request) ∙ is.of_key;
    }

pub bare_awaited : (t : Tables) (key : List ℕ) (x : ℕ) (z : Option Exchange) → t.exchange x ≡ z → is_awaited t key x z ≡ true → IsBare t key x
bare_awaited t key x None row on = false_true on
bare_awaited t key x (Some w) row on =
    let parts = both_parts (bytes_eq key w.request.key && is_headless (Some w)) (awaits (t.consumer w.c) x) on in
    let firsts = both_parts (bytes_eq key w.request.key) (is_headless (Some w)) parts.0 in
    let heads = headless_parts w firsts.1 in
    record { w = w; row = row; is_open = heads.0; bare = heads.1; of_key = sym (same_bytes key w.request.key firsts.0) }

-- FOR WHOSE HEAD ONE WAITS

module _ {B : Type 0} {g : Ghosts B} {limits : Limits} (r : Rows B g) (t : Tables) (law : Lawful t) (key : List ℕ) (stands : RowsStand limits r t) where
  in_line_is : (c : ℕ) → is_in c (line_of r.keys key) ≡ stands_for t key (t.consumer c)
  in_line_is c = let line = stands.keys key in rw (line.in_line c, line.passed c, line.away c) refl

  -- the exchange for whose head it waits is open, has none yet and was opened for it
  record WaitsFor (c x : ℕ) : Type 0 where
    w : Exchange
    row : t.exchange x ≡ Some w
    is_open : w.is_open ≡ true
    bare : w.head ≡ None
    for_it : w.c ≡ c

  waits_for : (c x : ℕ) (k : rows.Consumer) (p : Place) → t.consumer c ≡ Some k → k.place ≡ p → waits_at t p ≡ true → awaited_exchange p ≡ Some x → WaitsFor c x
  waits_for c x k (place.Turn y) row at waits is =
      let one : y ≡ x = some_is y x is in
      let a = law.places.turn c y k row at in
      record { w = a.w; row = ap t.exchange (sym one) ∙ a.row; is_open = a.is_open; bare = a.headless; for_it = a.for_it }
  waits_for c x k (place.Bound q lo hi (by.FirstHole y)) row at waits is =
      let one : y ≡ x = some_is y x is in
      let (w, there, on, bare) = headless_row (t.exchange y) waits in
      let its = law.owned.first_own c q lo y hi k row at in
      record {
        w = w;
        row = ap t.exchange (sym one) ∙ there;
        is_open = on;
        bare = bare;
        for_it =
            ap (λ (z : Exchange). z.c) (same_row (t.exchange y) w its.w there its.row) ∙ its.for_it;
      }
  waits_for c x k _ row at waits is = none_some x is

  -- who waits for the key, as the tables have it
  record AwaitsAs (x : ℕ) : Type 0 where
    c : ℕ
    w : Waits t key (t.consumer c)
    for_it : awaited_exchange w.k.place ≡ Some x

  awaits_as : (x : ℕ) → IsAwaited r key x → AwaitsAs x
  awaits_as x is = by_kept (get nat_eq r.consumers is.c) refl
    where
      w : Waits t key (t.consumer is.c)
      w = waits_of t key (t.consumer is.c) (stood t key law is.c) (sym (in_line_is is.c) ∙ is.waits)

      by_kept : (o : Option Consumer) → get nat_eq r.consumers is.c ≡ o → AwaitsAs x
      by_kept None there = none_some x (sym (ap (option_and_then (λ (k : Consumer). awaited_exchange k.place)) there) ∙ is.for_it)
      by_kept (Some k) there =
          let found = kept_row t k (t.consumer is.c) (subst (λ z. KeepsConsumer t z (t.consumer is.c)) there (stands.consumers is.c)) in
          let one : found.0 ≡ w.k = same_row (t.consumer is.c) found.0 w.k found.1 w.row in
          let same : k.place ≡ w.k.place = found.2.place ∙ ap (λ (z : rows.Consumer). z.place) one in
          record {
            c = is.c;
            w = w;
            for_it = ap awaited_exchange (sym same) ∙
                (sym (ap (option_and_then (λ (k : Consumer). awaited_exchange k.place)) there) ∙ is.for_it);
          }

  pub awaited_then : (x : ℕ) → IsAwaited r key x → is_awaited t key x (t.exchange x) ≡ true
  awaited_then x is =
      let a = awaits_as x is in
      let e = waits_for a.c x a.w.k a.w.k.place a.w.row refl a.w.waits a.for_it in
      let opener = law.owned.opener x e.w e.row in
      grind (arith, nat_tests)

  -- who awaits a head without one waits
  awaiting : (p : Place) (x : ℕ) → awaited_exchange p ≡ Some x → is_headless (t.exchange x) ≡ true → waits_at t p ≡ true
  awaiting p x is headless = grind (arith, nat_tests)

  -- in the line of its key
  stands_in : (c x : ℕ) (k : rows.Consumer) → t.consumer c ≡ Some k → bytes_eq key k.request.key ≡ true → waits_at t k.place ≡ true →
      awaited_exchange k.place ≡ Some x → stands_for t key (t.consumer c) ≡ true
  stands_in c x k row same waits is = by_stood (stood t key law c)
    where
      by_stood : Stood t key (t.consumer c) → stands_for t key (t.consumer c) ≡ true
      by_stood (nobody none) = none_some k (sym none ∙ row)
      by_stood (back q q_row q_same q_waits on) = on
      by_stood (beside q q_row q_same at off) =
          none_some x (sym (ap awaited_exchange at) ∙ (ap (λ (z : rows.Consumer). awaited_exchange z.place) (same_row (t.consumer c) q k q_row row) ∙ is))
      by_stood (stays q q_row off stands_off) =
          let one : q ≡ k = same_row (t.consumer c) q k q_row row in
          false_true (sym off ∙ (ap (λ (z : rows.Consumer). bytes_eq key z.request.key && waits_at t z.place) one ∙ rw (same, waits) refl))

  pub awaited_before : (x : ℕ) (w : Exchange) → t.exchange x ≡ Some w → is_awaited t key x (Some w) ≡ true → IsAwaited r key x
  awaited_before x w row on = by_consumer (t.consumer w.c) refl parts.1
    where
      parts : (((bytes_eq key w.request.key && is_headless (Some w)) ≡ true) × (awaits (t.consumer w.c) x ≡ true))
      parts = both_parts (bytes_eq key w.request.key && is_headless (Some w)) (awaits (t.consumer w.c) x) on

      firsts : ((bytes_eq key w.request.key ≡ true) × (is_headless (Some w) ≡ true))
      firsts = both_parts (bytes_eq key w.request.key) (is_headless (Some w)) parts.0

      by_consumer : (z : Option rows.Consumer) → t.consumer w.c ≡ z → awaits z x ≡ true → IsAwaited r key x
      by_consumer None its waits = false_true waits
      by_consumer (Some k) its waits =
          by_kept (get nat_eq r.consumers w.c) refl (subst (KeepsConsumer t (get nat_eq r.consumers w.c)) its (stands.consumers w.c))
        where
          is : awaited_exchange k.place ≡ Some x
          is = number_is (awaited_exchange k.place) x waits

          waits_here : waits_at t k.place ≡ true
          waits_here = awaiting k.place x is (ap is_headless row ∙ firsts.1)

          of_key : bytes_eq key k.request.key ≡ true
          of_key =
              let opener = law.owned.opener x w row in
              let one : opener.k ≡ k = same_row (t.consumer w.c) opener.k k opener.row its in
              bytes_eq-same key k.request.key (same_bytes key w.request.key firsts.0 ∙ (opener.key_is ∙ ap (λ (z : rows.Consumer). z.request.key) one))

          by_kept : (o : Option Consumer) → get nat_eq r.consumers w.c ≡ o → KeepsConsumer t o (Some k) → IsAwaited r key x
          by_kept None there gone = false_true (sym gone ∙ waiting_lives t key k.place waits_here)
          by_kept (Some q) there kept = record {
            c = w.c;
            waits = in_line_is w.c ∙ stands_in w.c x k its of_key waits_here is;
            for_it = ap (option_and_then (λ (z : Consumer). awaited_exchange z.place)) there ∙ (ap awaited_exchange kept.place ∙ is);
          }

  -- ALL THAT ARE CLOSED

  module _ (refused : Option ℕ) (unheard : (x : ℕ) → refused ≡ Some x → IsUnheard (table_of r.exchanges) key x) where
    abbrev xs : List ℕ
    xs = awaited_and t key refused

    abbrev closes : ℕ → Bool
    closes x = is_number refused x || is_awaited t key x (t.exchange x)

    pub bare_of : (x : ℕ) → closes x ≡ true → IsBare t key x
    bare_of x on = elim (either_part (is_number refused x) (is_awaited t key x (t.exchange x)) on) [
      | inl is ↦ bare_unheard r t key x stands (unheard x (number_is refused x is))
      | inr waits ↦ bare_awaited t key x (t.exchange x) refl waits
    ]

    pub among_is : (x : ℕ) → is_among x xs ≡ closes x
    among_is x = filter_in closes x (reverse t.openings) ∙ (ap (λ b. closes x && b) (among-reverse x t.openings) ∙ by_test (closes x) refl)
      where
        by_test : (b : Bool) → closes x ≡ b → (b && is_among x t.openings) ≡ b
        by_test false off = refl
        by_test true on = among_in x t.openings (law.sound.numbered.lists.opened x (ap (λ z. is_some z) (bare_of x on).row))

    pub bare_among : (x : ℕ) → is_among x xs ≡ true → IsBare t key x
    bare_among x on = bare_of x (sym (among_is x) ∙ on)

    to_close : (x : ℕ) → closes x ≡ true → IsToClose r key refused x
    to_close x on = elim (either_part (is_number refused x) (is_awaited t key x (t.exchange x)) on) [
      | inl is ↦ inl (number_is refused x is)
      | inr waits ↦ (let b = bare_awaited t key x (t.exchange x) refl waits in inr (awaited_before x b.w b.row (sym (ap (is_awaited t key x) b.row) ∙ waits)))
    ]

    closes_so : (x : ℕ) → IsToClose r key refused x → closes x ≡ true
    closes_so x it1 = grind (arith, nat_tests, number_yes, awaited_then)

    pub closes_are : (zs : List ℕ) → is_sorted itself zs ≡ true → ((x : ℕ) → is_among x zs ≡ true → IsToClose r key refused x) →
        ((x : ℕ) → IsToClose r key refused x → is_among x zs ≡ true) → zs ≡ xs
    closes_are zs up each all =
        same_members zs xs up (is_sorted-filter itself closes (reverse t.openings) (reverse_ascends (t.opened + 1) t.openings law.order.openings))
        (λ x. by_tests (is_among x zs) (closes x) (λ on. closes_so x (each x on)) (λ on. all x (to_close x on)) ∙ sym (among_is x))
      where
        by_tests : (a b : Bool) → (a ≡ true → b ≡ true) → (b ≡ true → a ≡ true) → a ≡ b
        by_tests true b p q = sym (p refl)
        by_tests false true p q = false_true (q refl)
        by_tests false false p q = refl

    -- each is open
    pub runs : (x : ℕ) → IsToClose r key refused x → is_open x (table_of r.exchanges) ≡ true
    runs x is = by_known ((table_of r.exchanges x).running) refl (stands.exchanges x).running
      where
        b : IsBare t key x
        b = bare_of x (closes_so x is)

        by_known : (o : Option Open) → (table_of r.exchanges x).running ≡ o → KeepsRunning t x o (t.exchange x) →
            is_some (table_of r.exchanges x).running ≡ true
        by_known None there kept = false_true (sym kept ∙ (ap exchanges.is_open b.row ∙ b.is_open))
        by_known (Some o) there kept = ap (λ z. is_some z) there

    -- HOW MANY

    of_one : ℕ → Option ℕ
    of_one c = option_and_then (λ (k : rows.Consumer). awaited_exchange k.place) (t.consumer c)

    lives : List ℕ
    lives = filter (λ c. is_live (t.consumer c)) t.starts

    there : (x : ℕ) → IsToClose r key refused x → is_among x (with_item_first refused (all_of of_one lives)) ≡ true
    unfolding of_one lives
    there x (inl is) = added_has refused x (all_of of_one lives) is
    there x (inr is) =
        let a = awaits_as x is in
        let on : is_live (t.consumer a.c) ≡ true = ap is_live a.w.row ∙ waiting_lives t key a.w.k.place a.w.waits in
        let started : is_among a.c t.starts ≡ true = among_in a.c t.starts (law.sound.numbered.lists.started a.c (ap (λ z. is_some z) a.w.row)) in
        let among : is_among a.c lives ≡ true = filter_in (λ c. is_live (t.consumer c)) a.c t.starts ∙ rw (on, started) refl in
        added_keeps refused x (all_of of_one lives)
        (all_has of_one a.c x lives among (ap (option_and_then (λ (k : rows.Consumer). awaited_exchange k.place)) a.w.row ∙ a.for_it))

    one_more : (zs : List ℕ) (x : ℕ) → length (with_item_first (Some x) zs) ≡ length zs + 1
    one_more zs x = omega arith

    -- whoever waits for the refused head waits to found or to join by none
    record Apart : Type 0 where
      c : ℕ
      lives_on : is_among c lives ≡ true
      awaits_none : of_one c ≡ None

    apart : (x : ℕ) → refused ≡ Some x → Apart
    unfolding of_one lives
    apart x is = by_at a.at
      where
        u : IsUnheard (table_of r.exchanges) key x
        u = unheard x is

        b : IsBare t key x
        b = bare_unheard r t key x stands u

        a : Awaits t x b.w
        a = law.owned.waiting x b.w b.row b.is_open b.bare

        past : route_of b.w.need ≡ route.Direct
        past = ap route_of (sym (subst (KeepsRunning t x (Some u.o)) b.row
            (subst (λ z. KeepsRunning t x z (t.exchange x)) u.running (stands.exchanges x).running)).need) ∙ u.past

        by_at : IsAwaiting x b.w a.k.place → Apart
        by_at (owners.direct way at) = record {
          c = b.w.c;
          lives_on =
              let on : is_live (t.consumer b.w.c) ≡ true = ap is_live a.row ∙ rw at refl in
              let started : is_among b.w.c t.starts ≡ true = among_in b.w.c t.starts (law.sound.numbered.lists.started b.w.c (ap (λ z. is_some z) a.row)) in
              filter_in (λ c. is_live (t.consumer c)) b.w.c t.starts ∙ rw (on, started) refl;
          awaits_none = ap (option_and_then (λ (k : rows.Consumer). awaited_exchange k.place)) a.row ∙ rw at refl;
        }
        by_at (owners.turn way at) = absurd (let never : route.Turn ≡ route.Direct = sym way ∙ past in cc)
        by_at (owners.hole q lo hi how way aim at) = absurd (let never : route.Hole ≡ route.Direct = sym way ∙ past in cc)

    pub few_close : (ys : List ℕ) → is_sorted itself ys ≡ true → ((x : ℕ) → is_among x ys ≡ true → IsToClose r key refused x) →
        length ys ≤ hash_map_len r.consumers
    unfolding lives
    few_close ys up each = by_refused refused refl
      where
        fits : length ys ≤ length (with_item_first refused (all_of of_one lives))
        fits = fits_in ys (with_item_first refused (all_of of_one lives)) up (λ x on. there x (each x on))

        count : hash_map_len r.consumers ≡ length lives
        count = stands.count

        by_refused : (o : Option ℕ) → refused ≡ o → length ys ≤ hash_map_len r.consumers
        by_refused None is =
            let more : length (with_item_first refused (all_of of_one lives)) ≡ length (all_of of_one lives) =
            ap (λ o. length (with_item_first o (all_of of_one lives))) is in
            let few : length (all_of of_one lives) ≤ length lives = all_few of_one lives in
            omega (arith, fits, count, more, few)
        by_refused (Some x) is =
            let more : length (with_item_first refused (all_of of_one lives)) ≡ length (all_of of_one lives) + 1 =
            ap (λ o. length (with_item_first o (all_of of_one lives))) is ∙ one_more (all_of of_one lives) x in
            let a = apart x is in
            let few : length (all_of of_one lives) + 1 ≤ length lives = all_fewer of_one a.c lives a.lives_on a.awaits_none in
            omega (arith, fits, count, more, few)
