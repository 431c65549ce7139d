-- The loop of a doom, in ascending order of exchanges: which exchange is closed next, and what was closed so far.
--
-- The next one is the least, not below `from`, that a seat waits for or that is refused. It is found by a loop over the
-- seats (`none_seen`, `more_seen`, `all_seen`). By `ClosesBelow` just those below `from` are closed. Each next one goes
-- to the end of an ascending list, so none is closed twice (`one_closed`). Where there is no next, all are
-- (`all_closed`). Invariants and answers of `next_to_close` and `close_awaited` use these.
use Rattle.std.{proofs.{Common.{◌≡◌, ◌≢◌, ◌⊎◌, inl, inr, ℕ, ◌+◌, ◌<◌, ◌≤◌, List, [], ◌∷◌, ◌++◌, length, min, Bool, true, false, cond, eqb, leb, Option, Some, None, refl, ap, sym, ◌∙◌, subst, arith, length-append}, lemmas.{Bool.Decides.{nat_tests}, List.{append_assoc, append-nil}}}, specs.{Prelude.{map, nat_eq, nat_le, option_and_then, ◌||◌}, HashMap.{get}}}
use Rattle.hc_text.proofs.Basics.{eqb-other, eqb-same, false_true, same_or, some_inj as some_is}
use Rattle.hc_store.specs.declared.backend.Backend.{Ghosts}
use Rattle.hc_effects.proofs.Vocabulary.{Act, lesser, awaited_exchange, act}
use Rattle.hc_effects.proofs.Tests.{none_some}
use Rattle.hc_entry.specs.{declared.keys.KeyTable.{KeyTable}, Keys.{line_of, seated_at, AllAreSeatedBelow}, Lines.{is_in}}
use Rattle.hc_text.specs.Sorted.{is_among, itself, is_sorted}
use Rattle.hc_entry.proofs.SeatLemmas.{first_in}
use Rattle.hc_exch.specs.{declared.exchanges.Exchanges.{Exchanges}, Exchanges.{table_of, next_of}}
use Rattle.hc_exch.specs.Exchanges as exch
use Rattle.hc_exch.specs.Known as known
use Rattle.hc_state.specs.{declared.rows.Rows.{Rows}, Dooms.{awaited_by, IsAwaited, IsToClose, IsNext, AreAtMost, nearer, Closes}}
use Rattle.hc_txn.specs.declared.transaction.Transaction.{Transaction as Consumer}
use Rattle.hc_on_head.proofs.AscendingLists.{among-append, among_cases, is_first, is_later, ascends_last}

-- THE NEXT ONE

abbrev pub seat_awaits : {B : Type 0} {g : Ghosts B} → Rows B g → List ℕ → ℕ → Option ℕ
seat_awaits r key i = option_and_then (awaited_by r) (seated_at r.keys key i)

-- the refused one, or one of which a seat below i tells
abbrev pub IsSeenBelow : {B : Type 0} {g : Ghosts B} → Rows B g → List ℕ → Option ℕ → ℕ → ℕ → Type 0
IsSeenBelow r key refused i x = (refused ≡ Some x) ⊎ ((j : ℕ) × (j < i) × (seat_awaits r key j ≡ Some x))

pub record IsNextBelow {B : Type 0} {g : Ghosts B} (r : Rows B g) (key : List ℕ) (refused : Option ℕ) (from i : ℕ) (next : Option ℕ) : Type 0 where
  pub least : IsNext (IsSeenBelow r key refused i) from next
  pub found : (x : ℕ) → next ≡ Some x → IsToClose r key refused x

lesser_is : (P Q : ℕ → Type 0) (from : ℕ) (next : Option ℕ) (x : ℕ) → IsNext P from next → from ≤ x → Q x → ((y : ℕ) → P y → Q y) →
    ((y : ℕ) → Q y → P y ⊎ (x ≡ y)) → IsNext Q from (lesser next x)
lesser_is P Q from None x least le new more split = (
  le,
  new,
  λ y q above. elim (split y q) [
    | inl p ↦ (let low = least y p in absurd (omega (arith, low)))
    | inr same ↦ omega (arith, same)
  ],
)
lesser_is P Q from (Some n) x least le new more split = by_order (leb n x) refl
  where
    lower : (m : ℕ) → m ≤ n → m ≤ x → (y : ℕ) → Q y → from ≤ y → m ≤ y
    lower m below_n below_x y q above = elim (split y q) [
      | inl p ↦ (let up = least.2 y p above in omega (arith, up))
      | inr same ↦ omega (arith, same)
    ]

    by_order : (b : Bool) → leb n x ≡ b → IsNext Q from (Some (min n x))
    by_order true on =
        let le_x : n ≤ x = grind (arith, nat_tests, on) in
        let is : min n x ≡ n = omega arith in
        let a = least.0 in
        rw is (a, more n least.1, λ y q above. lower n (omega arith) le_x y q above)
    by_order false off =
        let lt : x < n = grind (arith, nat_tests, off) in
        let is : min n x ≡ x = omega arith in
        rw is (le, new, λ y q above. lower x (omega arith) (omega arith) y q above)

-- one that is too low says nothing
too_low : (P Q : ℕ → Type 0) (from : ℕ) (next : Option ℕ) → IsNext P from next → ((y : ℕ) → P y → Q y) → ((y : ℕ) → Q y → P y ⊎ (y < from)) → IsNext Q from next
too_low P Q from None least more split = λ y q. elim (split y q) [ inl p ↦ least y p | inr low ↦ low ]
too_low P Q from (Some n) least more split =
    (least.0, more n least.1, λ y q above. elim (split y q) [ inl p ↦ least.2 y p above | inr low ↦ absurd (omega (arith, low)) ])

nearer_is : (P Q : ℕ → Type 0) (from : ℕ) (next o : Option ℕ) → IsNext P from next → ((y : ℕ) → P y → Q y) → ((y : ℕ) → o ≡ Some y → Q y) →
    ((y : ℕ) → Q y → P y ⊎ (o ≡ Some y)) → IsNext Q from (nearer from next o)
nearer_is P Q from next None least more new split = too_low P Q from next least more (λ y q. elim (split y q) [ inl p ↦ inl p | inr never ↦ none_some y never ])
nearer_is P Q from next (Some x) least more new split = by_test (nat_le from x) refl
  where
    by_test : (b : Bool) → nat_le from x ≡ b → IsNext Q from (cond b (lesser next x) next)
    by_test true on = lesser_is P Q from next x least (grind (arith, nat_tests, on)) (new x refl) more
        (λ y q. elim (split y q) [ inl p ↦ inl p | inr same ↦ inr (some_is x y same) ])
    by_test false off = too_low P Q from next least more (λ y q. elim (split y q) [
      | inl p ↦ inl p
      | inr same ↦ inr (let lt : x < from = grind (arith, nat_tests, off) in let one = some_is x y same in omega (arith, one))
    ])

nearer_found : (P : ℕ → Type 0) (from : ℕ) (next o : Option ℕ) → ((x : ℕ) → next ≡ Some x → P x) → ((x : ℕ) → o ≡ Some x → P x) → (x : ℕ) →
    nearer from next o ≡ Some x → P x
nearer_found P from next None old new x is = old x is
nearer_found P from next (Some y) old new x is = by_test (nat_le from y) is
  where
    by_next : (n : Option ℕ) → ((z : ℕ) → n ≡ Some z → P z) → lesser n y ≡ Some x → P x
    by_next None before same = subst P (some_is y x same) (new y refl)
    by_next (Some n) before same = by_order (leb n y) refl
      where
        by_order : (b : Bool) → leb n y ≡ b → P x
        by_order true on = (let least : min n y ≡ n = (let le : n ≤ y = grind (arith, nat_tests, on) in omega arith) in
            subst P (sym least ∙ some_is (min n y) x same) (before n refl))
        by_order false off = (let least : min n y ≡ y = (let lt : y < n = grind (arith, nat_tests, off) in omega arith) in
            subst P (sym least ∙ some_is (min n y) x same) (new y refl))

    by_test : (b : Bool) → cond b (lesser next y) next ≡ Some x → P x
    by_test true same = by_next next old same
    by_test false same = old x same

module _ {B : Type 0} {g : Ghosts B} (r : Rows B g) (key : List ℕ) (refused : Option ℕ) (from : ℕ) where
  pub none_seen : IsNextBelow r key refused from 0 (nearer from None refused)
  none_seen = record {
    least = nearer_is (λ y. ⊥) (IsSeenBelow r key refused 0) from None refused (λ y never. absurd never) (λ y never. absurd never) (λ y is. inl is)
        (λ y seen. elim seen [ inl is ↦ inr is | inr below ↦ absurd (let lt = below.1 in omega (arith, lt)) ]);
    found = nearer_found (IsToClose r key refused) from None refused (λ x never. none_some x never) (λ x is. inl is);
  }

  pub more_seen : (i : ℕ) (next o : Option ℕ) → IsNextBelow r key refused from i next → o ≡ seat_awaits r key i →
      ((x : ℕ) → o ≡ Some x → IsAwaited r key x) → IsNextBelow r key refused from (i + 1) (nearer from next o)
  more_seen i next o before is inside = record {
    least = nearer_is (IsSeenBelow r key refused i) (IsSeenBelow r key refused (i + 1)) from next o before.least
        (λ y seen. elim seen [ inl same ↦ inl same | inr below ↦ inr (below.0, (let lt = below.1 in omega (arith, lt)), below.2) ])
        (λ y some. inr (i, omega arith, sym is ∙ some))
        (λ y seen. elim seen [
          | inl same ↦ inl (inl same)
          | inr below ↦ elim (same_or below.0 i) [
            | inl here ↦ inr (is ∙ (ap (seat_awaits r key) (sym here) ∙ below.2))
            | inr ne ↦ inl (inr (below.0, (let lt = below.1 in omega (arith, lt, ne)), below.2))
          ]
        ]);
    found = nearer_found (IsToClose r key refused) from next o before.found (λ x some. inr (inside x some));
  }

  pub all_seen : (end i : ℕ) (next : Option ℕ) → AllAreSeatedBelow end r.keys key → end ≤ i → IsNextBelow r key refused from i next →
      IsNext (IsToClose r key refused) from next
  all_seen end i next seated le below = by_next next below.least below.found
    where
      seen : (y : ℕ) → IsToClose r key refused y → IsSeenBelow r key refused i y
      seen y (inl is) = inl is
      seen y (inr waits) = let (j, lt, there) = seated waits.c waits.waits in
          inr (j, omega (arith, lt, le), ap (option_and_then (awaited_by r)) there ∙ waits.for_it)

      by_next : (o : Option ℕ) → IsNext (IsSeenBelow r key refused i) from o → ((x : ℕ) → o ≡ Some x → IsToClose r key refused x) →
          IsNext (IsToClose r key refused) from o
      by_next None least found = λ y is. least y (seen y is)
      by_next (Some x) least found = (least.0, found x refl, λ y is above. least.2 y (seen y is) above)

-- WHAT WAS CLOSED

-- Those below `from` are closed, with so many acts that still fit.
pub record ClosesBelow {B : Type 0} {g : Ghosts B} (r : Rows B g) (after : Exchanges) (key : List ℕ) (refused : Option ℕ) (before out : List Act)
    (room spare from : ℕ) : Type 0 where
  pub xs : List ℕ
  pub ascending : is_sorted itself xs ≡ true
  pub each : (x : ℕ) → is_among x xs ≡ true → IsToClose r key refused x
  pub below : (x : ℕ) → is_among x xs ≡ true → x < from
  pub all : (x : ℕ) → IsToClose r key refused x → x < from → is_among x xs ≡ true
  pub acts : out ≡ before ++ map act.Close xs
  pub known : (x : ℕ) → table_of after x ≡ cond (is_among x xs) (known.without_exchange (table_of r.exchanges x)) (table_of r.exchanges x)
  pub next : next_of after ≡ next_of r.exchanges
  pub fits : spare + length xs ≡ room

pub none_closed : {B : Type 0} {g : Ghosts B} (r : Rows B g) (key : List ℕ) (refused : Option ℕ) (before : List Act) (room : ℕ) →
    ClosesBelow r r.exchanges key refused before before room room 0
none_closed r key refused before room = record {
  xs = [];
  ascending = refl;
  each = λ x there. false_true there;
  below = λ x there. false_true there;
  all = λ x is lt. absurd (omega (arith, lt));
  acts = sym (append-nil before);
  known = λ x. refl;
  next = refl;
  fits = omega arith;
}

map-append : (xs ys : List ℕ) → map act.Close (xs ++ ys) ≡ map act.Close xs ++ map act.Close ys
map-append [] ys = refl
map-append (x ∷ xs) ys = ap (λ zs. act.Close x ∷ zs) (map-append xs ys)

module _ {B : Type 0} {g : Ghosts B} (r : Rows B g) (mid : Exchanges) (key : List ℕ) (refused : Option ℕ) (before out : List Act) (room spare from x : ℕ)
    (closed : ClosesBelow r mid key refused before out room spare from)
    (is_next : IsNext (IsToClose r key refused) from (Some x)) where
  unclosed : is_among x closed.xs ≡ false
  unclosed = grind (arith, nat_tests)

  pub known_yet : table_of mid x ≡ table_of r.exchanges x
  known_yet = closed.known x ∙ rw unclosed refl

  with_next : (y : ℕ) → is_among y (closed.xs ++ (x ∷ [])) ≡ true → is_among y closed.xs ≡ true ⊎ (x ≡ y)
  with_next y there = by_test (is_among y closed.xs) refl (sym (among-append y closed.xs (x ∷ [])) ∙ there)
    where
      by_test : (b : Bool) → is_among y closed.xs ≡ b → (b || is_among y (x ∷ [])) ≡ true → is_among y closed.xs ≡ true ⊎ (x ≡ y)
      by_test true on either = inl on
      by_test false off last = elim (among_cases y x [] last) [ is_first same ↦ inr same | is_later never ↦ false_true never ]

  ascends_on : is_sorted itself (closed.xs ++ (x ∷ [])) ≡ true
  ascends_on = ascends_last x closed.xs closed.ascending (λ n there. let lt = closed.below n there in let le = is_next.0 in omega (arith, lt, le))

  each_next : (y : ℕ) → is_among y (closed.xs ++ (x ∷ [])) ≡ true → IsToClose r key refused y
  each_next y there = elim (with_next y there) [ inl before_it ↦ closed.each y before_it | inr same ↦ subst (IsToClose r key refused) same is_next.1 ]

  pub fits_yet : (most : ℕ) → AreAtMost most (IsToClose r key refused) → most ≤ room → 1 ≤ spare
  fits_yet most few enough = grind (arith, nat_tests, length, ascends_on, each_next, length-append)

  pub one_closed : (after : Exchanges) (out_after : List Act) (spare_after : ℕ) → out_after ≡ out ++ (act.Close x ∷ []) → spare_after + 1 ≡ spare →
      exch.Becomes known.without_exchange x mid after → ClosesBelow r after key refused before out_after room spare_after (x + 1)
  one_closed after out_after spare_after acts less becomes = record {
    xs = closed.xs ++ (x ∷ []);
    ascending = ascends_on;
    each = each_next;
    below = λ y there. elim (with_next y there)
        [ inl on ↦ (let lt = closed.below y on in let le = is_next.0 in omega (arith, lt, le)) | inr same ↦ omega (arith, same) ];
    all = all_next;
    acts = acts ∙ (ap (λ zs. zs ++ (act.Close x ∷ [])) closed.acts ∙
        (append_assoc before (map act.Close closed.xs) (act.Close x ∷ []) ∙ ap (λ zs. before ++ zs) (sym (map-append closed.xs (x ∷ [])))));
    known = λ y. becomes.table y ∙
        (known_next y ∙ sym (ap (λ b. cond b (known.without_exchange (table_of r.exchanges y)) (table_of r.exchanges y)) (among-append y closed.xs (x ∷ []))));
    next = becomes.next ∙ closed.next;
    fits = (let fits = closed.fits in let more : length (closed.xs ++ (x ∷ [])) ≡ length closed.xs + 1 = length-append closed.xs (x ∷ []) in
        omega (arith, fits, more, less));
  }
    where
      all_next : (y : ℕ) → IsToClose r key refused y → y < x + 1 → is_among y (closed.xs ++ (x ∷ [])) ≡ true
      all_next y is lt = elim (same_or x y) [
        | inl same ↦ among-append y closed.xs (x ∷ []) ∙ or_last (is_among y closed.xs) (subst (λ n. is_among n (x ∷ []) ≡ true) same (first_in x []))
        | inr ne ↦ among-append y closed.xs (x ∷ []) ∙ ap (λ b. b || is_among y (x ∷ [])) (closed.all y is (by_test (leb from y) refl ne))
      ]
        where
          or_last : (b : Bool) {c : Bool} → c ≡ true → (b || c) ≡ true
          or_last true on = refl
          or_last false on = on

          by_test : (b : Bool) → leb from y ≡ b → x ≢ y → y < from
          by_test false off ne = grind (arith, nat_tests, off)
          by_test true on ne = absurd (let above : from ≤ y = grind (arith, nat_tests, on) in let le = is_next.2 y is above in omega (arith, le, lt, ne))

      known_next : (y : ℕ) → cond (eqb x y) (known.without_exchange (table_of mid x)) (table_of mid y) ≡ cond
          (is_among y closed.xs || is_among y (x ∷ [])) (known.without_exchange (table_of r.exchanges y)) (table_of r.exchanges y)
      known_next y = elim (same_or x y) [
        | inl same ↦ subst (λ n. cond (eqb x n) (known.without_exchange (table_of mid x)) (table_of mid n) ≡ cond
            (is_among n closed.xs || is_among n (x ∷ [])) (known.without_exchange (table_of r.exchanges n)) (table_of r.exchanges n)) same
            (rw (eqb-same x, unclosed, known_yet) refl)
        | inr ne ↦ (let off : eqb x y ≡ false = eqb-other x y ne in rw (off, closed.known y) (grind (arith, nat_tests)))
      ]

pub all_closed : {B : Type 0} {g : Ghosts B} (r : Rows B g) (after : Exchanges) (key : List ℕ) (refused : Option ℕ) (before out : List Act)
    (room spare from : ℕ) → ClosesBelow r after key refused before out room spare from → IsNext (IsToClose r key refused) from None →
    Closes r after key refused before out
all_closed r after key refused before out room spare from closed none = record {
  xs = closed.xs;
  ascending = closed.ascending;
  each = closed.each;
  all = λ x is. closed.all x is (none x is);
  acts = closed.acts;
  known = closed.known;
  next = closed.next;
}

-- of the same consumers and keys
pub same_to_close : {B : Type 0} {g : Ghosts B} (r mid : Rows B g) (key : List ℕ) (refused : Option ℕ) (x : ℕ) → mid.consumers ≡ r.consumers →
    mid.keys ≡ r.keys → IsToClose mid key refused x → IsToClose r key refused x
same_to_close r mid key refused x same_consumers same_keys (inl is) = inl is
same_to_close r mid key refused x same_consumers same_keys (inr is) = inr (record {
  c = is.c;
  waits = ap (λ (z : KeyTable). is_in is.c (line_of z key)) (sym same_keys) ∙ is.waits;
  for_it = ap (λ z. option_and_then (λ (k : Consumer). awaited_exchange k.place) (get nat_eq z is.c)) (sym same_consumers) ∙ is.for_it;
})

pub next_as : {B : Type 0} {g : Ghosts B} (r mid : Rows B g) (key : List ℕ) (refused : Option ℕ) (from : ℕ) (o : Option ℕ) → mid.consumers ≡ r.consumers →
    mid.keys ≡ r.keys → IsNext (IsToClose mid key refused) from o → IsNext (IsToClose r key refused) from o
next_as r mid key refused from None same_consumers same_keys none = λ y is. none y (same_to_close mid r key refused y (sym same_consumers) (sym same_keys) is)
next_as r mid key refused from (Some x) same_consumers same_keys next = (
  next.0,
  same_to_close r mid key refused x same_consumers same_keys next.1,
  λ y is above. next.2 y (same_to_close mid r key refused y (sym same_consumers) (sym same_keys) is) above,
)
