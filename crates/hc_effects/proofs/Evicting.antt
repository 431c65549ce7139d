-- What one eviction leaves: who is bound and who is live, and all that is current but what is evicted.
--
-- An eviction sends back who waits for what goes, and such a consumer was neither bound nor over; so who is bound and
-- who is live stays (`bound_same`, `live_same`). The list of what is founded is searched as before, but for what goes:
-- of a key just one is usable, so another stays found (`find_same`), and else none is (`find_none`). `evicts_one` joins
-- these; `one_after_all` is for several.
use Rattle.std.{proofs.{Common.{◌≡◌, inl, inr, ℕ, List, [], ◌∷◌, length, Bool, true, false, Option, Some, None, refl, ap, sym, ◌∙◌, arith}, lemmas.Bool.Decides.{nat_tests}}, specs.Prelude.{find, filter, nat_eq, ◌==◌, if◌then◌else◌, option_map}}
use Rattle.hc_text.proofs.Basics.{bool_cases, not_some as none_some, eq_itself as self_is}
use Rattle.hc_effects.proofs.Vocabulary.{Place, back_in_line, current, is_usable, live, is_live, is_live_place, back_from, as_gone, evict, evict_all, unless_it, bound, is_bound, is_bound_place, Tables, Representation, Consumer, OneCurrent, place}
use Rattle.hc_model.specs.{Effects.{waits_for}, Evictions.{EvictsOne, AnyLeavesOneCurrent}}
use Rattle.hc_effects.proofs.{Basics.{same_functions, false_true}, CurrentKeeps.{one_current_after, usable_row}, PieceKeeps.{eq_cases}, PollKeeps.{find_passes}}

-- WHO STANDS WHERE

-- who is sent back waited, and waits in line
back_bound : (now r q : ℕ) (k : Consumer) (p : Place) → k.place ≡ p →
    is_bound_place q (if waits_for r p then back_in_line now k else k).place ≡ is_bound_place q p
back_bound now r q k (place.Passed n kept) at = elim (bool_cases (r == n)) [ inl here ↦ rw here refl | inr other ↦ rw other (ap (is_bound_place q) at) ]
back_bound now r q k _ at = ap (is_bound_place q) at

back_live : (now r : ℕ) (k : Consumer) (p : Place) → k.place ≡ p → is_live_place (if waits_for r p then back_in_line now k else k).place ≡ is_live_place p
back_live now r k (place.Passed n kept) at = elim (bool_cases (r == n)) [ inl here ↦ rw here refl | inr other ↦ rw other (ap is_live_place at) ]
back_live now r k _ at = ap is_live_place at

row_bound : (now r q : ℕ) (z : Option Consumer) → is_bound q (option_map (back_from now r) z) ≡ is_bound q z
row_bound now r q None = refl
row_bound now r q (Some k) = back_bound now r q k k.place refl

row_live : (now r : ℕ) (z : Option Consumer) → is_live (option_map (back_from now r) z) ≡ is_live z
row_live now r None = refl
row_live now r (Some k) = back_live now r k k.place refl

bound_same : (t : Tables) (r q : ℕ) → bound (evict r t) q ≡ bound t q
unfolding bound
bound_same t r q = ap (λ test. filter test t.starts) (same_functions _ _ (λ c. row_bound t.moment r q (t.consumer c)))

live_same : (t : Tables) (r : ℕ) → live (evict r t) ≡ live t
live_same t r = ap (λ test. length (filter test t.starts)) (same_functions _ _ (λ c. row_live t.moment r (t.consumer c)))

-- WHAT IS CURRENT

usable_other : (key : List ℕ) (r q : ℕ) (z : Option Representation) → nat_eq r q ≡ false →
    is_usable key (if r == q then option_map as_gone z else z) ≡ is_usable key z
usable_other key r q z other = rw other refl

no_more : (key : List ℕ) (r q : ℕ) (z : Option Representation) → nat_eq r q ≡ true → is_usable key (if r == q then option_map as_gone z else z) ≡ false
no_more key r q z here = grind (arith, nat_tests)

module _ (t : Tables) (r : ℕ) (one : OneCurrent t) (key : List ℕ) where
  abbrev before : ℕ → Bool
  before q = is_usable key (t.representation q)

  abbrev after : ℕ → Bool
  after q = is_usable key (if r == q then option_map as_gone (t.representation q) else t.representation q)

  -- only r fails that passed
  find_same : (q : ℕ) (ns : List ℕ) → nat_eq r q ≡ false → ((n : ℕ) → before n ≡ true → n ≡ q) → find before ns ≡ Some q → find after ns ≡ Some q
  find_same q [] other only is = is
  find_same q (n ∷ ns) other only is = elim (bool_cases (before n)) [
    | inl passes ↦
        let same : n ≡ q = only n passes in
        let still : after n ≡ true = usable_other key r n (t.representation n) (ap (nat_eq r) same ∙ other) ∙ passes in
        rw still (ap Some same)
    | inr fails ↦
        let also : after n ≡ false = fails_too n fails in
        rw also (find_same q ns other only (rw fails at is))
  ]
    where
      fails_too : (n : ℕ) → before n ≡ false → after n ≡ false
      fails_too n fails = elim (bool_cases (r == n))
          [ inl here ↦ no_more key r n (t.representation n) here | inr apart ↦ usable_other key r n (t.representation n) apart ∙ fails ]

  find_none : (ns : List ℕ) → ((n : ℕ) → before n ≡ true → n ≡ r) → find after ns ≡ None
  find_none [] only = refl
  find_none (n ∷ ns) only = rw (fails n) (find_none ns only)
    where
      fails : (n : ℕ) → after n ≡ false
      fails n = elim (bool_cases (r == n)) [
        | inl here ↦ no_more key r n (t.representation n) here
        | inr apart ↦ usable_other key r n (t.representation n) apart ∙ by_before (before n) refl apart
      ]
        where
          by_before : (b : Bool) → before n ≡ b → nat_eq r n ≡ false → b ≡ false
          by_before false is apart = refl
          by_before true is apart = let same : n ≡ r = only n is in absurd (false_true (sym apart ∙ (ap (nat_eq r) same ∙ self_is r)))

  find_fails : (ns : List ℕ) → find before ns ≡ None → find after ns ≡ None
  find_fails [] is = refl
  find_fails (n ∷ ns) is = elim (bool_cases (before n)) [
    | inl passes ↦ absurd (none_some n (sym (rw passes at is)))
    | inr fails ↦
        let also : after n ≡ false = elim (bool_cases (r == n)) [ inl here ↦ no_more key r n (t.representation n) here | inr apart ↦ usable_other key r n (t.representation n) apart ∙ fails ] in
        rw also (find_fails ns (rw fails at is))
  ]

  only_it : (q : ℕ) → before q ≡ true → (n : ℕ) → before n ≡ true → n ≡ q
  only_it q passes n also =
      let u = usable_row t key q (t.representation q) refl passes in
      let v = usable_row t key n (t.representation n) refl also in
      one n q v.v u.v v.row u.row v.fresh u.fresh (v.of_key ∙ sym u.of_key)

  current_by : (o : Option ℕ) → find before t.founded ≡ o → find after t.founded ≡ unless_it r o
  current_by None is = find_fails t.founded is
  current_by (Some q) is = elim (eq_cases q r) [
    | inl here ↦ rw here.0 (find_none t.founded (λ n passes. only_it q (find_passes before t.founded q is) n passes ∙ here.1))
    | inr other ↦
        let apart : nat_eq r q ≡ false = (let no : nat_eq q r ≡ false = other.0 in grind (arith, nat_tests)) in
        rw other.0 (find_same q t.founded apart (only_it q (find_passes before t.founded q is)) is)
  ]

  current_same : current (evict r t) key ≡ unless_it r (current t key)
  unfolding current
  current_same = current_by (find before t.founded) refl

-- what is not gone after wasn't before
was_fresh : (b : Bool) (z : Option Representation) (v : Representation) → (if b then option_map as_gone z else z) ≡ Some v → v.is_gone ≡ false → z ≡ Some v
was_fresh b z v is fresh = grind (arith, nat_tests)

one_after : (t : Tables) (r : ℕ) → OneCurrent t → OneCurrent (evict r t)
one_after t r one n q v u row row' fresh fresh' same_key =
    one n q v u (was_fresh (r == n) (t.representation n) v row fresh) (was_fresh (r == q) (t.representation q) u row' fresh') fresh fresh' same_key

-- and so it stays with each
pub one_after_all : (rs : List ℕ) (t : Tables) → OneCurrent t → OneCurrent (evict_all rs t)
one_after_all [] t one = one
one_after_all (r ∷ rs) t one = one_after_all rs (evict r t) (one_after t r one)

pub evicts_one : EvictsOne
evicts_one t r one = record { current_is = current_same t r one; bound_is = bound_same t r; live_is = live_same t r; one_current = one_after t r one }

pub any_leaves_one_current : AnyLeavesOneCurrent
any_leaves_one_current = one_current_after
