-- What letting a representation go leaves: who is bound and who is live, and all that is current but what goes.
--
-- To let go is to evict at a moment (`let_go_is`). So who is bound and who is live stays, and all is current that was,
-- but what goes (`bound_let_go`, `live_let_go`, `current_let_go`). Others may be let go then (`keeps_may`), one after
-- another (`keeps_may_all`). What is gone or isn't there changes nothing (`let_go_nothing`). What was idle is so still,
-- but for it (`idle_let_go`).
use Rattle.std.{proofs.{Common.{◌≡◌, inl, inr, ℕ, List, [], ◌∷◌, ◌++◌, length, Bool, true, false, Option, Some, None, refl, ap, sym, ◌∙◌, subst, arith}, lemmas.Bool.Decides.{nat_tests}}, specs.Prelude.{nat_eq, option_map, is_some, filter, reverse, ◌&&◌, ◌||◌, not, ◌==◌, if◌then◌else◌}}
use Rattle.hc_text.proofs.Basics.{mapped, not_some as none_some, some_inj}
use Rattle.hc_effects.proofs.Vocabulary.{Place, back_in_line, idle_now, current, is_usable, is_number, live, back_from, as_gone, let_go, let_all_go, evict, unless_it, Lawful, WaitsOn, MayLetGo, AreOnce, bound, Tables, Representation, Consumer, Among, OneCurrent, place}
use Rattle.hc_model.specs.{Contents.{is_idle}, Effects.{waits_for}}
use Rattle.hc_effects.proofs.{Basics.{same_functions, false_true}, CurrentKeeps.{find_only, usable, usable_row}, Evicting.{evicts_one}, IdleNow.{filter_both}, PieceKeeps.{eq_cases}, SameTables.{is_in}, Sums.{filter_once, reverse_once}}

-- at the moment that it says, it is an eviction
let_go_is : (now r : ℕ) (t : Tables) → let_go now r t ≡ record (evict r (record t { moment = now })) { moment = t.moment }
let_go_is now r t = refl

module _ (now r : ℕ) (t : Tables) where
  abbrev before : Tables
  before = record t { moment = now }

  -- WHAT STAYS

  pub current_let_go : OneCurrent t → (key : List ℕ) → current (let_go now r t) key ≡ unless_it r (current t key)
  unfolding current
  current_let_go one key = ap (λ s. current s key) (let_go_is now r t) ∙ (evicts_one before r one).current_is key

  pub bound_let_go : OneCurrent t → (q : ℕ) → bound (let_go now r t) q ≡ bound t q
  unfolding bound
  bound_let_go one q = ap (λ s. bound s q) (let_go_is now r t) ∙ (evicts_one before r one).bound_is q

  pub live_let_go : OneCurrent t → live (let_go now r t) ≡ live t
  live_let_go one = ap live (let_go_is now r t) ∙ (evicts_one before r one).live_is

  one_let_go : OneCurrent t → OneCurrent (let_go now r t)
  one_let_go one = subst OneCurrent (sym (let_go_is now r t)) (evicts_one before r one).one_current

  -- WHO WAITS

  other_row : (q : ℕ) → nat_eq r q ≡ false → (let_go now r t).representation q ≡ t.representation q
  other_row q off = rw off refl

  -- whoever waits afterwards did before, and not for what went
  pub record StillWaits (c q : ℕ) (k : Consumer) : Type 0 where
    pub row : t.consumer c ≡ Some k
    pub off : nat_eq r q ≡ false

  still_by : (c q : ℕ) (kept : Option ℕ) (k w : Consumer) (b : Bool) → t.consumer c ≡ Some w → waits_for r w.place ≡ b →
      (if b then back_in_line now w else w) ≡ k → k.place ≡ place.Passed q kept → StillWaits c q k
  still_by c q kept k w b row is same at = grind (arith, nat_tests)

  still_row : (c q : ℕ) (kept : Option ℕ) (k : Consumer) (z : Option Consumer) → t.consumer c ≡ z → option_map (back_from now r) z ≡ Some k →
      k.place ≡ place.Passed q kept → StillWaits c q k
  still_row c q kept k None row same at = absurd (none_some k same)
  still_row c q kept k (Some w) row same at = still_by c q kept k w (waits_for r w.place) row refl (some_inj _ k same) at

  pub still_waits : (c q : ℕ) (kept : Option ℕ) (k : Consumer) → (let_go now r t).consumer c ≡ Some k → k.place ≡ place.Passed q kept → StillWaits c q k
  still_waits c q kept k row at = still_row c q kept k (t.consumer c) refl row at

  waits_on : (q : ℕ) (k : Consumer) → nat_eq r q ≡ false → WaitsOn t q k → WaitsOn (let_go now r t) q k
  waits_on q k off w = record { v = w.v; row = other_row q off ∙ w.row; key_is = w.key_is; not_gone = w.not_gone; queues = w.queues }

  there : (q : ℕ) → is_some ((let_go now r t).representation q) ≡ is_some (t.representation q)
  there q = grind (arith, nat_tests)

  -- and so others may be let go then
  pub keeps_may : MayLetGo t → MayLetGo (let_go now r t)
  keeps_may may = record {
    one_current = one_let_go may.one_current;
    founded = λ q some. may.founded q (sym (there q) ∙ some);
    started = λ c some. may.started c (sym (mapped (back_from now r) (t.consumer c)) ∙ some);
    waits = λ c q kept k row at. let still = still_waits c q kept k row at in waits_on q k still.off (may.waits c q kept k still.row at);
  }

-- WHAT IS CURRENT

module _ (t : Tables) (may : MayLetGo t) where
  pub current_may : (q : ℕ) (v : Representation) → t.representation q ≡ Some v → v.is_gone ≡ false → current t v.key ≡ Some q
  unfolding current
  current_may q v row fresh =
      find_only (λ n. is_usable v.key (t.representation n)) t.founded q (may.founded q (ap is_some row)) (usable v.key (t.representation q) v row refl fresh)
      (λ n passes. let u = usable_row t v.key n (t.representation n) refl passes in may.one_current n q u.v v u.row row u.fresh fresh u.of_key)

  -- what is gone, or not there, waits for nothing more
  pub let_go_nothing : (now r : ℕ) → ((v : Representation) → t.representation r ≡ Some v → v.is_gone ≡ true) → let_go now r t ≡ t
  let_go_nothing now r is_gone =
      let consumers : (let_go now r t).consumer ≡ t.consumer = same_functions _ _ (λ d. by_consumer d (t.consumer d) refl) in
      let representations : (let_go now r t).representation ≡ t.representation = same_functions _ _ (λ q. by_number q (r == q) refl) in
      λ i. record t { representation = representations i; consumer = consumers i }
    where
      by_place : (d : ℕ) (k : Consumer) (p : Place) → t.consumer d ≡ Some k → k.place ≡ p → back_from now r k ≡ k
      by_place d k (place.Passed q kept) row at = by_test (nat_eq r q) refl
        where
          by_test : (b : Bool) → nat_eq r q ≡ b → back_from now r k ≡ k
          by_test false off = rw (at, off) refl
          by_test true on =
              let same : r ≡ q = grind (arith, nat_tests) in
              let w = may.waits d q kept k row at in
              absurd (false_true (sym w.not_gone ∙ is_gone w.v (ap t.representation same ∙ w.row)))
      by_place d k _ row at = rw at refl

      by_consumer : (d : ℕ) (z : Option Consumer) → t.consumer d ≡ z → option_map (back_from now r) z ≡ z
      by_consumer d None row = refl
      by_consumer d (Some k) row = ap Some (by_place d k k.place row refl)

      by_row : (z : Option Representation) → t.representation r ≡ z → option_map as_gone z ≡ z
      by_row None row = refl
      by_row (Some v) row = ap (λ b. Some (record v { is_gone = b })) (sym (is_gone v row))

      by_number : (q : ℕ) (b : Bool) → nat_eq r q ≡ b → (if b then option_map as_gone (t.representation q) else t.representation q) ≡ t.representation q
      by_number q false off = refl
      by_number q true on = let same : r ≡ q = grind (arith, nat_tests) in by_row (t.representation q) (ap t.representation same)

-- ONE AFTER ANOTHER

pub all_more : (now : ℕ) (xs ys : List ℕ) (t : Tables) → let_all_go now (xs ++ ys) t ≡ let_all_go now ys (let_all_go now xs t)
all_more now [] ys t = refl
all_more now (r ∷ xs) ys t = all_more now xs ys (let_go now r t)

pub keeps_may_all : (now : ℕ) (rs : List ℕ) (t : Tables) → MayLetGo t → MayLetGo (let_all_go now rs t)
keeps_may_all now [] t may = may
keeps_may_all now (r ∷ rs) t may = keeps_may_all now rs (let_go now r t) (keeps_may now r t may)

none_out : (r : ℕ) (xs : List ℕ) → (Among r xs → ⊥) → filter (λ q. not (r == q)) xs ≡ xs
none_out r [] out = refl
none_out r (x ∷ xs) out = elim (eq_cases r x) [
  | inl here ↦ absurd (out (inl (sym here.1)))
  | inr other ↦ rw other.0 (ap (λ ys. x ∷ ys) (none_out r xs (λ among. out (inr among))))
]

module _ (now r : ℕ) (t : Tables) (may : MayLetGo t) where
  pub number_same : (o : Option ℕ) (q : ℕ) → is_number (unless_it r o) q ≡ (is_number o q && not (r == q))
  number_same o q = grind (arith, nat_tests)

  by_number : (a b c : Bool) → ((a && not c) && b) ≡ ((a && b) && not c)
  by_number a b c = grind (arith, nat_tests)

  idle_row : (q : ℕ) (z : Option Representation) → is_idle (let_go now r t) q (if r == q then option_map as_gone z else z) ≡ (is_idle t q z && not (r == q))
  idle_row q None = by_test (r == q)
    where
      by_test : (b : Bool) → is_idle (let_go now r t) q (if b then option_map as_gone None else None) ≡ (false && not b)
      by_test true = refl
      by_test false = refl
  idle_row q (Some v) = by_test (r == q) ∙ (ap (λ o. is_number o q && (length (bound (let_go now r t) q) == 0)) (current_let_go now r t may.one_current v.key)
      ∙ (ap (λ cs. is_number (unless_it r (current t v.key)) q && (length cs == 0)) (bound_let_go now r t may.one_current q)
      ∙ (ap (λ b. b && (length (bound t q) == 0)) (number_same (current t v.key) q) ∙
      by_number (is_number (current t v.key) q) (length (bound t q) == 0) (r == q))))
    where
      by_test : (b : Bool) → is_idle (let_go now r t) q
          (if b then option_map as_gone (Some v) else Some v) ≡ (is_number (current (let_go now r t) v.key) q && (length (bound (let_go now r t) q) == 0))
      by_test true = refl
      by_test false = refl

  -- all that was idle but for it is idle
  idle_let_go : idle_now (let_go now r t) ≡ filter (λ q. not (r == q)) (idle_now t)
  idle_let_go =
      filter_both (λ q. is_idle (let_go now r t) q ((let_go now r t).representation q)) (λ q. not (r == q)) (λ q. is_idle t q (t.representation q))
      (reverse t.used)
      (λ q. idle_row q (t.representation q))

  pub idle_next : AreOnce t.used → (rest : List ℕ) → idle_now t ≡ r ∷ rest → idle_now (let_go now r t) ≡ rest
  idle_next once rest is =
      let all_once : AreOnce (r ∷ rest) = subst AreOnce is (filter_once (λ q. is_idle t q (t.representation q)) (reverse t.used) (reverse_once t.used once)) in
      idle_let_go ∙ (ap (filter (λ q. not (r == q))) is ∙ (rw self (none_out r rest all_once.0)))
    where
      self : nat_eq r r ≡ true
      self = grind (arith, nat_tests)

pub idle_after : (now : ℕ) (xs ys : List ℕ) (t : Tables) → MayLetGo t → AreOnce t.used → idle_now t ≡ xs ++ ys → idle_now (let_all_go now xs t) ≡ ys
idle_after now [] ys t may once is = is
idle_after now (r ∷ xs) ys t may once is = idle_after now xs ys (let_go now r t) (keeps_may now r t may) once (idle_next now r t may once (xs ++ ys) is)

-- who is bound stays bound
pub bound_all : (now : ℕ) (rs : List ℕ) (t : Tables) → MayLetGo t → (q : ℕ) → bound (let_all_go now rs t) q ≡ bound t q
bound_all now [] t may q = refl
bound_all now (r ∷ rs) t may q = bound_all now rs (let_go now r t) (keeps_may now r t may) q ∙ bound_let_go now r t may.one_current q

-- and all that was current still is, but for these
pub current_all : (now : ℕ) (rs : List ℕ) (t : Tables) → MayLetGo t → (key : List ℕ) (q : ℕ) →
    is_number (current (let_all_go now rs t) key) q ≡ (is_number (current t key) q && not (is_in rs q))
current_all now [] t may key q = by_test (is_number (current t key) q)
  where
    by_test : (b : Bool) → b ≡ (b && true)
    by_test b = grind (arith, nat_tests)
current_all now (r ∷ rs) t may key q =
    current_all now rs (let_go now r t) (keeps_may now r t may) key q
    ∙ (ap (λ o. is_number o q && not (is_in rs q)) (current_let_go now r t may.one_current key)
    ∙ (ap (λ b. b && not (is_in rs q)) (number_same now r t may (current t key) q) ∙ by_tests (is_number (current t key) q) (r == q) (is_in rs q)))
  where
    by_tests : (a b d : Bool) → ((a && not b) && not d) ≡ (a && not (b || d))
    by_tests a b d = grind (arith, nat_tests)

-- it is so in every run
pub may_let_go : (t : Tables) → Lawful t → MayLetGo t
may_let_go t law = record {
  one_current = law.sound.one_current;
  founded = law.sound.numbered.lists.founded;
  started = law.sound.numbered.lists.started;
  waits = λ c r kept k row at.
      let w = law.passed.waits c r kept k row at in
      record { v = w.v; row = w.row; key_is = w.key_is; not_gone = w.not_gone; queues = law.places.passed_queues c r kept k row at };
}
