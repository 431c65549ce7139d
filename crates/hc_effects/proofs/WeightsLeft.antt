-- What all weighs once some were let go, or a consumer isn't bound any more, and how few give way to a write.
--
-- Where some are let go the other rows weigh what they did (`weight_left`). So all weigh less (`all_weigh_less`), and
-- where those were idle, by just what they weighed (`weigh_less`). Hence the write fits once what gives way went
-- (`fits_after`). One gives way to a slot, and two to a piece, since all that is idle is heavy (`one_gives_way`,
-- `two_give_way`). Who isn't bound any more adds nothing (`all_weigh_apart`).
use Rattle.std.{proofs.{Common.{◌≡◌, inl, inr, ℕ, ◌+◌, ◌≤◌, List, [], ◌∷◌, length, take, Bool, true, false, Option, Some, None, refl, ap, sym, ◌∙◌, subst, arith}, lemmas.Bool.Decides.{nat_tests}}, specs.{Prelude.{is_some, ◌&&◌, ◌||◌, ◌==◌, not, nat_eq, if◌then◌else◌, option_map, map, filter, reverse}, List.{sum_by}}}
use Rattle.hc_text.proofs.Basics.{and_right, bool_cases}
use Rattle.hc_effects.proofs.Vocabulary.{Limits, Write, room_of, gives_way, grown_by, weight_of, idle_now, current, is_current, as_gone, let_all_go, with_consumer, MayLetGo, MayMakeRoom, weight_now, weights_now, room_now, giving_way, AreOnce, bound, is_bound, is_bound_place, Tables, Representation, Consumer, Among, room}
use Rattle.hc_model.specs.{Contents.{is_idle}, LettingGo.{weight_in, first_idle}}
use Rattle.hc_effects.proofs.{Basics.{same_functions, false_true}, FewGiveWay.{AreHeavy, one_gives, two_give}, LettingGo.{bound_all, current_all}, SameTables.{all_go_is}, Sums.{is_in, in_among, among_of, sum_le, sum_two, sum_some, gives_enough, filter_among, filter_once, take_among, take_once, reverse_once}, Weighed.{held, has_some, total}}
use Rattle.hc_effects.proofs.SameTables as tables

-- both lists of tests say the same
same_in : (rs : List ℕ) (r : ℕ) → tables.is_in rs r ≡ is_in rs r
same_in [] r = refl
same_in (q ∷ rs) r = ap (λ b. (q == r) || b) (same_in rs r)

-- WHAT FITS

some_length : (cs : List ℕ) → not (length cs == 0) ≡ has_some cs
some_length [] = refl
some_length (c ∷ cs) = let some : nat_eq (length (c ∷ cs)) 0 ≡ false = grind (arith, nat_tests) in rw some refl

weight_held : (t : Tables) (r : ℕ) → weight_now t r ≡ held t r
weight_held t r = grind (arith, nat_tests)

pub weights_total : (t : Tables) → weights_now t ≡ total t
weights_total t = ap (λ f. sum_by f t.founded) (same_functions (weight_now t) (held t) (weight_held t))

-- WHERE SOME WERE LET GO

module _ (now : ℕ) (rs : List ℕ) (t : Tables) (may : MayLetGo t) where
  abbrev left : Tables
  left = let_all_go now rs t

  row_left : (r : ℕ) → left.representation r ≡ (if tables.is_in rs r then option_map as_gone (t.representation r) else t.representation r)
  row_left r = ap (λ (s : Tables). s.representation r) (all_go_is now rs t)

  founded_left : left.founded ≡ t.founded
  founded_left = ap (λ (s : Tables). s.founded) (all_go_is now rs t)

  none_in : (r : ℕ) (b : Bool) → weight_in left r (if b then option_map as_gone None else None) ≡ 0
  none_in r b = grind (arith, nat_tests)

  some_in : (r : ℕ) (b : Bool) (v : Representation) → weight_in
      left r (if b then option_map as_gone (Some v) else Some v) ≡ (if is_current left v.key r || not (length (bound left r) == 0) then weight_of v.size else 0)
  some_in r b v = grind (arith, nat_tests)

  -- what it weighs still
  weight_left : (r : ℕ) (v : Representation) → t.representation r ≡ Some v →
      weight_now left r ≡ (if (is_current t v.key r && not (is_in rs r)) || not (length (bound t r) == 0) then weight_of v.size else 0)
  unfolding current
  weight_left r v there =
      ap (weight_in left r) (row_left r ∙ ap (λ o. if tables.is_in rs r then option_map as_gone o else o) there)
      ∙ (some_in r (tables.is_in rs r) v
      ∙ (ap (λ b. if b || not (length (bound left r) == 0) then weight_of v.size else 0)
      (current_all now rs t may v.key r ∙ ap (λ b. is_current t v.key r && not b) (same_in rs r))
      ∙ ap (λ cs. if (is_current t v.key r && not (is_in rs r)) || not (length cs == 0) then weight_of v.size else 0) (bound_all now rs t may r)))

  weight_none : (r : ℕ) → t.representation r ≡ None → weight_now left r ≡ 0
  weight_none r none = ap (weight_in left r) (row_left r ∙ ap (λ o. if tables.is_in rs r then option_map as_gone o else o) none) ∙ none_in r (tables.is_in rs r)

  less : (a b d : Bool) (n : ℕ) → (if (a && b) || d then n else 0) ≤ (if a || d then n else 0)
  less a b d n = grind (arith, nat_tests)

  -- no more than before
  weighs_less : (r : ℕ) → weight_now left r ≤ weight_now t r
  weighs_less r = by_row (t.representation r) refl
    where
      by_row : (o : Option Representation) → t.representation r ≡ o → weight_now left r ≤ weight_in t r o
      by_row None there = let none : weight_now left r ≡ 0 = weight_none r there in omega arith
      by_row (Some v) there = subst (λ n. n ≤ weight_in t r (Some v)) (sym (weight_left r v there))
          (less (is_current t v.key r) (not (is_in rs r)) (not (length (bound t r) == 0)) (weight_of v.size))

  pub all_weigh_less : weights_now left ≤ weights_now t
  all_weigh_less =
      let fewer : sum_by (weight_now left) t.founded ≤ sum_by (weight_now t) t.founded =
      sum_le (weight_now left) (weight_now t) t.founded (λ r among. weighs_less r) in
      let same : weights_now left ≡ sum_by (weight_now left) t.founded = ap (sum_by (weight_now left)) founded_left in
      omega arith

  -- by as much as they weighed, where they were idle
  module _ (once : AreOnce rs) (idle : (r : ℕ) → Among r rs → is_idle t r (t.representation r) ≡ true) where
    idle_row : (r : ℕ) (o : Option Representation) → is_idle t r o ≡ true → (v : Representation) × (o ≡ Some v)
    idle_row r None on = absurd (false_true on)
    idle_row r (Some v) on = (v, refl)

    gone_none : (r : ℕ) → is_in rs r ≡ true → weight_now left r ≡ 0
    gone_none r on =
        let is = idle r (in_among rs r on) in
        let v = idle_row r (t.representation r) is in
        let alone : (length (bound t r) == 0) ≡ true = and_right (is_current t v.0.key r) (length (bound t r) == 0) (sym (ap (is_idle t r) v.1) ∙ is) in
        weight_left r v.0 v.1 ∙ rw (on, alone) (by_test (is_current t v.0.key r) (weight_of v.0.size))
      where
        by_test : (a : Bool) (n : ℕ) → (if (a && false) || false then n else 0) ≡ 0
        by_test true n = refl
        by_test false n = refl

    each_less : (r : ℕ) → weight_now left r + among_of (weight_now t) rs r ≤ weight_now t r
    each_less r = elim (bool_cases (is_in rs r)) [
      | inl on ↦ (let none : weight_now left r ≡ 0 = gone_none r on in let its : among_of (weight_now t) rs r ≡ weight_now t r = rw on refl in omega arith)
      | inr off ↦ (let none : among_of (weight_now t) rs r ≡ 0 = rw off refl in let fewer : weight_now left r ≤ weight_now t r = weighs_less r in omega arith)
    ]

    there : (r : ℕ) → Among r rs → Among r t.founded
    there r among = let v = idle_row r (t.representation r) (idle r among) in may.founded r (ap is_some v.1)

    pub weigh_less : weights_now left + sum_by (weight_now t) rs ≤ weights_now t
    weigh_less =
        let some : sum_by (weight_now t) rs ≤ sum_by (among_of (weight_now t) rs) t.founded = sum_some (weight_now t) rs t.founded once there in
        let both : sum_by (weight_now left) t.founded + sum_by (among_of (weight_now t) rs) t.founded ≤ sum_by (weight_now t) t.founded =
        sum_two (weight_now left) (among_of (weight_now t) rs) (weight_now t) t.founded (λ r among. each_less r) in
        let same : weights_now left ≡ sum_by (weight_now left) t.founded = ap (sum_by (weight_now left)) founded_left in
        omega arith

-- WHERE WHAT IS IDLE GAVE WAY

gives_from : (limits : Limits) (used : ℕ) (write : Write) (ws : List ℕ) (count : ℕ) → room_of limits used write ws ≡ room.After count →
    gives_way limits.max_total (used + grown_by write) ws ≡ Some count
unfolding room_of
gives_from limits used write ws count is = grind (arith, nat_tests)

-- the write fits then
pub fits_after : (limits : Limits) (now : ℕ) (t : Tables) (write : Write) (count : ℕ) → MayMakeRoom t → room_now limits t write ≡ room.After count →
    weights_now (let_all_go now (giving_way limits t write) t) + grown_by write ≤ limits.max_total
fits_after limits now t write count may is =
    let gives = gives_from limits (weights_now t) write (map (weight_now t) (idle_now t)) count is in
    let enough : weights_now t + grown_by write ≤ limits.max_total + sum_by (weight_now t) (take count (idle_now t)) =
    gives_enough limits.max_total (weights_now t + grown_by write) count (weight_now t) (idle_now t) gives in
    let once : AreOnce (idle_now t) = filter_once (λ r. is_idle t r (t.representation r)) (reverse t.used) (reverse_once t.used may.used) in
    let fewer : weights_now (let_all_go now (take count (idle_now t)) t) + sum_by (weight_now t) (take count (idle_now t)) ≤ weights_now t =
    weigh_less now (take count (idle_now t)) t may.may (take_once count (idle_now t) once)
    (λ r among. (filter_among (λ q. is_idle t q (t.representation q)) r (reverse t.used) (take_among count r (idle_now t) among)).1) in
    let same : giving_way limits t write ≡ take count (idle_now t) = ap (first_idle t) is in
    subst (λ rs. weights_now (let_all_go now rs t) + grown_by write ≤ limits.max_total) (sym same) (omega arith)

-- HOW MANY GIVE WAY

idle_heavy : (t : Tables) (r : ℕ) (o : Option Representation) → is_idle t r o ≡ true → 32768 ≤ weight_in t r o
idle_heavy t r o on = grind (arith, nat_tests)

all_heavy : (t : Tables) (rs : List ℕ) → AreHeavy (map (weight_now t) (filter (λ r. is_idle t r (t.representation r)) rs))
all_heavy t [] = tt
all_heavy t (r ∷ rs) = elim (bool_cases (is_idle t r (t.representation r))) [
  | inl passes ↦ rw passes (idle_heavy t r (t.representation r) passes, all_heavy t rs)
  | inr fails ↦ rw fails (all_heavy t rs)
]

-- one to a slot, and two to a piece
pub one_gives_way : (limits : Limits) (t : Tables) (write : Write) (count : ℕ) → weights_now t ≤ limits.max_total → grown_by write ≤ 32768 →
    room_now limits t write ≡ room.After count → count ≤ 1
one_gives_way limits t write count fits small is =
    one_gives limits.max_total (weights_now t + grown_by write) count (map (weight_now t) (idle_now t)) (all_heavy t (reverse t.used)) (omega arith)
    (gives_from limits (weights_now t) write (map (weight_now t) (idle_now t)) count is)

pub two_give_way : (limits : Limits) (t : Tables) (write : Write) (count : ℕ) → weights_now t ≤ limits.max_total → grown_by write ≤ 65536 →
    room_now limits t write ≡ room.After count → count ≤ 2
two_give_way limits t write count fits small is =
    two_give limits.max_total (weights_now t + grown_by write) count (map (weight_now t) (idle_now t)) (all_heavy t (reverse t.used)) (omega arith)
    (gives_from limits (weights_now t) write (map (weight_now t) (idle_now t)) count is)

-- WHERE A CONSUMER ISN'T BOUND ANY MORE

filters_less : (f h : ℕ → Bool) (cs : List ℕ) → ((c : ℕ) → h c ≡ true → f c ≡ true) → has_some (filter h cs) ≡ true → has_some (filter f cs) ≡ true
filters_less f h [] into some = some
filters_less f h (c ∷ cs) into some = by_tests (f c) (h c) refl refl (λ rest. filters_less f h cs into rest)
  where
    by_tests : (a b : Bool) → f c ≡ a → h c ≡ b → (has_some (filter h cs) ≡ true → has_some (filter f cs) ≡ true) → has_some (filter f (c ∷ cs)) ≡ true
    by_tests true b passes is further = rw passes refl
    by_tests false true fails is further = absurd (false_true (sym fails ∙ into c is))
    by_tests false false fails is further = let rest : has_some (filter h cs) ≡ true = rw is at some in rw fails (further rest)

module _ (c : ℕ) (z : Consumer) (t : Tables) (unbound : (r : ℕ) → is_bound_place r z.place ≡ false) where
  bound_was : (r d : ℕ) → is_bound r ((with_consumer c (Some z) t).consumer d) ≡ true → is_bound r (t.consumer d) ≡ true
  bound_was r d on = grind (arith, nat_tests)

  some_was : (r : ℕ) → has_some (bound (with_consumer c (Some z) t) r) ≡ true → has_some (bound t r) ≡ true
  unfolding bound
  some_was r some = filters_less (λ d. is_bound r (t.consumer d)) (λ d. is_bound r ((with_consumer c (Some z) t).consumer d)) t.starts
      (λ d on. bound_was r d on) some

  fewer : (a b d : Bool) (n : ℕ) → (b ≡ true → d ≡ true) → (if a || b then n else 0) ≤ (if a || d then n else 0)
  fewer a b d n into = grind (arith, nat_tests)

  apart_less : (r : ℕ) → weight_now (with_consumer c (Some z) t) r ≤ weight_now t r
  unfolding current
  apart_less r = by_row (t.representation r)
    where
      by_row : (o : Option Representation) → weight_in (with_consumer c (Some z) t) r o ≤ weight_in t r o
      by_row None = omega arith
      by_row (Some v) = fewer (is_current t v.key r) (not (length (bound (with_consumer c (Some z) t) r) == 0)) (not (length (bound t r) == 0))
          (weight_of v.size)
          (λ on. some_length (bound t r) ∙ some_was r (sym (some_length (bound (with_consumer c (Some z) t) r)) ∙ on))

  pub all_weigh_apart : weights_now (with_consumer c (Some z) t) ≤ weights_now t
  all_weigh_apart = sum_le (weight_now (with_consumer c (Some z) t)) (weight_now t) t.founded (λ r among. apart_less r)
