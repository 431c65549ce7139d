-- Whose turn it is: what is kept of a key tells it as the tables do.
--
-- The turn is its holder's, or else that of the least in line. The two lists of a line may differ in order, but have
-- the same members: so their least is the same (`least_alike`). The holder is looked for among all who started
-- (`find_on`, `find_off`). `turn_of_is` joins both, and by `turn_is` nobody holds the turn where who is next doesn't.
-- `turn_next` is for who stands in line only from now on. The plan of a poll uses them.
use Rattle.std.{proofs.{Common.{◌≡◌, ◌≢◌, ◌⊎◌, inl, inr, ℕ, ◌≤◌, List, [], ◌∷◌, Bool, true, false, min, eqb, Option, Some, None, refl, ap, sym, ◌∙◌, arith}, lemmas.Bool.Decides.{nat_tests}}, specs.{Prelude.{filter, find, is_some, unwrap_or, ◌&&◌, ◌||◌}, Option.{option_or}}}
use Rattle.hc_text.proofs.Basics.{and_both as and_parts, bool_cases, eq_by, eqb-same, false_true, or_cases as in_either, or_right as later_in, same_or, some_inj as some_is}
use Rattle.hc_entry.specs.{Kept.{Kept, line_in}, Lines.{is_held_by, turn_of, turn_with}}
use Rattle.hc_text.specs.Sorted.{is_among}
use Rattle.hc_effects.proofs.Vocabulary.{least, lesser, is_in_line, holds_turn, line, holder, Tables, Consumer, Among, IsListed}
use Rattle.hc_effects.proofs.Tests.{none_some}
use Rattle.hc_model.specs.Lines as lines
use Rattle.hc_state.specs.Lines.{KeepsKey, has_turn}

-- THE LEAST

pub record IsLeast (m : ℕ) (xs : List ℕ) : Type 0 where
  pub among : is_among m xs ≡ true
  pub below : (c : ℕ) → is_among c xs ≡ true → m ≤ c

pub least_none : (xs : List ℕ) → least xs ≡ None → xs ≡ []
least_none [] is = refl
least_none (n ∷ ns) is = grind (arith, nat_tests)

pub least_some : (xs : List ℕ) (m : ℕ) → least xs ≡ Some m → IsLeast m xs
least_some [] m is = none_some m is
least_some (n ∷ ns) m is = by_least (λ k some. least_some ns k some) (least ns) refl is
  where
    by_least : ((k : ℕ) → least ns ≡ Some k → IsLeast k ns) → (o : Option ℕ) → least ns ≡ o → lesser o n ≡ Some m → IsLeast m (n ∷ ns)
    by_least before None none at =
        let same : n ≡ m = some_is n m at in
        let empty : ns ≡ [] = least_none ns none in
        record {
          among = rw (← same, eqb-same n) refl;
          below = λ c there. elim (in_either (eqb n c) (is_among c ns) there) [
            | inl here ↦ (let eq = eq_by n c here in omega (arith, same, eq))
            | inr later ↦ false_true (let never : is_among c [] ≡ true = rw empty at later in never)
          ];
        }
    by_least before (Some k) some at =
        let same : min k n ≡ m = some_is (min k n) m at in
        let rest = before k some in
        record {
          among = elim (bool_cases (eqb n m)) [
            | inl here ↦ rw here refl
            | inr off ↦ (let is_k : k ≡ m = grind (arith, nat_tests, off, same) in later_in (eqb n m) (is_among m ns) (rw (← is_k) rest.among))
          ];
          below = λ c there. elim (in_either (eqb n c) (is_among c ns) there) [
            | inl here ↦ (let eq = eq_by n c here in omega (arith, same, eq))
            | inr later ↦ (let le = rest.below c later in omega (arith, same, le))
          ];
        }

pub least_there : (xs : List ℕ) (c : ℕ) → is_among c xs ≡ true → (m : ℕ) × (least xs ≡ Some m)
least_there xs c there = by_least (least xs) refl
  where
    by_least : (o : Option ℕ) → least xs ≡ o → (m : ℕ) × (least xs ≡ Some m)
    by_least None none = let empty = least_none xs none in false_true (rw empty at there)
    by_least (Some m) some = (m, some)

pub least_alike : (xs ys : List ℕ) → ((c : ℕ) → is_among c xs ≡ is_among c ys) → least xs ≡ least ys
least_alike xs ys alike = by_least (least xs) refl
  where
    by_other : (m : ℕ) → least xs ≡ Some m → (o : Option ℕ) → least ys ≡ o → least xs ≡ least ys
    by_other m some None none = let here = (least_some xs m some).among in let empty = least_none ys none in let never : is_among m ys ≡ true =
        sym (alike m) ∙ here in false_true (rw empty at never)
    by_other m some (Some k) other =
        let a = least_some xs m some in
        let b = least_some ys k other in
        let up : m ≤ k = a.below k (alike k ∙ b.among) in
        let down : k ≤ m = b.below m (sym (alike m) ∙ a.among) in
        some ∙ (ap Some (omega (arith, up, down)) ∙ sym other)

    by_none : least xs ≡ None → (o : Option ℕ) → least ys ≡ o → least xs ≡ least ys
    by_none none None other = none ∙ sym other
    by_none none (Some k) other = let there = (least_some ys k other).among in let empty = least_none xs none in let never : is_among k xs ≡ true =
        alike k ∙ there in false_true (rw empty at never)

    by_least : (o : Option ℕ) → least xs ≡ o → least xs ≡ least ys
    by_least None none = by_none none (least ys) refl
    by_least (Some m) some = by_other m some (least ys) refl

-- THE LINE OF THE TABLES

pub among_in : (c : ℕ) (xs : List ℕ) → Among c xs → is_among c xs ≡ true
among_in c [] none = absurd none
among_in c (x ∷ xs) (inl is) = rw (is, eqb-same c) refl
among_in c (x ∷ xs) (inr later) = later_in (eqb x c) (is_among c xs) (among_in c xs later)

pub filter_in : (f : ℕ → Bool) (c : ℕ) (xs : List ℕ) → is_among c (filter f xs) ≡ (f c && is_among c xs)
filter_in f c [] = grind (arith, nat_tests)
filter_in f c (x ∷ xs) = by_test (filter_in f c xs) (f x) refl
  where
    swaps : (e b rest : Bool) → (e ≡ true → b ≡ true) → (e || (b && rest)) ≡ (b && (e || rest))
    swaps true true rest same = refl
    swaps true false rest same = false_true (same refl)
    swaps false b rest same = refl

    drops : (e b rest : Bool) → (e ≡ true → b ≡ false) → (b && rest) ≡ (b && (e || rest))
    drops e false rest same = refl
    drops true true rest same = false_true (sym (same refl))
    drops false true rest same = refl

    by_test : is_among c (filter f xs) ≡ (f c && is_among c xs) → (b : Bool) → f x ≡ b → is_among c (filter f (x ∷ xs)) ≡ (f c && is_among c (x ∷ xs))
    by_test rest true is = rw (is, rest) (swaps (eqb x c) (f c) (is_among c xs) (λ on. ap f (sym (eq_by x c on)) ∙ is))
    by_test rest false is = rw (is, rest) (drops (eqb x c) (f c) (is_among c xs) (λ on. ap f (sym (eq_by x c on)) ∙ is))

in_line_there : (key : List ℕ) (o : Option Consumer) → is_in_line key o ≡ true → is_some o ≡ true
in_line_there key o on = grind (arith, nat_tests)

line_is : (t : Tables) (key : List ℕ) (c : ℕ) → IsListed t → is_among c (line t key) ≡ is_in_line key (t.consumer c)
unfolding line
line_is t key c lists = grind (arith, nat_tests, filter_in, among_in, in_line_there)

-- THE HOLDER

find_off : (g : ℕ → Bool) (xs : List ℕ) → ((c : ℕ) → is_among c xs ≡ true → g c ≡ false) → find g xs ≡ None
find_off g [] off = refl
find_off g (x ∷ xs) off = let here = off x (rw (eqb-same x) refl) in rw here (find_off g xs (λ c there. off c (later_in (eqb x c) (is_among c xs) there)))

pub record IsFound (g : ℕ → Bool) (xs : List ℕ) : Type 0 where
  pub d : ℕ
  pub found : find g xs ≡ Some d
  pub among : is_among d xs ≡ true
  pub passes : g d ≡ true

find_on : (g : ℕ → Bool) (xs : List ℕ) (c : ℕ) → is_among c xs ≡ true → g c ≡ true → IsFound g xs
find_on g [] c there on = false_true there
find_on g (x ∷ xs) c there on = by_test (λ later. find_on g xs c later on) (g x) refl
  where
    more : IsFound g xs → g x ≡ false → IsFound g (x ∷ xs)
    more rest off = record { d = rest.d; found = rw off rest.found; among = later_in (eqb x rest.d) (is_among rest.d xs) rest.among; passes = rest.passes }

    by_test : (is_among c xs ≡ true → IsFound g xs) → (b : Bool) → g x ≡ b → IsFound g (x ∷ xs)
    by_test rest true is = record { d = x; found = rw is refl; among = rw (eqb-same x) refl; passes = is }
    by_test rest false is = elim (in_either (eqb x c) (is_among c xs) there) [
      | inl here ↦ false_true (sym is ∙ (ap g (eq_by x c here) ∙ on))
      | inr later ↦ more (rest later) is
    ]

and_then : (a b : Bool) → (a && b) ≡ false → a ≡ true → b ≡ false
and_then a b off on = grind (arith, nat_tests)

module _ (t : Tables) (key : List ℕ) (a : Kept) (lists : IsListed t) (kept : KeepsKey t key a) where
  holder_by : (o : Option ℕ) → a.holder ≡ o → holder t key ≡ o
  holder_by None is = find_off (λ c. holds_turn (t.consumer c)) (line t key)
      (λ c there. and_then (is_in_line key (t.consumer c)) (holds_turn (t.consumer c)) (sym (kept.holder c) ∙ ap (is_held_by c) is)
      (sym (line_is t key c lists) ∙ there))
  holder_by (Some d) is =
      let held : has_turn key (t.consumer d) ≡ true = sym (kept.holder d) ∙ (ap (is_held_by d) is ∙ eqb-same d) in
      let parts = and_parts (is_in_line key (t.consumer d)) (holds_turn (t.consumer d)) held in
      let found = find_on (λ c. holds_turn (t.consumer c)) (line t key) d (line_is t key d lists ∙ parts.0) parts.1 in
      let in_line : is_in_line key (t.consumer found.d) ≡ true = sym (line_is t key found.d lists) ∙ found.among in
      grind (arith, nat_tests)

  least_is : least (line t key) ≡ least a.in_line
  least_is = least_alike (line t key) a.in_line (λ c. line_is t key c lists ∙ sym (kept.in_line c))

  -- what is kept tells the turn
  pub turn_with_is : (c : ℕ) → unwrap_or (turn_with c (line_in a)) c ≡ lines.turn_with t key c
  turn_with_is c = grind (arith, nat_tests, holder_by, least_is)

  pub turn_of_is : turn_of (line_in a) ≡ lines.turn t key
  unfolding lines.turn
  turn_of_is = grind (arith, nat_tests, holder, least, line, holder_by, least_is)

  -- who is next, and doesn't hold the turn yet, has it, and nobody holds it
  pub turn_is : (c : ℕ) → unwrap_or (turn_with c (line_in a)) c ≡ c → is_in_line key (t.consumer c) ≡ true → has_turn key (t.consumer c) ≡ false →
      (a.holder ≡ None) × (turn_of (line_in a) ≡ Some c)
  turn_is c next in_line idle = by_holder a.holder refl
    where
      first : a.holder ≡ None → (m : ℕ) → least a.in_line ≡ Some m → turn_of (line_in a) ≡ Some c
      first free m some =
          let le : m ≤ c = (least_some a.in_line m some).below c (kept.in_line c ∙ in_line) in
          let chosen : min m c ≡ c = (let with_c : unwrap_or (turn_with c (line_in a)) c ≡ min m c = rw (free, some) refl in sym with_c ∙ next) in
          let same : m ≡ c = omega (arith, le, chosen) in
          rw (free, some) (ap Some same)

      by_holder : (o : Option ℕ) → a.holder ≡ o → (a.holder ≡ None) × (turn_of (line_in a) ≡ Some c)
      by_holder None is = let (m, some) = least_there a.in_line c (kept.in_line c ∙ in_line) in (is, first is m some)
      by_holder (Some d) is =
          let same : d ≡ c = (let with_c : unwrap_or (turn_with c (line_in a)) c ≡ d = rw is refl in sym with_c ∙ next) in
          false_true (sym (kept.holder c ∙ idle) ∙ rw (is, same) (eqb-same c))

-- Once it stands in line, it has the turn: of the others as many stand there, and nobody holds it.
pub turn_next : (c : ℕ) (a b : Kept) → ((d : ℕ) → d ≢ c → is_among d b.in_line ≡ is_among d a.in_line) →
    ((d : ℕ) → is_held_by d b.holder ≡ is_held_by d a.holder) → is_held_by c a.holder ≡ false
    → is_among c b.in_line ≡ true → turn_with c (line_in a) ≡ Some c → (b.holder ≡ None) × (turn_of (line_in b) ≡ Some c)
turn_next c a b others holders idle there next = by_holder a.holder refl
  where
    none_held : (o : Option ℕ) → ((d : ℕ) → is_held_by d o ≡ false) → o ≡ None
    none_held None none = refl
    none_held (Some d) none = false_true (sym (none d) ∙ eqb-same d)

    below_first : (o : Option ℕ) (m : ℕ) → least a.in_line ≡ o → is_among m a.in_line ≡ true → lesser o c ≡ Some c → c ≤ m
    below_first None m none in_a is = let empty = least_none a.in_line none in false_true (rw empty at in_a)
    below_first (Some l) m some in_a is =
        let le : l ≤ m = (least_some a.in_line l some).below m in_a in
        let least_c : min l c ≡ c = some_is (min l c) c is in
        omega (arith, le, least_c)

    first : a.holder ≡ None → b.holder ≡ None → turn_of (line_in b) ≡ Some c
    first free free_then =
        let (m, some) = least_there b.in_line c there in
        let least_m = least_some b.in_line m some in
        let le : m ≤ c = least_m.below c there in
        let is_c : lesser (least a.in_line) c ≡ Some c = rw free at next in
        let same : m ≡ c = elim (same_or m c) [
          | inl e ↦ e
          | inr ne ↦ (let ge : c ≤ m = below_first (least a.in_line) m refl (sym (others m ne) ∙ least_m.among) is_c in omega (arith, le, ge))
        ] in
        rw (free_then, some) (ap Some same)

    by_holder : (o : Option ℕ) → a.holder ≡ o → (b.holder ≡ None) × (turn_of (line_in b) ≡ Some c)
    by_holder None is =
        let free : b.holder ≡ None = none_held b.holder (λ d. holders d ∙ ap (is_held_by d) is) in
        (free, first is free)
    by_holder (Some d) is =
        let same : d ≡ c = some_is d c (rw is at next) in
        false_true (sym idle ∙ (ap (is_held_by c) is ∙ rw same (eqb-same c)))
