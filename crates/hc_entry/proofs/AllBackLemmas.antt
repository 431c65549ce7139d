-- A line whose consumers come back, seat by seat: all of them, or those that passed.
--
-- Two loops over the places of a line, each with what it keeps below a place. In the first everybody comes back:
-- members and places stay, and nobody below is passed or away (`AreBackBelow`). At the end nobody at all is, so the
-- line has all of them, in order (`back-all`). In the second only those come back that passed; who is away stays away,
-- and the turn is held as before (`ArePassedBackBelow`). An empty place changes nothing in the first (`back-empty`).
use Rattle.std.{proofs.{Common.{◌≡◌, ℕ, ◌+◌, ◌<◌, List, [], Bool, true, false, not, eqb, Option, Some, None, refl, sym, ap, ◌∙◌, inl, inr, arith}, lemmas.Bool.{cases_Bool, cases_eq, eqb-true, eqb-false}}, specs.Prelude.{◌||◌}}
use Rattle.hc_text.proofs.{Basics.{turned-false}, SortedLemmas.{has-with, has-without, is_sorted-with, is_sorted-filter}}
use Rattle.hc_text.specs.Sorted.{is_sorted, is_at as numbered, without, itself, is_among}
use Rattle.hc_entry.specs.Lines.{Line, is_in, holder_without, come_back, all_back, passed_back, stands, consumer_at, union_of, IsOrderly, AllArePlacedBelow}
use Rattle.hc_entry.proofs.{SeatLemmas.{same_members}, OrderLemmas.{gone, stays-out, no-members, is_sorted-all, is_sorted-passed, among-all, among-merged, orderly-back}}

-- Those with a place below i are in line again.
pub record AreBackBelow (i : ℕ) (old l : Line) : Type 0 where
  pub same : (d : ℕ) → is_in d l ≡ is_in d old
  pub ascending : is_sorted itself l.in_line ≡ true
  pub places : l.places ≡ old.places
  pub free : l.holder ≡ None
  pub back : (k d : ℕ) → k < i → consumer_at l k ≡ Some d → (is_among d l.passed ≡ false) × (is_among d l.away ≡ false)

abbrev pub freed : Line → Line
freed l = record l { holder = None }

pub back-none : (old : Line) → IsOrderly old → AreBackBelow 0 old (freed old)
back-none old o = record {
  same = λ d. refl;
  ascending = o.in_line;
  places = refl;
  free = refl;
  back = λ k d below is. absurd (omega arith);
}

kept-in : (c d : ℕ) (l : Line) → is_in c l ≡ true → is_in d (come_back c l) ≡ is_in d l
kept-in c d l is = elim (cases_Bool (eqb c d)) [
  | inl on ↦
      let same = eqb-true c d on in
      rw (has-with itself d c (without itself c l.in_line), on) (sym (ap (λ (k : ℕ). is_in k l) (sym same) ∙ is))
  | inr off ↦
      rw (
        has-with itself d c (without itself c l.in_line),
        has-without itself d c l.in_line,
        has-without itself d c l.passed,
        has-without itself d c l.away,
        off,
      ) refl
]

-- the place of another one is earlier
earlier : (i c : ℕ) (l : Line) → consumer_at l i ≡ Some c → (k d : ℕ) → k < i + 1 → consumer_at l k ≡ Some d → (c ≡ d → ⊥) → k < i
earlier i c l there k d below has off = elim (cases_eq k i) [
  | inl on ↦ let here = ap (consumer_at l) on ∙ there in let same : c ≡ d = one (consumer_at l k) here has in absurd (off same)
  | inr other ↦ omega arith
] where
  one : (o : Option ℕ) → o ≡ Some c → o ≡ Some d → c ≡ d
  one o a b = cc

pub back-next : (i c : ℕ) (old l : Line) → AreBackBelow i old l → consumer_at l i ≡ Some c → is_in c l ≡ true → AreBackBelow (i + 1) old (come_back c l)
back-next i c old l was there is = record {
  same = λ d. kept-in c d l is ∙ was.same d;
  ascending = is_sorted-with itself c (without itself c l.in_line)
      (is_sorted-filter itself (λ (x : ℕ). not (numbered itself c x)) l.in_line was.ascending) (gone c l.in_line);
  places = was.places;
  free = rw was.free refl;
  back = λ k d below has. elim (cases_Bool (eqb c d)) [
    | inl on ↦
        let same = eqb-true c d on in (
          ap (λ (n : ℕ). is_among n (without itself c l.passed)) (sym same) ∙ gone c l.passed,
          ap (λ (n : ℕ). is_among n (without itself c l.away)) (sym same) ∙ gone c l.away,
        )
    | inr off ↦
        let (out, away) = was.back k d (earlier i c l there k d below has (eqb-false c d off)) has in
        (stays-out c d l.passed out, stays-out c d l.away away)
  ];
}

pub back-empty : (i : ℕ) (old l : Line) → AreBackBelow i old l → consumer_at l i ≡ None → AreBackBelow (i + 1) old l
back-empty i old l was none = record {
  same = was.same;
  ascending = was.ascending;
  places = was.places;
  free = was.free;
  back = λ k d below has. elim (cases_eq k i) [
    | inl on ↦ let here = ap (consumer_at l) on ∙ none in absurd (cc)
    | inr other ↦ was.back k d (omega arith) has
  ];
}

same-line : (a b : Line) → a.in_line ≡ b.in_line → a.passed ≡ b.passed → a.away ≡ b.away → a.holder ≡ b.holder → a.places ≡ b.places → a ≡ b
same-line a b q p w h s =
    ap (λ (x : List ℕ). record { in_line = x; passed = a.passed; away = a.away; holder = a.holder; places = a.places }) q
    ∙ (ap (λ (x : List ℕ). record { in_line = b.in_line; passed = x; away = a.away; holder = a.holder; places = a.places }) p
    ∙ (ap (λ (x : List ℕ). record { in_line = b.in_line; passed = b.passed; away = x; holder = a.holder; places = a.places }) w
    ∙ (ap (λ (x : Option ℕ). record { in_line = b.in_line; passed = b.passed; away = b.away; holder = x; places = a.places }) h
    ∙ ap (λ (x : List (Option ℕ)). record { in_line = b.in_line; passed = b.passed; away = b.away; holder = b.holder; places = x }) s)))

pub back-all : (n : ℕ) (old l : Line) → IsOrderly old → AreBackBelow n old l → AllArePlacedBelow n old → l ≡ all_back old
back-all n old l o was placed =
    same-line l (all_back old) in_line passed away was.free was.places where
      -- nobody is passed or away
      out : (d : ℕ) → is_in d l ≡ true → (is_among d l.passed ≡ false) × (is_among d l.away ≡ false)
      out d is =
          let (k, below, there) = placed d (sym (was.same d) ∙ is) in
          was.back k d below (ap (λ (s : List (Option ℕ)). consumer_at (record l { places = s }) k) was.places ∙ there)

      passed : l.passed ≡ []
      passed = no-members l.passed (λ d. elim (cases_Bool (is_among d l.passed)) [
        | inl on ↦ (out d (among (is_among d l.in_line) (is_among d l.passed) (is_among d l.away) on)).0
        | inr off ↦ off
      ]) where
        among : (a b w : Bool) → b ≡ true → (a || b) || w ≡ true
        among true b w on = refl
        among false b w on = rw on refl

      away : l.away ≡ []
      away = no-members l.away (λ d. elim (cases_Bool (is_among d l.away)) [
        | inl on ↦ (out d (among (is_among d l.in_line || is_among d l.passed) (is_among d l.away) on)).1
        | inr off ↦ off
      ]) where
        among : (a w : Bool) → w ≡ true → a || w ≡ true
        among true w on = refl
        among false w on = on

      members : (d : ℕ) → is_among d l.in_line ≡ is_in d l
      members d = rw (passed, away) (alone (is_among d l.in_line)) where
        alone : (a : Bool) → a ≡ (a || false) || false
        alone true = refl
        alone false = refl

      in_line : l.in_line ≡ (all_back old).in_line
      in_line = same_members l.in_line (all_back old).in_line was.ascending (is_sorted-all old o) (λ d. members d ∙ (was.same d ∙ sym (among-all d old)))

-- THOSE THAT PASSED

-- Those of them with a place below i are in line again.
pub record ArePassedBackBelow (i : ℕ) (old l : Line) : Type 0 where
  pub orderly : IsOrderly l
  pub same : (d : ℕ) → is_among d l.in_line || is_among d l.passed ≡ is_among d old.in_line || is_among d old.passed
  pub away : l.away ≡ old.away
  pub holder : l.holder ≡ old.holder
  pub places : l.places ≡ old.places
  pub back : (k d : ℕ) → k < i → consumer_at l k ≡ Some d → is_among d l.passed ≡ false

pub passed-back-none : (old : Line) → IsOrderly old → ArePassedBackBelow 0 old old
passed-back-none old o = record {
  orderly = o;
  same = λ d. refl;
  away = refl;
  holder = refl;
  places = refl;
  back = λ k d below is. absurd (omega arith);
}

-- one that isn't among them is taken out of the list, which is sorted
without-absent : (c : ℕ) (cs : List ℕ) → is_sorted itself cs ≡ true → is_among c cs ≡ false → without itself c cs ≡ cs
without-absent c cs rise out =
    same_members (without itself c cs) cs (is_sorted-filter itself (λ (x : ℕ). not (numbered itself c x)) cs rise) rise (λ d. elim (cases_Bool (eqb c d)) [
      | inl on ↦ rw (has-without itself d c cs, on) (sym (ap (λ (n : ℕ). is_among n cs) (sym (eqb-true c d on)) ∙ out))
      | inr off ↦ rw (has-without itself d c cs, off) refl
    ])

still-held : (c : ℕ) (h : Option ℕ) (cs : List ℕ) → stands h cs ≡ true → is_among c cs ≡ false → holder_without c h ≡ h
still-held c None cs is out = refl
still-held c (Some d) cs is out = elim (cases_Bool (eqb d c)) [
  | inl on ↦ let in_it = ap (λ (n : ℕ). is_among n cs) (eqb-true d c on) in absurd (cc)
  | inr off ↦ rw off refl
]

pub passed-back-next : (i c : ℕ) (old l : Line) → ArePassedBackBelow i old l → consumer_at l i ≡ Some c → is_among c l.passed ≡ true →
    ArePassedBackBelow (i + 1) old (come_back c l)
passed-back-next i c old l was there is = record {
  orderly = orderly-back c l was.orderly;
  same = λ d. elim (cases_Bool (eqb c d)) [
    | inl on ↦
        let same = eqb-true c d on in
        let passed : is_among d l.passed ≡ true = ap (λ (n : ℕ). is_among n l.passed) (sym same) ∙ is in
        rw (has-with itself d c (without itself c l.in_line), on) (sym (sym (was.same d) ∙ rw passed (either (is_among d l.in_line))))
    | inr off ↦
        rw (has-with itself d c (without itself c l.in_line), has-without itself d c l.in_line, has-without itself d c l.passed, off) (was.same d)
  ];
  away = without-absent c l.away was.orderly.away (was.orderly.passed_or_away c is) ∙ was.away;
  holder = still-held c l.holder l.in_line was.orderly.holder
      (turned-false (is_among c l.in_line) (is_among c l.passed) (was.orderly.in_line_or_passed c) is) ∙ was.holder;
  places = was.places;
  back = λ k d below has. elim (cases_Bool (eqb c d)) [
    | inl on ↦ ap (λ (n : ℕ). is_among n (without itself c l.passed)) (sym (eqb-true c d on)) ∙ gone c l.passed
    | inr off ↦ stays-out c d l.passed (was.back k d (earlier i c l there k d below has (eqb-false c d off)) has)
  ];
} where
  either : (b : Bool) → b || true ≡ true
  either true = refl
  either false = refl

-- nobody at the place, or one that didn't pass
pub passed-back-stays : (i : ℕ) (old l : Line) → ArePassedBackBelow i old l → ((d : ℕ) → consumer_at l i ≡ Some d → is_among d l.passed ≡ false) →
    ArePassedBackBelow (i + 1) old l
passed-back-stays i old l was out = record {
  orderly = was.orderly;
  same = was.same;
  away = was.away;
  holder = was.holder;
  places = was.places;
  back = λ k d below has. elim (cases_eq k i) [
    | inl on ↦ out d (ap (consumer_at l) (sym on) ∙ has)
    | inr other ↦ was.back k d (omega arith) has
  ];
}

pub passed-back-all : (n : ℕ) (old l : Line) → IsOrderly old → ArePassedBackBelow n old l → AllArePlacedBelow n old → l ≡ passed_back old
passed-back-all n old l o was placed = same-line l (passed_back old) in_line passed was.away was.holder was.places where
  out : (d : ℕ) → is_among d l.passed ≡ true → is_among d l.passed ≡ false
  out d is =
      let inside : is_in d old ≡ true = within
      (is_among d old.in_line || is_among d old.passed) (is_among d old.away) (sym (was.same d) ∙ rw is (either (is_among d l.in_line))) in
      let (k, below, there) = placed d inside in
      was.back k d below (ap (λ (s : List (Option ℕ)). consumer_at (record l { places = s }) k) was.places ∙ there)
    where
      either : (b : Bool) → b || true ≡ true
      either true = refl
      either false = refl

      within : (a w : Bool) → a ≡ true → a || w ≡ true
      within a w on = rw on refl

  passed : l.passed ≡ []
  passed = no-members l.passed (λ d. elim (cases_Bool (is_among d l.passed)) [ inl on ↦ out d on | inr off ↦ off ])

  turned : (a b : Bool) → a || b ≡ b || a
  turned true true = refl
  turned true false = refl
  turned false true = refl
  turned false false = refl

  alone : (a : Bool) → a ≡ a || false
  alone true = refl
  alone false = refl

  members : (d : ℕ) → is_among d l.in_line ≡ is_among d (union_of old.passed old.in_line)
  members d =
      alone (is_among d l.in_line)
      ∙ (ap (λ (cs : List ℕ). is_among d l.in_line || is_among d cs) (sym passed)
      ∙ (was.same d ∙ (turned (is_among d old.in_line) (is_among d old.passed) ∙ sym (among-merged d old.passed old.in_line))))

  in_line : l.in_line ≡ union_of old.passed old.in_line
  in_line = same_members l.in_line (union_of old.passed old.in_line) was.orderly.in_line (is_sorted-passed old o) members
