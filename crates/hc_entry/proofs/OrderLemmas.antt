-- Lists of a line that rise, and in no two of which one stands.
--
-- A line is orderly where its three lists ascend and nobody stands in two. To take somebody out keeps that
-- (`orderly-apart`), and so does one more in a list, who was in none (`orderly-queued`, `orderly-passed`,
-- `orderly-away`). Of two lists that are merged, the members are those of both (`among-merged`). They share nobody, so
-- the merged list ascends (`is_sorted-merged`). `orderly-all` and `orderly-passed-back` stand on that.
use Rattle.std.{proofs.{Common.{◌≡◌, ℕ, suc, ◌+◌, List, [], ◌∷◌, length, Bool, true, false, not, eqb, Option, Some, None, refl, sym, ap, ◌∙◌, inl, inr, arith}, lemmas.Bool.{cases_Bool, eqb-true, eq-eqb, ne_eqb}}, specs.Prelude.{◌||◌, nat_le}}
use Rattle.hc_text.proofs.{Basics.{turned-false as flip}, SortedLemmas.{is_sorted-above, has-above, has-with, has-without, is_sorted-with, is_sorted-filter}}
use Rattle.hc_text.specs.Sorted.{is_sorted, is_at as numbered, with_item, without, itself, is_among}
use Rattle.hc_entry.specs.Lines.{Line, is_in, is_empty, union_of, all_back, passed_back, apart, line_with, line_after_pass, gone_away, come_back, held_by, turn_of, stands, IsOrderly}
use Rattle.hc_entry.proofs.{LineLemmas.{stands-left, stands-with, stands-held}, SeatLemmas.{first_in}}

neither : (a b : Bool) → a || b ≡ false → (a ≡ false) × (b ≡ false)
neither true b out = absurd (cc)
neither false b out = (refl, out)

or-false : (a b : Bool) → a ≡ false → b ≡ false → a || b ≡ false
or-false a b x y = rw (x, y) refl

-- who stands in none of the lists
pub in-none : (c : ℕ) (l : Line) → is_in c l ≡ false → (is_among c l.in_line ≡ false) × (is_among c l.passed ≡ false) × (is_among c l.away ≡ false)
in-none c l out =
    let (rest, d) = neither (is_among c l.in_line || is_among c l.passed) (is_among c l.away) out in
    let (a, b) = neither (is_among c l.in_line) (is_among c l.passed) rest in
    (a, b, d)

pub none-in : (c : ℕ) (l : Line) → is_among c l.in_line ≡ false → is_among c l.passed ≡ false → is_among c l.away ≡ false → is_in c l ≡ false
none-in c l a b d = rw (a, b, d) refl

pub stays-out : (c d : ℕ) (cs : List ℕ) → is_among d cs ≡ false → is_among d (without itself c cs) ≡ false
stays-out c d cs out = elim (cases_Bool (eqb c d)) [
  | inl on ↦ rw (has-without itself d c cs, on) refl
  | inr off ↦ rw (has-without itself d c cs, off) out
]

was-in : (c d : ℕ) (cs : List ℕ) → is_among d (without itself c cs) ≡ true → is_among d cs ≡ true
was-in c d cs is = elim (cases_Bool (eqb c d)) [
  | inl on ↦ let h : is_among d (without itself c cs) ≡ false = rw (has-without itself d c cs, on) refl in absurd (cc)
  | inr off ↦ let h : is_among d (without itself c cs) ≡ is_among d cs = rw (has-without itself d c cs, off) refl in sym h ∙ is
]

pub gone : (c : ℕ) (cs : List ℕ) → is_among c (without itself c cs) ≡ false
gone c cs = rw (has-without itself c c cs, eq-eqb c c refl) refl

pub gone-from : (c : ℕ) (l : Line) → is_in c (apart c l) ≡ false
gone-from c l = none-in c (apart c l) (gone c l.in_line) (gone c l.passed) (gone c l.away)

pub orderly-apart : (c : ℕ) (l : Line) → IsOrderly l → IsOrderly (apart c l)
orderly-apart c l o = record {
  in_line = is_sorted-filter itself (λ (x : ℕ). not (numbered itself c x)) l.in_line o.in_line;
  passed = is_sorted-filter itself (λ (x : ℕ). not (numbered itself c x)) l.passed o.passed;
  away = is_sorted-filter itself (λ (x : ℕ). not (numbered itself c x)) l.away o.away;
  in_line_or_passed = λ d is. stays-out c d l.passed (o.in_line_or_passed d (was-in c d l.in_line is));
  in_line_or_away = λ d is. stays-out c d l.away (o.in_line_or_away d (was-in c d l.in_line is));
  passed_or_away = λ d is. stays-out c d l.away (o.passed_or_away d (was-in c d l.passed is));
  holder = stands-left c l.holder l.in_line o.holder;
}

-- who is among a list and one more is that one, or is among the list
with-in : (c d : ℕ) (cs : List ℕ) → is_among d (with_item itself c cs) ≡ (eqb c d || is_among d cs)
with-in c d cs = has-with itself d c cs

-- one more in one list, and nobody of that one and of the list stands in another
apart-with : (c : ℕ) (cs ds : List ℕ) → ((d : ℕ) → is_among d cs ≡ true → is_among d ds ≡ false) → is_among c ds ≡ false
    → (d : ℕ) → is_among d (with_item itself c cs) ≡ true → is_among d ds ≡ false
apart-with c cs ds off out d is = elim (cases_Bool (eqb c d)) [
  | inl on ↦ let e = eqb-true c d on in ap (λ (k : ℕ). is_among k ds) (sym e) ∙ out
  | inr other ↦
      let h : is_among d (with_item itself c cs) ≡ is_among d cs = rw (with-in c d cs, other) refl in
      off d (sym h ∙ is)
]

with-apart : (c : ℕ) (cs ds : List ℕ) → ((d : ℕ) → is_among d cs ≡ true → is_among d ds ≡ false) → is_among c cs ≡ false
    → (d : ℕ) → is_among d cs ≡ true → is_among d (with_item itself c ds) ≡ false
with-apart c cs ds off out d is =
    let other : eqb c d ≡ false = ne_eqb c d (λ e. let h = ap (λ (k : ℕ). is_among k cs) e in absurd (cc)) in
    rw (with-in c d ds, other) (off d is)

pub orderly-queued : (c : ℕ) (l : Line) → is_in c l ≡ false → IsOrderly l → IsOrderly (line_with c l)
orderly-queued c l out o =
    let (a, b, d) = in-none c l out in
    record {
      in_line = is_sorted-with itself c l.in_line o.in_line a;
      passed = o.passed;
      away = o.away;
      in_line_or_passed = apart-with c l.in_line l.passed o.in_line_or_passed b;
      in_line_or_away = apart-with c l.in_line l.away o.in_line_or_away d;
      passed_or_away = o.passed_or_away;
      holder = stands-with c l.holder l.in_line o.holder;
    }

pub orderly-back : (c : ℕ) (l : Line) → IsOrderly l → IsOrderly (come_back c l)
orderly-back c l o = orderly-queued c (apart c l) (gone-from c l) (orderly-apart c l o)

pub orderly-passed : (c : ℕ) (l : Line) → IsOrderly l → IsOrderly (line_after_pass c l)
orderly-passed c l was =
    let r = apart c l in
    let o = orderly-apart c l was in
    record {
      in_line = o.in_line;
      passed = is_sorted-with itself c (without itself c l.passed) o.passed (gone c l.passed);
      away = o.away;
      in_line_or_passed = with-apart c (without itself c l.in_line) (without itself c l.passed) o.in_line_or_passed (gone c l.in_line);
      in_line_or_away = o.in_line_or_away;
      passed_or_away = apart-with c (without itself c l.passed) (without itself c l.away) o.passed_or_away (gone c l.away);
      holder = o.holder;
    }

pub orderly-away : (c : ℕ) (l : Line) → IsOrderly l → IsOrderly (gone_away c l)
orderly-away c l was =
    let o = orderly-apart c l was in
    record {
      in_line = o.in_line;
      passed = o.passed;
      away = is_sorted-with itself c (without itself c l.away) o.away (gone c l.away);
      in_line_or_passed = o.in_line_or_passed;
      in_line_or_away = with-apart c (without itself c l.in_line) (without itself c l.away) o.in_line_or_away (gone c l.in_line);
      passed_or_away = with-apart c (without itself c l.passed) (without itself c l.away) o.passed_or_away (gone c l.passed);
      holder = o.holder;
    }

pub orderly-held : (c : ℕ) (l : Line) → turn_of l ≡ Some c → IsOrderly l → IsOrderly (held_by c l)
orderly-held c l turn o = record {
  in_line = o.in_line;
  passed = o.passed;
  away = o.away;
  in_line_or_passed = o.in_line_or_passed;
  in_line_or_away = o.in_line_or_away;
  passed_or_away = o.passed_or_away;
  holder = stands-held c l.holder l.in_line o.in_line o.holder turn;
}

-- both lists in one
pub among-merged : (c : ℕ) (ds cs : List ℕ) → is_among c (union_of ds cs) ≡ is_among c ds || is_among c cs
among-merged c [] cs = refl
among-merged c (d ∷ ds) cs = elim (cases_Bool (eqb d c)) [
  | inl on ↦ rw (with-in d c (union_of ds cs), on) refl
  | inr off ↦ rw (with-in d c (union_of ds cs), off) (among-merged c ds cs)
]

among-rest : (c d : ℕ) (ds : List ℕ) → is_among c ds ≡ true → is_among c (d ∷ ds) ≡ true
among-rest c d ds is = elim (cases_Bool (eqb d c)) [
  | inl on ↦ rw on refl
  | inr off ↦ rw off is
]

pub is_sorted-merged : (ds cs : List ℕ) → is_sorted itself ds ≡ true → is_sorted itself cs ≡ true → ((c : ℕ) → is_among c ds ≡ true → is_among c cs ≡ false)
    → is_sorted itself (union_of ds cs) ≡ true
is_sorted-merged [] cs up rise apart = rise
is_sorted-merged (d ∷ ds) cs up rise apart =
    let tail = is_sorted-merged ds cs (is_sorted-above itself d ds up) rise (λ c is. apart c (among-rest c d ds is)) in
    let out = has-above itself d d ds (omega arith) up in
    is_sorted-with itself d (union_of ds cs) tail (among-merged d ds cs ∙ or-false (is_among d ds) (is_among d cs) out (apart d (first_in d ds)))

pub is_sorted-passed : (l : Line) → IsOrderly l → is_sorted itself (passed_back l).in_line ≡ true
is_sorted-passed l o = is_sorted-merged l.passed l.in_line o.passed o.in_line
    (λ c is. flip (is_among c l.in_line) (is_among c l.passed) (o.in_line_or_passed c) is)

pub is_sorted-all : (l : Line) → IsOrderly l → is_sorted itself (all_back l).in_line ≡ true
is_sorted-all l o =
    is_sorted-merged l.away (union_of l.passed l.in_line) o.away (is_sorted-passed l o)
    (λ c is. among-merged c l.passed l.in_line ∙ or-false (is_among c l.passed) (is_among c l.in_line)
    (flip (is_among c l.passed) (is_among c l.away) (o.passed_or_away c) is) (flip (is_among c l.in_line) (is_among c l.away) (o.in_line_or_away c) is))

-- all who stand in it are in line
pub among-all : (c : ℕ) (l : Line) → is_among c (all_back l).in_line ≡ is_in c l
among-all c l = rw (among-merged c l.away (union_of l.passed l.in_line), among-merged c l.passed l.in_line)
    (turned (is_among c l.in_line) (is_among c l.passed) (is_among c l.away)) where
      turned : (i p a : Bool) → a || (p || i) ≡ ((i || p) || a)
      turned true true true = refl
      turned true true false = refl
      turned true false true = refl
      turned true false false = refl
      turned false true true = refl
      turned false true false = refl
      turned false false true = refl
      turned false false false = refl

pub orderly-all : (l : Line) → IsOrderly l → IsOrderly (all_back l)
orderly-all l o = record {
  in_line = is_sorted-all l o;
  passed = refl;
  away = refl;
  in_line_or_passed = λ c is. refl;
  in_line_or_away = λ c is. refl;
  passed_or_away = λ c is. refl;
  holder = refl;
}

pub stands-merged : (h : Option ℕ) (ds cs : List ℕ) → stands h cs ≡ true → stands h (union_of ds cs) ≡ true
stands-merged None ds cs is = refl
stands-merged (Some c) ds cs is = among-merged c ds cs ∙ rw is (either (is_among c ds)) where
  either : (b : Bool) → b || true ≡ true
  either true = refl
  either false = refl

pub orderly-passed-back : (l : Line) → IsOrderly l → IsOrderly (passed_back l)
orderly-passed-back l o = record {
  in_line = is_sorted-passed l o;
  passed = refl;
  away = o.away;
  in_line_or_passed = λ c is. refl;
  in_line_or_away = λ c is. from (is_among c l.passed) (is_among c l.in_line) (o.passed_or_away c) (o.in_line_or_away c)
      (sym (among-merged c l.passed l.in_line) ∙ is);
  passed_or_away = λ c is. absurd (cc);
  holder = stands-merged l.holder l.passed l.in_line o.holder;
} where
  from : {w : Bool} (p i : Bool) → (p ≡ true → w ≡ false) → (i ≡ true → w ≡ false) → p || i ≡ true → w ≡ false
  from true i a b is = a refl
  from false i a b is = b is

-- a list without members
pub no-members : (cs : List ℕ) → ((c : ℕ) → is_among c cs ≡ false) → cs ≡ []
no-members [] out = refl
no-members (c ∷ cs) out = let h = out c in let k = first_in c cs in absurd (cc)

pub length-with : (c : ℕ) (cs : List ℕ) → length (with_item itself c cs) ≡ suc (length cs)
length-with c [] = refl
length-with c (d ∷ ds) = elim (cases_Bool (nat_le c d)) [
  | inl on ↦ rw on refl
  | inr off ↦ rw off (ap suc (length-with c ds))
]

length-merged : (ds cs : List ℕ) → length (union_of ds cs) ≡ length ds + length cs
length-merged [] cs = omega arith
length-merged (d ∷ ds) cs = let h = length-with d (union_of ds cs) in let k = length-merged ds cs in omega arith

-- who stands in it is one
pub in-some : (c : ℕ) (l : Line) → is_in c l ≡ true → is_empty l ≡ false
in-some c l is = ne_eqb (length l.in_line + length l.passed + length l.away) 0 (λ e.
    let a = none l.in_line (let h : length l.in_line + length l.passed + length l.away ≡ 0 = e in omega arith) in
    let b = none l.passed (let h : length l.in_line + length l.passed + length l.away ≡ 0 = e in omega arith) in
    let d = none l.away (let h : length l.in_line + length l.passed + length l.away ≡ 0 = e in omega arith) in
    let out = none-in c l a b d in
    absurd (cc)) where
      none : (cs : List ℕ) → length cs ≡ 0 → is_among c cs ≡ false
      none [] e = refl
      none (d ∷ ds) e = absurd (omega arith)

pub empty-all : (l : Line) → is_empty (all_back l) ≡ is_empty l
empty-all l = ap (λ (n : ℕ). eqb n 0) count where
  count : length (union_of l.away (union_of l.passed l.in_line)) + 0 + 0 ≡ length l.in_line + length l.passed + length l.away
  count = let h = length-merged l.away (union_of l.passed l.in_line) in let k = length-merged l.passed l.in_line in omega arith

pub empty-passed-back : (l : Line) → is_empty (passed_back l) ≡ is_empty l
empty-passed-back l = ap (λ (n : ℕ). eqb n 0) count where
  count : length (union_of l.passed l.in_line) + 0 + length l.away ≡ length l.in_line + length l.passed + length l.away
  count = let k = length-merged l.passed l.in_line in omega arith

pub in-queued : (c : ℕ) (l : Line) → is_in c (line_with c l) ≡ true
in-queued c l = rw (with-in c c l.in_line, eq-eqb c c refl) refl

pub in-passed : (c : ℕ) (l : Line) → is_in c (line_after_pass c l) ≡ true
in-passed c l = rw (gone c l.in_line, with-in c c (without itself c l.passed), eq-eqb c c refl) refl

pub in-away : (c : ℕ) (l : Line) → is_in c (gone_away c l) ≡ true
in-away c l = rw (gone c l.in_line, gone c l.passed, with-in c c (without itself c l.away), eq-eqb c c refl) refl

pub in-back : (c : ℕ) (l : Line) → is_in c (come_back c l) ≡ true
in-back c l = in-queued c (apart c l)
