-- At Done all of the body was written.
--
-- Until it is shown a head the first consumer is alone (`lone_before`). What that head tells of the end is known from
-- then on, and so is the end where the consumer is told it (`FirstKnown`, by induction over the events in
-- `first_known`). What is written is the front of what is gathered, none of which is past the end. After a part as much
-- was written as the whole has, which is no less than the end; after the whole the consumer was given all up to the
-- end, and that is gathered: so what is written ends where the body does.
use Rattle.std.{proofs.Common.{◌≡◌, ◌⊎◌, inl, inr, ℕ, zero, suc, ◌+◌, ◌<◌, ◌≤◌, List, [], ◌∷◌, ◌++◌, length, true, false, Option, Some, None, refl, ap, sym, ◌∙◌, subst, arith, length-append}, specs.{Prelude.{◌==◌, ◌||◌, is_some, if◌then◌else◌}, Option.{option_or}}}
use Rattle.hc_text.proofs.Basics.{bool_cases, nil_cons, not_some as none_some, some_inj}
use Rattle.hc_sparse.specs.Cells.{Cells, Cell, cells_with}
use Rattle.hc_effects.proofs.Vocabulary.{Act, Limits, may_begin, Entry, History, no_contents, Shown, shown_in, shown_of, given_of, Says, IsEnd, end_of, IsRun, tables, act}
use Rattle.hc_effects.proofs.{Basics.{append_none, false_true, or_false}, Runs.{by_later_entries}}
use Rattle.hc_laws.proofs.{OneHead.{one_head_is_shown}, ReadEnds.{ends_well}, ReadJoined.{one_inj}}
use Rattle.hc_fetch.specs.declared.ended.FetchEnded.TheVariants as ended
use Rattle.hc_fetch.specs.{declared.plan.FetchPlan.{FetchPlan}, Bounds.{IsPlan}, Deciding.{has_foreign, is_foreign}, Fetches.{started, starts_behind, cache_history, ends_in, has_ended, is_all, is_done_by, ended_with}, Gathering.{gathered, given_end, bytes_on, byte_before, written_of}, Heads.{Head, heads_in, first_in, first_head, total_of}, Laws.{IsFetchRun, WritesAllOfIt}}
use Rattle.hc_fetch.proofs.{Bodies.{run_before, earlier, writes_the_body}, Ends.{KnownEnd, KnownHead, before_end, end_kept, head_kept}, FirstHeads.{among, first_reported, lone_before, none_first, none_shown}, GivenFirst.{given_covered, shown_step, started_gives, over}, Shows.{started_shows}, ShownFacts.{ReportsPart, gives_part, FirstShown}}

-- LISTS OF ACTS

at_most_one : (xs ys : List Shown) (y : Shown) → length (xs ++ (y ∷ ys)) ≤ 1 → (xs ≡ []) × (ys ≡ [])
at_most_one [] [] y few = (refl, refl)
at_most_one [] (z ∷ ys) y few = absurd (omega arith)
at_most_one (x ∷ xs) ys y few = let all = length-append xs (y ∷ ys) in absurd (omega arith)

ends_says : (c : ℕ) (acts : List Act) → ends_in c acts ≡ true → Says (act.Ended c) acts
ends_says c [] is = absurd (false_true is)
ends_says c (act.Ended d ∷ acts) is = elim (Rattle.hc_effects.proofs.PieceKeeps.eq_cases d c) [
  | inl mine ↦ inl (ap act.Ended mine.1)
  | inr other ↦ inr (ends_says c acts (rw other.0 at is))
]
ends_says c (act.Opened x d need request ∷ acts) is = inr (ends_says c acts is)
ends_says c (act.Ask x ∷ acts) is = inr (ends_says c acts is)
ends_says c (act.Close x ∷ acts) is = inr (ends_says c acts is)
ends_says c (act.Given d x at bytes ∷ acts) is = inr (ends_says c acts is)
ends_says c (act.Shown d r why status fields lo hi ∷ acts) is = inr (ends_says c acts is)
ends_says c (act.Failed d why ∷ acts) is = inr (ends_says c acts is)
ends_says c (act.Pending d z ∷ acts) is = inr (ends_says c acts is)
ends_says c (act.Denied refusal ∷ acts) is = inr (ends_says c acts is)
ends_says c (act.Lost r kind ∷ acts) is = inr (ends_says c acts is)
ends_says c (act.Evicted r ∷ acts) is = inr (ends_says c acts is)

-- GATHERED

more_gathered : (acts : List Act) (g : Cells) (p : ℕ) → is_some (g p) ≡ true → is_some (Rattle.hc_fetch.specs.Gathering.gathered_in acts g p) ≡ true
more_gathered [] g p is = is
more_gathered (act.Given c x at bytes ∷ acts) g p is = more_gathered acts (cells_with at x bytes g) p (over g at x bytes p is)
more_gathered (a ∷ acts) g p is = more_gathered acts g p is

abbrev end_in : List Act → ℕ
end_in acts = Rattle.hc_fetch.specs.Gathering.given_end_in acts

before_given : (acts : List Act) (g : Cells) (p : ℕ) → is_some (Rattle.hc_fetch.specs.Gathering.gathered_in acts g p) ≡ true →
    (is_some (g p) ≡ true) ⊎ (p < end_in acts)
before_given [] g p is = inl is
before_given (act.Given c x at bytes ∷ acts) g p is = elim (before_given acts (cells_with at x bytes g) p is) [
  | inr later ↦ inr (omega (arith, later))
  | inl there ↦ elim (Rattle.hc_sparse.proofs.CellLemmas.inside-cases at (length bytes) p) [
    | inl here ↦ let low = here.2 in inr (omega (arith, low))
    | inr off ↦ inl (rw off.0 at there)
  ]
]
before_given (act.Opened x d need request ∷ acts) g p is = before_given acts g p is
before_given (act.Ask x ∷ acts) g p is = before_given acts g p is
before_given (act.Close x ∷ acts) g p is = before_given acts g p is
before_given (act.Shown d r why status fields lo hi ∷ acts) g p is = before_given acts g p is
before_given (act.Ended d ∷ acts) g p is = before_given acts g p is
before_given (act.Failed d why ∷ acts) g p is = before_given acts g p is
before_given (act.Pending d z ∷ acts) g p is = before_given acts g p is
before_given (act.Denied refusal ∷ acts) g p is = before_given acts g p is
before_given (act.Lost r kind ∷ acts) g p is = before_given acts g p is
before_given (act.Evicted r ∷ acts) g p is = before_given acts g p is

before_given_end : (f : History) (p : ℕ) → is_some (gathered f p) ≡ true → p < given_end f
before_given_end [] p is = absurd (false_true is)
before_given_end (e ∷ f) p is = elim (before_given e.acts (gathered f) p is) [
  | inr later ↦ omega (arith, later)
  | inl there ↦ let was = before_given_end f p there in omega (arith, was)
]

-- as many bytes as are gathered without a gap
long : (g : Cells) (p n m : ℕ) → n ≤ m → ((q : ℕ) → p ≤ q → q < p + n → is_some (g q) ≡ true) → n ≤ length (bytes_on g p m)
long g p zero m le covered = omega arith
long g p (suc n) zero le covered = absurd (omega arith)
long g p (suc n) (suc m) le covered =
    by_cell (g p) (covered p (omega arith) (omega arith)) (long g (p + 1) n m (omega arith) (λ q low high. covered q (omega arith) (omega arith)))
  where
    by_cell : (o : Option Cell) → is_some o ≡ true → n ≤ length (bytes_on g (p + 1) m) → suc n ≤ length (byte_before o (bytes_on g (p + 1) m))
    by_cell None is rest = absurd (false_true is)
    by_cell (Some cell) is rest = omega (arith, rest)

-- RUNS

all_ends_kept : (limits : Limits) → may_begin limits no_contents ≡ true → (xs h : History) → IsRun limits no_contents (xs ++ h) → (r n : ℕ) →
    KnownEnd (tables no_contents h) r n → KnownEnd (tables no_contents (xs ++ h)) r n
all_ends_kept limits may xs h run r n known =
    by_later_entries limits no_contents (λ h. KnownEnd (tables no_contents h) r n) (λ h e run before. end_kept limits no_contents h e may run r n before)
    xs h run known

all_heads_kept : (limits : Limits) → may_begin limits no_contents ≡ true → (xs h : History) → IsRun limits no_contents (xs ++ h) → (r : ℕ) →
    KnownHead (tables no_contents h) r → KnownHead (tables no_contents (xs ++ h)) r
all_heads_kept limits may xs h run r known =
    by_later_entries limits no_contents (λ h. KnownHead (tables no_contents h) r) (λ h e run before. head_kept limits no_contents h e may run r before) xs
    h run known

start_end_kept : (limits : Limits) → may_begin limits no_contents ≡ true → (plan : FetchPlan) (now : ℕ) (h : History) →
    IsRun limits no_contents (started plan now h) → (r n : ℕ) → KnownEnd (tables no_contents h) r n → KnownEnd (tables no_contents (started plan now h)) r n
start_end_kept limits may plan now [] run r n known = end_kept limits no_contents [] _ may run r n known
start_end_kept limits may plan now (e ∷ h) run r n known = known

start_head_kept : (limits : Limits) → may_begin limits no_contents ≡ true → (plan : FetchPlan) (now : ℕ) (h : History) →
    IsRun limits no_contents (started plan now h) → (r : ℕ) → KnownHead (tables no_contents h) r → KnownHead (tables no_contents (started plan now h)) r
start_head_kept limits may plan now [] run r known = head_kept limits no_contents [] _ may run r known
start_head_kept limits may plan now (e ∷ h) run r known = known

module _ (limits : Limits) (plan : FetchPlan) (e : Entry) (f : History) (q : IsFetchRun limits plan (e ∷ f)) where
  abbrev before : History
  before = started plan e.now (cache_history plan f)

  run_on : IsRun limits no_contents (e ∷ before)
  run_on = run_before limits (starts_behind plan f e) (e ∷ before) q.run

  -- an end that is known before the entry is known behind it
  end_behind : (r n : ℕ) → KnownEnd (tables no_contents before) r n → KnownEnd (tables no_contents (cache_history plan (e ∷ f))) r n
  end_behind r n known = all_ends_kept limits q.begins (starts_behind plan f e) (e ∷ before) q.run r n
      (end_kept limits no_contents before e q.begins run_on r n known)

  end_on : (r n : ℕ) → KnownEnd (tables no_contents (cache_history plan f)) r n → KnownEnd (tables no_contents (cache_history plan (e ∷ f))) r n
  end_on r n known = end_behind r n (start_end_kept limits q.begins plan e.now (cache_history plan f) run_on.0 r n known)

  head_behind : (r : ℕ) → KnownHead (tables no_contents before) r → KnownHead (tables no_contents (cache_history plan (e ∷ f))) r
  head_behind r known = all_heads_kept limits q.begins (starts_behind plan f e) (e ∷ before) q.run r
      (head_kept limits no_contents before e q.begins run_on r known)

  head_on : (r : ℕ) → KnownHead (tables no_contents (cache_history plan f)) r → KnownHead (tables no_contents before) r
  head_on r known = start_head_kept limits q.begins plan e.now (cache_history plan f) run_on.0 r known

  few_shown : length (shown_of 1 before ++ shown_in 1 e.acts) ≤ 1
  few_shown = (one_head_is_shown limits no_contents (e ∷ before) run_on 1).0

-- nothing is shown before the first head
unshown_before : (limits : Limits) (plan : FetchPlan) (f : History) → first_head f ≡ None → shown_of 1 (cache_history plan f) ≡ []
unshown_before limits plan [] none = refl
unshown_before limits plan (e ∷ f) none =
    let parts = none_first (first_head f) (first_in (heads_in e.acts)) none in
    shown_step plan 1 e f ∙ (ap (λ l. l ++ shown_in 1 e.acts) (started_shows plan e.now 1 (cache_history plan f) ∙ unshown_before limits plan f parts.0) ∙
    none_shown e.acts parts.1)

-- nor is the end told
unended_before : (limits : Limits) (plan : FetchPlan) (f : History) → IsFetchRun limits plan f → first_head f ≡ None → has_ended 1 f ≡ true → ⊥
unended_before limits plan [] q none is = false_true is
unended_before limits plan (e ∷ f) q none is =
    let parts = none_first (first_head f) (first_in (heads_in e.acts)) none in
    elim (bool_cases (ends_in 1 e.acts)) [
      | inr off ↦ unended_before limits plan f (earlier limits plan e f q) parts.0 (rw off at is)
      | inl on ↦
          let reported = ends_well limits no_contents (before limits plan e f q) e q.begins (run_on limits plan e f q) 1 (ends_says 1 e.acts on) in
          let was : shown_of 1 (before limits plan e f q) ≡ [] = started_shows plan e.now 1 (cache_history plan f) ∙ unshown_before limits plan f parts.0 in
          nil_cons reported.0 [] (sym was ∙ (sym (append_none (shown_of 1 (before limits plan e f q))) ∙ reported.1))
    ]

-- WHAT IS KNOWN

pub record FirstKnown (plan : FetchPlan) (f : History) (head : Head) : Type 0 where
  pub known : KnownHead (tables no_contents (cache_history plan f)) head.r
  pub part : (total : ℕ) → ReportsPart head.status head.fields total → (n : ℕ) × KnownEnd (tables no_contents (cache_history plan f)) head.r n × (n ≤ total)
  pub s : Shown
  pub shown : shown_of 1 (cache_history plan f) ≡ s ∷ []
  pub of : s.r ≡ head.r
  pub whole : head.status ≡ 200 → (s.lo ≡ 0) × ((n : ℕ) → s.hi ≡ Some n → KnownEnd (tables no_contents (cache_history plan f)) head.r n)
  pub ends : head.status ≡ 200 → has_ended 1 f ≡ true → (n : ℕ) × KnownEnd (tables no_contents (cache_history plan f)) head.r n ×
      ((p : ℕ) → p < n → is_some (gathered f p) ≡ true)

-- the end that the last entry told is known
module _ (limits : Limits) (plan : FetchPlan) (e : Entry) (f : History) (q : IsFetchRun limits plan (e ∷ f)) (head : Head) (k : FirstKnown plan f head) where
  was : shown_of 1 (started plan e.now (cache_history plan f)) ≡ k.s ∷ []
  was = started_shows plan e.now 1 (cache_history plan f) ∙ k.shown

  reported_here : head.status ≡ 200 → ends_in 1 e.acts ≡ true → (n : ℕ) × KnownEnd (tables no_contents (cache_history plan (e ∷ f))) head.r n ×
      ((p : ℕ) → p < n → is_some (gathered (e ∷ f) p) ≡ true)
  reported_here status on =
      let reported = ends_well limits no_contents (before limits plan e f q) e q.begins (run_on limits plan e f q) 1 (ends_says 1 e.acts on) in
      let one : reported.0 ≡ k.s = one_inj reported.0 k.s (sym reported.1 ∙ (append_none (shown_of 1 (before limits plan e f q)) ∙ was)) in
      let given : given_of 1 (before limits plan e f q) ≡ given_of 1 (cache_history plan f) = started_gives plan e.now 1 (cache_history plan f) in
      let first = (k.whole status).0 in
      let count : reported.0.lo + length (given_of 1 (before limits plan e f q) ++ []) ≡ length (given_of 1 (cache_history plan f)) =
      (let l0 : reported.0.lo ≡ 0 = ap (λ (z : Shown). z.lo) one ∙ first in
      let l1 : length (given_of 1 (before limits plan e f q) ++ []) ≡ length (given_of 1 (cache_history plan f)) =
      ap length (append_none (given_of 1 (before limits plan e f q)) ∙ given) in
      omega (arith, l0, l1)) in
      let is_end : IsEnd (tables no_contents (before limits plan e f q)) head.r k.s.hi (length (given_of 1 (cache_history plan f))) =
      subst (λ m. IsEnd (tables no_contents (before limits plan e f q)) head.r k.s.hi m) count
      (subst (λ r. IsEnd (tables no_contents (before limits plan e f q)) r k.s.hi (reported.0.lo + length (given_of 1 (before limits plan e f q) ++ [])))
      (ap (λ (z : Shown). z.r) one ∙ k.of)
      (subst (λ (z : Option ℕ). IsEnd (tables no_contents (before limits plan e f q)) reported.0.r z
      (reported.0.lo + length (given_of 1 (before limits plan e f q) ++ []))) (ap (λ (z : Shown). z.hi) one) reported.2)) in (
        length (given_of 1 (cache_history plan f)),
        by_hi k.s.hi refl is_end,
        λ p lt. more_gathered e.acts (gathered f) p (covered p (omega arith) (omega arith)),
      )
    where
      by_hi : (o : Option ℕ) → k.s.hi ≡ o → IsEnd (tables no_contents (before limits plan e f q)) head.r o (length (given_of 1 (cache_history plan f))) →
          KnownEnd (tables no_contents (cache_history plan (e ∷ f))) head.r (length (given_of 1 (cache_history plan f)))
      by_hi None hi is = end_behind limits plan e f q head.r (length (given_of 1 (cache_history plan f)))
          (record { ends = is; headed = head_on limits plan e f q head.r k.known })
      by_hi (Some m) hi is = subst (KnownEnd (tables no_contents (cache_history plan (e ∷ f))) head.r) (sym is)
          (end_on limits plan e f q head.r m ((k.whole status).1 m hi))

      covered : (p : ℕ) → 0 ≤ p → p < 0 + length (given_of 1 (cache_history plan f)) → is_some (gathered f p) ≡ true
      covered p low high = given_covered limits plan 1 f (earlier limits plan e f q) k.s k.shown p (rw (k.whole status).0 low) (rw (k.whole status).0 high)

  ended_on : head.status ≡ 200 → has_ended 1 (e ∷ f) ≡ true → (n : ℕ) × KnownEnd (tables no_contents (cache_history plan (e ∷ f))) head.r n ×
      ((p : ℕ) → p < n → is_some (gathered (e ∷ f) p) ≡ true)
  ended_on status is = elim (bool_cases (ends_in 1 e.acts)) [
    | inl on ↦ reported_here status on
    | inr off ↦ let old = k.ends status (rw off at is) in
        (old.0, end_on limits plan e f q head.r old.0 old.1, λ p lt. more_gathered e.acts (gathered f) p (old.2 p lt))
  ]

  none_more : (xs : List Shown) → shown_in 1 e.acts ≡ xs → xs ≡ []
  none_more [] is = refl
  none_more (x ∷ xs) is =
      let few : length (shown_of 1 (before limits plan e f q) ++ (x ∷ xs)) ≤ 1 =
      subst (λ l. length (shown_of 1 (before limits plan e f q) ++ l) ≤ 1) is (few_shown limits plan e f q) in
      absurd (nil_cons k.s [] (sym (at_most_one (shown_of 1 (before limits plan e f q)) xs x few).0 ∙ was))

  pub still_known : FirstKnown plan (e ∷ f) head
  still_known = record {
    known = head_behind limits plan e f q head.r (head_on limits plan e f q head.r k.known);
    part = λ total reports. let old = k.part total reports in (old.0, end_on limits plan e f q head.r old.0 old.1, old.2);
    s = k.s;
    shown = shown_step plan 1 e f ∙ (ap (λ l. l ++ shown_in 1 e.acts) was ∙ ap (λ l. k.s ∷ l) (none_more (shown_in 1 e.acts) refl));
    of = k.of;
    whole = λ status. let old = k.whole status in (old.0, λ n hi. end_on limits plan e f q head.r n (old.1 n hi));
    ends = ended_on;
  }

-- what the first head tells is known
module _ (limits : Limits) (plan : FetchPlan) (plan_is : IsPlan plan) (e : Entry) (f : History) (q : IsFetchRun limits plan (e ∷ f))
    (own : has_foreign f ≡ false) (none : first_head f ≡ None) (head : Head) (is : first_in (heads_in e.acts) ≡ Some head) where
  facts : FirstShown (tables no_contents (started plan e.now (cache_history plan f))) head.r (among e.acts head is).lo (among e.acts head is).hi
      head.status head.fields
  facts = first_reported limits plan plan_is (before limits plan e f q) e q.begins (run_on limits plan e f q)
      (lone_before limits plan plan_is f (earlier limits plan e f q) own none e.now) head (among e.acts head is)

  none_before : shown_of 1 (started plan e.now (cache_history plan f)) ≡ []
  none_before = started_shows plan e.now 1 (cache_history plan f) ∙ unshown_before limits plan f none

  one_here : shown_in 1 e.acts ≡ record { r = head.r; why = (among e.acts head is).why; lo = (among e.acts head is).lo; hi = (among e.acts head is).hi } ∷ []
  one_here =
      let few = subst (λ l. length (shown_of 1 (before limits plan e f q) ++ l) ≤ 1) (among e.acts head is).shown (few_shown limits plan e f q) in
      (among e.acts head is).shown ∙
      ap (λ l. record { r = head.r; why = (among e.acts head is).why; lo = (among e.acts head is).lo; hi = (among e.acts head is).hi } ∷ l)
      (at_most_one (shown_of 1 (before limits plan e f q)) (among e.acts head is).rest _ few).1

  not_ended : has_ended 1 (e ∷ f) ≡ true → ⊥
  not_ended over = elim (bool_cases (ends_in 1 e.acts)) [
    | inr off ↦ unended_before limits plan f (earlier limits plan e f q) none (rw off at over)
    | inl on ↦
        let reported = ends_well limits no_contents (before limits plan e f q) e q.begins (run_on limits plan e f q) 1 (ends_says 1 e.acts on) in
        nil_cons reported.0 [] (sym none_before ∙ (sym (append_none (shown_of 1 (before limits plan e f q))) ∙ reported.1))
  ]

  pub now_known : FirstKnown plan (e ∷ f) head
  now_known = record {
    known = head_behind limits plan e f q head.r facts.known;
    part = λ total reports. let reported = facts.part total reports in (reported.0, end_behind limits plan e f q head.r reported.0 reported.1, reported.2);
    s = record { r = head.r; why = (among e.acts head is).why; lo = (among e.acts head is).lo; hi = (among e.acts head is).hi };
    shown = shown_step plan 1 e f ∙ (ap (λ l. l ++ shown_in 1 e.acts) none_before ∙ one_here);
    of = refl;
    whole = λ status. let reported = facts.whole status in (reported.0, λ n hi. end_behind limits plan e f q head.r n (reported.1 n hi));
    ends = λ status over. absurd (not_ended over);
  }

pub first_known : (limits : Limits) (plan : FetchPlan) → IsPlan plan → (f : History) → IsFetchRun limits plan f → has_foreign f ≡ false → (head : Head) →
    first_head f ≡ Some head → FirstKnown plan f head
first_known limits plan plan_is [] q own head is = absurd (none_some head is)
first_known limits plan plan_is (e ∷ f) q own head is =
    by_first (first_head f) refl is
    (λ z was. first_known limits plan plan_is f (earlier limits plan e f q) (or_false (is_foreign e.event) (has_foreign f) own).1 z was)
  where
    by_first : (o : Option Head) → first_head f ≡ o → option_or o (first_in (heads_in e.acts)) ≡ Some head →
        ((z : Head) → first_head f ≡ Some z → FirstKnown plan f z) → FirstKnown plan (e ∷ f) head
    by_first None none now_is earlier_known = now_known limits plan plan_is e f q (or_false (is_foreign e.event) (has_foreign f) own).1 none head now_is
    by_first (Some z) was now_is earlier_known =
        subst (FirstKnown plan (e ∷ f)) (some_inj z head now_is) (still_known limits plan e f q z (earlier_known z was))

-- ALL OF IT

done_inj : (m n : ℕ) → ended.Done m ≡ ended.Done n → m ≡ n
done_inj m n is = cc

-- as long as the body at most
module _ (limits : Limits) (plan : FetchPlan) (f : History) (q : IsFetchRun limits plan f) (head : Head) (is : first_head f ≡ Some head) (n : ℕ)
    (known : KnownEnd (tables no_contents (cache_history plan f)) head.r n) where
  within : (m : ℕ) → length (written_of f) ≡ m → m ≤ n
  within zero long = omega arith
  within (suc m) long =
      let got = writes_the_body limits plan f q head is m (omega (arith, long)) in
      let last = got.1 0 (omega arith) in
      let lt = before_end limits no_contents (cache_history plan f) q.begins q.run head.r n (0 + m + 0) _ known.ends last in
      omega (arith, lt)

  pub no_longer : length (written_of f) ≤ n
  no_longer = within (length (written_of f)) refl

  pub no_shorter : ((p : ℕ) → p < n → is_some (gathered f p) ≡ true) → n ≤ length (written_of f)
  unfolding written_of
  no_shorter covered = long (gathered f) 0 n (given_end f) (by_end n refl) (λ p low high. covered p (omega (arith, high)))
    where
      by_end : (m : ℕ) → n ≡ m → m ≤ given_end f
      by_end zero same = omega arith
      by_end (suc m) same = let lt = before_given_end f m (covered m (omega (arith, same))) in omega (arith, lt)

module _ (limits : Limits) (plan : FetchPlan) (plan_is : IsPlan plan) (f : History) (total : ℕ) (q : IsFetchRun limits plan f)
    (own : has_foreign f ≡ false) (head : Head) (is : first_head f ≡ Some head) where
  by_part : (o : Option ℕ) → total_of head ≡ o → is_all o (length (written_of f)) ≡ true → length (written_of f) ≡ total →
      end_of (tables no_contents (cache_history plan f)) head.r ≡ Some total
  by_part None reported all count = absurd (false_true all)
  by_part (Some t) reported all count =
      let same : length (written_of f) ≡ t =
      (let test : Rattle.std.specs.Prelude.nat_eq (length (written_of f)) t ≡ true = all in grind (arith, Rattle.std.proofs.lemmas.Bool.Decides.nat_tests)) in
      let part = (first_known limits plan plan_is f q own head is).part t (gives_part head t reported) in
      let most = no_longer limits plan f q head is part.0 part.1 in
      let less = part.2 in
      let n_is : part.0 ≡ total = omega (arith, same, count, most, less) in
      part.1.ends ∙ ap Some n_is

  by_whole : head.status ≡ 200 → has_ended 1 f ≡ true → length (written_of f) ≡ total → end_of (tables no_contents (cache_history plan f)) head.r ≡ Some total
  by_whole status over count =
      let reported = (first_known limits plan plan_is f q own head is).ends status over in
      let most = no_longer limits plan f q head is reported.0 reported.1 in
      let least = no_shorter limits plan f q head is reported.0 reported.1 reported.2 in
      let n_is : reported.0 ≡ total = omega (arith, count, most, least) in
      reported.1.ends ∙ ap Some n_is

  by_done : is_done_by (Some head) f (length (written_of f)) ≡ true → length (written_of f) ≡ total →
      end_of (tables no_contents (cache_history plan f)) head.r ≡ Some total
  by_done done count = elim (bool_cases (head.status == 200)) [
    | inl on ↦ by_whole (let test : Rattle.std.specs.Prelude.nat_eq head.status 200 ≡ true = on in
        grind (arith, Rattle.std.proofs.lemmas.Bool.Decides.nat_tests)) (rw on at done) count
    | inr off ↦ by_part (total_of head) refl (rw off at done) count
  ]

  pub all_written : ended_with f ≡ ended.Done total → end_of (tables no_contents (cache_history plan f)) head.r ≡ Some total
  unfolding ended_with
  all_written ends = elim (bool_cases (is_done_by (first_head f) f (length (written_of f)))) [
    | inl done ↦ by_done (sym (ap (λ (o : Option Head). is_done_by o f (length (written_of f))) is) ∙ done)
        (done_inj (length (written_of f)) total (rw done at ends))
    | inr off ↦ absurd (let no : ended.Unfinished (length (written_of f)) ≡ ended.Done total = rw off at ends in cc)
  ]

pub writes_all_of_it : WritesAllOfIt
writes_all_of_it limits plan f total plan_is q own undecided ends head is = all_written limits plan plan_is f total q own head is ends
