-- The first consumer has the turn as long as it is alone, and asks the origin for what is missed.
--
-- While no other consumer starts, the line of the key has the first one alone, so the turn is its own (`turn_is`). Its
-- request is a plain one. Where nothing is current for its key, no row of the plan before that of a miss applies
-- (`bare`). So its plan is to fetch what is missed (`planned`). It asks for a first part or for all (`first_range`), so
-- what it wants begins at the first position (`wanted_first`). By these it is followed over a run.
use Rattle.std.{proofs.Common.{◌≡◌, inl, inr, ℕ, ◌-◌, ◌<◌, ◌^◌, List, [], ◌∷◌, ◌++◌, Bool, true, false, Option, Some, None, refl, ap, sym, ◌∙◌, arith}, specs.{Prelude.{◌==◌, ◌&&◌, ◌||◌, not, codes, nat_lt, filter, find, unwrap_or, if◌then◌else◌}, Option.{option_or}, Fmt.{decimal}}}
use Rattle.hc_text.proofs.{Basics.{bool_cases}, NumberLemmas.{IsNumber-decimal}}
use Rattle.hc_effects.proofs.Vocabulary.{need, wanted, plan as plans, Wanted, Plan, PlanView, least, lesser, plan_of, bare_plan, in_time, from_store, queues, is_back, asked_in, class_of, is_disabled, is_only, is_bypassing, range_of, wanted_of, current, line, holder, turn_with, is_in_line, holds_turn, plan_view, planned_move, Tables, Consumer}
use Rattle.hc_range.specs.declared.range.{RangeSpec.{RangeSpec, TheVariants.{FromTo}}, Span.{Span}}
use Rattle.hc_rules.proofs.RangeReads.{asked_in-spelled}
use Rattle.hc_model.specs.Moves.{opens}
use Rattle.hc_fetch.specs.{declared.plan.FetchPlan.{FetchPlan}, Bounds.{IsPlan}, Plans.{first_fields, fields_for, request_of}}

-- THE TURN

abbrev AllOne : List ℕ → Type 0
AllOne [] = Unit {0}
AllOne (n ∷ ns) = (n ≡ 1) × AllOne ns

filter_ones : (test : ℕ → Bool) (ns : List ℕ) → ((n : ℕ) → test n ≡ true → n ≡ 1) → AllOne (filter test ns)
filter_ones test [] ones = tt
filter_ones test (n ∷ ns) ones = elim (bool_cases (test n)) [
  | inl passes ↦ rw passes (ones n passes, filter_ones test ns ones)
  | inr off ↦ rw off (filter_ones test ns ones)
]

data IsOne : Option ℕ → Type 0 where
  none : IsOne None
  one : IsOne (Some 1)

found_one : (test : ℕ → Bool) (ns : List ℕ) → AllOne ns → IsOne (find test ns)
found_one test [] all = none
found_one test (n ∷ ns) all = elim (bool_cases (test n)) [
  | inl passes ↦ rw passes (rw all.0 one)
  | inr off ↦ rw off (found_one test ns all.1)
]

least_ones : (ns : List ℕ) → AllOne ns → IsOne (least ns)
least_ones [] all = none
least_ones (n ∷ ns) all = by_rest (least ns) (least_ones ns all.1)
  where
    by_rest : (o : Option ℕ) → IsOne o → IsOne (lesser o n)
    by_rest _ none = rw all.0 one
    by_rest _ one = rw all.0 one

one_turn : (a b : Option ℕ) → IsOne a → IsOne b → unwrap_or (option_or a b) 1 ≡ 1
one_turn _ _ none none = refl
one_turn _ _ none one = refl
one_turn _ _ one b = refl

in_line_some : (key : List ℕ) (o : Option Consumer) → is_in_line key o ≡ true → (k : Consumer) × (o ≡ Some k)
in_line_some key None is = absurd (let no : false ≡ true = is in cc)
in_line_some key (Some k) is = (k, refl)

module _ (t : Tables) (key : List ℕ) (only : (c : ℕ) (k : Consumer) → t.consumer c ≡ Some k → c ≡ 1) where
  line_ones : AllOne (line t key)
  unfolding line
  line_ones = filter_ones (λ c. is_in_line key (t.consumer c)) t.starts
      (λ c passes. let there = in_line_some key (t.consumer c) passes in only c there.0 there.1)

  pub turn_is : turn_with t key 1 ≡ 1
  turn_is = one_turn (holder t key) (least (1 ∷ line t key)) (found_one (λ c. holds_turn (t.consumer c)) (line t key) line_ones)
      (least_ones (1 ∷ line t key) (refl, line_ones))

-- ITS REQUEST

module _ (p : FetchPlan) (is : IsPlan p) where
  reads_range : asked_in (codes "bytes=" ++ decimal 0 ++ codes "-" ++ decimal (p.size - 1)) ≡ Some (FromTo 0 (p.size - 1))
  reads_range =
      let size = is.size in
      let small : p.size - 1 < 2 ^ 62 = omega (arith, size) in
      asked_in-spelled (codes "bytes=" ++ decimal 0 ++ codes "-" ++ decimal (p.size - 1)) (FromTo 0 (p.size - 1)) (
        codes "bytes=",
        decimal 0 ++ codes "-" ++ decimal (p.size - 1),
        refl,
        (decimal 0, decimal (p.size - 1), IsNumber-decimal 0 (omega arith), IsNumber-decimal (p.size - 1) small, omega arith, refl),
        refl,
      )

  cached_by : (b : Bool) → is_disabled (request_of p (fields_for (if b then None else Some (0, p.size - 1)))) ≡ false
  unfolding is_disabled
  cached_by true = refl
  cached_by false = rw reads_range refl

  asks_by : (b : Bool) → is_only (request_of p (fields_for (if b then None else Some (0, p.size - 1)))) ≡ false
  unfolding is_only
  asks_by true = refl
  asks_by false = refl

  plain_by : (b : Bool) → is_bypassing (request_of p (fields_for (if b then None else Some (0, p.size - 1)))) ≡ false
  unfolding is_bypassing
  plain_by true = refl
  plain_by false = refl

  pub cached : is_disabled (request_of p (first_fields p)) ≡ false
  cached = cached_by (p.parts == 1)

  pub asks_origin : is_only (request_of p (first_fields p)) ≡ false
  asks_origin = asks_by (p.parts == 1)

  pub plain : is_bypassing (request_of p (first_fields p)) ≡ false
  plain = plain_by (p.parts == 1)

-- ITS PLAN

own_turn : (a b : Bool) → (a && not true && b) ≡ false
own_turn true b = refl
own_turn false b = refl

other_way : (b : Bool) (x y : Plan) → b ≡ false → (if b then x else y) ≡ y
other_way true x y is = absurd (let no : true ≡ false = is in cc)
other_way false x y is = refl

module _ (t : Tables) (now : ℕ) (k : Consumer) (nothing : current t k.request.key ≡ None) (turn : turn_with t k.request.key 1 ≡ 1)
    (cache : is_disabled k.request ≡ false) (origin : is_only k.request ≡ false) (stored : is_bypassing k.request ≡ false) where
  abbrev v : PlanView
  v = plan_view t now 1 k

  first_in_line : queues v ≡ false
  first_in_line = rw turn (own_turn (not v.passed || is_back v) (not v.class.only))

  bare : bare_plan v ≡ plans.Fetch need.Miss
  unfolding class_of
  bare = rw (cache, first_in_line, stored, nothing) refl

  plan_is : plan_of v ≡ plans.Fetch need.Miss
  unfolding plan_of class_of
  plan_is = other_way v.class.only (from_store (bare_plan v)) (in_time v (bare_plan v)) origin ∙ ap (in_time v) bare

  pub planned : planned_move t now 1 k ≡ opens t need.Miss k.request
  planned = rw plan_is refl

-- ITS RANGE

abbrev span_lo : Wanted → ℕ
span_lo (wanted.Interval span) = span.lo
span_lo _ = 0

-- none, or one from the first position on
pub data IsFirstRange : Option RangeSpec → Type 0 where
  asks_all : IsFirstRange None
  asks_to : (last : ℕ) → IsFirstRange (Some (FromTo 0 last))

module _ (p : FetchPlan) (is : IsPlan p) where
  range_by : (b : Bool) → IsFirstRange (range_of (request_of p (fields_for (if b then None else Some (0, p.size - 1)))))
  unfolding range_of
  range_by true = rw (cached_by p is true) asks_all
  range_by false = rw (cached_by p is false, reads_range p is) (asks_to (p.size - 1))

  pub first_range : IsFirstRange (range_of (request_of p (first_fields p)))
  first_range = range_by (p.parts == 1)

-- what is wanted begins at the first position
pub wanted_first : (o : Option RangeSpec) (total : Option ℕ) (span : Span) → IsFirstRange o → wanted_of o total ≡ wanted.Interval span → span.lo ≡ 0
wanted_first _ None span asks_all is = absurd (let no : wanted.TotalUnknown ≡ wanted.Interval span = is in cc)
wanted_first _ None span (asks_to last) is = absurd (let no : wanted.TotalUnknown ≡ wanted.Interval span = is in cc)
wanted_first _ (Some total) span asks_all is = sym (ap span_lo is)
wanted_first _ (Some total) span (asks_to last) is = elim (bool_cases (nat_lt 0 total)) [
  | inl some ↦ sym (ap span_lo (rw some at is))
  | inr empty ↦ absurd (let no : wanted.Unsatisfiable ≡ wanted.Interval span = rw empty at is in cc)
]
