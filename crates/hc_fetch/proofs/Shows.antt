-- Whoever was shown a head was shown the representation of the first one, where nothing was decided.
--
-- An entry that decides nothing shows the first head, or heads of the representation that was shown first
-- (`all_first`). The fetch's own starts have no acts (`starts_silent`), so what was shown in the history of the cache
-- was shown by the events of the input (`shown_first`, by induction over these).
use Rattle.std.{proofs.Common.{◌≡◌, ℕ, zero, suc, ◌+◌, ◌==◌, List, [], ◌∷◌, ◌++◌, Bool, true, false, Option, Some, None, refl, ap, sym, ◌∙◌, subst, arith}, specs.{Prelude.{if◌then◌else◌, is_none, ◌&&◌}, Option.{option_or}}}
use Rattle.hc_text.proofs.Basics.{and_left, and_right, not_some as none_some}
use Rattle.hc_effects.proofs.Vocabulary.{Act, Entry, History, entry_without_acts, Shown, shown_in, shown_of, act}
use Rattle.hc_effects.proofs.Basics.{append_none, false_true, some_none}
use Rattle.hc_fetch.specs.{declared.{ended.FetchEnded.{FetchEnded}, plan.FetchPlan.{FetchPlan}}, Deciding.{by_failure, by_other, by_head, by_heads, fits, fits_first, decided_by, is_undecided, is_undecided_before}, Fetches.{started, starts_behind, start_by_head, start_by_total, parts_start, cache_history}, Heads.{Head, heads_in, first_in, first_head, total_of}, Plans.{part_count}}

-- WHAT WAS SHOWN FIRST

-- of the representation that was shown first
pub record IsFirst (first : Option Head) (r : ℕ) : Type 0 where
  pub head : Head
  pub is : first ≡ Some head
  pub of : head.r ≡ r

abbrev pub AllFirst : Option Head → List Shown → Type 0
AllFirst first [] = Unit {0}
AllFirst first (s ∷ shown) = IsFirst first s.r × AllFirst first shown

pub stays_first : (first more : Option Head) (r : ℕ) → IsFirst first r → IsFirst (option_or first more) r
stays_first None more r it = absurd (none_some it.head it.is)
stays_first (Some head) more r it = record { head = it.head; is = it.is; of = it.of }

all_stay : (first more : Option Head) (shown : List Shown) → AllFirst first shown → AllFirst (option_or first more) shown
all_stay first more [] all = tt
all_stay first more (s ∷ shown) all = (stays_first first more s.r all.0, all_stay first more shown all.1)

all_both : (first : Option Head) (xs ys : List Shown) → AllFirst first xs → AllFirst first ys → AllFirst first (xs ++ ys)
all_both first [] ys left right = right
all_both first (x ∷ xs) ys left right = (left.0, all_both first xs ys left.1 right)

-- AN ENTRY THAT DECIDES NOTHING

pub none_left : (a b : Option FetchEnded) → option_or a b ≡ None → a ≡ None
none_left None b is = refl
none_left (Some x) b is = absurd (some_none x is)

pub none_right : (a b : Option FetchEnded) → option_or a b ≡ None → b ≡ None
none_right None b is = is
none_right (Some x) b is = absurd (some_none x is)

pub unfit : (b : Bool) (a : Option FetchEnded) (d : FetchEnded) → (if b then a else Some d) ≡ None → b ≡ true
unfit true a d is = refl
unfit false a d is = absurd (some_none d is)

fit : (b : Bool) (a : Option FetchEnded) (d : FetchEnded) → (if b then a else Some d) ≡ None → a ≡ None
fit true a d is = is
fit false a d is = absurd (some_none d is)

same : (head before : Head) (b : Bool) (d : FetchEnded) → (head.r == before.r) ≡ b → (if b then None else Some d) ≡ None → head.r ≡ before.r
same head before true d tests is = grind (arith, tests, Rattle.std.proofs.lemmas.Bool.Decides.nat_tests)
same head before false d tests is = absurd (some_none d is)

head_first : (plan : FetchPlan) (first more : Option Head) (head : Head) → by_head plan first head ≡ None →
    IsFirst (option_or first (option_or (first_in (head ∷ [])) more)) head.r
head_first plan (Some before) more head is =
    let other : by_other head (Some before) ≡ None = fit (fits plan (Some before) head) (by_other head (Some before)) _ is in
    record { head = before; is = refl; of = sym (same head before (head.r == before.r) _ refl other) }
head_first plan None more head is = by_number (head.c == 1) refl
  where
    by_number : (b : Bool) → (head.c == 1) ≡ b → IsFirst (option_or (first_in (head ∷ [])) more) head.r
    by_number true one = record { head = head; is = ap (λ (b : Bool). option_or (if b then Some head else None) more) one; of = refl }
    by_number false other =
        let fit_is : fits plan None head ≡ true = unfit (fits plan None head) (by_other head None) _ is in
        absurd (false_true (ap (λ (b : Bool). if b then fits_first plan head else false) (sym other) ∙ fit_is))

pub or_assoc : (a b c : Option Head) → option_or (option_or a b) c ≡ option_or a (option_or b c)
or_assoc None b c = refl
or_assoc (Some x) b c = refl

pub first_cons : (head : Head) (heads : List Head) → option_or (first_in (head ∷ [])) (first_in heads) ≡ first_in (head ∷ heads)
first_cons head heads = by_number (head.c == 1)
  where
    by_number : (b : Bool) → option_or (if b then Some head else None) (first_in heads) ≡ (if b then Some head else first_in heads)
    by_number true = refl
    by_number false = refl

module _ (plan : FetchPlan) (first : Option Head) (head : Head) (heads : List Head) (is : by_heads plan first (head ∷ heads) ≡ None) where
  abbrev behind : Option Head
  behind = option_or first (first_in (head ∷ []))

  rest_none : by_heads plan behind heads ≡ None
  rest_none = none_right (by_head plan first head) (by_heads plan behind heads) is

  here : IsFirst (option_or first (first_in (head ∷ heads))) head.r
  here = subst (λ (q : Option Head). IsFirst (option_or first q) head.r) (first_cons head heads)
      (head_first plan first (first_in heads) head (none_left (by_head plan first head) (by_heads plan behind heads) is))

  joined : option_or behind (first_in heads) ≡ option_or first (first_in (head ∷ heads))
  joined = or_assoc first (first_in (head ∷ [])) (first_in heads) ∙ ap (λ (q : Option Head). option_or first q) (first_cons head heads)

  one_more : (b : Bool) (s : Shown) (shown : List Shown) → head.r ≡ s.r → AllFirst (option_or behind (first_in heads)) shown →
      AllFirst (option_or first (first_in (head ∷ heads))) (if b then s ∷ shown else shown)
  one_more true s shown of rest =
      (subst (IsFirst (option_or first (first_in (head ∷ heads)))) of here, subst (λ (q : Option Head). AllFirst q shown) joined rest)
  one_more false s shown of rest = subst (λ (q : Option Head). AllFirst q shown) joined rest

pub all_first : (plan : FetchPlan) (first : Option Head) (c : ℕ) (acts : List Act) → by_heads plan first (heads_in acts) ≡ None →
    AllFirst (option_or first (first_in (heads_in acts))) (shown_in c acts)
all_first plan None c [] is = tt
all_first plan (Some head) c [] is = tt
all_first plan first c (act.Shown d r why status fields lo hi ∷ acts) is =
    let head : Head = record { c = d; r = r; status = status; fields = fields } in
    one_more plan first head (heads_in acts) is (d == c) (record { r = r; why = why; lo = lo; hi = hi }) (shown_in c acts) refl
    (all_first plan (option_or first (first_in (head ∷ []))) c acts (rest_none plan first head (heads_in acts) is))
all_first plan first c (act.Opened x d need request ∷ acts) is = all_first plan first c acts is
all_first plan first c (act.Close x ∷ acts) is = all_first plan first c acts is
all_first plan first c (act.Ask x ∷ acts) is = all_first plan first c acts is
all_first plan first c (act.Given d x at bytes ∷ acts) is = all_first plan first c acts is
all_first plan first c (act.Ended d ∷ acts) is = all_first plan first c acts is
all_first plan first c (act.Failed d cause ∷ acts) is = all_first plan first c acts is
all_first plan first c (_ ∷ acts) is = all_first plan first c acts is

-- THE FETCH'S OWN STARTS

abbrev pub IsSilent : History → Type 0
IsSilent [] = Unit {0}
IsSilent (e ∷ h) = (e.acts ≡ []) × IsSilent h

parts_silent : (plan : FetchPlan) (now total n : ℕ) → IsSilent (parts_start plan now total n)
parts_silent plan now total zero = tt
parts_silent plan now total (suc n) = by_first (n == 0) (parts_silent plan now total n)
  where
    by_first : (b : Bool) → IsSilent (parts_start plan now total n) →
        IsSilent (if b then [] else entry_without_acts now (Rattle.hc_fetch.specs.Plans.part_start plan total (n + 1)) ∷ parts_start plan now total n)
    by_first true rest = tt
    by_first false rest = (refl, rest)

total_silent : (plan : FetchPlan) (now : ℕ) (total : Option ℕ) → IsSilent (start_by_total plan now total)
total_silent plan now None = tt
total_silent plan now (Some total) = parts_silent plan now total (part_count plan total)

head_silent : (plan : FetchPlan) (now : ℕ) (head : Option Head) → IsSilent (start_by_head plan now head)
head_silent plan now None = tt
head_silent plan now (Some head) = total_silent plan now (total_of head)

pub starts_silent : (plan : FetchPlan) (f : History) (e : Entry) → IsSilent (starts_behind plan f e)
starts_silent plan f e = by_decision (is_none (decided_by plan f e.acts) && is_none (first_head f))
  where
    by_decision : (b : Bool) → IsSilent (if b then start_by_head plan e.now (first_in (heads_in e.acts)) else [])
    by_decision true = head_silent plan e.now (first_in (heads_in e.acts))
    by_decision false = tt

pub silent_shows : (c : ℕ) (xs h : History) → IsSilent xs → shown_of c (xs ++ h) ≡ shown_of c h
silent_shows c [] h silent = refl
silent_shows c (x ∷ xs) h silent =
    ap (λ (acts : List Act). shown_of c (xs ++ h) ++ shown_in c acts) silent.0 ∙ (append_none (shown_of c (xs ++ h)) ∙ silent_shows c xs h silent.1)

pub started_shows : (plan : FetchPlan) (now c : ℕ) (h : History) → shown_of c (started plan now h) ≡ shown_of c h
started_shows plan now c [] = refl
started_shows plan now c (e ∷ h) = refl

-- WHAT WAS SHOWN

pub decides_nothing : (plan : FetchPlan) (e : Entry) (f : History) → is_undecided plan (e ∷ f) ≡ true → decided_by plan f e.acts ≡ None
decides_nothing plan e f is = by_decision (decided_by plan f e.acts) (and_left (is_none (decided_by plan f e.acts)) (is_undecided plan f) is)
  where
    by_decision : (q : Option FetchEnded) → is_none q ≡ true → q ≡ None
    by_decision None is = refl
    by_decision (Some d) is = absurd (false_true is)

pub was_undecided : (plan : FetchPlan) (f : History) → is_undecided plan f ≡ true → is_undecided_before plan f ≡ true
was_undecided plan [] is = refl
was_undecided plan (e ∷ f) is = and_right (is_none (decided_by plan f e.acts)) (is_undecided plan f) is

pub no_heads_decide : (plan : FetchPlan) (f : History) (acts : List Act) → decided_by plan f acts ≡ None → by_heads plan (first_head f) (heads_in acts) ≡ None
unfolding decided_by
no_heads_decide plan f acts is = none_right (by_failure acts) (by_heads plan (first_head f) (heads_in acts)) is

pub shown_first : (plan : FetchPlan) (c : ℕ) (f : History) → is_undecided plan f ≡ true → AllFirst (first_head f) (shown_of c (cache_history plan f))
shown_first plan c [] is = tt
shown_first plan c (e ∷ f) is =
    let heads = all_first plan (first_head f) c e.acts (no_heads_decide plan f e.acts (decides_nothing plan e f is)) in
    let before = all_stay (first_head f) (first_in (heads_in e.acts)) (shown_of c (cache_history plan f))
    (shown_first plan c f (was_undecided plan (e ∷ f) is)) in
    let shown : shown_of c (cache_history plan (e ∷ f)) ≡ shown_of c (cache_history plan f) ++ shown_in c e.acts =
    silent_shows c (starts_behind plan f e) (e ∷ started plan e.now (cache_history plan f)) (starts_silent plan f e)
    ∙ ap (λ (xs : List Shown). xs ++ shown_in c e.acts) (started_shows plan e.now c (cache_history plan f)) in
    subst (AllFirst (first_head (e ∷ f))) (sym shown)
    (all_both (first_head (e ∷ f)) (shown_of c (cache_history plan f)) (shown_in c e.acts) before heads)

-- who reads behind such events, before the next one
pub reads_first : (plan : FetchPlan) (now c : ℕ) (f : History) (s : Shown) → is_undecided plan f ≡ true →
    shown_of c (started plan now (cache_history plan f)) ≡ s ∷ [] → IsFirst (first_head f) s.r
reads_first plan now c f s is shown =
    let all : AllFirst (first_head f) (s ∷ []) =
    subst (AllFirst (first_head f)) (sym (started_shows plan now c (cache_history plan f)) ∙ shown) (shown_first plan c f is) in
    all.0
