-- A head that joins brings positions of its hole.
--
-- Each route of the table of cases is gone through: only at a hole there are cases that join (`by_turn`, `by_first`,
-- `may_join`). The test of joining says that the head is a 206 for the hole, with the tag and the total of what is
-- stored (`IsFilling`, `filling`). Its length is then a part that lies in the hole, or it has no body (`lies_hole`,
-- `lies`). HeadKeeps builds on these.
use Rattle.std.{proofs.{Common.{◌≡◌, ◌≢◌, ℕ, ◌+◌, ◌-◌, ◌<◌, ◌≤◌, Bool, true, false, cond, List, Option, Some, None, refl, sym, ◌∙◌, subst, arith}, lemmas.Bool.Decides.{nat_tests}}, specs.Prelude.{codes}}
use Rattle.hc_text.proofs.Basics.{either}
use Rattle.hc_effects.proofs.Vocabulary.{brings_part, range, need, route, case, Response, Request, Need, Route, HeadCase, HeadView, Length, head_case, case_on, direct_case, turn_case, first_case, later_case, length_of, content_length_of, part_length, has_no_body, route_of, content_range_of, Representation, is_joining, joins_row, joins_by}
use Rattle.hc_rules.specs.declared.length.Length.TheVariants as reported
use Rattle.hc_rules.proofs.JoinLaws.{joins-right}
use Rattle.hc_fields.specs.FirstValues.{elements_in}

-- why a head is one that joins
pub data MayJoin (v : HeadView) : HeadCase → Type 0 where
  other : (c : HeadCase) → is_joining (Some c) ≡ false → MayJoin v c
  joining : (c : HeadCase) → v.joins ≡ true → v.bad ≡ false → MayJoin v c

-- what holds of each side holds of the choice
pub mix : {A : Type 0} (P : A → Type 0) (b : Bool) (x y : A) → P x → P y → P (cond b x y)
mix P b x y p q = grind (arith, nat_tests)

module _ (v : HeadView) where
  by_direct : MayJoin v (direct_case v)
  by_direct = mix (MayJoin v) _ _ _ (other case.DirectBad refl) (other case.DirectTaken refl)

  by_turn : MayJoin v (turn_case v)
  by_turn =
      mix (MayJoin v) _ _ _ (other case.TurnBad refl)
      (mix (MayJoin v) _ _ _ (other case.Validated refl)
      (mix (MayJoin v) _ _ _ (other case.NotValidated refl)
      (mix (MayJoin v) _ _ _ (other case.TurnServerError refl)
      (mix (MayJoin v) _ _ _ (other case.FoundsWhole refl)
      (mix (MayJoin v) _ _ _ (other case.FoundsRange refl) (other case.PassesBy refl))))))

  by_first : MayJoin v (first_case v)
  by_first =
      either (MayJoin v) v.bad _ _ (λ h. other case.FirstBad refl) (λ good.
      either (MayJoin v) v.joins _ _ (λ joined. joining case.FirstJoins joined good) (λ h.
      mix (MayJoin v) _ _ _ (other case.FirstServerError refl)
      (mix (MayJoin v) _ _ _ (other case.FirstChanged refl)
      (mix (MayJoin v) _ _ _ (other case.FirstReplaced refl) (other case.FirstPassesBy refl)))))

  by_later : MayJoin v (later_case v)
  by_later =
      either (MayJoin v) v.bad _ _ (λ h. other case.LaterBad refl) (λ good.
      either (MayJoin v) v.joins _ _ (λ joined. joining case.LaterJoins joined good) (λ h. other case.LaterChanged refl))

  by_route : (r : Route) → MayJoin v (case_on r v)
  by_route route.Direct = by_direct
  by_route route.Turn = by_turn
  by_route route.Hole = mix (MayJoin v) v.shown _ _ by_later by_first

  pub may_join : MayJoin v (head_case v)
  unfolding head_case
  may_join = by_route (route_of v.need)

-- what a head that joins fills
pub record IsFilling (n : Need) (o : Option Representation) (response : Response) : Type 0 where
  pub from : ℕ
  pub to : ℕ
  pub need_is : n ≡ need.Hole from to
  pub v : Representation
  pub row : o ≡ Some v
  pub last : ℕ
  pub tagged : v.head.joining ≢ None
  pub total : ℕ
  pub known : v.head.total ≡ Some total
  pub part : content_range_of response.fields ≡ Some (range.Part from last (Some total))
  pub within : last < to
  pub status : brings_part response.status ≡ true

filling_by : (from to : ℕ) (v : Representation) (response : Response) (opaque : Option (List ℕ)) (total : Option ℕ) → v.head.joining ≡ opaque →
    v.head.total ≡ total → joins_by opaque total (record { lo = from; hi = to }) response ≡ true → IsFilling (need.Hole from to) (Some v) response
filling_by from to v response None total tag known h = absurd (let never : false ≡ true = h in cc)
filling_by from to v response (Some opaque) None tag known h = absurd (let never : false ≡ true = h in cc)
filling_by from to v response (Some opaque) (Some total) tag known h =
    let (last, j) = (joins-right (false, opaque) total (record { lo = from; hi = to }) response).0 h in
    record {
      from = from;
      to = to;
      need_is = refl;
      v = v;
      row = refl;
      last = last;
      tagged =
          λ none. (let never : Some opaque ≡ None = sym tag ∙ none in cc);
      total = total;
      known = known;
      part = j.reported;
      within = j.within;
      status = j.status;
    }

pub filling : (n : Need) (o : Option Representation) (response : Response) → joins_row n o response ≡ true → IsFilling n o response
filling (need.Hole from to) None response h = absurd (let never : false ≡ true = h in cc)
filling (need.Hole from to) (Some v) response h = filling_by from to v response v.head.joining v.head.total refl refl h
filling _ o response h = absurd (let never : false ≡ true = h in cc)

-- where the length of a joining head lies: within the hole, or nowhere
pub data LiesIn (from to : ℕ) : Length → Type 0 where
  bad : LiesIn from to reported.Bad
  empty : LiesIn from to (reported.Promised 0)
  within : (n : ℕ) → ((p : ℕ) → from ≤ p → p < from + n → p < to) → LiesIn from to (reported.Part from n)

lies_part : (from to last total : ℕ) (said : Length) → last < to → LiesIn from to (part_length said (Some (range.Part from last (Some total))))
lies_part from to last total said below =
    mix (LiesIn from to) _ _ _ (within (last + 1 - from) (λ p le lt. omega arith)) bad

first_side : (from to : ℕ) (b : Bool) (x y : Length) → b ≡ true → LiesIn from to x → LiesIn from to (cond b x y)
first_side from to b x y is lies = grind (arith, nat_tests)

lies_hole : (from to last total : ℕ) (request : Request) (response : Response) → brings_part response.status ≡ true →
    content_range_of response.fields ≡ Some (range.Part from last (Some total)) → last < to → LiesIn from to (length_of (need.Hole from to) request response)
unfolding length_of
lies_hole from to last total request response status part below =
    let said = content_length_of (elements_in (codes "content-length") response.fields) in
    let here : LiesIn from to (part_length said (content_range_of response.fields)) = rw part (lies_part from to last total said below) in
    mix (LiesIn from to) (has_no_body request response.status) (reported.Promised 0) _ empty (first_side from to (brings_part response.status) _ _ status here)

-- the head that joins is a part for a hole
pub lies : (n : Need) (o : Option Representation) (request : Request) (response : Response) (f : IsFilling n o response) →
    LiesIn f.from f.to (length_of n request response)
lies n o request response f =
    subst (λ (m : Need). LiesIn f.from f.to (length_of m request response)) (sym f.need_is)
    (lies_hole f.from f.to f.last f.total request response f.status f.part f.within)
