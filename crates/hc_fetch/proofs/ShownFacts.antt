-- What the first consumer is shown tells where the body ends.
--
-- It is shown what its head founded (`stored_shown`), or its answer past the store (`direct_shown`). A 206 of what is
-- stored tells the length that is stored. One past the store brings a part of its whole, and isn't bad. So the end is
-- known, and no later than what is told (`part`). A 200 begins at the first position, and where an end is shown that is
-- the end of the body (`whole`).
use Rattle.std.{proofs.{Common.{◌≡◌, ℕ, ◌+◌, ◌-◌, ◌<◌, ◌≤◌, List, [], ◌∷◌, Bool, true, false, inl, inr, Option, Some, None, refl, ap, sym, ◌∙◌, subst, arith}, lemmas.Bool.Decides.{nat_tests}}, specs.{Prelude.{◌==◌, ◌&&◌, codes, map, filter, nat_eq, is_some}, Option.{option_or, option_and_then}, Fmt.{decimal}}}
use Rattle.hc_text.proofs.Basics.{bool_cases, not_some as none_some, same_bytes as same_name, some_inj, and_right, and_left}
use Rattle.hc_fields.specs.{FieldList.{comes_before, field_list_with, has_name, values_of, without}, FirstValues.{only_of}}
use Rattle.hc_range.specs.{declared.range.{ContentRange.{ContentRange}, Span.{Span}}, Spans.{IsWithin, content_range_text}}
use Rattle.hc_effects.proofs.Vocabulary.{brings_part, range, by, place, route, Why, Response, Place, length_of, base_of, promise_of, route_of, content_range_of, content_range_in, total_in, base, Move, Shows, shows_stored, span_to, Parts, Places, is_ranged, shows_at, shows_direct, shows_answer, hi_of, end_in, end_of_direct, end_by, Tables, Exchange, Representation, Consumer}
use Rattle.hc_range.proofs.RangeLemmas.{content_range_text_spells}
use Rattle.hc_event.specs.declared.act.Why.TheVariants as why_is
use Rattle.hc_rules.proofs.{RangeReads.{content_range_in-spelled}, Statuses.{ok_no_part, partial_brings}}
use Rattle.hc_validate.specs.{Showing.{with_age, with_range, part_of, shown_as, shown_response}, Updates.{FieldPairs, with_one}}
use Rattle.hc_model.specs.Sound as sound
use Rattle.hc_effects.proofs.{Basics.{false_true, some_row}, PartReported.{part_within, whole_base}}
use Rattle.hc_laws.proofs.SoundRuns.{IsCarried}
use Rattle.hc_fetch.specs.{declared.plan.FetchPlan.{FetchPlan}, Heads.{Head, total_of, total_by}}
use Rattle.hc_fetch.proofs.{Ends.{KnownEnd, KnownHead}, LoneRuns.{IsLone}}

-- A FIELD THAT STANDS ONCE

none_left : (name : List ℕ) (fs : FieldPairs) → filter (has_name name) (without name fs) ≡ []
none_left name [] = refl
none_left name (f ∷ fs) = elim (bool_cases (has_name name f)) [
  | inl its ↦ rw its (none_left name fs)
  | inr other ↦ rw (other, other) (none_left name fs)
]

one_put : (name value : List ℕ) (fs : FieldPairs) → filter (has_name name) fs ≡ [] → filter (has_name name) (field_list_with name value fs) ≡ (name, value) ∷ []
one_put name value [] none = rw (same_name name) refl
one_put name value (f ∷ fs) none = elim (bool_cases (has_name name f)) [
  | inl its ↦ absurd (let no : f ∷ filter (has_name name) fs ≡ [] = rw its at none in cc)
  | inr other ↦
      let rest : filter (has_name name) fs ≡ [] = rw other at none in
      elim (bool_cases (comes_before name f.0)) [
        | inl here ↦ rw (here, same_name name, other, rest) refl
        | inr later ↦ rw (later, other) (one_put name value fs rest)
      ]
]

pub only_one : (name value : List ℕ) (fs : FieldPairs) → only_of (values_of name (with_one name value fs)) ≡ Some value
only_one name value fs = ap (λ (l : FieldPairs). only_of (map (λ (f : List ℕ × List ℕ). f.1) l)) (one_put name value (without name fs) (none_left name fs))

-- WHAT A HEAD TELLS

pub record ReportsPart (status : ℕ) (fields : List (List ℕ × List ℕ)) (total : ℕ) : Type 0 where
  pub status_is : status ≡ 206
  pub last : ℕ
  pub reported : content_range_of fields ≡ Some (range.Part 0 last (Some total))

reported_by : (status : ℕ) (fields : List (List ℕ × List ℕ)) (total : ℕ) (o : Option ContentRange) → status ≡ 206 → content_range_of fields ≡ o →
    total_by o ≡ Some total → ReportsPart status fields total
reported_by status fields total None at is h = absurd (none_some total h)
reported_by status fields total (Some (range.Unsatisfied n)) at is h = absurd (none_some total h)
reported_by status fields total (Some (range.Part first last n)) at is h = elim (bool_cases (first == 0)) [
  | inr off ↦ absurd (none_some total (rw off at h))
  | inl on ↦
      let zero : first ≡ 0 = (let test : nat_eq first 0 ≡ true = on in grind (arith, nat_tests)) in
      let all : n ≡ Some total = rw on at h in
      record { status_is = at; last = last; reported = is ∙ rw (zero, all) refl }
]

pub gives_part : (head : Head) (total : ℕ) → total_of head ≡ Some total → ReportsPart head.status head.fields total
gives_part head total is = elim (bool_cases (head.status == 206)) [
  | inr off ↦ absurd (none_some total (rw off at is))
  | inl on ↦ reported_by head.status head.fields total (content_range_of head.fields)
      (let test : nat_eq head.status 206 ≡ true = on in grind (arith, nat_tests)) refl (rw on at is)
]

-- WHAT IS SHOWN

-- of what is shown first
pub record FirstShown (t : Tables) (r lo : ℕ) (hi : Option ℕ) (status : ℕ) (fields : List (List ℕ × List ℕ)) : Type 0 where
  pub known : KnownHead t r
  pub part : (total : ℕ) → ReportsPart status fields total → (n : ℕ) × KnownEnd t r n × (n ≤ total)
  pub whole : status ≡ 200 → (lo ≡ 0) × ((n : ℕ) → hi ≡ Some n → KnownEnd t r n)

record ShowsAs (a : ℕ) (b : Response) (d : ℕ) (f : Option ℕ) (r : ℕ) (head : Response) (lo : ℕ) (hi : Option ℕ) : Type 0 where
  number : a ≡ r
  answer : b ≡ head
  from : d ≡ lo
  to : f ≡ hi

shows_inj : (a : ℕ) (y : Why) (b : Response) (d : ℕ) (f : Option ℕ) (r : ℕ) (why : Why) (head : Response) (lo : ℕ) (hi : Option ℕ) →
    Some (Shows a y b d f) ≡ Some (Shows r why head lo hi) → ShowsAs a b d f r head lo hi
shows_inj a y b d f r why head lo hi is = let same : Shows a y b d f ≡ Shows r why head lo hi = some_inj _ _ is in
    record { number = cc; answer = cc; from = cc; to = cc }

whole_not_part : (n : ℕ) → n ≡ 200 → n ≡ 206 → ⊥
whole_not_part n a b = omega arith

module _ (p : FetchPlan) (t : Tables) (c : IsCarried t) (b : Places t) (parts : Parts t) (l : IsLone p t) (k : Consumer) (row : t.consumer 1 ≡ Some k)
    (r : ℕ) (why : Why) (head : Response) (lo : ℕ) (hi : Option ℕ) where
  abbrev show : Move
  show = Shows r why head lo hi

  -- PAST THE STORE

  answered : (x : ℕ) (w : Exchange) (o : Option Response) → k.place ≡ place.Direct x → t.exchange x ≡ Some w → t.representation x ≡ None → w.head ≡ o →
      shows_answer t x w o ≡ Some show → FirstShown t r lo hi head.status head.fields
  answered x w None at there bare headed is = absurd (none_some show is)
  answered x w (Some response) at there bare headed is =
      let same = shows_inj x (why_is.Fetched x) response (base w) (hi_of t (place.Direct x)) r why head lo hi is in
      subst (λ z. FirstShown t z lo hi head.status head.fields) same.number (record {
        known = λ none. record { w = w; row = there; headed = ap (λ (o : Option Response). is_some o) headed };
        part = λ total reports. part_of_it total (subst (λ (z : Response). ReportsPart z.status z.fields total) (sym same.answer) reports);
        whole = λ status. (sym same.from ∙ first (ap (λ (z : Response). z.status) same.answer ∙ status), λ n to. ends n (same.to ∙ to));
      })
    where
      miss : route_of w.need ≡ route.Direct → ⊥
      miss way = let no : route.Turn ≡ route.Direct = sym (ap route_of (l.misses x w there)) ∙ way in cc

      ends : (n : ℕ) → hi_of t (place.Direct x) ≡ Some n → KnownEnd t x n
      ends n is = record {
        ends = ap (end_by t x) bare ∙ is;
        headed =
            λ none. record { w = w; row = there; headed = ap (λ (o : Option Response). is_some o) headed };
      }

      first : response.status ≡ 200 → base w ≡ 0
      first status =
          let off = ok_no_part response.status status in
          ap (λ (o : Option Response). base_of (Rattle.hc_model.specs.Exchanges.length_by w o)) headed ∙ whole_base w.need w.request response off

      part_of_it : (total : ℕ) → ReportsPart response.status response.fields total → (n : ℕ) × KnownEnd t x n × (n ≤ total)
      part_of_it total reports =
          let good = l.good x k w response row at there headed in
          let within = part_within
          w.need w.request response 0 reports.last total miss (partial_brings response.status reports.status_is) reports.reported good in
          let reported : end_in (t.exchange x) ≡ Some (base w + within.n) = ap end_in there ∙
          ap (λ q. end_of_direct q w) (ap (λ (o : Option Response). promise_of (Rattle.hc_model.specs.Exchanges.length_by w o)) headed ∙ within.promise) in
          let first_is : base w ≡ base_of (length_of w.need w.request response) =
          ap (λ (o : Option Response). base_of (Rattle.hc_model.specs.Exchanges.length_by w o)) headed in
          let ends_by = within.ends in
          (base w + within.n, ends (base w + within.n) reported, omega arith)

  direct_shown : (x : ℕ) → k.place ≡ place.Direct x → shows_at t k (place.Direct x) ≡ Some show → FirstShown t r lo hi head.status head.fields
  direct_shown x at is =
      let d = b.direct 1 x k row at in
      answered x d.w d.w.head at d.row d.unfounded refl (sym (ap (shows_direct t x) d.row) ∙ is)

  -- WHAT IS STORED

  module _ (q a : ℕ) (d : Option ℕ) (at : k.place ≡ place.Bound q a d by.Founding) (v : Representation) (there : t.representation q ≡ Some v) where
    abbrev top : Option ℕ
    top = hi_of t k.place

    abbrev ranged : Bool
    ranged = is_ranged k && brings_part v.head.status

    abbrev shown : Response
    shown = shown_response v.head (why_is.Fetched q) (span_to a top) ranged

    abbrev status_by : Bool → Option ℕ → Option ℕ → ℕ
    status_by rg h total = (shown_as (part_of rg (span_to a h) total) total (with_age (why_is.Fetched q) v.head.fields)).status

    top_is : top ≡ option_or d v.head.total
    top_is = ap (hi_of t) at ∙ ap (λ (o : Option Representation). option_or d (total_in o)) there

    total_ends : (n : ℕ) → v.head.total ≡ Some n → KnownEnd t q n
    total_ends n is = record { ends = ap (end_by t q) there ∙ is; headed = λ none. absurd (none_some v (sym none ∙ there)) }

    begins : a ≡ 0
    begins = l.first k q a d by.Founding row at

    -- a part is shown of what was founded with one
    shown_part : (rg : Bool) (h n : Option ℕ) → ranged ≡ rg → top ≡ h → v.head.total ≡ n → (total : ℕ) →
        ReportsPart (shown_as (part_of rg (span_to a h) n) n (with_age (why_is.Fetched q) v.head.fields)).status
        (shown_as (part_of rg (span_to a h) n) n (with_age (why_is.Fetched q) v.head.fields)).fields total
        → (m : ℕ) × KnownEnd t q m × (m ≤ total)
    shown_part false h n is up known total reports = absurd (whole_not_part 200 refl reports.status_is)
    shown_part true None n is up known total reports = absurd (whole_not_part 200 refl reports.status_is)
    shown_part true (Some h) None is up known total reports = absurd (whole_not_part 200 refl reports.status_is)
    shown_part true (Some h) (Some n) is up known total reports =
        let status : brings_part v.head.status ≡ true = and_right (is_ranged k) _ is in
        let own : is_ranged k ≡ true = and_left (is_ranged k) _ is in
        let at_hi = bound_at d refl status in
        let h_is : at_hi.0 ≡ h = some_inj at_hi.0 h (ap (λ o. option_or o v.head.total) (sym at_hi.1) ∙ (sym top_is ∙ up)) in
        let stands : k.place ≡ place.Bound q a (Some h) by.Founding = at ∙ ap (λ o. place.Bound q a o by.Founding) (at_hi.1 ∙ ap Some h_is) in
        let some : a < h = parts.founded 1 q a h k v row stands there status own in
        let ends = c.is_measured.ends q 1 a h by.Founding k v row stands there in
        let same : ends.total ≡ n = some_inj ends.total n (sym ends.known ∙ known) in
        let few = ends.ends in
        let part = l.parts q v there status in
        let n_is : part.n ≡ n = some_inj part.n n (sym part.total ∙ known) in
        let small = part.small in
        let span : Span = record { lo = a; hi = h } in
        let within : IsWithin span n = record { not_empty = some; within = omega arith; small = omega arith } in
        let reads : content_range_of (with_range span n (with_age (why_is.Fetched q) v.head.fields)) ≡ Some (range.Part a (h - 1) (Some n)) =
        ap (option_and_then content_range_in)
        (only_one (codes "content-range") (content_range_text span n)
        (with_one (codes "content-length") (decimal (h - a)) (with_age (why_is.Fetched q) v.head.fields))) ∙
        content_range_in-spelled (content_range_text span n) (range.Part a (h - 1) (Some n)) (content_range_text_spells span n within) in
        let two : Some (range.Part a (h - 1) (Some n)) ≡ Some (range.Part 0 reports.last (Some total)) = sym reads ∙ reports.reported in
        let last : n ≡ total = part_total a (h - 1) 0 reports.last n total two in
        (n, total_ends n known, omega arith)
      where
        bound_at : (o : Option ℕ) → d ≡ o → brings_part v.head.status ≡ true → (m : ℕ) × (d ≡ Some m)
        bound_at (Some m) is status = (m, is)
        bound_at None is status =
            let came : Rattle.hc_model.specs.Writers.came_alone t (place.Bound q a d by.Founding) ≡ true =
            ap (λ (o : Option Representation). brings_part (Rattle.hc_model.specs.Writers.status_in o)) there ∙ status in
            absurd (false_true (sym (ap (λ o. is_some o) is) ∙ c.is_sound.writes.known_end q 1 a d by.Founding k row at came))

        part_total : (i j x y m z : ℕ) → Some (range.Part i j (Some m)) ≡ Some (range.Part x y (Some z)) → m ≡ z
        part_total i j x y m z is = cc

    -- the whole is shown of what was founded with it
    shown_whole : (h : Option ℕ) → d ≡ h → shown.status ≡ 200 → (n : ℕ) → top ≡ Some n → KnownEnd t q n
    shown_whole None is status n up = total_ends n (sym (ap (λ o. option_or o v.head.total) is) ∙ (sym top_is ∙ up))
    shown_whole (Some m) is status n up =
        let same : m ≡ n = some_inj m n (sym (ap (λ o. option_or o v.head.total) is) ∙ (sym top_is ∙ up)) in
        let stands : k.place ≡ place.Bound q a (Some n) by.Founding = at ∙ ap (λ o. place.Bound q a o by.Founding) (is ∙ ap Some same) in
        elim (bool_cases (brings_part v.head.status)) [
          | inr off ↦ total_ends n (parts.whole 1 q a n k v row stands there off)
          | inl on ↦
              let part = l.parts q v there on in
              let own : is_ranged k ≡ true = part.ranged k row in
              let test : ranged ≡ true = rw (own, on) refl in
              let is_part : shown.status ≡ 206 = ap (λ b. status_by b top v.head.total) test ∙
              (ap (λ o. status_by true o v.head.total) up ∙ ap (λ o. status_by true (Some n) o) part.total) in
              absurd (whole_not_part shown.status status is_part)
        ]

    stored_shown : shows_at t k (place.Bound q a d by.Founding) ≡ Some show → FirstShown t r lo hi head.status head.fields
    stored_shown is =
        let made : Some (Shows q (why_is.Fetched q) shown a top) ≡ Some show = sym (shows_row refl) ∙ is in
        let same = shows_inj q (why_is.Fetched q) shown a top r why head lo hi made in
        subst (λ z. FirstShown t z lo hi head.status head.fields) same.number (record {
          known = λ none. absurd (none_some v (sym none ∙ there));
          part = λ total reports. shown_part ranged top v.head.total refl refl refl total
              (subst (λ (z : Response). ReportsPart z.status z.fields total) (sym same.answer) reports);
          whole = λ status. (sym same.from ∙ begins, λ n to. shown_whole d refl (ap (λ (z : Response). z.status) same.answer ∙ status) n (same.to ∙ to));
        })
      where
        shows_row : t.representation q ≡ t.representation q → shows_at t k (place.Bound q a d by.Founding) ≡ Some (Shows q (why_is.Fetched q) shown a top)
        shows_row same = ap (λ (o : Option Representation). Some
            (shows_stored q (why_is.Fetched q) (is_ranged k && brings_part (Rattle.hc_model.specs.Writers.status_in o)) a top o)) there

  bound_shown : (q a : ℕ) (d : Option ℕ) → k.place ≡ place.Bound q a d by.Founding → shows_at t k (place.Bound q a d by.Founding) ≡ Some show →
      FirstShown t r lo hi head.status head.fields
  bound_shown q a d at is =
      let there = some_row (t.representation q) (c.is_sound.numbered.bound_to q 1 k (sound.is_bound a d by.Founding row at)) in
      stored_shown q a d at there.0 there.1 is

  -- what it is shown where it stands
  pub first_shown : ((q a y : ℕ) (d : Option ℕ) → k.place ≡ place.Bound q a d (by.FirstHole y) → ⊥) → (z : Place) → k.place ≡ z →
      shows_at t k z ≡ Some show → FirstShown t r lo hi head.status head.fields
  first_shown unholed place.Line at is = absurd (none_some show is)
  first_shown unholed (place.Passed q kept) at is = absurd (none_some show is)
  first_shown unholed (place.Turn x) at is = absurd (none_some show is)
  first_shown unholed (place.Bound q a d by.Founding) at is = bound_shown q a d at is
  first_shown unholed (place.Bound q a d (by.FirstHole y)) at is = absurd (unholed q a y d at)
  first_shown unholed (place.Bound q a d by.Plan) at is = absurd (none_some show is)
  first_shown unholed (place.Direct x) at is = direct_shown x at is
  first_shown unholed (place.Down cause) at is = absurd (none_some show is)
  first_shown unholed place.Over at is = absurd (none_some show is)
