-- What a head that founds is.
--
-- `CaseBy` has a constructor for each case of a head, with what holds where the table comes to it. The table is gone
-- through by route: with the turn (`turn`), at a first hole (`first`), at a later one, or past the store. `case_by`
-- joins these. `FoundingBy` is the same of those cases that found (`founding_by`). Nearly all lemmas on heads go by
-- these cases, and so need not look at the table.
use Rattle.std.{proofs.{Common.{◌≡◌, Bool, true, false, Some, refl, sym, ◌∙◌, subst, arith}, lemmas.Bool.Decides.{nat_tests}}, specs.Prelude.{◌&&◌, ◌||◌, ◌==◌, not, nat_eq, nat_le, if◌then◌else◌}}
use Rattle.hc_text.proofs.Basics.{either, eq_is as is_number, and_left as left, never_true as not_so, not_true, and_right as right}
use Rattle.hc_effects.proofs.Vocabulary.{brings_part, brings_whole, Route, HeadCase, HeadView, head_case, case_on, direct_case, turn_case, first_case, later_case, route_of, is_founding, route, case}
use Rattle.hc_rules.proofs.Statuses.{whole_succeeds, part_succeeds}

-- the route that a case is of, and whether its consumer was shown a head
pub record IsWay (v : HeadView) (way : Route) (shown : Bool) : Type 0 where
  pub way_is : route_of v.need ≡ way
  pub shown_is : way ≡ route.Hole → v.shown ≡ shown

pub data CaseBy (v : HeadView) : HeadCase → Type 0 where
  direct_bad : route_of v.need ≡ route.Direct → v.bad ≡ true → CaseBy v case.DirectBad
  direct_taken : route_of v.need ≡ route.Direct → CaseBy v case.DirectTaken
  turn_bad : route_of v.need ≡ route.Turn → v.bad ≡ true → CaseBy v case.TurnBad
  validated : route_of v.need ≡ route.Turn → v.status ≡ 304 → v.conditional ≡ true → v.lost ≡ false → CaseBy v case.Validated
  not_validated : route_of v.need ≡ route.Turn → v.status ≡ 304 → CaseBy v case.NotValidated
  turn_server_error : route_of v.need ≡ route.Turn → CaseBy v case.TurnServerError
  founds_whole : route_of v.need ≡ route.Turn → brings_whole v.status ≡ true → v.lost ≡ false → v.bad ≡ false → CaseBy v case.FoundsWhole
  founds_range : route_of v.need ≡ route.Turn → brings_part v.status ≡ true → v.fits ≡ true → v.lost ≡ false → v.bad ≡ false → CaseBy v case.FoundsRange
  passes_by : route_of v.need ≡ route.Turn → CaseBy v case.PassesBy
  first_bad : route_of v.need ≡ route.Hole → v.shown ≡ false → v.bad ≡ true → CaseBy v case.FirstBad
  first_joins : route_of v.need ≡ route.Hole → v.shown ≡ false → v.joins ≡ true → v.bad ≡ false → CaseBy v case.FirstJoins
  first_server_error : route_of v.need ≡ route.Hole → v.shown ≡ false → CaseBy v case.FirstServerError
  first_changed : route_of v.need ≡ route.Hole → v.shown ≡ false → CaseBy v case.FirstChanged
  first_replaced : route_of v.need ≡ route.Hole → v.shown ≡ false → brings_whole v.status ≡ true → v.lost ≡ false → v.bad ≡ false → CaseBy v case.FirstReplaced
  first_passes_by : route_of v.need ≡ route.Hole → v.shown ≡ false → CaseBy v case.FirstPassesBy
  later_bad : route_of v.need ≡ route.Hole → v.shown ≡ true → v.bad ≡ true → CaseBy v case.LaterBad
  later_joins : route_of v.need ≡ route.Hole → v.shown ≡ true → v.joins ≡ true → v.bad ≡ false → CaseBy v case.LaterJoins
  later_changed : route_of v.need ≡ route.Hole → v.shown ≡ true → CaseBy v case.LaterChanged

module _ (v : HeadView) where
  direct : route_of v.need ≡ route.Direct → CaseBy v (direct_case v)
  direct way = either (CaseBy v) v.bad _ _ (direct_bad way) (λ h. direct_taken way)

  turn : route_of v.need ≡ route.Turn → CaseBy v (turn_case v)
  turn way =
      either (CaseBy v) v.bad _ _ (turn_bad way) (λ good.
      either (CaseBy v) (v.status == 304 && v.conditional && v.selects && not v.lost) _ _
      (λ h. validated way (is_number v.status 304 (left (v.status == 304) _ (left _ v.selects (left _ (not v.lost) h))))
      (right (v.status == 304) v.conditional (left _ v.selects (left _ (not v.lost) h))) (not_true v.lost (right _ (not v.lost) h))) (λ h0.
      either (CaseBy v) (v.status == 304 && v.conditional) _ _ (λ h. not_validated way (is_number v.status 304 (left (v.status == 304) _ h))) (λ h1.
      either (CaseBy v) (nat_le 500 v.status) _ _ (λ h. turn_server_error way) (λ h2.
      either (CaseBy v) (brings_whole v.status && v.storable && not v.lost) _ _
      (λ h. founds_whole way (left (brings_whole v.status) _ (left _ (not v.lost) h)) (not_true v.lost (right _ (not v.lost) h)) good) (λ h3.
      either (CaseBy v) (brings_part v.status && v.storable && v.fits && not v.lost) _ _
      (λ h. founds_range way (left (brings_part v.status) _ (left _ v.fits (left _ (not v.lost) h))) (right _ v.fits (left _ (not v.lost) h))
      (not_true v.lost (right _ (not v.lost) h)) good) (λ h4. passes_by way))))))

  first : route_of v.need ≡ route.Hole → v.shown ≡ false → CaseBy v (first_case v)
  first way shown =
      either (CaseBy v) v.bad _ _ (first_bad way shown) (λ good.
      either (CaseBy v) v.joins _ _ (λ h. first_joins way shown h good) (λ h0.
      either (CaseBy v) (nat_le 500 v.status) _ _ (λ h. first_server_error way shown) (λ h1.
      either (CaseBy v) (brings_part v.status || v.status == 304 || v.status == 416) _ _ (λ h. first_changed way shown) (λ h2.
      either (CaseBy v) (brings_whole v.status && v.storable && not v.lost) _ _
      (λ h. first_replaced way shown (left (brings_whole v.status) _ (left _ (not v.lost) h)) (not_true v.lost (right _ (not v.lost) h)) good)
      (λ h3. first_passes_by way shown)))))

  later : route_of v.need ≡ route.Hole → v.shown ≡ true → CaseBy v (later_case v)
  later way shown =
      either (CaseBy v) v.bad _ _ (later_bad way shown) (λ good.
      either (CaseBy v) v.joins _ _ (λ h. later_joins way shown h good) (λ h. later_changed way shown))

  by_route : (way : Route) → route_of v.need ≡ way → CaseBy v (case_on way v)
  by_route route.Direct way = direct way
  by_route route.Turn way = turn way
  by_route route.Hole way = either (CaseBy v) v.shown _ _ (later way) (first way)

  pub case_by : CaseBy v (head_case v)
  unfolding head_case
  case_by = by_route (route_of v.need) refl

-- WHAT FOUNDS

-- why a head founds
pub data FoundingBy (v : HeadView) : HeadCase → Type 0 where
  whole : route_of v.need ≡ route.Turn → brings_whole v.status ≡ true → v.lost ≡ false → FoundingBy v case.FoundsWhole
  part : route_of v.need ≡ route.Turn → brings_part v.status ≡ true → v.fits ≡ true → v.lost ≡ false → v.bad ≡ false → FoundingBy v case.FoundsRange
  replaced : route_of v.need ≡ route.Hole → brings_whole v.status ≡ true → v.lost ≡ false → FoundingBy v case.FirstReplaced

founding_of : (v : HeadView) (g : HeadCase) → CaseBy v g → is_founding (Some g) ≡ true → FoundingBy v g
founding_of v _ (founds_whole way h l g) on = whole way h l
founding_of v _ (founds_range way h f l g) on = part way h f l g
founding_of v _ (first_replaced way shown h l g) on = replaced way h l
founding_of v _ _ on = absurd (let never : false ≡ true = on in cc)

pub founding_by : (v : HeadView) → is_founding (Some (head_case v)) ≡ true → FoundingBy v (head_case v)
founding_by v on = founding_of v (head_case v) (case_by v) on

pub turn_direct : route.Turn ≡ route.Direct → ⊥
turn_direct is = cc

-- it isn't past the store
pub founds_way : (v : HeadView) (g : HeadCase) → FoundingBy v g → route_of v.need ≡ route.Direct → ⊥
founds_way v g it2 past = grind (arith, nat_tests)

-- a 304 founds nothing
pub unchanged_founds : (v : HeadView) → v.status ≡ 304 → is_founding (Some (head_case v)) ≡ false
unchanged_founds v status = not_so (is_founding (Some (head_case v))) (λ on. by_case (founding_by v on))
  where
    by_case : {g : HeadCase} → FoundingBy v g → ⊥
    by_case (whole way h l) = omega (arith, (whole_succeeds v.status h).1)
    by_case (part way h f l g) = omega (arith, (part_succeeds v.status h).1)
    by_case (replaced way h l) = omega (arith, (whole_succeeds v.status h).1)

-- WHAT IS VALIDATED

not_validated_is : (b : Bool) → (if b then case.TurnBad else case.NotValidated) ≡ case.Validated → ⊥
not_validated_is true h = let no : case.TurnBad ≡ case.Validated = h in cc
not_validated_is false h = let no : case.NotValidated ≡ case.Validated = h in cc

-- a head that validates selects what is stored
pub validated_selects : (v : HeadView) → head_case v ≡ case.Validated → v.selects ≡ true
unfolding head_case
validated_selects v is = by_case (subst (CaseBy v) is (case_by v))
  where
    by_case : CaseBy v case.Validated → v.selects ≡ true
    by_case (validated way status conditional kept) = by_test v.selects refl
      where
        by_test : (b : Bool) → v.selects ≡ b → b ≡ true
        by_test true on = refl
        by_test false off =
            let unchanged : nat_eq v.status 304 ≡ true = let h : v.status ≡ 304 = status in grind (arith, nat_tests) in
            let other : head_case v ≡ (if v.bad then case.TurnBad else case.NotValidated) = rw (way, unchanged, conditional, off) refl in
            absurd (not_validated_is v.bad (sym other ∙ is))
