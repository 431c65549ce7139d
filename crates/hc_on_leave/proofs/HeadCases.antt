-- The case of a head that isn't said to select what is stored: it is the same, unless it is a 304 that may.
use Rattle.std.{proofs.{lemmas.Bool.Decides.{nat_tests}, Common.{arith, ◌≡◌, Bool, true, false, refl, ap, ap₂, sym, ◌∙◌, subst}}, specs.Prelude.{nat_le, not, ◌&&◌, ◌==◌, if◌then◌else◌}}
use Rattle.hc_effects.proofs.Vocabulary.{brings_part, brings_whole, HeadCase, HeadView, Route, head_case, case_on, route_of, case, route}
use Rattle.hc_effects.proofs.{FoundBy.{CaseBy, case_by}, WrittenEffects.{by_turn}}
use Rattle.hc_effects.proofs.FoundBy as cases
use Rattle.hc_rules.proofs.Statuses.{past_no_whole, past_no_part}

abbrev turned : Bool → Bool → Bool → Bool → HeadCase → HeadCase
turned bad asked selects kept rest =
    if bad then case.TurnBad
    else if asked && selects && kept then case.Validated
    else if asked then case.NotValidated
    else rest

turned_same : (bad asked selects kept : Bool) (rest g : HeadCase) → turned bad asked false kept rest ≡ g → (g ≡ case.NotValidated → ⊥) →
    turned bad asked selects kept rest ≡ g
turned_same bad asked selects kept rest g is off = grind (arith, nat_tests)

module _ (v : HeadView) (selects : Bool) (g : HeadCase) (off : g ≡ case.NotValidated → ⊥) where
  on : (way : Route) → case_on way (record v { selects = false }) ≡ g → case_on way (record v { selects = selects }) ≡ g
  on route.Turn is = turned_same v.bad (v.status == 304 && v.conditional) selects (not v.lost) _ g is off
  on _ is = is

  pub case_same : head_case (record v { selects = false }) ≡ g → head_case (record v { selects = selects }) ≡ g
  unfolding head_case
  case_same is = on (route_of v.need) is

-- A 304 TO A CONDITIONAL REQUEST

-- what else a head in the turn is
abbrev rest : HeadView → HeadCase
rest v =
    if nat_le 500 v.status then case.TurnServerError
    else if brings_whole v.status && v.storable && not v.lost then case.FoundsWhole
    else if brings_part v.status && v.storable && v.fits && not v.lost then case.FoundsRange
    else case.PassesBy

parts_of : (bad asked kept : Bool) (other : HeadCase) → turned bad asked false kept other ≡ case.NotValidated → (other ≡ case.NotValidated → ⊥) →
    (bad ≡ false) × (asked ≡ true)
parts_of bad asked kept other is off = grind (arith, nat_tests)

module _ (v : HeadView) (unselected : head_case (record v { selects = false }) ≡ case.NotValidated) where
  pub it_is : (route_of v.need ≡ route.Turn) × (v.status ≡ 304)
  it_is = by_turn (subst (CaseBy (record v { selects = false })) unselected (case_by (record v { selects = false })))

  passes : rest v ≡ case.PassesBy
  passes =
      let status = it_is.1 in
      let a = past_no_whole v.status (omega (arith, status)) in
      let b = past_no_part v.status (omega (arith, status)) in
      rw (a, b, status) refl

  apart : rest v ≡ case.NotValidated → ⊥
  apart is = let never : case.PassesBy ≡ case.NotValidated = sym passes ∙ is in cc

  pub parts : (v.bad ≡ false) × ((v.status == 304 && v.conditional) ≡ true)
  unfolding head_case
  parts = parts_of v.bad (v.status == 304 && v.conditional) (not v.lost) (rest v)
      (ap (λ (way : Route). case_on way (record v { selects = false })) (sym it_is.0) ∙ unselected) apart

  with_it : (selects kept : Bool) →
      turned v.bad (v.status == 304 && v.conditional) selects kept (rest v) ≡ (if selects && kept then case.Validated else case.NotValidated)
  with_it selects kept = (let good = parts.0 in let asked = parts.1 in rw (good, asked) refl)

  -- it selects what is stored
  pub case_selected : v.selects ≡ true → v.lost ≡ false → head_case v ≡ case.Validated
  unfolding head_case
  case_selected selects kept = ap (λ (way : Route). case_on way v) it_is.0 ∙ (with_it v.selects (not v.lost) ∙ rw (selects, kept) refl)

  -- it doesn't
  pub case_unselected : v.selects ≡ false → head_case v ≡ case.NotValidated
  case_unselected off = ap (λ (b : Bool). head_case (record v { selects = b })) off ∙ unselected

  -- and so it is where it is lost now
  pub case_lost_too : head_case (record v { lost = true }) ≡ case.NotValidated
  unfolding head_case
  case_lost_too = ap (λ (way : Route). case_on way (record v { lost = true })) it_is.0 ∙
      (let good = parts.0 in let asked = parts.1 in rw (good, asked) (by_test v.selects))
    where
      by_test : (b : Bool) → (if b && false then case.Validated else case.NotValidated) ≡ case.NotValidated
      by_test true = refl
      by_test false = refl

-- A 304 THAT ISN'T SAID TO SELECT WHAT IS STORED

asked_by : {v : HeadView} → CaseBy v case.Validated → (route_of v.need ≡ route.Turn) × ((v.status == 304 && v.conditional) ≡ true)
asked_by (cases.validated way status asked kept) = (way, rw (status, asked) refl)

unturned : (bad kept : Bool) (other : HeadCase) → turned bad true false kept other ≡ case.Validated → ⊥
unturned bad kept other is = grind (arith, nat_tests)

pub case_unvalidated : (v : HeadView) → v.selects ≡ false → head_case v ≡ case.Validated → ⊥
unfolding head_case
case_unvalidated v off is =
    let asked = asked_by (subst (CaseBy v) is (case_by v)) in
    grind (arith, nat_tests)
