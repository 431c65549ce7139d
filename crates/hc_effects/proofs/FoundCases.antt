-- The case of a head that founds, where that is lost; and what it is an answer to.
use Rattle.std.{proofs.{Common.{◌<◌, ◌≡◌, ℕ, List, [], ◌∷◌, Bool, true, false, Some, refl, ap, sym, ◌∙◌, subst, arith}, lemmas.Bool.Decides.{nat_tests}}, specs.Prelude.{◌&&◌, nat_eq, nat_le, if◌then◌else◌}}
use Rattle.hc_effects.proofs.Vocabulary.{brings_part, brings_whole, HeadCase, HeadView, Limits, head_case, Act, Response, has_loss, without_losses, head_view, is_founding, Flaw, entry_of, Tables, Exchange, written_representation, lossless, case, act, event}
use Rattle.hc_effects.proofs.FirstKeeps as FirstKeeps
use Rattle.hc_effects.proofs.FoundBy.{CaseBy, case_by}
use Rattle.hc_effects.proofs.FoundBy as cases
use Rattle.hc_rules.proofs.Statuses.{whole_is_no_part, part_is_no_whole, whole_succeeds, part_succeeds}

case_is : (v : HeadView) (g : HeadCase) → head_case v ≡ g → CaseBy v g
case_is v g is = subst (CaseBy v) is (case_by v)

and_off : (a : Bool) (g h : HeadCase) → (if a && false then g else h) ≡ h
and_off a g h = grind (arith, nat_tests)

-- it passes by
pub whole_lost : (v : HeadView) → head_case v ≡ case.FoundsWhole → head_case (record v { lost = true }) ≡ case.PassesBy
unfolding head_case
whole_lost v is = by_case (case_is v case.FoundsWhole is)
  where
    by_case : CaseBy v case.FoundsWhole → head_case (record v { lost = true }) ≡ case.PassesBy
    by_case (cases.founds_whole way status kept good) =
        let low : v.status < 300 = (whole_succeeds v.status status).1 in
        let a : nat_eq v.status 304 ≡ false = grind (arith, nat_tests) in
        let b : nat_le 500 v.status ≡ false = grind (arith, nat_tests) in
        let d : brings_part v.status ≡ false = whole_is_no_part v.status status in
        rw (way, good, a, b, status, d) (and_off v.storable case.FoundsWhole case.PassesBy)

pub range_lost : (v : HeadView) → head_case v ≡ case.FoundsRange → head_case (record v { lost = true }) ≡ case.PassesBy
unfolding head_case
range_lost v is = by_case (case_is v case.FoundsRange is)
  where
    by_case : CaseBy v case.FoundsRange → head_case (record v { lost = true }) ≡ case.PassesBy
    by_case (cases.founds_range way status fits kept good) =
        let low : v.status < 300 = (part_succeeds v.status status).1 in
        let a : nat_eq v.status 304 ≡ false = grind (arith, nat_tests) in
        let b : nat_le 500 v.status ≡ false = grind (arith, nat_tests) in
        let e : brings_whole v.status ≡ false = part_is_no_whole v.status status in
        rw (way, good, a, b, e, status) (and_off (v.storable && v.fits) case.FoundsRange case.PassesBy)

pub replaced_lost : (v : HeadView) → head_case v ≡ case.FirstReplaced → head_case (record v { lost = true }) ≡ case.FirstPassesBy
unfolding head_case
replaced_lost v is = by_case (case_is v case.FirstReplaced is)
  where
    by_case : CaseBy v case.FirstReplaced → head_case (record v { lost = true }) ≡ case.FirstPassesBy
    by_case (cases.first_replaced way shown status kept good) =
        let low : v.status < 300 = (whole_succeeds v.status status).1 in
        let a : nat_eq v.status 304 ≡ false = grind (arith, nat_tests) in
        let b : nat_le 500 v.status ≡ false = grind (arith, nat_tests) in
        let d : brings_part v.status ≡ false = whole_is_no_part v.status status in
        let f : nat_eq v.status 416 ≡ false = grind (arith, nat_tests) in
        by_joins a b d status f v.joins refl
      where
        by_joins : nat_eq v.status 304 ≡ false → nat_le 500 v.status ≡ false → brings_part v.status ≡ false → brings_whole v.status ≡ true →
            nat_eq v.status 416 ≡ false → (j : Bool) → v.joins ≡ j → head_case (record v { lost = true }) ≡ case.FirstPassesBy
        by_joins a b d e f true on =
            absurd (let other : head_case v ≡ case.FirstJoins = rw (way, shown, good, on) refl in let never : case.FirstJoins ≡ case.FirstReplaced =
            sym other ∙ is in cc)
        by_joins a b d e f false off = rw (way, shown, good, off, a, b, d, f, e) (and_off v.storable case.FirstReplaced case.FirstPassesBy)

-- a part that founds answers what may be stored
pub range_storable : (v : HeadView) → head_case v ≡ case.FoundsRange → v.storable ≡ true
unfolding head_case
range_storable v is = by_case (case_is v case.FoundsRange is)
  where
    by_case : CaseBy v case.FoundsRange → v.storable ≡ true
    by_case (cases.founds_range way status fits kept good) =
        let low : v.status < 300 = (part_succeeds v.status status).1 in
        let a : nat_eq v.status 304 ≡ false = grind (arith, nat_tests) in
        let b : nat_le 500 v.status ≡ false = grind (arith, nat_tests) in
        let e : brings_whole v.status ≡ false = part_is_no_whole v.status status in
        by_test a b status e v.storable refl
      where
        by_test : nat_eq v.status 304 ≡ false → nat_le 500 v.status ≡ false → brings_part v.status ≡ true → brings_whole v.status ≡ false → (s : Bool) →
            v.storable ≡ s → s ≡ true
        by_test a b d e true on = refl
        by_test a b d e false off =
            absurd (let other : head_case v ≡ case.PassesBy = rw (way, good, a, b, e, d, off) refl in let never : case.PassesBy ≡ case.FoundsRange =
            sym other ∙ is in cc)

-- WHAT IT WRITES

pub no_loss : (acts : List Act) → has_loss (without_losses acts) ≡ false
no_loss [] = refl
no_loss (act.Lost r kind ∷ acts) = no_loss acts
no_loss (_ ∷ acts) = no_loss acts

-- itself, also where that is lost
pub founding_writes : (limits : Limits) (t : Tables) (now x : ℕ) (response : Response) (w : Exchange) (flaw : Flaw) → t.exchange x ≡ Some w →
    is_founding (Some (head_case (head_view t false w response))) ≡ true →
    written_representation t (entry_of limits t now (event.Head x response) flaw) ≡ Some x
unfolding written_representation
founding_writes limits t now x response w flaw row founds =
    let e = entry_of limits t now (event.Head x response) flaw in
    let case_now = FirstKeeps.case_is t (lossless e) x response w refl row ∙ ap (λ l. Some (head_case (head_view t l w response))) (no_loss e.acts) in
    rw (row, case_now, founds) refl
