-- At a head that joins, only what it joins can be lost.
use Rattle.std.{proofs.{Common.{◌≡◌, inl, inr, ℕ, List, [], ◌∷◌, ◌++◌, Bool, true, false, Option, Some, None, refl, ap, sym, ◌∙◌, arith}, lemmas.Bool.Decides.{nat_tests}}, specs.Prelude.{if◌then◌else◌, map, nat_eq, ◌||◌}}
use Rattle.hc_text.proofs.Basics.{and_left, or_cases}
use Rattle.hc_effects.proofs.Vocabulary.{is_denied, Event, Response, LostKind, HeadCase, HeadView, Limits, head_case, route_of, has_loss, loses_in, loss_acts, case_at, head_view, is_founding, is_joining, closing, is_number, Entry, Flaw, Loses, flaw_in, entry_of, Tables, Exchange, may_stand, may_be, Sound, evicted, written_representation, head_writes, may_validate, lossless, event, act, case, route}
use Rattle.hc_effects.proofs.{Basics.{false_true}, Closed.{before}, FirstKeeps.{case_is}, FoundBy.{CaseBy, case_by}, SaidActs.{loss_is}}
use Rattle.hc_effects.proofs.FoundBy as cases

-- THE CASE WITHOUT A LOSS

first_again : (v : HeadView) → route_of v.need ≡ route.Hole → v.shown ≡ false → v.joins ≡ true → v.bad ≡ false → head_case v ≡ case.FirstJoins
unfolding head_case
first_again v way shown joins good = rw (way, shown, good, joins) refl

later_again : (v : HeadView) → route_of v.need ≡ route.Hole → v.shown ≡ true → v.joins ≡ true → v.bad ≡ false → head_case v ≡ case.LaterJoins
unfolding head_case
later_again v way shown joins good = rw (way, shown, good, joins) refl

-- a head that joins would join without its loss
pub joins_again : (t : Tables) (a b : Bool) (w : Exchange) (response : Response) (c : HeadCase) → CaseBy (head_view t a w response) c →
    is_joining (Some c) ≡ true → is_joining (Some (head_case (head_view t b w response))) ≡ true
joins_again t a b w response _ (cases.first_joins way shown joins good) on =
    ap (λ g. is_joining (Some g)) (first_again (head_view t b w response) way shown joins good)
joins_again t a b w response _ (cases.later_joins way shown joins good) on =
    ap (λ g. is_joining (Some g)) (later_again (head_view t b w response) way shown joins good)
joins_again t a b w response _ _ on = absurd (false_true on)

-- THE ACTS

flaw_closes : (q : ℕ) (kind : LostKind) (xs : List ℕ) (rs : List ℕ) → flaw_in (map act.Evicted rs ++ (act.Lost q kind ∷ map act.Close xs)) ≡ Loses q kind
flaw_closes q kind xs [] = refl
flaw_closes q kind xs (r ∷ rs) = flaw_closes q kind xs rs

loses_it : (q : ℕ) (kind : LostKind) (xs : List ℕ) (rs : List ℕ) → loses_in q (map act.Evicted rs ++ (act.Lost q kind ∷ map act.Close xs)) ≡ true
loses_it q kind xs [] = let test : nat_eq q q ≡ true = grind (arith, nat_tests) in rw test refl
loses_it q kind xs (r ∷ rs) = loses_it q kind xs rs

undenied : (q : ℕ) (kind : LostKind) (xs : List ℕ) (rs : List ℕ) → is_denied (map act.Evicted rs ++ (act.Lost q kind ∷ map act.Close xs)) ≡ false
undenied q kind xs [] = refl
undenied q kind xs (r ∷ rs) = refl

is_joined : (f : Bool) (j : Bool) (v : Bool) (x aim : Option ℕ) → f ≡ false → j ≡ true → (if f then x else if v || j then aim else None) ≡ aim
is_joined f j true x aim off on = rw off refl
is_joined f j false x aim off on = rw (off, on) refl

pub not_founding : (c : HeadCase) → is_joining (Some c) ≡ true → is_founding (Some c) ≡ false
not_founding c on = grind (arith, nat_tests)

module _ (limits : Limits) (t : Tables) (now : ℕ) (flaw : Flaw) (s : Sound t) (x : ℕ) (response : Response) where
  abbrev ev : Event
  ev = event.Head x response

  abbrev e : Entry
  e = entry_of limits t now ev flaw

  module _ (w : Exchange) (r : ℕ) (row : t.exchange x ≡ Some w) (joins : is_joining (case_at t e) ≡ true) (aim : w.aim ≡ Some r)
      (stand : may_stand limits t e ≡ true) (kept : loses_in r e.acts ≡ false) where
    joins_lossless : is_joining (case_at t (lossless e)) ≡ true
    joins_lossless =
        let first : is_joining (Some (head_case (head_view t (has_loss e.acts) w response))) ≡ true =
        sym (ap is_joining (case_is t e x response w refl row)) ∙ joins in
        ap is_joining (case_is t (lossless e) x response w refl row) ∙ joins_again
        t (has_loss e.acts) (has_loss (lossless e).acts) w response (head_case (head_view t (has_loss e.acts) w response))
        (case_by (head_view t (has_loss e.acts) w response)) first

    founds_not : is_founding (case_at t (lossless e)) ≡ false
    founds_not =
        let g = head_case (head_view t (has_loss (lossless e).acts) w response) in
        let is : case_at t (lossless e) ≡ Some g = case_is t (lossless e) x response w refl row in
        ap is_founding is ∙ not_founding g (sym (ap is_joining is) ∙ joins_lossless)

    written_is : written_representation t e ≡ Some r
    unfolding written_representation
    written_is =
        ap (head_writes t (lossless e) x response) row
        ∙ (is_joined (is_founding (case_at t (lossless e))) (is_joining (case_at t (lossless e))) (may_validate t w response) (Some x) w.aim founds_not
        joins_lossless ∙ aim)

    by_flaw : (f : Flaw) → flaw ≡ f → has_loss (loss_acts f) ≡ false
    unfolding may_stand
    by_flaw (Loses q kind) is =
        let xs = closing t (before limits t now flaw s ev) in
        let rs = evicted limits t now ev in
        let acts_are : e.acts ≡ map act.Evicted rs ++ (act.Lost q kind ∷ map act.Close xs) =
        ap (λ f. map act.Evicted rs ++ (loss_acts f ++ map act.Close xs)) is in
        let flaw_is : flaw_in e.acts ≡ Loses q kind = ap flaw_in acts_are ∙ flaw_closes q kind xs rs in
        elim (or_cases (is_denied e.acts) (may_be limits t e (flaw_in e.acts)) stand) [
          | inl denied ↦ absurd (false_true (sym (ap is_denied acts_are ∙ undenied q kind xs rs) ∙ denied))
          | inr may ↦
              let all : may_be limits t e (Loses q kind) ≡ true = sym (ap (may_be limits t e) flaw_is) ∙ may in
              let number : is_number (written_representation t e) q ≡ true = and_left _ _ (and_left _ _ all) in
              let test : nat_eq r q ≡ true = sym (ap (λ z. is_number z q) written_is) ∙ number in
              let same : q ≡ r = grind (arith, nat_tests) in
              let loses : loses_in r e.acts ≡ true = sym (ap (λ n. loses_in n e.acts) same) ∙ (ap (loses_in q) acts_are ∙ loses_it q kind xs rs) in
              absurd (false_true (sym kept ∙ loses))
        ]
    by_flaw _ is = refl

    -- nothing is lost, where what it joins isn't
    pub no_loss : has_loss e.acts ≡ false
    no_loss = loss_is limits t now flaw s ev ∙ by_flaw flaw refl
