-- A poll that opens an exchange closes, loses and evicts nothing, and nobody leaves by it.
--
-- The acts are those of the opening and what stands behind them (`acts_are`); a read that fails opens nothing
-- (`not_misread`). So nobody leaves or is shown anything, and nothing is evicted (`leaves_none`, `evicts_none`). There
-- is no cause to close an exchange (`must_not`), so none is closed (`closes_none`). So nothing is written either, and a
-- loss that may be needs a write (`loses_not`).
use Rattle.std.{proofs.Common.{◌≡◌, inl, inr, ℕ, List, [], ◌∷◌, ◌++◌, Bool, true, false, cond, Option, Some, None, refl, ap, sym, ◌∙◌, subst}, specs.{Prelude.{map, ◌&&◌}, Option.{option_or}}}
use Rattle.hc_text.proofs.Basics.{and_left, and_right, not_some as none_some, never_true as not_so, or_cases}
use Rattle.hc_effects.proofs.Vocabulary.{Opening, opening_in, leaves_in, closes_in, evicts_in, is_denied, Event, Act, LostKind, Limits, showing_in, loses_in, misreads_in, leaver_in, without_losses, poll_acts, loss_acts, case_at, case_of, closing, must_close, is_refused, is_doomed, brings_head, has_no_survivor, is_left, leaver, is_number, doomed_key_of, is_key, Entry, family, Flaw, NoFlaw, Loses, Misreads, flaw_in, entry_of, Opens, acts_of, poll_move, Tables, Exchange, Representation, may_stand, may_be, Sound, loses_group, written_representation, seals_at, first_found, lossless, sealed_by, event, act}
use Rattle.hc_effects.proofs.{Basics.{false_true}, Closed.{before}, PollKeeps.{closes_open_none}, SaidActs.{closes_leave}, Unclosed.{had_to, had_row}, KeyActs.{closes_lossless}, ActParts.{evicts_closed, leaver_lost}}

-- ACTS BEHIND AN OPENING

pub no_misread : (r : ℕ) (xs : List ℕ) (f : Flaw) → misreads_in r (map act.Close xs ++ loss_acts f) ≡ false
no_misread r [] NoFlaw = refl
no_misread r [] _ = refl
no_misread r (x ∷ xs) f = no_misread r xs f

no_showing : (xs : List ℕ) (f : Flaw) → showing_in (map act.Close xs ++ loss_acts f) ≡ None
no_showing [] NoFlaw = refl
no_showing [] _ = refl
no_showing (x ∷ xs) f = no_showing xs f

losses_of : (r : ℕ) (xs : List ℕ) (f : Flaw) → loses_in r (map act.Close xs ++ loss_acts f) ≡ loses_in r (loss_acts f)
losses_of r [] f = refl
losses_of r (x ∷ xs) f = losses_of r xs f

flaw_of : (q : ℕ) (kind : LostKind) (xs : List ℕ) → flaw_in (map act.Close xs ++ loss_acts (Loses q kind)) ≡ Loses q kind
flaw_of q kind [] = refl
flaw_of q kind (x ∷ xs) = flaw_of q kind xs

module _ (limits : Limits) (t : Tables) (now : ℕ) (flaw : Flaw) (s : Sound t) (c want : ℕ) where
  abbrev ev : Event
  ev = event.Poll c want

  abbrev e : Entry
  e = entry_of limits t now ev flaw

  abbrev b : Entry
  b = before limits t now flaw s ev

  abbrev xs : List ℕ
  xs = closing t b

  module _ (p : Opening) (here : p.c ≡ c) (opens : opening_in e.acts ≡ Some p)
      (move_is : poll_move t now want c (t.consumer c) ≡ Opens p.x p.need p.request) where
    abbrev behind : List Act
    behind = map act.Close xs ++ loss_acts flaw

    -- a read that fails opens nothing
    not_misread : (r : ℕ) → flaw ≡ Misreads r → ⊥
    not_misread r at =
        let none : opening_in (poll_acts t now want c (Misreads r) ++ behind) ≡ None =
        closes_open_none xs (loss_acts flaw) (subst (λ f. opening_in (loss_acts f) ≡ None) (sym at) refl) in
        none_some p (sym none ∙ (sym (ap (λ f. opening_in (poll_acts t now want c f ++ behind)) at) ∙ opens))

    said_is : (f : Flaw) → flaw ≡ f → poll_acts t now want c f ≡ acts_of c (Opens p.x p.need p.request)
    said_is (Misreads r) at = absurd (not_misread r at)
    said_is _ at = ap (acts_of c) move_is

    pub acts_are : e.acts ≡ acts_of c (Opens p.x p.need p.request) ++ behind
    acts_are = ap (λ acts. acts ++ behind) (said_is flaw refl)

    before_are : b.acts ≡ acts_of c (Opens p.x p.need p.request) ++ loss_acts flaw
    before_are = ap (λ acts. acts ++ loss_acts flaw) (said_is flaw refl)

    pub leaves_none : (d : ℕ) → leaves_in d e.acts ≡ false
    leaves_none d = ap (leaves_in d) acts_are ∙ closes_leave limits t now flaw s d xs flaw

    pub misreads_none : (r : ℕ) → misreads_in r e.acts ≡ false
    misreads_none r = ap (misreads_in r) acts_are ∙ no_misread r xs flaw

    pub evicts_none : (r : ℕ) → evicts_in r e.acts ≡ false
    evicts_none r = ap (evicts_in r) acts_are ∙ evicts_closed r xs flaw

    pub shows_none : showing_in e.acts ≡ None
    shows_none = ap showing_in acts_are ∙ no_showing xs flaw

    -- NOTHING IS CLOSED

    case_none : case_at t b ≡ None
    unfolding case_of
    case_none = refl

    doomed_none : doomed_key_of t b ≡ None
    unfolding doomed_key_of
    doomed_none = refl

    pub doomed_not : doomed_key_of t e ≡ None
    unfolding doomed_key_of
    doomed_not = refl

    pub case_not : case_at t e ≡ None
    unfolding case_of
    case_not = refl

    lost_none : (x r : ℕ) (z : Option Representation) → has_no_survivor t b x r z ≡ true → ⊥
    lost_none x r None h = false_true h
    lost_none x r (Some v) h = let losing : loses_group t b r v ≡ true = and_right (is_number v.writer x) _ (and_left _ _ h) in false_true losing

    must_not : (x : ℕ) (w : Exchange) → must_close t b x w ≡ true → ⊥
    must_not x w must = elim (or_cases _ (is_left t x (leaver b)) must) [
      | inr left ↦ false_true (sym (ap (is_left t x) (ap leaver_in before_are ∙ leaver_lost flaw)) ∙ left)
      | inl more ↦ elim (or_cases _ (has_no_survivor t b x (family x w) (t.representation (family x w))) more) [
        | inr none ↦ lost_none x (family x w) (t.representation (family x w)) none
        | inl less ↦ elim (or_cases (is_refused (case_at t b) && brings_head x ev) (is_doomed t b x w) less) [
          | inl refused ↦ false_true (sym (ap is_refused case_none) ∙ and_left _ _ refused)
          | inr doom ↦ false_true (sym (ap (λ z. is_key z w.request.key) doomed_none) ∙ and_left _ _ (and_left _ _ doom))
        ]
      ]
    ]

    pub closes_none : (x : ℕ) → closes_in x e.acts ≡ false
    closes_none x = not_so (closes_in x e.acts) (λ h. by_row (t.exchange x) refl h)
      where
        by_row : (z : Option Exchange) → t.exchange x ≡ z → closes_in x e.acts ≡ true → ⊥
        by_row None row h = had_row limits t now flaw s ev x h row
        by_row (Some w) row h = must_not x w (had_to limits t now flaw s ev x w row h)

    -- NOTHING IS LOST

    seals_none : (x : ℕ) → seals_at t (lossless e) x ≡ None
    seals_none x =
        let shut : closes_in x (without_losses e.acts) ≡ false = closes_lossless x e.acts ∙ closes_none x in
        ap (λ (a : Bool). cond a (sealed_by t (lossless e) x (t.exchange x)) None) shut

    found_none : (ys : List ℕ) → first_found (seals_at t (lossless e)) ys ≡ None
    found_none [] = refl
    found_none (x ∷ ys) = ap (λ (z : Option ℕ). option_or z (first_found (seals_at t (lossless e)) ys)) (seals_none x) ∙ found_none ys

    pub written_none : written_representation t e ≡ None
    unfolding written_representation
    written_none = found_none t.openings

    loses_not : (q : ℕ) (kind : LostKind) → may_stand limits t e ≡ true → flaw ≡ Loses q kind → ⊥
    unfolding may_stand
    loses_not q kind stand at =
        let flaw_is : flaw_in e.acts ≡ Loses q kind = ap flaw_in acts_are ∙ (ap (λ f. flaw_in (map act.Close xs ++ loss_acts f)) at ∙ flaw_of q kind xs) in
        let undenied : is_denied e.acts ≡ false = ap is_denied acts_are in
        elim (or_cases (is_denied e.acts) (may_be limits t e (flaw_in e.acts)) stand) [
          | inl denied ↦ false_true (sym undenied ∙ denied)
          | inr may ↦
              let all : may_be limits t e (Loses q kind) ≡ true = sym (ap (may_be limits t e) flaw_is) ∙ may in
              let number : is_number (written_representation t e) q ≡ true = and_left _ _ (and_left _ _ all) in
              false_true (sym (ap (λ z. is_number z q) written_none) ∙ number)
        ]

    lost_not : (r : ℕ) (f : Flaw) → may_stand limits t e ≡ true → flaw ≡ f → loses_in r (loss_acts f) ≡ false
    lost_not r (Loses q kind) stand at = absurd (loses_not q kind stand at)
    lost_not r _ stand at = refl

    pub loses_none : (r : ℕ) → may_stand limits t e ≡ true → loses_in r e.acts ≡ false
    loses_none r stand = ap (loses_in r) acts_are ∙ (losses_of r xs flaw ∙ lost_not r flaw stand refl)
