-- A request on condition of a copy that isn't under watch goes to the origin as it is.
--
-- Such a request goes past the cache (`past`): it has a condition of the caller's own. Its consumer has only started,
-- so no head is there for it and none comes. Its poll does its plan, which opens an exchange with its request
-- (`opens`). A store that doesn't fail loses nothing by a poll, so this is all that is answered. The front hands the
-- poll on, and tells the same.
use Rattle.std.{proofs.Common.{◌≡◌, ℕ, ◌+◌, Bool, true, false, List, [], ◌∷◌, Option, Some, None, refl, ap, sym, ◌∙◌, subst}, specs.Prelude.{◌&&◌, ◌||◌, not, codes, is_none, if◌then◌else◌}}
use Rattle.hc_fields.specs.FirstValues.{has_field}
use Rattle.hc_cachectl.specs.Directives.{of_request}
use Rattle.hc_effects.proofs.Vocabulary.{is_denied, Act, Refusal, Event, Request, plan_of, is_get, ranges_read, ranges_in, is_disabled, is_only, class_of, Limits, answer, accepted_acts, denied_or, new_consumer, Entry, NoFlaw, failures_in, Lawful, Opens, acts_of, plan_view, plan_move, move_of, Tables, Consumer, IsOwed, size_flaw, owed, room_for, need, event, plan}
use Rattle.hc_rules.specs.Requests.{disables, has_condition}
use Rattle.hc_effects.proofs.Owed.{goes}
use Rattle.hc_laws.proofs.{Faultless.{faultless_are_owed}, LawfulRuns.{lawful_in_runs}}
use Rattle.hc_effects.proofs.PollEffects as polls
use Rattle.hc_condition.specs.External.{none_match_of, are_tags, is_date_or_absent, is_about_copy, asks_more, is_external}
use Rattle.hc_front.specs.{Fronts.{Fronted, FrontEntry, is_ending, handed, reported, core_entry}, FrontHistories.{fronted, core_of}, Laws.{ConditionsGoOn}}
use Rattle.hc_front.proofs.Watchings.{core_is}

-- IT GOES PAST THE CACHE

-- the last but two of six
about : (a b c d e f : Bool) → (a && b && c && d && e && f) ≡ true → d ≡ true
about true true true true e f on = refl
about true true true false e f on = absurd (let no : false ≡ true = on in cc)
about true true false d e f on = absurd (let no : false ≡ true = on in cc)
about true false c d e f on = absurd (let no : false ≡ true = on in cc)
about false b c d e f on = absurd (let no : false ≡ true = on in cc)

-- a condition that stands is one of the five
conditions : (a b c d e : Bool) → (d || e) ≡ true → (a || b || c || d || e) ≡ true
conditions true b c d e on = refl
conditions false true c d e on = refl
conditions false false true d e on = refl
conditions false false false d e on = on

disabled_by : (a b c d e : Bool) → c ≡ true → (a || b || c || d || e) ≡ true
disabled_by true b c d e on = refl
disabled_by false true c d e on = refl
disabled_by false false true d e on = refl
disabled_by false false false d e on = absurd (let no : false ≡ true = on in cc)

past : (request : Request) → is_external request ≡ true → is_disabled request ≡ true
unfolding is_external is_disabled
past request on =
    disabled_by (not (is_get request)) (disables request.load) (has_condition request.fields) (of_request request.fields).no_store
    (is_none (ranges_read (ranges_in request.fields)))
    (conditions (has_field (codes "if-match") request.fields) (has_field (codes "if-unmodified-since") request.fields)
    (has_field (codes "if-range") request.fields)
    (has_field (codes "if-none-match") request.fields) (has_field (codes "if-modified-since") request.fields)
    (about (is_get request) (not (disables request.load)) (not (asks_more request.fields)) (is_about_copy request.fields)
    (are_tags (none_match_of request.fields)) (is_date_or_absent request.fields) on))

-- ITS POLL

module _ (t : Tables) (now c want since : ℕ) (request : Request) where
  abbrev k : Consumer
  k = new_consumer since request

  plan_is : is_external request ≡ true → is_only request ≡ false → plan_of (plan_view t now c k) ≡ plan.Direct need.Disabled
  unfolding plan_of class_of
  plan_is on off = rw (off, past request on) refl

  opens : is_external request ≡ true → is_only request ≡ false → move_of t now want c k ≡ Opens (t.opened + 1) need.Disabled request
  opens on off = ap (plan_move t k) (plan_is on off)

-- a poll loses nothing for a size
no_size : (limits : Limits) (t : Tables) (now c want : ℕ) → size_flaw limits t now (event.Poll c want) ≡ NoFlaw
unfolding room_for
no_size limits t now c want = refl

answered : (limits : Limits) (t : Tables) (e : Entry) (acts : List Act) → IsOwed limits t e → is_denied e.acts ≡ false → failures_in e.acts ≡ 0 →
    size_flaw limits t e.now e.event ≡ NoFlaw
    → accepted_acts limits t e.now e.event NoFlaw ≡ acts → e.acts ≡ acts
unfolding answer owed
answered limits t e acts is on sound none are =
    ap (λ (z : Entry). z.acts) (faultless_are_owed limits t e is sound)
    ∙ (ap (answer limits t e.now e.event) none
    ∙ (ap (λ (o : Option Refusal). denied_or o (accepted_acts limits t e.now e.event NoFlaw)) (goes limits t e is on) ∙ are))

-- BEHIND THE FRONT

handed_on : (t : Fronted) (c want : ℕ) → t.watched c ≡ None → handed t (event.Poll c want) ≡ event.Poll c want
unfolding is_ending
handed_on t c want none = rw none refl

reported_on : (t : Fronted) (c want : ℕ) (acts : List Act) → t.watched c ≡ None → reported t (event.Poll c want) acts ≡ acts
unfolding is_ending
reported_on t c want acts none = rw none refl

module _ (limits : Limits) (t : Fronted) (law : Lawful t.core) (e : FrontEntry) (is : IsOwed limits t.core (core_entry t e)) (c want since : ℕ)
    (request : Request) where
  goes_on : t.watched c ≡ None → t.core.consumer c ≡ Some (new_consumer since request) → is_external request ≡ true → is_only request ≡ false
      → e.event ≡ event.Poll c want → is_denied e.acts ≡ false → failures_in e.acts ≡ 0
      → reported t e.event e.acts ≡ acts_of c (Opens (t.core.opened + 1) need.Disabled request)
  goes_on none row on off at accepted sound =
      let acts = acts_of c (Opens (t.core.opened + 1) need.Disabled request) in
      let hand : handed t e.event ≡ event.Poll c want = ap (handed t) at ∙ handed_on t c want none in
      let move = opens t.core e.now c want since request on off in
      let are = polls.acts_are limits t.core law e.now c want (new_consumer since request) row (Opens (t.core.opened + 1) need.Disabled request)
      (polls.opens (t.core.opened + 1) need.Disabled request) move in
      let all : e.acts ≡ acts = answered limits t.core (core_entry t e) acts is accepted sound
      (ap (size_flaw limits t.core e.now) hand ∙ no_size limits t.core e.now c want)
      (ap (λ (z : Event). accepted_acts limits t.core e.now z NoFlaw) hand ∙ are) in
      ap (λ (z : Event). reported t z e.acts) at ∙ (reported_on t c want e.acts none ∙ all)

pub conditions_on : ConditionsGoOn
conditions_on limits contents f e may run c want since request =
    goes_on limits (fronted contents f)
    (subst Lawful (sym (core_is contents f)) (lawful_in_runs limits contents (core_of contents f) may run.0)) e
    (subst (λ (t : Tables). IsOwed limits t (core_entry (fronted contents f) e)) (sym (core_is contents f)) run.1) c want since request
