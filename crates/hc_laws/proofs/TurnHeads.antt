-- A 304 that validates lets its consumer through: what is current stays so.
--
-- Of the table of cases one test leads to this case (`validated_on`). So the request was conditional and had the turn,
-- what it is about is still current, and nothing is lost (`valid_is`). Hence no writing goes by it and no exchange
-- needs to be closed (`keeps_group`, `free`), and as nothing is written nothing is evicted either (`write_none`). So
-- nothing goes (`goes_none`). The law of turns needs that.
use Rattle.std.{proofs.{lemmas.Bool.Decides.{nat_tests}, Common.{arith, ◌≡◌, ℕ, [], Bool, true, false, Option, Some, None, refl, ap, sym, ◌∙◌}}, specs.Prelude.{◌&&◌, ◌||◌, ◌==◌, not, is_some, if◌then◌else◌, nat_le}}
use Rattle.hc_text.proofs.Basics.{and_left, and_none, and_right as and_then, not_true as not_yes}
use Rattle.hc_effects.proofs.Vocabulary.{brings_part, brings_whole, opening_in, Response, HeadCase, HeadView, Route, Limits, head_case, case_on, direct_case, first_case, later_case, is_conditional, is_same_number, route_of, has_loss, misreads_in, answer_acts, case_at, case_of, head_view, validates, must_close, is_refused, has_no_survivor, awaits, current, is_current, doomed_key_of, doomed_in, doomed_by_head, doomed_by_case, bypass_key, bypassed_by, Entry, entry_without_acts, exchange_at, flaw_in, becomes_gone, goes_by_head, goes_by_exchange, goes_by_case, ends_early, ends_founding, stops_early, Tables, Exchange, Representation, evicted, first_idle, room_for, room_by, write_in, need, event, case, route}
use Rattle.hc_effects.proofs.{ActParts.{leaver_lost}, Joining.{mix}, KeyRows.{same_number}}
use Rattle.hc_laws.proofs.{TurnFacts.{none_goes, loss_seen, is_asking, IsTaken, seen, stays_open, reported_quiet, evicts_none, same_case, same_doom}, PassedKeeps.{conditional_need}, HadHeaded.{lossless_none as no_loss}}

-- THE CASE

abbrev is_validated : HeadCase → Bool
is_validated case.Validated = true
is_validated _ = false

abbrev Other : HeadCase → Type 0
Other c = is_validated c ≡ false

never_validated : {A : Type 0} (c : HeadCase) → Other c → c ≡ case.Validated → A
never_validated c other is = absurd (let no_one : true ≡ false = sym (ap is_validated is) ∙ other in cc)

module _ (v : HeadView) where
  abbrev passes : Bool
  passes = v.status == 304 && v.conditional && v.selects && not v.lost

  turn_rest : Other (if v.status == 304 && v.conditional then case.NotValidated else if nat_le 500 v.status then case.TurnServerError else
      if brings_whole v.status && v.storable && not v.lost then case.FoundsWhole else if brings_part v.status && v.storable && v.fits && not v.lost then
      case.FoundsRange else case.PassesBy)
  turn_rest = grind (arith, nat_tests)

  by_passing : (b : Bool) (rest : HeadCase) → Other rest → (if b then case.Validated else rest) ≡ case.Validated → b ≡ true
  by_passing b rest other is = grind (arith, nat_tests)

  by_bad : (b : Bool) (rest : HeadCase) → (if b then case.TurnBad else rest) ≡ case.Validated → rest ≡ case.Validated
  by_bad b rest is = grind (arith, nat_tests)

  first_other : Other (first_case v)
  first_other =
      mix Other v.bad case.FirstBad _ refl
      (mix Other v.joins case.FirstJoins _ refl
      (mix Other (nat_le 500 v.status) case.FirstServerError _ refl
      (mix Other (brings_part v.status || v.status == 304 || v.status == 416) case.FirstChanged _ refl
      (mix Other (brings_whole v.status && v.storable && not v.lost) case.FirstReplaced case.FirstPassesBy refl refl))))

  later_other : Other (later_case v)
  later_other = mix Other v.bad case.LaterBad _ refl (mix Other v.joins case.LaterJoins case.LaterChanged refl refl)

  validated_on : (way : Route) → case_on way v ≡ case.Validated → (way ≡ route.Turn) × (passes ≡ true)
  validated_on route.Direct is = never_validated (direct_case v) (mix Other v.bad case.DirectBad case.DirectTaken refl refl) is
  validated_on route.Turn is = (refl, by_passing passes _ turn_rest (by_bad v.bad _ is))
  validated_on route.Hole is = never_validated (case_on route.Hole v) (mix Other v.shown (later_case v) (first_case v) later_other first_other) is

-- what validating takes: a conditional request that has the turn, for what is still current, and no loss
pub record IsValid (t : Tables) (e : Entry) (x r : ℕ) (w : Exchange) : Type 0 where
  pub turn : route_of w.need ≡ route.Turn
  pub need_is : w.need ≡ need.Validate
  pub current : current t w.request.key ≡ Some r
  pub lossless : has_loss e.acts ≡ false

case_is : (t : Tables) (b : Bool) (x : ℕ) (response : Response) (w : Exchange) (c : HeadCase) → t.exchange x ≡ Some w →
    case_of t b (event.Head x response) ≡ Some c → head_case (head_view t b w response) ≡ c
unfolding case_of
case_is t b x response w c row is = grind (arith, nat_tests)

pub valid_is : (t : Tables) (e : Entry) (x r : ℕ) (response : Response) (w : Exchange) → e.event ≡ event.Head x response → t.exchange x ≡ Some w →
    case_at t e ≡ Some case.Validated → w.aim ≡ Some r → IsValid t e x r w
unfolding head_case
valid_is t e x r response w at row found aim =
    let here = case_is t (has_loss e.acts) x response w case.Validated row (sym (ap (case_of t (has_loss e.acts)) at) ∙ found) in
    let both = validated_on (head_view t (has_loss e.acts) w response) (route_of w.need) here in
    let a = and_left (response.status == 304 && is_conditional w.need w.request && validates t w response) (not (has_loss e.acts)) both.1 in
    let b = and_left (response.status == 304 && is_conditional w.need w.request) (validates t w response) a in
    record {
      turn = both.0;
      need_is = conditional_need w.need w.request (and_then (response.status == 304) (is_conditional w.need w.request) b);
      current = same_number (current t w.request.key) w.aim r aim
          (and_left _ _ (and_then (response.status == 304 && is_conditional w.need w.request) (validates t w response) a));
      lossless = not_yes (has_loss e.acts)
          (and_then (response.status == 304 && is_conditional w.need w.request && validates t w response) (not (has_loss e.acts)) both.1);
    }

-- and it is of an exchange that was opened about something
pub valid_aim : (t : Tables) (e : Entry) (x : ℕ) (response : Response) (w : Exchange) → e.event ≡ event.Head x response → t.exchange x ≡ Some w →
    case_at t e ≡ Some case.Validated → is_some w.aim ≡ true
unfolding head_case
valid_aim t e x response w at row found =
    let here = case_is t (has_loss e.acts) x response w case.Validated row (sym (ap (case_of t (has_loss e.acts)) at) ∙ found) in
    let all = (validated_on (head_view t (has_loss e.acts) w response) (route_of w.need) here).1 in
    let b = and_left (response.status == 304 && is_conditional w.need w.request && validates t w response) (not (has_loss e.acts)) all in
    same_some (current t w.request.key) w.aim (and_left _ _ (and_then (response.status == 304 && is_conditional w.need w.request) (validates t w response) b))
  where
    same_some : (p q : Option ℕ) → is_same_number p q ≡ true → is_some q ≡ true
    same_some p q h = grind (arith, nat_tests)

-- IT LEAVES WHAT IS STORED

module _ (limits : Limits) (t : Tables) (e : Entry) (taken : IsTaken limits t e) (x : ℕ) (response : Response) (w : Exchange)
    (at : e.event ≡ event.Head x response) (row : t.exchange x ≡ Some w) (found : case_at t e ≡ Some case.Validated) (lossless : has_loss e.acts ≡ false) where
  abbrev saw : Entry
  saw = seen limits t e taken

  doom_at : doomed_key_of t e ≡ None
  unfolding doomed_key_of
  doom_at = ap (doomed_in t e) at ∙ (ap (doomed_by_head t e response) row ∙ ap (λ c. doomed_by_case c w response) found)

  saw_lossless : has_loss saw.acts ≡ false
  saw_lossless = loss_seen limits t e taken ∙ lossless

  silent : answer_acts t e.now e.event (flaw_in e.acts) ≡ []
  silent = ap (λ ev. answer_acts t e.now ev (flaw_in e.acts)) at

  keeps_group : (y r : ℕ) (o : Option Representation) → has_no_survivor t saw y r o ≡ false
  keeps_group y r o = grind (arith, nat_tests, saw, no_loss, saw_lossless, and_none)

  free : (y : ℕ) (u : Exchange) → must_close t saw y u ≡ false
  free y u = grind (arith, nat_tests, is_refused, saw, same_case, awaits, same_doom, doom_at, keeps_group, silent, leaver_lost)

  ends_none : (r : ℕ) (o : Option Exchange) → ends_founding e r o ≡ false
  ends_none r None = refl
  ends_none r (Some u) = ap (λ b. u.is_open && b) (rw (ap (stops_early u r) at) (stays_open limits t e taken r (λ z there. free r z))) ∙ and_none u.is_open

  opens_none : opening_in e.acts ≡ None
  opens_none = (reported_quiet limits t e taken 0 0 silent (ap is_asking at)).opens

  write_none : write_in t (entry_without_acts e.now e.event) e.event ≡ None
  write_none = grind (arith, nat_tests)

  evicted_none : evicted limits t e.now e.event ≡ []
  unfolding room_for
  evicted_none = ap (λ o. first_idle t (entry_without_acts e.now e.event) (room_by limits t (entry_without_acts e.now e.event) o)) write_none

  -- nothing goes
  pub goes_none : (r : ℕ) (v : Representation) → becomes_gone t e r v ≡ false
  unfolding becomes_gone
  goes_none r v =
      let head : goes_by_head t e r ≡ false = ap (λ ev. goes_by_exchange t e r (exchange_at t ev)) at ∙
      (ap (goes_by_exchange t e r) row ∙ ap (λ c. goes_by_case t e r c w) found) in
      let past : bypass_key e ≡ None = ap bypassed_by opens_none in
      let reads : misreads_in r e.acts ≡ false = (reported_quiet limits t e taken 0 r silent (ap is_asking at)).misreads in
      let early : ends_early t e r v ≡ false = ap (λ b. brings_whole v.head.status && b) (ends_none r (t.exchange r)) ∙ and_none (brings_whole v.head.status) in
      rw (doom_at, past, head, no_loss r e.acts lossless, reads, early, evicts_none limits t e taken r evicted_none) (none_goes v (is_current t v.key r))
