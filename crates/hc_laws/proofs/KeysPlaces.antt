-- What is of one key stays so: what consumers read, wait for and have of their own.
--
-- `PlaceIs` and `OwnIs` say what a place and an own exchange name. A consumer is followed through an entry: what the
-- event makes of it, what the acts make of that, and whether it starts over. Both name only its own exchange, what that
-- was opened about, or what is current for its key (`shown_is`). The acts have the most work (`acted_keyed`).
-- `keys_are_kept` adds the exchanges; at the beginning there are neither (`keys_begin`).
use Rattle.std.{proofs.Common.{◌≡◌, ◌⊎◌, inl, inr, ℕ, List, [], ◌∷◌, ◌++◌, Bool, true, false, Option, Some, None, refl, ap, sym, ◌∙◌, subst, arith}, specs.{Prelude.{◌&&◌, ◌==◌, not, if◌then◌else◌, map, find, is_none}, Option.{option_or, option_map}}}
use Rattle.hc_text.proofs.Basics.{eq_itself as eq-refl, eq_reports as eq_is, not_some as none_some, same_some as same_row, some_inj}
use Rattle.hc_effects.proofs.Vocabulary.{brings_part, Opening, opening_in, leaves_in, Act, Cause, Wait, Event, Request, Response, HeadCase, Route, Wanted, Limits, route_of, wanted_of, range_of, BoundBy, Place, wait_in, Showing, showing_in, accepted_acts, answer_acts, loss_acts, case_at, is_founding, closing, bound_to_wanted, place_by_case, passed_on, by_head, by_fault, by_opening, becomes_shared, consumer_after, consumer_settled, consumer_acted, consumer_heard, consumer_made, waiting, waiting_place, passed_by, kept_by, opened_place, place_for_hole, unless_bound, shown_place, own_after, left_to, due_after, back_in_line, new_consumer, current, row_of, is_number, denial, Entry, Content, aim_of, aim_from, becomes_due, Flaw, NoFlaw, Loses, founded_total, HasRow, IsOfOneKey, ExchangeKeys, ConsumerKeys, entry_of, Move, acts_of, reads, bound_to, representation_after, founded_at, new_representation, Tables, Exchange, Representation, Consumer, Sound, IsBound, starts_over, after_accepted, representation_of_content, evicted, loses_group, survivor, act, wait, case, route, wanted, by}
use Rattle.hc_event.specs.declared.event.Event.TheVariants as event
use Rattle.hc_event.specs.declared.place.Place.TheVariants as place
use Rattle.hc_model.specs.{Sound.{is_bound}, ConsumerRows.{with_opening}, Keys.{KeysAreKept, KeysBegin}}
use Rattle.hc_effects.proofs.{ActParts.{IsAnswer, IsSaid, answer_is, said_is}, KeyNames.{opener_key, aims_key}, KeysKeep.{HasExchange, IsOpening, current_row, opened_is, exchange_stays, exchange_new, representation_stays}, NumbersKeep.{opens_next}, PollKeys.{IsNear}}
use Rattle.hc_effects.proofs.ActParts as parts
use Rattle.hc_effects.proofs.KeysKeep as keeps
use Rattle.hc_effects.proofs.PollKeys as polls
use Rattle.hc_laws.proofs.BesideKeeps.{nobody as none_bound}

-- WHAT IS SHOWN

-- it opens and shows nothing, and lets nobody wait
pub record IsMute (acts : List Act) : Type 0 where
  pub opens : opening_in acts ≡ None
  pub shows : showing_in acts ≡ None
  pub waits : (d : ℕ) → wait_in d acts ≡ None

mute_lost : (flaw : Flaw) → IsMute (loss_acts flaw)
mute_lost NoFlaw = record { opens = refl; shows = refl; waits = λ d. refl }
mute_lost _ = record { opens = refl; shows = refl; waits = λ d. refl }

mute_closed : (ys : List ℕ) (rest : List Act) → IsMute rest → IsMute (map act.Close ys ++ rest)
mute_closed [] rest mute = mute
mute_closed (y ∷ ys) rest mute = let m = mute_closed ys rest mute in record { opens = m.opens; shows = m.shows; waits = m.waits }

mute_closes : (ys : List ℕ) → IsMute (map act.Close ys)
mute_closes [] = record { opens = refl; shows = refl; waits = λ d. refl }
mute_closes (y ∷ ys) = let m = mute_closes ys in record { opens = m.opens; shows = m.shows; waits = m.waits }

mute_loss : (flaw : Flaw) (rest : List Act) → IsMute rest → IsMute (loss_acts flaw ++ rest)
mute_loss (Loses r kind) rest mute = record { opens = mute.opens; shows = mute.shows; waits = mute.waits }
mute_loss _ rest mute = mute

mute_evicted : (rs : List ℕ) (rest : List Act) → IsMute rest → IsMute (map act.Evicted rs ++ rest)
mute_evicted [] rest mute = mute
mute_evicted (r ∷ rs) rest mute = let m = mute_evicted rs rest mute in record { opens = m.opens; shows = m.shows; waits = m.waits }

-- a head is shown by a poll, which then opens nothing and lets nobody wait; who reads nothing is shown what is current
pub data IsShowing (t : Tables) (ev : Event) (s : Showing) (acts : List Act) : Type 0 where
  showing : (want : ℕ) (k : Consumer) → ev ≡ event.Poll s.c want → t.consumer s.c ≡ Some k →
      (reads k.place ≡ false → current t k.request.key ≡ Some s.r) → opening_in acts ≡ None → ((d : ℕ) → wait_in d acts ≡ None) → IsShowing t ev s acts

shown_move : (t : Tables) (ev : Event) (c want : ℕ) (k : Consumer) (m : Move) (rest : List Act) (s : Showing) → ev ≡ event.Poll c want →
    t.consumer c ≡ Some k → IsNear t k m → IsMute rest → showing_in (acts_of c m ++ rest) ≡ Some s → IsShowing t ev s (acts_of c m ++ rest)
shown_move t ev c want k _ rest s at row (polls.shows r why head lo hi now) mute h =
    let is = some_inj _ s h in
    let c_is : c ≡ s.c = ap (λ (q : Showing). q.c) is in
    showing want k (at ∙ ap (λ d. event.Poll d want) c_is) (ap t.consumer (sym c_is) ∙ row) (λ none. now none ∙ ap (λ (q : Showing). Some q.r) is)
    mute.opens mute.waits
shown_move t ev c want k _ rest s at row _ mute h = absurd (none_some s (sym mute.shows ∙ h))

shown_said : (t : Tables) (now : ℕ) (ev : Event) (flaw : Flaw) (acts rest : List Act) (s : Showing) → IsSaid t now ev flaw acts → IsMute rest → showing_in
    (acts ++ rest) ≡ Some s → IsShowing t ev s (acts ++ rest)
shown_said t now ev flaw _ rest s (parts.does c want k m at row does near) mute h = shown_move t ev c want k m rest s at row near mute h
shown_said t now ev flaw _ rest s _ mute h = absurd (none_some s (sym mute.shows ∙ h))

shown_by : (limits : Limits) (t : Tables) (now : ℕ) (ev : Event) (flaw : Flaw) (acts : List Act) (s : Showing) → IsAnswer limits t now ev flaw acts →
    showing_in acts ≡ Some s → IsShowing t ev s acts
shown_by limits t now ev flaw _ s (parts.reported silent) h =
    let seen : Entry = record { now = now; event = ev; acts = answer_acts t now ev flaw ++ loss_acts flaw } in
    absurd (none_some s (sym (mute_evicted (evicted limits t now ev) _ (mute_loss flaw _ (mute_closes (closing t seen)))).shows ∙ h))
shown_by limits t now ev flaw _ s parts.asked h =
    let seen : Entry = record { now = now; event = ev; acts = answer_acts t now ev flaw ++ loss_acts flaw } in
    shown_said t now ev flaw (answer_acts t now ev flaw) _ s (said_is t now ev flaw) (mute_closed (closing t seen) _ (mute_lost flaw)) h

pub shown_is : (limits : Limits) (t : Tables) (now : ℕ) (ev : Event) (flaw : Flaw) (s : Showing) → showing_in
    (accepted_acts limits t now ev flaw) ≡ Some s → IsShowing t ev s (accepted_acts limits t now ev flaw)
shown_is limits t now ev flaw s h = shown_by limits t now ev flaw _ s (answer_is limits t now ev flaw) h

-- PLACES

-- what a place names has this
abbrev pub PlaceIs : (ℕ → Type 0) → Place → Type 0
PlaceIs P (place.Bound r lo hi how) = P r
PlaceIs P (place.Passed r kept) = P r
PlaceIs P _ = Unit {0}

abbrev pub OwnIs : (ℕ → Type 0) → Option ℕ → Type 0
OwnIs P None = Unit {0}
OwnIs P (Some x) = P x

own_if : (P : ℕ → Type 0) (b : Bool) (o p : Option ℕ) → OwnIs P o → OwnIs P p → OwnIs P (if b then o else p)
own_if P true o p a z = a
own_if P false o p a z = z

module _ (limits : Limits) (t : Tables) (now : ℕ) (flaw : Flaw) (s : Sound t) (one : IsOfOneKey t) (ev : Event) (goes : denial t ev ≡ None) where
  abbrev e : Entry
  e = entry_of limits t now ev flaw

  abbrev u : Tables
  u = after_accepted t e

  module _ (c : ℕ) (k : Consumer) (row : t.consumer c ≡ Some k) where
    abbrev P : ℕ → Type 0
    P r = HasRow u r k.request.key

    abbrev Q : ℕ → Type 0
    Q x = HasExchange u x k.request.key

    -- what it names before
    named : (place : Place) → k.place ≡ place → PlaceIs P place
    named (place.Bound r lo hi how) at = representation_stays t e r k.request.key (one.consumers.bound r c k (is_bound lo hi how row at))
    named (place.Passed r kept) at = representation_stays t e r k.request.key (one.consumers.passed r c kept k row at)
    named _ at = tt

    owned : (o : Option ℕ) → k.own ≡ o → OwnIs Q o
    owned None is = tt
    owned (Some x) is = exchange_stays t e x k.request.key (one.consumers.own c x k row is)

    now_current : (r : ℕ) → current t k.request.key ≡ Some r → P r
    now_current r is = representation_stays t e r k.request.key (current_row t r k.request.key is)

    -- by a head
    of_aim : (x : ℕ) (w : Exchange) (o : Option ℕ) → t.exchange x ≡ Some w → w.request.key ≡ k.request.key → w.aim ≡ o → PlaceIs P (passed_on x o)
    of_aim x w None at same is = tt
    of_aim x w (Some r) at same is =
        let has = one.exchanges.aims x r w at is in
        representation_stays t e r k.request.key (has.0, has.1, has.2 ∙ same)

    founded_row : (x : ℕ) (w : Exchange) (response : Response) (o : Option Representation) → ev ≡ event.Head x response → t.exchange x ≡ Some w →
        is_founding (case_at t e) ≡ true → t.representation x ≡ o → HasRow u x w.request.key
    unfolding representation_after
    founded_row x w response (Some v) at is founding there = representation_stays t e x w.request.key (v, there, one.exchanges.founded x w v is there)
    founded_row x w response None at is founding there =
        (new_representation x e response w, ap (representation_after t e x) there ∙ (ap (founded_at t e x) at ∙ rw (founding, eq-refl x, is) refl), refl)

    founded : (x : ℕ) (w : Exchange) (response : Response) → ev ≡ event.Head x response → t.exchange x ≡ Some w → w.request.key ≡ k.request.key →
        is_founding (case_at t e) ≡ true → P x
    founded x w response at is same founding =
        let has = founded_row x w response (t.representation x) at is founding refl in
        (has.0, has.1, has.2 ∙ same)

    to_wanted : (r : ℕ) (how : BoundBy) (other : Place) (wants : Wanted) → P r → PlaceIs P other → PlaceIs P (bound_to_wanted r how other wants)
    to_wanted r how other (wanted.Interval span) has p = has
    to_wanted r how other _ has p = p

    by_case : (x : ℕ) (w : Exchange) (response : Response) (o : Option HeadCase) → ev ≡ event.Head x response → t.exchange x ≡ Some w →
        w.request.key ≡ k.request.key → case_at t e ≡ o → PlaceIs P (place_by_case x response w k o)
    by_case x w response (Some case.Validated) at is same found = of_aim x w w.aim is same refl
    by_case x w response (Some case.FoundsWhole) at is same found = founded x w response at is same (ap is_founding found)
    by_case x w response (Some case.FirstReplaced) at is same found = founded x w response at is same (ap is_founding found)
    by_case x w response (Some case.FoundsRange) at is same found =
        to_wanted x by.Founding (place.Direct x) (wanted_of (range_of k.request) (founded_total w response))
        (founded x w response at is same (ap is_founding found)) tt
    by_case x w response (Some case.DirectBad) at is same found = tt
    by_case x w response (Some case.TurnBad) at is same found = tt
    by_case x w response (Some case.FirstBad) at is same found = tt
    by_case x w response (Some case.TurnServerError) at is same found = tt
    by_case x w response (Some case.PassesBy) at is same found = tt
    by_case x w response (Some case.FirstServerError) at is same found = tt
    by_case x w response (Some case.FirstPassesBy) at is same found = tt
    by_case x w response _ at is same found = named k.place refl

    -- what event and acts make of it names what is of its key
    record IsKeyed (q : Consumer) : Type 0 where
      place : PlaceIs P q.place
      own : OwnIs Q q.own
      request : q.request ≡ k.request

    keyed_if : (b : Bool) (q z : Consumer) → (b ≡ true → IsKeyed q) → IsKeyed z → IsKeyed (if b then q else z)
    keyed_if true q z a h = a refl
    keyed_if false q z a h = h

    itself : IsKeyed k
    itself = record { place = named k.place refl; own = owned k.own refl; request = refl }

    head_keyed : (x : ℕ) (response : Response) (o : Option Exchange) → ev ≡ event.Head x response → t.exchange x ≡ o → IsKeyed (by_head t e c x response o k)
    head_keyed x response None at is = itself
    head_keyed x response (Some w) at is = keyed_if (w.c == c) _ k (λ mine.
        record {
          place = by_case x w response (case_at t e) at is (opener_key t x w k one.exchanges is (ap t.consumer (eq_is w.c c mine) ∙ row)) refl;
          own = own_if Q (becomes_shared t e response w (case_at t e)) None k.own tt (owned k.own refl);
          request = refl;
        }) itself

    fault_keyed : (x : ℕ) (o : Option Exchange) → IsKeyed (by_fault c x o k)
    fault_keyed x None = itself
    fault_keyed x (Some w) =
        keyed_if (w.c == c && is_none w.head && not k.shown) _ k (λ mine. record { place = tt; own = owned k.own refl; request = refl }) itself

    heard_keyed : (f : Event) → ev ≡ f → IsKeyed (consumer_heard t e c f k)
    heard_keyed (event.Head x response) at = head_keyed x response (t.exchange x) at refl
    heard_keyed (event.Fault x) at = fault_keyed x (t.exchange x)
    heard_keyed (event.Cancel d) at = keyed_if (d == c) _ k (λ mine. record { place = tt; own = owned k.own refl; request = refl }) itself
    heard_keyed _ at = itself

    -- ACTED

    module _ (q : Consumer) (keyed : IsKeyed q) where
      for_current : (r : ℕ) → current t q.request.key ≡ Some r → P r
      for_current r is = now_current r (ap (λ (z : Request). current t z.key) (sym keyed.request) ∙ is)

      passed_now : (kept o : Option ℕ) → current t q.request.key ≡ o → PlaceIs P (passed_by kept o)
      passed_now kept None is = tt
      passed_now kept (Some r) is = for_current r is

      waits_keyed : (o : Option Wait) → PlaceIs P (waiting_place t q o)
      waits_keyed (Some (wait.Turn d)) = tt
      waits_keyed (Some (wait.Busy d)) = passed_now (kept_by q.place) (current t q.request.key) refl
      waits_keyed _ = keyed.place

      waiting_keyed : IsKeyed (waiting t e c q)
      waiting_keyed = record { place = waits_keyed (wait_in c e.acts); own = keyed.own; request = keyed.request }

      hole_keyed : (x : ℕ) (o : Option ℕ) (p : Option Representation) → current t q.request.key ≡ o → PlaceIs P (place_for_hole x q.request o p)
      hole_keyed x None p is = tt
      hole_keyed x (Some r) None is = tt
      hole_keyed x (Some r) (Some v) is = to_wanted r (by.FirstHole x) place.Line (wanted_of (range_of q.request) v.head.total) (for_current r is) tt

      opened_keyed : (x : ℕ) (way : Route) → PlaceIs P (opened_place t x q way)
      opened_keyed x route.Hole = hole_keyed x (current t q.request.key) (row_of t (current t q.request.key)) refl
      opened_keyed x _ = tt

      unless_keyed : (o : Option ℕ) (new : Place) → PlaceIs P new → PlaceIs P (unless_bound o q.place new)
      unless_keyed None new p = p
      unless_keyed (Some r) new p = keyed.place

      opening_keyed : (o : Option Opening) → opening_in e.acts ≡ o → IsKeyed (by_opening t c o q)
      opening_keyed None is = keyed
      opening_keyed (Some o) is = keyed_if (o.c == c) (with_opening t o q) q (λ mine. record {
        place = unless_keyed (bound_to q.place) _ (opened_keyed o.x (route_of o.need));
        own = opened_own o is (eq_is o.c c mine) (opened_is limits t now ev flaw o is);
        request = keyed.request;
      }) keyed
        where
          opened_own : (o : Opening) → opening_in e.acts ≡ Some o → o.c ≡ c → IsOpening t ev o → Q o.x
          opened_own o is mine (keeps.opening want z at there same) =
              let next = opens_next limits t now flaw s ev o goes is in
              let has = exchange_new t e o.x o is refl (s.numbered.lists.new_exchanges o.x (omega arith)) in
              (has.0, has.1, has.2 ∙ (same ∙ ap (λ (y : Consumer). y.request.key) (same_row (t.consumer c) z k (ap t.consumer (sym mine) ∙ there) row)))

    key_back : (r : ℕ) (v : Representation) → P r → t.representation r ≡ Some v → v.key ≡ k.request.key
    key_back r v has there =
        let mine = representation_stays t e r v.key (v, there, refl) in
        sym mine.2 ∙ (ap (λ (z : Representation). z.key) (same_row (u.representation r) mine.0 has.0 mine.1 has.1) ∙ has.2)

    left_keyed : (r : ℕ) (own : Option ℕ) (o : Option Representation) → P r → t.representation r ≡ o → OwnIs Q own → OwnIs Q (left_to t e c r o own)
    left_keyed r own None has there is = is
    left_keyed r own (Some v) has there is = own_if Q (loses_group t e r v && is_number (survivor t r v) c) v.writer own (writes v.writer refl) is
      where
        writes : (o : Option ℕ) → v.writer ≡ o → OwnIs Q o
        writes None is = tt
        writes (Some x) is =
            let w = one.exchanges.writers r x v there is in
            exchange_stays t e x k.request.key (w.0, w.1, sym w.2 ∙ key_back r v has there)

    own_keyed : (place : Place) (own : Option ℕ) → PlaceIs P place → OwnIs Q own → OwnIs Q (own_after t e c place own)
    own_keyed (place.Bound r lo hi how) own has is = left_keyed r own (t.representation r) has refl is
    own_keyed _ own has is = is

    -- what it is shown, where it read nothing
    shown_keyed : (p : Place) (o : Option Showing) → showing_in e.acts ≡ o → PlaceIs P p →
        (reads p ≡ false → (z : Showing) → showing_in e.acts ≡ Some z → z.c ≡ c → P z.r) → PlaceIs P (shown_place c o p)
    shown_keyed p None is named_so now = named_so
    shown_keyed p (Some z) is named_so now = by_tests (z.c == c) (reads p) refl refl
      where
        by_tests : (a b : Bool) → (z.c == c) ≡ a → reads p ≡ b → PlaceIs P (if a && not b then place.Bound z.r z.lo z.hi by.Plan else p)
        by_tests true true mine there = named_so
        by_tests true false mine there = now there z is (eq_is z.c c mine)
        by_tests false b mine there = named_so

    abbrev heard : Consumer
    heard = consumer_heard t e c ev k

    abbrev opened : Consumer
    opened = by_opening t c (opening_in e.acts) (waiting t e c heard)

    poll_quiet : (f : Event) (d want : ℕ) → f ≡ event.Poll d want → consumer_heard t e c f k ≡ k
    poll_quiet f d want at = ap (λ z. consumer_heard t e c z k) at

    shown_now : (z : Showing) → z.c ≡ c → reads opened.place ≡ false → IsShowing t ev z e.acts → P z.r
    shown_now z mine none (showing want y at there now opens waits) =
        let same : y ≡ k = same_row (t.consumer c) y k (ap t.consumer (sym mine) ∙ there) row in
        let stays : opened ≡ k =
        ap (λ o. by_opening t c o (waiting t e c heard)) opens
        ∙ (ap (λ (q : Consumer). waiting t e c q) (poll_quiet ev z.c want at) ∙ ap (λ o. record k { place = waiting_place t k o }) (waits c)) in
        now_current z.r (ap (λ (q : Consumer). current t q.request.key) (sym same) ∙ now (ap (λ (q : Consumer). reads q.place) (same ∙ sym stays) ∙ none))

    acted_keyed : IsKeyed (consumer_acted t e c heard)
    acted_keyed =
        let h = heard_keyed ev refl in
        let o = opening_keyed (waiting t e c heard) (waiting_keyed heard h) (opening_in e.acts) refl in
        record {
          place = left_or (leaves_in c e.acts) (shown_place c (showing_in e.acts) opened.place)
              (shown_keyed opened.place (showing_in e.acts) refl o.place (λ none z is mine. shown_now z mine none (shown_is limits t now ev flaw z is)));
          own = own_keyed heard.place opened.own h.place o.own;
          request = o.request;
        }
      where
        left_or : (b : Bool) (p : Place) → PlaceIs P p → PlaceIs P (if b then place.Over else p)
        left_or true p h = tt
        left_or false p h = h

    -- SETTLED

    record IsSettled (z : Consumer) : Type 0 where
      place : PlaceIs P z.place
      own : OwnIs Q z.own
      request : z.request ≡ k.request
      undue : reads z.place ≡ false → z.due ≡ None

    due_none : (b : Bool) (o : Option Cause) → b ≡ false → (if b then o else None) ≡ None
    due_none true o h = absurd (let no_one : true ≡ false = h in cc)
    due_none false o h = refl

    settled : (b : Bool) (q : Consumer) → IsKeyed q → IsSettled (if b then back_in_line now q else due_after t e c k q)
    settled true q keyed = record { place = tt; own = tt; request = keyed.request; undue = λ none. refl }
    settled false q keyed = record {
      place = keyed.place;
      own = keyed.own;
      request = keyed.request;
      undue = λ none. due_none (reads q.place) (option_or k.due (becomes_due t e c k)) none;
    }

    settled_row : IsSettled (consumer_settled t e c k (consumer_acted t e c heard))
    settled_row = settled (starts_over t e c k) (consumer_acted t e c heard) acted_keyed

  -- a consumer after the event names what is of its key
  pub record NamesItsKey (z : Consumer) : Type 0 where
    pub place : PlaceIs (λ r. HasRow u r z.request.key) z.place
    pub own : OwnIs (λ x. HasExchange u x z.request.key) z.own
    pub undue : reads z.place ≡ false → z.due ≡ None

  started_names : (c : ℕ) (z : Consumer) (f : Event) → consumer_made c now f ≡ Some z → NamesItsKey z
  started_names c z (event.Start d request) h = by_test (d == c) h
    where
      by_test : (b : Bool) → (if b then Some (new_consumer now request) else None) ≡ Some z → NamesItsKey z
      by_test true is = subst NamesItsKey (some_inj (new_consumer now request) z is) (record { place = tt; own = tt; undue = λ none. refl })
      by_test false is = absurd (none_some z is)
  started_names c z _ h = absurd (none_some z h)

  of_key : (c : ℕ) (k z : Consumer) (row : t.consumer c ≡ Some k) → IsSettled c k row z → NamesItsKey z
  of_key c k z row is =
      let same : k.request.key ≡ z.request.key = ap (λ (r : Request). r.key) (sym is.request) in
      record {
        place = subst (λ key. PlaceIs (λ r. HasRow u r key) z.place) same is.place;
        own = subst (λ key. OwnIs (λ x. HasExchange u x key) z.own) same is.own;
        undue = is.undue;
      }

  pub names_its_key : (c : ℕ) (o : Option Consumer) (z : Consumer) → t.consumer c ≡ o → consumer_after t e c o ≡ Some z → NamesItsKey z
  unfolding consumer_after
  names_its_key c None z row h = started_names c z ev h
  names_its_key c (Some k) z row h = subst NamesItsKey (some_inj _ z h) (of_key c k _ row (settled_row c k row))

  place_row : (r : ℕ) (key : List ℕ) (p q : Place) → p ≡ q → PlaceIs (λ r. HasRow u r key) p → PlaceIs (λ r. HasRow u r key) q
  place_row r key p q same is = subst (λ z. PlaceIs (λ r. HasRow u r key) z) same is

  bound_names : (r c : ℕ) (z : Consumer) → IsBound u r c z → HasRow u r z.request.key
  bound_names r c z (is_bound lo hi how row at) =
      place_row r z.request.key z.place (place.Bound r lo hi how) at (names_its_key c (t.consumer c) z refl row).place

  own_names : (x : ℕ) (key : List ℕ) (o p : Option ℕ) → o ≡ p → OwnIs (λ x. HasExchange u x key) o → OwnIs (λ x. HasExchange u x key) p
  own_names x key o p same is = subst (λ z. OwnIs (λ x. HasExchange u x key) z) same is

  pub consumers_kept : ConsumerKeys u
  consumers_kept = record {
    own = λ c x z row is. own_names x z.request.key z.own (Some x) is (names_its_key c (t.consumer c) z refl row).own;
    bound = bound_names;
    passed = λ r c kept z row at. place_row r z.request.key z.place (place.Passed r kept) at (names_its_key c (t.consumer c) z refl row).place;
    undue = λ c z row none. (names_its_key c (t.consumer c) z refl row).undue none;
  }

  consumer_stays : (c : ℕ) (k : Consumer) → t.consumer c ≡ Some k → (z : Consumer) × (u.consumer c ≡ Some z) × (k.request.key ≡ z.request.key)
  unfolding consumer_after
  consumer_stays c k row =
      let z = consumer_settled t e c k (consumer_acted t e c (consumer_heard t e c ev k)) in
      (z, ap (consumer_after t e c) row, ap (λ (r : Request). r.key) (sym (settled_row c k row).request))

  -- EXCHANGES

  opener_kept : (d : ℕ) (key : List ℕ) (k : Consumer) → t.consumer d ≡ Some k → key ≡ k.request.key → (z : Consumer) × (u.consumer d ≡ Some z) ×
      (key ≡ z.request.key)
  opener_kept d key k row same = let z = consumer_stays d k row in (z.0, z.1, same ∙ z.2)

  opener_of : (x : ℕ) (z : Exchange) → keeps.WasExchange t e x z → (k : Consumer) × (u.consumer z.c ≡ Some k) × (z.request.key ≡ k.request.key)
  opener_of x z (keeps.was w row same) =
      let k = one.exchanges.opener x w row in
      opener_kept z.c z.request.key k.0 (ap t.consumer same.c_is ∙ k.1) (ap (λ (r : Request). r.key) same.request_is ∙ k.2)
  opener_of x z (keeps.new o is here made none) = by_opening_of (opened_is limits t now ev flaw o is)
    where
      by_opening_of : IsOpening t ev o → (k : Consumer) × (u.consumer z.c ≡ Some k) × (z.request.key ≡ k.request.key)
      by_opening_of (keeps.opening want k at row same) =
          opener_kept z.c z.request.key k (ap (λ (y : Exchange). t.consumer y.c) made ∙ row) (ap (λ (y : Exchange). y.request.key) made ∙ same)

  aim_row : (r : ℕ) (k : Consumer) (place : Place) (c : ℕ) → t.consumer c ≡ Some k → k.place ≡ place → aim_from t k.request.key place ≡ Some r →
      HasRow u r k.request.key
  aim_row r k (place.Bound q lo hi how) c row at is =
      subst (λ n. HasRow u n k.request.key) (some_inj q r is) (representation_stays t e q k.request.key (one.consumers.bound q c k (is_bound lo hi how row at)))
  aim_row r k _ c row at is = now_current c k row r is

  aim_of_new : (r : ℕ) (o : Opening) → IsOpening t ev o → aim_of t (t.consumer o.c) ≡ Some r → HasRow u r o.request.key
  aim_of_new r o (keeps.opening want k at row same) is =
      let has = aim_row r k k.place o.c row refl (sym (ap (aim_of t) row) ∙ is) in
      (has.0, has.1, has.2 ∙ sym same)

  aims_of : (x r : ℕ) (z : Exchange) → keeps.WasExchange t e x z → z.aim ≡ Some r → HasRow u r z.request.key
  aims_of x r z (keeps.was w row same) is =
      representation_stays t e r z.request.key
      (let has = one.exchanges.aims x r w row (sym same.aim_is ∙ is) in (has.0, has.1, has.2 ∙ ap (λ (q : Request). q.key) (sym same.request_is)))
  aims_of x r z (keeps.new o is here made none) aims =
      let has = aim_of_new r o (opened_is limits t now ev flaw o is) (ap (λ (y : Exchange). y.aim) (sym made) ∙ aims) in
      (has.0, has.1, has.2 ∙ ap (λ (y : Exchange). y.request.key) (sym made))

  joined_was : (x r : ℕ) (w z : Exchange) → t.exchange x ≡ Some w → (z.joined ≡ w.joined) ⊎ (z.joined ≡ w.aim) → z.joined ≡ Some r → HasRow t r w.request.key
  joined_was x r w z row (inl same) is = one.exchanges.joined x r w row (sym same ∙ is)
  joined_was x r w z row (inr same) is = one.exchanges.aims x r w row (sym same ∙ is)

  joined_of : (x r : ℕ) (z : Exchange) → keeps.WasExchange t e x z → z.joined ≡ Some r → HasRow u r z.request.key
  joined_of x r z (keeps.was w row same) is =
      representation_stays t e r z.request.key
      (let has = joined_was x r w z row same.joined_is is in (has.0, has.1, has.2 ∙ ap (λ (q : Request). q.key) (sym same.request_is)))
  joined_of x r z (keeps.new o is here made none) joins = absurd (none_some r (ap (λ (y : Exchange). y.joined) (sym made) ∙ joins))

  founded_of : (r : ℕ) (z : Exchange) (v : Representation) → keeps.WasExchange t e r z → keeps.WasRow t e r v → v.key ≡ z.request.key
  founded_of r z v (keeps.was w row same) (keeps.was_row old there key writes) =
      key ∙ (one.exchanges.founded r w old row there ∙ ap (λ (q : Request). q.key) (sym same.request_is))
  founded_of r z v (keeps.was w row same) (keeps.new_row response y there key writes) =
      key ∙ (ap (λ (q : Exchange). q.request.key) (same_row (t.exchange r) y w there row) ∙ ap (λ (q : Request). q.key) (sym same.request_is))
  founded_of r z v (keeps.new o is here made none) (keeps.was_row old there key writes) =
      let next = opens_next limits t now flaw s ev o goes is in
      absurd (none_some old (sym (s.numbered.lists.new_representations r (omega arith)) ∙ there))
  founded_of r z v (keeps.new o is here made none) (keeps.new_row response y there key writes) = absurd (none_some y (sym none ∙ there))

  writer_was : (r x : ℕ) (old v : Representation) → t.representation r ≡ Some old → v.key ≡ old.key → keeps.WasWriter t e r old v → v.writer ≡ Some x →
      (w : Exchange) × (t.exchange x ≡ Some w) × (w.request.key ≡ v.key)
  writer_was r x old v there key (keeps.kept same) is = let w = one.exchanges.writers r x old there (sym same ∙ is) in (w.0, w.1, sym (key ∙ w.2))
  writer_was r x old v there key (keeps.resumed y w row aim same) is =
      (w, ap t.exchange (sym (some_inj y x (sym same ∙ is))) ∙ row, sym (key ∙ aims_key t y r w old one.exchanges row aim there))

  writer_new : (r x status : ℕ) (w : Exchange) → t.exchange r ≡ Some w → (b : Bool) → (if b then None else Some r) ≡ Some x → t.exchange x ≡ Some w
  writer_new r x status w row true is = absurd (none_some x is)
  writer_new r x status w row false is = ap t.exchange (sym (some_inj r x is)) ∙ row

  writer_by : (r x : ℕ) (v : Representation) → keeps.WasRow t e r v → v.writer ≡ Some x → (w : Exchange) × (t.exchange x ≡ Some w) × (w.request.key ≡ v.key)
  writer_by r x v (keeps.was_row old there key writes) is = writer_was r x old v there key writes is
  writer_by r x v (keeps.new_row response w row key writes) is =
      (w, writer_new r x response.status w row (brings_part response.status) (sym writes ∙ is), sym key)

  writer_of : (r x : ℕ) (v : Representation) → keeps.WasRow t e r v → v.writer ≡ Some x → (w : Exchange) × (u.exchange x ≡ Some w) × (v.key ≡ w.request.key)
  writer_of r x v was is =
      let z = exchange_stays t e x v.key (writer_by r x v was is) in
      (z.0, z.1, sym z.2)

  pub exchanges_kept : ExchangeKeys u
  exchanges_kept = record {
    opener = λ x z row. opener_of x z (keeps.exchange_was t e x (t.exchange x) z refl row);
    aims = λ x r z row is. aims_of x r z (keeps.exchange_was t e x (t.exchange x) z refl row) is;
    joined = λ x r z row is. joined_of x r z (keeps.exchange_was t e x (t.exchange x) z refl row) is;
    founded = λ r z v row there. founded_of r z v (keeps.exchange_was t e r (t.exchange r) z refl row)
        (keeps.representation_was t e r (t.representation r) v refl there);
    writers = λ r x v there is. writer_of r x v (keeps.representation_was t e r (t.representation r) v refl there) is;
  }

pub keys_are_kept : KeysAreKept
keys_are_kept limits t now flaw s one event goes = record {
  exchanges = exchanges_kept limits t now flaw s one event goes;
  consumers = consumers_kept limits t now flaw s one event goes;
}

-- FROM THE BEGINNING

pub loaded_writer : (o : Option Content) (v : Representation) (x : ℕ) → option_map representation_of_content o ≡ Some v → v.writer ≡ Some x → ⊥
loaded_writer None v x row is = none_some v row
loaded_writer (Some item) v x row is = none_some x (ap (λ (z : Representation). z.writer) (some_inj (representation_of_content item) v row) ∙ is)

pub keys_begin : KeysBegin
keys_begin contents = record {
  exchanges = record {
    opener = λ x w row. absurd (none_some w row);
    aims = λ x r w row is. absurd (none_some w row);
    joined = λ x r w row is. absurd (none_some w row);
    founded = λ r w v row there. absurd (none_some w row);
    writers = λ r x v there is. absurd (loaded_writer (find (λ (item : Content). item.r == r) contents.items) v x there is);
  };
  consumers = record {
    own = λ c x k row is. absurd (none_some k row);
    bound = λ r c k is. absurd (none_bound contents r c k is);
    passed = λ r c kept k row at. absurd (none_some k row);
    undue = λ c k row none. absurd (none_some k row);
  };
}
