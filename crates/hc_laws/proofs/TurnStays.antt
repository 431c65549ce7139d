-- Who waits for a head goes on waiting, as long as no head comes.
--
-- Its exchange has no head before the entry and none after it. So neither its head nor its fault came (`not_headed`,
-- `not_faulted`), and its consumer doesn't leave (`not_leaving`). A poll of that says only that it waits
-- (`polls_head`); other acts aren't told to it. The most work is that it doesn't start over (`not_over`): nothing of
-- what it waits for is doomed or lost (`dooms`, `loses_none`). `after_same` joins this.
use Rattle.std.{proofs.{lemmas.Bool.Decides.{nat_tests}, Common.{arith, ◌≡◌, inl, inr, ℕ, ◌+◌, List, [], ◌∷◌, ◌++◌, Bool, true, false, cond, Option, Some, None, refl, ap, sym, ◌∙◌, subst}}, specs.{Prelude.{length, ◌&&◌, ◌||◌, ◌==◌, nat_eq, not, is_none, is_some, if◌then◌else◌}, Option.{option_and_then}}}
use Rattle.hc_text.proofs.Basics.{or_right, or_left, and_left, and_right as and_then, bool_cases, eq_itself as eq-refl, eq_reports as eq_is, never_true as not_true, plus_none, same_some as same_row, some_inj}
use Rattle.hc_effects.proofs.Vocabulary.{Opening, opening_in, closes_in, leaves_in, shows_in, given_in, Act, Event, Response, head_refusal, fault_refusal, Route, Limits, route_of, BoundBy, Place, has_loss, wait_in, leaver_in, Showing, showing_in, case_at, case_of, must_close, is_doomed, is_left, is_left_by, awaits, leaver, leaver_by, is_refused, brings_head, consumer_after, consumer_settled, consumer_acted, consumer_heard, by_head, by_fault, by_opening, waiting, waiting_place, shown_place, own_after, left_to, due_after, back_in_line, is_number, denial, as_open, doomed_key_of, is_key, Entry, exchange_heard, exchange_acted, promised_bytes, exchange_at, is_for, is_headless, is_open, IsOfOneKey, Turns, StandsFor, IsAwaited, Move, acts_of, poll_move, shows_head, shows_at, shows_direct, shows_answer, if_headless, waits_for_head, or_else, by_place, has_joined, own_open, if_open, is_written, is_open_writer, Tables, Exchange, Representation, Consumer, Sound, IsAbout, starts_over, sends_back, waits_at, awaited_exchange, loses_what_it_waits_for, loses_group, act, wait, event, by}
use Rattle.hc_rules.specs.Refusals as refusals
use Rattle.hc_event.specs.declared.place.Place.TheVariants as place
use Rattle.hc_model.specs.Laws as laws
use Rattle.hc_model.specs.Moves as moves
use Rattle.hc_model.specs.Sound as sound
use Rattle.hc_effects.proofs.{ActParts.{IsFarFrom}, KeyNames.{opener_key}, Owed.{goes}, BoundStays.{none_of}}
use Rattle.hc_laws.proofs.TurnFacts.{IsTaken, AtPoll, seen, behind, far_behind, at_poll, far_from, is_closed, same_doom}
use Rattle.hc_laws.proofs.TurnFacts as facts

abbrev poller : Event → ℕ
poller (event.Poll c want) = c
poller _ = 0

abbrev is_poll : Event → Bool
is_poll (event.Poll c want) = true
is_poll _ = false

abbrev is_head : Event → Bool
is_head (event.Head y response) = true
is_head _ = false

no_poll : (ev : Event) {c : ℕ} (want : ℕ) → is_poll ev ≡ false → ev ≡ event.Poll c want → ⊥
no_poll ev want other is = let no_one : true ≡ false = sym (ap is_poll is) ∙ other in cc

heads : (ev : Event) (y : ℕ) (response : Response) → is_head ev ≡ false → ev ≡ event.Head y response → ⊥
heads ev y response other is = let no_one : true ≡ false = sym (ap is_head is) ∙ other in cc

-- HEADLESS

pub head_opens : (w : Exchange) → head_refusal (as_open (Some w)) ≡ None → is_headless (Some w) ≡ true
head_opens w h = grind (arith, nat_tests)

fault_by : (a b asked : Bool) (n : ℕ) (p : Option ℕ) →
    fault_refusal (if a then Some (record { headed = b; asked = asked; delivered = n; promised = p }) else None) ≡ None → a ≡ true
fault_by a b asked n p h = grind (arith, nat_tests)

pub fault_opens : (w : Exchange) → fault_refusal (as_open (Some w)) ≡ None → is_none w.head ≡ true → is_headless (Some w) ≡ true
fault_opens w h none = rw (fault_by w.is_open (is_some w.head) w.asked (length w.body) (promised_bytes w) h) none

-- of a headless exchange
pub is_open_headless : (w : Exchange) → is_headless (Some w) ≡ true → w.is_open ≡ true
is_open_headless w h = and_left _ _ h

pub head_none : (w : Exchange) → is_headless (Some w) ≡ true → w.head ≡ None
head_none w h = none_of w.head (and_then w.is_open (is_none w.head) h)

headed_not : (w : Exchange) → is_headless (Some w) ≡ true → is_some w.head ≡ true → ⊥
headed_not w h headed = let no_one : false ≡ true = ap is_some (sym (head_none w h)) ∙ headed in cc

-- WHAT ITS POLL SAYS

-- who waits for the head of its exchange is told so
module _ (t : Tables) (s : Sound t) (turns : Turns t) (x : ℕ) (w : Exchange) (row : t.exchange x ≡ Some w) (headless : is_headless (Some w) ≡ true) where
  abbrev who : IsAwaited t x w
  who = turns.awaited x w row headless

  pub awaited_open : own_open t who.k ≡ Some x
  awaited_open = ap (option_and_then (if_open t)) who.own ∙ rw (row, is_open_headless w headless) refl

  shown_none : (b : Bool) (m : Option Move) → m ≡ None → cond b None m ≡ None
  shown_none b m h = grind (arith, nat_tests)

  shown_yes : (b : Bool) (m : Option Move) → b ≡ true → cond b None m ≡ None
  shown_yes b m h = grind (arith, nat_tests)

  nothing_joined : has_joined (t.exchange x) ≡ false
  nothing_joined = ap has_joined row ∙ ap is_some (s.waits.headless x w row (head_none w headless)).1

  shows_nothing : (way : Route) → StandsFor x who.k way → shows_head t who.k ≡ None
  shows_nothing _ (laws.direct at) =
      shown_none who.k.shown _ (ap (shows_at t who.k) at ∙ (ap (shows_direct t x) row ∙ ap (shows_answer t x w) (head_none w headless)))
  shows_nothing _ (laws.has_turn at unshown) = shown_none who.k.shown _ (ap (shows_at t who.k) at)
  shows_nothing _ (laws.first r lo hi at unshown) = shown_none who.k.shown _ (ap (shows_at t who.k) at ∙ rw nothing_joined refl)
  shows_nothing _ (laws.later r lo hi how at shown) = shown_yes who.k.shown _ shown

  pub polls_head : (now want : ℕ) → poll_move t now want w.c (Some who.k) ≡ moves.Waits (wait.Head x)
  polls_head now want =
      let waits : option_and_then (if_headless t) (own_open t who.k) ≡ Some x = ap (option_and_then (if_headless t)) awaited_open ∙ rw (row, headless) refl in
      ap (λ o. or_else o (or_else (waits_for_head (option_and_then (if_headless t) (own_open t who.k))) (by_place t now want w.c who.k who.k.place)))
      (shows_nothing (route_of w.need) who.stands)
      ∙ ap (λ o. or_else (waits_for_head o) (by_place t now want w.c who.k who.k.place)) waits

-- ONE CONSUMER THAT WAITS

-- its exchange is headless before and after the entry
module _ (limits : Limits) (t : Tables) (e : Entry) (taken : IsTaken limits t e) (s : Sound t) (one : IsOfOneKey t) (turns : Turns t) (x : ℕ)
    (w : Exchange) (row : t.exchange x ≡ Some w) (headless : is_headless (Some w) ≡ true)
    (stays : is_headless (Some (exchange_acted x e.acts (exchange_heard t e x e.event w))) ≡ true) where
  abbrev it : IsAwaited t x w
  it = turns.awaited x w row headless

  abbrev c : ℕ
  c = w.c

  abbrev k : Consumer
  k = it.k

  -- WHAT DOESN'T HAPPEN TO IT

  at_event : (ev : Event) → e.event ≡ ev → is_headless (Some (exchange_acted x e.acts (exchange_heard t e x ev w))) ≡ true
  at_event ev at = subst (λ z. is_headless (Some (exchange_acted x e.acts (exchange_heard t e x z w))) ≡ true) at stays

  pub not_headed : (y : ℕ) (response : Response) → e.event ≡ event.Head y response → nat_eq y x ≡ true → ⊥
  not_headed y response at here = grind (arith, nat_tests, at_event, and_then)

  pub not_faulted : (y : ℕ) → e.event ≡ event.Fault y → nat_eq y x ≡ true → ⊥
  not_faulted y at here = grind (arith, nat_tests)

  not_closed : closes_in x e.acts ≡ true → ⊥
  not_closed closed = cc

  stays_open_at : (ev : Event) → e.event ≡ ev → (exchange_heard t (seen limits t e taken) x ev w).is_open ≡ true
  stays_open_at ev at = grind (arith, nat_tests, bool_cases, not_headed, is_open_headless, and_then, and_left, at_event)

  -- it needn't be closed
  pub not_must : must_close t (seen limits t e taken) x w ≡ true → ⊥
  not_must must = not_closed (is_closed limits t e taken x w (s.numbered.lists.opened x (ap is_some row)) row must (stays_open_at e.event refl))

  own_is_open : own_open t k ≡ Some x
  own_is_open = awaited_open t s turns x w row headless

  pub not_leaving : leaver (seen limits t e taken) ≡ Some c → ⊥
  not_leaving leaves =
      let mine : is_number (own_open t k) x ≡ true = ap (λ o. is_number o x) own_is_open ∙ eq-refl x in
      not_must (or_right _ (is_left t x (leaver (seen limits t e taken)))
      (ap (is_left t x) leaves ∙ (ap (is_left_by t x c) it.row ∙ or_left (is_number (own_open t k) x) _ mine)))

  -- ITS CONSUMER

  mine : (y : ℕ) (w' : Exchange) → t.exchange y ≡ Some w' → is_headless (Some w') ≡ true → nat_eq w'.c c ≡ true → nat_eq y x ≡ true
  mine y w' row' bare here =
      let a = turns.awaited y w' row' bare in
      let same : a.k ≡ k = same_row (t.consumer c) a.k k (ap t.consumer (sym (eq_is w'.c c here)) ∙ a.row) it.row in
      ap (λ n. nat_eq n x) (some_inj y x (sym a.own ∙ (ap (λ (z : Consumer). z.own) same ∙ it.own))) ∙ eq-refl x

  keeps_if : (b : Bool) (u : Consumer) → (b ≡ true → ⊥) → (if b then u else k) ≡ k
  keeps_if b u never_so = let fails = not_true b never_so in rw fails refl

  head_same : (y : ℕ) (response : Response) (o : Option Exchange) → e.event ≡ event.Head y response → head_refusal (as_open o) ≡ None → t.exchange y ≡ o →
      by_head t e c y response o k ≡ k
  head_same y response None at h row' = refl
  head_same y response (Some w') at h row' = keeps_if (w'.c == c) _ (λ here. not_headed y response at (mine y w' row' (head_opens w' h) here))

  fault_same : (y : ℕ) (o : Option Exchange) → e.event ≡ event.Fault y → fault_refusal (as_open o) ≡ None → t.exchange y ≡ o → by_fault c y o k ≡ k
  fault_same y o at h it4 = grind (arith, nat_tests, keeps_if, not_faulted, mine, fault_opens, and_then, and_left)

  denied_at : (ev : Event) → e.event ≡ ev → denial t ev ≡ None
  denied_at ev at = sym (ap (denial t) at) ∙ (goes limits t e taken.owed taken.not_denied)

  leaver_at : (ev : Event) → e.event ≡ ev → leaver (seen limits t e taken) ≡ leaver_by ev (seen limits t e taken).acts
  leaver_at ev at = ap (λ z. leaver_by z (seen limits t e taken).acts) at

  heard_same : (ev : Event) → e.event ≡ ev → consumer_heard t e c ev k ≡ k
  unfolding refusals.refusal_of
  heard_same (event.Head y response) at = head_same y response (t.exchange y) at (denied_at (event.Head y response) at) refl
  heard_same (event.Fault y) at = fault_same y (t.exchange y) at (denied_at (event.Fault y) at) refl
  heard_same (event.Cancel d) at = keeps_if (d == c) _ (λ here. not_leaving (leaver_at (event.Cancel d) at ∙ ap Some (eq_is d c here)))
  heard_same _ at = refl

  -- WHAT IS SAID TO IT

  -- nothing of the acts moves it
  record IsPut : Type 0 where
    waits : waiting_place t k (wait_in c e.acts) ≡ k.place
    leaves : leaves_in c e.acts ≡ false
    shows : shows_in c e.acts ≡ false
    given : given_in c e.acts ≡ []
    opens : (o : Opening) → opening_in e.acts ≡ Some o → nat_eq o.c c ≡ false
    showing : (z : Showing) → showing_in e.acts ≡ Some z → nat_eq z.c c ≡ false

  put_far : IsFarFrom c e.acts → IsPut
  put_far far = record {
    waits = ap (waiting_place t k) far.waits;
    leaves = far.leaves;
    shows = far.shows;
    given = far.given;
    opens = far.opens;
    showing =
        far.showing;
  }

  put_head : (rest : List Act) → e.acts ≡ act.Pending c (wait.Head x) ∷ rest → IsFarFrom c rest → IsPut
  put_head rest is far = grind (arith, nat_tests)

  put_poll : AtPoll limits t e taken c k → IsPut
  put_poll (facts.moves_on want m at is does all saw) =
      put_head (behind limits t e taken) (all ∙ ap (λ z. acts_of c z ++ behind limits t e taken) (is ∙ polls_head t s turns x w row headless e.now want))
      (far_behind limits t e taken c)
  put_poll (facts.misreads want r at all saw) =
      absurd (not_leaving (leaver_at (event.Poll c want) at ∙ ap leaver_in saw))

  is_put : (ev : Event) → e.event ≡ ev → IsPut
  is_put (event.Poll d want) at = elim (bool_cases (d == c)) [
    | inl here ↦ put_poll (at_poll limits t e taken c want k s turns it.row (at ∙ ap (λ n. event.Poll n want) (eq_is d c here)))
    | inr other ↦ put_far (far_from limits t e taken c (λ want' also.
        let no_one : false ≡ true = sym other ∙ (ap (λ n. nat_eq n c) (ap poller (sym at ∙ also)) ∙ eq-refl c) in
        cc))
  ]
  is_put v at = put_far (far_from limits t e taken c (λ want also. no_poll v want refl (sym at ∙ also)))

  -- ITS OWN

  writer_some : (o : Option ℕ) → is_open_writer t o ≡ true → (y : ℕ) × (o ≡ Some y) × (is_open (t.exchange y) ≡ true)
  writer_some o h = grind (arith, nat_tests)

  written_is : (v : Representation) → is_written t v ≡ true → (not v.is_lost && is_open_writer t v.writer) ≡ true
  unfolding is_written
  written_is v h = h

  -- who has a headless exchange shares no writing
  not_group : (r lo : ℕ) (hi : Option ℕ) (how : BoundBy) (v : Representation) → k.place ≡ place.Bound r lo hi how → t.representation r ≡ Some v →
      is_written t v ≡ true → ⊥
  not_group r lo hi how v at there on =
      let parts = writer_some v.writer (and_then (not v.is_lost) (is_open_writer t v.writer) (written_is v on)) in
      let grows = (s.rows r v there).growing parts.0 on parts.1 in
      let w' = grows.0 in
      let g = grows.1 in
      let writer_group : IsAbout t r parts.0 = sound.headed w' g.row (sym (ap is_open g.row) ∙ parts.2) g.headed g.family_is (ap is_some there) in
      let same : parts.0 ≡ x = s.one_about r parts.0 x writer_group (s.writes.own_about r c x k (sound.is_bound lo hi how it.row at) own_is_open) in
      headed_not w headless (ap (λ (z : Exchange). is_some z.head) (same_row (t.exchange x) w w' row (ap t.exchange (sym same) ∙ g.row)) ∙ g.headed)

  left_same : (r lo : ℕ) (hi : Option ℕ) (how : BoundBy) (own : Option ℕ) (o : Option Representation) → k.place ≡ place.Bound r lo hi how →
      t.representation r ≡ o → left_to t e c r o own ≡ own
  left_same r lo hi how own None at there = refl
  left_same r lo hi how own (Some v) at there =
      let none : loses_group t e r v ≡ false = not_true _ (λ h. not_group r lo hi how v at there (and_then _ (is_written t v) h)) in
      rw none refl

  own_same : (p : Place) (own : Option ℕ) → k.place ≡ p → own_after t e c p own ≡ own
  own_same (place.Bound r lo hi how) own at = left_same r lo hi how own (t.representation r) at refl
  own_same _ own at = refl

  -- IT DOESN'T START OVER

  pub dooms : is_key (doomed_key_of t e) k.request.key ≡ true → is_number (awaited_exchange k.place) x ≡ true → ⊥
  dooms doom waits =
      let key_of = opener_key t x w k one.exchanges row it.row in
      let for_it : is_key (doomed_key_of t (seen limits t e taken)) w.request.key ≡ true =
      ap (λ o. is_key o w.request.key) (sym (same_doom limits t e taken)) ∙ (ap (is_key (doomed_key_of t e)) key_of ∙ doom) in
      let waiting_it : awaits (t.consumer w.c) x ≡ true = ap (λ o. awaits o x) it.row ∙ waits in
      let closes : is_doomed t (seen limits t e taken) x w ≡ true = rw (for_it, headless, waiting_it) refl in
      not_must (or_left _ _ (or_left _ _
      (or_right (is_refused (case_at t (seen limits t e taken)) && brings_head x e.event) (is_doomed t (seen limits t e taken) x w) closes)))

  first_not : (r lo y : ℕ) (hi : Option ℕ) → k.place ≡ place.Bound r lo hi (by.FirstHole y) → k.shown ≡ true → is_headless (t.exchange y) ≡ true → ⊥
  first_not r lo y hi at shown waits =
      let f = turns.first_hole c r lo y hi k it.row at shown in
      grind (arith, nat_tests)

  not_waiting : (r lo : ℕ) (hi : Option ℕ) (how : BoundBy) → k.place ≡ place.Bound r lo hi how → k.shown ≡ true →
      waits_at t (place.Bound r lo hi how) ≡ true → ⊥
  not_waiting r lo hi (by.FirstHole y) at shown waits = first_not r lo y hi at shown waits
  not_waiting r lo hi _ at shown waits = let no_one : false ≡ true = waits in cc

  not_doomed : (way : Route) → StandsFor x k way → is_key (doomed_key_of t e) k.request.key ≡ true → waits_at t k.place ≡ true → ⊥
  not_doomed _ (laws.direct at) doom waits = let no_one : false ≡ true = sym (ap (waits_at t) at) ∙ waits in cc
  not_doomed _ (laws.has_turn at unshown) doom waits = dooms doom (ap (λ p. is_number (awaited_exchange p) x) at ∙ eq-refl x)
  not_doomed _ (laws.first r lo hi at unshown) doom waits = dooms doom (ap (λ p. is_number (awaited_exchange p) x) at ∙ eq-refl x)
  not_doomed _ (laws.later r lo hi how at shown) doom waits = not_waiting r lo hi how at shown (sym (ap (waits_at t) at) ∙ waits)

  sent_row : (y : ℕ) (response : Response) (o : Option Exchange) → e.event ≡ event.Head y response → head_refusal (as_open o) ≡ None → t.exchange y ≡ o →
      is_for o c ≡ true → ⊥
  sent_row y response None at h row' for_it = let no_one : false ≡ true = for_it in cc
  sent_row y response (Some w') at h row' for_it = not_headed y response at (mine y w' row' (head_opens w' h) for_it)

  no_case : (b : Bool) (ev : Event) → ((y : ℕ) (response : Response) → ev ≡ event.Head y response → ⊥) → sends_back (case_of t b ev) ≡ false
  unfolding case_of
  no_case b ev other = grind (arith, nat_tests)

  not_sent : (ev : Event) → e.event ≡ ev → (sends_back (case_of t (has_loss e.acts) ev) && is_for (exchange_at t ev) c) ≡ true → ⊥
  unfolding refusals.refusal_of
  not_sent (event.Head y response) at h =
      sent_row y response (t.exchange y) at (denied_at (event.Head y response) at) refl (and_then _ (is_for (t.exchange y) c) h)
  not_sent (event.Piece y bytes) at h = grind (arith, nat_tests, no_case, heads, and_left)
  not_sent (event.End y) at h = grind (arith, nat_tests, no_case, heads, and_left)
  not_sent (event.Fault y) at h = grind (arith, nat_tests, no_case, heads, and_left)
  not_sent _ at h = let no_one : false ≡ true = and_then _ false h in cc

  loses_none : (way : Route) → StandsFor x k way → loses_what_it_waits_for t e c k.place ≡ false
  loses_none way it1 = grind (arith, nat_tests)

  all_false : (a b d : Bool) → a ≡ false → b ≡ false → d ≡ false → (a || b || d) ≡ false
  all_false a b d p q z = rw (p, q, z) refl

  not_over : starts_over t e c k ≡ false
  unfolding starts_over
  not_over =
      all_false (is_key (doomed_key_of t e) k.request.key && waits_at t k.place) (sends_back (case_at t e) && is_for (exchange_at t e.event) c)
      (loses_what_it_waits_for t e c k.place)
      (not_true _ (λ h. not_doomed (route_of w.need) it.stands (and_left _ _ h) (and_then _ _ h)))
      (not_true _ (λ h. not_sent e.event refl h))
      (loses_none (route_of w.need) it.stands)

  -- AFTER THE ENTRY

  -- it stands where it stood
  pub record IsSameStand (z : Consumer) : Type 0 where
    pub place : z.place ≡ k.place
    pub own : z.own ≡ k.own
    pub shown : z.shown ≡ k.shown
    pub given : z.given ≡ k.given
    pub request : z.request ≡ k.request

  opening_far : (o : Option Opening) (q : Consumer) → opening_in e.acts ≡ o → IsPut → by_opening t c o q ≡ q
  opening_far o q is put = grind (arith, nat_tests)

  showing_far : (o : Option Showing) (p : Place) → showing_in e.acts ≡ o → IsPut → shown_place c o p ≡ p
  showing_far o p is put = grind (arith, nat_tests)

  acted_same : IsSameStand (consumer_acted t e c k)
  acted_same =
      let put = is_put e.event refl in
      let q : by_opening t c (opening_in e.acts) (waiting t e c k) ≡ waiting t e c k = opening_far (opening_in e.acts) (waiting t e c k) refl put in
      let at : (by_opening t c (opening_in e.acts) (waiting t e c k)).place ≡ k.place = ap (λ (z : Consumer). z.place) q ∙ put.waits in
      record {
        place = rw put.leaves (showing_far (showing_in e.acts) _ refl put ∙ at);
        own = own_same k.place _ refl ∙ ap (λ (z : Consumer). z.own) q;
        shown = ap (λ b. b || (by_opening t c (opening_in e.acts) (waiting t e c k)).shown) put.shows ∙ ap (λ (z : Consumer). z.shown) q;
        given = ap (λ (bytes : List ℕ). (by_opening t c (opening_in e.acts) (waiting t e c k)).given + length bytes) put.given ∙
            (plus_none _ ∙ ap (λ (z : Consumer). z.given) q);
        request = ap (λ (z : Consumer). z.request) q;
      }

  settled_same : (b : Bool) (q : Consumer) → b ≡ false → IsSameStand q → IsSameStand (if b then back_in_line e.now q else due_after t e c k q)
  settled_same b q h same = grind (arith, nat_tests)

  pub after_same : (z : Consumer) × (consumer_after t e c (t.consumer c) ≡ Some z) × IsSameStand z
  unfolding consumer_after
  after_same =
      let q = consumer_acted t e c (consumer_heard t e c e.event k) in (
        consumer_settled t e c k q,
        ap (consumer_after t e c) it.row,
        settled_same (starts_over t e c k) q not_over (subst (λ z. IsSameStand (consumer_acted t e c z)) (sym (heard_same e.event refl)) acted_same),
      )

  stands_same : (z : Consumer) (way : Route) → IsSameStand z → StandsFor x k way → StandsFor x z way
  stands_same z _ same (laws.direct at) = laws.direct (same.place ∙ at)
  stands_same z _ same (laws.has_turn at unshown) = laws.has_turn (same.place ∙ at) (same.shown ∙ unshown)
  stands_same z _ same (laws.first r lo hi at unshown) = laws.first r lo hi (same.place ∙ at) (same.shown ∙ unshown)
  stands_same z _ same (laws.later r lo hi how at shown) = laws.later r lo hi how (same.place ∙ at) (same.shown ∙ shown)

  pub stands_on : (z : Consumer) × (consumer_after t e c (t.consumer c) ≡ Some z) × (z.own ≡ Some x) × StandsFor x z (route_of w.need)
  stands_on = grind (arith, nat_tests, after_same, stands_same)
