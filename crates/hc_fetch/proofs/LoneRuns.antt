-- The first consumer stays alone, and where it is free nothing is current, until it is shown a head.
--
-- By a poll it is shown a head, waits for one, or opens an exchange for what is missed (`lone_move`). By an entry it
-- stands where it stood, or the head of its exchange binds it or puts it past the store, or it starts over, which it
-- does where it was free (`place_after`). So where it is free after an entry it was before, and nothing was founded
-- (`free_before`): what is current stays or goes.
use Rattle.std.{proofs.Common.{◌≡◌, ◌⊎◌, inl, inr, ℕ, ◌+◌, ◌<◌, ◌^◌, List, Bool, true, false, Option, Some, None, refl, ap, sym, ◌∙◌, subst}, specs.{Prelude.{◌==◌, ◌&&◌, ◌||◌, not, nat_eq, nat_le, is_none, is_some, if◌then◌else◌}, Option.{option_and_then, option_or}}}
use Rattle.hc_text.proofs.Basics.{and_left, and_right, bool_cases, either, not_some as none_some, or_cases, some_inj, eq_is as status_is}
use Rattle.hc_effects.proofs.Vocabulary.{brings_part, brings_whole, Opening, opening_in, leaves_in, shows_in, Cause, Need, Wait, Why, Event, Request, Response, BoundBy, Place, content_range_of, HeadCase, HeadView, Wanted, Limits, head_case, turn_case, case_on, fits_to_found, fits_part, length_of, is_bad, route_of, is_disabled, is_only, is_bypassing, range_of, wanted_of, Showing, showing_in, wait_in, has_loss, Aims, case_at, case_of, head_view, is_founding, fits_asker, bound_to_wanted, place_by_case, consumer_heard, by_head, by_fault, waiting_place, waiting, opened_place, unless_bound, by_opening, shown_place, consumer_acted, consumer_settled, consumer_made, consumer_after, current, denial, doomed_key_of, doomed_in, is_key, Entry, is_headless, exchange_at, is_for, flaw_in, founded_total, total_of_part, Move, Nothing, Opens, Shows, Fails, shows_stored, IsPast, IsAwaiting, Passed, move_of, shows_head, shows_at, shows_bound, shows_direct, shows_answer, has_joined, or_else, waits_for_head, if_headless, by_place, own_open, bound_to, Tables, Exchange, Representation, Consumer, new_representation, length_in, starts_over, waits_at, sends_back, loses_what_it_waits_for, after_accepted, after_denied, cause, need, wait, event, place, range, case, wanted}
use Rattle.hc_event.specs.declared.place.BoundBy.TheVariants as by
use Rattle.hc_range.specs.declared.range.{RangeSpec.{RangeSpec}, ContentRange.{ContentRange}}
use Rattle.hc_model.specs.Moves as moves
use Rattle.hc_model.specs.Owners as owners
use Rattle.hc_effects.proofs.{BoundFrom.{place_inj}, Basics.{some_none, false_true, true_false, some_row}, ExchangeFrom.{IsHeaded, ExchangeFrom, exchange_from}, FirstKeeps.{case_is, is_new}, MoveBy.{MoveBy, IsHeard, move_by}, Owed.{acts_are, goes}, RepFrom.{RepFrom, rep_from}, Said.{shows_it, IsOpening, WaitsAs, opening_by, waiting_by}, ShownOnce.{is_showing}, Standing.{current_stays}, ReportedNumbers.{founded_early}, TurnPlaces.{is_after}}
use Rattle.hc_effects.proofs.ExchangeFrom as exchange
use Rattle.hc_effects.proofs.MoveBy as by_move
use Rattle.hc_effects.proofs.RepFrom as rep
use Rattle.hc_effects.proofs.Said as said
use Rattle.hc_laws.proofs.{TurnFacts.{IsTaken}, SoundRuns.{IsCarried}, CoversNew.{head_inj}}
use Rattle.hc_fetch.specs.{declared.plan.FetchPlan.{FetchPlan}, Bounds.{IsPlan}, Deciding.{is_foreign}, Plans.{first_fields, request_of}}
use Rattle.hc_fetch.proofs.Lone.{IsFirstRange, first_range, wanted_first, turn_is, cached, asks_origin, plain, planned}
use Rattle.hc_rules.proofs.Statuses.{whole_or_part}

-- it reads nothing, and its plan is still to be made or its head to come
abbrev pub is_free : Place → Bool
is_free place.Line = true
is_free (place.Passed r kept) = true
is_free (place.Turn x) = true
is_free _ = false

abbrev is_out : Place → Bool
is_out (place.Down why) = true
is_out place.Over = true
is_out _ = false

-- it was founded with a part, for a range, of a whole whose length was told
pub record IsPart (t : Tables) (v : Representation) : Type 0 where
  pub n : ℕ
  pub total : v.head.total ≡ Some n
  pub small : n < 2 ^ 62
  pub ranged : (k : Consumer) → t.consumer 1 ≡ Some k → is_some (range_of k.request) ≡ true

-- the first consumer is the only one, was shown nothing, asks for what is missed, and while it is free nothing is current for its key
pub record IsLone (p : FetchPlan) (t : Tables) : Type 0 where
  pub only : (c : ℕ) (k : Consumer) → t.consumer c ≡ Some k → c ≡ 1
  pub asks : (k : Consumer) → t.consumer 1 ≡ Some k → k.request ≡ request_of p (first_fields p)
  pub unshown : (k : Consumer) → t.consumer 1 ≡ Some k → k.shown ≡ false
  pub misses : (x : ℕ) (w : Exchange) → t.exchange x ≡ Some w → w.need ≡ need.Miss
  pub nothing : (k : Consumer) → t.consumer 1 ≡ Some k → is_free k.place ≡ true → current t k.request.key ≡ None
  pub good : (x : ℕ) (k : Consumer) (w : Exchange) (response : Response) → t.consumer 1 ≡ Some k → k.place ≡ place.Direct x → t.exchange x ≡ Some w →
      w.head ≡ Some response
      → is_bad (length_of w.need w.request response) ≡ false
  pub first : (k : Consumer) (r lo : ℕ) (hi : Option ℕ) (how : BoundBy) → t.consumer 1 ≡ Some k → k.place ≡ place.Bound r lo hi how → lo ≡ 0
  pub parts : (r : ℕ) (v : Representation) → t.representation r ≡ Some v → brings_part v.head.status ≡ true → IsPart t v

-- A HEAD THAT IS SHOWN

data IsHead : Move → Type 0 where
  no_head : IsHead Nothing
  a_head : (r : ℕ) (why : Why) (head : Response) (lo : ℕ) (hi : Option ℕ) → IsHead (Shows r why head lo hi)

stored_head : (r : ℕ) (why : Why) (ranged : Bool) (lo : ℕ) (hi : Option ℕ) (o : Option Representation) → IsHead (shows_stored r why ranged lo hi o)
stored_head r why ranged lo hi None = no_head
stored_head r why ranged lo hi (Some v) = a_head r why _ lo hi

is_head : (a m : Move) → IsHead a → Some a ≡ Some m → IsHead m
is_head a m h is = subst IsHead (some_inj a m is) h

module _ (t : Tables) (k : Consumer) (m : Move) where
  answer_head : (x : ℕ) (w : Exchange) (o : Option Response) → shows_answer t x w o ≡ Some m → IsHead m
  answer_head x w None is = absurd (none_some m is)
  answer_head x w (Some response) is = is_head _ m (a_head x _ response _ _) is

  direct_head : (x : ℕ) (o : Option Exchange) → shows_direct t x o ≡ Some m → IsHead m
  direct_head x None is = absurd (none_some m is)
  direct_head x (Some w) is = answer_head x w w.head is

  bound_head : (r lo : ℕ) (hi : Option ℕ) (how : BoundBy) → shows_bound t k r lo hi how ≡ Some m → IsHead m
  bound_head r lo hi by.Founding is = is_head _ m (stored_head r _ _ lo hi (t.representation r)) is
  bound_head r lo hi (by.FirstHole y) is = elim (bool_cases (has_joined (t.exchange y))) [
    | inl joined ↦ is_head _ m (stored_head r _ _ lo hi (t.representation r)) (rw joined at is)
    | inr off ↦ absurd (none_some m (rw off at is))
  ]
  bound_head r lo hi by.Plan is = absurd (none_some m is)

  head_at : (q : Place) → shows_at t k q ≡ Some m → IsHead m
  head_at place.Line is = absurd (none_some m is)
  head_at (place.Passed r kept) is = absurd (none_some m is)
  head_at (place.Turn x) is = absurd (none_some m is)
  head_at (place.Bound r lo hi how) is = bound_head r lo _ how is
  head_at (place.Direct x) is = direct_head x (t.exchange x) is
  head_at (place.Down why) is = absurd (none_some m is)
  head_at place.Over is = absurd (none_some m is)

-- THE CASE OF A HEAD THAT WAS MISSED

data IsMissCase (v : HeadView) : HeadCase → Type 0 where
  refused : IsMissCase v case.TurnBad
  server_error : v.bad ≡ false → IsMissCase v case.TurnServerError
  founds_whole : brings_whole v.status ≡ true → IsMissCase v case.FoundsWhole
  founds_part : v.bad ≡ false → brings_part v.status ≡ true → v.fits ≡ true → IsMissCase v case.FoundsRange
  passes_by : v.bad ≡ false → IsMissCase v case.PassesBy

turn_miss : (v : HeadView) → v.conditional ≡ false → IsMissCase v (turn_case v)
turn_miss v plain =
    either (IsMissCase v) v.bad case.TurnBad _ (λ on. refused) (λ good.
    either (IsMissCase v) (v.status == 304 && v.conditional && v.selects && not v.lost) case.Validated _
    (λ on. absurd (true_false (sym (and_right (v.status == 304) v.conditional (and_left _ v.selects (and_left _ (not v.lost) on))) ∙ plain))) (λ other.
    either (IsMissCase v) (v.status == 304 && v.conditional) case.NotValidated _
    (λ on. absurd (true_false (sym (and_right (v.status == 304) v.conditional on) ∙ plain))) (λ unasked.
    either (IsMissCase v) (nat_le 500 v.status) case.TurnServerError _ (λ on. server_error good) (λ low.
    either (IsMissCase v) (brings_whole v.status && v.storable && not v.lost) case.FoundsWhole _
    (λ on. founds_whole (and_left (brings_whole v.status) v.storable (and_left _ (not v.lost) on))) (λ another.
    either (IsMissCase v) (brings_part v.status && v.storable && v.fits && not v.lost) case.FoundsRange case.PassesBy
    (λ on. founds_part good (and_left (brings_part v.status) v.storable (and_left _ v.fits (and_left _ (not v.lost) on)))
    (and_right _ v.fits (and_left _ (not v.lost) on))) (λ on. passes_by good))))))

miss_case : (v : HeadView) → v.need ≡ need.Miss → v.conditional ≡ false → IsMissCase v (head_case v)
unfolding head_case
miss_case v is plain = subst (IsMissCase v) (sym (ap (λ (n : Need). case_on (route_of n) v) is)) (turn_miss v plain)

-- OPENING AND WAITING

abbrev is_opening : Move → Bool
is_opening (Opens x n request) = true
is_opening _ = false

opening_is : (o : Opening) (m : Move) → IsOpening o m → is_opening m ≡ true
opening_is o _ said.opens = refl

opened_need : (o : Opening) (m : Move) → IsOpening o m → (x : ℕ) (n : Need) (request : Request) → m ≡ Opens x n request → o.need ≡ n
opened_need o _ said.opens x n request is = cc

abbrev is_for_others : Wait → Bool
is_for_others (wait.Turn d) = true
is_for_others (wait.Busy d) = true
is_for_others _ = false

abbrev is_behind : Move → Bool
is_behind (moves.Waits z) = is_for_others z
is_behind _ = false

behind_is : (z : Wait) (m : Move) → WaitsAs z m → is_for_others z ≡ is_behind m
behind_is z _ said.waits = refl
behind_is z _ (said.asks x is) = ap is_for_others is
behind_is z _ (said.opens x n request is) = ap is_for_others is

-- nothing is founded but by the head of an exchange that is there
unfounded_head : (t : Tables) (e : Entry) (x : ℕ) (response : Response) → e.event ≡ event.Head x response → t.exchange x ≡ None →
    is_founding (case_at t e) ≡ false
unfolding case_of
unfounded_head t e x response at none = ap (λ (v : Event). is_founding (case_of t (has_loss e.acts) v)) at ∙ rw none refl

abbrev is_head_event : Event → Bool
is_head_event (event.Head x response) = true
is_head_event _ = false

unfounded_by : (t : Tables) (lost : Bool) (v : Event) → is_head_event v ≡ false → is_founding (case_of t lost v) ≡ false
unfolding case_of
unfounded_by t lost (event.Head x response) is = absurd (true_false is)
unfounded_by t lost (event.Start d request) is = refl
unfounded_by t lost (event.Poll d want) is = refl
unfounded_by t lost (event.Piece x bytes) is = refl
unfounded_by t lost (event.End x) is = refl
unfounded_by t lost (event.Fault x) is = refl
unfounded_by t lost (event.Cancel d) is = refl
unfounded_by t lost (event.Doom key) is = refl

unfounded : (t : Tables) (e : Entry) (v : Event) → e.event ≡ v → is_head_event v ≡ false → is_founding (case_at t e) ≡ false
unfounded t e v at is = ap (λ (z : Event). is_founding (case_of t (has_loss e.acts) z)) at ∙ unfounded_by t (has_loss e.acts) v is

-- ONE ENTRY

module _ (limits : Limits) (p : FetchPlan) (plan_is : IsPlan p) (t : Tables) (e : Entry) (owed : IsTaken limits t e) (c : IsCarried t) (aims : Aims t)
    (passed : Passed t) (l : IsLone p t) (k : Consumer) (row : t.consumer 1 ≡ Some k) where
  not_passed : (r : ℕ) (kept : Option ℕ) → k.place ≡ place.Passed r kept → ⊥
  not_passed r kept at = none_some r (sym (l.nothing k row (ap is_free at)) ∙ (passed.waits 1 r kept k row at).current_is)

  pub not_first : (r lo y : ℕ) (hi : Option ℕ) → k.place ≡ place.Bound r lo hi (by.FirstHole y) → ⊥
  not_first r lo y hi at =
      let f = c.is_owned.first_own 1 r lo y hi k row at in
      none_some r (sym (aims.missed y f.w f.row (l.misses y f.w f.row)) ∙ aims.first 1 r lo y hi k f.w row at f.row)

  plans_it : is_free k.place ≡ true → Rattle.hc_model.specs.Planning.planned_move t e.now 1 k ≡ Opens (t.opened + 1) need.Miss k.request
  plans_it free =
      planned t e.now k (l.nothing k row free) (turn_is t k.request.key l.only) (ap is_disabled (l.asks k row) ∙ cached p plan_is)
      (ap is_only (l.asks k row) ∙ asks_origin p plan_is)
      (ap is_bypassing (l.asks k row) ∙ plain p plan_is)

  -- what it does by a poll
  data LoneMove : Move → Type 0 where
    shows : (m : Move) → IsHead m → shows_at t k k.place ≡ Some m → LoneMove m
    waits : (x : ℕ) → LoneMove (moves.Waits (wait.Head x))
    fails : (why : Cause) → LoneMove (Fails why)
    nothing : LoneMove Nothing
    fetches : is_free k.place ≡ true → LoneMove (Opens (t.opened + 1) need.Miss k.request)

  past_shown : (x : ℕ) → IsPast t x k → shows_direct t x (t.exchange x) ≡ None → IsHeard t k → ⊥
  past_shown x (owners.answered w there some) none heard =
      let r = some_row w.head some in
      some_none _ (sym (ap (shows_answer t x w) r.1) ∙ (sym (ap (shows_direct t x) there) ∙ none))
  past_shown x (owners.waits w own there on bare) none heard =
      let open_is : own_open t k ≡ Some x = rw (own, there, on) refl in
      let headless : is_headless (t.exchange x) ≡ true = rw (there, on, bare) refl in
      let never : Some x ≡ None = rw (open_is, headless) at heard in
      some_none x never

  plans_at : (q : Place) → k.place ≡ q → is_out q ≡ false → bound_to k.place ≡ None → shows_at t k k.place ≡ None → IsHeard t k → is_free k.place ≡ true
  plans_at place.Line at out free none heard = ap is_free at
  plans_at (place.Passed r kept) at out free none heard = ap is_free at
  plans_at (place.Turn x) at out free none heard = ap is_free at
  plans_at (place.Bound r lo hi how) at out free none heard = absurd (some_none r (sym (ap bound_to at) ∙ free))
  plans_at (place.Direct x) at out free none heard =
      absurd (past_shown x (c.is_owned.past 1 x k row at (l.unshown k row)) (sym (ap (shows_at t k) at) ∙ none) heard)
  plans_at (place.Down why) at out free none heard = absurd (true_false out)
  plans_at place.Over at out free none heard = absurd (true_false out)

  from_move : (want : ℕ) (m : Move) → is_out k.place ≡ false → MoveBy t e.now want 1 k m → LoneMove m
  from_move want m out (by_move.shows _ unshown at) = shows m (head_at t k m k.place at) at
  from_move want _ out (by_move.waits x own bare) = waits x
  from_move want _ out (by_move.down why at) = fails why
  from_move want _ out (by_move.over at) = nothing
  from_move want _ out (by_move.reads on heard) = absurd (true_false (sym on ∙ l.unshown k row))
  from_move want _ out (by_move.plans unshown free none heard) = let fr = plans_at k.place refl out free none heard in
      subst LoneMove (sym (plans_it fr)) (fetches fr)

  waits_or : (o : Option ℕ) (m : Move) → LoneMove m → LoneMove (or_else (waits_for_head o) m)
  waits_or None m is = is
  waits_or (Some x) m is = waits x

  move_in : (want : ℕ) → is_out k.place ≡ false → LoneMove (move_of t e.now want 1 k)
  move_in want out = from_move want (move_of t e.now want 1 k) out (move_by t e.now want 1 k c.is_sound row)

  -- who is out is shown nothing
  move_out : (want : ℕ) (q : Place) → k.place ≡ q → shows_at t k q ≡ None → LoneMove (by_place t e.now want 1 k q) → LoneMove (move_of t e.now want 1 k)
  move_out want q at none is =
      let heads : shows_head t k ≡ None = ap (λ b. if b then None else shows_at t k k.place) (l.unshown k row) ∙ (ap (shows_at t k) at ∙ none) in
      let waiting_for = option_and_then (if_headless t) (own_open t k) in
      let same : move_of t e.now want 1 k ≡ or_else (waits_for_head waiting_for) (by_place t e.now want 1 k q) =
      ap (λ o. or_else o (or_else (waits_for_head waiting_for) (by_place t e.now want 1 k k.place))) heads ∙
      ap (λ z. or_else (waits_for_head waiting_for) (by_place t e.now want 1 k z)) at in
      subst LoneMove (sym same) (waits_or waiting_for (by_place t e.now want 1 k q) is)

  move_at : (want : ℕ) (q : Place) → k.place ≡ q → LoneMove (move_of t e.now want 1 k)
  move_at want (place.Down why) at = move_out want (place.Down why) at refl (fails why)
  move_at want place.Over at = move_out want place.Over at refl nothing
  move_at want place.Line at = move_in want (ap is_out at)
  move_at want (place.Passed r kept) at = move_in want (ap is_out at)
  move_at want (place.Turn x) at = move_in want (ap is_out at)
  move_at want (place.Bound r lo hi how) at = move_in want (ap is_out at)
  move_at want (place.Direct x) at = move_in want (ap is_out at)

  lone_move : (want : ℕ) → LoneMove (move_of t e.now want 1 k)
  lone_move want = move_at want k.place refl

  -- it opens what is missed, where it is free, and waits for no other consumer
  opens_as : (m : Move) → LoneMove m → is_opening m ≡ true → (m ≡ Opens (t.opened + 1) need.Miss k.request) × (is_free k.place ≡ true)
  opens_as _ (shows _ no_head at) op = absurd (false_true op)
  opens_as _ (shows _ (a_head r why head lo hi) at) op = absurd (false_true op)
  opens_as _ (waits x) op = absurd (false_true op)
  opens_as _ (fails why) op = absurd (false_true op)
  opens_as _ nothing op = absurd (false_true op)
  opens_as _ (fetches free) op = (refl, free)

  shown_by_move : (z : Move) → LoneMove z → (m : Move) → z ≡ m → is_showing m ≡ true → shows_at t k k.place ≡ Some m
  shown_by_move z (shows _ head at) m is on = at ∙ ap Some is
  shown_by_move _ (waits x) m is on = absurd (false_true (ap is_showing is ∙ on))
  shown_by_move _ (fails why) m is on = absurd (false_true (ap is_showing is ∙ on))
  shown_by_move _ nothing m is on = absurd (false_true (ap is_showing is ∙ on))
  shown_by_move _ (fetches free) m is on = absurd (false_true (ap is_showing is ∙ on))

  alone : (m : Move) → LoneMove m → is_behind m ≡ false
  alone _ (shows _ no_head at) = refl
  alone _ (shows _ (a_head r why head lo hi) at) = refl
  alone _ (waits x) = refl
  alone _ (fails why) = refl
  alone _ nothing = refl
  alone _ (fetches free) = refl

  -- what it is shown stands where it stands
  pub shown_at : (want : ℕ) (m : Move) → move_of t e.now want 1 k ≡ m → is_showing m ≡ true → shows_at t k k.place ≡ Some m
  shown_at want m is on = shown_by_move (move_of t e.now want 1 k) (lone_move want) m is on

  -- THE ACTS

  acts : e.acts ≡ Rattle.hc_model.specs.Answers.accepted_acts limits t e.now e.event (flaw_in e.acts)
  acts = acts_are limits t e owed.owed owed.not_denied

  going : denial t e.event ≡ None
  going = goes limits t e owed.owed owed.not_denied

  same_row : (d : ℕ) (q : Consumer) → t.consumer d ≡ Some q → q ≡ k
  same_row d q there = some_inj q k (sym there ∙ (ap t.consumer (l.only d q there) ∙ row))

  pub record IsMissed (o : Opening) : Type 0 where
    pub need_is : o.need ≡ need.Miss
    pub free : is_free k.place ≡ true
    pub want : ℕ
    pub polled : e.event ≡ event.Poll 1 want

  pub opens_missed : (o : Opening) → opening_in e.acts ≡ Some o → IsMissed o
  opens_missed o is =
      let by = opening_by limits t e.now (flaw_in e.acts) c.is_sound e.event going o (sym (ap opening_in acts) ∙ is) in
      let one : o.c ≡ 1 = l.only o.c by.k by.poll.row in
      let same : by.k ≡ k = same_row o.c by.k by.poll.row in
      let move : IsOpening o (move_of t e.now by.want 1 k) =
      subst (λ (q : Consumer). IsOpening o (move_of t e.now by.want 1 q)) same (subst (λ n. IsOpening o (move_of t e.now by.want n by.k)) one by.move) in
      let made = opens_as (move_of t e.now by.want 1 k) (lone_move by.want) (opening_is o _ move) in
      record {
        need_is = opened_need o _ move (t.opened + 1) need.Miss k.request made.0;
        free = made.1;
        want = by.want;
        polled = by.poll.at ∙
            ap (λ n. event.Poll n by.want) one;
      }

  waits_own : (z : Wait) → wait_in 1 e.acts ≡ Some z → is_for_others z ≡ false
  waits_own z is =
      let by = waiting_by limits t e.now (flaw_in e.acts) c.is_sound e.event going 1 z (sym (ap (wait_in 1) acts) ∙ is) in
      let same : by.k ≡ k = same_row 1 by.k by.poll.row in
      let move : WaitsAs z (move_of t e.now by.want 1 k) = subst (λ (q : Consumer). WaitsAs z (move_of t e.now by.want 1 q)) same by.move in
      behind_is z _ move ∙ alone (move_of t e.now by.want 1 k) (lone_move by.want)

  -- WHERE IT STANDS

  abbrev off : Type 0
  off = is_founding (case_at t e) ≡ false

  abbrev BeginsFirst : Place → Type 0
  BeginsFirst q = (r lo : ℕ) (hi : Option ℕ) (how : BoundBy) → q ≡ place.Bound r lo hi how → lo ≡ 0

  data PlaceAfter (q : Place) : Type 0 where
    as_before : q ≡ k.place → off → PlaceAfter q
    turns : is_free k.place ≡ true → off → ((x : ℕ) → q ≡ place.Direct x → ⊥) → BeginsFirst q → PlaceAfter q
    reads_now : is_free q ≡ false → ((x : ℕ) → q ≡ place.Direct x → ⊥) → BeginsFirst q → PlaceAfter q
    goes_past : (x : ℕ) (response : Response) (w : Exchange) → e.event ≡ event.Head x response → t.exchange x ≡ Some w →
        is_bad (length_of w.need w.request response) ≡ false → q ≡ place.Direct x → PlaceAfter q

  turn_direct : (x y : ℕ) → place.Turn x ≡ place.Direct y → ⊥
  turn_direct x y is = cc

  line_direct : (y : ℕ) → place.Line ≡ place.Direct y → ⊥
  line_direct y is = cc

  bound_apart : (r lo : ℕ) (hi : Option ℕ) (how : BoundBy) (x : ℕ) → place.Bound r lo hi how ≡ place.Direct x → ⊥
  bound_apart r lo hi how x is = cc

  down_apart : (why : Cause) (x : ℕ) → place.Down why ≡ place.Direct x → ⊥
  down_apart why x is = cc

  over_apart : (x : ℕ) → place.Over ≡ place.Direct x → ⊥
  over_apart x is = cc

  line_first : BeginsFirst place.Line
  line_first r lo hi how is = absurd (let no : place.Line ≡ place.Bound r lo hi how = is in cc)

  turn_first : (x : ℕ) → BeginsFirst (place.Turn x)
  turn_first x r lo hi how is = absurd (let no : place.Turn x ≡ place.Bound r lo hi how = is in cc)

  down_first : (why : Cause) → BeginsFirst (place.Down why)
  down_first why r lo hi how is = absurd (let no : place.Down why ≡ place.Bound r lo hi how = is in cc)

  over_first : BeginsFirst place.Over
  over_first r lo hi how is = absurd (let no : place.Over ≡ place.Bound r lo hi how = is in cc)

  is_bound : (r lo : ℕ) (hi : Option ℕ) (how : BoundBy) → lo ≡ 0 → PlaceAfter (place.Bound r lo hi how)
  is_bound r lo hi how first = reads_now refl (bound_apart r lo hi how) (λ q a b d is. sym (place_inj r lo hi how q a b d is).from ∙ first)

  -- what is said of a head of the first consumer's exchange
  of_case : (x : ℕ) (response : Response) (w : Exchange) → e.event ≡ event.Head x response → t.exchange x ≡ Some w → (g : HeadCase) →
      IsMissCase (head_view t (has_loss e.acts) w response) g → PlaceAfter (place_by_case x response w k (Some g))
  of_case x response w at there _ refused = reads_now refl (down_apart (cause.BadHead x)) (down_first (cause.BadHead x))
  of_case x response w at there _ (server_error good) = goes_past x response w at there good refl
  of_case x response w at there _ (founds_whole status) = is_bound x 0 _ by.Founding refl
  of_case x response w at there _ (founds_part good status fits) = by_wanted (wanted_of (range_of k.request) (founded_total w response)) refl
    where
      by_wanted : (z : Wanted) → wanted_of (range_of k.request) (founded_total w response) ≡ z → PlaceAfter (bound_to_wanted x by.Founding (place.Direct x) z)
      by_wanted (wanted.Interval span) is =
          is_bound x span.lo (Some span.hi) by.Founding
          (wanted_first (range_of k.request) (founded_total w response) span (subst IsFirstRange (sym (ap range_of (l.asks k row))) (first_range p plan_is)) is)
      by_wanted wanted.TotalUnknown is = goes_past x response w at there good refl
      by_wanted wanted.Unsatisfiable is = goes_past x response w at there good refl
  of_case x response w at there _ (passes_by good) = goes_past x response w at there good refl

  miss_is : (x : ℕ) (response : Response) (w : Exchange) → t.exchange x ≡ Some w →
      IsMissCase (head_view t (has_loss e.acts) w response) (head_case (head_view t (has_loss e.acts) w response))
  miss_is x response w there = let miss = l.misses x w there in miss_case (head_view t (has_loss e.acts) w response) miss (rw miss refl)

  of_head : (x : ℕ) (response : Response) (o : Option Exchange) → e.event ≡ event.Head x response → t.exchange x ≡ o →
      PlaceAfter (by_head t e 1 x response o k).place
  of_head x response None at there = as_before refl (unfounded_head t e x response at there)
  of_head x response (Some w) at there =
      let op = c.is_owned.opener x w there in
      let mine : w.c ≡ 1 = l.only w.c op.k op.row in
      let test : nat_eq w.c 1 ≡ true = rw mine refl in
      rw (test, case_is t e x response w at there)
      (of_case x response w at there (head_case (head_view t (has_loss e.acts) w response)) (miss_is x response w there))

  of_fault : (x : ℕ) (o : Option Exchange) → off → PlaceAfter (by_fault 1 x o k).place
  of_fault x None still = as_before refl still
  of_fault x (Some w) still = elim (bool_cases (w.c == 1 && is_none w.head && not k.shown)) [
    | inl here ↦ rw here (reads_now refl (down_apart (cause.Net x)) (down_first (cause.Net x)))
    | inr other ↦ rw other (as_before refl still)
  ]

  heard_place : (v : Event) → e.event ≡ v → PlaceAfter (consumer_heard t e 1 v k).place
  heard_place (event.Start d request) at = as_before refl (unfounded t e _ at refl)
  heard_place (event.Poll d want) at = as_before refl (unfounded t e _ at refl)
  heard_place (event.Head x response) at = of_head x response (t.exchange x) at refl
  heard_place (event.Piece x bytes) at = as_before refl (unfounded t e _ at refl)
  heard_place (event.End x) at = as_before refl (unfounded t e _ at refl)
  heard_place (event.Fault x) at = of_fault x (t.exchange x) (unfounded t e _ at refl)
  heard_place (event.Cancel d) at = elim (bool_cases (d == 1)) [
    | inl here ↦ rw here (reads_now refl over_apart over_first)
    | inr other ↦ rw other (as_before refl (unfounded t e _ at refl))
  ]
  heard_place (event.Doom key) at = as_before refl (unfounded t e _ at refl)

  abbrev h : Consumer
  h = consumer_heard t e 1 e.event k

  waited_by : (o : Option Wait) → wait_in 1 e.acts ≡ o → PlaceAfter (waiting_place t h o)
  waited_by None is = heard_place e.event refl
  waited_by (Some (wait.Head x)) is = heard_place e.event refl
  waited_by (Some (wait.Body x)) is = heard_place e.event refl
  waited_by (Some (wait.Turn d)) is = absurd (true_false (waits_own (wait.Turn d) is))
  waited_by (Some (wait.Busy d)) is = absurd (true_false (waits_own (wait.Busy d) is))

  abbrev w1 : Consumer
  w1 = waiting t e 1 h

  turned : (o : Opening) → opening_in e.acts ≡ Some o → PlaceAfter (opened_place t o.x w1 (route_of o.need))
  turned o is = let m = opens_missed o is in rw m.need_is (turns m.free (unfounded t e (event.Poll 1 m.want) m.polled refl) (turn_direct o.x) (turn_first o.x))

  unless_place : (o : Option ℕ) (q z : Place) → PlaceAfter q → PlaceAfter z → PlaceAfter (unless_bound o q z)
  unless_place None q z old new = new
  unless_place (Some r) q z old new = old

  opened_by : (o : Option Opening) → opening_in e.acts ≡ o → PlaceAfter (by_opening t 1 o w1).place
  opened_by None is = waited_by (wait_in 1 e.acts) refl
  opened_by (Some o) is = elim (bool_cases (o.c == 1)) [
    | inl here ↦ rw here (unless_place (bound_to w1.place) w1.place _ (waited_by (wait_in 1 e.acts) refl) (turned o is))
    | inr other ↦ rw other (waited_by (wait_in 1 e.acts) refl)
  ]

  shown_by : shows_in 1 e.acts ≡ false → (o : Option Showing) (q : Place) → showing_in e.acts ≡ o → PlaceAfter q → PlaceAfter (shown_place 1 o q)
  shown_by unshown None q at is = is
  shown_by unshown (Some z) q at is = elim (bool_cases ((z.c == 1) && not (Rattle.hc_model.specs.Reading.reads q))) [
    | inl here ↦
        let one : z.c ≡ 1 = status_is z.c 1 (and_left (z.c == 1) _ here) in
        absurd (false_true (sym unshown ∙ (ap (λ n. shows_in n e.acts) (sym one) ∙ shows_it e.acts z at)))
    | inr other ↦ rw other is
  ]

  left_by : (b : Bool) (q : Place) → PlaceAfter q → PlaceAfter (if b then place.Over else q)
  left_by true q is = reads_now refl over_apart over_first
  left_by false q is = is

  acted_place : shows_in 1 e.acts ≡ false → PlaceAfter (consumer_acted t e 1 h).place
  acted_place unshown = left_by (leaves_in 1 e.acts) _
      (shown_by unshown (showing_in e.acts) (by_opening t 1 (opening_in e.acts) w1).place refl (opened_by (opening_in e.acts) refl))

  -- who starts over was free
  waits_free : (q : Place) → k.place ≡ q → waits_at t q ≡ true → is_free k.place ≡ true
  waits_free place.Line at is = ap is_free at
  waits_free (place.Passed r kept) at is = ap is_free at
  waits_free (place.Turn x) at is = ap is_free at
  waits_free (place.Bound r lo hi by.Founding) at is = absurd (false_true is)
  waits_free (place.Bound r lo hi by.Plan) at is = absurd (false_true is)
  waits_free (place.Bound r lo hi (by.FirstHole y)) at is = absurd (not_first r lo y hi at)
  waits_free (place.Direct x) at is = absurd (false_true is)
  waits_free (place.Down why) at is = absurd (false_true is)
  waits_free place.Over at is = absurd (false_true is)

  unsent_miss : (v : HeadView) (g : HeadCase) → IsMissCase v g → sends_back (Some g) ≡ true → ⊥
  unsent_miss v _ refused is = false_true is
  unsent_miss v _ (server_error good) is = false_true is
  unsent_miss v _ (founds_whole status) is = false_true is
  unsent_miss v _ (founds_part good status fits) is = false_true is
  unsent_miss v _ (passes_by good) is = false_true is

  undoomed_miss : (v : HeadView) (g : HeadCase) (w : Exchange) (response : Response) → IsMissCase v g →
      Rattle.hc_model.specs.Dooms.doomed_by_case (Some g) w response ≡ None
  undoomed_miss v _ w response refused = refl
  undoomed_miss v _ w response (server_error good) = refl
  undoomed_miss v _ w response (founds_whole status) = refl
  undoomed_miss v _ w response (founds_part good status fits) = refl
  undoomed_miss v _ w response (passes_by good) = refl

  unsent : (v : Event) → e.event ≡ v → sends_back (case_of t (has_loss e.acts) v) ≡ true → ⊥
  unfolding case_of
  unsent (event.Head x response) at is = by_row (t.exchange x) refl is
    where
      by_row : (o : Option Exchange) → t.exchange x ≡ o →
          sends_back (Rattle.std.specs.Option.option_map (λ (w : Exchange). head_case (head_view t (has_loss e.acts) w response)) o) ≡ true → ⊥
      by_row None there h = false_true h
      by_row (Some w) there h = unsent_miss (head_view t (has_loss e.acts) w response) _ (miss_is x response w there) h
  unsent (event.Start d request) at is = false_true is
  unsent (event.Poll d want) at is = false_true is
  unsent (event.Piece x bytes) at is = false_true is
  unsent (event.End x) at is = false_true is
  unsent (event.Fault x) at is = false_true is
  unsent (event.Cancel d) at is = false_true is
  unsent (event.Doom key) at is = false_true is

  unlost : (q : Place) → k.place ≡ q → loses_what_it_waits_for t e 1 q ≡ true → ⊥
  unlost (place.Passed r kept) at is = not_passed r kept at
  unlost place.Line at is = false_true is
  unlost (place.Turn x) at is = false_true is
  unlost (place.Bound r lo hi how) at is = false_true is
  unlost (place.Direct x) at is = false_true is
  unlost (place.Down why) at is = false_true is
  unlost place.Over at is = false_true is

  -- a doom founds nothing
  undoomed : (v : Event) → e.event ≡ v → (o : Option (List ℕ)) → doomed_in t e v ≡ o → is_key o k.request.key ≡ true → off
  undoomed (event.Head x response) at None is key = absurd (false_true key)
  undoomed (event.Head x response) at (Some z) is key = by_row (t.exchange x) refl
    where
      by_row : (o : Option Exchange) → t.exchange x ≡ o → off
      by_row None there = unfounded_head t e x response at there
      by_row (Some w) there =
          let miss = miss_is x response w there in
          let none : Rattle.hc_model.specs.Dooms.doomed_by_case (case_at t e) w response ≡ None =
          ap (λ (g : Option HeadCase). Rattle.hc_model.specs.Dooms.doomed_by_case g w response) (case_is t e x response w at there) ∙
          undoomed_miss (head_view t (has_loss e.acts) w response) _ w response miss in
          let some : Rattle.hc_model.specs.Dooms.doomed_by_case (case_at t e) w response ≡ Some z =
          sym (ap (Rattle.hc_model.specs.Dooms.doomed_by_head t e response) there) ∙ is in
          absurd (none_some z (sym none ∙ some))
  undoomed (event.Start d request) at o is key = unfounded t e _ at refl
  undoomed (event.Poll d want) at o is key = unfounded t e _ at refl
  undoomed (event.Piece x bytes) at o is key = unfounded t e _ at refl
  undoomed (event.End x) at o is key = unfounded t e _ at refl
  undoomed (event.Fault x) at o is key = unfounded t e _ at refl
  undoomed (event.Cancel d) at o is key = unfounded t e _ at refl
  undoomed (event.Doom other) at o is key = unfounded t e _ at refl

  over_free : starts_over t e 1 k ≡ true → (is_free k.place ≡ true) × off
  unfolding starts_over doomed_key_of
  over_free is =
      let doomed = is_key (doomed_in t e e.event) k.request.key in
      let sent = sends_back (case_of t (has_loss e.acts) e.event) && is_for (exchange_at t e.event) 1 in
      elim (or_cases ((doomed && waits_at t k.place) || sent) (loses_what_it_waits_for t e 1 k.place) is) [
        | inr lost ↦ absurd (unlost k.place refl lost)
        | inl more ↦ elim (or_cases (doomed && waits_at t k.place) sent more) [
          | inr back ↦ absurd (unsent e.event refl (and_left (sends_back (case_of t (has_loss e.acts) e.event)) (is_for (exchange_at t e.event) 1) back))
          | inl doom ↦ (
            waits_free k.place refl (and_right doomed (waits_at t k.place) doom),
            undoomed e.event refl (doomed_in t e e.event) refl (and_left doomed (waits_at t k.place) doom),
          )
        ]
      ]

  settled_by : shows_in 1 e.acts ≡ false → (b : Bool) → starts_over t e 1 k ≡ b →
      PlaceAfter (if b then Rattle.hc_model.specs.ConsumerRows.back_in_line e.now (consumer_acted t e 1 h) else
      Rattle.hc_model.specs.ConsumerRows.due_after t e 1 k (consumer_acted t e 1 h)).place
  settled_by unshown true over = let all = over_free over in turns all.0 all.1 line_direct line_first
  settled_by unshown false over = acted_place unshown

  place_after : shows_in 1 e.acts ≡ false → (u : Consumer) → consumer_settled t e 1 k (consumer_acted t e 1 h) ≡ u → PlaceAfter u.place
  place_after unshown u is = subst (λ (q : Consumer). PlaceAfter q.place) is (settled_by unshown (starts_over t e 1 k) refl)

  free_by : (q : Place) → PlaceAfter q → is_free q ≡ true → (is_free k.place ≡ true) × off
  free_by q (as_before is still) free = (ap is_free (sym is) ∙ free, still)
  free_by q (turns was still apart first) free = (was, still)
  free_by q (reads_now isnt apart first) free = absurd (true_false (sym free ∙ isnt))
  free_by q (goes_past x response w at there good is) free = absurd (false_true (ap is_free (sym is) ∙ free))

  free_before : shows_in 1 e.acts ≡ false → (u : Consumer) → consumer_settled t e 1 k (consumer_acted t e 1 h) ≡ u → is_free u.place ≡ true →
      (is_free k.place ≡ true) × off
  free_before unshown u is free = free_by u.place (place_after unshown u is) free

  -- it goes past the store by a head that isn't bad
  -- the head of an exchange comes to who has the turn
  unheaded : (x : ℕ) (response : Response) (w : Exchange) → e.event ≡ event.Head x response → t.exchange x ≡ Some w → k.place ≡ place.Direct x → ⊥
  unheaded x response w at there stands =
      let new = is_new limits t e.now (flaw_in e.acts) c.is_sound e.event going x response w at there in
      let a = c.is_owned.waiting x w there new.is_open new.bare in
      let same : a.k ≡ k = same_row w.c a.k a.row in
      by_way (subst (λ (q : Consumer). IsAwaiting x w q.place) same a.at)
    where
      miss : w.need ≡ need.Miss
      miss = l.misses x w there

      by_way : IsAwaiting x w k.place → ⊥
      by_way (owners.direct way stood) =
          let no : Rattle.hc_rules.specs.declared.need.Route.TheVariants.Turn ≡ Rattle.hc_rules.specs.declared.need.Route.TheVariants.Direct =
          sym (ap route_of miss) ∙ way in cc
      by_way (owners.turn way stood) = turn_direct x x (sym stood ∙ stands)
      by_way (owners.hole r lo hi how way aim stood) = bound_apart r lo hi how x (sym stood ∙ stands)

  good_was : (x : ℕ) (u : Exchange) (response : Response) → k.place ≡ place.Direct x → ExchangeFrom t e x u → u.head ≡ Some response →
      is_bad (length_of u.need u.request response) ≡ false
  good_was x u response stands (exchange.was w there alike) head = by_head_of alike.heard_or
    where
      by_head_of : ((u.head ≡ w.head) × (u.joined ≡ w.joined)) ⊎ IsHeaded t e x w u → is_bad (length_of u.need u.request response) ≡ false
      by_head_of (inl stays) = rw (alike.need_is, alike.request_is) (l.good x k w response row stands there (sym stays.0 ∙ head))
      by_head_of (inr headed) = absurd (unheaded x headed.response w headed.at there stands)
  good_was x u response stands (exchange.new o none opens here made) head = by_past (c.is_owned.past 1 x k row stands (l.unshown k row))
    where
      by_past : IsPast t x k → is_bad (length_of u.need u.request response) ≡ false
      by_past (owners.answered w there some) = absurd (none_some w (sym none ∙ there))
      by_past (owners.waits w own there on bare) = absurd (none_some w (sym none ∙ there))

  good_new : (x y : ℕ) (reported response : Response) (w u : Exchange) → e.event ≡ event.Head y reported → t.exchange y ≡ Some w →
      is_bad (length_of w.need w.request reported) ≡ false → y ≡ x → ExchangeFrom t e x u → u.head ≡ Some response
      → is_bad (length_of u.need u.request response) ≡ false
  good_new x y reported response w u at there good here (exchange.was z row_x alike) head = by_head_of alike.heard_or
    where
      z_is : z ≡ w
      z_is = some_inj z w (sym row_x ∙ (ap t.exchange (sym here) ∙ there))

      by_head_of : ((u.head ≡ z.head) × (u.joined ≡ z.joined)) ⊎ IsHeaded t e x z u → is_bad (length_of u.need u.request response) ≡ false
      by_head_of (inl stays) =
          let new = is_new limits t e.now (flaw_in e.acts) c.is_sound e.event going y reported w at there in
          absurd (none_some response (sym new.bare ∙ (ap (λ (q : Exchange). q.head) (sym z_is) ∙ (sym stays.0 ∙ head))))
      by_head_of (inr headed) =
          let one : reported ≡ headed.response = head_inj y x reported headed.response (sym at ∙ headed.at) in
          let two : headed.response ≡ response = some_inj headed.response response (sym headed.head_is ∙ head) in
          rw (alike.need_is, alike.request_is, z_is) (subst (λ (q : Response). is_bad (length_of w.need w.request q) ≡ false) (one ∙ two) good)
  good_new x y reported response w u at there good here (exchange.new o none opens is made) head =
      absurd (none_some w (sym none ∙ (ap t.exchange (sym here) ∙ there)))

  direct_same : (y x : ℕ) → place.Direct y ≡ place.Direct x → y ≡ x
  direct_same y x is = cc

  first_by : (q : Place) → PlaceAfter q → (r lo : ℕ) (hi : Option ℕ) (how : BoundBy) → q ≡ place.Bound r lo hi how → lo ≡ 0
  first_by q (as_before is still) r lo hi how stands = l.first k r lo hi how row (sym is ∙ stands)
  first_by q (turns was still apart first) r lo hi how stands = first r lo hi how stands
  first_by q (reads_now isnt apart first) r lo hi how stands = first r lo hi how stands
  first_by q (goes_past y reported w at there good is) r lo hi how stands = absurd (bound_apart r lo hi how y (sym stands ∙ is))

  good_by : (x : ℕ) (q : Place) (u : Exchange) (response : Response) → PlaceAfter q → q ≡ place.Direct x → ExchangeFrom t e x u → u.head ≡ Some response →
      is_bad (length_of u.need u.request response) ≡ false
  good_by x q u response (as_before is still) stands from head = good_was x u response (sym is ∙ stands) from head
  good_by x q u response (turns was still apart first) stands from head = absurd (apart x stands)
  good_by x q u response (reads_now isnt apart first) stands from head = absurd (apart x stands)
  good_by x q u response (goes_past y reported w at there good is) stands from head =
      good_new x y reported response w u at there good (direct_same y x (sym is ∙ stands)) from head

-- AFTER AN ENTRY

module _ (limits : Limits) (p : FetchPlan) (plan_is : IsPlan p) (t : Tables) (e : Entry) (owed : IsTaken limits t e) (c : IsCarried t) (aims : Aims t)
    (passed : Passed t) (l : IsLone p t) (own : is_foreign e.event ≡ false) (unshown : shows_in 1 e.acts ≡ false) where
  abbrev now_on : Tables
  now_on = after_accepted t e

  none_made : (d : ℕ) (u : Consumer) (v : Event) → is_foreign v ≡ false → consumer_made d e.now v ≡ Some u → ⊥
  none_made d u (event.Start b request) own is = true_false own
  none_made d u (event.Poll b want) own is = none_some u is
  none_made d u (event.Head x response) own is = none_some u is
  none_made d u (event.Piece x bytes) own is = none_some u is
  none_made d u (event.End x) own is = none_some u is
  none_made d u (event.Fault x) own is = none_some u is
  none_made d u (event.Cancel b) own is = none_some u is
  none_made d u (event.Doom key) own is = none_some u is

  record WasThere (d : ℕ) (u : Consumer) : Type 0 where
    k : Consumer
    row : t.consumer d ≡ Some k
    is : consumer_settled t e d k (consumer_acted t e d (consumer_heard t e d e.event k)) ≡ u

  was_by : (d : ℕ) (u : Consumer) (o : Option Consumer) → t.consumer d ≡ o → consumer_after t e d o ≡ Some u → WasThere d u
  unfolding consumer_after
  was_by d u None row is = absurd (none_made d u e.event own is)
  was_by d u (Some k) row is = record { k = k; row = row; is = some_inj _ u is }

  was_there : (d : ℕ) (u : Consumer) → now_on.consumer d ≡ Some u → WasThere d u
  was_there d u row = was_by d u (t.consumer d) refl row

  need_was : (x : ℕ) (u : Exchange) → ExchangeFrom t e x u → u.need ≡ need.Miss
  need_was x u (exchange.was w there alike) = alike.need_is ∙ l.misses x w there
  need_was x u (exchange.new o none opens here made) =
      let by = opening_by limits t e.now (flaw_in e.acts) c.is_sound e.event (goes limits t e owed.owed owed.not_denied) o
      (sym (ap opening_in (acts_are limits t e owed.owed owed.not_denied)) ∙ opens) in
      let one : o.c ≡ 1 = l.only o.c by.k by.poll.row in
      let m = opens_missed limits p plan_is t e owed c aims passed l by.k (sym (ap t.consumer one) ∙ by.poll.row) o opens in
      sym (ap (λ (z : Exchange). z.need) made) ∙ m.need_is

  founds_none : is_founding (case_at t e) ≡ false → (key : List ℕ) → Rattle.hc_model.specs.Frames.FoundsOther t e key
  founds_none off_is key r w is there same_key = none_some r (rw off_is at is)

  ranged_on : (v : Representation) → IsPart t v → (u : Consumer) → now_on.consumer 1 ≡ Some u → is_some (range_of u.request) ≡ true
  ranged_on v part u row =
      let w = was_there 1 u row in
      ap (λ (q : Request). is_some (range_of q)) (is_after t e 1 w.k u w.row row).request ∙ part.ranged w.k w.row

  part_kept : (r : ℕ) (v u : Representation) → rep.IsKept t e r v u → IsPart t v → IsPart now_on u
  part_kept r v u kept part = record { n = part.n; total = by_total kept.total_is; small = part.small; ranged = ranged_on v part }
    where
      by_total : (u.head.total ≡ v.head.total) ⊎ rep.IsEnded t e r v u.head.total → u.head.total ≡ Some part.n
      by_total (inl still) = still ∙ part.total
      by_total (inr over) = over.total_is ∙ ap (λ (q : Option ℕ). option_or q (Some (length_in (t.exchange r)))) part.total

  -- a part is founded for a range, and tells the length of the whole
  total_reported : (o : Option RangeSpec) (response : Response) (w : Exchange) → brings_part response.status ≡ true → fits_to_found o response ≡ true →
      (n : ℕ) × (founded_total w response ≡ Some n)
  total_reported None response w status fits = absurd (false_true fits)
  total_reported (Some asked) response w status fits = by_range (content_range_of response.fields) refl (and_right _ _ fits)
    where
      reported : (q : Option ContentRange) → content_range_of response.fields ≡ q → founded_total w response ≡ total_of_part q
      reported q is = rw (status, is) refl

      by_range : (q : Option ContentRange) → content_range_of response.fields ≡ q → fits_part asked q ≡ true → (n : ℕ) × (founded_total w response ≡ Some n)
      by_range None is h = absurd (false_true h)
      by_range (Some (range.Unsatisfied total)) is h = absurd (false_true h)
      by_range (Some (range.Part from to None)) is h = absurd (false_true h)
      by_range (Some (range.Part from to (Some total))) is h = (total, reported (Some (range.Part from to (Some total))) is)

  fits_some : (o : Option RangeSpec) (response : Response) → fits_to_found o response ≡ true → is_some o ≡ true
  fits_some None response fits = absurd (false_true fits)
  fits_some (Some asked) response fits = refl

  part_founded : (r : ℕ) (response : Response) (w : Exchange) → e.event ≡ event.Head r response → t.exchange r ≡ Some w →
      brings_part response.status ≡ true → is_founding (case_at t e) ≡ true → (g : HeadCase) → IsMissCase (head_view t (has_loss e.acts) w response) g
      → case_at t e ≡ Some g → IsPart now_on (new_representation r e response w)
  part_founded r response w at there status on _ refused is = absurd (false_true (sym (ap is_founding is) ∙ on))
  part_founded r response w at there status on _ (server_error good) is = absurd (false_true (sym (ap is_founding is) ∙ on))
  part_founded r response w at there status on _ (passes_by good) is = absurd (false_true (sym (ap is_founding is) ∙ on))
  part_founded r response w at there status on _ (founds_whole other) is = absurd (whole_or_part response.status other status)
  part_founded r response w at there status on _ (founds_part good reported fits) is =
      let op = c.is_owned.opener r w there in
      let fit : fits_to_found (range_of op.k.request) response ≡ true = sym (ap (λ (o : Option Consumer). fits_asker o response) op.row) ∙ fits in
      let length = total_reported (range_of op.k.request) response w status fit in
      record {
        n = length.0;
        total = length.1;
        small = founded_early w response length.0 length.1;
        ranged = λ u row.
            let was = was_there 1 u row in
            let same : op.k ≡ was.k = some_inj op.k was.k (sym op.row ∙ (ap t.consumer (l.only w.c op.k op.row) ∙ was.row)) in
            ap (λ (q : Request). is_some (range_of q)) ((is_after t e 1 was.k u was.row row).request ∙ ap (λ (z : Consumer). z.request) (sym same)) ∙
            fits_some (range_of op.k.request) response fit;
      }

  part_from : (r : ℕ) (u : Representation) → RepFrom t e r u → brings_part u.head.status ≡ true → IsPart now_on u
  part_from r u (rep.was v kept) status = part_kept r v u kept (l.parts r v kept.row (sym (ap brings_part kept.status_is) ∙ status))
  part_from r u (rep.founded response w none at there on made) status =
      let miss = l.misses r w there in
      subst (IsPart now_on) made
      (part_founded r response w at there (ap (λ (z : Representation). brings_part z.head.status) made ∙ status) on _
      (miss_case (head_view t (has_loss e.acts) w response) miss (rw miss refl)) (case_is t e r response w at there))

  pub lone_kept : IsLone p now_on
  lone_kept = record {
    only = λ d u row. let w = was_there d u row in l.only d w.k w.row;
    asks = λ u row. let w = was_there 1 u row in (is_after t e 1 w.k u w.row row).request ∙ l.asks w.k w.row;
    unshown = λ u row. let w = was_there 1 u row in (is_after t e 1 w.k u w.row row).shown ∙ rw (unshown, l.unshown w.k w.row) refl;
    misses = λ x u row. need_was x u (exchange_from t e x (t.exchange x) u refl row);
    nothing = λ u row free.
        let w = was_there 1 u row in
        let was = free_before limits p plan_is t e owed c aims passed l w.k w.row unshown u w.is free in
        let same : u.request ≡ w.k.request = (is_after t e 1 w.k u w.row row).request in
        ap (λ (q : Request). current now_on q.key) same
        ∙ (current_stays t e c.is_sound w.k.request.key (founds_none was.1 w.k.request.key) ∙
        ap (Rattle.hc_model.specs.Frames.unless_gone t e) (l.nothing w.k w.row was.0));
    good = λ x u w response row stands there head.
        let was = was_there 1 u row in
        good_by limits p plan_is t e owed c aims passed l was.k was.row x u.place w response
        (place_after limits p plan_is t e owed c aims passed l was.k was.row unshown u was.is) stands (exchange_from t e x (t.exchange x) w refl there) head;
    first = λ u r lo hi how row stands.
        let was = was_there 1 u row in
        first_by limits p plan_is t e owed c aims passed l was.k was.row u.place
        (place_after limits p plan_is t e owed c aims passed l was.k was.row unshown u was.is) r lo hi how stands;
    parts = λ r u row status. part_from r u (rep_from t e r (t.representation r) u refl row) status;
  }

-- a denied entry leaves it
pub lone_denied : (p : FetchPlan) (t : Tables) (e : Entry) → IsLone p t → IsLone p (after_denied t e)
unfolding current
lone_denied p t e l = record {
  only = l.only;
  asks = l.asks;
  unshown = l.unshown;
  misses = l.misses;
  nothing = l.nothing;
  good = l.good;
  first = l.first;
  parts = λ r v row status. let part = l.parts r v row status in record { n = part.n; total = part.total; small = part.small; ranged = part.ranged };
}
