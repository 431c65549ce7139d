-- What isn't gone, and what may still found, was opened after the last doom of its key.
--
-- A doom moves the barrier of its key up to the last exchange; that of other keys is as before (`bar_same`). What was
-- there and isn't gone wasn't doomed (`was_there`). A case that founds dooms nothing (`no_doom`), and its exchange was
-- behind the barrier while it waited (`new_behind`). What a consumer becomes bound to was founded, shown or current
-- (`becomes_behind`). `bars_kept` joins this; a denied entry moves no barrier.
use Rattle.std.{proofs.Common.{◌≡◌, ◌≢◌, ◌⊎◌, inl, inr, ℕ, ◌+◌, ◌<◌, ◌≤◌, List, ◌∷◌, Bool, true, false, Option, Some, None, refl, ap, sym, ◌∙◌, subst, arith}, specs.{Prelude.{◌||◌, if◌then◌else◌}, Option.{option_map}}}
use Rattle.hc_text.proofs.Basics.{eq_itself, bool_cases, not_some as none_some, never_true as not_true, same_some as same_row}
use Rattle.hc_effects.proofs.Vocabulary.{Opening, opening_in, is_denied, Request, Response, route_of, head_refusal, head_case, case_on, first_case, later_case, HeadCase, HeadView, Route, Limits, BoundBy, has_loss, Showing, showing_in, case_at, case_of, head_view, is_founding, was_shown, consumer_heard, by_opening, waiting, is_current, is_number, denial, as_open, doomed_key_of, doomed_in, doomed_by_head, doomed_by_case, is_key, Entry, History, Content, Contents, exchange_heard, is_headless, Flaw, flaw_in, becomes_gone, IsOfOneKey, Turns, StandsFor, IsBarred, AreNumbered, IsBoundBehindDooms, item_of, reads, Tables, Exchange, Representation, Consumer, IsOwed, Sound, IsBound, tables, after, after_accepted, after_denied, representation_of_content, opened_after, awaited_exchange, event, case, route}
use Rattle.hc_rules.specs.Refusals as refusals
use Rattle.hc_model.specs.{Sound.{is_bound}, Currents.{current as current_of}, Laws.{BarrierIsKept, BarrierBegins, IsNewlyBound, barrier, barrier_at}}
use Rattle.hc_model.specs.Laws as laws
use Rattle.hc_effects.proofs.{Basics.{or_false}, BoundFrom.{BoundFrom, bound_from}, BoundKeeps.{founding_is, planned_at}, CurrentKeeps.{current_is, WasOrFounded, was_or_founded}, KeysKeep.{same_exchange}, Joining.{mix}, KeyNames.{key_is, opener_key}, Owed.{goes}, PollKeeps.{current_stays}, Said.{ShowsBy, showing_by}, ShownFrom.{IsPlanned, ShownAs}}
use Rattle.hc_effects.proofs.BoundFrom as from
use Rattle.hc_effects.proofs.CurrentKeeps as current
use Rattle.hc_effects.proofs.ShownFrom as shown
use Rattle.hc_laws.proofs.{TurnFacts.{IsTaken}, TurnOpens.{opened_at}, TurnStays.{head_opens, dooms, after_same}, TurnsKeep.{WasHeadless, was_headless}}
use Rattle.hc_laws.proofs.TurnsKeep as keeps

-- THE FOUNDING CASES

abbrev Quiet : HeadCase → Type 0
Quiet c = is_founding (Some c) ≡ false

module _ (v : HeadView) where
  by_shown : (b : Bool) → is_founding (Some (if b then later_case v else first_case v)) ≡ true → b ≡ false
  by_shown true h = absurd
      (let no_one : false ≡ true = sym (mix Quiet v.bad case.LaterBad _ refl (mix Quiet v.joins case.LaterJoins case.LaterChanged refl refl)) ∙ h in cc)
  by_shown false h = refl

  -- what founds has the turn, or a first hole
  founds_by : (way : Route) → is_founding (Some (case_on way v)) ≡ true → (way ≡ route.Turn) ⊎ ((way ≡ route.Hole) × (v.shown ≡ false))
  founds_by route.Direct h = absurd (let no_one : false ≡ true = sym (mix Quiet v.bad case.DirectBad case.DirectTaken refl refl) ∙ h in cc)
  founds_by route.Turn h = inl refl
  founds_by route.Hole h = inr (refl, by_shown v.shown h)

-- a case that founds dooms nothing
no_doom : (c : Option HeadCase) (w : Exchange) (response : Response) → is_founding c ≡ true → doomed_by_case c w response ≡ None
no_doom (Some case.FoundsWhole) w response h = refl
no_doom (Some case.FoundsRange) w response h = refl
no_doom (Some case.FirstReplaced) w response h = refl
no_doom _ w response h = absurd (let no_one : false ≡ true = h in cc)

stands_turn : (x : ℕ) (k : Consumer) (way : Route) → StandsFor x k way → way ≡ route.Turn → k.shown ≡ false
stands_turn x k _ (laws.has_turn at unshown) is = unshown
stands_turn x k _ (laws.first r lo hi at unshown) is = unshown
stands_turn x k _ _ is = cc

-- BARRIERS

-- what IsBarred says, of tables and barriers alone
record Bars (u : Tables) (bar : List ℕ → ℕ) : Type 0 where
  within : (key : List ℕ) → bar key ≤ u.opened
  founded : (r : ℕ) (v : Representation) → u.representation r ≡ Some v → v.is_gone ≡ false → bar v.key < r
  awaited : (x : ℕ) (w : Exchange) → u.exchange x ≡ Some w → is_headless (Some w) ≡ true → route_of w.need ≢ route.Direct →
      was_shown (u.consumer w.c) ≡ false → bar w.request.key < x

of_bars : (contents : Contents) (h : History) → Bars (tables contents h) (λ key. barrier contents key h) → IsBarred contents h
of_bars contents h bars = record { within = bars.within; founded = bars.founded; awaited = bars.awaited }

module _ (limits : Limits) (t : Tables) (e : Entry) (taken : IsTaken limits t e) (s : Sound t) (one : IsOfOneKey t) (turns : Turns t) (old : List ℕ → ℕ)
    (bars : Bars t old) where
  abbrev u : Tables
  u = after_accepted t e

  abbrev bar : List ℕ → ℕ
  bar key = barrier_at t e (old key) key

  bar_same : (key : List ℕ) → is_key (doomed_key_of t e) key ≡ false → bar key ≡ old key
  bar_same key free = rw (taken.not_denied, free) refl

  bar_within : (key : List ℕ) → bar key ≤ t.opened
  bar_within key = elim (bool_cases (is_key (doomed_key_of t e) key)) [
    | inl doom ↦ let is : bar key ≡ t.opened = rw (taken.not_denied, doom) refl in omega arith
    | inr free ↦ let is : bar key ≡ old key = bar_same key free in let less : old key ≤ t.opened = bars.within key in omega arith
  ]

  opened_more : (o : Option Opening) → opening_in e.acts ≡ o → t.opened ≤ opened_after o t.opened
  opened_more None is = omega arith
  opened_more (Some o) is = let next : o.x ≡ t.opened + 1 = (opened_at limits t e taken s turns o is).next in omega arith

  stays_within : (key : List ℕ) → bar key ≤ u.opened
  stays_within key =
      let less : bar key ≤ t.opened = bar_within key in
      let more : t.opened ≤ u.opened = opened_more (opening_in e.acts) refl in
      omega arith

  -- WHAT ISN'T GONE

  goes_by_doom : (r : ℕ) (v : Representation) → is_current t v.key r ≡ true → is_key (doomed_key_of t e) v.key ≡ true → becomes_gone t e r v ≡ true
  unfolding becomes_gone
  goes_by_doom r v now doom = rw (now, doom) refl

  was_there : (r : ℕ) (v z : Representation) → t.representation r ≡ Some v → z.key ≡ v.key → z.is_gone ≡ (becomes_gone t e r v || v.is_gone) →
      z.is_gone ≡ false → bar z.key < r
  was_there r v z row key_is gone_is fresh =
      let both = or_false (becomes_gone t e r v) v.is_gone (sym gone_is ∙ fresh) in
      let now : is_current t v.key r ≡ true = ap (λ o. is_number o r) (current_is t v.key r v s row refl both.1) ∙ eq_itself r in
      let is : bar z.key ≡ old v.key = ap bar key_is ∙
      bar_same v.key (not_true _ (λ doom. let no_one : true ≡ false = sym (goes_by_doom r v now doom) ∙ both.0 in cc)) in
      let less : old v.key < r = bars.founded r v row both.1 in
      omega arith

  goes_on : denial t e.event ≡ None
  goes_on = goes limits t e taken.owed taken.not_denied

  head_bare : (x : ℕ) (response : Response) (w : Exchange) → e.event ≡ event.Head x response → t.exchange x ≡ Some w → is_headless (Some w) ≡ true
  unfolding refusals.refusal_of
  head_bare x response w at row = head_opens w (sym (ap (λ o. head_refusal (as_open o)) row) ∙ (sym (ap (denial t) at) ∙ goes_on))

  case_here : (x : ℕ) (response : Response) (w : Exchange) (b : Bool) → t.exchange x ≡ Some w → is_founding (case_of t b (event.Head x response)) ≡ true →
      is_founding (Some (case_on (route_of w.need) (head_view t b w response))) ≡ true
  unfolding case_of head_case
  case_here x response w b row h = sym (ap (λ o. is_founding (option_map (λ w. head_case (head_view t b w response)) o)) row) ∙ h

  new_behind : (x : ℕ) (response : Response) (w : Exchange) → e.event ≡ event.Head x response → t.exchange x ≡ Some w → is_founding (case_at t e) ≡ true →
      old w.request.key < x
  new_behind x response w at row founding =
      let lost = has_loss e.acts in
      by_route (founds_by (head_view t lost w response) (route_of w.need)
      (case_here x response w lost row (sym (ap (λ ev. is_founding (case_of t lost ev)) at) ∙ founding)))
    where
      by_route : (route_of w.need ≡ route.Turn) ⊎ ((route_of w.need ≡ route.Hole) × (was_shown (t.consumer w.c) ≡ false)) → old w.request.key < x
      by_route (inl way) =
          let bare = head_bare x response w at row in
          let it = turns.awaited x w row bare in
          bars.awaited x w row bare (λ direct. let no_one : route.Turn ≡ route.Direct = sym way ∙ direct in cc)
          (ap was_shown it.row ∙ stands_turn x it.k (route_of w.need) it.stands way)
      by_route (inr both) =
          bars.awaited x w row (head_bare x response w at row) (λ direct. let no_one : route.Hole ≡ route.Direct = sym both.0 ∙ direct in cc) both.1

  doom_free : (x : ℕ) (response : Response) (w : Exchange) → e.event ≡ event.Head x response → t.exchange x ≡ Some w → is_founding (case_at t e) ≡ true →
      doomed_key_of t e ≡ None
  unfolding doomed_key_of
  doom_free x response w at row founding =
      ap (doomed_in t e) at ∙ (ap (doomed_by_head t e response) row ∙ no_doom (case_at t e) w response founding)

  behind : (r : ℕ) (z : Representation) → WasOrFounded t e r z → z.is_gone ≡ false → bar z.key < r
  behind r z (current.was v row key_is gone_is) fresh = was_there r v z row key_is gone_is fresh
  behind r z (current.founded x response w at here founding row key none) fresh =
      let is : bar z.key ≡ old w.request.key = bar_same z.key (ap (λ o. is_key o z.key) (doom_free x response w at row founding)) ∙ ap old key in
      let less : old w.request.key < x = new_behind x response w at row founding in
      omega arith

  -- WHAT A CONSUMER BECOMES BOUND TO

  -- a founding head dooms nothing of the key of what it founds
  founded_behind : (x r : ℕ) (response : Response) (w : Exchange) (z : Representation) → e.event ≡ event.Head x response → t.exchange x ≡ Some w →
      is_founding (case_at t e) ≡ true → x ≡ r → z.key ≡ w.request.key → bar z.key < r
  founded_behind x r response w z at row founding here key =
      let is : bar z.key ≡ old w.request.key = bar_same z.key (ap (λ o. is_key o z.key) (doom_free x response w at row founding)) ∙ ap old key in
      let less : old w.request.key < x = new_behind x response w at row founding in
      omega arith

  founded_key : (x r : ℕ) (response : Response) (w : Exchange) (z : Representation) → e.event ≡ event.Head x response → t.exchange x ≡ Some w → x ≡ r →
      WasOrFounded t e r z → z.key ≡ w.request.key
  founded_key x r response w z at row here (current.was v there key_is gone_is) =
      key_is ∙ one.exchanges.founded r w v (sym (ap t.exchange here) ∙ row) there
  founded_key x r response w z at row here (current.founded y answer a at_y of_r founding row_y key none) =
      key ∙ ap (λ (q : Exchange). q.request.key) (same_row (t.exchange x) a w (ap t.exchange (here ∙ sym of_r) ∙ row_y) row)

  -- a poll dooms nothing, and what is current isn't gone
  polled_behind : (c want r : ℕ) (key : List ℕ) (v z : Representation) → e.event ≡ event.Poll c want → current_of t key ≡ Some r →
      t.representation r ≡ Some v → WasOrFounded t e r z → bar z.key < r
  unfolding doomed_key_of
  polled_behind c want r key v z at now there (current.was y row key_is gone_is) =
      let free : is_key (doomed_key_of t e) z.key ≡ false = ap (λ o. is_key o z.key) (ap (doomed_in t e) at) in
      let is : bar z.key ≡ old v.key = bar_same z.key free ∙
      ap old (key_is ∙ ap (λ (q : Representation). q.key) (same_row (t.representation r) y v row there)) in
      let less : old v.key < r = bars.founded r v there (current_stays t key r v now there) in
      omega arith
  polled_behind c want r key v z at now there (current.founded x response w at_x here founding row key_is none) = absurd (none_some v (sym none ∙ there))

  -- the real entry is this one
  shown_here : (a : Showing) (k : Consumer) → t.consumer a.c ≡ Some k → showing_in e.acts ≡ Some a →
      reads (by_opening t a.c (opening_in e.acts) (waiting t e a.c (consumer_heard t e a.c e.event k))).place ≡ false → IsPlanned t e.now a.c k a ×
      ShowsBy t e.now e.event a
  shown_here a k row is free =
      subst (λ (z : Entry). showing_in z.acts ≡ Some a →
      reads (by_opening t a.c (opening_in z.acts) (waiting t z a.c (consumer_heard t z a.c z.event k))).place ≡ false → IsPlanned t z.now a.c k a ×
      ShowsBy t z.now z.event a) (keeps.same_entry limits t e taken s one turns)
      (λ is free. (planned_at limits t e.now flaw s e.event goes_on a k row is free, showing_by limits t e.now flaw s e.event goes_on a is)) is free
    where
      flaw : Flaw
      flaw = flaw_in e.acts

  planned_behind : (c want r lo : ℕ) (hi : Option ℕ) (k : Consumer) (z : Representation) → e.event ≡ event.Poll c want → ShownAs t e.now c k r lo hi →
      WasOrFounded t e r z → bar z.key < r
  planned_behind c want r lo hi k z at (shown.joins v now row on from to) was = polled_behind c want r k.request.key v z at now row was
  planned_behind c want r lo hi k z at (shown.stored v span now row off wants hole from to) was = polled_behind c want r k.request.key v z at now row was

  bound_behind : (r c lo : ℕ) (hi : Option ℕ) (how : BoundBy) (q : Consumer) (z : Representation) → ((k : Consumer) → IsBound t r c k → ⊥) →
      WasOrFounded t e r z → BoundFrom t e c r lo hi how q → bar z.key < r
  bound_behind r c lo hi how q z unbound was (from.stays k row at) = absurd (unbound k (is_bound lo hi how row.row at))
  bound_behind r c lo hi how q z unbound was (from.founds k x response w row at its_row mine here by_is all) =
      founded_behind x r response w z at its_row (founding_is t e c r lo hi how x response w k (case_at t e) all) here
      (founded_key x r response w z at its_row here was)
  bound_behind r c lo hi how q z unbound was (from.opens k o row is mine free way hole) =
      let opened = opened_at limits t e taken s turns o is in
      polled_behind o.c opened.want r _ hole.v z opened.at hole.current_is hole.row was
  bound_behind r c lo hi how q z unbound was (from.shows k a row is all) =
      let both = shown_here a k (ap t.consumer all.at ∙ row.row) is
      (subst (λ d. reads (by_opening t d (opening_in e.acts) (waiting t e d (consumer_heard t e d e.event k))).place ≡ false) (sym all.at) all.free) in
      planned_behind a.c both.1.want r a.lo a.hi k z both.1.poll.at (subst (λ n. ShownAs t e.now a.c k n a.lo a.hi) all.of_r both.0.shown_as) was

  becomes_behind : (r c : ℕ) (z : Representation) → IsNewlyBound t u r c → u.representation r ≡ Some z → bar z.key < r
  becomes_behind r c z becomes after = by_bound becomes.k becomes.bound
    where
      by_bound : (k : Consumer) → IsBound u r c k → bar z.key < r
      by_bound k (is_bound lo hi how row at) =
          bound_behind r c lo hi how k z becomes.unbound (was_or_founded t e r (t.representation r) z refl after)
          (bound_from t e c r lo hi how (t.consumer c) k refl row at)

  -- WHAT MAY STILL FOUND

  unshown_stand : (x : ℕ) (w : Exchange) (row : t.exchange x ≡ Some w) (bare : is_headless (Some w) ≡ true) →
      keeps.Stays t e x w (exchange_heard t e x e.event w) → was_shown (u.consumer w.c) ≡ false → (turns.awaited x w row bare).k.shown ≡ false
  unshown_stand x w row bare stays unshown =
      let a = after_same limits t e taken s one turns x w row bare stays in
      sym a.2.shown ∙ (sym (ap was_shown a.1) ∙ unshown)

  not_closed : (x : ℕ) (w : Exchange) (row : t.exchange x ≡ Some w) (bare : is_headless (Some w) ≡ true) →
      keeps.Stays t e x w (exchange_heard t e x e.event w) → route_of w.need ≢ route.Direct → (turns.awaited x w row bare).k.shown ≡ false →
      is_key (doomed_key_of t e) w.request.key ≡ true → ⊥
  not_closed x w row bare stays way unshown doom = by_stand (route_of w.need) it.stands way
    where
      it : laws.IsAwaited t x w
      it = turns.awaited x w row bare

      waits : is_number (awaited_exchange it.k.place) x ≡ true → ⊥
      waits h = dooms limits t e taken s one turns x w row bare stays
          (ap (is_key (doomed_key_of t e)) (sym (opener_key t x w it.k one.exchanges row it.row)) ∙ doom) h

      by_stand : (r : Route) → StandsFor x it.k r → r ≢ route.Direct → ⊥
      by_stand _ (laws.direct at) other = other refl
      by_stand _ (laws.has_turn at shown) other = waits (ap (λ p. is_number (awaited_exchange p) x) at ∙ eq_itself x)
      by_stand _ (laws.first r lo hi at shown) other = waits (ap (λ p. is_number (awaited_exchange p) x) at ∙ eq_itself x)
      by_stand _ (laws.later r lo hi how at shown) other = let no_one : false ≡ true = sym unshown ∙ shown in cc

  awaits_behind : (x : ℕ) (z : Exchange) → WasHeadless limits t e taken s one turns x z → route_of z.need ≢ route.Direct →
      was_shown (u.consumer z.c) ≡ false → bar z.request.key < x
  awaits_behind x z (keeps.was w row bare is stays) way unshown =
      let same = same_exchange t e x e.event w in
      let hidden = unshown_stand x w row bare stays (ap (λ d. was_shown (u.consumer d)) (sym (ap (λ (y : Exchange). y.c) is ∙ same.c_is)) ∙ unshown) in
      let apart : route_of w.need ≢ route.Direct = λ h. way (ap route_of (ap (λ (y : Exchange). y.need) is ∙ same.need_is) ∙ h) in
      let free : is_key (doomed_key_of t e) w.request.key ≡ false = not_true _ (not_closed x w row bare stays apart hidden) in
      let less : old w.request.key < x = bars.awaited x w row bare apart (ap was_shown (turns.awaited x w row bare).row ∙ hidden) in
      let here : bar z.request.key ≡ old w.request.key = ap (λ (q : Request). bar q.key) (ap (λ (y : Exchange). y.request) is ∙ same.request_is) ∙
      bar_same w.request.key free in
      omega arith
  awaits_behind x z (keeps.new o is here made) way unshown =
      let next : o.x ≡ t.opened + 1 = (opened_at limits t e taken s turns o is).next in
      let less : bar z.request.key ≤ t.opened = bar_within z.request.key in
      omega arith

  bars_kept : Bars u bar
  bars_kept = record {
    within = stays_within;
    founded = λ r z row fresh. behind r z (was_or_founded t e r (t.representation r) z refl row) fresh;
    awaited = λ x z row bare way unshown. awaits_behind x z (was_headless limits t e taken s one turns x (t.exchange x) z refl row bare) way unshown;
  }

-- an accepted entry, and a denied one
pub next_tables : (contents : Contents) (h : History) (e : Entry) → is_denied e.acts ≡ false → after_accepted (tables contents h) e ≡ tables contents (e ∷ h)
unfolding tables after
next_tables contents h e accepted = rw accepted refl

pub denied_tables : (contents : Contents) (h : History) (e : Entry) → is_denied e.acts ≡ true → after_denied (tables contents h) e ≡ tables contents (e ∷ h)
unfolding tables after
denied_tables contents h e denied = rw denied refl

barred_by : (limits : Limits) (contents : Contents) (h : History) (e : Entry) (b : Bool) → is_denied e.acts ≡ b → Sound (tables contents h) →
    IsOfOneKey (tables contents h) → Turns (tables contents h) → IsBarred contents h → IsOwed limits (tables contents h) e → IsBarred contents (e ∷ h)
barred_by limits contents h e false accepted s one turns barred owed =
    let bars : Bars (tables contents h) (λ key. barrier contents key h) =
    record { within = barred.within; founded = barred.founded; awaited = barred.awaited } in
    let kept = bars_kept limits (tables contents h) e (record { owed = owed; not_denied = accepted }) s one turns (λ key. barrier contents key h) bars in
    of_bars contents (e ∷ h) (subst (λ u. Bars u (λ key. barrier contents key (e ∷ h))) (next_tables contents h e accepted) kept)
barred_by limits contents h e true denied s one turns barred owed =
    let same : (key : List ℕ) → barrier contents key (e ∷ h) ≡ barrier contents key h = λ key. rw denied refl in
    let bars : Bars (after_denied (tables contents h) e) (λ key. barrier contents key (e ∷ h)) = record {
      within = λ key. let is : barrier contents key (e ∷ h) ≡ barrier contents key h = same key in
          let less : barrier contents key h ≤ (tables contents h).opened = barred.within key in omega arith;
      founded = λ r v row fresh. let is : barrier contents v.key (e ∷ h) ≡ barrier contents v.key h = same v.key in
          let less : barrier contents v.key h < r = barred.founded r v row fresh in omega arith;
      awaited = λ x w row bare way unshown. let is : barrier contents w.request.key (e ∷ h) ≡ barrier contents w.request.key h = same w.request.key in
          let less : barrier contents w.request.key h < x = barred.awaited x w row bare way unshown in omega arith;
    } in
    of_bars contents (e ∷ h) (subst (λ u. Bars u (λ key. barrier contents key (e ∷ h))) (denied_tables contents h e denied) bars)

pub barrier_is_kept : BarrierIsKept
barrier_is_kept limits contents h e s one turns barred owed = barred_by limits contents h e (is_denied e.acts) refl s one turns barred owed

-- a denied entry binds nobody
binds_by : (limits : Limits) (contents : Contents) (h : History) (e : Entry) (b : Bool) → is_denied e.acts ≡ b → Sound (tables contents h) →
    IsOfOneKey (tables contents h) → Turns (tables contents h) → IsBarred contents h → IsOwed limits (tables contents h) e → IsBoundBehindDooms contents (e ∷ h)
binds_by limits contents h e false accepted s one turns barred owed =
    let t = tables contents h in
    let bars : Bars t (λ key. barrier contents key h) = record { within = barred.within; founded = barred.founded; awaited = barred.awaited } in
    subst (λ (u : Tables). (r c : ℕ) (v : Representation) → IsNewlyBound t u r c → u.representation r ≡ Some v → barrier contents v.key (e ∷ h) < r)
    (next_tables contents h e accepted)
    (λ r c v becomes after. becomes_behind limits t e (record { owed = owed; not_denied = accepted }) s one turns (λ key. barrier contents key h) bars r c
    v becomes after)
binds_by limits contents h e true denied s one turns barred owed =
    let t = tables contents h in
    subst (λ (u : Tables). (r c : ℕ) (v : Representation) → IsNewlyBound t u r c → u.representation r ≡ Some v → barrier contents v.key (e ∷ h) < r)
    (denied_tables contents h e denied)
    (λ r c v becomes after. absurd (was_bound t r c becomes))
  where
    was_bound : (t : Tables) (r c : ℕ) → IsNewlyBound t (after_denied t e) r c → ⊥
    was_bound t r c becomes = by_bound becomes.k becomes.bound
      where
        by_bound : (k : Consumer) → IsBound (after_denied t e) r c k → ⊥
        by_bound k (is_bound lo hi how row at) = becomes.unbound k (is_bound lo hi how row at)

pub binds_behind : (limits : Limits) (contents : Contents) (h : History) (e : Entry) → Sound (tables contents h) → IsOfOneKey (tables contents h) →
    Turns (tables contents h) → IsBarred contents h → IsOwed limits (tables contents h) e → IsBoundBehindDooms contents (e ∷ h)
binds_behind limits contents h e s one turns barred owed = binds_by limits contents h e (is_denied e.acts) refl s one turns barred owed

item_row : (contents : Contents) (r : ℕ) (o : Option Content) (v : Representation) → AreNumbered contents → item_of contents r ≡ o →
    option_map representation_of_content o ≡ Some v → 0 < r
item_row contents r None v numbered is row = absurd (none_some v row)
item_row contents r (Some item) v numbered is row = numbered r item is

pub barrier_begins : BarrierBegins
unfolding tables
barrier_begins contents numbered = record {
  within = λ key. omega arith;
  founded = λ r v row fresh. item_row contents r (item_of contents r) v numbered refl row;
  awaited = λ x w row bare way unshown. absurd (none_some w row);
}
