-- What is being written for several has a reader.
--
-- By where the writing comes from (`reader_from`). One that was on had a reader. If that leaves, another reads on, or
-- it was the last: then the exchange is closed and the writing over (`last_closes`, `by_leaver`). A head that resumes
-- or founds dooms nothing and sends nobody back (`binding`). So its consumer stands where the head puts it, and is
-- bound there (`head_stands`). `has_bound_kept` joins the three.
use Rattle.std.{proofs.{Common.{◌≡◌, ◌≢◌, ◌⊎◌, inl, inr, ℕ, List, [], ◌∷◌, Bool, true, false, Option, Some, None, refl, ap, sym, ◌∙◌, subst, arith}, lemmas.Bool.Decides.{nat_tests}}, specs.{Prelude.{◌&&◌, ◌||◌, ◌==◌, not, nat_eq, filter}, List.{list_all}}}
use Rattle.hc_text.proofs.Basics.{or_left, some_same as number_of, and_left, and_right, bool_cases, not_some as none_some, never_true as not_so, or_right}
use Rattle.hc_effects.proofs.Vocabulary.{leaves_in, closes_in, Event, Response, HeadCase, Place, BoundBy, case_at, head_view, is_founding, is_joining, must_close, is_left, is_left_by, leaver, leaver_by, consumer_heard, consumer_acted, becomes_shared, by_head, place_by_case, due_after, is_number, doomed_key_of, doomed_in, doomed_by_head, doomed_by_case, is_key, Entry, exchange_heard, exchange_acted, promise_in, is_open, entry_of, IsAwaiting, is_written, is_bound, is_bound_place, bound, shared_exchange, Tables, Exchange, Representation, Consumer, may_stand, Numbered, Among, IsBound, starts_over, sends_back, after_accepted, route_of, head_case, has_loss, writer_at, event, case, place, by, route}
use Rattle.hc_model.specs.Sound as sound
use Rattle.hc_effects.proofs.{ApartKeeps.{is_on, was_written, founded_shared}, Basics.{false_true, number_is}, BoundKeeps.{binds_kept}, Closed.{before, closes}, FirstKeeps.{case_is, is_new}, Forward.{is_kept, after_is}, MemberStays.{member_stays}, NamesKeep.{names_are_kept}, NumbersKeep.{numbers_are_kept}, PieceKeeps.{eq_cases}, ExclusiveWriters.{writer_some, bound_some}, RepFrom.{RepFrom, rep_from, IsResumed}, Said.{leaving_by}, SaidActs.{leaves_leaver}, ToBeShown.{heard_place}, FoundBy.{CaseBy, case_by}, Waiters.{IsWaiter, waiter_of}, WriterEnds.{all_same}, StaysOn.{awaiting_keeps, settled, stays_by as stays_unless}, Step.{Step}}
use Rattle.hc_effects.proofs.RepFrom as rep
use Rattle.hc_effects.proofs.FoundBy as cases

-- LISTS OF READERS

pub among_passes : (test : ℕ → Bool) (d : ℕ) (ds : List ℕ) → Among d (filter test ds) → test d ≡ true
among_passes test d [] there = absurd there
among_passes test d (z ∷ ds) there = elim (bool_cases (test z)) [
  | inr off ↦ among_passes test d ds (rw off at there)
  | inl taken ↦
      let either : (z ≡ d) ⊎ Among d (filter test ds) = rw taken at there in
      elim either [
        | inl here ↦ sym (ap test here) ∙ taken
        | inr more ↦ among_passes test d ds more
      ]
]

pub some_among : (ds : List ℕ) → ds ≢ [] → (d : ℕ) × Among d ds
some_among [] some = absurd (some refl)
some_among (d ∷ ds) some = (d, inl refl)

-- one that isn't l, where not all are
other_among : (l : ℕ) (ds : List ℕ) → list_all (λ d. d == l) ds ≡ false → (d : ℕ) × Among d ds × (d ≡ l → ⊥)
other_among l [] h = absurd (let no : true ≡ false = h in cc)
other_among l (d ∷ ds) h = elim (eq_cases d l) [
  | inr off ↦ (d, inl refl, off.1)
  | inl here ↦ let all = other_among l ds (rw here.0 at h) in (all.0, inr all.1, all.2)
]

-- A READER OF r

pub bound_at : (t : Tables) (r d : ℕ) (k : Consumer) (p : Place) → t.consumer d ≡ Some k → k.place ≡ p → is_bound_place r p ≡ true → IsBound t r d k
bound_at t r d k (place.Bound q lo hi how) row at h =
    let test : nat_eq q r ≡ true = h in
    let same : q ≡ r = grind (arith, nat_tests) in
    sound.is_bound lo hi how row (at ∙ ap (λ z. place.Bound z lo hi how) same)
bound_at t r d k _ row at h = absurd (false_true h)

pub bound_row : (t : Tables) (r d : ℕ) (z : Option Consumer) → t.consumer d ≡ z → is_bound r z ≡ true → (k : Consumer) × IsBound t r d k
bound_row t r d None row h = absurd (false_true h)
bound_row t r d (Some k) row h = (k, bound_at t r d k k.place row refl h)

pub reader_of : (t : Tables) (r d : ℕ) → Among d (bound t r) → (k : Consumer) × IsBound t r d k
unfolding bound
reader_of t r d there = bound_row t r d (t.consumer d) refl (among_passes (λ c. is_bound r (t.consumer c)) d t.starts there)

module _ (step : Step) (stand : may_stand step.limits step.tables (entry_of step.limits step.tables step.now step.event step.flaw) ≡ true) where
  open step use {limits, tables as t, now, flaw, sound as s, event as ev, accepted as goes}

  abbrev e : Entry
  e = entry_of limits t now ev flaw

  abbrev b : Entry
  b = before limits t now flaw s ev

  abbrev now_on : Tables
  now_on = after_accepted t e

  numbered : Numbered now_on
  numbered = record {
    lists = numbers_are_kept limits t now flaw s ev goes;
    names = names_are_kept limits t now flaw s ev goes;
    bound_to = λ r c k reader. binds_kept limits t now flaw s ev goes r c k reader;
  }

  read_by : (r c : ℕ) → (u : Consumer) × IsBound now_on r c u → bound now_on r ≢ []
  read_by r c all = bound_some now_on r c all.0 numbered all.1

  -- WHO DOESN'T LEAVE

  stays_by : (r c : ℕ) (k : Consumer) (v : Representation) → IsBound t r c k → t.representation r ≡ Some v → is_written t v ≡ true →
      (leaver b ≡ Some c → ⊥) → (u : Consumer) × IsBound now_on r c u
  stays_by r c k v (sound.is_bound lo hi how row at) there on stays =
      member_stays step c r lo hi how k v row at there on (λ here. stays (ap (λ z. leaver_by z b.acts) here))
      (not_so (leaves_in c e.acts) (λ leaves. stays (leaves_leaver limits t now flaw s ev c leaves)))

  -- THE LAST READER CLOSES IT

  heard_open : (x : ℕ) (v : Event) (w : Exchange) → (exchange_heard t e x v w).is_open ≡ (exchange_heard t b x v w).is_open
  heard_open x v w = grind (arith, nat_tests)

  -- what stays open had not to be closed
  pub not_must : (x : ℕ) (w : Exchange) → t.exchange x ≡ Some w → is_open (now_on.exchange x) ≡ true → must_close t b x w ≡ true → ⊥
  not_must x w row on must =
      let is : now_on.exchange x ≡ Some (exchange_acted x e.acts (exchange_heard t e x ev w)) = after_is t e x w (t.exchange x) row in
      let acted : (not (closes_in x e.acts) && (exchange_heard t e x ev w).is_open) ≡ true = sym (ap is_open is) ∙ on in
      let heard : (exchange_heard t b x ev w).is_open ≡ true = sym (heard_open x ev w) ∙ and_right _ _ acted in
      let shut : closes_in x e.acts ≡ true = closes limits t now flaw s ev x w row must heard in
      let off : not (closes_in x e.acts) ≡ true = and_left _ _ acted in
      false_true (sym (ap not shut) ∙ off)

  shared_is : (r l x : ℕ) (k : Consumer) (v : Representation) → IsBound t r l k → t.representation r ≡ Some v → is_written t v ≡ true →
      v.writer ≡ Some x → list_all (λ d. d == l) (bound t r) ≡ true → is_left_by t x l (Some k) ≡ true
  shared_is r l x k v it5 there on writer all = grind (arith, nat_tests)

  last_closes : (r l x : ℕ) (k : Consumer) (v : Representation) → leaver b ≡ Some l → IsBound t r l k → t.representation r ≡ Some v →
      is_written t v ≡ true → v.writer ≡ Some x → list_all (λ d. d == l) (bound t r) ≡ true → is_open (now_on.exchange x) ≡ true → ⊥
  last_closes r l x k v leaves reader there on writer all open_now =
      let grows = (s.rows r v there).growing x on writer in
      let left : is_left t x (leaver b) ≡ true = ap (is_left t x) leaves ∙
      (ap (is_left_by t x l) (row_of reader) ∙ shared_is r l x k v reader there on writer all) in
      not_must x grows.0 (grows.1).row open_now (or_right _ _ left)
    where
      row_of : IsBound t r l k → t.consumer l ≡ Some k
      row_of (sound.is_bound lo hi how row at) = row

  by_leaver : (r x : ℕ) (v : Representation) (z : Option ℕ) → leaver b ≡ z → t.representation r ≡ Some v → is_written t v ≡ true → v.writer ≡ Some x →
      is_open (now_on.exchange x) ≡ true → bound now_on r ≢ []
  by_leaver r x v None leaves there on writer open_now =
      let one = some_among (bound t r) (s.writes.has_bound r v there on) in
      let reader = reader_of t r one.0 one.1 in
      read_by r one.0 (stays_by r one.0 reader.0 v reader.1 there on (λ is. none_some one.0 (sym leaves ∙ is)))
  by_leaver r x v (Some l) leaves there on writer open_now = by_test (list_all (λ d. d == l) (bound t r)) refl
    where
      by_test : (a : Bool) → list_all (λ d. d == l) (bound t r) ≡ a → bound now_on r ≢ []
      by_test false some =
          let other = other_among l (bound t r) some in
          let reader = reader_of t r other.0 other.1 in
          read_by r other.0 (stays_by r other.0 reader.0 v reader.1 there on (λ is. other.2 (number_of other.0 l (sym is ∙ leaves))))
      by_test true all =
          let one = some_among (bound t r) (s.writes.has_bound r v there on) in
          let same : one.0 ≡ l = all_same l one.0 (bound t r) all one.1 in
          let reader = reader_of t r l (subst (λ d. Among d (bound t r)) same one.1) in
          absurd (last_closes r l x reader.0 v leaves reader.1 there on writer all open_now)

  -- BY A HEAD

  head_leaves : (c x : ℕ) (response : Response) → ev ≡ event.Head x response → leaves_in c e.acts ≡ false
  head_leaves c x response here =
      not_so (leaves_in c e.acts)
      (λ leaves. let by_poll = leaving_by limits t now flaw s ev goes c leaves in let no : event.Head x response ≡ event.Poll c by_poll.want = sym here ∙
      by_poll.poll.at in cc)

  head_place : (c x : ℕ) (response : Response) (w : Exchange) (k : Consumer) (z : Option Exchange) → z ≡ Some w → w.c ≡ c →
      (by_head t e c x response z k).place ≡ place_by_case x response w k (case_at t e)
  head_place c x response w k z is mine = grind (arith, nat_tests)

  -- a head that binds its consumer, or leaves it bound: it dooms nothing, and sends nobody back
  binding : (g : Option HeadCase) → ((is_founding g || is_joining g) ≡ true) → (w : Exchange) (response : Response) →
      (doomed_by_case g w response ≡ None) × (sends_back g ≡ false)
  binding None h w response = absurd (false_true h)
  binding (Some case.FoundsWhole) h w response = (refl, refl)
  binding (Some case.FoundsRange) h w response = (refl, refl)
  binding (Some case.FirstReplaced) h w response = (refl, refl)
  binding (Some case.FirstJoins) h w response = (refl, refl)
  binding (Some case.LaterJoins) h w response = (refl, refl)
  binding (Some case.DirectBad) h w response = absurd (false_true h)
  binding (Some case.DirectTaken) h w response = absurd (false_true h)
  binding (Some case.TurnBad) h w response = absurd (false_true h)
  binding (Some case.Validated) h w response = absurd (false_true h)
  binding (Some case.NotValidated) h w response = absurd (false_true h)
  binding (Some case.TurnServerError) h w response = absurd (false_true h)
  binding (Some case.PassesBy) h w response = absurd (false_true h)
  binding (Some case.FirstBad) h w response = absurd (false_true h)
  binding (Some case.FirstServerError) h w response = absurd (false_true h)
  binding (Some case.FirstChanged) h w response = absurd (false_true h)
  binding (Some case.FirstPassesBy) h w response = absurd (false_true h)
  binding (Some case.LaterBad) h w response = absurd (false_true h)
  binding (Some case.LaterChanged) h w response = absurd (false_true h)

  module _ (c x : ℕ) (response : Response) (w : Exchange) (k : Consumer) (is : IsWaiter t c x k w) (here : ev ≡ event.Head x response)
      (binds : (is_founding (case_at t e) || is_joining (case_at t e)) ≡ true) where
    doomed_none : doomed_key_of t e ≡ None
    unfolding doomed_key_of
    doomed_none = ap (doomed_in t e) here ∙ (ap (doomed_by_head t e response) is.exchange_row ∙ (binding (case_at t e) binds w response).0)

    pub stays_on : starts_over t e c k ≡ false
    stays_on = stays_unless t e c k (awaiting_keeps t e c x w k.place is.at)
        (λ doom waits. false_true (sym (ap (λ z. is_key z k.request.key) doomed_none) ∙ doom))
        (λ back mine. false_true (sym (binding (case_at t e) binds w response).1 ∙ back))

    -- its consumer stands where the head puts it
    pub head_stands : (u : Consumer) × (now_on.consumer c ≡ Some u) × (u.place ≡ place_by_case x response w k (case_at t e))
    head_stands =
        let on = is_kept t e c k is.row in
        let made : due_after t e c k (consumer_acted t e c (consumer_heard t e c ev k)) ≡ on.u =
        sym (settled t e c k (consumer_acted t e c (consumer_heard t e c ev k)) stays_on) ∙ on.is in
        let placed = heard_place step c 0 0 None by.Plan k on.u
        (λ d want polls. let no : event.Head x response ≡ event.Poll d want = sym here ∙ polls in cc)
        (record { row = is.row; stays = stays_on; leaves = head_leaves c x response here; is = made }) in
        (on.u, on.row, placed ∙ (ap (λ v. (consumer_heard t e c v k).place) here ∙ head_place c x response w k (t.exchange x) is.exchange_row is.for_it))

  pub joins_way : (t : Tables) (lost : Bool) (w : Exchange) (response : Response) (g : HeadCase) → CaseBy (head_view t lost w response) g →
      is_joining (Some g) ≡ true → route_of w.need ≡ route.Hole
  joins_way t lost w response _ (cases.first_joins way shown joins good) on = way
  joins_way t lost w response _ (cases.later_joins way shown joins good) on = way
  joins_way t lost w response _ _ on = absurd (false_true on)

  pub joins_place : (x : ℕ) (response : Response) (w : Exchange) (k : Consumer) (g : Option HeadCase) → is_joining g ≡ true →
      place_by_case x response w k g ≡ k.place
  joins_place x response w k None h = absurd (false_true h)
  joins_place x response w k (Some case.FirstJoins) h = refl
  joins_place x response w k (Some case.LaterJoins) h = refl
  joins_place x response w k (Some case.FoundsWhole) h = absurd (false_true h)
  joins_place x response w k (Some case.FoundsRange) h = absurd (false_true h)
  joins_place x response w k (Some case.FirstReplaced) h = absurd (false_true h)
  joins_place x response w k (Some case.DirectBad) h = absurd (false_true h)
  joins_place x response w k (Some case.DirectTaken) h = absurd (false_true h)
  joins_place x response w k (Some case.TurnBad) h = absurd (false_true h)
  joins_place x response w k (Some case.Validated) h = absurd (false_true h)
  joins_place x response w k (Some case.NotValidated) h = absurd (false_true h)
  joins_place x response w k (Some case.TurnServerError) h = absurd (false_true h)
  joins_place x response w k (Some case.PassesBy) h = absurd (false_true h)
  joins_place x response w k (Some case.FirstBad) h = absurd (false_true h)
  joins_place x response w k (Some case.FirstServerError) h = absurd (false_true h)
  joins_place x response w k (Some case.FirstChanged) h = absurd (false_true h)
  joins_place x response w k (Some case.FirstPassesBy) h = absurd (false_true h)
  joins_place x response w k (Some case.LaterBad) h = absurd (false_true h)
  joins_place x response w k (Some case.LaterChanged) h = absurd (false_true h)

  -- the consumer of a head that joins reads what it joins
  pub awaiting_bound : (x r : ℕ) (w : Exchange) (p : Place) → route_of w.need ≡ route.Hole → w.aim ≡ Some r → IsAwaiting x w p → (lo : ℕ) ×
      (hi : Option ℕ) × (how : BoundBy) × (p ≡ place.Bound r lo hi how)
  awaiting_bound x r w p hole aim it6 = grind (arith, nat_tests)

  by_resumed : (r : ℕ) (v : Representation) (z : Option ℕ) → (R : IsResumed t e r v z) → bound now_on r ≢ []
  by_resumed r v z R =
      let new = is_new limits t now flaw s ev goes R.x R.response R.w R.at R.row in
      let got = waiter_of step R.x R.w R.row new.is_open new.bare in
      let g = head_case (head_view t (has_loss e.acts) R.w R.response) in
      let is_case = case_is t e R.x R.response R.w R.at R.row in
      let hole : route_of R.w.need ≡ route.Hole =
      joins_way t (has_loss e.acts) R.w R.response g (case_by (head_view t (has_loss e.acts) R.w R.response)) (sym (ap is_joining is_case) ∙ R.joins) in
      let aim : R.w.aim ≡ Some r = number_is R.w.aim r (and_right _ (is_number R.w.aim r) (and_left _ _ R.renews)) in
      let at = awaiting_bound R.x r R.w got.0.place hole aim got.1.at in
      let st = head_stands R.w.c R.x R.response R.w got.0 got.1 R.at (or_right _ _ R.joins) in
      read_by r R.w.c (st.0, sound.is_bound at.0 at.1 at.2 st.1 (st.2 ∙ (joins_place R.x R.response R.w got.0 (case_at t e) R.joins ∙ at.3)))

  -- and that of one that founds with all of a body reads what it founds
  founds_place : (r x : ℕ) (response : Response) (w : Exchange) (k : Consumer) (g : Option HeadCase) → becomes_shared t e response w g ≡ true →
      is_founding g ≡ true → place_by_case x response w k g ≡ place.Bound x 0 (promise_in w response) by.Founding
  founds_place r x response w k None shared_exchange on = absurd (false_true on)
  founds_place r x response w k (Some case.FoundsWhole) shared_exchange on = refl
  founds_place r x response w k (Some case.FirstReplaced) shared_exchange on = refl
  founds_place r x response w k (Some case.FoundsRange) shared_exchange on = absurd (false_true shared_exchange)
  founds_place r x response w k (Some case.FirstJoins) shared_exchange on = absurd (false_true on)
  founds_place r x response w k (Some case.LaterJoins) shared_exchange on = absurd (false_true on)
  founds_place r x response w k (Some case.DirectBad) shared_exchange on = absurd (false_true on)
  founds_place r x response w k (Some case.DirectTaken) shared_exchange on = absurd (false_true on)
  founds_place r x response w k (Some case.TurnBad) shared_exchange on = absurd (false_true on)
  founds_place r x response w k (Some case.Validated) shared_exchange on = absurd (false_true on)
  founds_place r x response w k (Some case.NotValidated) shared_exchange on = absurd (false_true on)
  founds_place r x response w k (Some case.TurnServerError) shared_exchange on = absurd (false_true on)
  founds_place r x response w k (Some case.PassesBy) shared_exchange on = absurd (false_true on)
  founds_place r x response w k (Some case.FirstBad) shared_exchange on = absurd (false_true on)
  founds_place r x response w k (Some case.FirstServerError) shared_exchange on = absurd (false_true on)
  founds_place r x response w k (Some case.FirstChanged) shared_exchange on = absurd (false_true on)
  founds_place r x response w k (Some case.FirstPassesBy) shared_exchange on = absurd (false_true on)
  founds_place r x response w k (Some case.LaterBad) shared_exchange on = absurd (false_true on)
  founds_place r x response w k (Some case.LaterChanged) shared_exchange on = absurd (false_true on)

  by_founded : (r x : ℕ) (response : Response) (w : Exchange) → ev ≡ event.Head r response → t.exchange r ≡ Some w → is_founding (case_at t e) ≡ true →
      writer_at r response ≡ Some x → bound now_on r ≢ []
  by_founded r x response w here row on writer =
      let new = is_new limits t now flaw s ev goes r response w here row in
      let got = waiter_of step r w row new.is_open new.bare in
      let shared_exchange = founded_shared step stand r x response w (case_at t e) here row refl on writer in
      let st = head_stands w.c r response w got.0 got.1 here (or_left _ _ on) in
      read_by r w.c (
        st.0,
        sound.is_bound 0 (promise_in w response) by.Founding st.1
            (st.2 ∙ founds_place r r response w got.0 (case_at t e) shared_exchange on),
      )

  reader_from : (r x : ℕ) (v : Representation) → is_written now_on v ≡ true → v.writer ≡ Some x → RepFrom t e r v → bound now_on r ≢ []
  reader_from r x v on writer (rep.was q kept) = elim kept.writer_is [
    | inl same ↦
        let all = was_written step stand r x q v kept (is_on now_on v x on writer) same writer in
        by_leaver r x q (leaver b) refl kept.row all.0 all.1 (is_on now_on v x on writer).open_now
    | inr R ↦ by_resumed r q v.writer R
  ]
  reader_from r x v on writer (rep.founded response w none here row founding made) =
      by_founded r x response w here row founding (ap (λ (z : Representation). z.writer) made ∙ writer)

  by_writer : (r : ℕ) (v : Representation) (z : Option ℕ) → v.writer ≡ z → now_on.representation r ≡ Some v → is_written now_on v ≡ true → bound now_on r ≢ []
  by_writer r v None writer row on = absurd (writer_some now_on v on writer)
  by_writer r v (Some x) writer row on = reader_from r x v on writer (rep_from t e r (t.representation r) v refl row)

  -- What is being written for several has a reader.
  pub has_bound_kept : (r : ℕ) (v : Representation) → now_on.representation r ≡ Some v → is_written now_on v ≡ true → bound now_on r ≢ []
  has_bound_kept r v row on = by_writer r v v.writer refl row on
