-- Nothing is due for whoever reads what is being written for several.
--
-- By where the writing comes from (`by_rep`). While one is on its exchange neither ends nor faults, and nothing of it
-- is lost; so nothing becomes due (`member_undue`). A head that founds or joins makes nothing due either (`no_cause`,
-- `head_undue`). Who waited for a head that resumes had nothing due, and so nobody beside it (`resumed_undue`); who
-- founds had nothing due too (`founder_undue`). `undue_kept` joins the three.
use Rattle.std.{proofs.Common.{◌≡◌, inl, inr, ℕ, Bool, true, false, Option, Some, None, refl, ap, sym, ◌∙◌, subst}, specs.Prelude.{if◌then◌else◌, is_some, ◌||◌}}
use Rattle.hc_text.proofs.Basics.{or_right, or_left, and_left, and_right, not_some as none_some, never_true as not_so, not_true, same_some as same_row, some_inj}
use Rattle.hc_effects.proofs.Vocabulary.{Opening, opening_in, Event, Response, HeadCase, head_case, is_same_number, route_of, BoundBy, has_loss, loses_in, case_at, head_view, is_founding, is_joining, consumer_heard, consumer_acted, is_number, Entry, exchange_in, is_for, is_open, becomes_due, cause_of_stop, cause_of_loss, cause_of_head, cause_by_case, stop_cause, entry_of, IsAwaiting, is_written, source, reads, Tables, Exchange, Representation, Consumer, may_stand, IsBound, IsFirst, IsExclusiveWriter, after_accepted, loses_group, event, case, route, place}
use Rattle.hc_model.specs.Owners as owners
use Rattle.hc_model.specs.Sound as sound
use Rattle.hc_effects.proofs.{ApartKeeps.{IsOn, is_on, was_written}, Basics.{number_is, false_true, or_false}, BoundFrom.{BoundFrom, bound_from}, BoundKeeps.{founding_is}, Dues.{undue_of, stop_none, loss_at, loss_free, due_none}, ExchangeFrom.{ExchangeFrom, exchange_from}, FirstKeeps.{case_is, is_new, open_free}, FoundBy.{case_by, founding_by, founds_way}, MemberStays.{head_not}, OwnersKeep.{is_opened}, PieceKeeps.{eq_cases}, ExclusiveWriters.{writer_some}, RepFrom.{RepFrom, rep_from, IsKept, IsResumed}, Stops.{source_is}, HasBound.{joins_way}, Waiters.{IsWaiter, waiter_of, unwritten, waits_undue}, Step.{Step}}
use Rattle.hc_effects.proofs.BoundFrom as from
use Rattle.hc_effects.proofs.ExchangeFrom as exchange
use Rattle.hc_laws.proofs.FirstDueKeeps.{shown_due}
use Rattle.hc_effects.proofs.RepFrom as rep

-- by a head that founds or joins nothing becomes due
pub no_cause : (g : Option HeadCase) (x : ℕ) → (is_founding g || is_joining g) ≡ true → cause_by_case g x ≡ None
no_cause (Some case.FoundsWhole) x h = refl
no_cause (Some case.FoundsRange) x h = refl
no_cause (Some case.FirstReplaced) x h = refl
no_cause (Some case.FirstJoins) x h = refl
no_cause (Some case.LaterJoins) x h = refl
no_cause _ x h = absurd (false_true h)

module _ (step : Step) (stand : may_stand step.limits step.tables (entry_of step.limits step.tables step.now step.event step.flaw) ≡ true) where
  open step use {limits, tables as t, now, flaw, sound as s, owners as o, event as ev, accepted as goes}

  abbrev e : Entry
  e = entry_of limits t now ev flaw

  abbrev now_on : Tables
  now_on = after_accepted t e

  head_opens : (x : ℕ) (response : Response) (p : Opening) → ev ≡ event.Head x response → opening_in e.acts ≡ Some p → ⊥
  head_opens x response p here opens = let opened = is_opened step p opens in let no : event.Head x response ≡ event.Poll p.c opened.want = sym here ∙
      opened.at in cc

  unlosing : (r : ℕ) (v : Representation) → loses_in r e.acts ≡ false → loses_group t e r v ≡ false
  unlosing r v kept = not_so _ (λ h. false_true (sym kept ∙ and_right _ _ (and_left _ _ h)))

  -- WHERE A WRITING GOES ON

  module _ (r c x lo : ℕ) (hi : Option ℕ) (how : BoundBy) (v : Representation) (a : Consumer) (there : t.representation r ≡ Some v)
      (on : is_written t v ≡ true) (writer : v.writer ≡ Some x) (kept : loses_in r e.acts ≡ false) (open_now : is_open (now_on.exchange x) ≡ true)
      (row : t.consumer c ≡ Some a) (at : a.place ≡ place.Bound r lo hi how) where
    -- its exchange neither ends nor faults
    goes_on : (z : Option Exchange) → now_on.exchange x ≡ z → is_open z ≡ true → (ev ≡ event.End x → ⊥) × (ev ≡ event.Fault x → ⊥)
    goes_on None after opened = absurd (false_true opened)
    goes_on (Some u) after opened = by_from (exchange_from t e x (t.exchange x) u refl after)
      where
        by_from : ExchangeFrom t e x u → (ev ≡ event.End x → ⊥) × (ev ≡ event.Fault x → ⊥)
        by_from (exchange.was w was same) = (same.unended opened, same.unfaulted opened)
        by_from (exchange.new p none opens here made) = absurd (false_true (sym (ap (λ (q : Option Exchange). is_some q) none) ∙ o.writers r x v there writer))

    apart_by : (y : ℕ) → (y ≡ x → ⊥) → is_same_number (Some x) (Some y) ≡ false
    apart_by y other = elim (eq_cases x y) [ inl here ↦ absurd (other (sym here.1)) | inr off ↦ off.0 ]

    by_source : (y : ℕ) → exchange_in ev ≡ Some y → (y ≡ x → ⊥) → cause_of_stop t e a ≡ None
    by_source y brings other =
        let from_x : source t a ≡ Some x = source_is t r c x v a s there (sound.is_bound lo hi how row at) on writer in
        ap (λ (b : Bool). if b then stop_cause t ev else None)
        (ap (λ z. is_same_number z (exchange_in ev)) from_x ∙ (ap (is_same_number (Some x)) brings ∙ apart_by y other))

    stop_by : (z : Event) → ev ≡ z → cause_of_stop t e a ≡ None
    stop_by (event.End y) here = by_source y (ap exchange_in here) (λ same. (goes_on (now_on.exchange x) refl open_now).0 (here ∙ ap event.End same))
    stop_by (event.Fault y) here = by_source y (ap exchange_in here) (λ same. (goes_on (now_on.exchange x) refl open_now).1 (here ∙ ap event.Fault same))
    stop_by _ here = stop_none t e a (ap (stop_cause t) here)

    head_by : (y : ℕ) (response : Response) (z : Option Exchange) → ev ≡ event.Head y response → t.exchange y ≡ z →
        (if is_for z c then cause_by_case (case_at t e) y else None) ≡ None
    head_by y response None here exchange_row = refl
    head_by y response (Some w) here exchange_row = elim (eq_cases w.c c) [
      | inr off ↦ rw off.0 refl
      | inl mine ↦ absurd (head_not step c r lo hi how a v row at there on y response w here exchange_row mine.1)
    ]

    head_none : (z : Event) → ev ≡ z → cause_of_head t e c z ≡ None
    head_none (event.Head y response) here = head_by y response (t.exchange y) here refl
    head_none _ here = refl

    pub member_undue : (a.due ≡ None) × (becomes_due t e c a ≡ None)
    member_undue = (
      s.writes.undue r c v a there (sound.is_bound lo hi how row at) on,
      undue_of t e c a (record { stop = stop_by ev refl; loss = loss_at t e c r lo hi how a v at there (unlosing r v kept); head = head_none ev refl }),
    )

  -- AT A HEAD THAT BEGINS A WRITING

  pub head_undue : (c x : ℕ) (response : Response) (a : Consumer) → ev ≡ event.Head x response →
      (is_founding (case_at t e) || is_joining (case_at t e)) ≡ true → cause_of_loss t e c a.place ≡ None → becomes_due t e c a ≡ None
  head_undue c x response a here binds loss =
      undue_of t e c a (record {
        stop = stop_none t e a (ap (stop_cause t) here);
        loss = loss;
        head = ap (cause_of_head t e c) here ∙
            by_test (is_for (t.exchange x) c);
      })
    where
      by_test : (b : Bool) → (if b then cause_by_case (case_at t e) x else None) ≡ None
      by_test true = no_cause (case_at t e) x binds
      by_test false = refl

  -- RESUMED

  none_lost : (r c : ℕ) (v : Representation) → v.is_lost ≡ false → IsExclusiveWriter t r v c → IsFirst t r c
  none_lost r c v fresh (sound.first kept is) = is
  none_lost r c v fresh (sound.alone lost is) = absurd (false_true (sym fresh ∙ lost))

  resumed_place : (r x : ℕ) (w : Exchange) (k : Consumer) → IsAwaiting x w k.place → route_of w.need ≡ route.Hole → w.aim ≡ Some r → (lo : ℕ) ×
      (hi : Option ℕ) × (how : BoundBy) × (k.place ≡ place.Bound r lo hi how)
  resumed_place r x w k (owners.direct way stands) hole aim = absurd (let no : route.Direct ≡ route.Hole = sym way ∙ hole in cc)
  resumed_place r x w k (owners.turn way stands) hole aim = absurd (let no : route.Turn ≡ route.Hole = sym way ∙ hole in cc)
  resumed_place r x w k (owners.hole q lo hi how way aimed stands) hole aim =
      (lo, hi, how, stands ∙ ap (λ z. place.Bound z lo hi how) (some_inj q r (sym aimed ∙ aim)))

  resumed_undue : (r c lo : ℕ) (hi : Option ℕ) (how : BoundBy) (v : Representation) (z : Option ℕ) (a : Consumer) → t.representation r ≡ Some v →
      IsResumed t e r v z → t.consumer c ≡ Some a → a.place ≡ place.Bound r lo hi how → (a.due ≡ None) × (becomes_due t e c a ≡ None)
  resumed_undue r c lo hi how v z a there R row at =
      let new = is_new limits t now flaw s ev goes R.x R.response R.w R.at R.row in
      let got = waiter_of step R.x R.w R.row new.is_open new.bare in
      let kept = or_false v.is_lost (loses_in r e.acts) (not_true (v.is_lost || loses_in r e.acts) (and_right _ _ R.renews)) in
      let g = head_case (head_view t (has_loss e.acts) R.w R.response) in
      let is_case = case_is t e R.x R.response R.w R.at R.row in
      let hole : route_of R.w.need ≡ route.Hole =
      joins_way step stand t (has_loss e.acts) R.w R.response g (case_by (head_view t (has_loss e.acts) R.w R.response))
      (sym (ap is_joining is_case) ∙ R.joins) in
      let stands = resumed_place r R.x R.w got.0 got.1.at hole (number_is R.w.aim r (and_right _ (is_number R.w.aim r) (and_left _ _ R.renews))) in
      let waits = waits_undue step r R.w.c R.x stands.0 stands.1 stands.2 v got.0 R.w got.1 stands.3 there in (
        o.first_due r R.w.c c v got.0 a there kept.0 (none_lost r R.w.c v kept.0 waits.1) got.1.row waits.0 (sound.is_bound lo hi how row at),
        head_undue c R.x R.response a R.at (or_right _ _ R.joins) (loss_at t e c r lo hi how a v at there (unlosing r v kept.1)),
      )

  -- FOUNDED

  pub founder_undue : (x c : ℕ) (response : Response) (w : Exchange) (k : Consumer) → ev ≡ event.Head x response → t.exchange x ≡ Some w →
      is_founding (case_at t e) ≡ true → IsWaiter t c x k w → IsAwaiting x w k.place → (k.due ≡ None) × (becomes_due t e c k ≡ None)
  founder_undue x c response w k here row on is (owners.direct way stands) =
      absurd (founds_way (head_view t (has_loss e.acts) w response) (head_case (head_view t (has_loss e.acts) w response))
      (founding_by (head_view t (has_loss e.acts) w response) (sym (ap is_founding (case_is t e x response w here row)) ∙ on)) way)
  founder_undue x c response w k here row on is (owners.turn way stands) = (
    o.idle_due c k is.row (ap reads stands),
    head_undue c x response k here (or_left _ _ on)
        (loss_free t e c k.place (λ r lo hi how at. let no : place.Turn x ≡ place.Bound r lo hi how = sym stands ∙ at in cc)),
  )
  founder_undue x c response w k here row on is (owners.hole r lo hi how way aim stands) =
      by_row (t.representation r) refl (s.numbered.bound_to r c k (sound.is_bound lo hi how is.row stands))
    where
      by_row : (z : Option Representation) → t.representation r ≡ z → is_some z ≡ true → (k.due ≡ None) × (becomes_due t e c k ≡ None)
      by_row None there some = absurd (false_true some)
      by_row (Some v) there some =
          let off : loses_group t e r v ≡ false = not_so _ (λ h. unwritten step c x k w is r lo hi how v v.writer stands there (and_right _ _ h) refl) in (
            (waits_undue step r c x lo hi how v k w is stands there).0,
            head_undue c x response k here (or_left _ _ on) (loss_at t e c r lo hi how k v stands there off),
          )

  -- EACH WAY TO BE BOUND

  module _ (r c lo : ℕ) (hi : Option ℕ) (how : BoundBy) (u : Consumer) (stands : u.place ≡ place.Bound r lo hi how) where
    settle : (a : Consumer) → from.IsRow t e c r lo hi how a u → (a.due ≡ None) × (becomes_due t e c a ≡ None) → u.due ≡ None
    settle a row none = due_none t e c a (consumer_acted t e c (consumer_heard t e c ev a)) u row.is (ap reads stands) none.0 none.1

    unfounded : (x : ℕ) (response : Response) (w : Exchange) (v : Representation) → ev ≡ event.Head x response → t.exchange x ≡ Some w → x ≡ r →
        t.representation r ≡ Some v → ⊥
    unfounded x response w v here row of_r there =
        none_some v (sym (sym (ap t.representation of_r) ∙ (is_new limits t now flaw s ev goes x response w here row).unfounded) ∙ there)

    by_old : (x : ℕ) (q v : Representation) → IsKept t e r q v → IsOn now_on v x → v.writer ≡ q.writer → v.writer ≡ Some x →
        BoundFrom t e c r lo hi how u → u.due ≡ None
    by_old x q v kept on same writer (from.stays a row at) =
        let all = was_written step stand r x q v kept on same writer in
        settle a row (member_undue r c x lo hi how q a kept.row all.0 all.1 all.2 on.open_now row.row at)
    by_old x q v kept on same writer (from.founds a y response w row here exchange_row mine of_r by_is all) =
        absurd (unfounded y response w q here exchange_row of_r kept.row)
    by_old x q v kept on same writer (from.opens a p row opens mine free way hole) =
        let all = was_written step stand r x q v kept on same writer in
        absurd (s.writes.has_bound r q kept.row all.0 (open_free limits t now flaw s ev goes c r a p row.row opens mine free way hole.current_is))
    by_old x q v kept on same writer (from.shows a z row is all) = shown_due step c r lo hi how a u z row stands is all

    by_resumed : (q v : Representation) → IsKept t e r q v → IsResumed t e r q v.writer → BoundFrom t e c r lo hi how u → u.due ≡ None
    by_resumed q v kept R (from.stays a row at) = settle a row (resumed_undue r c lo hi how q v.writer a kept.row R row.row at)
    by_resumed q v kept R (from.founds a y response w row here exchange_row mine of_r by_is all) =
        absurd (unfounded y response w q here exchange_row of_r kept.row)
    by_resumed q v kept R (from.opens a p row opens mine free way hole) = absurd (head_opens R.x R.response p R.at opens)
    by_resumed q v kept R (from.shows a z row is all) = shown_due step c r lo hi how a u z row stands is all

    by_founded : (response : Response) → ev ≡ event.Head r response → t.representation r ≡ None → BoundFrom t e c r lo hi how u → u.due ≡ None
    by_founded response here none (from.stays a row at) =
        absurd (let there = s.numbered.bound_to r c a (sound.is_bound lo hi how row.row at) in
        false_true (sym (ap (λ (z : Option Representation). is_some z) none) ∙ there))
    by_founded response here none (from.founds a y answer w row also exchange_row mine of_r by_is all) =
        let new = is_new limits t now flaw s ev goes y answer w also exchange_row in
        let got = waiter_of step y w exchange_row new.is_open new.bare in
        let one : got.0 ≡ a = same_row (t.consumer c) got.0 a (sym (ap t.consumer mine) ∙ got.1.row) row.row in
        let waiter : IsWaiter t c y a w = subst (λ (z : Consumer). IsWaiter t c y z w) one (subst (λ d. IsWaiter t d y got.0 w) mine got.1) in
        settle a row (founder_undue y c answer w a also exchange_row (founding_is t e c r lo hi how y answer w a (case_at t e) all) waiter waiter.at)
    by_founded response here none (from.opens a p row opens mine free way hole) = absurd (head_opens r response p here opens)
    by_founded response here none (from.shows a z row is all) = shown_due step c r lo hi how a u z row stands is all

    by_rep : (x : ℕ) (v : Representation) → is_written now_on v ≡ true → v.writer ≡ Some x → RepFrom t e r v → BoundFrom t e c r lo hi how u → u.due ≡ None
    by_rep x v on writer (rep.was q kept) way = elim kept.writer_is [
      | inl same ↦ by_old x q v kept (is_on now_on v x on writer) same writer way
      | inr R ↦ by_resumed q v kept R way
    ]
    by_rep x v on writer (rep.founded response w none here row founding made) way = by_founded response here none way

    by_writer : (v : Representation) (z : Option ℕ) → v.writer ≡ z → now_on.representation r ≡ Some v → is_written now_on v ≡ true →
        BoundFrom t e c r lo hi how u → u.due ≡ None
    by_writer v None writer row on way = absurd (writer_some now_on v on writer)
    by_writer v (Some x) writer row on way = by_rep x v on writer (rep_from t e r (t.representation r) v refl row) way

  -- Nothing is due for whoever reads what is being written for several.
  pub undue_kept : (r c : ℕ) (v : Representation) (u : Consumer) → now_on.representation r ≡ Some v → IsBound now_on r c u → is_written now_on v ≡ true →
      u.due ≡ None
  undue_kept r c v u row (sound.is_bound lo hi how also at) on =
      by_writer r c lo hi how u at v v.writer refl row on (bound_from t e c r lo hi how (t.consumer c) u refl also at)
