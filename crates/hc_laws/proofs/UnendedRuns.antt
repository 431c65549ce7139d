-- The detached reader of what has no known end reads from the open exchange that founded it: in every run.
--
-- Such an exchange brings all of the body, and nothing tells its length (`IsEndless`). It needn't be closed, as its
-- reader is there (`not_must`). Its end would tell the length, and its fault would be a failure that is due; so it
-- stays open at each event (`heard_on`). Either the reader went on alone before (`went_on`), or it survives the loss
-- and gets the exchange of the writing (`survives`). `unended_kept` joins the two.
use Rattle.std.{proofs.{Common.{◌≡◌, ◌⊎◌, inl, inr, ℕ, List, length, Bool, true, false, Option, Some, None, refl, ap, sym, ◌∙◌, subst, arith}, lemmas.Bool.Decides.{nat_tests}}, specs.{Prelude.{◌&&◌, ◌++◌, is_some, is_none, nat_eq, unwrap_or, if◌then◌else◌}, Option.{option_or}}}
use Rattle.hc_text.proofs.Basics.{and_left, and_right, not_some as none_some, never_true as not_so, or_cases, same_some as same_row, some_inj}
use Rattle.hc_effects.proofs.Vocabulary.{Opening, closes_in, opening_in, Event, Response, is_same_number, BoundBy, case_at, must_close, is_refused, brings_head, is_doomed, has_no_survivor, is_left, leaver, leaver_by, consumer_heard, consumer_acted, is_number, Unended, Entry, exchange_acted, exchange_heard, with_piece, exchange_in, family, is_open, is_reached, promised_bytes, becomes_due, stop_cause, entry_of, OfRuns, Measures, IsMeasured, is_written, own_open, shared_exchange, source, reads, Tables, Exchange, Representation, Consumer, IsBound, IsFirst, IsGrowing, after_accepted, brings_body, came_alone, loses_group, survivor, cause, event, place}
use Rattle.hc_model.specs.Measures as measures
use Rattle.hc_model.specs.Sound as sound
use Rattle.hc_effects.proofs.{AboutKeeps.{IsOwn, own_open_of, own_open_is}, ApartKeeps.{is_on}, Basics.{false_true}, Beside.{IsBeside}, BoundFrom.{IsRow}, Closed.{before}, Dues.{due_before, undue_parts}, FirstKeeps.{is_new}, Forward.{after_is}, LossBy.{IsReal}, OwnFrom.{OwnFrom, own_from}, ExclusiveWriters.{writer_some}, PieceKeeps.{eq_cases}, RepFrom.{IsKept, IsEnded}, Said.{leaving_by}, SaidActs.{leaver_leaves}, Stops.{source_is}, Survives.{goes_on}, ToBeShown.{heard_place}, Unclosed.{had_to}, Waiters.{unleft, waiter_as}, GroupStops.{ended_total}, WriterEnds.{none_of}, Step.{Step, step_of}, OpensLater.{opens_later}}
use Rattle.hc_laws.proofs.{GoAlone.{lost_of, was_there, left_loses, unwritten_lost}, OwnNone.{IsShared, own_none}, ExclusiveWriterFrom.{ExclusiveWriterFrom, alone_from}, RunFacts.{in_runs}}
use Rattle.hc_effects.proofs.OwnFrom as own
use Rattle.hc_laws.proofs.ExclusiveWriterFrom as exclusive_writers

pub or_none : (a : Option ℕ) (n : ℕ) → option_or a (Some n) ≡ None → ⊥
or_none None n h = none_some n (sym h)
or_none (Some a) n h = none_some a (sym h)

none_some_test : (z : Option ℕ) (n : ℕ) → z ≡ Some n → is_none z ≡ true → ⊥
none_some_test None n is none = none_some n is
none_some_test (Some a) n is none = false_true none

-- an open exchange that brings all of r, of which nothing tells the length
pub record IsEndless (t : Tables) (r x : ℕ) (w : Exchange) : Type 0 where
  pub row : t.exchange x ≡ Some w
  pub is_open : w.is_open ≡ true
  pub headed : is_some w.head ≡ true
  pub mine : x ≡ r
  pub unpromised : promised_bytes w ≡ None

endless : (t : Tables) (m : Measures t) (r x : ℕ) (v : Representation) (w : Exchange) → t.representation r ≡ Some v → v.head.total ≡ None →
    t.exchange x ≡ Some w → w.is_open ≡ true → is_some w.head ≡ true → family x w ≡ r → IsEndless t r x w
endless t m r x v w there none row on headed of_r = by_measure (m.brings x w v row on headed (ap t.representation of_r ∙ there))
  where
    by_measure : IsMeasured w v → IsEndless t r x w
    by_measure (measures.reported n total promise known ends) = absurd (none_some total (sym none ∙ known))
    by_measure (measures.unreported none_too unknown first alone came) = record {
      row = row;
      is_open = on;
      headed = headed;
      mine = sym (ap (λ (n : Option ℕ). unwrap_or n x) alone) ∙ of_r;
      unpromised = none_too;
    }

module _ (step : Step) (m : Measures step.tables) (i : IsBeside step.tables) (real : IsReal step.limits step.tables step.now step.event step.flaw) where
  open step use {limits, tables as t, now, flaw, sound as s, owners as o, event as ev, accepted as goes}

  abbrev e : Entry
  e = entry_of limits t now ev flaw

  abbrev b : Entry
  b = before limits t now flaw s ev

  abbrev now_on : Tables
  now_on = after_accepted t e

  module _ (r c lo : ℕ) (how : BoundBy) (k u : Consumer) (v p : Representation) (row : IsRow t e c r lo None how k u)
      (at : k.place ≡ place.Bound r lo None how) (stands : u.place ≡ place.Bound r lo None how) (there : t.representation r ≡ Some v)
      (kept : IsKept t e r v p) (none : p.head.total ≡ None) (undue : u.due ≡ None) where
    reader : IsBound t r c k
    reader = sound.is_bound lo None how row.row at

    dues : (k.due ≡ None) × (becomes_due t e c k ≡ None)
    dues = due_before t e c k (consumer_acted t e c (consumer_heard t e c ev k)) u row.is (ap reads stands) undue

    none_before : v.head.total ≡ None
    none_before = by_total kept.total_is
      where
        by_total : (p.head.total ≡ v.head.total) ⊎ IsEnded t e r v p.head.total → v.head.total ≡ None
        by_total (inl same) = sym same ∙ none
        by_total (inr ends) = absurd (or_none v.head.total _ (sym ends.total_is ∙ none))

    -- it doesn't leave
    cancels_not : ev ≡ event.Cancel c → ⊥
    cancels_not here =
        let heard : u.place ≡ (consumer_heard t e c ev k).place =
        heard_place step c r lo None how k u (λ d want polls. let no : event.Cancel c ≡ event.Poll d want = sym here ∙ polls in cc) row in
        let over : (consumer_heard t e c (event.Cancel c) k).place ≡ place.Over = (let test : nat_eq c c ≡ true = grind (arith, nat_tests) in rw test refl) in
        let no : place.Over ≡ place.Bound r lo None how = sym over ∙ (sym (ap (λ z. (consumer_heard t e c z k).place) here) ∙ (sym heard ∙ stands)) in cc

    -- THE EXCHANGE THAT FOUNDED IT STAYS OPEN

    module _ (w : Exchange) (is : IsEndless t r r w) (reads_it : source t k ≡ Some r)
        (spared : has_no_survivor t b r (family r w) (t.representation (family r w)) ≡ true → ⊥) (stays : is_left t r (leaver b) ≡ true → ⊥) where
      stop_is_none : exchange_in ev ≡ Some r → stop_cause t ev ≡ None
      stop_is_none brings =
          let test : is_same_number (source t k) (exchange_in ev) ≡ true = ap (λ z. is_same_number z (exchange_in ev)) reads_it ∙
          (ap (is_same_number (Some r)) brings ∙ (let self : nat_eq r r ≡ true = grind (arith, nat_tests) in self)) in
          sym (ap (λ (a : Bool). if a then stop_cause t ev else None) test) ∙ (undue_parts t e c k dues.1).stop

      headed_not : (response : Response) → ev ≡ event.Head r response → ⊥
      headed_not response here =
          false_true (sym (ap (λ (q : Option Response). is_some q) ((is_new limits t now flaw s ev goes r response w here is.row).bare)) ∙ is.headed)

      refused_not : (z : Event) → ev ≡ z → brings_head r z ≡ true → ⊥
      refused_not (event.Head y response) here h = headed_not response (here ∙ ap (λ n. event.Head n response) (grind (arith, nat_tests)))
      refused_not _ here h = false_true h

      not_must : must_close t b r w ≡ true → ⊥
      not_must must = elim (or_cases _ (is_left t r (leaver b)) must) [
        | inr left ↦ stays left
        | inl more ↦ elim (or_cases _ (has_no_survivor t b r (family r w) (t.representation (family r w))) more) [
          | inr lost ↦ spared lost
          | inl less ↦ elim (or_cases (is_refused (case_at t b) && brings_head r ev) (is_doomed t b r w) less) [
            | inl refused ↦ refused_not ev refl (and_right (is_refused (case_at t b)) (brings_head r ev) refused)
            | inr doomed ↦ none_of w.head (and_right w.is_open _ (and_right _ _ (and_left _ _ doomed))) is.headed
          ]
        ]
      ]

      piece_on : (bytes : List ℕ) → (with_piece bytes w).is_open ≡ true
      piece_on bytes =
          let promise : is_reached (promised_bytes w) (length (w.body ++ bytes)) ≡ false = ap (λ q. is_reached q (length (w.body ++ bytes))) is.unpromised in
          let on = is.is_open in
          rw (promise, on) refl

      heard_on : (z : Event) → ev ≡ z → (exchange_heard t e r z w).is_open ≡ true
      heard_on (event.Head y response) here = elim (eq_cases y r) [
        | inl same ↦ absurd (headed_not response (here ∙ ap (λ n. event.Head n response) same.1))
        | inr other ↦ rw other.0 is.is_open
      ]
      heard_on (event.Piece y bytes) here = elim (eq_cases y r) [
        | inl same ↦ rw same.0 (piece_on bytes)
        | inr other ↦ rw other.0 is.is_open
      ]
      heard_on (event.End y) here = elim (eq_cases y r) [
        | inl same ↦ absurd (or_none v.head.total _ (sym (ended_total step m r v p kept (here ∙ ap event.End same.1)) ∙ none))
        | inr other ↦ rw other.0 is.is_open
      ]
      heard_on (event.Fault y) here = elim (eq_cases y r) [
        | inl same ↦ absurd (none_some (cause.Net r)
            (sym (stop_is_none (ap exchange_in (here ∙ ap event.Fault same.1))) ∙ ap (stop_cause t) (here ∙ ap event.Fault same.1)))
        | inr other ↦ rw other.0 is.is_open
      ]
      heard_on _ here = is.is_open

      -- then it is still open, and its own where it is
      still_own : u.own ≡ Some r → own_open now_on u ≡ Some r
      still_own owned =
          let after_row = after_is t e r w (t.exchange r) is.row in
          let heard = heard_on ev refl in
          let shut = not_so (closes_in r e.acts) (λ closed. not_must (had_to limits t now flaw s ev r w is.row closed)) in
          own_open_is now_on u r (record { own = owned; w = exchange_acted r e.acts (exchange_heard t e r ev w); row = after_row; opened = rw shut heard })

    -- IT WENT ON ALONE

    module _ (lost_now : p.is_lost ≡ true) (is_alone : p.alone ≡ Some c) (after : now_on.representation r ≡ Some p)
        (after_row : now_on.consumer c ≡ Some u) where
      module _ (lost : v.is_lost ≡ true) (opened_own : own_open t k ≡ Some r) where
        own_of : IsOwn t k r
        own_of = own_open_of t k r opened_own

        abbrev w : Exchange
        w = own_of.w

        reads_own : source t k ≡ Some r
        reads_own = ap (λ (q : Option ℕ). option_or q (shared_exchange t k.place)) opened_own

        off : is_written t v ≡ false
        off = unwritten_lost step m i real r c lo None how u p after after_row stands lost_now is_alone k v row at there kept lost

        head_there : is_some w.head ≡ true
        head_there = by_head w.head refl
          where
            by_head : (h : Option Response) → w.head ≡ h → is_some h ≡ true
            by_head None bare = absurd (none_some v (sym (s.numbered.names.unfounded r w own_of.row bare) ∙ there))
            by_head (Some response) is = refl

        family_is : family r w ≡ r
        family_is = ap (λ (n : Option ℕ). unwrap_or n r) (o.founders r w v own_of.row there)

        feeds : IsEndless t r r w
        feeds = endless t m r r v w there none_before own_of.row own_of.opened head_there family_is

        spares : has_no_survivor t b r (family r w) (t.representation (family r w)) ≡ true → ⊥
        spares h =
            let here : has_no_survivor t b r r (Some v) ≡ true =
            sym (ap (λ n. has_no_survivor t b r n (t.representation n)) family_is ∙ ap (has_no_survivor t b r r) there) ∙ h in
            false_true (sym off ∙ and_right _ _ (and_right (is_number v.writer r) _ (and_left _ _ here)))

        goes_on_so : u.own ≡ Some r → own_open now_on u ≡ Some r
        goes_on_so = still_own w feeds reads_own spares (unleft step c r k row.row own_of.own cancels_not row.leaves)

        -- it opens nothing else
        opens_none : (g : Opening) → opening_in e.acts ≡ Some g → g.c ≡ c → ⊥
        opens_none g opens mine = none_some r (sym (opens_later step c r lo None how k g row.row at opens mine).at_hole.no_source ∙ reads_own)

        by_none : (k.own ≡ None) ⊎ IsShared t e c → ⊥
        by_none (inl none_own) = none_some r (sym none_own ∙ own_of.own)
        by_none (inr sh) =
            let new = is_new limits t now flaw s ev goes sh.x sh.response sh.w sh.at sh.row in
            let mine = (waiter_as step c sh.x k sh.w row.row sh.row sh.mine new.is_open new.bare).own in
            let one : sh.w ≡ w = same_row (t.exchange r) sh.w w (sym (ap t.exchange (some_inj sh.x r (sym mine ∙ own_of.own))) ∙ sh.row) own_of.row in
            false_true (sym (ap (λ (q : Option Response). is_some q) (sym (ap (λ (q : Exchange). q.head) one) ∙ new.bare)) ∙ head_there)

        by_from : (x : ℕ) → u.own ≡ Some x → OwnFrom t e c x u → own_open now_on u ≡ Some r
        by_from x owned (own.kept q its mine heard_mine) =
            goes_on_so (owned ∙ ap Some
            (some_inj x r (sym (sym (ap (λ (a : Consumer). a.own) (same_row (t.consumer c) q k its.row row.row)) ∙ mine) ∙ own_of.own)))
        by_from x owned (own.opened q g its opens mine number) = absurd (opens_none g opens mine)
        by_from x owned (own.left q its l) =
            absurd (false_true (sym off ∙
            (left_loses step m i real r c lo None how u p after after_row stands lost_now is_alone k v row at there kept x q its.row l).0))

        went_on : own_open now_on u ≡ Some r
        went_on = by_own u.own refl
          where
            by_own : (z : Option ℕ) → u.own ≡ z → own_open now_on u ≡ Some r
            by_own None is = absurd (by_none (own_none t e c k u row.is is))
            by_own (Some x) is = by_from x is (own_from t e c x (t.consumer c) u refl after_row is)

      -- IT SURVIVES THE LOSS

      module _ (losing : loses_group t e r v ≡ true) (is : survivor t r v ≡ Some c) (x : ℕ) (writer : v.writer ≡ Some x) where
        on : is_written t v ≡ true
        on = and_right _ _ losing

        grows : (w : Exchange) × IsGrowing t r v x w
        grows = (s.rows r v there).growing x on writer

        feeds_all : IsEndless t r x grows.0
        feeds_all = endless t m r x v grows.0 there none_before grows.1.row (sym (ap is_open grows.1.row) ∙ (is_on t v x on writer).open_now)
            grows.1.headed grows.1.family_is

        feeds_r : IsEndless t r r grows.0
        feeds_r = subst (λ n. IsEndless t r n grows.0) feeds_all.mine feeds_all

        family_r : family r grows.0 ≡ r
        family_r = ap (λ n. family n grows.0) (sym feeds_all.mine) ∙ grows.1.family_is

        unlost : has_no_survivor t b r (family r grows.0) (t.representation (family r grows.0)) ≡ true → ⊥
        unlost h =
            let here : has_no_survivor t b r r (Some v) ≡ true =
            sym (ap (λ n. has_no_survivor t b r n (t.representation n)) family_r ∙ ap (has_no_survivor t b r r) there) ∙ h in
            none_some_test (survivor t r v) c is (and_right (is_number v.writer r && loses_group t b r v) _ here)

        -- nobody leaves at what brings a body
        none_leaves : (d : ℕ) → leaver_by ev b.acts ≡ Some d → ⊥
        none_leaves d h = by_event ev refl h
          where
            brings : brings_body ev ≡ true
            brings = and_left _ _ (and_left _ _ losing)

            by_event : (z : Event) → ev ≡ z → leaver_by z b.acts ≡ Some d → ⊥
            by_event (event.Cancel a) here h = false_true (sym (ap brings_body here) ∙ brings)
            by_event _ here h = false_true
                (sym (ap brings_body (leaving_by limits t now flaw s ev goes d (leaver_leaves limits t now flaw s ev d h)).poll.at) ∙ brings)

        unleft_now : (z : Option ℕ) → leaver b ≡ z → is_left t r z ≡ true → ⊥
        unleft_now None is_none h = false_true h
        unleft_now (Some d) is_some h = none_leaves d is_some

        survives : own_open now_on u ≡ Some r
        survives =
            let g = goes_on step m real r c v p u there losing is after after_row in
            let owned : u.own ≡ Some r = g.is.own ∙ (sym g.own_is ∙ (writer ∙ ap Some feeds_all.mine)) in
            still_own grows.0 feeds_r (source_is t r c x v k s there reader on writer ∙ ap Some feeds_all.mine) unlost
            (λ left. unleft_now (leaver b) refl left) owned

      -- ALL CASES

      first_ends : IsFirst t r c → ⊥
      first_ends (sound.first q a d g q_row q_at alone) =
          let one : q ≡ k = same_row (t.consumer c) q k q_row row.row in
          false_true (s.writes.known_end r c lo None how k row.row at
          (subst (λ z. came_alone t z ≡ true) (sym q_at ∙ (ap (λ (z : Consumer). z.place) one ∙ at)) alone))

      by_writer : loses_group t e r v ≡ true → survivor t r v ≡ Some c → (z : Option ℕ) → v.writer ≡ z → own_open now_on u ≡ Some r
      by_writer losing is None writer = absurd (writer_some t v (and_right _ _ losing) writer)
      by_writer losing is (Some x) writer = survives losing is x writer

      by_exclusive_writer : (v.is_lost ≡ true → v.alone ≡ Some c → own_open t k ≡ Some r) → ExclusiveWriterFrom step m real r c v → own_open now_on u ≡ Some r
      by_exclusive_writer was (exclusive_writers.first fresh quiet is) = absurd (first_ends is)
      by_exclusive_writer was (exclusive_writers.alone lost quiet is) = went_on lost (was lost is)
      by_exclusive_writer was (exclusive_writers.wrote fresh loses writes) = absurd (first_ends writes.first)
      by_exclusive_writer was (exclusive_writers.survives losing is) = by_writer losing is v.writer refl

  module _ (was : Unended t) (r c lo : ℕ) (how : BoundBy) (u : Consumer) (p : Representation) (after : now_on.representation r ≡ Some p)
      (is_alone : p.alone ≡ Some c) (after_row : now_on.consumer c ≡ Some u) (stands : u.place ≡ place.Bound r lo None how) (none : p.head.total ≡ None)
      (undue : u.due ≡ None) where
    lost_now : p.is_lost ≡ true
    lost_now = lost_of step m i real r c p after is_alone

    kept_one : own_open now_on u ≡ Some r
    kept_one =
        let a = was_there step m i real r c lo None how u p after after_row stands lost_now is_alone in
        by_exclusive_writer r c lo how a.k u a.v p a.row a.at stands a.kept.row a.kept none undue lost_now is_alone after after_row
        (λ lost alone_was. was.alone r c lo how a.v a.k a.kept.row alone_was a.row.row a.at
        (none_before r c lo how a.k u a.v p a.row a.at stands a.kept.row a.kept none undue)
        (dues r c lo how a.k u a.v p a.row a.at stands a.kept.row a.kept none undue).0)
        (alone_from step m real r c a.v p a.kept.row a.kept lost_now is_alone)

  pub unended_kept : Unended t → Unended now_on
  unended_kept was = record
      { alone = λ r c lo how p u after is_alone after_row stands none undue. kept_one was r c lo how u p after is_alone after_row stands none undue }

pub unended_in_runs : OfRuns Unended
unended_in_runs = in_runs (λ limits t. Unended t)
    (λ limits contents may. record { alone = λ r c lo how v k there is_alone row at none undue. absurd (none_some k row) })
    (λ limits t e later f. record { alone = f.alone })
    (λ limits t now flaw later c f ev goes real. unended_kept (step_of limits t now flaw c.is_sound c.is_owned ev goes) c.is_measured c.beside real f)
