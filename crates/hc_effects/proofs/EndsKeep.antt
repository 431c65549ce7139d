-- What a consumer reads ends within the length of its body, where the end is known; and so all measures stay.
--
-- A wanted interval ends within the length of the body of which it is one (`wanted_within`). By how a reader became
-- bound (`ends_by`): where it was, the length stays known, and so its end is within; what it founds has the length of
-- its head (`founded_by`, `founds_by`). What it is shown has the length by which its plan took the interval
-- (`shown_by`), which has the most work. `measures_kept` adds the other measures.
use Rattle.std.{proofs.{lemmas.Bool.Decides.{nat_tests}, Common.{◌≡◌, ℕ, ◌≤◌, true, false, Option, Some, refl, ap, sym, ◌∙◌, subst, arith}}, specs.Prelude.{is_some}}
use Rattle.hc_text.proofs.Basics.{not_some as none_some, same_some as same_row, some_inj}
use Rattle.hc_range.specs.declared.range.{RangeSpec.{RangeSpec}, Span.{Span}}
use Rattle.hc_effects.proofs.Vocabulary.{brings_part, brings_whole, opening_in, Response, HeadCase, range_of, wanted_of, BoundBy, Showing, showing_in, case_at, consumer_heard, by_opening, waiting, Entry, promise_in, founded_total, entry_of, Measures, move_of, reads, Tables, Exchange, Representation, Consumer, after_accepted, event, case, wanted, place}
use Rattle.hc_model.specs.Measures.{EndsWithin}
use Rattle.hc_model.specs.Sound as sound
use Rattle.hc_effects.proofs.{Basics.{false_true}, BoundFrom.{BoundFrom, IsRow, IsInterval, IsShown, IsFounded, bound_from}, BoundKeeps.{shown_place_is}, FirstKeeps.{case_of_head, whole_brings, replaced_brings, is_new}, MeasuresKeep.{brings_kept, tight_kept, within_kept}, RepFrom.{RepFrom, rep_from, IsKept, IsEnded}, Said.{IsShowing, showing_by}, ShownFrom.{ShownAs, shown_from}, Step.{Step}}
use Rattle.hc_effects.proofs.BoundFrom as from
use Rattle.hc_effects.proofs.RepFrom as rep
use Rattle.hc_effects.proofs.ShownFrom as shown_as
use Rattle.hc_rules.proofs.Statuses.{whole_is_no_part}

-- A SPAN THAT IS WANTED

-- a span of a body of this length
pub record IsSpanOf (o : Option ℕ) (hi : ℕ) : Type 0 where
  pub total : ℕ
  pub known : o ≡ Some total
  pub ends : hi ≤ total

pub interval_inj : (a b : Span) → wanted.Interval a ≡ wanted.Interval b → a ≡ b
interval_inj a b is = cc

pub wanted_within : (range : Option RangeSpec) (o : Option ℕ) (span : Span) → wanted_of range o ≡ wanted.Interval span → IsSpanOf o span.hi
wanted_within range o span is = grind (arith, nat_tests)

interval_within : (range : Option RangeSpec) (o : Option ℕ) (lo hi : ℕ) → IsInterval (wanted_of range o) lo (Some hi) → IsSpanOf o hi
interval_within range o lo hi i = grind (arith, nat_tests)

module _ (step : Step) (m : Measures step.tables) where
  open step use {limits, tables as t, now, flaw, sound as s, event as ev, accepted as goes}

  abbrev e : Entry
  e = entry_of limits t now ev flaw

  abbrev now_on : Tables
  now_on = after_accepted t e

  -- a length that is known stays
  pub known_kept : (r total : ℕ) (v u : Representation) → IsKept t e r v u → v.head.total ≡ Some total → u.head.total ≡ Some total
  known_kept r total v u kept known = grind (arith, nat_tests)

  within_as : (u : Representation) (hi : ℕ) (z : Option ℕ) → IsSpanOf z hi → z ≡ u.head.total → EndsWithin u hi
  within_as u hi z w same = record { total = w.total; known = sym same ∙ w.known; ends = w.ends }

  kept_within : (r hi : ℕ) (v u : Representation) → IsKept t e r v u → EndsWithin v hi → EndsWithin u hi
  kept_within r hi v u kept w = record { total = w.total; known = known_kept r w.total v u kept w.known; ends = w.ends }

  module _ (r c lo hi : ℕ) (how : BoundBy) (u : Consumer) (v : Representation) (there : now_on.representation r ≡ Some v) where
    stays_by : (k : Consumer) → t.consumer c ≡ Some k → k.place ≡ place.Bound r lo (Some hi) how → RepFrom t e r v → EndsWithin v hi
    stays_by k row at (rep.was q kept) = kept_within r hi q v kept (m.ends r c lo hi how k q row at kept.row)
    stays_by k row at (rep.founded response w none here also on made) =
        absurd (let is_there = s.numbered.bound_to r c k (sound.is_bound lo (Some hi) how row at) in false_true (sym (ap is_some none) ∙ is_there))

    -- what it founds has the length that its head tells
    founded_by : (x : ℕ) (response : Response) (w : Exchange) (k : Consumer) (g : Option HeadCase) → ev ≡ event.Head x response → t.exchange x ≡ Some w →
        case_at t e ≡ g → IsFounded t e c r lo (Some hi) how x response w k g → IsSpanOf (founded_total w response) hi
    founded_by x response w k _ here row is (from.whole from_is to) =
        whole_total (whole_brings t _ w response (case_of_head t e x response w case.FoundsWhole here row is)) to
      where
        whole_total : brings_whole response.status ≡ true → Some hi ≡ promise_in w response → IsSpanOf (founded_total w response) hi
        whole_total status to = let off : brings_part response.status ≡ false = whole_is_no_part response.status status in
            record { total = hi; known = rw off (sym to); ends = omega arith }
    founded_by x response w k _ here row is (from.replaced from_is to) =
        whole_total (replaced_brings t _ w response (case_of_head t e x response w case.FirstReplaced here row is)) to
      where
        whole_total : brings_whole response.status ≡ true → Some hi ≡ promise_in w response → IsSpanOf (founded_total w response) hi
        whole_total status to = let off : brings_part response.status ≡ false = whole_is_no_part response.status status in
            record { total = hi; known = rw off (sym to); ends = omega arith }
    founded_by x response w k _ here row is (from.part i) = interval_within (range_of k.request) (founded_total w response) lo hi i

    founds_by : (x : ℕ) (response : Response) (w : Exchange) (k : Consumer) → ev ≡ event.Head x response → t.exchange x ≡ Some w → x ≡ r →
        IsFounded t e c r lo (Some hi) how x response w k (case_at t e) → RepFrom t e r v → EndsWithin v hi
    founds_by x response w k here row of_r is (rep.was q kept) =
        absurd (none_some q (sym (is_new limits t now flaw s ev goes x response w here row).unfounded ∙ (ap t.representation of_r ∙ kept.row)))
    founds_by x response w k here row of_r is (rep.founded answer z none also row_too on made) =
        let w_is : w ≡ z = same_row (t.exchange r) w z (sym (ap t.exchange of_r) ∙ row) row_too in
        let answer_is : response ≡ answer = head_inj x r response answer (sym here ∙ also) in
        let reported : founded_total w response ≡ v.head.total = ap (λ (q : Exchange). founded_total q response) w_is ∙
        (ap (founded_total z) answer_is ∙ ap (λ (q : Representation). q.head.total) made) in
        within_as v hi (founded_total w response) (founded_by x response w k (case_at t e) here row refl is) reported
      where
        head_inj : (a b : ℕ) (p q : Response) → event.Head a p ≡ event.Head b q → p ≡ q
        head_inj a b p q is = cc

    -- what is current is read as it was before
    was_by : (q : Representation) → t.representation r ≡ Some q → EndsWithin q hi → RepFrom t e r v → EndsWithin v hi
    was_by q row w (rep.was p kept) = kept_within
        r hi p v kept (subst (λ (a : Representation). EndsWithin a hi) (same_row (t.representation r) q p row kept.row) w)
    was_by q row w (rep.founded response x none here also on made) = absurd (none_some q (sym none ∙ row))

    shown_by : (k : Consumer) (z : Showing) → IsRow t e c r lo (Some hi) how k u → showing_in e.acts ≡ Some z →
        IsShown t e c r lo (Some hi) how z (by_opening t c (opening_in e.acts) (waiting t e c (consumer_heard t e c ev k))).place → RepFrom t e r v →
        EndsWithin v hi
    shown_by k z row is all from_rep =
        let shows = showing_by limits t now flaw s ev goes z is in
        let placed : (by_opening t c (opening_in e.acts) (waiting t e c (consumer_heard t e c ev k))).place ≡ k.place =
        subst (λ d. (by_opening t d (opening_in e.acts) (waiting t e d (consumer_heard t e d ev k))).place ≡ k.place) all.at
        (shown_place_is limits t now flaw s ev goes z k is) in
        let free : reads k.place ≡ false = sym (ap reads placed) ∙ all.free in
        let row_z : t.consumer z.c ≡ Some k = ap t.consumer all.at ∙ row.row in
        let one : shows.k ≡ k = same_row (t.consumer z.c) shows.k k shows.poll.row row_z in
        let show : IsShowing z (move_of t now shows.want z.c k) = subst (λ (q : Consumer). IsShowing z (move_of t now shows.want z.c q)) one shows.move in
        by_plan (shown_from t now z.c k shows.want z s row_z show free).shown_as
      where
        by_plan : ShownAs t now z.c k z.r z.lo z.hi → EndsWithin v hi
        by_plan (shown_as.joins q current_is there on from_is to) =
            let known : q.head.total ≡ Some hi = sym to ∙ all.to in
            was_by q (sym (ap t.representation all.of_r) ∙ there) (record { total = hi; known = known; ends = omega arith }) from_rep
        by_plan (shown_as.stored q span current_is there off wanted_is none from_is to) =
            let w = wanted_within (range_of k.request) q.head.total span wanted_is in
            let same : span.hi ≡ hi = some_inj span.hi hi (sym to ∙ all.to) in
            let le : span.hi ≤ w.total = w.ends in
            was_by q (sym (ap t.representation all.of_r) ∙ there) (record { total = w.total; known = w.known; ends = omega arith }) from_rep

    ends_by : BoundFrom t e c r lo (Some hi) how u → RepFrom t e r v → EndsWithin v hi
    ends_by (from.stays k row at) from_rep = stays_by k row.row at from_rep
    ends_by (from.founds k x response w row here exchange_row mine of_r by_is all) from_rep = founds_by x response w k here exchange_row of_r all from_rep
    ends_by (from.opens k p row opens mine free way hole) from_rep =
        let w = interval_within (range_of (waiting t e c (consumer_heard t e c ev k)).request) hole.v.head.total lo hi hole.interval in
        was_by hole.v hole.row (record { total = w.total; known = w.known; ends = w.ends }) from_rep
    ends_by (from.shows k z row is all) from_rep = shown_by k z row is all from_rep

  -- Measures stay.
  pub measures_kept : Measures now_on
  measures_kept = record {
    brings = λ x z u after on headed there. brings_kept step m x z u after on headed there;
    tight = λ r n u row ends. tight_kept step m r n u row ends;
    within = λ r total u row known. within_kept step m r total u row known;
    ends = λ r c lo hi how u v row at there. ends_by r c lo hi how u v there (bound_from t e c r lo (Some hi) how (t.consumer c) u refl row at)
        (rep_from t e r (t.representation r) v refl there);
  }
