-- Whoever is bound and has nothing due reads with others, is the exclusive writer, or has all that it needs.
--
-- First what a loss leaves: who goes on alone, and that what is stored stays. Then the cases of who is bound after the
-- entry. Who was bound before was served in one of three ways: it shares a writing, writes alone, or reads what is
-- stored (`by_served`). Each way goes on, or the writing ends and all that is wanted is stored, or who is left goes on
-- alone. Who is bound by this entry opened a first hole, was shown a head by its plan, or founded the representation.
use Rattle.std.{proofs.{Common.{◌≡◌, ◌⊎◌, inl, inr, ℕ, ◌+◌, ◌≤◌, List, [], length, Bool, true, false, Option, Some, None, refl, ap, sym, ◌∙◌, subst, arith}, lemmas.Bool.Decides.{nat_tests}}, specs.{Prelude.{if◌then◌else◌, is_some, is_none, ◌&&◌, ◌||◌, not, nat_eq, unwrap_or}, Option.{option_or}}}
use Rattle.hc_text.proofs.Basics.{never_true, or_cases, and_none as and_off, eq_is, both_true as and_both, and_left, and_right, bool_cases, not_some as none_some, same_some as same_row, some_inj}
use Rattle.hc_sparse.specs.Cells.{Cells, Covers, cells_with}
use Rattle.hc_range.specs.declared.range.Span.{Span}
use Rattle.hc_effects.proofs.Vocabulary.{brings_part, brings_whole, Opening, opening_in, leaves_in, closes_in, given_in, Event, Response, HeadCase, BoundBy, Showing, showing_in, loses_in, has_loss, case_at, head_view, must_close, is_refused, brings_head, is_doomed, has_no_survivor, is_left, leaver, leaver_by, consumer_heard, consumer_acted, by_opening, waiting, is_number, doomed_key_of, doomed_in, doomed_by_head, doomed_by_case, is_key, Entry, exchange_heard, promise_in, is_open, is_reached, family, becomes_due, cause_by_loss, first_hole, covers, entry_of, Measures, is_written, bound, hi_of, offset, reads, new_representation, writer_at, Tables, Exchange, Representation, Consumer, IsBound, IsServed, IsExclusiveWriter, IsFirst, IsGrowing, after_accepted, brings_body, came_alone, loses_group, survivor, goes_on_with, status_in, stops, event, case, place, by}
use Rattle.hc_model.specs.Sound as sound
use Rattle.hc_effects.proofs.{ApartKeeps.{written_by, is_on}, Basics.{false_true, number_is}, BoundFrom.{BoundFrom, IsRow, IsFounded, IsFirstHole, IsShown, bound_from}, BoundKeeps.{planned_at}, Closed.{before}, ConsumerFilters.{acted}, Dues.{due_before, undue_parts}, EndsKeep.{known_kept, measures_kept}, Fills.{Fills, fills}, FirstKeeps.{IsNew, came_kept, case_of_head, case_is, is_new, open_free, whole_brings, replaced_brings}, FoundBy.{CaseBy}, Forward.{after_is}, HoleLemmas.{covers_all}, LossBy.{IsReal, IsSealing, sealed_loss, seals_one, fresh}, LossServes.{survives}, Losses.{HasRest, goes_on_or_rests}, OwnersKeep.{is_opened}, ExclusiveWriters.{writer_some, none_about}, PollKeeps.{current_stays}, RepFrom.{RepFrom, rep_from, IsKept, IsResumed}, Said.{ShowsBy, leaving_by, showing_by}, SaidActs.{leaver_leaves}, ShownFrom.{ShownAs, IsPlanned}, Stops.{writer_about}, Unclosed.{had_to}, Waiters.{waiter_of, doomed_same, case_same}, WriterEnds.{all_stored}, GroupStops.{IsAll}, Step.{Step}}
use Rattle.hc_effects.proofs.BoundFrom as from
use Rattle.hc_effects.proofs.Fills as fills_by
use Rattle.hc_effects.proofs.FoundBy as cases
use Rattle.hc_effects.proofs.Forward as forward
use Rattle.hc_effects.proofs.RepFrom as rep
use Rattle.hc_effects.proofs.ShownFrom as shown_as
use Rattle.hc_rules.proofs.Statuses.{whole_is_no_part}

-- what was written over stays there
pub written_covers : (at x lo hi : ℕ) (bytes : List ℕ) (f : Cells) → Covers f lo hi → Covers (cells_with at x bytes f) lo hi
written_covers at x lo hi bytes f all p from_lo lt = grind (arith, nat_tests)

module _ (step : Step) (m : Measures step.tables) (real : IsReal step.limits step.tables step.now step.event step.flaw) where
  open step use {limits, tables as t, now, flaw, sound as s, event as ev, accepted as goes}

  abbrev e : Entry
  e = entry_of limits t now ev flaw

  abbrev b : Entry
  b = before limits t now flaw s ev

  abbrev now_on : Tables
  now_on = after_accepted t e

  -- WHAT A LOSS LEAVES

  -- its detached reader
  pub alone_is : (r : ℕ) (v p : Representation) → IsKept t e r v p → p.alone ≡ (if loses_in r e.acts && not v.is_lost then goes_on_with t e r v else v.alone)
  alone_is r v p kept = sym (ap (λ (q : Representation). q.alone) kept.is) ∙ by_test (loses_in r e.acts && not v.is_lost)
    where
      by_test : (a : Bool) → (if a then goes_on_with t e r v else (Rattle.hc_model.specs.RepresentationRows.representation_heard t e r ev v).alone) ≡
          (if a then goes_on_with t e r v else v.alone)
      by_test true = refl
      by_test false = (rep.heard t e r v ev refl).alone_is

  pub lost_alone : (r : ℕ) (v p : Representation) → t.representation r ≡ Some v → IsKept t e r v p → loses_in r e.acts ≡ true → (p.is_lost ≡ true) ×
      (p.alone ≡ goes_on_with t e r v)
  lost_alone r v p there kept loses =
      let new = fresh step m real r v there loses in
      let test : (loses_in r e.acts && not v.is_lost) ≡ true = and_both _ _ loses (ap not new) in
      (kept.lost_is ∙ rw loses refl, alone_is r v p kept ∙ rw test refl)

  pub kept_alone : (r : ℕ) (v p : Representation) → IsKept t e r v p → loses_in r e.acts ≡ false → (p.is_lost ≡ v.is_lost) × (p.alone ≡ v.alone)
  kept_alone r v p kept quiet = (kept.lost_is ∙ rw quiet refl, alone_is r v p kept ∙ rw quiet refl)

  -- what is stored stays
  pub stored_covers : (r lo hi : ℕ) (v p : Representation) → IsKept t e r v p → Covers v.stored lo hi → Covers p.stored lo hi
  stored_covers r lo hi v p kept all = by_fills (fills t e r v p kept)
    where
      by_kept : (a : Bool) (at x : ℕ) (bytes : List ℕ) → Covers (if a then cells_with at x bytes v.stored else v.stored) lo hi
      by_kept true at x bytes = written_covers at x lo hi bytes v.stored all
      by_kept false at x bytes = all

      by_fills : Fills t e r v p → Covers p.stored lo hi
      by_fills (fills_by.still none body_is stored_is reach_is) d from_lo lt = ap (λ (f : Cells). is_some (f d)) stored_is ∙ all d from_lo lt
      by_fills (fills_by.more x bytes w is body_is stored_is reach_is) d from_lo lt = ap (λ (f : Cells). is_some (f d)) stored_is ∙
          by_kept (not (v.is_lost || loses_in r e.acts)) _ x bytes d from_lo lt

  -- an exchange that ends or is closed is over
  pub over : (x : ℕ) (w : Exchange) → t.exchange x ≡ Some w → (stops x ev ≡ true) ⊎ (closes_in x e.acts ≡ true) → is_open (now_on.exchange x) ≡ false
  over x w row ends = by_test (is_open (now_on.exchange x)) refl
    where
      by_stop : (g : forward.IsOn t e x w) → g.u.is_open ≡ true → (z : Event) → ev ≡ z → stops x z ≡ true → ⊥
      by_stop g on (event.End y) here h = g.same.unended on (here ∙ ap event.End (eq_is y x h))
      by_stop g on (event.Fault y) here h = g.same.unfaulted on (here ∙ ap event.Fault (eq_is y x h))
      by_stop g on _ here h = false_true h

      by_end : (g : forward.IsOn t e x w) → g.u.is_open ≡ true → (stops x ev ≡ true) ⊎ (closes_in x e.acts ≡ true) → ⊥
      by_end g on (inl stop) = by_stop g on ev refl stop
      by_end g on (inr shut) = false_true (sym (g.same.unclosed on) ∙ shut)

      by_test : (a : Bool) → is_open (now_on.exchange x) ≡ a → a ≡ false
      by_test false off = refl
      by_test true on = let g = forward.is_on t e x w row in absurd (by_end g (sym (ap is_open g.row) ∙ on) ends)

  module _ (r c lo : ℕ) (hi : Option ℕ) (how : BoundBy) (u : Consumer) (p : Representation) (after : now_on.representation r ≡ Some p)
      (after_row : now_on.consumer c ≡ Some u) (stands : u.place ≡ place.Bound r lo hi how) where
    abbrev Served : Type 0
    Served = IsServed now_on r p c u

    -- ALL THAT IS WANTED IS THERE

    rests_to : (n at : ℕ) → hi_of now_on u.place ≡ Some n → Covers p.stored at n → at ≤ offset now_on u → HasRest now_on p u
    rests_to n at end all le = record { hi = n; end = end; covered = λ d from_lo lt. all d (let before : offset now_on u ≤ d = from_lo in omega arith) lt }

    reads_rest : HasRest now_on p u → Served
    reads_rest rest = sound.reads rest.hi rest.end rest.covered

    reads_to : (n at : ℕ) → hi_of now_on u.place ≡ Some n → Covers p.stored at n → at ≤ offset now_on u → Served
    reads_to n at end all le = reads_rest (rests_to n at end all le)

    end_is : (z : Option ℕ) → p.head.total ≡ z → hi_of now_on u.place ≡ option_or hi z
    end_is z total = ap (hi_of now_on) stands ∙ (ap (λ q. option_or hi (Rattle.hc_model.specs.Currents.total_in q)) after ∙ ap (option_or hi) total)

    offset_is : offset now_on u ≡ lo + u.given
    offset_is = ap (λ q. Rattle.hc_model.specs.Reading.lo_of now_on q + u.given) stands

    pub rest_by : IsAll p → (z : Option ℕ) → hi ≡ z → HasRest now_on p u
    rest_by all None is = rests_to all.total 0 (end_is (Some all.total) all.known ∙ ap (λ q. option_or q (Some all.total)) is) all.covered (omega arith)
    rest_by all (Some n) is =
        let w = (measures_kept step m).ends r c lo n how u p after_row (stands ∙ ap (λ q. place.Bound r lo q how) is) after in
        let same : w.total ≡ all.total = some_inj w.total all.total (sym w.known ∙ all.known) in
        let le : n ≤ w.total = w.ends in
        rests_to n 0 (end_is (Some all.total) all.known ∙ ap (λ q. option_or q (Some all.total)) is) (λ d from_lo lt. all.covered d from_lo (omega arith))
        (omega arith)

    by_all : IsAll p → (z : Option ℕ) → hi ≡ z → Served
    by_all all z is = reads_rest (rest_by all z is)

    first_now : p.is_lost ≡ false → came_alone now_on (place.Bound r lo hi how) ≡ true → Served
    first_now kept alone = sound.writes (sound.first kept (sound.first u lo hi how after_row stands alone))

    -- IT WAS BOUND

    module _ (k : Consumer) (v : Representation) (row : IsRow t e c r lo hi how k u) (at : k.place ≡ place.Bound r lo hi how)
        (there : t.representation r ≡ Some v) (kept : IsKept t e r v p) (none_due : k.due ≡ None) (undue : becomes_due t e c k ≡ None) where
      reader : IsBound t r c k
      reader = sound.is_bound lo hi how row.row at

      given_more : k.given ≤ u.given
      given_more =
          let a = acted t e c k in
          let now_given : u.given ≡ k.given + length (given_in c e.acts) = sym (ap (λ (q : Consumer). q.given) row.is) ∙ a.given_is in
          omega arith

      offset_before : offset t k ≡ lo + k.given
      offset_before = ap (λ q. Rattle.hc_model.specs.Reading.lo_of t q + k.given) at

      end_before : hi_of t k.place ≡ option_or hi v.head.total
      end_before = ap (hi_of t) at ∙ ap (λ q. option_or hi (Rattle.hc_model.specs.Currents.total_in q)) there

      end_by : (n : ℕ) (z : Option ℕ) → hi ≡ z → option_or hi v.head.total ≡ Some n → hi_of now_on u.place ≡ Some n
      end_by n None is h = end_is (Some n) (known_kept step m r n v p kept (sym (ap (λ q. option_or q v.head.total) is) ∙ h)) ∙
          ap (λ q. option_or q (Some n)) is
      end_by n (Some a) is h = end_is p.head.total refl ∙ (ap (λ q. option_or q p.head.total) is ∙ (sym (ap (λ q. option_or q v.head.total) is) ∙ h))

      pub still_rests : (n : ℕ) → hi_of t k.place ≡ Some n → Covers v.stored (offset t k) n → HasRest now_on p u
      still_rests n end covered =
          let more : k.given ≤ u.given = given_more in
          let now_at : offset now_on u ≡ lo + u.given = offset_is in
          let was_at : offset t k ≡ lo + k.given = offset_before in
          rests_to n (offset t k) (end_by n hi refl (sym end_before ∙ end)) (stored_covers r (offset t k) n v p kept covered) (omega arith)

      still_reads : (n : ℕ) → hi_of t k.place ≡ Some n → Covers v.stored (offset t k) n → Served
      still_reads n end covered = reads_rest (still_rests n end covered)

      alone_now : p.is_lost ≡ true → p.alone ≡ Some c → Served
      alone_now lost is = sound.writes (sound.alone lost is)

      -- what was written for several, and is lost
      shared_lost : is_written t v ≡ true → (x : ℕ) → v.writer ≡ Some x → loses_in r e.acts ≡ true → Served
      shared_lost on x writer loses = elim (bool_cases (brings_body ev)) [
        | inl brings ↦
            let losing : loses_group t e r v ≡ true = and_both _ _ (and_both _ _ brings loses) on in
            let loss : cause_by_loss t e c r (Some v) ≡ None =
            sym (ap (Rattle.hc_model.specs.Failures.cause_of_loss t e c) at ∙ ap (cause_by_loss t e c r) there) ∙ (undue_parts t e c k undue).loss in
            let is : survivor t r v ≡ Some c = number_is (survivor t r v) c (survives (loses_group t e r v) (is_number (survivor t r v) c) _ losing loss) in
            let all = lost_alone r v p there kept loses in
            alone_now all.0 (all.1 ∙ (rw losing is))
        | inr other ↦
            let z = sealed_loss step m real r v there loses other in
            let one : z.y ≡ x = seals_one step m real r x v there (writer_about t r x v s there on writer) z in
            let off : is_open (now_on.exchange x) ≡ false = subst (λ n. is_open (now_on.exchange n) ≡ false) one (over z.y z.w z.row z.ends) in
            by_all (all_stored step m real r c x lo hi how k u v p row at stands there on writer undue kept (inr other) off) hi refl
      ]

      pub resumed_not : is_written t v ≡ true → (x : ℕ) → v.writer ≡ Some x → IsResumed t e r v p.writer → ⊥
      resumed_not on x writer R =
          let new = is_new limits t now flaw s ev goes R.x R.response R.w R.at R.row in
          let aim : R.w.aim ≡ Some r = number_is R.w.aim r (and_right _ (is_number R.w.aim r) (and_left _ _ R.renews)) in
          let waits = waiter_of step R.x R.w R.row new.is_open new.bare in
          let grows = (s.rows r v there).growing x on writer in
          let g = grows.1 in
          let hole = Rattle.hc_effects.proofs.HeadKeeps.is_join
          t (has_loss e.acts) R.w R.response (sym (ap Rattle.hc_model.specs.Cases.is_joining (case_is t e R.x R.response R.w R.at R.row)) ∙ R.joins) in
          let about = sound.asks R.w hole.fills.from hole.fills.to R.row new.is_open new.bare hole.fills.need_is aim in
          let one : R.x ≡ x = s.one_about r R.x x about (writer_about t r x v s there on writer) in
          let same : R.w ≡ grows.0 = same_row (t.exchange x) R.w grows.0 (sym (ap t.exchange one) ∙ R.row) g.row in
          false_true (sym (ap (λ (q : Option Response). is_some q) new.bare) ∙ (ap (λ (q : Exchange). is_some q.head) same ∙ g.headed))

      -- what was written for several, and isn't lost
      shared_kept : is_written t v ≡ true → (x : ℕ) → v.writer ≡ Some x → loses_in r e.acts ≡ false → Served
      shared_kept on x writer quiet = elim (bool_cases (is_open (now_on.exchange x))) [
        | inr off ↦ by_all (all_stored step m real r c x lo hi how k u v p row at stands there on writer undue kept (inl quiet) off) hi refl
        | inl still ↦ sound.shares (written_by now_on p x ((kept_alone r v p kept quiet).0 ∙ (is_on t v x on writer).kept) (by_writer kept.writer_is) still)
      ]
        where
          by_writer : (p.writer ≡ v.writer) ⊎ IsResumed t e r v p.writer → p.writer ≡ Some x
          by_writer (inl same) = same ∙ writer
          by_writer (inr R) = absurd (resumed_not on x writer R)

      by_shared : is_written t v ≡ true → (z : Option ℕ) → v.writer ≡ z → Served
      by_shared on None writer = absurd (writer_some t v on writer)
      by_shared on (Some x) writer = elim (bool_cases (loses_in r e.acts)) [
        | inl loses ↦ shared_lost on x writer loses
        | inr quiet ↦ shared_kept on x writer quiet
      ]

      -- what isn't written for several, and is lost
      alone_or_rest : is_written t v ≡ false → loses_in r e.acts ≡ true → Served
      alone_or_rest off loses =
          let all = lost_alone r v p there kept loses in
          let unlosing : loses_group t e r v ≡ false = (rw off (and_off (brings_body ev && loses_in r e.acts))) in
          elim (goes_on_or_rests t r c v k s there reader none_due off (fresh step m real r v there loses)) [
            | inl is ↦ alone_now all.0 (all.1 ∙ (rw unlosing is))
            | inr rest ↦ still_reads rest.hi rest.end rest.covered
          ]

      first_same : IsFirst t r c → came_alone t (place.Bound r lo hi how) ≡ true
      first_same it0 = grind (arith, nat_tests)

      by_exclusive_writer : IsExclusiveWriter t r v c → Served
      by_exclusive_writer (sound.first new is) = elim (bool_cases (loses_in r e.acts)) [
        | inr quiet ↦ first_now ((kept_alone r v p kept quiet).0 ∙ new) (came_kept limits t now flaw s ev goes r lo hi how (ap is_some there) ∙ first_same is)
        | inl loses ↦ elim (bool_cases (is_written t v)) [
          | inl on ↦ by_shared on v.writer refl
          | inr off ↦ alone_or_rest off loses
        ]
      ]
      by_exclusive_writer (sound.alone lost is) = elim (bool_cases (loses_in r e.acts)) [
        | inl loses ↦ absurd (false_true (sym (fresh step m real r v there loses) ∙ lost))
        | inr quiet ↦ let all = kept_alone r v p kept quiet in alone_now (all.0 ∙ lost) (all.1 ∙ is)
      ]

      by_served : IsServed t r v c k → Served
      by_served (sound.shares on) = by_shared on v.writer refl
      by_served (sound.writes exclusive_writer) = by_exclusive_writer exclusive_writer
      by_served (sound.reads n end covered) = still_reads n end covered

      was_bound : Served
      was_bound = by_served (s.writes.served r c v k there reader none_due)

    -- BY A POLL

    -- a poll loses no r of which an open exchange goes on
    quiet_poll : (want d : ℕ) → ev ≡ event.Poll d want → (v : Representation) → t.representation r ≡ Some v → ((z : IsSealing step m real r) → ⊥) →
        loses_in r e.acts ≡ false
    quiet_poll want d polls v there none = never_true (loses_in r e.acts) (λ loses. none (sealed_loss step m real r v there loses (ap brings_body polls)))

    -- AT A FIRST HOLE

    opened : (k : Consumer) (q : Opening) → IsRow t e c r lo hi how k u → opening_in e.acts ≡ Some q → q.c ≡ c → bound t r ≡ [] →
        IsFirstHole t e c r lo hi how q (waiting t e c (consumer_heard t e c ev k)) → RepFrom t e r p → Served
    opened k q row opens mine nobody hole (rep.founded response w none here exchange_row on made) = absurd (none_some hole.v (sym none ∙ hole.row))
    opened k q row opens mine nobody hole (rep.was v kept) =
        let by_poll = is_opened step q opens in
        let one : hole.v ≡ v = same_row (t.representation r) hole.v v hole.row kept.row in
        let not_gone : v.is_gone ≡ false = ap (λ (z : Representation). z.is_gone) (sym one) ∙ current_stays t _ r hole.v hole.current_is hole.row in
        let quiet = quiet_poll by_poll.want q.c by_poll.at v kept.row
        (λ z. none_about t r z.y v s kept.row nobody (sound.headed z.w z.row z.was_open z.headed z.of_r (ap is_some kept.row))) in
        first_now ((kept_alone r v p kept quiet).0 ∙ not_lost v not_gone (s.rows r v kept.row).store.lost_is_gone)
        (ap (λ g. came_alone now_on (place.Bound r lo hi g)) hole.by_is)
      where
        not_lost : (v : Representation) → v.is_gone ≡ false → (v.is_lost ≡ true → v.is_gone ≡ true) → v.is_lost ≡ false
        not_lost v off goes_too = grind (arith, nat_tests)

    -- BY ITS PLAN

    -- a poll that shows a head closes no writing
    unclosed : (x : ℕ) (w : Exchange) (v : Representation) (z : Showing) → t.representation r ≡ Some v → IsGrowing t r v x w → leaves_in
        c e.acts ≡ false → showing_in e.acts ≡ Some z → z.c ≡ c → closes_in x e.acts ≡ true → ⊥
    unclosed x w v z there g stays is mine shut = by_cause (had_to limits t now flaw s ev x w g.row shut)
      where
        shows : ShowsBy t now ev z
        shows = showing_by limits t now flaw s ev goes z is

        none_of : (q : Option Response) → is_none q ≡ true → is_some q ≡ true → ⊥
        none_of None none some = false_true some
        none_of (Some response) none some = false_true none

        refused_not : brings_head x ev ≡ true → ⊥
        refused_not h = false_true (sym (ap (brings_head x) shows.poll.at) ∙ h)

        lost_not : (n : ℕ) (q : Option Representation) → has_no_survivor t b x n q ≡ true → ⊥
        lost_not n None h = false_true h
        lost_not n (Some a) h = let losing = and_right (is_number a.writer x) _ (and_left _ _ h) in
            false_true (sym (ap brings_body shows.poll.at) ∙ and_left _ _ (and_left _ _ losing))

        poll_inj : (a d f g : ℕ) → event.Poll a f ≡ event.Poll d g → a ≡ d
        poll_inj a d f g is = cc

        leaver_at : (l : ℕ) → leaver b ≡ Some l → leaves_in l e.acts ≡ true
        leaver_at l h = leaver_leaves limits t now flaw s ev l (sym (ap (λ q. leaver_by q b.acts) shows.poll.at) ∙ h)

        left_not : (q : Option ℕ) → leaver b ≡ q → is_left t x q ≡ true → ⊥
        left_not None is_leaver h = false_true h
        left_not (Some l) is_leaver h =
            let leaves = leaver_at l is_leaver in
            let got = leaving_by limits t now flaw s ev goes l leaves in
            let same : l ≡ c = poll_inj l z.c got.want shows.want (sym got.poll.at ∙ shows.poll.at) ∙ mine in
            false_true (sym stays ∙ (sym (ap (λ n. leaves_in n e.acts) same) ∙ leaves))

        by_cause : must_close t b x w ≡ true → ⊥
        by_cause must = elim (or_cases _ (is_left t x (leaver b)) must) [
          | inr left ↦ left_not (leaver b) refl left
          | inl more ↦ elim (or_cases _ (has_no_survivor t b x (family x w) (t.representation (family x w))) more) [
            | inr lost ↦ lost_not (family x w) (t.representation (family x w)) lost
            | inl less ↦ elim (or_cases (is_refused (case_at t b) && brings_head x ev) (is_doomed t b x w) less) [
              | inl refused ↦ refused_not (and_right _ _ refused)
              | inr doom ↦ none_of w.head (and_right w.is_open _ (and_right _ _ (and_left _ _ doom))) g.headed
            ]
          ]
        ]

    shown : (k : Consumer) (z : Showing) → IsRow t e c r lo hi how k u → showing_in e.acts ≡ Some z →
        IsShown t e c r lo hi how z (by_opening t c (opening_in e.acts) (waiting t e c (consumer_heard t e c ev k))).place → RepFrom t e r p → Served
    shown k z row is all from_rep = by_plan planned.shown_as from_rep
      where
        shows : ShowsBy t now ev z
        shows = showing_by limits t now flaw s ev goes z is

        planned : IsPlanned t now z.c k z
        planned = planned_at limits t now flaw s ev goes z k (ap t.consumer all.at ∙ row.row) is
            (subst (λ d. reads (by_opening t d (opening_in e.acts) (waiting t e d (consumer_heard t e d ev k))).place ≡ false) (sym all.at) all.free)

        none_closed : (x : ℕ) (w : Exchange) (v : Representation) → t.representation r ≡ Some v → IsGrowing t r v x w → closes_in x e.acts ≡ false
        none_closed x w v there g = never_true (closes_in x e.acts) (λ shut. unclosed x w v z there g row.leaves is all.at shut)

        -- it joins a writing that is on, and goes on
        joins_on : (v : Representation) → t.representation r ≡ Some v → is_written t v ≡ true → (x : ℕ) → v.writer ≡ Some x → RepFrom t e r p → Served
        joins_on v there on x writer (rep.founded response w none here exchange_row founding made) = absurd (none_some v (sym none ∙ there))
        joins_on v there on x writer (rep.was q kept) =
            let one : q ≡ v = same_row (t.representation r) q v kept.row there in
            let grows = (s.rows r v there).growing x on writer in
            let g = grows.1 in
            let was = is_on t v x on writer in
            let shut = none_closed x grows.0 v there g in
            let heard : (exchange_heard t e x ev grows.0).is_open ≡ true = ap (λ a. (exchange_heard t e x a grows.0).is_open) shows.poll.at ∙
            (sym (ap is_open g.row) ∙ was.open_now) in
            let still : is_open (now_on.exchange x) ≡ true = ap is_open (after_is t e x grows.0 (t.exchange x) g.row) ∙ and_both _ _ (ap not shut) heard in
            let quiet = quiet_poll shows.want z.c shows.poll.at v there (λ y.
            let number : y.y ≡ x = seals_one step m real r x v there (writer_about t r x v s there on writer) y in
            false_true (sym (subst (λ n. is_open (now_on.exchange n) ≡ false) number (over y.y y.w y.row y.ends)) ∙ still)) in
            sound.shares (written_by now_on p x ((kept_alone r q p kept quiet).0 ∙ (ap (λ (a : Representation). a.is_lost) one ∙ was.kept))
            (by_writer q kept one kept.writer_is) still)
          where
            by_writer : (q : Representation) → IsKept t e r q p → q ≡ v → (p.writer ≡ q.writer) ⊎ IsResumed t e r q p.writer → p.writer ≡ Some x
            by_writer q kept one (inl same) = same ∙ (ap (λ (a : Representation). a.writer) one ∙ writer)
            by_writer q kept one (inr R) = absurd (let no : event.Head R.x R.response ≡ event.Poll z.c shows.want = sym R.at ∙ shows.poll.at in cc)

        by_writer_group : (v : Representation) → t.representation r ≡ Some v → is_written t v ≡ true → (x : Option ℕ) → v.writer ≡ x → RepFrom t e r p → Served
        by_writer_group v there on None writer from_it = absurd (writer_some t v on writer)
        by_writer_group v there on (Some x) writer from_it = joins_on v there on x writer from_it

        covered_by : (v : Representation) (span : Span) → first_hole v.stored v.reach span ≡ None → Covers v.stored span.lo span.hi
        covered_by v span none = covers_all v.stored v.reach span.lo span.hi (by_test (covers v.stored v.reach span.lo span.hi) refl)
          where
            by_test : (a : Bool) → covers v.stored v.reach span.lo span.hi ≡ a → a ≡ true
            by_test true covered = refl
            by_test false covered = absurd (let no = rw covered at none in false_true (ap is_none no))

        rest_by : (v : Representation) (span : Span) → t.representation r ≡ Some v → Covers v.stored span.lo span.hi → z.lo ≡ span.lo →
            z.hi ≡ Some span.hi → RepFrom t e r p → Served
        rest_by v span there covered from_is to (rep.founded response w none here exchange_row founding made) = absurd (none_some v (sym none ∙ there))
        rest_by v span there covered from_is to (rep.was q kept) =
            let one : q ≡ v = same_row (t.representation r) q v kept.row there in
            let all_q : Covers q.stored span.lo span.hi = (λ d from_lo lt. ap (λ (a : Representation). is_some (a.stored d)) one ∙ covered d from_lo lt) in
            let start : z.lo ≡ lo = all.from in
            let first : z.lo ≡ span.lo = from_is in
            let now_at : offset now_on u ≡ lo + u.given = offset_is in
            reads_to span.hi span.lo (end_is p.head.total refl ∙ ap (λ a. option_or a p.head.total) (sym all.to ∙ to))
            (stored_covers r span.lo span.hi q p kept all_q) (omega arith)

        by_plan : ShownAs t now z.c k z.r z.lo z.hi → RepFrom t e r p → Served
        by_plan (shown_as.joins v current_is there on from_is to) from_it =
            by_writer_group v (sym (ap t.representation all.of_r) ∙ there) on v.writer refl from_it
        by_plan (shown_as.stored v span current_is there off wanted_is none from_is to) from_it =
            rest_by v span (sym (ap t.representation all.of_r) ∙ there) (covered_by v span none) from_is to from_it

    -- BY FOUNDING

    is_reached_zero : (q : Option ℕ) → is_reached q 0 ≡ true → q ≡ Some 0
    is_reached_zero None h = absurd (false_true h)
    is_reached_zero (Some n) h = let test : nat_eq n 0 ≡ true = h in let zero_is : n ≡ 0 = grind (arith, nat_tests) in ap Some zero_is

    range_brings : (w : Exchange) (response : Response) → CaseBy (head_view t (has_loss e.acts) w response) case.FoundsRange →
        brings_part response.status ≡ true
    range_brings w response (cases.founds_range way status fits kept good) = status

    module _ (x : ℕ) (response : Response) (w : Exchange) (here : ev ≡ event.Head x response) (exchange_row : t.exchange x ≡ Some w) where
      -- a head that founds leaves its exchange unclosed
      head_unclosed : is_refused (case_at t e) ≡ false → doomed_by_case (case_at t e) w response ≡ None → closes_in x e.acts ≡ true → ⊥
      unfolding doomed_key_of
      head_unclosed unrefused undoomed shut = by_cause (had_to limits t now flaw s ev x w exchange_row shut)
        where
          lost_not : (n : ℕ) (q : Option Representation) → q ≡ None → has_no_survivor t b x n q ≡ true → ⊥
          lost_not n None none h = false_true h
          lost_not n (Some a) none h = none_some a (sym none)

          left_not : (q : Option ℕ) → leaver b ≡ q → is_left t x q ≡ true → ⊥
          left_not q is_leaver h = grind (arith, nat_tests)

          doomed_none : doomed_key_of t b ≡ None
          doomed_none = sym (doomed_same step) ∙ (ap (doomed_in t e) here ∙ (ap (doomed_by_head t e response) exchange_row ∙ undoomed))

          new : IsNew limits t now flaw s ev goes x w
          new = is_new limits t now flaw s ev goes x response w here exchange_row

          own : family x w ≡ x
          own = ap (λ (n : Option ℕ). unwrap_or n x) (s.waits.headless x w exchange_row new.bare).1

          by_cause : must_close t b x w ≡ true → ⊥
          by_cause must = elim (or_cases _ (is_left t x (leaver b)) must) [
            | inr left ↦ left_not (leaver b) refl left
            | inl more ↦ elim (or_cases _ (has_no_survivor t b x (family x w) (t.representation (family x w))) more) [
              | inr lost ↦ lost_not (family x w) (t.representation (family x w)) (ap t.representation own ∙ new.unfounded) lost
              | inl less ↦ elim (or_cases (is_refused (case_at t b) && brings_head x ev) (is_doomed t b x w) less) [
                | inl refused ↦ false_true (sym (sym (ap is_refused (case_same step)) ∙ unrefused) ∙ and_left _ _ refused)
                | inr doom ↦ false_true (sym (ap (λ q. is_key q w.request.key) doomed_none) ∙ and_left _ _ (and_left _ _ doom))
              ]
            ]
          ]

      -- where its exchange is over at once, it has no body
      pub none_promised : is_refused (case_at t e) ≡ false → doomed_by_case (case_at t e) w response ≡ None → is_open (now_on.exchange x) ≡ false →
          promise_in w response ≡ Some 0
      none_promised unrefused undoomed off = is_reached_zero (promise_in w response) (by_test (is_reached (promise_in w response) 0) refl)
        where
          self : nat_eq x x ≡ true
          self = grind (arith, nat_tests)

          was : w.is_open ≡ true
          was = (is_new limits t now flaw s ev goes x response w here exchange_row).is_open

          unshut : (a : Bool) → closes_in x e.acts ≡ a → a ≡ false
          unshut false shut = refl
          unshut true shut = absurd (head_unclosed unrefused undoomed shut)

          by_test : (a : Bool) → is_reached (promise_in w response) 0 ≡ a → a ≡ true
          by_test true reached = refl
          by_test false reached =
              let heard : (exchange_heard t e x ev w).is_open ≡ true = ap (λ z. (exchange_heard t e x z w).is_open) here ∙ rw (self, reached, was) refl in
              let still : is_open (now_on.exchange x) ≡ true = ap is_open (after_is t e x w (t.exchange x) exchange_row) ∙
              and_both _ _ (ap not (unshut (closes_in x e.acts) refl)) heard in
              absurd (false_true (sym off ∙ still))

      whole : (z : Exchange) (answer : Response) → x ≡ r → new_representation r e answer z ≡ p → response ≡ answer → brings_whole response.status ≡ true →
          is_refused (case_at t e) ≡ false → doomed_by_case (case_at t e) w response ≡ None → hi ≡ promise_in w response → Served
      whole z answer of_r made same status unrefused undoomed to = elim (bool_cases (is_open (now_on.exchange x))) [
        | inl on ↦
            let other : brings_part answer.status ≡ false = ap (λ (a : Response). brings_part a.status) (sym same) ∙ whole_is_no_part response.status status in
            let writes : writer_at r answer ≡ Some r = rw other refl in
            sound.shares (written_by now_on p r (sym (ap (λ (a : Representation). a.is_lost) made))
            (sym (ap (λ (a : Representation). a.writer) made) ∙ writes) (ap (λ n. is_open (now_on.exchange n)) (sym of_r) ∙ on))
        | inr off ↦
            let none : hi ≡ Some 0 = to ∙ none_promised unrefused undoomed off in
            reads_to 0 0 (end_is p.head.total refl ∙ ap (λ a. option_or a p.head.total) none) (λ d from_lo lt. absurd (omega arith)) (omega arith)
      ]

      part : (z : Exchange) (answer : Response) → new_representation r e answer z ≡ p → response ≡ answer → brings_part response.status ≡ true →
          how ≡ by.Founding → Served
      part z answer made same status by_is =
          let test : brings_part p.head.status ≡ true = sym (ap (λ (a : Representation). brings_part a.head.status) made) ∙
          (ap (λ (a : Response). brings_part a.status) (sym same) ∙ status) in
          let status_is : brings_part (status_in (now_on.representation r)) ≡ true = ap (λ q. brings_part (status_in q)) after ∙ test in
          first_now (sym (ap (λ (a : Representation). a.is_lost) made)) (ap (λ g. came_alone now_on (place.Bound r lo hi g)) by_is ∙ status_is)

    head_inj : (a d : ℕ) (f g : Response) → event.Head a f ≡ event.Head d g → f ≡ g
    head_inj a d f g is = cc

    founded_by : (k : Consumer) (x : ℕ) (response : Response) (w : Exchange) (g : Option HeadCase) → ev ≡ event.Head x response → t.exchange x ≡ Some w →
        x ≡ r → how ≡ by.Founding → case_at t e ≡ g → IsFounded t e c r lo hi how x response w k g → (z : Exchange) (answer : Response) →
        new_representation r e answer z ≡ p → response ≡ answer → Served
    founded_by k x response w _ here exchange_row of_r by_is is (from.whole from_is to) z answer made same =
        whole x response w here exchange_row z answer of_r made same
        (whole_brings t (has_loss e.acts) w response (case_of_head t e x response w case.FoundsWhole here exchange_row is)) (ap is_refused is)
        (ap (λ q. doomed_by_case q w response) is) to
    founded_by k x response w _ here exchange_row of_r by_is is (from.replaced from_is to) z answer made same =
        whole x response w here exchange_row z answer of_r made same
        (replaced_brings t (has_loss e.acts) w response (case_of_head t e x response w case.FirstReplaced here exchange_row is)) (ap is_refused is)
        (ap (λ q. doomed_by_case q w response) is) to
    founded_by k x response w _ here exchange_row of_r by_is is (from.part i) z answer made same =
        part x response w here exchange_row z answer made same
        (range_brings w response (case_of_head t e x response w case.FoundsRange here exchange_row is)) by_is

    founded : (k : Consumer) (x : ℕ) (response : Response) (w : Exchange) → ev ≡ event.Head x response → t.exchange x ≡ Some w → x ≡ r →
        how ≡ by.Founding → IsFounded t e c r lo hi how x response w k (case_at t e) → RepFrom t e r p → Served
    founded k x response w here exchange_row of_r by_is is (rep.was v kept) =
        absurd (none_some v (sym (is_new limits t now flaw s ev goes x response w here exchange_row).unfounded ∙ (ap t.representation of_r ∙ kept.row)))
    founded k x response w here exchange_row of_r by_is is (rep.founded answer z none also row_too on made) =
        founded_by k x response w (case_at t e) here exchange_row of_r by_is refl is z answer made (head_inj x r response answer (sym here ∙ also))

    -- EACH WAY TO BE BOUND

    stays_by : (k : Consumer) → IsRow t e c r lo hi how k u → k.place ≡ place.Bound r lo hi how → u.due ≡ None → RepFrom t e r p → Served
    stays_by k row at none (rep.founded response w unfounded here exchange_row on made) =
        absurd (let there = s.numbered.bound_to r c k (sound.is_bound lo hi how row.row at) in false_true (sym (ap is_some unfounded) ∙ there))
    stays_by k row at none (rep.was v kept) =
        let was = due_before t e c k (consumer_acted t e c (consumer_heard t e c ev k)) u row.is (ap reads stands) none in
        was_bound k v row at kept.row kept was.0 was.1

    by_way : u.due ≡ None → BoundFrom t e c r lo hi how u → RepFrom t e r p → Served
    by_way none (from.stays k row at) from_it = stays_by k row at none from_it
    by_way none (from.founds k x response w row here exchange_row mine of_r by_is all) from_it = founded k x response w here exchange_row of_r by_is all from_it
    by_way none (from.opens k q row opens mine free way hole) from_it =
        opened k q row opens mine (open_free limits t now flaw s ev goes c r k q row.row opens mine free way hole.current_is) hole from_it
    by_way none (from.shows k z row is all) from_it = shown k z row is all from_it

  -- Whoever is bound and has nothing due is served.
  pub served_kept : (r c : ℕ) (p : Representation) (u : Consumer) → now_on.representation r ≡ Some p → IsBound now_on r c u → u.due ≡ None →
      IsServed now_on r p c u
  served_kept r c p u after (sound.is_bound lo hi how row stands) none =
      by_way r c lo hi how u p after row stands none (bound_from t e c r lo hi how (t.consumer c) u refl row stands)
      (rep_from t e r (t.representation r) p refl after)
