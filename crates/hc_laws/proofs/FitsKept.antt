-- What is stored fits the limit, after each entry of a run.
--
-- What was there and isn't written weighs no more than before (`still_held`), so then the sum can't grow (`unwritten`).
-- Else nothing was lost, and room was made first. What gives way weighs nothing any more (`gone_not`), and all else
-- grows by what was written at most (`roomy`). A head that founds adds a slot (`by_founding`), a stored piece its bytes
-- (`by_stored`). `within_kept` joins the events.
use Rattle.std.{proofs.{Common.{◌≡◌, ◌⊎◌, inl, inr, ℕ, ◌+◌, ◌≤◌, List, [], ◌∷◌, ◌++◌, length, Bool, true, false, Option, Some, None, refl, ap, sym, ◌∙◌, subst, arith}, lemmas.{Bool.Decides.{nat_tests}, List.Sums.{sum_by-cons}}}, specs.{Prelude.{if◌then◌else◌, is_some, ◌||◌, ◌==◌, not, nat_eq, nat_lt, map, take, reverse}, List.{list_any, sum_by}, Option.{option_and_then}}}
use Rattle.hc_text.proofs.Basics.{and_left, and_right, bool_cases, not_some as none_some, never_true, not_true, not_false, or_cases, or_right, same_some as same_row, some_inj}
use Rattle.hc_effects.proofs.Vocabulary.{opening_in, evicts_in, is_denied, Act, Event, Response, HeadCase, Limits, Room, Write, head_case, weight_of, gives_way, grown_by, is_too_large, room_of, AreOnce, BoundBy, loses_in, has_loss, answer_acts, loss_acts, close_acts, case_at, case_of, head_view, is_founding, consumer_heard, by_head, place_by_case, by_opening, waiting, is_current, Entry, entry_without_acts, promise_in, family, exchange_at, is_for, Flaw, NoFlaw, Loses, Misreads, flaw_in, becomes_gone, goes_itself, entry_of, Measures, bound, reads, Tables, Exchange, Representation, Consumer, may_stand, may_be, may_misread, has_room, Sound, Among, IsBound, founds, with_item_first, after_accepted, weight, weight_in, weights, idle, is_idle, is_replacing, moves_on, stays_bound, stays_current, room_by, room_for, write_in, write_of_piece, piece_write, first_idle, evicted, act, event, case, write, place, by}
use Rattle.hc_rules.specs.declared.room.Room.TheVariants as room
use Rattle.hc_rules.specs.Rooms as rooms
use Rattle.hc_model.specs.Sound as sound
use Rattle.hc_effects.proofs.{Basics.{false_true, true_false, or_false, some_row, number_yes}, BoundFrom.{BoundFrom, IsRow, bound_from, place_inj}, BoundKeeps.{planned_at}, FirstKeeps.{case_is, is_new}, FoundBy.{FoundingBy, founding_by}, LossBy.{IsReal, lost_is}, OwnersKeep.{is_opened}, PollKeeps.{current_stays}, RepFrom.{RepFrom, rep_from, IsKept}, Said.{showing_by}, SaidActs.{loss_is}, ShownFrom.{ShownAs}, Sums.{only_yes, sum_le, sum_two, sum_plus, sum_some, only, only_once, is_in, among_of, in_among, filter_among, filter_once, take_among, take_once, reverse_among, reverse_once, gives_enough}, ToBeShown.{heard_place}, Weighed.{IsHeld, held, total, held_is, held_most, held_none, IsFilled, sized, goes_more, case_same}, Step.{Step}}
use Rattle.hc_effects.proofs.BoundFrom as from
use Rattle.hc_effects.proofs.FoundBy as cases
use Rattle.hc_effects.proofs.RepFrom as rep
use Rattle.hc_effects.proofs.ShownFrom as shown_as
use Rattle.hc_effects.proofs.Weighed as weighed

any_none : (test : ℕ → Bool) (c : ℕ) (cs : List ℕ) → Among c cs → list_any test cs ≡ false → test c ≡ false
any_none test c [] among h = absurd among
any_none test c (d ∷ cs) (inl here) h = ap test (sym here) ∙ (or_false (test d) (list_any test cs) h).0
any_none test c (d ∷ cs) (inr there) h = any_none test c cs there (or_false (test d) (list_any test cs) h).1

pub any_some : (test : ℕ → Bool) (c : ℕ) (cs : List ℕ) → Among c cs → test c ≡ true → list_any test cs ≡ true
any_some test c [] among h = absurd among
any_some test c (d ∷ cs) (inl here) h = rw (ap test here ∙ h) refl
any_some test c (d ∷ cs) (inr there) h = or_right (test d) _ (any_some test c cs there h)

evicts_all : (r : ℕ) (rs : List ℕ) (rest : List Act) → is_in rs r ≡ true → evicts_in r (map act.Evicted rs ++ rest) ≡ true
evicts_all r [] rest h = absurd (false_true h)
evicts_all r (q ∷ rs) rest h = elim (bool_cases (q == r)) [
  | inl hit ↦ rw hit refl
  | inr off ↦ rw off (evicts_all r rs rest (rw off at h))
]

-- what is lost has a number
some_loss : (acts : List Act) → has_loss acts ≡ true → (r : ℕ) × (loses_in r acts ≡ true)
some_loss [] h = absurd (false_true h)
some_loss (act.Lost r kind ∷ acts) h = (r, (let self : nat_eq r r ≡ true = grind (arith, nat_tests) in rw self refl))
some_loss (_ ∷ acts) h = some_loss acts h

among_bound : (t : Tables) (r c : ℕ) (k : Consumer) → Sound t → IsBound t r c k → Among c (bound t r)
unfolding bound
among_bound t r c k s (sound.is_bound lo hi how row at) =
    Rattle.hc_effects.proofs.Closed.among_filter c (λ d. Rattle.hc_model.specs.Reading.is_bound r (t.consumer d)) t.starts
    (ap (Rattle.hc_model.specs.Reading.is_bound r) row ∙
    (ap (Rattle.hc_model.specs.Reading.is_bound_place r) at ∙ (let test : nat_eq r r ≡ true = grind (arith, nat_tests) in test)))
    (s.numbered.lists.started c (ap is_some row))

-- what fits: each of what is founded stands once and has a row, and so does what was used
pub record Fits (limits : Limits) (t : Tables) : Type 0 where
  pub within : total t ≤ limits.max_total
  pub once : AreOnce t.founded
  pub rows : (r : ℕ) → Among r t.founded → is_some (t.representation r) ≡ true
  pub used_once : AreOnce t.used
  pub used_founded : (r : ℕ) → Among r t.used → Among r t.founded
  pub founded_used : (r : ℕ) → Among r t.founded → Among r t.used

module _ (step : Step) (m : Measures step.tables) (f : Fits step.limits step.tables) (real : IsReal step.limits step.tables step.now step.event step.flaw) where
  open step use {limits, tables as t, now, flaw, sound as s, event as ev, accepted as goes}

  abbrev e : Entry
  e = entry_of limits t now ev flaw

  abbrev now_on : Tables
  now_on = after_accepted t e

  -- WHAT WAS THERE

  record IsOn (r : ℕ) : Type 0 where
    v : Representation
    p : Representation
    there : t.representation r ≡ Some v
    after : now_on.representation r ≡ Some p
    kept : IsKept t e r v p

  on_by : (r : ℕ) (v p : Representation) → t.representation r ≡ Some v → now_on.representation r ≡ Some p → RepFrom t e r p → IsOn r
  on_by r v p there after (rep.was q kept) = record { v = q; p = p; there = kept.row; after = after; kept = kept }
  on_by r v p there after (rep.founded response w none here row on made) = absurd (none_some v (sym none ∙ there))

  on_of : (r : ℕ) → Among r t.founded → IsOn r
  on_of r among =
      let v = some_row (t.representation r) (f.rows r among) in
      let p = some_row (now_on.representation r) (rep.stays t e r (t.representation r) (f.rows r among)) in
      on_by r v.0 p.0 v.1 p.1 (rep_from t e r (t.representation r) p.0 refl p.1)

  -- why it weighs after an entry
  data WasHeld (r : ℕ) (v : Representation) : Type 0 where
    current : becomes_gone t e r v ≡ false → v.is_gone ≡ false → WasHeld r v
    stays : (c lo : ℕ) (hi : Option ℕ) (how : BoundBy) (k u : Consumer) → IsRow t e c r lo hi how k u → k.place ≡ place.Bound r lo hi how →
        u.place ≡ place.Bound r lo hi how → WasHeld r v
    polls : (c want : ℕ) → ev ≡ event.Poll c want → v.is_gone ≡ false → WasHeld r v

  by_reader : (r c lo : ℕ) (hi : Option ℕ) (how : BoundBy) (u : Consumer) (v : Representation) → t.representation r ≡ Some v →
      u.place ≡ place.Bound r lo hi how → BoundFrom t e c r lo hi how u → WasHeld r v
  by_reader r c lo hi how u v there stands (from.stays k row at) = stays c lo hi how k u row at stands
  by_reader r c lo hi how u v there stands (from.founds k x response w row here exchange_row mine of_r by_is all) =
      absurd (none_some v (sym (is_new limits t now flaw s ev goes x response w here exchange_row).unfounded ∙ (ap t.representation of_r ∙ there)))
  by_reader r c lo hi how u v there stands (from.opens k q row opens mine free way hole) =
      let by_poll = is_opened step q opens in polls q.c by_poll.want by_poll.at (current_stays t _ r v hole.current_is there)
  by_reader r c lo hi how u v there stands (from.shows k a row is all) =
      let planned = planned_at limits t now flaw s ev goes a k (ap t.consumer all.at ∙ row.row) is
      (subst (λ d. reads (by_opening t d (opening_in e.acts) (waiting t e d (consumer_heard t e d ev k))).place ≡ false) (sym all.at) all.free) in
      let shows = showing_by limits t now flaw s ev goes a is in
      polls a.c shows.want shows.poll.at (by_shown planned.shown_as)
    where
      by_shown : ShownAs t now a.c k a.r a.lo a.hi → v.is_gone ≡ false
      by_shown (shown_as.joins q current_is q_row on from_is to) = current_stays t _ r v (current_is ∙ ap Some all.of_r) there
      by_shown (shown_as.stored q span current_is q_row off wanted_is none_is from_is to) = current_stays t _ r v (current_is ∙ ap Some all.of_r) there

  was_held : (r : ℕ) (n : IsOn r) → IsHeld now_on r n.p → WasHeld r n.v
  was_held r n (weighed.fresh not_gone) =
      let both = or_false (becomes_gone t e r n.v) _ (ap (λ (q : Representation). q.is_gone) n.kept.is ∙ not_gone) in
      current both.0 (sym (rep.heard t e r n.v ev refl).gone_is ∙ both.1)
  was_held r n (weighed.read c u (sound.is_bound lo hi how after_row stands)) =
      by_reader r c lo hi how u n.v n.there stands (bound_from t e c r lo hi how (t.consumer c) u refl after_row stands)

  held_before : (r : ℕ) (v : Representation) → WasHeld r v → IsHeld t r v
  held_before r v (current quiet not_gone) = weighed.fresh not_gone
  held_before r v (stays c lo hi how k u row at stands) = weighed.read c k (sound.is_bound lo hi how row.row at)
  held_before r v (polls c want at not_gone) = weighed.fresh not_gone

  -- WHERE NOTHING IS WRITTEN

  still_held : (r : ℕ) → Among r t.founded → ((n : IsOn r) → IsFilled t e r n.v n.p → ⊥) → held now_on r ≤ held t r
  still_held r among unfilled =
      let n = on_of r among in
      held_most now_on r (held t r) n.p n.after (λ why.
      let w : held t r ≡ weight_of n.v.size = held_is t r n.v s n.there (held_before r n.v (was_held r n why)) in
      let same : n.p.size ≡ n.v.size = by_size n (sized t e r n.v n.p n.kept) in
      omega arith)
    where
      by_size : (n : IsOn r) → (n.p.size ≡ n.v.size) ⊎ IsFilled t e r n.v n.p → n.p.size ≡ n.v.size
      by_size n (inl same) = same
      by_size n (inr filled) = absurd (unfilled n filled)

  unwritten : founds t e ≡ None → ((r : ℕ) (n : IsOn r) → IsFilled t e r n.v n.p → ⊥) → total now_on ≤ limits.max_total
  unwritten none unfilled =
      let sum : total now_on ≡ sum_by (held now_on) t.founded = ap (sum_by (held now_on)) (ap (λ q. with_item_first q t.founded) none) in
      let less : sum_by (held now_on) t.founded ≤ total t = sum_le (held now_on) (held t) t.founded (λ r among. still_held r among (unfilled r)) in
      omega arith

  -- WHERE THERE IS ROOM FOR WHAT IS WRITTEN

  abbrev e0 : Entry
  e0 = entry_without_acts now ev

  abbrev w0 : ℕ → ℕ
  w0 = weight t e0

  -- who moves on founds
  moves_on_not : (c r lo : ℕ) (hi : Option ℕ) (how : BoundBy) (k u : Consumer) (v : Representation) → has_loss e.acts ≡ false →
      t.representation r ≡ Some v → IsRow t e c r lo hi how k u → u.place ≡ place.Bound r lo hi how → ((d want : ℕ) → ev ≡ event.Poll d want → ⊥) →
      moves_on t e0 c ≡ true → ⊥
  unfolding case_of
  moves_on_not c r lo hi how k u v lossless there row stands unpolled moves = by_event ev refl (and_left _ _ moves) (and_right _ _ moves)
    where
      head_moves : (x : ℕ) (response : Response) (z : Option Exchange) → ev ≡ event.Head x response → t.exchange x ≡ z →
          case_at t e ≡ Some case.FirstReplaced → is_for z c ≡ true → ⊥
      head_moves x response None here exchange_row is mine = false_true mine
      head_moves x response (Some w) here exchange_row is mine =
          let test : nat_eq w.c c ≡ true = mine in
          let placed : u.place ≡ place_by_case x response w k (case_at t e) =
          heard_place step c r lo hi how k u unpolled row
          ∙ (ap (λ q. (consumer_heard t e c q k).place) here ∙ (ap (λ q. (by_head t e c x response q k).place) exchange_row ∙ rw test refl)) in
          let number : x ≡ r = (place_inj x 0 (promise_in w response) by.Founding r lo hi how
          (sym (ap (place_by_case x response w k) is) ∙ (sym placed ∙ stands))).number in
          none_some v (sym (is_new limits t now flaw s ev goes x response w here exchange_row).unfounded ∙ (ap t.representation number ∙ there))

      replaced : (g : Option HeadCase) → is_replacing g ≡ true → g ≡ Some case.FirstReplaced
      replaced (Some case.FirstReplaced) h = refl
      replaced _ h = absurd (false_true h)

      by_event : (z : Event) → ev ≡ z → is_replacing (case_at t e0) ≡ true → is_for (exchange_at t ev) c ≡ true → ⊥
      by_event (event.Head x response) here is mine =
          head_moves x response (t.exchange x) here refl (sym (case_same t e r lossless) ∙ replaced (case_at t e0) is)
          (sym (ap (λ q. is_for (exchange_at t q) c) here) ∙ mine)
      by_event v here is mine = false_true (sym (ap is_replacing (ap (case_of t false) here)) ∙ is)

  module _ (lossless : has_loss e.acts ≡ false) (unpolled : (d want : ℕ) → ev ≡ event.Poll d want → ⊥) (gone : List ℕ) (rest : List Act)
      (acts_are : e.acts ≡ map act.Evicted gone ++ rest) (count : ℕ) (gone_is : gone ≡ take count (idle t e0)) where
    -- what weighs after it weighed before its answer
    still_stays : (r : ℕ) (v : Representation) → t.representation r ≡ Some v → WasHeld r v → (stays_current t e0 r v || stays_bound t e0 r) ≡ true
    unfolding becomes_gone
    still_stays r v there (current quiet not_gone) =
        let before : goes_itself t e0 r v ≡ false =
        never_true _ (λ on. true_false (sym (goes_more t e r lossless v on) ∙ (or_false (goes_itself t e r v) _ quiet).0)) in
        rw (before, now_current) refl
      where
        now_current : is_current t v.key r ≡ true
        now_current = number_yes (Rattle.hc_model.specs.Currents.current t v.key) r
            (Rattle.hc_effects.proofs.CurrentKeeps.current_is t v.key r v s there refl not_gone)
    still_stays r v there (stays c lo hi how k u row at stands) =
        let unmoved : moves_on t e0 c ≡ false = never_true (moves_on t e0 c) (moves_on_not c r lo hi how k u v lossless there row stands unpolled) in
        or_right (stays_current t e0 r v) _
        (any_some (λ d. not (moves_on t e0 d)) c (bound t r) (among_bound t r c k s (sound.is_bound lo hi how row.row at)) (ap not unmoved))
    still_stays r v there (polls c want at not_gone) = absurd (unpolled c want at)

    weighs : (r : ℕ) (v : Representation) → t.representation r ≡ Some v → WasHeld r v → w0 r ≡ weight_of v.size
    weighs r v there why = ap (weight_in t e0 r) there ∙ rw (still_stays r v there why) refl

    -- and what makes room doesn't weigh any more
    gone_not : (r : ℕ) (n : IsOn r) → is_in gone r ≡ true → WasHeld r n.v → ⊥
    unfolding becomes_gone idle
    gone_not r n inside why = by_why why
      where
        passes : is_idle t e0 r (t.representation r) ≡ true
        passes = (filter_among (λ q. is_idle t e0 q (t.representation q)) r (reverse t.used)
            (take_among count r (idle t e0) (subst (Among r) gone_is (in_among gone r inside)))).1

        unbound : stays_bound t e0 r ≡ false
        unbound = not_true (stays_bound t e0 r) (and_right (stays_current t e0 r n.v) _ (sym (ap (is_idle t e0 r) n.there) ∙ passes))

        evicted_now : evicts_in r e.acts ≡ true
        evicted_now = ap (evicts_in r) acts_are ∙ evicts_all r gone rest inside

        by_why : WasHeld r n.v → ⊥
        by_why (current quiet not_gone) = true_false (sym evicted_now ∙ (or_false (goes_itself t e r n.v) (evicts_in r e.acts) quiet).1)
        by_why (stays c lo hi how k u row at stands) =
            let among = among_bound t r c k s (sound.is_bound lo hi how row.row at) in
            let moved : moves_on t e0 c ≡ true = not_false (moves_on t e0 c) (any_none (λ d. not (moves_on t e0 d)) c (bound t r) among unbound) in
            moves_on_not c r lo hi how k u n.v lossless n.there row stands unpolled moved
        by_why (polls c want at not_gone) = unpolled c want at

    module _ (q count_of : ℕ) (filled : (r : ℕ) (n : IsOn r) → IsFilled t e r n.v n.p → (r ≡ q) × (n.p.size ≡ n.v.size + count_of)) where
      each : (r : ℕ) → Among r t.founded → held now_on r + among_of w0 gone r ≤ w0 r + only q count_of r
      each r among = elim (bool_cases (is_in gone r)) [
        | inl inside ↦
            let n = on_of r among in
            let none : held now_on r ≤ 0 = held_most now_on r 0 n.p n.after (λ why. absurd (gone_not r n inside (was_held r n why))) in
            let weigh : among_of w0 gone r ≡ w0 r = rw inside refl in
            omega arith
        | inr outside ↦
            let n = on_of r among in
            let weigh : among_of w0 gone r ≡ 0 = rw outside refl in
            let most : held now_on r ≤ w0 r + only q count_of r = held_most now_on r (w0 r + only q count_of r) n.p n.after (λ why.
            by_size n (weighs r n.v n.there (was_held r n why)) (sized t e r n.v n.p n.kept)) in
            omega arith
      ]
        where
          by_size : (n : IsOn r) → w0 r ≡ weight_of n.v.size → (n.p.size ≡ n.v.size) ⊎ IsFilled t e r n.v n.p → weight_of n.p.size ≤ w0 r + only q count_of r
          by_size n w (inl same) = let size_is : n.p.size ≡ n.v.size = same in omega arith
          by_size n w (inr fill) =
              let both = filled r n fill in
              let yes : only q count_of r ≡ count_of = only_yes q count_of r both.0 in
              omega arith

      -- with room for as much as was written, all fits
      roomy : (grown : ℕ) → gives_way limits.max_total (weights t e0 + grown) (map w0 (idle t e0)) ≡ Some count →
          sum_by (held now_on) t.founded + grown ≤ limits.max_total + count_of
      unfolding idle
      roomy grown gives =
          let enough : weights t e0 + grown ≤ limits.max_total + sum_by w0 (take count (idle t e0)) =
          gives_enough limits.max_total (weights t e0 + grown) count w0 (idle t e0) gives in
          let same : sum_by w0 gone ≡ sum_by w0 (take count (idle t e0)) = ap (sum_by w0) gone_is in
          let once_used = filter_once (λ r. is_idle t e0 r (t.representation r)) (reverse t.used) (reverse_once t.used f.used_once) in
          let once_gone : AreOnce gone = subst AreOnce (sym gone_is) (take_once count (idle t e0) once_used) in
          let some : sum_by w0 gone ≤ sum_by (among_of w0 gone) t.founded =
          sum_some w0 gone t.founded once_gone
          (λ r among. f.used_founded r
          (reverse_among r t.used (filter_among (λ z. is_idle t e0 z (t.representation z)) r (reverse t.used)
          (take_among count r (idle t e0) (subst (Among r) gone_is among))).0)) in
          let all : sum_by (held now_on) t.founded + sum_by (among_of w0 gone) t.founded ≤ sum_by (λ r. w0 r + only q count_of r) t.founded =
          sum_two (held now_on) (among_of w0 gone) (λ r. w0 r + only q count_of r) t.founded each in
          let plus : sum_by (λ r. w0 r + only q count_of r) t.founded ≡ weights t e0 + sum_by (only q count_of) t.founded =
          sum_plus w0 (only q count_of) t.founded in
          let few : sum_by (only q count_of) t.founded ≤ count_of = only_once q count_of t.founded f.once in
          omega arith

  -- THE FLAW

  -- where nothing is lost and it isn't a poll, there was room
  roomed : has_loss e.acts ≡ false → ((d want : ℕ) → ev ≡ event.Poll d want → ⊥) → has_room (room_for limits t now ev) ≡ true
  unfolding may_stand
  roomed lossless unpolled = by_flaw flaw refl
    where
      misread_not : (r : ℕ) (z : Event) → ev ≡ z → may_misread t r z ≡ true → ⊥
      misread_not r (event.Poll c want) here h = unpolled c want here
      misread_not r _ here h = false_true h

      silent : (z : Event) → ev ≡ z → answer_acts t now ev flaw ≡ []
      silent (event.Poll c want) here = absurd (unpolled c want here)
      silent _ here = ap (λ q. answer_acts t now q flaw) here

      may : may_be limits t e flaw ≡ true
      may = elim (or_cases (is_denied e.acts) (may_be limits t e (flaw_in e.acts)) real.stand) [
        | inl denied ↦ absurd (false_true (sym real.taken ∙ denied))
        | inr is ↦ sym (ap (may_be limits t e) real.shown) ∙ is
      ]

      by_flaw : (z : Flaw) → flaw ≡ z → has_room (room_for limits t now ev) ≡ true
      by_flaw NoFlaw is = sym (ap (may_be limits t e) is) ∙ may
      by_flaw (Misreads r) is = absurd (misread_not r ev refl (sym (ap (may_be limits t e) is) ∙ may))
      by_flaw (Loses r kind) is =
          absurd (true_false (sym (loss_is limits t now flaw s ev ∙
          (ap (λ z. has_loss (z ++ loss_acts flaw)) (silent ev refl) ∙ ap (λ z. has_loss (loss_acts z)) is)) ∙ lossless))

  record IsRoom : Type 0 where
    count : ℕ
    is : room_for limits t now ev ≡ room.After count

  room_of_it : (z : Room) → room_for limits t now ev ≡ z → has_room z ≡ true → IsRoom
  room_of_it (room.After count) is h = record { count = count; is = is }
  room_of_it _ is h = absurd (false_true h)

  gives_of : (used : ℕ) (w : Write) (ws : List ℕ) (count : ℕ) → room_of limits used w ws ≡ room.After count →
      gives_way limits.max_total (used + grown_by w) ws ≡ Some count
  unfolding room_of
  gives_of used w ws count is = elim (bool_cases (is_too_large limits w)) [
    | inl large ↦ absurd (let no : room.TooLarge ≡ room.After count = rw large at is in cc)
    | inr small ↦ by_gives (gives_way limits.max_total (used + grown_by w) ws) (rw small at is)
  ]
    where
      by_gives : (z : Option ℕ) → rooms.room_by z ≡ room.After count → z ≡ Some count
      by_gives None h = absurd (let no : room.Full ≡ room.After count = h in cc)
      by_gives (Some n) h = let same : n ≡ count = cc in ap Some same

  -- A HEAD THAT FOUNDS

  -- nothing is lost where a head founds
  founding_lossless : (x : ℕ) (response : Response) (w : Exchange) → ev ≡ event.Head x response → t.exchange x ≡ Some w →
      is_founding (case_at t e) ≡ true → has_loss e.acts ≡ false
  founding_lossless x response w here row on = by_case (head_case view) (founding_by view (sym (ap is_founding (case_is t e x response w here row)) ∙ on))
    where
      view : Rattle.hc_rules.specs.declared.heads.HeadView.HeadView
      view = head_view t (has_loss e.acts) w response

      by_case : (g : HeadCase) → FoundingBy view g → has_loss e.acts ≡ false
      by_case _ (cases.whole way h l) = l
      by_case _ (cases.part way h fits l g) = l
      by_case _ (cases.replaced way h l) = l

  -- what it founds weighs a slot
  founded_weighs : (x : ℕ) (p : Representation) → t.representation x ≡ None → RepFrom t e x p → now_on.representation x ≡ Some p → held now_on x ≤ 32768
  founded_weighs x p none (rep.was v kept) after = absurd (none_some v (sym none ∙ kept.row))
  founded_weighs x p none (rep.founded response w none_there here row on made) after =
      let size_is : 0 ≡ p.size = ap (λ (q : Representation). q.size) made in
      held_most now_on x 32768 p after (λ why. omega arith)

  founded_held : (x : ℕ) (z : Option Representation) → now_on.representation x ≡ z → t.representation x ≡ None → held now_on x ≤ 32768
  founded_held x None after none = let zero_is : held now_on x ≡ 0 = held_none now_on x after in omega arith
  founded_held x (Some p) after none = founded_weighs x p none (rep_from t e x (t.representation x) p refl after) after

  by_founding : (x : ℕ) (response : Response) (w : Exchange) → ev ≡ event.Head x response → t.exchange x ≡ Some w → is_founding (case_at t e) ≡ true →
      total now_on ≤ limits.max_total
  unfolding room_for
  by_founding x response w here row on =
      let lossless = founding_lossless x response w here row on in
      let unpolled : (d want : ℕ) → ev ≡ event.Poll d want → ⊥ =
      (λ d want polls. let no : event.Head x response ≡ event.Poll d want = sym here ∙ polls in cc) in
      let r = room_of_it (room_for limits t now ev) refl (roomed lossless unpolled) in
      let founds_it : is_founding (case_at t e0) ≡ true = ap is_founding (case_same t e x lossless) ∙ on in
      let write_is : write_in t e0 ev ≡ Some write.Slot = ap (write_in t e0) here ∙ rw founds_it refl in
      let gives = gives_of (weights t e0) write.Slot (map w0 (idle t e0)) r.count (sym (ap (room_by limits t e0) write_is) ∙ r.is) in
      let gone_is : evicted limits t now ev ≡ take r.count (idle t e0) = ap (first_idle t e0) r.is in
      let acts_are : e.acts ≡ map act.Evicted (evicted limits t now ev) ++ (loss_acts flaw ++ close_acts t now ev flaw) =
      ap (λ z. Rattle.hc_model.specs.Answers.accepted_acts limits t now z flaw) here ∙
      ap (λ z. map act.Evicted (evicted limits t now z) ++ (loss_acts flaw ++ close_acts t now z flaw)) (sym here) in
      let most : sum_by (held now_on) t.founded + 32768 ≤ limits.max_total + 0 =
      roomy lossless unpolled (evicted limits t now ev) (loss_acts flaw ++ close_acts t now ev flaw) acts_are r.count gone_is x 0
      (λ q n filled. absurd (let no : event.Head x response ≡ event.Piece filled.x filled.bytes = sym here ∙ filled.at in cc)) 32768 gives in
      let founds_x : founds t e ≡ Some x = rw on (ap Rattle.hc_model.specs.Exchanges.exchange_in here) in
      let list_is : now_on.founded ≡ x ∷ t.founded = ap (λ q. with_item_first q t.founded) founds_x in
      let sum : total now_on ≡ held now_on x + sum_by (held now_on) t.founded = ap (sum_by (held now_on)) list_is ∙ sum_by-cons (held now_on) x t.founded in
      let slot : held now_on x ≤ 32768 = founded_held x (now_on.representation x) refl (is_new limits t now flaw s ev goes x response w here row).unfounded in
      omega arith

  -- A PIECE THAT IS STORED

  -- a stored piece is of no lost write
  stored_lossless : (x : ℕ) (bytes : List ℕ) (w : Exchange) (q : ℕ) → ev ≡ event.Piece x bytes → t.exchange x ≡ Some w → family x w ≡ q → loses_in
      q e.acts ≡ false → has_loss e.acts ≡ false
  unfolding Rattle.hc_model.specs.Writes.written_representation
  stored_lossless x bytes w q here row of_q quiet = never_true (has_loss e.acts) (λ is.
      let some = some_loss e.acts is in
      let l = lost_is step m real some.0 some.1 in
      let writes : Rattle.hc_model.specs.Writes.piece_writes t x (t.exchange x) ≡ Some some.0 =
      sym (ap (Rattle.hc_model.specs.Writes.written_in t (Rattle.hc_model.specs.Writes.lossless e)) here) ∙ l.is in
      let number : family x w ≡ some.0 =
      unless_is (family x w) some.0 (t.representation (family x w)) (sym (ap (Rattle.hc_model.specs.Writes.piece_writes t x) row) ∙ writes) in
      true_false (sym (sym (ap (λ r. loses_in r e.acts) (sym number ∙ of_q)) ∙ some.1) ∙ quiet))
    where
      unless_is : (n r : ℕ) (z : Option Representation) → Rattle.hc_model.specs.Writes.unless_lost n z ≡ Some r → n ≡ r
      unless_is n r None h = absurd (none_some r h)
      unless_is n r (Some v) h = by_lost v.is_lost h
        where
          by_lost : (b : Bool) → (if b then None else Some n) ≡ Some r → n ≡ r
          by_lost true h = absurd (none_some r h)
          by_lost false h = some_inj n r h

  by_stored : (x : ℕ) (bytes : List ℕ) (w : Exchange) (v : Representation) → ev ≡ event.Piece x bytes → t.exchange x ≡ Some w →
      t.representation (family x w) ≡ Some v → v.is_lost ≡ false → loses_in (family x w) e.acts ≡ false → total now_on ≤ limits.max_total
  unfolding room_for case_of
  by_stored x bytes w v here row there kept quiet =
      let lossless = stored_lossless x bytes w (family x w) here row refl quiet in
      let unpolled : (d want : ℕ) → ev ≡ event.Poll d want → ⊥ = (λ d want polls. let no : event.Piece x bytes ≡ event.Poll d want = sym here ∙ polls in cc) in
      let r = room_of_it (room_for limits t now ev) refl (roomed lossless unpolled) in
      let write_is : write_in t e0 ev ≡ Some (write.Piece v.size (length bytes)) =
      ap (write_in t e0) here ∙
      (ap (option_and_then (write_of_piece t x (length bytes))) row ∙ (ap (option_and_then (piece_write (length bytes))) there ∙ rw kept refl)) in
      let gives = gives_of (weights t e0) (write.Piece v.size (length bytes)) (map w0 (idle t e0)) r.count (sym (ap (room_by limits t e0) write_is) ∙ r.is) in
      let gone_is : evicted limits t now ev ≡ take r.count (idle t e0) = ap (first_idle t e0) r.is in
      let acts_are : e.acts ≡ map act.Evicted (evicted limits t now ev) ++ (loss_acts flaw ++ close_acts t now ev flaw) =
      ap (λ z. Rattle.hc_model.specs.Answers.accepted_acts limits t now z flaw) here ∙
      ap (λ z. map act.Evicted (evicted limits t now z) ++ (loss_acts flaw ++ close_acts t now z flaw)) (sym here) in
      let most : sum_by (held now_on) t.founded + length bytes ≤ limits.max_total + length bytes =
      roomy lossless unpolled (evicted limits t now ev) (loss_acts flaw ++ close_acts t now ev flaw) acts_are r.count gone_is (family x w) (length bytes)
      (λ q n filled.
      let same : (x ≡ filled.x) × (bytes ≡ filled.bytes) = (cc, cc) in
      let one : filled.w ≡ w = same_row (t.exchange x) filled.w w (ap t.exchange same.0 ∙ filled.row) row in
      let count : length filled.bytes ≡ length bytes = ap (λ (b : List ℕ). length b) (sym same.1) in
      (sym filled.of_r ∙ (ap (λ b. family b filled.w) (sym same.0) ∙ ap (family x) one), filled.size_is ∙ ap (λ b. n.v.size + b) count)) (length bytes) gives in
      let none : founds t e ≡ None =
      ap (λ z. if is_founding (case_of t (has_loss e.acts) z) then Rattle.hc_model.specs.Exchanges.exchange_in z else None) here in
      let sum : total now_on ≡ sum_by (held now_on) t.founded = ap (sum_by (held now_on)) (ap (λ q. with_item_first q t.founded) none) in
      omega arith

  small_of : (used count : ℕ) (w : Write) (ws : List ℕ) → room_of limits used w ws ≡ room.After count → is_too_large limits w ≡ false
  unfolding room_of
  small_of used count w ws is = elim (bool_cases (is_too_large limits w)) [
    | inl large ↦ absurd (let no : room.TooLarge ≡ room.After count = rw large at is in cc)
    | inr small ↦ small
  ]

  -- no more is stored than an entry may have
  pub stored_small : (r : ℕ) (v p : Representation) → t.representation r ≡ Some v → (f : IsFilled t e r v p) → v.size + length f.bytes ≤ limits.max_entry
  unfolding room_for
  stored_small r v p there filled =
      let n = length filled.bytes in
      let unpolled : (d want : ℕ) → ev ≡ event.Poll d want → ⊥ =
      (λ d want polls. let no : event.Piece filled.x filled.bytes ≡ event.Poll d want = sym filled.at ∙ polls in cc) in
      let room = room_of_it (room_for limits t now ev) refl
      (roomed (stored_lossless filled.x filled.bytes filled.w r filled.at filled.row filled.of_r filled.quiet) unpolled) in
      let kept : v.is_lost ≡ false = filled.kept in
      let write_is : write_in t e0 ev ≡ Some (write.Piece v.size n) =
      ap (write_in t e0) filled.at ∙
      (ap (option_and_then (write_of_piece t filled.x n)) filled.row ∙
      (ap (option_and_then (piece_write n)) (ap t.representation filled.of_r ∙ there) ∙ rw kept refl)) in
      let test : nat_lt limits.max_entry (v.size + n) ≡ false =
      small_of (weights t e0) room.count (write.Piece v.size n) (map w0 (idle t e0)) (sym (ap (room_by limits t e0) write_is) ∙ room.is) in
      grind (arith, nat_tests)

  -- EACH EVENT

  no_founding : (z : Event) → ev ≡ z → case_of t (has_loss e.acts) z ≡ None → founds t e ≡ None
  no_founding z here none = rw (ap (case_of t (has_loss e.acts)) here ∙ none) refl

  unpieced : (z : Event) → ev ≡ z → ((x : ℕ) (bytes : List ℕ) → z ≡ event.Piece x bytes → ⊥) → (r : ℕ) (n : IsOn r) → IsFilled t e r n.v n.p → ⊥
  unpieced z here other r n filled = other filled.x filled.bytes (sym here ∙ filled.at)

  by_piece : (x : ℕ) (bytes : List ℕ) → ev ≡ event.Piece x bytes → total now_on ≤ limits.max_total
  unfolding case_of
  by_piece x bytes here = by_row (t.exchange x) refl
    where
      none : founds t e ≡ None
      none = no_founding (event.Piece x bytes) here refl

      fill_same : (w : Exchange) → t.exchange x ≡ Some w → (r : ℕ) (n : IsOn r) (filled : IsFilled t e r n.v n.p) → (family x w ≡ r) × (filled.x ≡ x)
      fill_same w row r n filled =
          let same : (x ≡ filled.x) × (bytes ≡ filled.bytes) = (cc, cc) in (
            ap (family x) (sym (same_row (t.exchange x) filled.w w (ap t.exchange same.0 ∙ filled.row) row)) ∙
                (ap (λ b. family b filled.w) same.0 ∙ filled.of_r),
            sym same.0,
          )

      by_rep : (w : Exchange) → t.exchange x ≡ Some w → (z : Option Representation) → t.representation (family x w) ≡ z → total now_on ≤ limits.max_total
      by_rep w row None there = unwritten none (λ r n filled. none_some n.v (sym there ∙ (ap t.representation (fill_same w row r n filled).0 ∙ n.there)))
      by_rep w row (Some v) there = elim (bool_cases (v.is_lost || loses_in (family x w) e.acts)) [
        | inr off ↦ let both = or_false v.is_lost (loses_in (family x w) e.acts) off in by_stored x bytes w v here row there both.0 both.1
        | inl on ↦ unwritten none (λ r n filled.
            let number = (fill_same w row r n filled).0 in
            let one : n.v ≡ v = same_row (t.representation r) n.v v n.there (sym (ap t.representation number) ∙ there) in
            false_true (sym (rw (ap (λ (q : Representation). q.is_lost) (sym one) ∙ filled.kept, ap (λ q. loses_in q e.acts) number ∙ filled.quiet) refl) ∙ on))
      ]

      by_row : (z : Option Exchange) → t.exchange x ≡ z → total now_on ≤ limits.max_total
      by_row None row = unwritten none
          (λ r n filled. let same : (x ≡ filled.x) × (bytes ≡ filled.bytes) = (cc, cc) in none_some filled.w (sym row ∙ (ap t.exchange same.0 ∙ filled.row)))
      by_row (Some w) row = by_rep w row (t.representation (family x w)) refl

  by_its_head : (x : ℕ) (response : Response) → ev ≡ event.Head x response → total now_on ≤ limits.max_total
  unfolding case_of
  by_its_head x response here = elim (bool_cases (is_founding (case_at t e))) [
    | inl on ↦ by_row (t.exchange x) refl on
    | inr off ↦ unwritten (rw off refl) (unpieced (event.Head x response) here (λ y bytes is. let no : event.Head x response ≡ event.Piece y bytes = is in cc))
  ]
    where
      by_row : (z : Option Exchange) → t.exchange x ≡ z → is_founding (case_at t e) ≡ true → total now_on ≤ limits.max_total
      by_row None row on = absurd
          (false_true (sym (ap is_founding
          (ap (case_of t (has_loss e.acts)) here ∙
          ap (λ z. Rattle.std.specs.Option.option_map (λ w. head_case (head_view t (has_loss e.acts) w response)) z) row)) ∙ on))
      by_row (Some w) row on = by_founding x response w here row on

  within_by : (z : Event) → ev ≡ z → total now_on ≤ limits.max_total
  unfolding case_of
  within_by (event.Start c request) here =
      unwritten (no_founding _ here refl) (unpieced _ here (λ y bytes is. let no : event.Start c request ≡ event.Piece y bytes = is in cc))
  within_by (event.Poll c want) here =
      unwritten (no_founding _ here refl) (unpieced _ here (λ y bytes is. let no : event.Poll c want ≡ event.Piece y bytes = is in cc))
  within_by (event.Head x response) here = by_its_head x response here
  within_by (event.Piece x bytes) here = by_piece x bytes here
  within_by (event.End x) here = unwritten (no_founding _ here refl) (unpieced _ here (λ y bytes is. let no : event.End x ≡ event.Piece y bytes = is in cc))
  within_by (event.Fault x) here = unwritten (no_founding _ here refl) (unpieced _ here (λ y bytes is. let no : event.Fault x ≡ event.Piece y bytes = is in cc))
  within_by (event.Cancel c) here =
      unwritten (no_founding _ here refl) (unpieced _ here (λ y bytes is. let no : event.Cancel c ≡ event.Piece y bytes = is in cc))
  within_by (event.Doom key) here =
      unwritten (no_founding _ here refl) (unpieced _ here (λ y bytes is. let no : event.Doom key ≡ event.Piece y bytes = is in cc))

  pub within_kept : total now_on ≤ limits.max_total
  within_kept = within_by ev refl
