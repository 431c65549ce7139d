-- Whose an exchange is when its head comes, and so after each entry.
--
-- An exchange with a head had it before (`was_headed`) or gets it now (`now_headed`); one without is `bare_had`. A head
-- that comes joins or founds. Unless it is written for several, the exchange stays its consumer's own, and nothing is
-- due (`own_had`). So its consumer has to be the exclusive writer: as who waited for the hole (`kept_had`), or as who
-- came alone (`whole_had`, `part_had`). `had_kept` joins these.
use Rattle.std.{proofs.{Common.{◌≡◌, ◌⊎◌, inl, inr, ℕ, List, [], ◌∷◌, Bool, true, false, Option, Some, None, refl, ap, sym, ◌∙◌, subst, arith}, lemmas.Bool.Decides.{nat_tests}}, specs.Prelude.{if◌then◌else◌, is_some, ◌&&◌, ◌||◌, not, nat_eq, unwrap_or}}
use Rattle.hc_text.proofs.Basics.{both_false, both_true as and_both, and_left, and_right, bool_cases, not_some as none_some, never_true as not_so, not_true, or_left, or_right, same_some as same_row}
use Rattle.hc_range.specs.{declared.range.{RangeSpec.{RangeSpec}, ContentRange.{ContentRange}, Span.{Span}}, Spans.{resolved_span}}
use Rattle.hc_effects.proofs.Vocabulary.{brings_part, brings_whole, range, act, event, case, route, wanted, place, by, Opening, opening_in, Act, Response, HeadCase, head_case, fits_to_found, fits_part, begins_at, route_of, content_range_of, range_of, wanted_of, wanted_part, BoundBy, loses_in, has_loss, case_at, head_view, is_founding, is_joining, is_updating, fits_asker, consumer_heard, consumer_acted, by_head, by_opening, own_after, left_to, waiting, due_after, place_by_case, becomes_shared, is_resumed, bound_to_wanted, is_number, row_of, Entry, is_for, is_open, family, cause_of_head, cause_by_case, founded_total, entry_of, Measures, is_written, reads, representation_heard, new_representation, resumes, updates, with_renewed_head, representation_after_head, Tables, Exchange, Representation, Consumer, IsAbout, IsHad, starts_over, after_accepted, came_alone, status_in, loses_group}
use Rattle.hc_model.specs.ConsumerRows.{with_head}
use Rattle.hc_model.specs.Sound as sound
use Rattle.hc_effects.proofs.{Forward.{is_kept}, AboutKeeps.{own_open_is}, ApartKeeps.{written_by}, Basics.{false_true, or_false}, Dues.{due_none}, ExchangeFrom.{ExchangeFrom, IsSame, IsHeaded, exchange_from}, FirstKeeps.{case_is, is_new}, FoundBy.{FoundingBy, founding_by}, HadKeeps.{own_had, settled, bare_had, was_headed}, HasBound.{head_stands, stays_on, joins_place, awaiting_bound}, HeadKeeps.{is_join}, LossBy.{IsReal}, MeasuresKeep.{founder_not}, OwnersKeep.{is_opened}, RepFrom.{was, founded, RepFrom, rep_from, IsKept}, Waiters.{IsWaiter, waiter_of, unwritten, waits_undue}, Step.{Step}}
use Rattle.hc_effects.proofs.ExchangeFrom as exchange
use Rattle.hc_effects.proofs.FoundBy as cases
use Rattle.hc_laws.proofs.{HadNew.{new_had}, UndueKeeps.{founder_undue, no_cause}}
use Rattle.hc_rules.proofs.Statuses.{whole_is_no_part}

-- where nothing is lost, r isn't
pub lossless_none : (r : ℕ) (acts : List Act) → has_loss acts ≡ false → loses_in r acts ≡ false
lossless_none r [] h = refl
lossless_none r (act.Lost q kind ∷ acts) h = absurd (let no : true ≡ false = h in cc)
lossless_none r (_ ∷ acts) h = lossless_none r acts h

-- WHAT A PART BINDS TO

-- the interval that is wanted of a part that fits to found
pub record IsWantedPart (k : Consumer) (w : Exchange) (response : Response) : Type 0 where
  pub span : Span
  pub wanted_is : wanted_of (range_of k.request) (founded_total w response) ≡ wanted.Interval span

some_span : (x : Option Span) (first last : ℕ) → begins_at x first last ≡ true → (span : Span) × (x ≡ Some span)
some_span None first last h = absurd (false_true h)
some_span (Some span) first last h = (span, refl)

part_by : (k : Consumer) (w : Exchange) (response : Response) (asked : RangeSpec) (z : Option ContentRange) → range_of k.request ≡ Some asked →
    brings_part response.status ≡ true → content_range_of response.fields ≡ z → fits_part asked z ≡ true → IsWantedPart k w response
part_by k w response asked (Some (range.Part first last (Some total))) is status at h =
    let span = some_span (resolved_span asked total) first last h in
    let reported : founded_total w response ≡ Some total = rw (status, at) refl in
    record { span = span.0; wanted_is = ap (λ q. wanted_of q (founded_total w response)) is ∙ (ap (wanted_of (Some asked)) reported ∙ ap wanted_part span.1) }
part_by k w response asked _ is status at h = absurd (false_true h)

fits_by : (k : Consumer) (w : Exchange) (response : Response) (z : Option RangeSpec) → range_of k.request ≡ z → brings_part response.status ≡ true →
    fits_to_found z response ≡ true → IsWantedPart k w response
fits_by k w response None is status h = absurd (false_true h)
fits_by k w response (Some asked) is status h = part_by k w response asked (content_range_of response.fields) is status refl (and_right _ _ h)

module _ (step : Step) (m : Measures step.tables) (real : IsReal step.limits step.tables step.now step.event step.flaw) where
  open step use {limits, tables as t, now, flaw, sound as s, event as ev, accepted as goes}

  abbrev e : Entry
  e = entry_of limits t now ev flaw

  abbrev now_on : Tables
  now_on = after_accepted t e

  module _ (x : ℕ) (w z : Exchange) (is_row : t.exchange x ≡ Some w) (same : IsSame t e x w z) (after_x : now_on.exchange x ≡ Some z)
      (on : z.is_open ≡ true) (got : IsHeaded t e x w z) where
    new_parts : (w.is_open ≡ true) × (w.head ≡ None)
    new_parts = let new = is_new limits t now flaw s ev goes x got.response w got.at is_row in (new.is_open, new.bare)

    unfounded : t.representation x ≡ None
    unfounded = (is_new limits t now flaw s ev goes x got.response w got.at is_row).unfounded

    abbrev k : Consumer
    k = (waiter_of step x w is_row new_parts.0 new_parts.1).0

    waiter : IsWaiter t w.c x k w
    waiter = (waiter_of step x w is_row new_parts.0 new_parts.1).1

    self_test : nat_eq w.c w.c ≡ true
    self_test = grind (arith, nat_tests)

    case_here : case_at t e ≡ Some (head_case (head_view t (has_loss e.acts) w got.response))
    case_here = case_is t e x got.response w got.at is_row

    heard_is : consumer_heard t e w.c ev k ≡ with_head t e x got.response w k
    heard_is = ap (λ v. consumer_heard t e w.c v k) got.at ∙ (ap (λ q. by_head t e w.c x got.response q k) is_row ∙ rw self_test refl)

    no_opening : (a : Option Opening) → opening_in e.acts ≡ a → a ≡ None
    no_opening None is = refl
    no_opening (Some q) is = let opened = is_opened step q is in
        absurd (let no : event.Head x got.response ≡ event.Poll q.c opened.want = sym got.at ∙ opened.at in cc)

    -- WHO KEEPS IT

    module _ (binds : (is_founding (case_at t e) || is_joining (case_at t e)) ≡ true) (unshared : becomes_shared t e got.response w (case_at t e) ≡ false) where
      abbrev u : Consumer
      u = (head_stands step real.stand w.c x got.response w k waiter got.at binds).0

      u_row : now_on.consumer w.c ≡ Some u
      u_row = (head_stands step real.stand w.c x got.response w k waiter got.at binds).1

      u_place : u.place ≡ place_by_case x got.response w k (case_at t e)
      u_place = (head_stands step real.stand w.c x got.response w k waiter got.at binds).2

      u_is : due_after t e w.c k (consumer_acted t e w.c (consumer_heard t e w.c ev k)) ≡ u
      u_is =
          let going = is_kept t e w.c k waiter.row in
          let one : going.u ≡ u = same_row (now_on.consumer w.c) going.u u going.row u_row in
          settled step m real w.c k (consumer_acted t e w.c (consumer_heard t e w.c ev k)) u (starts_over t e w.c k) refl
          (stays_on step real.stand w.c x got.response w k waiter got.at binds) (going.is ∙ one)

      heard_own : (consumer_heard t e w.c ev k).own ≡ Some x
      heard_own = ap (λ (q : Consumer). q.own) heard_is ∙ rw unshared waiter.own

      heard_place : (consumer_heard t e w.c ev k).place ≡ place_by_case x got.response w k (case_at t e)
      heard_place = ap (λ (q : Consumer). q.place) heard_is

      opened_own : (by_opening t w.c (opening_in e.acts) (waiting t e w.c (consumer_heard t e w.c ev k))).own ≡ Some x
      opened_own = ap (λ a. (by_opening t w.c a (waiting t e w.c (consumer_heard t e w.c ev k))).own) (no_opening (opening_in e.acts) refl) ∙ heard_own

      own_if : own_after t e w.c (place_by_case x got.response w k (case_at t e)) (Some x) ≡ Some x → u.own ≡ Some x
      own_if stays = sym (ap (λ (q : Consumer). q.own) u_is) ∙
          (ap (λ a. own_after t e w.c a (by_opening t w.c (opening_in e.acts) (waiting t e w.c (consumer_heard t e w.c ev k))).own) heard_place ∙
          (ap (own_after t e w.c (place_by_case x got.response w k (case_at t e))) opened_own ∙ stays))

      no_head : cause_of_head t e w.c ev ≡ None
      no_head = ap (cause_of_head t e w.c) got.at ∙ by_test (is_for (t.exchange x) w.c)
        where
          by_test : (b : Bool) → (if b then cause_by_case (case_at t e) x else None) ≡ None
          by_test true = no_cause (case_at t e) x binds
          by_test false = refl

    -- JOINED

    module _ (r : ℕ) (v p : Representation) (joins : is_joining (case_at t e) ≡ true) (aim : w.aim ≡ Some r) (kept : IsKept t e r v p)
        (after : now_on.representation r ≡ Some p) where
      join_binds : (is_founding (case_at t e) || is_joining (case_at t e)) ≡ true
      join_binds = or_right _ _ joins

      hole : route_of w.need ≡ route.Hole
      hole = let j = is_join t (has_loss e.acts) w got.response (sym (ap is_joining case_here) ∙ joins) in ap route_of j.fills.need_is

      stood : (lo : ℕ) × (hi : Option ℕ) × (how : BoundBy) × (k.place ≡ place.Bound r lo hi how)
      stood = awaiting_bound step real.stand x r w k.place hole aim waiter.at

      updating : (g : Option HeadCase) → is_joining g ≡ true → is_updating g ≡ true
      updating (Some case.FirstJoins) h = refl
      updating (Some case.LaterJoins) h = refl
      updating _ h = absurd (false_true h)

      resumed_had : resumes t got.response w v ≡ true → (v.is_lost || loses_in r e.acts) ≡ false → IsHad now_on r p x
      resumed_had resumed quiet =
          let number : is_number w.aim r ≡ true = ap (λ a. is_number a r) aim ∙ (let test : nat_eq r r ≡ true = grind (arith, nat_tests) in test) in
          let updates_it : updates t e r w v ≡ true = and_both _ _ (and_both _ _ (updating (case_at t e) joins) number) (ap not quiet) in
          let writes : (with_renewed_head t e x got.response w v).writer ≡ Some x = rw (joins, resumed) refl in
          let heard_row : (representation_heard t e r ev v).writer ≡ Some x = ap (λ a. (representation_heard t e r a v).writer) got.at ∙
          (ap (λ a. (representation_after_head t e r x got.response a v).writer) is_row ∙ (rw updates_it writes)) in
          let writer : p.writer ≡ Some x = sym (ap (λ (q : Representation). q.writer) kept.is) ∙ heard_row in
          let parts = or_false v.is_lost (loses_in r e.acts) quiet in
          sound.shared (written_by now_on p x (kept.lost_is ∙ rw (parts.0, parts.1) refl) writer (ap is_open after_x ∙ on)) writer

      unshared_by : (g : Option HeadCase) → is_joining g ≡ true → is_resumed t e got.response w (row_of t w.aim) ≡ false →
          becomes_shared t e got.response w g ≡ false
      unshared_by (Some case.FirstJoins) h off = off
      unshared_by (Some case.LaterJoins) h off = off
      unshared_by _ h off = absurd (false_true h)

      kept_had : becomes_shared t e got.response w (case_at t e) ≡ false → IsHad now_on r p x
      kept_had unshared =
          let at : k.place ≡ place.Bound r stood.0 stood.1 stood.2 = stood.3 in
          let off : is_written t v ≡ false =
          not_so _ (λ written. unwritten step w.c x k w waiter r stood.0 stood.1 stood.2 v v.writer at kept.row written refl) in
          let exclusive_writers = waits_undue step r w.c x stood.0 stood.1 stood.2 v k w waiter at kept.row in
          let placed : place_by_case x got.response w k (case_at t e) ≡ place.Bound r stood.0 stood.1 stood.2 =
          joins_place step real.stand x got.response w k (case_at t e) joins ∙ at in
          let unlosing : loses_group t e r v ≡ false = not_so _ (λ h. false_true (sym off ∙ and_right _ _ h)) in
          let stays : own_after t e w.c (place_by_case x got.response w k (case_at t e)) (Some x) ≡ Some x =
          ap (λ a. own_after t e w.c a (Some x)) placed ∙ (ap (λ a. left_to t e w.c r a (Some x)) kept.row ∙ rw unlosing refl) in
          own_had step m real r w.c x stood.0 stood.1 stood.2 k (u join_binds unshared) v p waiter.row at kept.row kept
          (own_open_is t k x (record { own = waiter.own; w = w; row = is_row; opened = waiter.was_open })) exclusive_writers.0 off exclusive_writers.1
          (u_row join_binds unshared) (u_place join_binds unshared ∙ placed) w z same after_x on (u_is join_binds unshared)
          (own_if join_binds unshared stays) (no_head join_binds unshared)

      joined_had : IsHad now_on r p x
      joined_had = elim (bool_cases (is_resumed t e got.response w (row_of t w.aim))) [
        | inr off ↦ kept_had (unshared_by (case_at t e) joins off)
        | inl resumed ↦
            let at_v : (resumes t got.response w v && not (v.is_lost || has_loss e.acts)) ≡ true =
            sym (ap (is_resumed t e got.response w) (ap (row_of t) aim ∙ kept.row)) ∙ resumed in
            let quiet = or_false v.is_lost (has_loss e.acts) (not_true (v.is_lost || has_loss e.acts) (and_right _ _ at_v)) in
            resumed_had (and_left _ _ at_v) (both_false v.is_lost (loses_in r e.acts) quiet.0 (lossless_none r e.acts quiet.1))
      ]

    -- FOUNDED

    module _ (p : Representation) (founding : is_founding (case_at t e) ≡ true) (made : new_representation x e got.response w ≡ p)
        (after : now_on.representation x ≡ Some p) where
      found_binds : (is_founding (case_at t e) || is_joining (case_at t e)) ≡ true
      found_binds = or_left _ _ founding

      whole_had : brings_whole got.response.status ≡ true → IsHad now_on x p x
      whole_had status =
          let off : brings_part got.response.status ≡ false = whole_is_no_part got.response.status status in
          let writer : p.writer ≡ Some x = sym (ap (λ (q : Representation). q.writer) made) ∙ rw off refl in
          sound.shared (written_by now_on p x (sym (ap (λ (q : Representation). q.is_lost) made)) writer (ap is_open after_x ∙ on)) writer

      part_had : case_at t e ≡ Some case.FoundsRange → brings_part got.response.status ≡ true → fits_asker (t.consumer w.c) got.response ≡ true →
          IsHad now_on x p x
      part_had is status fits =
          let part = fits_by k w got.response (range_of k.request) refl status (sym (ap (λ q. fits_asker q got.response) waiter.row) ∙ fits) in
          let placed : place_by_case x got.response w k (case_at t e) ≡ place.Bound x part.span.lo (Some part.span.hi) by.Founding =
          ap (place_by_case x got.response w k) is ∙ ap (bound_to_wanted x by.Founding (place.Direct x)) part.wanted_is in
          let unshared : becomes_shared t e got.response w (case_at t e) ≡ false = ap (becomes_shared t e got.response w) is in
          let stays : own_after t e w.c (place_by_case x got.response w k (case_at t e)) (Some x) ≡ Some x =
          ap (λ a. own_after t e w.c a (Some x)) placed ∙ ap (λ a. left_to t e w.c x a (Some x)) unfounded in
          let undue = founder_undue step real.stand x w.c got.response w k got.at is_row founding waiter waiter.at in
          let stands : (u found_binds unshared).place ≡ place.Bound x part.span.lo (Some part.span.hi) by.Founding = u_place found_binds unshared ∙ placed in
          let none = due_none t e w.c k (consumer_acted t e w.c (consumer_heard t e w.c ev k)) (u found_binds unshared) (u_is found_binds unshared)
          (ap reads stands) undue.0 undue.1 in
          let alone : came_alone now_on (place.Bound x part.span.lo (Some part.span.hi) by.Founding) ≡ true = ap (λ q. brings_part (status_in q)) after ∙
          (sym (ap (λ (q : Representation). brings_part q.head.status) made) ∙ status) in
          sound.own w.c (u found_binds unshared) (sound.is_bound part.span.lo (Some part.span.hi) by.Founding (u_row found_binds unshared) stands)
          (own_open_is now_on (u found_binds unshared) x (record { own = own_if found_binds unshared stays; w = z; row = after_x; opened = on })) none
          (sound.first (sym (ap (λ (q : Representation). q.is_lost) made))
          (sound.first (u found_binds unshared) part.span.lo (Some part.span.hi) by.Founding (u_row found_binds unshared) stands alone))

      by_case : (g : HeadCase) → FoundingBy (head_view t (has_loss e.acts) w got.response) g → case_at t e ≡ Some g → IsHad now_on x p x
      by_case _ (cases.whole way h l) is = whole_had h
      by_case _ (cases.part way h f l g) is = part_had is h f
      by_case _ (cases.replaced way h l) is = whole_had h

      founded_had : IsHad now_on x p x
      founded_had = by_case (head_case (head_view t (has_loss e.acts) w got.response))
          (founding_by (head_view t (has_loss e.acts) w got.response) (sym (ap is_founding case_here) ∙ founding)) case_here

    -- EITHER

    own_by : (r : ℕ) (p : Representation) → r ≡ x → now_on.representation r ≡ Some p → RepFrom t e r p → IsHad now_on r p x
    own_by r p here after (was v kept) = absurd (none_some v (sym unfounded ∙ (sym (ap t.representation here) ∙ kept.row)))
    own_by r p here after (founded response y none also row_too founding made) =
        let answer : response ≡ got.response = cc in
        let one : y ≡ w = same_row (t.exchange x) y w (sym (ap t.exchange here) ∙ row_too) is_row in
        let made_x : new_representation x e got.response w ≡ p = ap (λ (a : Exchange). new_representation x e got.response a) (sym one) ∙
        (ap (λ (a : Response). new_representation x e a y) (sym answer) ∙ (ap (λ (n : ℕ). new_representation n e response y) (sym here) ∙ made)) in
        subst (λ n. IsHad now_on n p x) (sym here) (founded_had p founding made_x (sym (ap now_on.representation here) ∙ after))

    join_by : (r : ℕ) (p : Representation) → is_joining (case_at t e) ≡ true → w.aim ≡ Some r → now_on.representation r ≡ Some p → RepFrom t e r p →
        IsHad now_on r p x
    join_by r p joins aim after (was v kept) = joined_had r v p joins aim kept after
    join_by r p joins aim after (founded response y none also row_too founding made) =
        absurd (false_true (sym (ap is_some none) ∙ s.numbered.names.aims x r w is_row aim))

    aim_some : (a : Option ℕ) → w.aim ≡ a → is_joining (case_at t e) ≡ true → (q : ℕ) × (w.aim ≡ Some q)
    aim_some None aim joins =
        let j = is_join t (has_loss e.acts) w got.response (sym (ap is_joining case_here) ∙ joins) in
        absurd (none_some j.fills.v (sym (ap (row_of t) aim) ∙ j.fills.row))
    aim_some (Some q) aim joins = (q, aim)

    pub now_headed : (r : ℕ) (p : Representation) → family x z ≡ r → now_on.representation r ≡ Some p → IsHad now_on r p x
    now_headed r p of_r after = elim (bool_cases (is_joining (case_at t e))) [
      | inl joins ↦
          let aim = aim_some w.aim refl joins in
          let joined : (if is_joining (case_at t e) then w.aim else w.joined) ≡ Some aim.0 = rw joins aim.1 in
          join_by r p joins (aim.1 ∙ ap Some (sym (ap (λ (n : Option ℕ). unwrap_or n x) (got.joined_is ∙ joined)) ∙ of_r)) after
          (rep_from t e r (t.representation r) p refl after)
      | inr off ↦
          let joined : (if is_joining (case_at t e) then w.aim else w.joined) ≡ None = rw off ((s.waits.headless x w is_row new_parts.1).1) in
          own_by r p (sym (sym (ap (λ (n : Option ℕ). unwrap_or n x) (got.joined_is ∙ joined)) ∙ of_r)) after (rep_from t e r (t.representation r) p refl after)
    ]

  -- AFTER AN ENTRY

  headed_by : (r x : ℕ) (z : Exchange) (p : Representation) → now_on.exchange x ≡ Some z → z.is_open ≡ true → is_some z.head ≡ true → family x z ≡ r →
      now_on.representation r ≡ Some p → ExchangeFrom t e x z → IsHad now_on r p x
  headed_by r x z p after_x on some of_r after (exchange.new q none opens here made) = absurd (false_true (ap (λ (a : Exchange). is_some a.head) made ∙ some))
  headed_by r x z p after_x on some of_r after (exchange.was w row same) = by_heard same.heard_or
    where
      still : (z.head ≡ w.head) → family x w ≡ r → RepFrom t e r p → IsHad now_on r p x
      still head_is fam (was v kept) =
          was_headed step m real r x w z v p kept.row kept row (sym (ap (λ (a : Option Response). is_some a) head_is) ∙ some) fam same after_x on
      still head_is fam (founded response y none here also founding made) =
          absurd (founder_not step m x r w response y row (sym (ap (λ (a : Option Response). is_some a) head_is) ∙ some) fam none here also)

      by_heard : ((z.head ≡ w.head) × (z.joined ≡ w.joined)) ⊎ IsHeaded t e x w z → IsHad now_on r p x
      by_heard (inl all) = still all.0 (sym (ap (λ (n : Option ℕ). unwrap_or n x) all.1) ∙ of_r) (rep_from t e r (t.representation r) p refl after)
      by_heard (inr got) = now_headed x w z row same after_x on got r p of_r after

  bare_by : (r x : ℕ) (z : Exchange) (p : Representation) → now_on.exchange x ≡ Some z → z.is_open ≡ true → z.head ≡ None → z.aim ≡ Some r →
      route_of z.need ≡ route.Hole → now_on.representation r ≡ Some p → ExchangeFrom t e x z → IsHad now_on r p x
  bare_by r x z p after_x on bare aim hole after (exchange.was w row same) = bare_had step m real r x w z p row same after_x on bare aim hole after
  bare_by r x z p after_x on bare aim hole after (exchange.new q none opens here made) = new_had step m real r x q z p opens made after_x on bare aim hole after

  -- An open exchange about a representation is that of its writing, or of the one the exclusive writer.
  pub had_kept : (r x : ℕ) (p : Representation) → now_on.representation r ≡ Some p → IsAbout now_on r x → IsHad now_on r p x
  had_kept r x p after (sound.headed z row on some of_r there) = headed_by r x z p row on some of_r after (exchange_from t e x (t.exchange x) z refl row)
  had_kept r x p after (sound.asks z from_at to_at row on bare needs aim) =
      bare_by r x z p row on bare aim (ap route_of needs) after (exchange_from t e x (t.exchange x) z refl row)
