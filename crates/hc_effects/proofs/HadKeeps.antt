-- Whose an open exchange is that is about a representation: the writing's, or the exclusive writer's.
--
-- By what the exchange was before the entry. An own one with a head stays with its consumer, which opens no other and
-- has nothing due (`headed_had`). One without a head is that of who waits for it (`bare_had`). That of a writing stays
-- so unless the write is lost: then it is left to the survivor (`survived`), and without one it is closed
-- (`none_left`). `was_headed` joins those that had a head.
use Rattle.std.{proofs.{Common.{◌≡◌, ◌⊎◌, inl, inr, ℕ, List, [], ◌∷◌, Bool, true, false, cond, Option, Some, None, refl, ap, sym, ◌∙◌, subst, arith}, lemmas.Bool.Decides.{nat_tests}}, specs.{Prelude.{is_some, is_none, map, filter}, Option.{option_or}}}
use Rattle.hc_text.proofs.Basics.{both_true as and_both, and_left, and_right, bool_cases, not_some as none_some, never_true as not_so, or_left, or_right, same_some as same_row, some_inj}
use Rattle.hc_effects.proofs.Vocabulary.{Opening, opening_in, leaves_in, Event, Response, Member, least, lesser, route_of, stands_at, BoundBy, loses_in, has_loss, is_joining, is_left, is_left_by, has_no_survivor, leaver, leaver_by, consumer_heard, consumer_acted, by_opening, own_after, left_to, waiting, due_after, back_in_line, is_number, Entry, aim_from, exchange_in, is_open, family, becomes_due, cause_of_stop, cause_of_loss, cause_by_loss, cause_of_head, stop_cause, entry_of, Measures, IsAwaiting, move_of, is_written, bound, bound_to, own_open, reads, source, shared_exchange, Tables, Exchange, Representation, Consumer, Among, IsBound, IsAbout, IsHad, IsExclusiveWriter, IsFirst, starts_over, after_accepted, brings_body, came_alone, loses_group, survivor, member, may_write, event, route, place}
use Rattle.hc_model.specs.Owners as owners
use Rattle.hc_model.specs.Sound as sound
use Rattle.hc_effects.proofs.{AboutKeeps.{own_open_of, own_open_is}, ApartKeeps.{written_by, is_on}, Basics.{false_true, some_none, number_is, number_yes}, BoundStays.{Stays, bound_stays}, Closed.{before}, Dues.{undue_of, stop_none, loss_at, due_none}, ExchangeFrom.{IsSame}, FirstKeeps.{came_kept, case_is, is_new}, HasBound.{not_must, reader_of}, HeadKeeps.{is_join}, Losses.{exclusive_is}, LossBy.{IsReal, sealed_loss, seals_one, fresh}, OpensFrom.{opens_hole, hole_is}, OwnersKeep.{is_opened}, ExclusiveWriters.{writer_some, bound_some}, RepFrom.{RepFrom, rep_from, IsKept, IsResumed}, Said.{IsOpening, opening_by, leaving_by}, SaidActs.{leaves_leaver}, ServedKeeps.{lost_alone, kept_alone, over}, Stops.{writer_about}, WaitingKeeps.{stands, stays_on, unmet}, Waiters.{IsWaiter, waiter_of, unwritten, head_is_own, waits_undue}, WriterEnds.{loses_same}, StaysOn.{unopened}, Step.{Step}}
use Rattle.hc_effects.proofs.Forward as forward
use Rattle.hc_effects.proofs.MemberStays as member
use Rattle.hc_effects.proofs.OpenedAs as opened
use Rattle.hc_effects.proofs.PollTree as tree
use Rattle.hc_effects.proofs.RepFrom as rep

-- WHO SURVIVES

least_by : (n : ℕ) (ns : List ℕ) (c : ℕ) (o : Option ℕ) → least ns ≡ o → lesser o n ≡ Some c → ((a : ℕ) → least ns ≡ Some a → Among a ns) → Among c (n ∷ ns)
least_by n ns c o is h rest = grind (arith, nat_tests)

pub among_least : (ns : List ℕ) (c : ℕ) → least ns ≡ Some c → Among c ns
among_least [] c h = absurd (none_some c h)
among_least (n ∷ ns) c h = least_by n ns c (least ns) refl h (λ a is. among_least ns a is)

among_members : (t : Tables) (end c : ℕ) (ds : List ℕ) → Among c (map (λ (m : Member). m.c) (filter (stands_at end) (map (member t) ds))) → Among c ds
among_members t end c [] there = absurd there
among_members t end c (d ∷ ds) there = elim (bool_cases (stands_at end (member t d))) [
  | inr off ↦ inr (among_members t end c ds (rw off at there))
  | inl on ↦
      let either : (d ≡ c) ⊎ Among c (map (λ (m : Member). m.c) (filter (stands_at end) (map (member t) ds))) = rw on at there in
      elim either [ inl here ↦ inl here | inr more ↦ inr (among_members t end c ds more) ]
]

pub survivor_bound : (t : Tables) (r c : ℕ) (v : Representation) → survivor t r v ≡ Some c → Among c (bound t r)
survivor_bound t r c v is = among_members t v.reach c (bound t r) (among_least _ c is)

module _ (step : Step) (m : Measures step.tables) (real : IsReal step.limits step.tables step.now step.event step.flaw) where
  open step use {limits, tables as t, now, flaw, sound as s, owners as o, event as ev, accepted as goes}

  abbrev e : Entry
  e = entry_of limits t now ev flaw

  abbrev b : Entry
  b = before limits t now flaw s ev

  abbrev now_on : Tables
  now_on = after_accepted t e

  -- NOTHING BECOMES DUE BY WHAT GOES ON

  own_source : (k : Consumer) (x : ℕ) → own_open t k ≡ Some x → source t k ≡ Some x
  own_source k x own = ap (λ z. option_or z (shared_exchange t k.place)) own

  stop_by : (k : Consumer) (x : ℕ) (w z : Exchange) → source t k ≡ Some x → IsSame t e x w z → z.is_open ≡ true → (v : Event) → ev ≡ v →
      cause_of_stop t e k ≡ None
  stop_by k x w z from_x same on v here = grind (arith, nat_tests)

  head_by : (c : ℕ) → ((y : ℕ) (response : Response) (q : Exchange) → ev ≡ event.Head y response → t.exchange y ≡ Some q → q.c ≡ c → ⊥) → (v : Event) →
      ev ≡ v → cause_of_head t e c v ≡ None
  head_by c not_for v here = grind (arith, nat_tests)

  -- THE PEN GOES WITH AN OPEN EXCHANGE

  unlosing : (r : ℕ) (v : Representation) → is_written t v ≡ false → loses_group t e r v ≡ false
  unlosing r v off = not_so _ (λ h. false_true (sym off ∙ and_right _ _ h))

  module _ (r c x lo : ℕ) (hi : Option ℕ) (how : BoundBy) (k u : Consumer) (v p : Representation) (row : t.consumer c ≡ Some k)
      (at : k.place ≡ place.Bound r lo hi how) (there : t.representation r ≡ Some v) (kept : IsKept t e r v p) (own : own_open t k ≡ Some x)
      (none_due : k.due ≡ None) (off : is_written t v ≡ false) (exclusive_writer : IsExclusiveWriter t r v c) (after_row : now_on.consumer c ≡ Some u)
      (stands : u.place ≡ place.Bound r lo hi how) where
    reader : IsBound t r c k
    reader = sound.is_bound lo hi how row at

    first_same : IsFirst t r c → came_alone t (place.Bound r lo hi how) ≡ true
    first_same it0 = grind (arith, nat_tests)

    may : IsFirst t r c → may_write t v (Some k) ≡ true
    may is = rw (ap (came_alone t) at ∙ first_same is, none_due, own) refl

    exclusive_writer_after : IsExclusiveWriter now_on r p c
    exclusive_writer_after = by_exclusive_writer exclusive_writer
      where
        by_exclusive_writer : IsExclusiveWriter t r v c → IsExclusiveWriter now_on r p c
        by_exclusive_writer (sound.first new is) = elim (bool_cases (loses_in r e.acts)) [
          | inr quiet ↦ sound.first ((kept_alone step m real r v p kept quiet).0 ∙ new)
              (sound.first u lo hi how after_row stands (came_kept limits t now flaw s ev goes r lo hi how (ap is_some there) ∙ first_same is))
          | inl loses ↦
              let all = lost_alone step m real r v p there kept loses in
              sound.alone all.0 (all.1 ∙ (rw (unlosing r v off) (exclusive_is t r c v k s reader off (may is))))
        ]
        by_exclusive_writer (sound.alone lost is) = elim (bool_cases (loses_in r e.acts)) [
          | inl loses ↦ absurd (false_true (sym (fresh step m real r v there loses) ∙ lost))
          | inr quiet ↦ let all = kept_alone step m real r v p kept quiet in sound.alone (all.0 ∙ lost) (all.1 ∙ is)
        ]

    pub own_had : (w z : Exchange) → IsSame t e x w z → now_on.exchange x ≡ Some z → z.is_open ≡ true →
        due_after t e c k (consumer_acted t e c (consumer_heard t e c ev k)) ≡ u → u.own ≡ Some x → cause_of_head t e c ev ≡ None → IsHad now_on r p x
    own_had w z same after_x opened_now is mine no_head =
        let undue : becomes_due t e c k ≡ None =
        undue_of t e c k (record {
          stop = stop_by k x w z (own_source k x own) same opened_now ev refl;
          loss = loss_at t e c r lo hi how k v at there (unlosing r v off);
          head =
              no_head;
        }) in
        let none : u.due ≡ None = due_none t e c k (consumer_acted t e c (consumer_heard t e c ev k)) u is (ap reads stands) none_due undue in
        sound.own c u (sound.is_bound lo hi how after_row stands)
        (own_open_is now_on u x (record { own = mine; w = z; row = after_x; opened = opened_now })) none exclusive_writer_after

  -- AN OWN EXCHANGE WITH ITS HEAD

  own_unwritten : (r c x : ℕ) (k : Consumer) (v : Representation) → IsBound t r c k → t.consumer c ≡ Some k → t.representation r ≡ Some v →
      own_open t k ≡ Some x → is_written t v ≡ false
  own_unwritten r c x k v reader row there own = not_so _ (λ on. by_writer on v.writer refl)
    where
      by_writer : is_written t v ≡ true → (z : Option ℕ) → v.writer ≡ z → ⊥
      by_writer on None writer = writer_some t v on writer
      by_writer on (Some y) writer =
          let one : y ≡ x = s.one_about r y x (writer_about t r y v s there on writer) (s.writes.own_about r c x k reader own) in
          o.apart r x c v k there on (writer ∙ ap Some one) row (own_open_of t k x own).own

  module _ (r c x lo : ℕ) (hi : Option ℕ) (how : BoundBy) (k : Consumer) (v : Representation) (w z : Exchange) (row : t.consumer c ≡ Some k)
      (at : k.place ≡ place.Bound r lo hi how) (there : t.representation r ≡ Some v) (own : own_open t k ≡ Some x) (is_row : t.exchange x ≡ Some w)
      (headed : is_some w.head ≡ true) (same : IsSame t e x w z) (after_x : now_on.exchange x ≡ Some z) (opened_now : z.is_open ≡ true) where
    own_reader : IsBound t r c k
    own_reader = sound.is_bound lo hi how row at

    no_waiter : (y : ℕ) (q : Exchange) → t.exchange y ≡ Some q → q.is_open ≡ true → q.head ≡ None → q.c ≡ c → ⊥
    no_waiter y q exchange_row on bare theirs =
        let got = waiter_of step y q exchange_row on bare in
        let one : got.0 ≡ k = same_row (t.consumer c) got.0 k (sym (ap t.consumer theirs) ∙ got.1.row) row in
        let number : y ≡ x = some_inj y x (sym got.1.own ∙ (ap (λ (a : Consumer). a.own) one ∙ (own_open_of t k x own).own)) in
        let it : q ≡ w = same_row (t.exchange x) q w (sym (ap t.exchange number) ∙ exchange_row) is_row in
        false_true (sym (ap (λ (a : Option Response). is_some a) bare) ∙ (ap (λ (a : Exchange). is_some a.head) it ∙ headed))

    leaver_not : leaver b ≡ Some c → ⊥
    leaver_not is =
        let left : is_left_by t x c (Some k) ≡ true = or_left _ _ (number_yes (own_open t k) x own) in
        let leaves : is_left t x (leaver b) ≡ true = ap (is_left t x) is ∙ (ap (is_left_by t x c) row ∙ left) in
        not_must step real.stand x w is_row (ap is_open after_x ∙ opened_now) (or_right _ _ leaves)

    stays : Stays step c r lo hi how k row at no_waiter
    stays = bound_stays step c r lo hi how k row at no_waiter (λ here. leaver_not (ap (λ v. leaver_by v b.acts) here))
        (not_so (leaves_in c e.acts) (λ leaves. leaver_not (leaves_leaver limits t now flaw s ev c leaves)))

    hole_not_at : (from_at to_at : ℕ) → tree.OpensHole t c k from_at to_at → ⊥
    hole_not_at from_at to_at (tree.first n v2 span hole is aims there2 nobody found from_is to) =
        let number : r ≡ n = some_inj r n (sym (ap (aim_from t k.request.key) at) ∙ aims) in
        bound_some t r c k s.numbered own_reader (ap (bound t) number ∙ nobody)
    hole_not_at from_at to_at (tree.later n top count v2 at_hole none from_is to) = some_none x (sym (own_source k x own) ∙ at_hole.no_source)

    no_opening : (q : Opening) → opening_in e.acts ≡ Some q → q.c ≡ c → ⊥
    no_opening q opens mine = by_way got.way.way
      where
        got : Rattle.hc_effects.proofs.OwnersKeep.IsOpened step q
        got = is_opened step q opens

        one : got.k ≡ k
        one = same_row (t.consumer c) got.k k (sym (ap t.consumer mine) ∙ got.row) row

        free_not : bound_to got.k.place ≡ None → ⊥
        free_not free = some_none r (sym (ap bound_to at) ∙ (ap (λ (a : Consumer). bound_to a.place) (sym one) ∙ free))

        by_way : opened.Way t now q.c got.k q.need → ⊥
        by_way (opened.passes_by free way) = free_not free
        by_way (opened.fetches free way cached) = free_not free
        by_way (opened.fills n v2 span hole free way is there2 wanted found need_is cached) = free_not free
        by_way (opened.goes_on n l h g placed way) =
            let poll = opening_by limits t now flaw s ev goes q opens in
            let same_k : poll.k ≡ k = same_row (t.consumer c) poll.k k (sym (ap t.consumer mine) ∙ poll.poll.row) row in
            let opening : IsOpening q (move_of t now poll.want c k) =
            subst (λ (a : Consumer). IsOpening q (move_of t now poll.want c a)) same_k
            (subst (λ d. IsOpening q (move_of t now poll.want d poll.k)) mine poll.move) in
            let h = hole_is q.need way in
            hole_not_at h.from h.to (opens_hole t c k q now poll.want s row opening h.from h.to h.is)

    opening_same : (q : Consumer) (a : Option Opening) → opening_in e.acts ≡ a → by_opening t c a q ≡ q
    opening_same q z opens = unopened t e c q z (λ a is. no_opening a (opens ∙ is))

    own_stays : stays.u.own ≡ Some x
    own_stays =
        let mine : (by_opening t c (opening_in e.acts) (waiting t e c k)).own ≡ Some x =
        ap (λ (q : Consumer). q.own) (opening_same (waiting t e c k) (opening_in e.acts) refl) ∙ (own_open_of t k x own).own in
        let quiet : loses_group t e r v ≡ false = unlosing r v (own_unwritten r c x k v own_reader row there own) in
        let left : own_after t e c k.place (Some x) ≡ Some x = ap (λ a. own_after t e c a (Some x)) at ∙
        (ap (λ a. left_to t e c r a (Some x)) there ∙ rw quiet refl) in
        sym (ap (λ (q : Consumer). q.own) stays.is) ∙
        (ap (λ (h : Consumer). own_after t e c h.place (by_opening t c (opening_in e.acts) (waiting t e c h)).own) stays.heard_is ∙
        (ap (own_after t e c k.place) mine ∙ left))

    pub headed_had : (p : Representation) → IsKept t e r v p → k.due ≡ None → IsExclusiveWriter t r v c → IsHad now_on r p x
    headed_had p kept none_due exclusive_writer =
        own_had r c x lo hi how k stays.u v p row at there kept own none_due (own_unwritten r c x k v own_reader row there own) exclusive_writer
        stays.after stays.stands w z same after_x opened_now stays.is own_stays
        (head_by c (λ y response q here exchange_row mine. let new = is_new limits t now flaw s ev goes y response q here exchange_row in
        no_waiter y q exchange_row new.is_open new.bare mine) ev refl)

  -- AN OWN EXCHANGE WITHOUT ITS HEAD

  pub settled : (c : ℕ) (k q u : Consumer) (a : Bool) → starts_over t e c k ≡ a → a ≡ false → (cond a (back_in_line e.now q) (due_after t e c k q)) ≡ u →
      due_after t e c k q ≡ u
  settled c k q u a is off made = rw off at made

  pub bare_had : (r x : ℕ) (w z : Exchange) (p : Representation) → t.exchange x ≡ Some w → IsSame t e x w z → now_on.exchange x ≡ Some z →
      z.is_open ≡ true → z.head ≡ None → z.aim ≡ Some r → route_of z.need ≡ route.Hole → now_on.representation r ≡ Some p → IsHad now_on r p x
  bare_had r x w z p is_row same after_x on bare aim hole after =
      let got = waiter_of step x w is_row (same.was_open on) (same.bare bare) in
      by_place got.0 got.1 got.1.at
    where
      other : exchange_in ev ≡ Some x → ⊥
      other = unmet step ev x w z refl is_row same on bare

      by_row : (k : Consumer) (waiter : IsWaiter t w.c x k w) (lo : ℕ) (hi : Option ℕ) (how : BoundBy) → k.place ≡ place.Bound r lo hi how →
          RepFrom t e r p → IsHad now_on r p x
      by_row k waiter lo hi how at (rep.founded response y none here exchange_row founding made) =
          absurd (let is_there = s.numbered.bound_to r w.c k (sound.is_bound lo hi how waiter.row at) in false_true (sym (ap is_some none) ∙ is_there))
      by_row k waiter lo hi how at (rep.was v kept) =
          let st = stands step w.c x k w waiter other (same.unclosed on) in
          let never_over = stays_on step w.c x k w waiter other (same.unclosed on) in
          let going = forward.is_kept t e w.c k waiter.row in
          let one : going.u ≡ st.u = same_row (now_on.consumer w.c) going.u st.u going.row st.row in
          let is : due_after t e w.c k (consumer_acted t e w.c (consumer_heard t e w.c ev k)) ≡ st.u =
          settled w.c k (consumer_acted t e w.c (consumer_heard t e w.c ev k)) st.u (starts_over t e w.c k) refl never_over (going.is ∙ one) in
          let exclusive_writers = waits_undue step r w.c x lo hi how v k w waiter at kept.row in
          let off : is_written t v ≡ false = not_so _ (λ written. unwritten step w.c x k w waiter r lo hi how v v.writer at kept.row written refl) in
          let own : own_open t k ≡ Some x = own_open_is t k x (record { own = waiter.own; w = w; row = is_row; opened = waiter.was_open }) in
          own_had r w.c x lo hi how k st.u v p waiter.row at kept.row kept own exclusive_writers.0 off exclusive_writers.1 st.row (st.place_is ∙ at) w z
          same after_x on is st.own_is
          (head_by w.c (λ y response q here exchange_row mine. other
          (ap exchange_in here ∙ ap Some (head_is_own step w.c x k w waiter y response q here exchange_row mine))) ev refl)

      by_place : (k : Consumer) (waiter : IsWaiter t w.c x k w) → IsAwaiting x w k.place → IsHad now_on r p x
      by_place k waiter (owners.direct way at) = absurd (let no : route.Direct ≡ route.Hole = sym way ∙ (sym (ap route_of same.need_is) ∙ hole) in cc)
      by_place k waiter (owners.turn way at) = absurd (let no : route.Turn ≡ route.Hole = sym way ∙ (sym (ap route_of same.need_is) ∙ hole) in cc)
      by_place k waiter (owners.hole q lo hi how way aimed at) =
          let number : q ≡ r = some_inj q r (sym aimed ∙ (sym same.aim_is ∙ aim)) in
          by_row k waiter lo hi how (at ∙ ap (λ n. place.Bound n lo hi how) number) (rep_from t e r (t.representation r) p refl after)

  -- A WRITING'S EXCHANGE

  unresumed : (r x : ℕ) (w : Exchange) (v p : Representation) → t.exchange x ≡ Some w → is_some w.head ≡ true → IsAbout t r x → IsResumed t e r v p.writer → ⊥
  unresumed r x w v p row headed about R =
      let new = is_new limits t now flaw s ev goes R.x R.response R.w R.at R.row in
      let aim : R.w.aim ≡ Some r = number_is R.w.aim r (and_right _ (is_number R.w.aim r) (and_left _ _ R.renews)) in
      let hole = is_join t (has_loss e.acts) R.w R.response (sym (ap is_joining (case_is t e R.x R.response R.w R.at R.row)) ∙ R.joins) in
      let asks = sound.asks R.w hole.fills.from hole.fills.to R.row new.is_open new.bare hole.fills.need_is aim in
      let one : R.x ≡ x = s.one_about r R.x x asks about in
      let same : R.w ≡ w = same_row (t.exchange x) R.w w (sym (ap t.exchange one) ∙ R.row) row in
      false_true (sym (ap (λ (q : Option Response). is_some q) new.bare) ∙ (ap (λ (q : Exchange). is_some q.head) same ∙ headed))

  module _ (r x : ℕ) (w z : Exchange) (v p : Representation) (there : t.representation r ≡ Some v) (kept : IsKept t e r v p) (on : is_written t v ≡ true)
      (writer : v.writer ≡ Some x) (is_row : t.exchange x ≡ Some w) (headed : is_some w.head ≡ true) (same : IsSame t e x w z)
      (after_x : now_on.exchange x ≡ Some z) (opened_now : z.is_open ≡ true) where
    about : IsAbout t r x
    about = writer_about t r x v s there on writer

    still_shared : loses_in r e.acts ≡ false → IsHad now_on r p x
    still_shared quiet = sound.shared
        (written_by now_on p x ((kept_alone step m real r v p kept quiet).0 ∙ (is_on t v x on writer).kept) writes (ap is_open after_x ∙ opened_now)) writes
      where
        by_writer : (p.writer ≡ v.writer) ⊎ IsResumed t e r v p.writer → p.writer ≡ Some x
        by_writer (inl unchanged) = unchanged ∙ writer
        by_writer (inr R) = absurd (unresumed r x w v p is_row headed about R)

        writes : p.writer ≡ Some x
        writes = by_writer kept.writer_is

    family_is : family x w ≡ r
    family_is = grind (arith, nat_tests)

    losing_b : loses_in r e.acts ≡ true → brings_body ev ≡ true → loses_group t b r v ≡ true
    losing_b loses brings = and_both _ _ (and_both _ _ brings (loses_same step m real r ∙ loses)) on

    none_left : loses_in r e.acts ≡ true → brings_body ev ≡ true → survivor t r v ≡ None → ⊥
    none_left loses brings nobody =
        let here : has_no_survivor t b x r (Some v) ≡ true =
        and_both _ _ (and_both _ _ (number_yes v.writer x writer) (losing_b loses brings)) (ap (λ (q : Option ℕ). is_none q) nobody) in
        let lost : has_no_survivor t b x (family x w) (t.representation (family x w)) ≡ true =
        ap (λ n. has_no_survivor t b x n (t.representation n)) family_is ∙ (ap (has_no_survivor t b x r) there ∙ here) in
        not_must step real.stand x w is_row (ap is_open after_x ∙ opened_now) (or_left _ _ (or_right _ _ lost))

    unpolled : brings_body ev ≡ true → (d want : ℕ) → ev ≡ event.Poll d want → ⊥
    unpolled brings d want polls = false_true (sym (ap brings_body polls) ∙ brings)

    stop_quiet : brings_body ev ≡ true → (q : Event) → ev ≡ q → stop_cause t q ≡ None
    stop_quiet brings q here = grind (arith, nat_tests)

    -- it is left to who survives
    survived : (c lo : ℕ) (hi : Option ℕ) (how : BoundBy) (k : Consumer) → t.consumer c ≡ Some k → k.place ≡ place.Bound r lo hi how →
        survivor t r v ≡ Some c → loses_in r e.acts ≡ true → brings_body ev ≡ true → IsHad now_on r p x
    survived c lo hi how k row at is loses brings =
        let waiterless = member.no_waiter step c r lo hi how k v row at there on in
        let st = bound_stays step c r lo hi how k row at waiterless (λ here. false_true (sym (ap brings_body here) ∙ brings))
        (not_so (leaves_in c e.acts) (λ leaves. let got = leaving_by limits t now flaw s ev goes c leaves in unpolled brings c got.want got.poll.at)) in
        let losing : loses_group t e r v ≡ true = and_both _ _ (and_both _ _ brings loses) on in
        let mine : is_number (survivor t r v) c ≡ true = number_yes (survivor t r v) c is in
        let left : (n : Option ℕ) → own_after t e c k.place n ≡ Some x =
        (λ n. ap (λ a. own_after t e c a n) at ∙ (ap (λ a. left_to t e c r a n) there ∙ (rw (losing, mine) writer))) in
        let own : st.u.own ≡ Some x = sym (ap (λ (q : Consumer). q.own) st.is) ∙
        (ap (λ (h : Consumer). own_after t e c h.place (by_opening t c (opening_in e.acts) (waiting t e c h)).own) st.heard_is ∙
        left (by_opening t c (opening_in e.acts) (waiting t e c k)).own) in
        let all = lost_alone step m real r v p there kept loses in
        let reader : IsBound t r c k = sound.is_bound lo hi how row at in
        let loss : cause_of_loss t e c k.place ≡ None = ap (cause_of_loss t e c) at ∙ (ap (cause_by_loss t e c r) there ∙ rw (losing, mine) refl) in
        let undue : becomes_due t e c k ≡ None =
        undue_of t e c k (record {
          stop = stop_none t e k (stop_quiet brings ev refl);
          loss = loss;
          head =
              head_by c (λ y response q here exchange_row theirs. member.head_not step c r lo hi how k v row at there on y response q here exchange_row theirs)
              ev refl;
        }) in
        let none : st.u.due ≡ None =
        due_none t e c k (consumer_acted t e c (consumer_heard t e c ev k)) st.u st.is (ap reads st.stands) (s.writes.undue r c v k there reader on) undue in
        sound.own c st.u (sound.is_bound lo hi how st.after st.stands)
        (own_open_is now_on st.u x (record { own = own; w = z; row = after_x; opened = opened_now })) none
        (sound.alone all.0 (all.1 ∙ (rw losing is)))

    by_reader : (c : ℕ) (k : Consumer) → IsBound t r c k → survivor t r v ≡ Some c → loses_in r e.acts ≡ true → brings_body ev ≡ true → IsHad now_on r p x
    by_reader c k (sound.is_bound lo hi how row at) is loses brings = survived c lo hi how k row at is loses brings

    by_survivor : (a : Option ℕ) → survivor t r v ≡ a → loses_in r e.acts ≡ true → brings_body ev ≡ true → IsHad now_on r p x
    by_survivor None is loses brings = absurd (none_left loses brings is)
    by_survivor (Some c) is loses brings =
        let reader = reader_of t r c (survivor_bound t r c v is) in
        by_reader c reader.0 reader.1 is loses brings

    pub shared_had : IsHad now_on r p x
    shared_had = elim (bool_cases (loses_in r e.acts)) [
      | inr quiet ↦ still_shared quiet
      | inl loses ↦ elim (bool_cases (brings_body ev)) [
        | inl brings ↦ by_survivor (survivor t r v) refl loses brings
        | inr other ↦
            absurd (let seal = sealed_loss step m real r v there loses other in
            let one : seal.y ≡ x = seals_one step m real r x v there about seal in
            let off : is_open (now_on.exchange x) ≡ false =
            subst (λ n. is_open (now_on.exchange n) ≡ false) one (over step m real seal.y seal.w seal.row seal.ends) in
            false_true (sym off ∙ (ap is_open after_x ∙ opened_now)))
      ]
    ]

  -- AN EXCHANGE THAT HAD ITS HEAD

  pub was_headed : (r x : ℕ) (w z : Exchange) (v p : Representation) → t.representation r ≡ Some v → IsKept t e r v p → t.exchange x ≡ Some w →
      is_some w.head ≡ true → family x w ≡ r → IsSame t e x w z → now_on.exchange x ≡ Some z → z.is_open ≡ true → IsHad now_on r p x
  was_headed r x w z v p there kept is_row headed of_r same after_x on =
      by_had (s.writes.had r x v there (sound.headed w is_row (same.was_open on) headed of_r (ap is_some there)))
    where
      by_reader_of : (c : ℕ) (k : Consumer) → IsBound t r c k → own_open t k ≡ Some x → k.due ≡ None → IsExclusiveWriter t r v c → IsHad now_on r p x
      by_reader_of c k (sound.is_bound lo hi how row at) own none exclusive_writer =
          headed_had r c x lo hi how k v w z row at there own is_row headed same after_x on p kept none exclusive_writer

      by_had : IsHad t r v x → IsHad now_on r p x
      by_had (sound.shared written writer) = shared_had r x w z v p there kept written writer is_row headed same after_x on
      by_had (sound.own c k reader own none exclusive_writer) = by_reader_of c k reader own none exclusive_writer
