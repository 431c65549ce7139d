-- A reader's own open exchange goes on no earlier than where it began to read, in every run.
--
-- By how it is bound now (`begins_by`). Who was bound keeps an exchange that goes on from where it did (`kept_own`), or
-- opens one for a hole ahead (`later_opened`). The most work is a writing that is left to it, at whose front it stands
-- (`survived`). Who founds, or has its first hole opened, reads from there or before (`founded`, `opens_first`). Who is
-- shown what is current has no open exchange (`not_mine`). `fronts_kept` joins these.
use Rattle.std.{proofs.Common.{◌≡◌, ◌⊎◌, inl, inr, ℕ, ◌+◌, ◌≤◌, List, length, true, false, Option, Some, None, refl, ap, sym, ◌∙◌, subst, arith, length-append}, specs.{Prelude.{is_some}, Option.{option_and_then}}}
use Rattle.hc_text.proofs.Basics.{and_left, and_right, not_some as none_some, same_some as same_row, some_inj}
use Rattle.hc_effects.proofs.Vocabulary.{Opening, opening_in, Response, Limits, base_of, route_of, BoundBy, Showing, showing_in, case_at, consumer_heard, waiting, by_opening, Entry, base, front, is_headless, goes_on_at, if_headless, entry_of, OfRuns, OfRunsIn, Measures, IsReading, reads, offset, lo_of, bound_to, hole_start, Tables, Exchange, Representation, Consumer, after_accepted, brings_body, event, route, place}
use Rattle.hc_model.specs.Fronts.{Fronts}
use Rattle.hc_model.specs.Owners as owners
use Rattle.hc_model.specs.Sound as sound
use Rattle.hc_effects.proofs.{Forward.{is_on, IsOn}, AboutKeeps.{own_open_is}, Basics.{false_true, some_row}, Beside.{IsBeside}, BoundFrom.{BoundFrom, IsRow, IsFounded, IsFirstHole, IsShown, bound_from, place_inj}, BoundKeeps.{planned_at, opens_none}, Covers.{headed_at, bare_at, none_before}, ExchangeFrom.{IsSame, IsHeaded}, Fills.{Brings, brings, length_same}, FirstKeeps.{is_new}, HeadTo.{reported_is, joined, length_is}, HeadedAs.{unmet}, LossBy.{IsReal}, OwnFrom.{OwnFrom, IsLeft, own_from}, OwnersKeep.{is_opened}, Said.{ShowsBy, showing_by}, ShownFrom.{IsPlanned}, Survives.{survivor_offset}, ToBeShown.{heard_place}, Waiters.{IsWaiter, waiter_of}, Step.{Step, step_of}, OpensLater.{opens_later}}
use Rattle.hc_effects.proofs.BoundFrom as from
use Rattle.hc_laws.proofs.{CoversKept.{own_opened, opened_row}, CoversNew.{founds_from, hole_begins}, RunFacts.{in_runs}}
use Rattle.hc_effects.proofs.Fills as fills_by
use Rattle.hc_effects.proofs.OwnFrom as own
use Rattle.hc_effects.proofs.PartReported as reported

poll_head : (x c want : ℕ) (response : Response) → event.Head x response ≡ event.Poll c want → ⊥
poll_head x c want response is = cc

module _ (step : Step) (m : Measures step.tables) (i : IsBeside step.tables) (f : Fronts step.tables)
    (real : IsReal step.limits step.tables step.now step.event step.flaw) where
  open step use {limits, tables as t, now, flaw, sound as s, owners as o, event as ev, accepted as goes}

  abbrev e : Entry
  e = entry_of limits t now ev flaw

  abbrev now_on : Tables
  now_on = after_accepted t e

  module _ (r c x lo : ℕ) (hi : Option ℕ) (how : BoundBy) (u : Consumer) (z : Exchange) (after_row : now_on.consumer c ≡ Some u)
      (stands : u.place ≡ place.Bound r lo hi how) (none : u.due ≡ None) (owned : u.own ≡ Some x) (after_x : now_on.exchange x ≡ Some z)
      (opened : z.is_open ≡ true) where
    abbrev Begins : Type 0
    Begins = lo ≤ goes_on_at z z.head

    -- what it brought stays
    module _ (w : Exchange) (w_row : t.exchange x ≡ Some w) where
      grows : base z ≡ base w → front w ≤ front z
      grows base_is = by_brings (brings t e x w z w_row after_x)
        where
          by_brings : Brings t e x w z → front w ≤ front z
          by_brings (fills_by.still none_of body_is) = let count : length z.body ≡ length w.body = ap (λ (b : List ℕ). length b) body_is in
              let first : base z ≡ base w = base_is in omega arith
          by_brings (fills_by.more bytes here body_is) = let longer : length z.body ≡ length w.body + length bytes =
              ap (λ (b : List ℕ). length b) body_is ∙ length-append w.body bytes in let first : base z ≡ base w = base_is in omega arith

    -- ITS OWN EXCHANGE STAYS

    module _ (k : Consumer) (row : IsRow t e c r lo hi how k u) (at : k.place ≡ place.Bound r lo hi how) (mine : k.own ≡ Some x) (w : Exchange)
        (w_row : t.exchange x ≡ Some w) (same : IsSame t e x w z) where
      was : lo ≤ goes_on_at w w.head
      was = f.begins c r lo x hi how k w row.row at (none_before step m i real r c lo hi how k u row at stands none) mine w_row (same.was_open opened)

      still : z.head ≡ w.head → (a : Option Response) → w.head ≡ a → Begins
      still head_is None is =
          let start : hole_start z.need ≡ hole_start w.need = ap hole_start same.need_is in
          let now_at : goes_on_at z z.head ≡ hole_start z.need = bare_at z (head_is ∙ is) in
          let was_at : goes_on_at w w.head ≡ hole_start w.need = bare_at w is in
          let before = was in
          omega (arith, before, was_at, now_at, start)
      still head_is (Some response) is =
          let headed : is_some w.head ≡ true = ap (λ (a : Option Response). is_some a) is in
          let now_at : goes_on_at z z.head ≡ front z = headed_at z z.head refl (ap (λ (a : Option Response). is_some a) head_is ∙ headed) in
          let was_at : goes_on_at w w.head ≡ front w = headed_at w w.head refl headed in
          let more = grows w w_row (ap base_of (length_same w z same.need_is same.request_is head_is)) in
          let before = was in
          omega (arith, before, was_at, now_at, more)

      comes : IsHeaded t e x w z → Begins
      comes got =
          let was_at : goes_on_at w w.head ≡ hole_start w.need = bare_at w ((is_new limits t now flaw s ev goes x got.response w got.at w_row).bare) in
          let now_at : goes_on_at z z.head ≡ front z = headed_at z (Some got.response) got.head_is refl in
          let join = joined step r c x lo hi how k u w z row at stands none mine w_row same got in
          let start : hole_start w.need ≡ join.fills.from = ap hole_start join.fills.need_is in
          let first : base z ≡ base_of (Rattle.hc_rules.specs.Lengths.length_of w.need w.request got.response) =
          ap base_of (length_is step r c x lo hi how k u w z row at stands none mine w_row same got) in
          let begins = by_reported join.fills.from join.fills.last (Rattle.hc_rules.specs.Lengths.length_of w.need w.request got.response)
          (unmet step x w z got.response got.at w_row after_x same opened) (reported_is step r c x lo hi how k u w z row at stands none mine w_row same got) in
          let before = was in
          omega (arith, before, was_at, now_at, start, first, begins)
        where
          by_reported : (from last : ℕ) (l : Rattle.hc_rules.specs.declared.length.Length.Length) →
              (Rattle.hc_rules.specs.Lengths.promise_of l ≡ Some 0 → ⊥) → reported.IsReceived from last l → from ≤ base_of l
          by_reported from last l unmet_it (reported.none is) = absurd (unmet_it (ap Rattle.hc_rules.specs.Lengths.promise_of is))
          by_reported from last l unmet_it (reported.part is) = let first : base_of l ≡ from = ap base_of is in omega (arith, first)

      kept_own : Begins
      kept_own = by_heard same.heard_or
        where
          by_heard : ((z.head ≡ w.head) × (z.joined ≡ w.joined)) ⊎ IsHeaded t e x w z → Begins
          by_heard (inl stays) = still stays.0 w.head refl
          by_heard (inr got) = comes got

    -- IT WAS BOUND

    module _ (k : Consumer) (row : IsRow t e c r lo hi how k u) (at : k.place ≡ place.Bound r lo hi how) where
      offset_is : offset t k ≡ lo + k.given
      offset_is = ap (λ q. lo_of t q + k.given) at

      same_k : (q : Consumer) → t.consumer c ≡ Some q → q ≡ k
      same_k q q_row = same_row (t.consumer c) q k q_row row.row

      mine_kept : k.own ≡ Some x → Begins
      mine_kept mine =
          let w = some_row (t.exchange x) (o.there c x k row.row mine) in
          let g = is_on t e x w.0 w.1 in
          kept_own k row at mine w.0 w.1 (subst (IsSame t e x w.0) (same_row (now_on.exchange x) g.u z g.row after_x) g.same)

      -- who is bound opens a hole ahead
      later_opened : (q : Opening) → opening_in e.acts ≡ Some q → q.c ≡ c → q.x ≡ x → Begins
      later_opened q opens mine this =
          let made = opened_row step m i real x q z opens this after_x in
          let later = opens_later step c r lo hi how k q row.row at opens mine in
          let from_is : later.hole.from ≡ offset t k = later.from_is in
          let start : goes_on_at z z.head ≡ hole_start q.need = ap (λ (a : Exchange). goes_on_at a a.head) (sym made) in
          let first : hole_start q.need ≡ later.hole.from = ap hole_start later.hole.is in
          let begins = offset_is in
          omega (arith, from_is, start, first, begins)

      -- the writing is left to it, at whose front it stands
      survived : IsLeft t e c x (consumer_heard t e c ev k).place → Begins
      survived l =
          let grown = (s.rows l.r l.v l.row).growing x (and_right _ _ l.loses) l.writer_is in
          by_growing grown.0 grown.1 (survivor_offset t l.r c l.v k row.row l.survives)
        where
          by_growing : {q : ℕ} {v : Representation} (w : Exchange) → sound.IsGrowing t q v x w → offset t k ≡ v.reach → Begins
          by_growing w g stood =
              let on = is_on t e x w g.row in
              let same : IsSame t e x w z = subst (IsSame t e x w) (same_row (now_on.exchange x) on.u z on.row after_x) on.same in
              by_heard w g stood same same.heard_or
            where
              by_heard : {q : ℕ} {v : Representation} (w : Exchange) → sound.IsGrowing t q v x w → offset t k ≡ v.reach → (same : IsSame t e x w z) →
                  ((z.head ≡ w.head) × (z.joined ≡ w.joined)) ⊎ IsHeaded t e x w z → Begins
              by_heard w g stood same (inr got) =
                  absurd (false_true (sym (ap (λ (a : Option Response). is_some a)
                  (is_new limits t now flaw s ev goes x got.response w got.at g.row).bare) ∙ g.headed))
              by_heard w g stood same (inl stays) =
                  let now_at : goes_on_at z z.head ≡ front z = headed_at z z.head refl (ap (λ (a : Option Response). is_some a) stays.0 ∙ g.headed) in
                  let more = grows w g.row (ap base_of (length_same w z same.need_is same.request_is stays.0)) in
                  let front_is = g.front_is in
                  let begins = offset_is in
                  omega (arith, now_at, more, front_is, begins, stood)

      was_bound : OwnFrom t e c x u → Begins
      was_bound (own.kept q q_row mine heard_mine) = mine_kept (ap (λ (a : Consumer). a.own) (sym (same_k q q_row.row)) ∙ mine)
      was_bound (own.opened q p q_row opens mine this) = later_opened p opens mine this
      was_bound (own.left q q_row l) = survived (subst (λ (a : Consumer). IsLeft t e c x (consumer_heard t e c ev a).place) (same_k q q_row.row) l)

    -- IT FOUNDS

    founded : (k : Consumer) (y : ℕ) (response : Response) (w : Exchange) → IsRow t e c r lo hi how k u → ev ≡ event.Head y response →
        t.exchange y ≡ Some w → w.c ≡ c → y ≡ r → IsFounded t e c r lo hi how y response w k (case_at t e) → OwnFrom t e c x u → Begins
    founded k y response w row here w_row mine of_r all own_of = by_own own_of
      where
        new : Rattle.hc_effects.proofs.FirstKeeps.IsNew limits t now flaw s ev goes y w
        new = is_new limits t now flaw s ev goes y response w here w_row

        waits : (q : Consumer) × IsWaiter t w.c y q w
        waits = waiter_of step y w w_row new.is_open new.bare

        own_k : k.own ≡ Some y
        own_k = ap (λ (q : Consumer). q.own) (sym (same_row (t.consumer c) waits.0 k (sym (ap t.consumer mine) ∙ waits.1.row) row.row)) ∙ waits.1.own

        by_number : x ≡ y → Begins
        by_number number = by_on (is_on t e y w w_row)
          where
            after_y : now_on.exchange y ≡ Some z
            after_y = sym (ap now_on.exchange number) ∙ after_x

            by_heard : (same : IsSame t e y w z) → ((z.head ≡ w.head) × (z.joined ≡ w.joined)) ⊎ IsHeaded t e y w z → Begins
            by_heard same (inl still) = absurd (same.unheard (still.0 ∙ new.bare) response here)
            by_heard same (inr got) =
                let promises = unmet step y w z response here w_row after_y same opened in
                let le : lo ≤ front z = founds_from step c r lo hi how y response w z k here w_row mine row.row same got promises all in
                let at : goes_on_at z z.head ≡ front z = headed_at z (Some got.response) got.head_is refl in
                omega (arith, le, at)

            by_on : IsOn t e y w → Begins
            by_on g =
                let same : IsSame t e y w z = subst (IsSame t e y w) (same_row (now_on.exchange y) g.u z g.row after_y) g.same in
                by_heard same same.heard_or

        by_own : OwnFrom t e c x u → Begins
        by_own (own.kept q q_row theirs heard_theirs) =
            by_number (some_inj x y (sym (ap (λ (a : Consumer). a.own) (same_row (t.consumer c) k q row.row q_row.row) ∙ theirs) ∙ own_k))
        by_own (own.opened q p q_row opens theirs this) = let by_poll = is_opened step p opens in
            absurd (poll_head y p.c by_poll.want response (sym here ∙ by_poll.at))
        by_own (own.left q q_row l) =
            let one : q ≡ k = same_row (t.consumer c) q k q_row.row row.row in
            let placed : u.place ≡ (consumer_heard t e c ev k).place =
            heard_place step c r lo hi how k u (λ d want polls. poll_head y d want response (sym here ∙ polls)) row in
            let at_l : (consumer_heard t e c ev k).place ≡ place.Bound l.r l.lo l.hi l.how =
            ap (λ (a : Consumer). (consumer_heard t e c ev a).place) (sym one) ∙ l.at in
            let number : l.r ≡ r = (place_inj l.r l.lo l.hi l.how r lo hi how (sym at_l ∙ (sym placed ∙ stands))).number in
            absurd (none_some l.v (sym (sym (ap t.representation of_r) ∙ new.unfounded) ∙ (sym (ap t.representation number) ∙ l.row)))

    -- ITS FIRST HOLE IS OPENED

    opens_first : (k : Consumer) (q : Opening) → IsRow t e c r lo hi how k u → opening_in e.acts ≡ Some q → q.c ≡ c →
        bound_to (waiting t e c (consumer_heard t e c ev k)).place ≡ None → route_of q.need ≡ route.Hole →
        IsFirstHole t e c r lo hi how q (waiting t e c (consumer_heard t e c ev k)) → Begins
    opens_first k q row opens mine free way hole =
        let made = opened_row step m i real x q z opens (own_opened step m i real c x k u q row.is opens mine owned) after_x in
        let start : goes_on_at z z.head ≡ hole_start q.need = ap (λ (a : Exchange). goes_on_at a a.head) (sym made) in
        let begins = hole_begins step c r lo hi how k u q row opens mine free way hole in
        omega (arith, start, begins)

    -- IT IS SHOWN WHAT IS CURRENT

    shown : (k : Consumer) (a : Showing) → IsRow t e c r lo hi how k u → showing_in e.acts ≡ Some a →
        IsShown t e c r lo hi how a (by_opening t c (opening_in e.acts) (waiting t e c (consumer_heard t e c ev k))).place → OwnFrom t e c x u → Begins
    shown k a row is all own_of = by_own own_of
      where
        planned : IsPlanned t now a.c k a
        planned = planned_at limits t now flaw s ev goes a k (ap t.consumer all.at ∙ row.row) is
            (subst (λ d. reads (by_opening t d (opening_in e.acts) (waiting t e d (consumer_heard t e d ev k))).place ≡ false) (sym all.at) all.free)

        shows : ShowsBy t now ev a
        shows = showing_by limits t now flaw s ev goes a is

        -- who reads nothing has no open exchange with a head
        reading_not : {P : Type 0} → IsReading x k.place → P
        reading_not (owners.direct at) = absurd (false_true (sym planned.unread ∙ ap reads at))
        reading_not (owners.bound q a d g at) = absurd (false_true (sym planned.unread ∙ ap reads at))

        not_mine : {P : Type 0} → k.own ≡ Some x → P
        not_mine mine =
            let w = some_row (t.exchange x) (o.there c x k row.row mine) in
            let g = is_on t e x w.0 w.1 in
            by_head w.0 w.1 (g.same.was_open (ap (λ (q : Exchange). q.is_open) (same_row (now_on.exchange x) g.u z g.row after_x) ∙ opened)) w.0.head refl
          where
            headless_not : {Q : Type 0} (w : Exchange) → t.exchange x ≡ Some w → w.is_open ≡ true → w.head ≡ None → Q
            headless_not w w_row was_open bare =
                absurd (none_some x (sym planned.heard ∙
                (ap (option_and_then (if_headless t)) (own_open_is t k x (record { own = mine; w = w; row = w_row; opened = was_open })) ∙
                (let headless : is_headless (t.exchange x) ≡ true = rw (w_row, was_open, bare) refl in rw headless refl))))

            by_head : {Q : Type 0} (w : Exchange) → t.exchange x ≡ Some w → w.is_open ≡ true → (a : Option Response) → w.head ≡ a → Q
            by_head w w_row was_open None at = headless_not w w_row was_open at
            by_head w w_row was_open (Some response) at =
                reading_not (o.reading c x k w row.row mine w_row was_open (ap (λ (a : Option Response). is_some a) at))

        by_own : OwnFrom t e c x u → Begins
        by_own (own.kept q q_row theirs heard_theirs) = not_mine (ap (λ (a : Consumer). a.own) (same_row (t.consumer c) k q row.row q_row.row) ∙ theirs)
        by_own (own.opened q p q_row opens theirs this) =
            absurd (none_some p (sym (opens_none limits t now flaw s ev goes a shows (opening_in e.acts) refl) ∙ opens))
        by_own (own.left q q_row l) = absurd (false_true (sym (ap brings_body shows.poll.at) ∙ and_left _ _ (and_left _ _ l.loses)))

    begins_by : BoundFrom t e c r lo hi how u → OwnFrom t e c x u → Begins
    begins_by (from.stays k row at) own_of = was_bound k row at own_of
    begins_by (from.founds k y response w row here w_row mine of_r by_is all) own_of = founded k y response w row here w_row mine of_r all own_of
    begins_by (from.opens k q row opens mine free way hole) own_of = opens_first k q row opens mine free way hole
    begins_by (from.shows k a row is all) own_of = shown k a row is all own_of

  fronts_kept : Fronts now_on
  fronts_kept = record {
    begins = λ c r lo x hi how u z after at none owned after_x opened.
        begins_by r c x lo hi how u z after at none owned after_x opened (bound_from t e c r lo hi how (t.consumer c) u refl after at)
        (own_from t e c x (t.consumer c) u refl after owned);
  }

-- IN RUNS

record HasFronts (limits : Limits) (t : Tables) : Type 0 where
  fronts : Fronts t

has_fronts : OfRunsIn HasFronts
has_fronts = in_runs HasFronts
    (λ limits contents may. record { fronts = record { begins = λ c r lo x hi how k w row at none mine there opened. absurd (none_some k row) } })
    (λ limits t e later h. record { fronts = record { begins = h.fronts.begins } })
    (λ limits t now flaw later c h ev goes real. record
    { fronts = fronts_kept (step_of limits t now flaw c.is_sound c.is_owned ev goes) c.is_measured c.beside h.fronts real })

pub fronts_in_runs : OfRuns Fronts
fronts_in_runs limits contents h may run = (has_fronts limits contents h may run).fronts
