-- Where its head leaves a consumer, if its exchange stays open: past the store, or bound to what it founds or joins.
--
-- Since its exchange stays open, its head wasn't refused (`not_refused`), and promises bytes (`unmet`); so it was no
-- 304. That leaves few cases (`by_case`): it is past the store, it founds, or it joins where its consumer stays. It
-- isn't sent back either (`unsent`). As no poll came, the acts don't move it from where the event leaves it
-- (`heard_at`). `headed_as` joins these.
use Rattle.std.{proofs.{Common.{◌≡◌, ◌⊎◌, inl, inr, ℕ, true, false, Option, Some, None, refl, ap, sym, ◌∙◌, subst, arith}, lemmas.Bool.Decides.{nat_tests}}, specs.Prelude.{◌&&◌, not, nat_eq}}
use Rattle.hc_text.proofs.Basics.{both_true as and_both, and_right, not_some as none_some, never_true as not_so, or_left, same_some as same_row, some_inj}
use Rattle.hc_effects.proofs.Vocabulary.{leaves_in, closes_in, Request, Response, Need, HeadCase, Wanted, head_case, length_of, promise_of, route_of, range_of, wanted_of, Place, BoundBy, has_loss, case_at, head_view, is_founding, is_joining, must_close, is_refused, brings_head, consumer_heard, by_head, place_by_case, bound_to_wanted, Entry, exchange_heard, exchange_acted, promise_in, exchange_at, is_for, is_reached, founded_total, entry_of, IsAwaiting, Tables, Exchange, Consumer, starts_over, sends_back, after_accepted, event, route, wanted, place, by}
use Rattle.hc_model.specs.Owners as owners
use Rattle.hc_effects.proofs.{Basics.{false_true, or_false}, Closed.{before, closes}, ExchangeFrom.{IsSame, IsHeaded}, FirstKeeps.{case_is, is_new}, FoundBy.{CaseBy, case_by}, Forward.{after_is}, OwnFrom.{IsRow}, PieceKeeps.{eq_cases}, Said.{leaving_by}, ToBeShown.{heard_place}, Waiters.{IsWaiter, waiter_of, case_same}, Step.{Step}}
use Rattle.hc_effects.proofs.FoundBy as cases

-- a 304 has no body
promises_none : (n : Need) (request : Request) (response : Response) → response.status ≡ 304 → promise_of (length_of n request response) ≡ Some 0
unfolding length_of
promises_none n request response is = grind (arith, nat_tests)

module _ (step : Step) where
  open step use {limits, tables as t, now, flaw, sound as s, owners as o, event as ev, accepted as goes}

  abbrev e : Entry
  e = entry_of limits t now ev flaw

  abbrev b : Entry
  b = before limits t now flaw s ev

  abbrev now_on : Tables
  now_on = after_accepted t e

  -- an event other than a poll leaves a consumer where it says
  pub heard_at : (c x : ℕ) (k u : Consumer) → ((d want : ℕ) → ev ≡ event.Poll d want → ⊥) → IsRow t e c x k u → u.place ≡ (consumer_heard t e c ev k).place
  heard_at c x k u unpolled row =
      let stays : leaves_in c e.acts ≡ false =
      not_so _ (λ leaves. let got = leaving_by limits t now flaw s ev goes c leaves in unpolled c got.want got.poll.at) in
      heard_place step c 0 0 None by.Plan k u unpolled (record { row = row.row; stays = row.stays; leaves = stays; is = row.is })

  -- A HEAD THAT LEAVES ITS EXCHANGE OPEN

  module _ (x : ℕ) (w z : Exchange) (response : Response) (here : ev ≡ event.Head x response) (is_row : t.exchange x ≡ Some w)
      (after_row : now_on.exchange x ≡ Some z) (same : IsSame t e x w z) (opened : z.is_open ≡ true) where
    same_test : nat_eq x x ≡ true
    same_test = grind (arith, nat_tests)

    head_open : (a : Entry) → (exchange_heard t a x ev w).is_open ≡ (not (is_reached (promise_in w response) 0) && w.is_open)
    head_open a = ap (λ v. (exchange_heard t a x v w).is_open) here ∙ rw same_test refl

    heard_open : (exchange_heard t e x ev w).is_open ≡ true
    heard_open =
        let is : exchange_acted x e.acts (exchange_heard t e x ev w) ≡ z = some_inj _ z (sym (after_is t e x w (t.exchange x) is_row) ∙ after_row) in
        and_right _ _ (ap (λ (q : Exchange). q.is_open) is ∙ opened)

    -- isn't refused
    pub not_refused : is_refused (case_at t e) ≡ true → ⊥
    not_refused refused =
        let refused_b : is_refused (case_at t b) ≡ true = sym (ap is_refused (case_same step)) ∙ refused in
        let brings : brings_head x ev ≡ true = ap (brings_head x) here ∙ same_test in
        let must : must_close t b x w ≡ true = or_left _ _ (or_left _ _ (or_left _ _ (and_both _ _ refused_b brings))) in
        let shut : closes_in x e.acts ≡ true = closes limits t now flaw s ev x w is_row must (head_open b ∙ (sym (head_open e) ∙ heard_open)) in
        false_true (sym (same.unclosed opened) ∙ shut)

    -- it promises some bytes
    pub unmet : promise_in w response ≡ Some 0 → ⊥
    unmet none =
        let off : (not (is_reached (promise_in w response) 0) && w.is_open) ≡ false = rw none refl in
        false_true (sym off ∙ (sym (head_open e) ∙ heard_open))

    -- and is no 304
    pub not_unmodified : response.status ≡ 304 → ⊥
    not_unmodified is = unmet (promises_none w.need w.request response is)

  -- where its head leaves a consumer
  pub data HeadedAs (x : ℕ) (response : Response) (w : Exchange) (p q : Place) (z : Exchange) : Type 0 where
    direct : q ≡ place.Direct x → HeadedAs x response w p q z
    founds : (lo : ℕ) (hi : Option ℕ) (how : BoundBy) → q ≡ place.Bound x lo hi how → is_founding (case_at t e) ≡ true → z.joined ≡ None →
        HeadedAs x response w p q z
    joins : (r lo : ℕ) (hi : Option ℕ) (how : BoundBy) → p ≡ place.Bound r lo hi how → q ≡ place.Bound r lo hi how → w.aim ≡ Some r →
        is_joining (case_at t e) ≡ true → z.joined ≡ Some r → HeadedAs x response w p q z

  module _ (c x : ℕ) (k u : Consumer) (w z : Exchange) (response : Response) (here : ev ≡ event.Head x response) (row : IsRow t e c x k u)
      (own : k.own ≡ Some x) (is_row : t.exchange x ≡ Some w) (after_row : now_on.exchange x ≡ Some z) (same : IsSame t e x w z)
      (opened : z.is_open ≡ true) where
    got : (q : Consumer) × IsWaiter t w.c x q w
    got = let new = is_new limits t now flaw s ev goes x response w here is_row in waiter_of step x w is_row new.is_open new.bare

    mine : w.c ≡ c
    mine = o.one w.c c x got.0 k got.1.row row.row got.1.own own

    one : got.0 ≡ k
    one = same_row (t.consumer c) got.0 k (sym (ap t.consumer mine) ∙ got.1.row) row.row

    at : IsAwaiting x w k.place
    at = subst (λ (q : Consumer). IsAwaiting x w q.place) one got.1.at

    mine_test : nat_eq w.c c ≡ true
    mine_test = let m : w.c ≡ c = mine in grind (arith, nat_tests)

    by_row : (q : Option Exchange) → q ≡ Some w → (by_head t e c x response q k).place ≡ place_by_case x response w k (case_at t e)
    by_row None none = absurd (none_some w none)
    by_row (Some p) is = elim (eq_cases p.c c) [
      | inl hit ↦ rw hit.0 (ap (λ (q : Exchange). place_by_case x response q k (case_at t e)) (some_inj p w is))
      | inr off ↦ absurd (off.1 (ap (λ (q : Exchange). q.c) (some_inj p w is) ∙ mine))
    ]

    placed : u.place ≡ place_by_case x response w k (case_at t e)
    placed = heard_at c x k u (λ d want polls. let no : event.Head x response ≡ event.Poll d want = sym here ∙ polls in cc) row ∙
        (ap (λ v. (consumer_heard t e c v k).place) here ∙ by_row (t.exchange x) is_row)

    headed : IsHeaded t e x w z
    headed = by_heard same.heard_or
      where
        by_heard : ((z.head ≡ w.head) × (z.joined ≡ w.joined)) ⊎ IsHeaded t e x w z → IsHeaded t e x w z
        by_heard (inl still) = absurd (same.unheard (still.0 ∙ got.1.bare) response here)
        by_heard (inr all) = all

    -- ITS CASE LEAVES IT OPEN

    unrefused : is_refused (case_at t e) ≡ true → ⊥
    unrefused = not_refused x w z response here is_row after_row same opened

    unsent : sends_back (case_at t e) ≡ true → ⊥
    unfolding starts_over
    unsent sends =
        let it : is_for (exchange_at t ev) c ≡ true = ap (λ v. is_for (exchange_at t v) c) here ∙ (ap (λ q. is_for q c) is_row ∙ mine_test) in
        let none : (sends_back (case_at t e) && is_for (exchange_at t ev) c) ≡ false = ((or_false _ _ ((or_false _ _ row.stays).0)).1) in
        false_true (sym none ∙ and_both _ _ sends it)

    promising : response.status ≡ 304 → ⊥
    promising = not_unmodified x w z response here is_row after_row same opened

    -- THE CASES

    abbrev As : Type 0
    As = HeadedAs x response w k.place u.place z

    past : route_of w.need ≡ route.Direct → IsAwaiting x w k.place → k.place ≡ place.Direct x
    past way it1 = grind (arith, nat_tests)

    joined_as : is_joining (case_at t e) ≡ true → z.joined ≡ w.aim
    joined_as on = headed.joined_is ∙ rw on refl

    unjoined_as : is_joining (case_at t e) ≡ false → z.joined ≡ None
    unjoined_as off = headed.joined_is ∙ (rw off refl ∙ (s.waits.headless x w is_row got.1.bare).1)

    join : u.place ≡ k.place → is_joining (case_at t e) ≡ true → route_of w.need ≡ route.Hole → IsAwaiting x w k.place → As
    join stays on way (owners.direct it stands) = absurd (let no : route.Direct ≡ route.Hole = sym it ∙ way in cc)
    join stays on way (owners.turn it stands) = absurd (let no : route.Turn ≡ route.Hole = sym it ∙ way in cc)
    join stays on way (owners.hole r lo hi how it aim stands) = joins r lo hi how stands (stays ∙ stands) aim on (joined_as on ∙ aim)

    found : (lo : ℕ) (hi : Option ℕ) → u.place ≡ place.Bound x lo hi by.Founding → is_founding (case_at t e) ≡ true → is_joining (case_at t e) ≡ false → As
    found lo hi is on off = founds lo hi by.Founding is on (unjoined_as off)

    part_as : (v : Wanted) → u.place ≡ bound_to_wanted x by.Founding (place.Direct x) v → is_founding (case_at t e) ≡ true →
        is_joining (case_at t e) ≡ false → As
    part_as (wanted.Interval span) is on off = found span.lo (Some span.hi) is on off
    part_as _ is on off = direct is

    by_case : (g : HeadCase) → CaseBy (head_view t (has_loss e.acts) w response) g → case_at t e ≡ Some g → As
    by_case _ (cases.direct_taken way) is = direct (placed ∙ (ap (place_by_case x response w k) is ∙ past way at))
    by_case _ (cases.validated way h d l) is = absurd (promising h)
    by_case _ (cases.not_validated way h) is = absurd (unsent (ap sends_back is))
    by_case _ (cases.turn_server_error way) is = direct (placed ∙ ap (place_by_case x response w k) is)
    by_case _ (cases.founds_whole way h l g) is =
        found 0 (promise_in w response) (placed ∙ ap (place_by_case x response w k) is) (ap is_founding is) (ap is_joining is)
    by_case _ (cases.founds_range way h f l g) is =
        part_as (wanted_of (range_of k.request) (founded_total w response)) (placed ∙ ap (place_by_case x response w k) is) (ap is_founding is)
        (ap is_joining is)
    by_case _ (cases.passes_by way) is = direct (placed ∙ ap (place_by_case x response w k) is)
    by_case _ (cases.first_joins way shown h g) is = join (placed ∙ ap (place_by_case x response w k) is) (ap is_joining is) way at
    by_case _ (cases.first_server_error way shown) is = direct (placed ∙ ap (place_by_case x response w k) is)
    by_case _ (cases.first_changed way shown) is = absurd (unsent (ap sends_back is))
    by_case _ (cases.first_replaced way shown h l g) is =
        found 0 (promise_in w response) (placed ∙ ap (place_by_case x response w k) is) (ap is_founding is) (ap is_joining is)
    by_case _ (cases.first_passes_by way shown) is = direct (placed ∙ ap (place_by_case x response w k) is)
    by_case _ (cases.later_joins way shown h g) is = join (placed ∙ ap (place_by_case x response w k) is) (ap is_joining is) way at
    by_case _ _ is = absurd (unrefused (ap is_refused is))

    pub headed_as : As
    headed_as = by_case (head_case (head_view t (has_loss e.acts) w response)) (case_by (head_view t (has_loss e.acts) w response))
        (case_is t e x response w here is_row)
