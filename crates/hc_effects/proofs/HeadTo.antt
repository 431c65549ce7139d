-- The head of an own exchange after which nothing is due for its reader joins: it brings bytes of its hole, or none.
--
-- Its consumer waits for it, is bound, and so for a hole of what it reads (`way`). As it stays bound and nothing
-- becomes due, its case has no cause and doesn't send it back (`no_cause`, `stays_back`), and it founds nothing
-- (`founded_not`). Of all cases only those that join are left (`by_case`). So its head tells a part that fills the hole
-- (`joined`, `reported_is`), and its front isn't past where that begins (`front_within`).
use Rattle.std.{proofs.{Common.{◌≡◌, ℕ, ◌≤◌, List, [], length, Bool, true, false, Option, Some, None, refl, ap, sym, ◌∙◌, subst, arith}, lemmas.Bool.Decides.{nat_tests}}, specs.Prelude.{if◌then◌else◌, is_some, ◌&&◌, ◌||◌, nat_eq}}
use Rattle.hc_text.proofs.Basics.{same_some as same_row}
use Rattle.hc_effects.proofs.Vocabulary.{cause, event, case, route, place, by, Need, Request, HeadCase, Length, head_case, length_of, base_of, route_of, BoundBy, has_loss, case_at, head_view, is_joining, consumer_heard, consumer_acted, by_head, place_by_case, doomed_key_of, is_key, Entry, promise_in, base, front, exchange_at, is_for, length_by, cause_of_head, cause_by_case, entry_of, IsAwaiting, reads, hole_start, Tables, Exchange, Representation, Consumer, starts_over, waits_at, sends_back, loses_what_it_waits_for, after_accepted}
use Rattle.hc_model.specs.Sound as sound
use Rattle.hc_effects.proofs.{Basics.{false_true, some_none}, BoundFrom.{IsRow, place_inj}, Dues.{due_before, undue_parts}, ExchangeFrom.{IsSame, IsHeaded}, FirstKeeps.{IsNew, case_is, is_new}, FoundBy.{CaseBy, case_by}, HeadKeeps.{IsJoin, is_join}, PartReported.{IsReceived, part_reported}, ToBeShown.{heard_place}, Waiters.{IsWaiter, waiter_of}, Step.{Step}}
use Rattle.hc_effects.proofs.FoundBy as cases
use Rattle.hc_effects.proofs.PartReported as reported

module _ (step : Step) where
  open step use {limits, tables as t, now, flaw, sound as s, owners as o, event as ev, accepted as goes}

  abbrev e : Entry
  e = entry_of limits t now ev flaw

  abbrev now_on : Tables
  now_on = after_accepted t e

  module _ (r c x lo : ℕ) (hi : Option ℕ) (how : BoundBy) (k u : Consumer) (w z : Exchange) (row : IsRow t e c r lo hi how k u)
      (at : k.place ≡ place.Bound r lo hi how) (stands : u.place ≡ place.Bound r lo hi how) (none : u.due ≡ None) (own : k.own ≡ Some x)
      (exchange_row : t.exchange x ≡ Some w) (same : IsSame t e x w z) (got : IsHeaded t e x w z) where
    pub new : IsNew limits t now flaw s ev goes x w
    new = is_new limits t now flaw s ev goes x got.response w got.at exchange_row

    abbrev pub waits : (q : Consumer) × IsWaiter t w.c x q w
    waits = waiter_of step x w exchange_row new.is_open new.bare

    pub mine : w.c ≡ c
    mine = o.one w.c c x waits.0 k waits.1.row row.row waits.1.own own

    pub one : waits.0 ≡ k
    one = same_row (t.consumer c) waits.0 k (sym (ap t.consumer mine) ∙ waits.1.row) row.row

    by_await : IsAwaiting x w k.place → (route_of w.need ≡ route.Hole) × (w.aim ≡ Some r)
    by_await it0 = grind (arith, nat_tests)

    pub way : (route_of w.need ≡ route.Hole) × (w.aim ≡ Some r)
    way = by_await (subst (λ (q : Consumer). IsAwaiting x w q.place) one waits.1.at)

    test : nat_eq w.c c ≡ true
    test = let same_c : w.c ≡ c = mine in grind (arith, nat_tests)

    placed : u.place ≡ place_by_case x got.response w k (case_at t e)
    placed =
        heard_place step c r lo hi how k u (λ d want polls. let no : event.Head x got.response ≡ event.Poll d want = sym got.at ∙ polls in cc) row
        ∙ (ap (λ v. (consumer_heard t e c v k).place) got.at ∙ (ap (λ q. (by_head t e c x got.response q k).place) exchange_row ∙ rw test refl))

    no_cause : cause_by_case (case_at t e) x ≡ None
    no_cause =
        let before = due_before t e c k (consumer_acted t e c (consumer_heard t e c ev k)) u row.is (ap reads stands) none in
        let head : cause_of_head t e c ev ≡ None = (undue_parts t e c k before.1).head in
        let for_c : is_for (t.exchange x) c ≡ true = ap (λ q. is_for q c) exchange_row ∙ test in
        let is : (if is_for (t.exchange x) c then cause_by_case (case_at t e) x else None) ≡ None = sym (ap (cause_of_head t e c) got.at) ∙ head in
        rw for_c at is

    stays_back : sends_back (case_at t e) ≡ false
    unfolding starts_over
    stays_back =
        let for_c : is_for (exchange_at t ev) c ≡ true = ap (λ v. is_for (exchange_at t v) c) got.at ∙ (ap (λ q. is_for q c) exchange_row ∙ test) in
        let off : ((is_key (doomed_key_of t e) k.request.key && waits_at t k.place) || (sends_back (case_at t e) && is_for (exchange_at t ev) c)
        || loses_what_it_waits_for t e c k.place) ≡ false = row.stays in
        by_parts (is_key (doomed_key_of t e) k.request.key && waits_at t k.place) (sends_back (case_at t e)) (is_for (exchange_at t ev) c)
        (loses_what_it_waits_for t e c k.place) for_c off
      where
        by_parts : (a b d f : Bool) → d ≡ true → (a || (b && d) || f) ≡ false → b ≡ false
        by_parts true b d f on h = absurd (let no : true ≡ false = h in cc)
        by_parts false false d f on h = refl
        by_parts false true true f on h = absurd (let no : true ≡ false = h in cc)
        by_parts false true false f on h = absurd (false_true on)

    abbrev pub view : HeadCase
    view = head_case (head_view t (has_loss e.acts) w got.response)

    is_case : case_at t e ≡ Some view
    is_case = case_is t e x got.response w got.at exchange_row

    founded_not : (hi_now : Option ℕ) → place.Bound x 0 hi_now by.Founding ≡ place.Bound r lo hi how → ⊥
    founded_not hi_now is =
        let number : x ≡ r = (place_inj x 0 hi_now by.Founding r lo hi how is).number in
        let there = s.numbered.bound_to r c k (sound.is_bound lo hi how row.row at) in
        false_true (sym (ap (λ (q : Option Representation). Rattle.std.specs.Prelude.is_some q) (sym (ap t.representation number) ∙ new.unfounded)) ∙ there)

    stood : (g : HeadCase) → case_at t e ≡ Some g → place_by_case x got.response w k (Some g) ≡ place.Bound r lo hi how
    stood g is = sym (ap (place_by_case x got.response w k) is) ∙ (sym placed ∙ stands)

    direct_hole : route.Direct ≡ route.Hole → ⊥
    direct_hole h = cc

    turn_hole : route.Turn ≡ route.Hole → ⊥
    turn_hole h = cc

    by_case : (g : HeadCase) → CaseBy (head_view t (has_loss e.acts) w got.response) g → case_at t e ≡ Some g → is_joining (Some g) ≡ true
    by_case _ (cases.direct_bad past h) is = absurd (direct_hole (sym past ∙ way.0))
    by_case _ (cases.direct_taken past) is = absurd (direct_hole (sym past ∙ way.0))
    by_case _ (cases.turn_bad turn h) is = absurd (turn_hole (sym turn ∙ way.0))
    by_case _ (cases.validated turn h d l) is = absurd (turn_hole (sym turn ∙ way.0))
    by_case _ (cases.not_validated turn h) is = absurd (turn_hole (sym turn ∙ way.0))
    by_case _ (cases.turn_server_error turn) is = absurd (turn_hole (sym turn ∙ way.0))
    by_case _ (cases.founds_whole turn h l g) is = absurd (turn_hole (sym turn ∙ way.0))
    by_case _ (cases.founds_range turn h f l g) is = absurd (turn_hole (sym turn ∙ way.0))
    by_case _ (cases.passes_by turn) is = absurd (turn_hole (sym turn ∙ way.0))
    by_case _ (cases.first_bad hole shown h) is = absurd (let no : place.Down (cause.BadHead x) ≡ place.Bound r lo hi how = stood case.FirstBad is in cc)
    by_case _ (cases.first_server_error hole shown) is = absurd (let no : place.Direct x ≡ place.Bound r lo hi how = stood case.FirstServerError is in cc)
    by_case _ (cases.first_changed hole shown) is = absurd (let no : true ≡ false = sym (ap sends_back is) ∙ stays_back in cc)
    by_case _ (cases.first_replaced hole shown h l g) is = absurd (founded_not (promise_in w got.response) (stood case.FirstReplaced is))
    by_case _ (cases.first_passes_by hole shown) is = absurd (let no : place.Direct x ≡ place.Bound r lo hi how = stood case.FirstPassesBy is in cc)
    by_case _ (cases.later_bad hole shown h) is = absurd (some_none (cause.BadHead x) (sym (ap (λ g. cause_by_case g x) is) ∙ no_cause))
    by_case _ (cases.later_changed hole shown) is = absurd (some_none (cause.Changed x) (sym (ap (λ g. cause_by_case g x) is) ∙ no_cause))
    by_case _ _ is = refl

    -- its head joins
    pub joins : is_joining (case_at t e) ≡ true
    joins = ap is_joining is_case ∙ by_case view (case_by (head_view t (has_loss e.acts) w got.response)) is_case

    pub joined : IsJoin t w got.response
    joined = is_join t (has_loss e.acts) w got.response (sym (ap is_joining is_case) ∙ joins)

    pub length_is : length_by z z.head ≡ length_of w.need w.request got.response
    length_is = ap (length_by z) got.head_is ∙
        (ap (λ (n : Need). length_of n z.request got.response) same.need_is ∙ ap (λ (q : Request). length_of w.need q got.response) same.request_is)

    pub reported_is : IsReceived joined.fills.from joined.fills.last (length_of w.need w.request got.response)
    reported_is = part_reported w.need w.request got.response joined.fills.from joined.fills.last joined.fills.total
        (λ past. direct_hole (sym past ∙ way.0)) joined.fills.status joined.fills.part joined.good

    base_by : (l : Length) → IsReceived joined.fills.from joined.fills.last l → base_of l ≤ joined.fills.from
    base_by l (reported.none is) = let first : base_of l ≡ 0 = ap base_of is in omega arith
    base_by l (reported.part is) = let first : base_of l ≡ joined.fills.from = ap base_of is in omega arith

    -- and brings nothing before its hole
    pub front_within : front z ≤ hole_start w.need
    front_within =
        let first : base z ≡ base_of (length_of w.need w.request got.response) = ap base_of length_is in
        let le : base_of (length_of w.need w.request got.response) ≤ joined.fills.from = base_by _ reported_is in
        let empty : z.body ≡ [] = got.body_is ∙ (s.waits.headless x w exchange_row new.bare).0 in
        let none_yet : length z.body ≡ 0 = ap (λ (b : List ℕ). length b) empty in
        let start : hole_start w.need ≡ joined.fills.from = ap hole_start joined.fills.need_is in
        omega arith
