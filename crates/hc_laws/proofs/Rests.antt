-- Who became bound as the only one and has no exchange of its own has all that is left, where nobody writes it.
--
-- By how it became bound (`by_way`). Who was bound had the rest already (`unowned_was`), or a writing that was on is
-- over (`by_writer_group`). Its exchange can't have become that of a writing: it would promise bytes and go on
-- (`shared_not`, `promises_some`). Who founds a part or opens a first hole has an exchange (`founded_not`,
-- `opens_not`). An open exchange about it would be its own (`about_not`). `rested_kept` joins these.
use Rattle.std.{proofs.{Common.{◌<◌, ◌≡◌, ◌⊎◌, inl, inr, ℕ, ◌+◌, ◌-◌, ◌≤◌, List, Bool, true, false, Option, Some, None, refl, ap, sym, ◌∙◌, subst, arith}, lemmas.{Bool.Decides.{nat_tests}, Slice.Eq.{bytes_eq-Decides}}}, specs.Prelude.{if◌then◌else◌, is_some, nat_eq, bytes_eq, codes, unwrap_or}}
use Rattle.hc_text.proofs.Basics.{bool_cases, not_some as none_some, same_some as same_row, some_inj}
use Rattle.hc_effects.proofs.Vocabulary.{brings_part, brings_whole, range, event, case, route, place, by, Opening, opening_in, Need, Request, Response, HeadCase, length_of, promise_of, is_bad, is_head, agrees, content_length_of, route_of, content_range_of, is_disabled, is_get, BoundBy, loses_in, case_at, is_joining, is_refused, consumer_heard, consumer_acted, by_opening, waiting, becomes_shared, doomed_by_case, Entry, promise_in, is_open, family, becomes_due, entry_of, Measures, is_written, own_open, reads, Tables, Exchange, Representation, Consumer, IsBound, IsFirst, IsExclusiveWriter, IsHad, after_accepted, came_alone, status_in}
use Rattle.hc_text.specs.declared.names.MethodName.{MethodName}
use Rattle.hc_fields.specs.FirstValues.{elements_in}
use Rattle.hc_rules.specs.declared.length.Length.TheVariants as lengths
use Rattle.hc_model.specs.Sound as sound
use Rattle.hc_effects.proofs.{Forward.{IsOn}, AboutKeeps.{own_open_of}, ApartKeeps.{written_by}, Basics.{false_true, true_false, or_false, some_none}, Beside.{IsBeside}, BoundFrom.{BoundFrom, IsRow, IsFounded, bound_from}, Dues.{due_before}, ExchangeFrom.{IsHeaded}, FirstKeeps.{case_of_head, whole_brings, replaced_brings, is_new, came_kept, one_first_kept, founded_came}, HeadKeeps.{IsJoin}, LossBy.{IsReal}, Losses.{HasRest}, PartReported.{part_order}, ExclusiveWriters.{writer_some}, PieceKeeps.{eq_cases}, RepFrom.{was, founded, RepFrom, rep_from, IsKept, IsResumed}, ServedKeeps.{rest_by, still_rests, resumed_not, none_promised}, Waiters.{waiter_of}, WriterEnds.{all_stored}, Step.{Step}}
use Rattle.hc_effects.proofs.BoundFrom as from
use Rattle.hc_laws.proofs.{HadHeaded.{had_kept}, OwnNone.{IsShared, own_none, after_none}}
use Rattle.hc_laws.proofs.TogetherHeads as together
use Rattle.hc_rules.proofs.Statuses.{whole_or_part, part_succeeds, part_not_204}

-- WHO READS GETS A BODY

-- who isn't past the store asks by GET
get_of : (request : Request) → is_disabled request ≡ false → bytes_eq request.method (codes "GET") ≡ true
unfolding is_disabled
get_of request h = elim (bool_cases (is_get request)) [ inl on ↦ on | inr off ↦ absurd (true_false (rw off at h)) ]

not_head : (request : Request) → bytes_eq request.method (codes "GET") ≡ true → is_head request ≡ false
not_head request get = ap (λ (a : List ℕ). bytes_eq a (codes "HEAD")) ((bytes_eq-Decides request.method (codes "GET")).0 get)

-- a part that isn't bad, of which a body comes, promises a byte
promises_some : (n : Need) (request : Request) (response : Response) (first last total : ℕ) → route_of n ≡ route.Hole → is_head request ≡ false →
    brings_part response.status ≡ true → content_range_of response.fields ≡ Some (range.Part first last (Some total)) →
    is_bad (length_of n request response) ≡ false → promise_of (length_of n request response) ≡ Some 0 → ⊥
unfolding length_of
promises_some n request response first last total way plain status part good none =
    let a = part_not_204 response.status status in
    let low : response.status < 300 = (part_succeeds response.status status).1 in
    let b : nat_eq response.status 304 ≡ false = grind (arith, nat_tests) in
    let said = content_length_of (elements_in (codes "content-length") response.fields) in
    by_test (agrees said (last + 1 - first)) (rw (plain, a, b, way, status, part) at good) (rw (plain, a, b, way, status, part) at none)
  where
    by_test : (b : Bool) → is_bad (if b then lengths.Part first (last + 1 - first) else lengths.Bad) ≡ false →
        promise_of (if b then lengths.Part first (last + 1 - first) else lengths.Bad) ≡ Some 0 → ⊥
    by_test true g p = let order = part_order response.fields first last total part in let is_sorted : first ≤ last = order.is_sorted in
        let zero_is : last + 1 - first ≡ 0 = some_inj (last + 1 - first) 0 p in absurd (omega arith)
    by_test false g p = true_false g

joining_plain : (g : Option HeadCase) (w : Exchange) (response : Response) → is_joining g ≡ true → (is_refused g ≡ false) × (doomed_by_case g w response ≡ None)
joining_plain (Some case.FirstJoins) w response h = (refl, refl)
joining_plain (Some case.LaterJoins) w response h = (refl, refl)
joining_plain _ w response h = absurd (false_true h)

module _ (step : Step) (m : Measures step.tables) (i : IsBeside step.tables) (real : IsReal step.limits step.tables step.now step.event step.flaw) where
  open step use {limits, tables as t, now, flaw, sound as s, owners as o, event as ev, accepted as goes}

  abbrev e : Entry
  e = entry_of limits t now ev flaw

  abbrev now_on : Tables
  now_on = after_accepted t e

  module _ (r c lo : ℕ) (hi : Option ℕ) (how : BoundBy) (u : Consumer) (p : Representation) (after : now_on.representation r ≡ Some p)
      (after_row : now_on.consumer c ≡ Some u) (stands : u.place ≡ place.Bound r lo hi how) (fresh_now : p.is_lost ≡ false)
      (came : came_alone now_on (place.Bound r lo hi how) ≡ true) (none : u.due ≡ None) (unowned : u.own ≡ None) (unwritten : is_written now_on p ≡ false) where
    abbrev Rested : Type 0
    Rested = HasRest now_on p u

    first_now : IsFirst now_on r c
    first_now = sound.first u lo hi how after_row stands came

    -- an open exchange about r would be its own
    about_not : (x : ℕ) → sound.IsAbout now_on r x → ⊥
    about_not x about = by_had (had_kept step m real r x p after about)
      where
        by_exclusive_writer : (d : ℕ) → IsExclusiveWriter now_on r p d → IsFirst now_on r d
        by_exclusive_writer d (sound.first fresh is) = is
        by_exclusive_writer d (sound.alone lost is) = absurd (false_true (sym fresh_now ∙ lost))

        by_row : (d : ℕ) (q : Consumer) → IsBound now_on r d q → d ≡ c → own_open now_on q ≡ Some x → ⊥
        by_row d q (sound.is_bound a b g q_row at) same owned =
            let one : q ≡ u = same_row (now_on.consumer c) q u (sym (ap now_on.consumer same) ∙ q_row) after_row in
            none_some x (sym unowned ∙ (ap (λ (w : Consumer). w.own) (sym one) ∙ (own_open_of now_on q x owned).own))

        by_had : IsHad now_on r p x → ⊥
        by_had (sound.shared on writer) = false_true (sym unwritten ∙ on)
        by_had (sound.own d q reader owned none_due exclusive_writer) =
            by_row d q reader (one_first_kept limits t now flaw s ev goes r d c (by_exclusive_writer d exclusive_writer) first_now) owned

    -- IT WAS BOUND

    module _ (k : Consumer) (v : Representation) (row : IsRow t e c r lo hi how k u) (at : k.place ≡ place.Bound r lo hi how)
        (there : t.representation r ≡ Some v) (kept : IsKept t e r v p) where
      parts : (loses_in r e.acts ≡ false) × (v.is_lost ≡ false)
      parts = or_false (loses_in r e.acts) v.is_lost (sym kept.lost_is ∙ fresh_now)

      before : (k.due ≡ None) × (becomes_due t e c k ≡ None)
      before = due_before t e c k (consumer_acted t e c (consumer_heard t e c ev k)) u row.is (ap reads stands) none

      -- its writing is over
      by_writer_group : is_written t v ≡ true → (z : Option ℕ) → v.writer ≡ z → Rested
      by_writer_group on None writer = absurd (writer_some t v on writer)
      by_writer_group on (Some x) writer = elim (bool_cases (is_open (now_on.exchange x))) [
        | inr off ↦ rest_by step m real r c lo hi how u p after after_row stands
            (all_stored step m real r c x lo hi how k u v p row at stands there on writer before.1 kept (inl parts.0) off) hi refl
        | inl still ↦ absurd (false_true (sym unwritten ∙ written_by now_on p x fresh_now (by_writer kept.writer_is) still))
      ]
        where
          by_writer : (p.writer ≡ v.writer) ⊎ IsResumed t e r v p.writer → p.writer ≡ Some x
          by_writer (inl same) = same ∙ writer
          by_writer (inr R) = absurd (resumed_not step m real r c lo hi how u p after after_row stands k v row at there kept before.0 before.1 on x writer R)

      -- it had none
      unowned_was : k.own ≡ None → Rested
      unowned_was none_own = elim (bool_cases (is_written t v)) [
        | inl on ↦ by_writer_group on v.writer refl
        | inr off ↦
            let came_was : came_alone t (place.Bound r lo hi how) ≡ true = sym (came_kept limits t now flaw s ev goes r lo hi how (ap is_some there)) ∙ came in
            let rest = i.rested r c v k there parts.1 (sound.first k lo hi how row.row at came_was) (sound.is_bound lo hi how row.row at) before.0
            none_own off in
            still_rests step m real r c lo hi how u p after after_row stands k v row at there kept before.0 before.1 rest.hi rest.end rest.covered
      ]

      -- its exchange is written together from now on: it goes on, since it promises bytes
      shared_not : IsShared t e c → ⊥
      shared_not sh = elim (bool_cases (is_open (now_on.exchange sh.x))) [
        | inl still ↦ about_not sh.x
            (sound.headed g.u g.row (sym (ap is_open g.row) ∙ still) (ap (λ (a : Option Response). is_some a) got.head_is) fam (ap is_some after))
        | inr off ↦
            let plain = joining_plain (case_at t e) sh.w sh.response joins in
            let none_is : promise_in sh.w sh.response ≡ Some 0 =
            none_promised step m real r c lo hi how u p after after_row stands sh.x sh.response sh.w sh.at sh.row plain.0 plain.1 off in
            promises_some sh.w.need sh.w.request got.response joined.fills.from joined.fills.last joined.fills.total way.0 unheaded joined.fills.status
            joined.fills.part joined.good (ap (λ a. promise_of (length_of sh.w.need sh.w.request a)) answer ∙ none_is)
      ]
        where
          g : IsOn t e sh.x sh.w
          g = together.on step r c lo hi how k u row at stands none sh

          got : IsHeaded t e sh.x sh.w g.u
          got = together.got step r c lo hi how k u row at stands none sh

          joins : is_joining (case_at t e) ≡ true
          joins = together.joins step r c lo hi how k u row at stands none sh

          joined : IsJoin t sh.w got.response
          joined = together.joined step r c lo hi how k u row at stands none sh

          way : (route_of sh.w.need ≡ route.Hole) × (sh.w.aim ≡ Some r)
          way = together.way step r c lo hi how k u row at stands none sh

          answer : got.response ≡ sh.response
          answer = same_head sh.x sh.x got.response sh.response (sym got.at ∙ sh.at)
            where
              same_head : (a d : ℕ) (f h : Response) → event.Head a f ≡ event.Head d h → f ≡ h
              same_head a d f h is = cc

          fam : family sh.x g.u ≡ r
          fam =
              let joined_now : (if is_joining (case_at t e) then sh.w.aim else sh.w.joined) ≡ Some r = rw joins way.1 in
              ap (λ (n : Option ℕ). unwrap_or n sh.x) (got.joined_is ∙ joined_now)

          unheaded : is_head sh.w.request ≡ false
          unheaded =
              let opener = o.opener sh.x sh.w sh.row in
              let one : opener.k ≡ k = same_row (t.consumer c) opener.k k (sym (ap t.consumer sh.mine) ∙ opener.row) row.row in
              let cached : is_disabled k.request ≡ false = i.cached c k row.row (ap Rattle.hc_effects.proofs.Beside.is_cached_place at) in
              ap (λ (a : MethodName). bytes_eq a (codes "HEAD")) (opener.method_is ∙ ap (λ (q : Consumer). q.request.method) one) ∙
              not_head k.request (get_of k.request cached)

      was_bound : Rested
      was_bound = by_own (own_none t e c k u row.is unowned)
        where
          by_own : (k.own ≡ None) ⊎ IsShared t e c → Rested
          by_own (inl none_own) = unowned_was none_own
          by_own (inr sh) = absurd (shared_not sh)

    -- IT FOUNDS A PART, AND KEEPS ITS EXCHANGE

    founded_not : (k : Consumer) (x : ℕ) (response : Response) (w : Exchange) → IsRow t e c r lo hi how k u → ev ≡ event.Head x response →
        t.exchange x ≡ Some w → w.c ≡ c → x ≡ r → how ≡ by.Founding → IsFounded t e c r lo hi how x response w k (case_at t e) → ⊥
    founded_not k x response w row here exchange_row mine of_r by_is all = by_own (own_none t e c k u row.is unowned)
      where
        new : Rattle.hc_effects.proofs.FirstKeeps.IsNew limits t now flaw s ev goes x w
        new = is_new limits t now flaw s ev goes x response w here exchange_row

        status : brings_part response.status ≡ true
        status =
            let founding : brings_part (status_in (now_on.representation r)) ≡ true =
            subst (λ (b : BoundBy). came_alone now_on (place.Bound r lo hi b) ≡ true) by_is came in
            founded_came limits t now flaw s ev goes x lo hi response (now_on.representation x) here new.unfounded refl
            (subst (λ q. brings_part (status_in (now_on.representation q)) ≡ true) (sym of_r) founding)

        no_whole : brings_whole response.status ≡ true → ⊥
        no_whole is = whole_or_part response.status is status

        unshared : (g : Option HeadCase) → case_at t e ≡ g → IsFounded t e c r lo hi how x response w k g → becomes_shared t e response w g ≡ false
        unshared _ is (from.whole a b) = absurd (no_whole (whole_brings t _ w response (case_of_head t e x response w case.FoundsWhole here exchange_row is)))
        unshared _ is (from.replaced a b) =
            absurd (no_whole (replaced_brings t _ w response (case_of_head t e x response w case.FirstReplaced here exchange_row is)))
        unshared _ is (from.part a) = refl

        head_same : (a d : ℕ) (f h : Response) → event.Head a f ≡ event.Head d h → (a ≡ d) × (f ≡ h)
        head_same a d f h is = (cc, cc)

        by_own : (k.own ≡ None) ⊎ IsShared t e c → ⊥
        by_own (inl none_own) =
            let all = waiter_of step x w exchange_row new.is_open new.bare in
            none_some x (sym none_own ∙
            (ap (λ (q : Consumer). q.own) (sym (same_row (t.consumer c) all.0 k (sym (ap t.consumer mine) ∙ all.1.row) row.row)) ∙ all.1.own))
        by_own (inr sh) =
            let same = head_same sh.x x sh.response response (sym sh.at ∙ here) in
            let one : sh.w ≡ w = same_row (t.exchange x) sh.w w (sym (ap t.exchange same.0) ∙ sh.row) exchange_row in
            let shared : becomes_shared t e response w (case_at t e) ≡ true =
            ap (λ (a : Exchange). becomes_shared t e response a (case_at t e)) (sym one) ∙
            (ap (λ (a : Response). becomes_shared t e a sh.w (case_at t e)) (sym same.1) ∙ sh.shared) in
            false_true (sym (unshared (case_at t e) refl all) ∙ shared)

    -- WHAT IS OPENED FOR IT IS ITS OWN

    opens_not : (k : Consumer) (q : Opening) → IsRow t e c r lo hi how k u → opening_in e.acts ≡ Some q → q.c ≡ c → ⊥
    opens_not k q row opens mine =
        let h = consumer_heard t e c ev k in
        let w = waiting t e c h in
        let test : nat_eq q.c c ≡ true = eq_true q.c c mine in
        let opened : (by_opening t c (opening_in e.acts) w).own ≡ Some q.x = ap (λ z. (by_opening t c z w).own) opens ∙ rw test refl in
        some_none q.x (sym opened ∙ after_none t e c h.place (by_opening t c (opening_in e.acts) w).own (ap (λ (z : Consumer). z.own) row.is ∙ unowned))
      where
        eq_true : (a b : ℕ) → a ≡ b → nat_eq a b ≡ true
        eq_true a b is = elim (eq_cases a b) [ inl here ↦ here.0 | inr other ↦ absurd (other.1 is) ]

    by_way : BoundFrom t e c r lo hi how u → RepFrom t e r p → Rested
    by_way (from.stays k row at) (was v kept) = was_bound k v row at kept.row kept
    by_way (from.stays k row at) (founded response w none_there here exchange_row on made) =
        absurd (let there = s.numbered.bound_to r c k (sound.is_bound lo hi how row.row at) in false_true (sym (ap is_some none_there) ∙ there))
    by_way (from.founds k x response w row here exchange_row mine of_r by_is all) from_rep =
        absurd (founded_not k x response w row here exchange_row mine of_r by_is all)
    by_way (from.opens k q row opens mine free way hole) from_rep = absurd (opens_not k q row opens mine)
    by_way (from.shows k z row is all) from_rep = absurd (false_true (subst (λ w. came_alone now_on (place.Bound r lo hi w) ≡ true) all.by_is came))

  -- Who became bound as the only one has the rest, where it has no exchange and nobody writes.
  pub rested_kept : (r c : ℕ) (p : Representation) (u : Consumer) → now_on.representation r ≡ Some p → p.is_lost ≡ false → IsFirst now_on r c →
      IsBound now_on r c u → u.due ≡ None → u.own ≡ None → is_written now_on p ≡ false → HasRest now_on p u
  rested_kept r c p u after fresh (sound.first q a d g q_row q_at came) (sound.is_bound lo hi how after_row stands) none unowned unwritten =
      let one : q ≡ u = same_row (now_on.consumer c) q u q_row after_row in
      let came_now : came_alone now_on (place.Bound r lo hi how) ≡ true =
      subst (λ z. came_alone now_on z ≡ true) (sym q_at ∙ (ap (λ (z : Consumer). z.place) one ∙ stands)) came in
      by_way r c lo hi how u p after after_row stands fresh came_now none unowned unwritten
      (bound_from t e c r lo hi how (t.consumer c) u refl after_row stands) (rep_from t e r (t.representation r) p refl after)
