-- What the head of an unsafe request does that may have changed something: what is current for its key is doomed.
--
-- Its consumer reads past the store (`direct_place`), so the answer is taken, or the head is bad. A doom closes all
-- that is awaited for the key, and its own exchange where the head is refused (`closes_as`). Just what is current goes
-- (`goes_as_it`), and who waits for the key starts over. `dooms_key` joins the rows into tables, for both cases:
-- `dooms_taken` and `dooms_bad`.
use Rattle.std.{proofs.{lemmas.Bool.Decides.{nat_tests}, Common.{arith, ◌≡◌, inl, inr, ℕ, List, [], ◌++◌, Bool, true, false, Option, Some, None, refl, ap, sym, ◌∙◌, subst}}, specs.Prelude.{bytes_eq, ◌&&◌, ◌||◌, not, nat_eq, if◌then◌else◌, is_none, option_map, map, filter, reverse}}
use Rattle.hc_text.proofs.Basics.{eqb-same, not_some as none_some, some_inj, and_off as then_false}
use mathlib.Core.Path.{fun_ext}
use Rattle.hc_effects.proofs.Vocabulary.{act, cause, case, route, Event, Response, HeadCase, HeadView, Limits, head_case, route_of, Place, accepted_acts, case_at, head_view, is_founding, is_updating, is_joining, closing, closes_row, is_refused, awaits, has_no_survivor, consumer_after, back_in_line, current, is_number, is_current, denial, doomed_key_of, doomed_by_case, changes, is_key, Does, with_event, let_some_go, all_closed, with_consumer, with_answer, sent_back, woken, is_awaited, awaited_and, Entry, promise_in, is_reached, family, cause_by_case, NoFlaw, becomes_gone, goes_by_case, Lawful, IsAwaiting, is_written, Tables, Exchange, Representation, Consumer, sends_back, waits_at, after_accepted, with_item_first}
use Rattle.hc_event.specs.declared.event.Event.TheVariants as event
use Rattle.hc_event.specs.declared.place.Place.TheVariants as place
use Rattle.hc_model.specs.Owners as owners
use Rattle.hc_effects.proofs.{ConsumerEffects.{waits_as, some_all}, DoomFrames.{sent_as, awaited_apart}, FoundBy.{CaseBy, case_by}, HeadFacts.{stays_open, new, waiter, undue, case_on, case_before, evicts_none, no_survivor}, HeadFrames.{e, spared_as, heard, doomed_is, goes_as, row_by, other_by, asker_goes_on, after_head}, KeyNames.{current_test}, PieceKeeps.{eq_cases}, PollEffects.{same_consumer}, SameTables.{is_in, in_one, waits_for_any, back_from_any, all_closed_is}, Untouched.{consumer_absent, IsSpared}}
use Rattle.hc_effects.proofs.FoundBy as cases

two_off : (a : Bool) → (a || false || false) ≡ a
two_off a = grind (arith, nat_tests)

and_open : (d o h f : Bool) → (((d && (o && h)) && f) && o) ≡ ((d && (o && h)) && f)
and_open d o h f = grind (arith, nat_tests)

module _ (limits : Limits) (t : Tables) (law : Lawful t) (now x : ℕ) (response : Response) (goes : denial t (event.Head x response) ≡ None) (w : Exchange)
    (row : t.exchange x ≡ Some w) (k : Consumer) (asker : t.consumer w.c ≡ Some k) (unsafe : changes w response ≡ true) where
  abbrev ev : Event
  ev = event.Head x response

  -- what is doomed
  abbrev key : List ℕ
  key = w.request.key

  module _ (g : HeadCase) (is : head_case (head_view t false w response) ≡ g) (dooms : doomed_by_case (Some g) w response ≡ Some key)
      (past : k.place ≡ place.Direct x) (unfounding : is_founding (Some g) ≡ false) (unupdating : is_updating (Some g) ≡ false)
      (unjoining : is_joining (Some g) ≡ false) (stays : sends_back (Some g) ≡ false) (fine : cause_by_case (Some g) x ≡ None)
      (also : Option ℕ) (refuses : (if is_refused (Some g) && not (is_reached (promise_in w response) 0) then Some x else None) ≡ also) where
    -- what is closed
    abbrev xs : List ℕ
    xs = awaited_and t key also

    abbrev it : Entry
    it = e t now x response [] NoFlaw xs

    abbrev b : Entry
    b = record { now = now; event = ev; acts = [] }

    is_it : case_at t it ≡ Some g
    is_it = case_on limits t law now x response goes w row [] xs NoFlaw g is

    doomed_it : doomed_key_of t it ≡ Some key
    doomed_it = doomed_is t now x response [] NoFlaw xs w row g is_it ∙ dooms

    is_b : case_at t b ≡ Some g
    is_b = case_before limits t law now x response goes w row NoFlaw g is

    doomed_b : doomed_key_of t b ≡ Some key
    unfolding doomed_key_of
    doomed_b = rw (row, is_b) dooms

    spares : (r : ℕ) (v : Representation) → t.representation r ≡ Some v → (false && is_written t v) ≡ false
    spares r v there = refl

    no_member : (y r : ℕ) → has_no_survivor t b y r (t.representation r) ≡ false
    no_member y r = no_survivor limits t law now x response goes w row NoFlaw g is spares y r (t.representation r) refl

    refuses_here : (c : Bool) → (if c then Some x else None) ≡ also → is_number also x ≡ c
    refuses_here true same = ap (λ o. is_number o x) (sym same) ∙ eqb-same x
    refuses_here false same = ap (λ o. is_number o x) (sym same)

    refuses_other : (y : ℕ) → nat_eq x y ≡ false → (c : Bool) → (if c then Some x else None) ≡ also → is_number also y ≡ false
    refuses_other y other true same = ap (λ o. is_number o y) (sym same) ∙ other
    refuses_other y other false same = ap (λ o. is_number o y) (sym same)

    -- its own exchange is closed where it is refused, and others where they are awaited
    closes_as : (y : ℕ) → closes_row t b y (t.exchange y) ≡ (is_number also y || is_awaited t key y (t.exchange y))
    closes_as y = elim (eq_cases x y) [
      | inl here ↦ subst (λ z. closes_row t b z (t.exchange z) ≡ (is_number also z || is_awaited t key z (t.exchange z))) here.1 at_x
      | inr other ↦ by_row (t.exchange y) other.0
    ]
      where
        unawaited : awaits (t.consumer w.c) x ≡ false
        unawaited = rw (asker, past) refl

        here_by : (a c d : Bool) → (((a && true) || (d && false) || false || false) && (c && true)) ≡ ((a && c) || (d && false))
        here_by a c d = grind (arith, nat_tests)

        at_x : closes_row t b x (t.exchange x) ≡ (is_number also x || is_awaited t key x (t.exchange x))
        at_x = rw (
          row,
          is_b,
          eqb-same x,
          doomed_b,
          unawaited,
          no_member x (family x w),
          (new limits t law now x response goes w row).is_open,
          refuses_here (is_refused (Some g) && not (is_reached (promise_in w response) 0)) refuses,
        )
            (here_by (is_refused (Some g)) (not (is_reached (promise_in w response) 0)) (bytes_eq key w.request.key && is_none w.head))

        apart_by : (a d o h f : Bool) → (((a && false) || ((d && (o && h)) && f) || false || false) && o) ≡ ((d && (o && h)) && f)
        apart_by true d o h f = ap (λ z. z && o) (two_off ((d && (o && h)) && f)) ∙ and_open d o h f
        apart_by false d o h f = ap (λ z. z && o) (two_off ((d && (o && h)) && f)) ∙ and_open d o h f

        by_row : (o : Option Exchange) → nat_eq x y ≡ false → closes_row t b y o ≡ (is_number also y || is_awaited t key y o)
        by_row None apart = rw (refuses_other y apart (is_refused (Some g) && not (is_reached (promise_in w response) 0)) refuses) refl
        by_row (Some u) apart = rw
            (is_b, apart, doomed_b, no_member y (family y u), refuses_other y apart (is_refused (Some g) && not (is_reached (promise_in w response) 0)) refuses)
            (apart_by (is_refused (Some g)) (bytes_eq key u.request.key) u.is_open (is_none u.head) (awaits (t.consumer u.c) y))

    closing_is : closing t b ≡ xs
    unfolding closing
    closing_is = ap (λ (test : ℕ → Bool). filter test (reverse t.openings)) (fun_ext closes_as)

    acts_are : accepted_acts limits t now ev NoFlaw ≡ map act.Close xs
    acts_are =
        ap (λ rs. map act.Evicted rs ++ map act.Close (closing t b))
        (evicts_none limits t law now x response goes w row (ap (λ h. is_founding (Some h)) is ∙ unfounding))
        ∙ ap (λ ys. map act.Close ys) closing_is

    spared_it : (p : Place) → IsSpared t it p
    spared_it p = λ r lo hi how v at there. spared_as t now x response [] NoFlaw xs r v refl

    unclosed : (r : ℕ) (v : Representation) → t.representation r ≡ Some v → is_in xs r ≡ false
    unclosed = awaited_apart t key law.sound also
        (λ y at. ap t.representation (sym (is_x y (is_refused (Some g) && not (is_reached (promise_in w response) 0)) (refuses ∙ at))) ∙
        (new limits t law now x response goes w row).unfounded)
      where
        is_x : (y : ℕ) (c : Bool) → (if c then Some x else None) ≡ Some y → x ≡ y
        is_x y true at = some_inj x y at
        is_x y false at = absurd (none_some y at)

    abbrev rs : List ℕ
    rs = with_item_first (current t key) []

    -- just what is current goes
    goes_as_it : ((r : ℕ) → goes_by_case t it r (Some g) w ≡ false) → (r : ℕ) (v : Representation) → t.representation r ≡ Some v →
        becomes_gone t it r v ≡ is_in rs r
    goes_as_it none r v there =
        goes_as t now x response [] NoFlaw xs w row g is_it r v (unclosed r v there)
        ∙ (rw (doomed_it, none r) (three_off (is_current t v.key r && bytes_eq key v.key))
        ∙ (current_test t key r v there ∙ sym (in_one (current t key) r)))
      where
        three_off : (a : Bool) → (a || false || false || false) ≡ a
        three_off true = refl
        three_off false = refl

    module _ (none : (r : ℕ) → goes_by_case t it r (Some g) w ≡ false) where
      others_are : (d : ℕ) → nat_eq w.c d ≡ false → consumer_after t it d (t.consumer d) ≡ option_map (back_from_any now rs) ((woken now key t).consumer d)
      others_are d other = by_row (t.consumer d) refl
        where
          by_row : (o : Option Consumer) → t.consumer d ≡ o → consumer_after t it d o ≡ option_map (back_from_any now rs) (option_map (sent_back t now key) o)
          by_row None there = consumer_absent t it d refl
          by_row (Some u) there =
              other_by t now x response [] NoFlaw xs w row g is_it law d u (spared_it u.place) other there
              ∙ (rw (doomed_it, waits_as t it law rs (goes_as_it none) d u there u.place refl) refl ∙ sent_as t now key rs u)

      asks : (q : Consumer) → heard t now x response [] NoFlaw xs w g k ≡ q → consumer_after t it w.c (t.consumer w.c) ≡ Some q
      asks q same =
          asker_goes_on t now x response [] NoFlaw xs w row g is_it k asker (waiter limits t law now x response goes w row k asker).at
          (undue limits t law now x response goes w row k asker)
          (rw past (then_false (is_key (doomed_key_of t it) k.request.key) false refl)) (spared_it k.place)
          (spared_it (heard t now x response [] NoFlaw xs w g k).place) stays fine
          ∙ ap Some same

      -- who waits for the key starts over, what is awaited is closed, and what is current is let go
      dooms_key : (q : Consumer) → heard t now x response [] NoFlaw xs w g k ≡ q → waits_for_any rs q.place ≡ false →
          Does limits t now ev NoFlaw (map act.Close xs)
          (with_event now ev (let_some_go now (current t key)
          (with_consumer w.c (Some q) (all_closed xs (with_answer now x response w.joined w (woken now key t))))))
      dooms_key q same unwaiting = record {
        acts_are = acts_are;
        tables_are =
            ap (λ acts. after_accepted t (record { now = now; event = ev; acts = acts })) acts_are
            ∙ (after_head t now x response [] NoFlaw xs w row g is_it rs t.founded t.used t.representation (woken now key t).consumer w.joined q (record {
              joins = ap (λ o. if is_joining o then w.aim else w.joined) is_it ∙ rw unjoining refl;
              founded = rw unfounding refl;
              used = rw unfounding refl;
              representation = λ r. row_by t now x response [] NoFlaw xs w row g is_it rs (goes_as_it none) r (rw unfounding refl)
                  (λ v there. (rw (is_it, unupdating) refl, refl));
              asker = asks q same;
              unwaiting = unwaiting;
              others = others_are;
            })
            ∙ ap (with_event now ev)
            (some_all now (current t key) (with_consumer w.c (Some q) (all_closed xs (with_answer now x response w.joined w (woken now key t))))));
      }

  -- what its consumer reads is past the store
  direct_place : route_of w.need ≡ route.Direct → k.place ≡ place.Direct x
  direct_place way = by_await (waiter limits t law now x response goes w row k asker).at
    where
      by_await : IsAwaiting x w k.place → k.place ≡ place.Direct x
      by_await (owners.direct direct stands) = stands
      by_await (owners.turn turn stands) = absurd (let no : route.Turn ≡ route.Direct = sym turn ∙ way in cc)
      by_await (owners.hole q lo hi by hole aimed stands) = absurd (let no : route.Hole ≡ route.Direct = sym hole ∙ way in cc)

  case_as : {g : HeadCase} → head_case (head_view t false w response) ≡ g → CaseBy (head_view t false w response) g
  case_as is = subst (CaseBy (head_view t false w response)) is (case_by (head_view t false w response))

  direct_way : {z : HeadView} → CaseBy z case.DirectTaken → route_of z.need ≡ route.Direct
  direct_way (cases.direct_taken way) = way

  bad_way : {z : HeadView} → CaseBy z case.DirectBad → (route_of z.need ≡ route.Direct) × (z.bad ≡ true)
  bad_way (cases.direct_bad way bad) = (way, bad)

  -- its exchange has the head
  pub dooms_taken : head_case (head_view t false w response) ≡ case.DirectTaken → Does limits t now ev NoFlaw (map act.Close (awaited_and t key None))
      (with_event now ev (let_some_go now (current t key) (all_closed (awaited_and t key None) (with_answer now x response w.joined w (woken now key t)))))
  dooms_taken is =
      let past = direct_place (direct_way (case_as is)) in
      subst (λ (s : Tables). Does limits t now ev NoFlaw (map act.Close (awaited_and t key None)) (with_event now ev (let_some_go now (current t key) s)))
      (same_consumer t (all_closed (awaited_and t key None) (with_answer now x response w.joined w (woken now key t))) w.c k (stays_so past))
      (dooms_key case.DirectTaken is (rw unsafe refl) past refl refl refl refl refl None refl (λ r. refl) k refl (rw past refl))
    where
      by_waiting : (b : Bool) → k.place ≡ place.Direct x → Some (if b && waits_at t k.place then back_in_line now k else k) ≡ Some k
      by_waiting true past = rw past refl
      by_waiting false past = refl

      stays_so : k.place ≡ place.Direct x →
          (all_closed (awaited_and t key None) (with_answer now x response w.joined w (woken now key t))).consumer w.c ≡ Some k
      stays_so past = ap (λ (s : Tables). s.consumer w.c)
          (all_closed_is (awaited_and t key None) (with_answer now x response w.joined w (woken now key t))) ∙
          (ap (option_map (sent_back t now key)) asker ∙ by_waiting (bytes_eq key k.request.key) past)

  -- a bad head puts its consumer down too
  pub dooms_bad : head_case (head_view t false w response) ≡ case.DirectBad → Does limits t now ev NoFlaw (map act.Close (awaited_and t key (Some x)))
      (with_event now ev (let_some_go now (current t key)
      (with_consumer w.c (Some (record k { place = place.Down (cause.BadHead x) }))
      (all_closed (awaited_and t key (Some x)) (with_answer now x response w.joined w (woken now key t))))))
  dooms_bad is =
      let from = bad_way (case_as is) in
      dooms_key case.DirectBad is (rw unsafe refl) (direct_place from.0) refl refl refl refl refl (Some x) (rw (stays_open w response from.1) refl)
      (λ r. refl) (record k { place = place.Down (cause.BadHead x) }) refl refl
