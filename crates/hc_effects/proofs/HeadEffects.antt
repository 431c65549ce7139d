-- What heads do that write nothing: past the store, and with the turn where nothing is validated or founded.
--
-- One lemma is for all heads that write nothing (`mild`): what goes, which exchange is closed, and what becomes of the
-- consumer. Each case is a use of it. Past the store the exchange has the head, or a bad one puts its consumer down
-- (`put_down`, `direct_bad`). With the turn and at a first hole its consumer reads past the store, or starts over. At a
-- later hole a failure is due (`later_bad`, `later_changed`).
use Rattle.std.{proofs.{lemmas.Bool.Decides.{nat_tests}, Common.{arith, ◌≡◌, ℕ, List, [], ◌∷◌, Bool, true, false, Option, Some, None, refl, ap, sym, ◌∙◌, subst}}, specs.Prelude.{◌&&◌, ◌||◌, not, nat_lt, if◌then◌else◌, map}}
use Rattle.hc_text.proofs.Basics.{and_true, or_false as or_off, and_off as then_false}
use Rattle.hc_effects.proofs.Vocabulary.{act, cause, event, case, route, Cause, Event, Response, HeadCase, HeadView, Limits, head_case, length_of, is_bad, route_of, head_view, is_founding, is_updating, is_joining, is_refused, consumer_after, back_in_line, current, is_number, denial, doomed_by_case, changes, Does, with_event, let_all_go, let_some_go, tables_after_close, all_closed, with_consumer, with_answer, unless_ended, promise_in, is_reached, cause_by_case, NoFlaw, goes_by_case, Lawful, IsAwaiting, is_written, reads, Tables, Exchange, Representation, Consumer, sends_back, with_item_first, evicted}
use Rattle.hc_event.specs.declared.place.Place.TheVariants as place
use Rattle.hc_model.specs.Owners as owners
use Rattle.hc_effects.proofs.{FoundBy.{CaseBy, case_by}, HeadFrames.{e, heard}, HeadFacts.{stays_open, waiter, evicts_none, goes_on, goes_back, fails, rows_stay, head_does}, ConsumerEffects.{some_all}, PollEffects.{none_waits, same_consumer}, SameTables.{is_in, in_one, waits_for_any}}
use Rattle.hc_effects.proofs.FoundBy as cases

-- a head that puts its consumer down
data PutsDown : HeadCase → Type 0 where
  direct : PutsDown case.DirectBad
  turn : PutsDown case.TurnBad
  first : PutsDown case.FirstBad

direct_is : {v : HeadView} → CaseBy v case.DirectBad → v.bad ≡ true
direct_is (cases.direct_bad way bad) = bad

turn_is : {v : HeadView} → CaseBy v case.TurnBad → v.bad ≡ true
turn_is (cases.turn_bad way bad) = bad

first_is : {v : HeadView} → CaseBy v case.FirstBad → v.bad ≡ true
first_is (cases.first_bad way shown bad) = bad

later_is : {v : HeadView} → CaseBy v case.LaterBad → (route_of v.need ≡ route.Hole) × (v.bad ≡ true)
later_is (cases.later_bad way shown bad) = (way, bad)

changed_is : {v : HeadView} → CaseBy v case.LaterChanged → route_of v.need ≡ route.Hole
changed_is (cases.later_changed way shown) = way

-- what one number names goes
one_goes : (o : Option ℕ) (r : ℕ) → (is_number o r || false || false) ≡ is_in (with_item_first o []) r
one_goes o r = or_off (is_number o r || false) ∙ (or_off (is_number o r) ∙ sym (in_one o r))

module _ (limits : Limits) (t : Tables) (law : Lawful t) (now x : ℕ) (response : Response) (goes : denial t (event.Head x response) ≡ None) (w : Exchange)
    (row : t.exchange x ≡ Some w) (k : Consumer) (asker : t.consumer w.c ≡ Some k) where
  abbrev ev : Event
  ev = event.Head x response

  spares : (r : ℕ) (v : Representation) → t.representation r ≡ Some v → (false && is_written t v) ≡ false
  spares r v there = refl

  shut : with_item_first (if true && not (is_reached (promise_in w response) 0) then Some x else None) [] ≡ unless_ended x response w
  shut = grind (arith, nat_tests)

  case_as : {g : HeadCase} → head_case (head_view t false w response) ≡ g → CaseBy (head_view t false w response) g
  case_as is = subst (CaseBy (head_view t false w response)) is (case_by (head_view t false w response))

  -- it waits for its head, and not for what becomes gone
  unwaiting : (rs : List ℕ) → waits_for_any rs k.place ≡ false
  unwaiting rs = by_await (waiter limits t law now x response goes w row k asker).at
    where
      by_await : IsAwaiting x w k.place → waits_for_any rs k.place ≡ false
      by_await (owners.direct way stands) = rw stands refl
      by_await (owners.turn way stands) = rw stands refl
      by_await (owners.hole r lo hi how way aim stands) = rw stands refl

  reads_hole : route_of w.need ≡ route.Hole → reads k.place ≡ true
  reads_hole hole = by_await (waiter limits t law now x response goes w row k asker).at
    where
      by_await : IsAwaiting x w k.place → reads k.place ≡ true
      by_await (owners.direct way stands) = rw stands refl
      by_await (owners.turn way stands) = absurd (let never : route.Turn ≡ route.Hole = sym way ∙ hole in cc)
      by_await (owners.hole r lo hi how way aim stands) = rw stands refl

  -- WRITES NOTHING

  module _ (g : HeadCase) (is : head_case (head_view t false w response) ≡ g) (doomless : doomed_by_case (Some g) w response ≡ None)
      (unfounding : is_founding (Some g) ≡ false) (unupdating : is_updating (Some g) ≡ false) (unjoining : is_joining (Some g) ≡ false) (xs : List ℕ)
      (shuts : with_item_first (if is_refused (Some g) && not (is_reached (promise_in w response) 0) then Some x else None) [] ≡ xs) where
    makes_none : evicted limits t now ev ≡ []
    makes_none = evicts_none limits t law now x response goes w row (ap (λ h. is_founding (Some h)) is ∙ unfounding)

    mild : (rs : List ℕ) (q : Consumer) →
        ((r : ℕ) (v : Representation) → t.representation r ≡ Some v →
        (goes_by_case t (e t now x response [] NoFlaw xs) r (Some g) w || false || false) ≡ is_in rs r)
        → consumer_after t (e t now x response [] NoFlaw xs) w.c (t.consumer w.c) ≡ Some q → waits_for_any rs q.place ≡ false
        → Does limits t now ev NoFlaw (map act.Close xs)
        (with_event now ev (let_all_go now rs (with_consumer w.c (Some q) (all_closed xs (with_answer now x response w.joined w t)))))
    mild rs q tests asks unwaiting =
        head_does limits t law now x response goes w row k asker NoFlaw g is doomless spares [] makes_none xs shuts rs tests t.founded t.used
        t.representation w.joined q
        (rw unjoining refl) (rw unfounding refl) (rw unfounding refl)
        (rows_stay limits t law now x response goes w row k asker NoFlaw g is doomless spares [] makes_none xs shuts rs tests unfounding unupdating
        (λ r v there. refl)) asks unwaiting

    goes_on_so : sends_back (Some g) ≡ false → cause_by_case (Some g) x ≡ None → (q : Consumer) → heard t now x response [] NoFlaw xs w g k ≡ q →
        consumer_after t (e t now x response [] NoFlaw xs) w.c (t.consumer w.c) ≡ Some q
    goes_on_so stays fine q same = goes_on limits t law now x response goes w row k asker NoFlaw g is doomless spares [] makes_none xs shuts stays fine ∙
        ap Some same

    goes_back_so : sends_back (Some g) ≡ true → consumer_after t (e t now x response [] NoFlaw xs) w.c (t.consumer w.c) ≡ Some (back_in_line now k)
    goes_back_so sends = goes_back limits t law now x response goes w row k asker NoFlaw g is doomless spares [] makes_none xs shuts sends

    fails_so : (why : Cause) → sends_back (Some g) ≡ false → cause_by_case (Some g) x ≡ Some why → heard t now x response [] NoFlaw xs w g k ≡ k →
        reads k.place ≡ true → consumer_after t (e t now x response [] NoFlaw xs) w.c (t.consumer w.c) ≡ Some (record k { due = Some why })
    fails_so = fails limits t law now x response goes w row k asker NoFlaw g is doomless spares [] makes_none xs shuts

  -- PAST THE STORE

  -- only the exchange has it
  pub taken : head_case (head_view t false w response) ≡ case.DirectTaken → changes w response ≡ false →
      Does limits t now ev NoFlaw [] (with_event now ev (with_answer now x response w.joined w t))
  taken is same = subst (λ (s : Tables). Does limits t now ev NoFlaw [] (with_event now ev s))
      (same_consumer t (with_answer now x response w.joined w t) w.c k asker)
      (mild case.DirectTaken is (rw same refl) refl refl refl [] refl [] k (λ r v there. refl)
      (goes_on_so case.DirectTaken is (rw same refl) refl refl refl [] refl refl refl k refl) (none_waits k.place))

  -- a bad head puts its consumer down
  put_down : (g : HeadCase) (is : head_case (head_view t false w response) ≡ g) → doomed_by_case (Some g) w response ≡ None → PutsDown g →
      is_bad (length_of w.need w.request response) ≡ true →
      Does limits t now ev NoFlaw (act.Close x ∷ [])
      (with_event now ev (with_consumer w.c (Some (record k { place = place.Down (cause.BadHead x) }))
      (tables_after_close x (with_answer now x response w.joined w t))))
  put_down _ is doomless direct bad =
      let shut = stays_open w response bad in
      mild case.DirectBad is doomless refl refl refl (x ∷ []) (rw shut refl) [] _ (λ r v there. refl)
      (goes_on_so case.DirectBad is doomless refl refl refl (x ∷ []) (rw shut refl) refl refl _ refl) refl
  put_down _ is doomless turn bad =
      let shut = stays_open w response bad in
      mild case.TurnBad is doomless refl refl refl (x ∷ []) (rw shut refl) [] _ (λ r v there. refl)
      (goes_on_so case.TurnBad is doomless refl refl refl (x ∷ []) (rw shut refl) refl refl _ refl) refl
  put_down _ is doomless first bad =
      let shut = stays_open w response bad in
      mild case.FirstBad is doomless refl refl refl (x ∷ []) (rw shut refl) [] _ (λ r v there. refl)
      (goes_on_so case.FirstBad is doomless refl refl refl (x ∷ []) (rw shut refl) refl refl _ refl) refl

  pub direct_bad : head_case (head_view t false w response) ≡ case.DirectBad → changes w response ≡ false →
      Does limits t now ev NoFlaw (act.Close x ∷ [])
      (with_event now ev (with_consumer w.c (Some (record k { place = place.Down (cause.BadHead x) }))
      (tables_after_close x (with_answer now x response w.joined w t))))
  direct_bad is same = put_down case.DirectBad is (rw same refl) direct (direct_is (case_as is))

  -- WITH THE TURN

  pub turn_bad : head_case (head_view t false w response) ≡ case.TurnBad →
      Does limits t now ev NoFlaw (act.Close x ∷ [])
      (with_event now ev (with_consumer w.c (Some (record k { place = place.Down (cause.BadHead x) }))
      (tables_after_close x (with_answer now x response w.joined w t))))
  turn_bad is = put_down case.TurnBad is refl turn (turn_is (case_as is))

  -- at a server error it reads the answer past the store
  pub server_error : head_case (head_view t false w response) ≡ case.TurnServerError →
      Does limits t now ev NoFlaw []
      (with_event now ev (with_consumer w.c (Some (record k { place = place.Direct x })) (with_answer now x response w.joined w t)))
  server_error is = mild case.TurnServerError is refl refl refl refl [] refl [] _ (λ r v there. refl)
      (goes_on_so case.TurnServerError is refl refl refl refl [] refl refl refl _ refl) refl

  -- and at what isn't stored: what is current is let go
  pub passes_by : head_case (head_view t false w response) ≡ case.PassesBy →
      Does limits t now ev NoFlaw []
      (with_event now ev (let_some_go now (current t w.request.key)
      (with_consumer w.c (Some (record k { place = place.Direct x })) (with_answer now x response w.joined w t))))
  passes_by is = subst (λ (s : Tables). Does limits t now ev NoFlaw [] (with_event now ev s)) (some_all now (current t w.request.key) _)
      (mild case.PassesBy is refl refl refl refl [] refl (with_item_first (current t w.request.key) []) (record k { place = place.Direct x })
      (λ r v there. one_goes (current t w.request.key) r) (goes_on_so case.PassesBy is refl refl refl refl [] refl refl refl _ refl) refl)

  -- at a 304 that doesn't select what it is about it stands in the line again, and that is let go
  pub not_validated : head_case (head_view t false w response) ≡ case.NotValidated →
      Does limits t now ev NoFlaw []
      (with_event now ev (let_some_go now w.aim (with_consumer w.c (Some (back_in_line now k)) (with_answer now x response w.joined w t))))
  not_validated is = subst (λ (s : Tables). Does limits t now ev NoFlaw [] (with_event now ev s)) (some_all now w.aim _)
      (mild case.NotValidated is refl refl refl refl [] refl (with_item_first w.aim []) (back_in_line now k) (λ r v there. one_goes w.aim r)
      (goes_back_so case.NotValidated is refl refl refl refl [] refl refl) refl)

  -- FOR A FIRST HOLE

  pub first_bad : head_case (head_view t false w response) ≡ case.FirstBad →
      Does limits t now ev NoFlaw (act.Close x ∷ [])
      (with_event now ev (with_consumer w.c (Some (record k { place = place.Down (cause.BadHead x) }))
      (tables_after_close x (with_answer now x response w.joined w t))))
  first_bad is = put_down case.FirstBad is refl first (first_is (case_as is))

  pub first_server_error : head_case (head_view t false w response) ≡ case.FirstServerError →
      Does limits t now ev NoFlaw []
      (with_event now ev (with_consumer w.c (Some (record k { place = place.Direct x })) (with_answer now x response w.joined w t)))
  first_server_error is = mild case.FirstServerError is refl refl refl refl [] refl [] _ (λ r v there. refl)
      (goes_on_so case.FirstServerError is refl refl refl refl [] refl refl refl _ refl) refl

  -- what had the hole is let go
  pub first_passes_by : head_case (head_view t false w response) ≡ case.FirstPassesBy →
      Does limits t now ev NoFlaw []
      (with_event now ev (let_some_go now w.aim (with_consumer w.c (Some (record k { place = place.Direct x })) (with_answer now x response w.joined w t))))
  first_passes_by is = subst (λ (s : Tables). Does limits t now ev NoFlaw [] (with_event now ev s)) (some_all now w.aim _)
      (mild case.FirstPassesBy is refl refl refl refl [] refl (with_item_first w.aim []) (record k { place = place.Direct x })
      (λ r v there. or_off (is_number w.aim r || false || false) ∙ one_goes w.aim r)
      (goes_on_so case.FirstPassesBy is refl refl refl refl [] refl refl refl _ refl) refl)

  -- where it is another now, the exchange is closed, where it is still open, and the consumer stands in the line again
  pub first_changed : head_case (head_view t false w response) ≡ case.FirstChanged →
      Does limits t now ev NoFlaw (map act.Close (unless_ended x response w))
      (with_event now ev (let_some_go now w.aim
      (with_consumer w.c (Some (back_in_line now k)) (all_closed (unless_ended x response w) (with_answer now x response w.joined w t)))))
  first_changed is = subst (λ (s : Tables). Does limits t now ev NoFlaw (map act.Close (unless_ended x response w)) (with_event now ev s))
      (some_all now w.aim _)
      (mild case.FirstChanged is refl refl refl refl (unless_ended x response w) shut (with_item_first w.aim []) (back_in_line now k)
      (λ r v there. one_goes w.aim r) (goes_back_so case.FirstChanged is refl refl refl refl (unless_ended x response w) shut refl) refl)

  -- FOR A LATER HOLE

  -- what was shown can't be completed: by a bad head
  pub later_bad : head_case (head_view t false w response) ≡ case.LaterBad →
      Does limits t now ev NoFlaw (act.Close x ∷ [])
      (with_event now ev (with_consumer w.c (Some (record k { due = Some (cause.BadHead x) }))
      (tables_after_close x (with_answer now x response w.joined w t))))
  later_bad is =
      let from = later_is (case_as is) in
      let shut = stays_open w response from.1 in
      mild case.LaterBad is refl refl refl refl (x ∷ []) (rw shut refl) [] _ (λ r v there. refl)
      (fails_so case.LaterBad is refl refl refl refl (x ∷ []) (rw shut refl) (cause.BadHead x) refl refl refl (reads_hole from.0)) (none_waits k.place)

  -- or since it is another now, which is let go unless that is a server error
  pub later_changed : head_case (head_view t false w response) ≡ case.LaterChanged →
      Does limits t now ev NoFlaw (map act.Close (unless_ended x response w))
      (with_event now ev (let_some_go now (if nat_lt response.status 500 then w.aim else None)
      (with_consumer w.c (Some (record k { due = Some (cause.Changed x) }))
      (all_closed (unless_ended x response w) (with_answer now x response w.joined w t)))))
  later_changed is = subst (λ (s : Tables). Does limits t now ev NoFlaw (map act.Close (unless_ended x response w)) (with_event now ev s))
      (some_all now (if nat_lt response.status 500 then w.aim else None) _)
      (mild case.LaterChanged is refl refl refl refl (unless_ended x response w) shut
      (with_item_first (if nat_lt response.status 500 then w.aim else None) []) (record k { due = Some (cause.Changed x) }) tests
      (fails_so case.LaterChanged is refl refl refl refl (unless_ended x response w) shut (cause.Changed x) refl refl refl
      (reads_hole (changed_is (case_as is)))) (unwaiting (with_item_first (if nat_lt response.status 500 then w.aim else None) [])))
    where
      by_test : (b : Bool) (r : ℕ) → (is_number w.aim r && b) ≡ is_number (if b then w.aim else None) r
      by_test true r = and_true (is_number w.aim r)
      by_test false r = then_false (is_number w.aim r) false refl

      tests : (r : ℕ) (v : Representation) → t.representation r ≡ Some v → ((is_number w.aim r && nat_lt response.status 500) || false || false) ≡ is_in
          (with_item_first (if nat_lt response.status 500 then w.aim else None) []) r
      tests r v there = ap (λ b. b || false || false) (by_test (nat_lt response.status 500) r) ∙ one_goes (if nat_lt response.status 500 then w.aim else None) r
