-- What makes room for what a head founds: what is idle once its consumer and what it replaces were moved and let go.
--
-- Room is told by the entry before its answer; the code counts it in tables in which all that was done already. In both
-- the same goes (`goes_same`), and the same consumers stay bound (`still_bound`). So each row weighs the same
-- (`weight_same`), and the same is idle (`idle_same`). Hence there is the same room, and the same gives way
-- (`room_same`, `gives_same`). The handler of heads that found uses these.
use Rattle.std.{proofs.{Common.{◌≡◌, inl, inr, ℕ, List, [], ◌∷◌, length, take, Bool, true, false, Option, Some, None, refl, ap, sym, ◌∙◌, subst, arith}, lemmas.Bool.Decides.{nat_tests}}, specs.{Prelude.{◌&&◌, ◌||◌, ◌==◌, not, nat_eq, if◌then◌else◌, option_map, map, filter, reverse}, List.{list_any, sum_by}}}
use Rattle.hc_text.proofs.Basics.{and_true as and_on, and_none as and_off, or_false as or_off}
use mathlib.Core.Path.{fun_ext}
use Rattle.hc_effects.proofs.Vocabulary.{Event, Response, HeadCase, Limits, Room, head_case, route_of, room_of, weight_of, case_at, head_view, is_founding, idle_now, current, is_current, denial, doomed_by_case, as_gone, let_all_go, with_consumer, Entry, entry_without_acts, NoFlaw, goes_itself, goes_by_case, becomes_gone, Lawful, MayLetGo, weight_now, room_now, giving_way, IsAwaiting, bound, is_bound, is_bound_place, Tables, Exchange, Representation, Consumer, weight, idle, evicted, room_for, room_by, write_in, moves_on, stays_bound, stays_current, is_idle, event, route, room, write}
use Rattle.hc_event.specs.declared.place.Place.TheVariants as place
use Rattle.hc_model.specs.Contents as contents
use Rattle.hc_model.specs.LettingGo as going
use Rattle.hc_model.specs.Owners as owners
use Rattle.hc_model.specs.Weights as weights
use Rattle.hc_effects.proofs.{FirstKeeps.{case_is}, FoundBy.{FoundingBy, founding_by}, HeadFacts.{waiter}, HeadFrames.{doomed_is, goes_by}, LettingGo.{bound_all, current_all}, PieceKeeps.{eq_cases}, SameTables.{is_in, all_go_is}}
use Rattle.hc_effects.proofs.FoundBy as cases

-- LISTS

-- one of those that pass the first test passes the second, or none passes both
any_filtered : (f h b : ℕ → Bool) (xs : List ℕ) → ((n : ℕ) → h n ≡ (f n && b n)) → list_any b (filter f xs) ≡ not (length (filter h xs) == 0)
any_filtered f h b [] both = refl
any_filtered f h b (x ∷ xs) both = by_tests (f x) (b x) refl refl (any_filtered f h b xs both)
  where
    by_tests : (p q : Bool) → f x ≡ p → b x ≡ q → list_any b (filter f xs) ≡ not (length (filter h xs) == 0) →
        list_any b (filter f (x ∷ xs)) ≡ not (length (filter h (x ∷ xs)) == 0)
    by_tests true true passes on rest =
        let here : h x ≡ true = both x ∙ rw (passes, on) refl in
        let some : nat_eq (length (x ∷ filter h xs)) 0 ≡ false = grind (arith, nat_tests) in
        rw (passes, here, on, some) refl
    by_tests true false passes off rest = let here : h x ≡ false = both x ∙ rw (passes, off) refl in rw (passes, here, off) rest
    by_tests false q fails is rest = let here : h x ≡ false = both x ∙ rw fails refl in rw (fails, here) rest

module _ (limits : Limits) (t : Tables) (law : Lawful t) (now x : ℕ) (response : Response) (goes : denial t (event.Head x response) ≡ None) (w : Exchange)
    (row : t.exchange x ≡ Some w) (k : Consumer) (asker : t.consumer w.c ≡ Some k) (g : HeadCase) (is : head_case (head_view t false w response) ≡ g)
    (doomless : doomed_by_case (Some g) w response ≡ None) (founds : is_founding (Some g) ≡ true)
    (rs : List ℕ) (tests : (r : ℕ) (v : Representation) → t.representation r ≡ Some v →
    goes_by_case t (entry_without_acts now (event.Head x response)) r (Some g) w ≡ is_in rs r) where
  abbrev ev : Event
  ev = event.Head x response

  abbrev e : Entry
  e = entry_without_acts now ev

  case_now : case_at t e ≡ Some g
  case_now = case_is t e x response w refl row ∙ ap Some is

  -- its consumer reads past the store
  abbrev pub fallback : Tables
  fallback = with_consumer w.c (Some (record k { place = place.Direct x })) t

  -- and those went
  abbrev pub left : Tables
  left = let_all_go now rs fallback

  -- WHAT GOES

  goes_same : (r : ℕ) (v : Representation) → t.representation r ≡ Some v → goes_itself t e r v ≡ is_in rs r
  unfolding becomes_gone
  goes_same r v there =
      sym (or_off (goes_itself t e r v))
      ∙ (goes_by t now x response [] NoFlaw [] w row g case_now r v refl (doomed_is t now x response [] NoFlaw [] w row g case_now ∙ doomless)
      ∙ (or_off (goes_by_case t e r (Some g) w || false) ∙ (or_off (goes_by_case t e r (Some g) w) ∙ tests r v there)))

  -- WHO STAYS BOUND

  unbound_turn : (r : ℕ) → route_of w.need ≡ route.Turn → is_bound_place r k.place ≡ false
  unbound_turn r way = by_await (waiter limits t law now x response goes w row k asker).at
    where
      by_await : IsAwaiting x w k.place → is_bound_place r k.place ≡ false
      by_await (owners.direct other stands) = ap (is_bound_place r) stands
      by_await (owners.turn other stands) = ap (is_bound_place r) stands
      by_await (owners.hole q lo hi how other aim stands) = absurd (let never : route.Turn ≡ route.Hole = sym way ∙ other in cc)

  moves_is : (d : ℕ) → moves_on t e d ≡ (weights.is_replacing (Some g) && nat_eq w.c d)
  moves_is d = rw (case_now, row) refl

  founding : FoundingBy (head_view t false w response) g
  founding = subst (FoundingBy (head_view t false w response)) is (founding_by (head_view t false w response) (ap (λ h. is_founding (Some h)) is ∙ founds))

  stays_here : (r : ℕ) → (is_bound_place r k.place && not (weights.is_replacing (Some g) && true)) ≡ false
  stays_here r = by_way founding
    where
      by_way : {h : HeadCase} → FoundingBy (head_view t false w response) h → (is_bound_place r k.place && not (weights.is_replacing (Some h) && true)) ≡ false
      by_way (cases.whole way status kept) = rw (unbound_turn r way) refl
      by_way (cases.part way status fits kept good) = rw (unbound_turn r way) refl
      by_way (cases.replaced way status kept) = and_off (is_bound_place r k.place)

  still_bound : (r d : ℕ) → is_bound r (fallback.consumer d) ≡ (is_bound r (t.consumer d) && not (moves_on t e d))
  still_bound r d = elim (eq_cases w.c d) [
    | inl here ↦ rw here.0 (sym
        (rw (moves_is d, here.0) (ap (λ o. is_bound r o && not (weights.is_replacing (Some g) && true)) (sym (ap t.consumer here.1) ∙ asker) ∙ stays_here r)))
    | inr other ↦ rw other.0 (sym (rw (moves_is d, other.0, and_off (weights.is_replacing (Some g))) (and_on (is_bound r (t.consumer d)))))
  ]

  module _ (may : MayLetGo fallback) where
    bound_then : (r : ℕ) → stays_bound t e r ≡ not (length (bound left r) == 0)
    unfolding bound
    bound_then r =
        any_filtered (λ d. is_bound r (t.consumer d)) (λ d. is_bound r (fallback.consumer d)) (λ d. not (moves_on t e d)) t.starts (still_bound r)
        ∙ ap (λ cs. not (length cs == 0)) (sym (bound_all now rs fallback may r))

    current_then : (r : ℕ) (v : Representation) → t.representation r ≡ Some v → is_current left v.key r ≡ stays_current t e r v
    unfolding current
    current_then r v there = current_all now rs fallback may v.key r ∙ ap (λ b. is_current t v.key r && not b) (sym (goes_same r v there))

    -- WHAT WEIGHS, AND WHAT IS IDLE

    row_then : (r : ℕ) → left.representation r ≡ (if is_in rs r then option_map as_gone (t.representation r) else t.representation r)
    row_then r = ap (λ (s : Tables). s.representation r) (all_go_is now rs fallback)

    weighs : (r : ℕ) (b : Bool) (v : Representation) → t.representation r ≡ Some v → going.weight_in
        left r (if b then option_map as_gone (Some v) else Some v) ≡ weights.weight_in t e r (Some v)
    weighs r b v there = by_test b ∙
        ap (λ z. if z then weight_of v.size else 0)
        (ap (λ z. z || not (length (bound left r) == 0)) (current_then r v there) ∙ ap (λ z. stays_current t e r v || z) (sym (bound_then r)))
      where
        by_test : (b : Bool) → going.weight_in
            left r (if b then option_map as_gone (Some v) else Some v) ≡ (if is_current left v.key r || not (length (bound left r) == 0) then
            weight_of v.size else 0)
        by_test true = refl
        by_test false = refl

    weight_same : (r : ℕ) → weight t e r ≡ weight_now left r
    weight_same r = sym (ap (going.weight_in left r) (row_then r) ∙ by_row (t.representation r) refl)
      where
        none_weighs : (b : Bool) → going.weight_in left r (if b then option_map as_gone None else None) ≡ 0
        none_weighs true = refl
        none_weighs false = refl

        by_row : (o : Option Representation) → t.representation r ≡ o → going.weight_in
            left r (if is_in rs r then option_map as_gone o else o) ≡ weights.weight_in t e r o
        by_row None there = none_weighs (is_in rs r)
        by_row (Some v) there = weighs r (is_in rs r) v there

    twice : (b : Bool) → not (not b) ≡ b
    twice b = grind (arith, nat_tests)

    idles : (r : ℕ) (b : Bool) (v : Representation) → t.representation r ≡ Some v →
        contents.is_idle left r (if b then option_map as_gone (Some v) else Some v) ≡ is_idle t e r (Some v)
    idles r b v there = by_test b ∙
        (ap (λ z. z && (length (bound left r) == 0)) (current_then r v there) ∙
        ap (λ z. stays_current t e r v && z) (sym (ap not (bound_then r) ∙ twice (length (bound left r) == 0))))
      where
        by_test : (b : Bool) → contents.is_idle left r
            (if b then option_map as_gone (Some v) else Some v) ≡ (is_current left v.key r && (length (bound left r) == 0))
        by_test true = refl
        by_test false = refl

    idle_row : (r : ℕ) → contents.is_idle left r (left.representation r) ≡ is_idle t e r (t.representation r)
    idle_row r = ap (contents.is_idle left r) (row_then r) ∙ by_row (t.representation r) refl
      where
        none_idles : (b : Bool) → contents.is_idle left r (if b then option_map as_gone None else None) ≡ false
        none_idles true = refl
        none_idles false = refl

        by_row : (o : Option Representation) → t.representation r ≡ o →
            contents.is_idle left r (if is_in rs r then option_map as_gone o else o) ≡ is_idle t e r o
        by_row None there = none_idles (is_in rs r)
        by_row (Some v) there = idles r (is_in rs r) v there

    idle_same : idle t e ≡ idle_now left
    unfolding idle
    idle_same =
        sym (ap (λ (f : ℕ → Bool). filter f (reverse left.used)) (fun_ext idle_row)
        ∙ ap (λ (s : Tables). filter (λ r. is_idle t e r (t.representation r)) (reverse s.used)) (all_go_is now rs fallback))

    -- THE ROOM

    pub room_same : room_for limits t now ev ≡ room_now limits left write.Slot
    unfolding room_for
    room_same =
        let write_is : write_in t e ev ≡ Some write.Slot = rw (case_now, founds) refl in
        ap (room_by limits t e) write_is
        ∙ (ap (λ (f : ℕ → ℕ). room_of limits (sum_by f t.founded) write.Slot (map f (idle t e))) (fun_ext weight_same)
        ∙ (ap (λ qs. room_of limits (sum_by (weight_now left) t.founded) write.Slot (map (weight_now left) qs)) idle_same
        ∙ ap (λ (s : Tables). room_of limits (sum_by (weight_now left) s.founded) write.Slot (map (weight_now left) (idle_now left)))
        (sym (all_go_is now rs fallback))))

    firsts_same : (a : Room) → weights.first_idle t e a ≡ going.first_idle left a
    firsts_same (room.After count) = ap (take count) idle_same
    firsts_same _ = refl

    pub gives_same : evicted limits t now ev ≡ giving_way limits left write.Slot
    gives_same = ap (weights.first_idle t e) room_same ∙ firsts_same (room_now limits left write.Slot)
