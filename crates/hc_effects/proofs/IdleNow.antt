-- What is idle at an event: those that are idle before it, but for what the event itself makes gone.
--
-- A representation that the event doesn't let go keeps who is bound to it: only a head moves a reader, and then what
-- that read goes (`moved_head`, `stays_there`). So somebody is bound to it after as before (`bound_is`), and it is idle
-- just where it was and outlasts the event (`idle_row`). A list that is filtered by two tests at once is filtered by
-- one after the other (`filter_both`). `idle_but_gone` joins these.
use Rattle.std.{proofs.{Common.{◌≡◌, inl, inr, ℕ, List, [], ◌∷◌, length, Bool, true, false, Option, Some, None, refl, ap, sym, ◌∙◌, arith}, lemmas.Bool.Decides.{nat_tests}}, specs.{Prelude.{filter, reverse, nat_eq, ◌==◌, ◌&&◌, not}, List.{list_any}}}
use Rattle.hc_text.proofs.Basics.{and_left, and_right, bool_cases, not_some as none_some, same_some as same_row}
use Rattle.hc_effects.proofs.Vocabulary.{Event, Response, HeadCase, route_of, Limits, Place, case_at, head_view, is_current, denial, Entry, entry_without_acts, outlasts, outlasts_row, exchange_at, is_for, NoFlaw, goes_itself, Owners, IsAwaiting, bound, is_bound_place, Tables, Exchange, Representation, Consumer, Sound, Among, IsBound, idle, is_idle, stays_bound, moves_on, is_replacing, event, case, route}
use Rattle.hc_model.specs.Contents as contents
use Rattle.hc_model.specs.Evictions.{IdleButGone}
use Rattle.hc_model.specs.Sound as sound
use Rattle.hc_effects.proofs.{Basics.{false_true, true_false}, FirstKeeps.{is_new, case_of_head}, FoundBy.{CaseBy}, HasBound.{reader_of}}
use Rattle.hc_effects.proofs.FoundBy as cases

-- LISTS

-- two tests, one after the other
pub filter_both : (f g h : ℕ → Bool) (xs : List ℕ) → ((n : ℕ) → f n ≡ (h n && g n)) → filter f xs ≡ filter g (filter h xs)
filter_both f g h [] both = refl
filter_both f g h (x ∷ xs) both = elim (bool_cases (h x)) [
  | inr off ↦ let no : f x ≡ false = both x ∙ ap (λ b. b && g x) off in rw (off, no) (filter_both f g h xs both)
  | inl on ↦
      let same : f x ≡ g x = both x ∙ ap (λ b. b && g x) on in
      rw (on, same) (elim (bool_cases (g x)) [
        | inl passes ↦ rw passes (ap (λ ys. x ∷ ys) (filter_both f g h xs both))
        | inr fails ↦ rw fails (filter_both f g h xs both)
      ])
]

any_first : (test : ℕ → Bool) (xs : List ℕ) → ((n : ℕ) → Among n xs → test n ≡ true) → list_any test xs ≡ not (length xs == 0)
any_first test [] all = refl
any_first test (x ∷ xs) all = let first : test x ≡ true = all x (inl refl) in let some : nat_eq (length (x ∷ xs)) 0 ≡ false = grind (arith, nat_tests) in
    rw (first, some) refl

-- WHO MOVES ON

hole_of : (t : Tables) (lost : Bool) (w : Exchange) (response : Response) → CaseBy (head_view t lost w response) case.FirstReplaced →
    route_of w.need ≡ route.Hole
hole_of t lost w response (cases.first_replaced way shown status kept good) = way

replacing_is : (g : Option HeadCase) → is_replacing g ≡ true → g ≡ Some case.FirstReplaced
replacing_is g h = grind (arith, nat_tests)

module _ (t : Tables) (now : ℕ) (ev : Event) (s : Sound t) (o : Owners t) (goes : denial t ev ≡ None) where
  abbrev e : Entry
  e = entry_without_acts now ev

  abbrev any : Limits
  any = record { max_entry = 0; max_total = 0 }

  -- who moves on was bound to what goes
  awaits_at : (r x : ℕ) (w : Exchange) (p : Place) → IsAwaiting x w p → route_of w.need ≡ route.Hole → is_bound_place r p ≡ true → w.aim ≡ Some r
  awaits_at r x w p it4 hole here = grind (arith, nat_tests)

  bound_here : (r c : ℕ) (k : Consumer) → IsBound t r c k → is_bound_place r k.place ≡ true
  bound_here r c k (sound.is_bound lo hi how row at) = let self : nat_eq r r ≡ true = grind (arith, nat_tests) in ap (is_bound_place r) at ∙ self

  row_here : (r c : ℕ) (k : Consumer) → IsBound t r c k → t.consumer c ≡ Some k
  row_here r c k (sound.is_bound lo hi how row at) = row

  goes_with : (r : ℕ) (v : Representation) (w : Exchange) → w.aim ≡ Some r → case_at t e ≡ Some case.FirstReplaced → exchange_at t ev ≡ Some w →
      goes_itself t e r v ≡ true
  goes_with r v w aim is at = grind (arith, nat_tests)

  mine_is : (x c : ℕ) (response : Response) (r : ℕ) (v : Representation) (k : Consumer) (w : Exchange) → ev ≡ event.Head x response →
      t.exchange x ≡ Some w → IsBound t r c k → nat_eq w.c c ≡ true → case_at t e ≡ Some case.FirstReplaced → goes_itself t e r v ≡ true
  mine_is x c response r v k w here row reader mine is =
      let same : w.c ≡ c = grind (arith, nat_tests) in
      let new = is_new any t now NoFlaw s ev goes x response w here row in
      let waits = o.waiting x w row new.is_open new.bare in
      let one : waits.k ≡ k = same_row (t.consumer c) waits.k k (sym (ap t.consumer same) ∙ waits.row) (row_here r c k reader) in
      let hole = hole_of t false w response (case_of_head t e x response w case.FirstReplaced here row is) in
      let aim = awaits_at r x w waits.k.place waits.at hole (ap (λ (q : Consumer). is_bound_place r q.place) one ∙ bound_here r c k reader) in
      goes_with r v w aim is (ap (exchange_at t) here ∙ row)

  moved_head : (x c : ℕ) (response : Response) (r : ℕ) (v : Representation) (k : Consumer) (z : Option Exchange) → ev ≡ event.Head x response →
      t.exchange x ≡ z → IsBound t r c k → is_for z c ≡ true → case_at t e ≡ Some case.FirstReplaced → goes_itself t e r v ≡ true
  moved_head x c response r v k None here row reader mine is = absurd (false_true mine)
  moved_head x c response r v k (Some w) here row reader mine is = mine_is x c response r v k w here row reader mine is

  no_case : (z : Event) → ev ≡ z → Rattle.hc_model.specs.Cases.case_of t false z ≡ None → case_at t e ≡ Some case.FirstReplaced → ⊥
  no_case z here none is = none_some case.FirstReplaced (sym (ap (Rattle.hc_model.specs.Cases.case_of t false) here ∙ none) ∙ is)

  moved_by : (z : Event) (r c : ℕ) (v : Representation) (k : Consumer) → ev ≡ z → IsBound t r c k → is_for (exchange_at t z) c ≡ true →
      case_at t e ≡ Some case.FirstReplaced → goes_itself t e r v ≡ true
  unfolding Rattle.hc_model.specs.Cases.case_of
  moved_by (event.Head x response) r c v k here reader mine is = moved_head x c response r v k (t.exchange x) here refl reader mine is
  moved_by _ r c v k here reader mine is = absurd (no_case _ here refl is)

  -- so who is bound to what doesn't go stays bound
  stays_there : (r c : ℕ) (v : Representation) → goes_itself t e r v ≡ false → Among c (bound t r) → not (moves_on t e c) ≡ true
  stays_there r c v stays among = by_test (moves_on t e c) refl
    where
      by_test : (b : Bool) → moves_on t e c ≡ b → not b ≡ true
      by_test false is = refl
      by_test true is =
          let reader = reader_of t r c among in
          let replaced = replacing_is (case_at t e) (and_left (is_replacing (case_at t e)) _ is) in
          let mine : is_for (exchange_at t ev) c ≡ true = and_right (is_replacing (case_at t e)) _ is in
          absurd (true_false (sym (moved_by ev r c v reader.0 refl reader.1 mine replaced) ∙ stays))

  pub bound_is : (r : ℕ) (v : Representation) → goes_itself t e r v ≡ false → stays_bound t e r ≡ not (length (bound t r) == 0)
  bound_is r v stays = any_first (λ c. not (moves_on t e c)) (bound t r) (λ c among. stays_there r c v stays among)

  twice : (b : Bool) → not (not b) ≡ b
  twice b = grind (arith, nat_tests)

  idle_row : (r : ℕ) (z : Option Representation) → is_idle t e r z ≡ (contents.is_idle t r z && outlasts_row t e r z)
  idle_row r None = refl
  idle_row r (Some v) = elim (bool_cases (goes_itself t e r v)) [
    | inl gone ↦ rw gone (by_test (is_current t v.key r) (stays_bound t e r) (length (bound t r) == 0))
    | inr stays ↦ rw (stays, bound_is r v stays, twice (length (bound t r) == 0)) (by_both (is_current t v.key r) (length (bound t r) == 0))
  ]
    where
      by_test : (a b c : Bool) → ((a && not true) && not b) ≡ ((a && c) && not true)
      by_test a b c = grind (arith, nat_tests)

      by_both : (a b : Bool) → ((a && not false) && b) ≡ ((a && b) && not false)
      by_both a b = grind (arith, nat_tests)

pub idle_but_gone : IdleButGone
unfolding idle
idle_but_gone t now ev s o goes =
    filter_both (λ r. is_idle t (entry_without_acts now ev) r (t.representation r)) (outlasts t (entry_without_acts now ev))
    (λ r. contents.is_idle t r (t.representation r)) (reverse t.used) (λ r. idle_row t now ev s o goes r (t.representation r))
