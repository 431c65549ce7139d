-- What a consumer was given over a run, joined, is the body of what it was shown, from where it was shown it.
--
-- `IsJoined` is carried over a run: who reads reads what it was shown, and what it was given is held there. What a poll
-- gives is next of what was shown (`next_of`), and bytes behind bytes are held together (`holds_more`); they stay so as
-- bodies grow (`holds_grow`). What a consumer was shown and given is told by filters (`is_reported`). `joined_in_runs` is
-- the induction, from which `bodies_are_read` is read off.
use Rattle.std.{proofs.{Common.{◌≡◌, inl, inr, ℕ, zero, suc, ◌+◌, ◌-◌, ◌<◌, ◌≤◌, List, [], ◌∷◌, ◌++◌, length, Bool, true, false, Option, Some, None, refl, ap, sym, ◌∙◌, subst, arith, length-append}, Math.{ListN.{get_or-append}, Seq.{get_or-append_right}}, lemmas.Bool.Decides.{nat_tests}}, specs.{Prelude.{IfSome, slice_index, nat_lt, not}, Option.{option_map_or}}}
use Rattle.hc_text.proofs.Basics.{nil_cons, not_some as none_some, bool_cases, some_inj}
use Rattle.hc_sparse.specs.declared.run.Run.{Run}
use Rattle.hc_effects.proofs.Vocabulary.{is_denied, given_in, Limits, Place, may_begin, Entry, History, Contents, Shown, shown_in, shown_of, given_of, entry_of, OfRuns, Gives, move_of, reads, hi_of, Delivers, Holds, body_of, Tables, Consumer, IsRun, tables, after_accepted, after_denied, event}
use Rattle.hc_event.specs.declared.place.Place.TheVariants as place
use Rattle.hc_model.specs.{Laws.{Grows}, Reads.{BodiesAreRead}}
use Rattle.hc_laws.proofs.{FallbackKeeps.{landing_by, fallback_begun, fallback_denied, fallback_kept}, Barred.{next_tables, denied_tables}, GrowsInRuns.{grows}, OneHead.{one_head_is_shown}, ReadAs.{IsRead, read_kept, landed_read}, RunFacts.{along, in_runs}, SoundRuns.{carried}}
use Rattle.hc_effects.proofs.{Basics.{false_true, append_none}, GivenNext.{read_of, given_next}, Givers.{some_want, gives_of}, MoveBy.{move_by}, OfEntries.{of_real}, Owed.{denied_gives, denied_shows}, PollActs.{ToOne, to_one}, ReadFilters.{consumers_are_filtered}, ShownOnce.{no_first}, ShownStays.{IsFallback, StaysOrIdle, shown_stays}, Step.{Step, step_of}}
use Rattle.hc_effects.proofs.PollActs as acts_to
use Rattle.hc_effects.proofs.ShownStays as stands

pub one_inj : (x y : Shown) → x ∷ [] ≡ y ∷ [] → x ≡ y
one_inj x y is = cc

-- AN ANSWER PAST THE STORE, IN RUNS

pub fallback : OfRuns IsFallback
fallback = in_runs (λ limits t. IsFallback t)
    (λ limits contents may. fallback_begun contents)
    (λ limits t e later a. fallback_denied t e a)
    (λ limits t now flaw later c a ev going real. fallback_kept (step_of limits t now flaw c.is_sound c.is_owned ev going) real.stand a)

-- WHAT IS HELD

-- bytes behind bytes
holds_more : (t : Tables) (r at : ℕ) (xs ys : List ℕ) → Holds t r at xs → Holds t r (at + length xs) ys → Holds t r at (xs ++ ys)
holds_more t r at xs ys hx hy i lt = elim (bool_cases (nat_lt i (length xs))) [
  | inl inside ↦
      let under : i < length xs = grind (arith, nat_tests) in
      let got = hx i under in
      let byte : slice_index (xs ++ ys) i ≡ slice_index xs i = get_or-append xs ys 0 i under in
      (got.0, subst (λ b. Delivers t r (at + i) got.0 (b ∷ [])) (sym byte) got.1)
  | inr past ↦
      let over : length xs ≤ i = grind (arith, nat_tests) in
      let all : length (xs ++ ys) ≡ length xs + length ys = length-append xs ys in
      let under : i - length xs < length ys = omega arith in
      let got = hy (i - length xs) under in
      let place : at + length xs + (i - length xs) ≡ at + i = omega arith in
      let byte : slice_index (xs ++ ys) i ≡ slice_index ys (i - length xs) = get_or-append_right xs ys i 0 over in (
        got.0,
        subst (λ p. Delivers t r p got.0 (slice_index (xs ++ ys) i ∷ [])) place
            (subst (λ b. Delivers t r (at + length xs + (i - length xs)) got.0 (b ∷ [])) (sym byte) got.1),
      )
]

-- what one exchange delivered
holds_of : (t : Tables) (r at x : ℕ) (bytes : List ℕ) → Delivers t r at x bytes → Holds t r at bytes
holds_of t r at x bytes d i lt = (x, λ j one. each j one)
  where
    each : (j : ℕ) → j < 1 → body_of t r (at + i + j) ≡ Some (record { byte = slice_index (slice_index bytes i ∷ []) j; x = x })
    each zero one = let p : at + i + 0 ≡ at + i = omega arith in rw p (d i lt)
    each (suc j) one = absurd (omega arith)

-- and it stays
holds_grow : (t u : Tables) (r at : ℕ) (bytes : List ℕ) → Grows t u → Holds t r at bytes → Holds u r at bytes
holds_grow t u r at bytes grow h i lt = let got = h i lt in (got.0, grow r (at + i) got.0 (slice_index bytes i ∷ []) got.1)

-- OVER A RUN

-- what is carried: who reads reads what it was shown, and what it was given is of that
pub record IsJoined (t : Tables) (shown : ℕ → List Shown) (given : ℕ → List ℕ) : Type 0 where
  pub read : (c : ℕ) (k : Consumer) (z : Shown) → t.consumer c ≡ Some k → shown c ≡ z ∷ [] → reads k.place ≡ true → IsRead t k z
  pub held : (c : ℕ) (z : Shown) → shown c ≡ z ∷ [] → Holds t z.r z.lo (given c)

-- what the filters say of a consumer
pub record IsReceived (t : Tables) (shown : ℕ → List Shown) (given : ℕ → List ℕ) : Type 0 where
  pub absent : (c : ℕ) → t.consumer c ≡ None → shown c ≡ []
  pub unshown : (c : ℕ) (k : Consumer) → t.consumer c ≡ Some k → k.shown ≡ false → shown c ≡ []
  pub ungiven : (c : ℕ) → shown c ≡ [] → given c ≡ []
  pub count : (c : ℕ) (k : Consumer) → t.consumer c ≡ Some k → k.given ≡ length (given c)

module _ (step : Step) (a : IsFallback step.tables) (shown : ℕ → List Shown) (given : ℕ → List ℕ) (reported : IsReceived step.tables shown given)
    (joined : IsJoined step.tables shown given) where
  open step use {limits, tables as t, now, flaw, sound as s, owners as o, event as ev, accepted as goes}

  abbrev e : Entry
  e = entry_of limits t now ev flaw

  abbrev now_on : Tables
  now_on = after_accepted t e

  module _ (c : ℕ) where
    -- nothing was shown before, and a head is
    front_none : (xs : List Shown) (y z : Shown) → (xs ++ (y ∷ [])) ≡ z ∷ [] → (xs ≡ []) × (y ≡ z)
    front_none [] y z is = (refl, one_inj y z is)
    front_none (x ∷ []) y z is = absurd (let no : (x ∷ y ∷ []) ≡ z ∷ [] = is in cc)
    front_none (x ∷ x1 ∷ xs) y z is = absurd (let no : (x ∷ x1 ∷ (xs ++ (y ∷ []))) ≡ z ∷ [] = is in cc)

    quiet_shown : (z : Shown) → shown_in c e.acts ≡ [] → (shown c ++ shown_in c e.acts) ≡ z ∷ [] → shown c ≡ z ∷ []
    quiet_shown z none is = sym (ap (λ xs. shown c ++ xs) none ∙ append_none (shown c)) ∙ is

    -- READING

    shown_on : (k u : Consumer) (z : Shown) → t.consumer c ≡ Some k → now_on.consumer c ≡ Some u → shown c ≡ z ∷ [] → k.shown ≡ true →
        reads u.place ≡ true → IsRead now_on u z
    shown_on k u z row after was on reading_on = by_place (shown_stays step a c k row on u after)
      where
        idle_not : (p : Place) → stands.IsIdle p → reads p ≡ true → ⊥
        idle_not (place.Turn x) i old = i
        idle_not (place.Bound r lo hi how) i old = i
        idle_not (place.Direct y) i old = i
        idle_not _ i old = false_true old

        by_place : StaysOrIdle k.place u.place → IsRead now_on u z
        by_place (stands.idle i) = absurd (idle_not u.place i reading_on)
        by_place (stands.same is) =
            read_kept limits t now flaw s ev goes a k u z is (λ y at. a.apart.headed c y k row at on)
            (joined.read c k z row was (sym (ap reads is) ∙ reading_on))

    was_shown : (k : Consumer) (z : Shown) (b : Bool) → k.shown ≡ b → t.consumer c ≡ Some k → shown c ≡ z ∷ [] → k.shown ≡ true
    was_shown k z true on row was = on
    was_shown k z false off row was = absurd (nil_cons z [] (sym (reported.unshown c k row off) ∙ was))

    read_by : (k u : Consumer) (z : Shown) → t.consumer c ≡ Some k → now_on.consumer c ≡ Some u → (shown c ++ shown_in c e.acts) ≡ z ∷ [] →
        reads u.place ≡ true → ToOne t now c ev e.acts → IsRead now_on u z
    read_by k u z row after is on (acts_to.quiet none quiet off) = let was = quiet_shown z quiet is in
        shown_on k u z row after was (was_shown k z k.shown refl row was) on
    read_by k u z row after is on (acts_to.gives want q run at there move none quiet off) = let was = quiet_shown z quiet is in
        shown_on k u z row after was (was_shown k z k.shown refl row was) on
    read_by k u z row after is on (acts_to.shows want q r why head lo hi at there move none some showing) =
        let parts = front_none (shown c) (record { r = r; why = why; lo = lo; hi = hi }) z (sym (ap (λ xs. shown c ++ xs) some) ∙ is) in
        by_shown parts.0 parts.1
      where
        by_shown : shown c ≡ [] → record { r = r; why = why; lo = lo; hi = hi } ≡ z → IsRead now_on u z
        by_shown before same = elim (bool_cases k.shown) [
          | inl already ↦
              absurd (nil_cons _ [] (sym ((Rattle.hc_effects.proofs.ShownOnce.by_event limits t now c flaw ev).again k row already) ∙ some))
          | inr off ↦
              let l = landing_by step c k u row after (Rattle.hc_effects.proofs.Said.shows_it e.acts (record { c = c; r = r; lo = lo; hi = hi }) showing)
              (acts_to.shows want q r why head lo hi at there move none some showing) in
              subst (IsRead now_on u) (one_inj _ _ (sym l.reported ∙ some) ∙ same) (landed_read step a c k u row off on l)
        ]

    read_row : (q : Option Consumer) (u : Consumer) (z : Shown) → t.consumer c ≡ q → now_on.consumer c ≡ Some u → (shown c ++ shown_in c e.acts) ≡ z ∷
        [] → reads u.place ≡ true → ToOne t now c ev e.acts → IsRead now_on u z
    read_row (Some k) u z row after is on one = read_by k u z row after is on one
    read_row None u z row after is on (acts_to.quiet none quiet off) = absurd (nil_cons z [] (sym (reported.absent c row) ∙ quiet_shown z quiet is))
    read_row None u z row after is on (acts_to.gives want q run at there move none quiet off) = absurd (none_some q (sym row ∙ there))
    read_row None u z row after is on (acts_to.shows want q r why head lo hi at there move none some showing) = absurd (none_some q (sym row ∙ there))

    -- GIVING

    read_reads : (p : Place) (r : ℕ) → read_of p ≡ Some r → reads p ≡ true
    read_reads (place.Bound q lo hi how) r is = refl
    read_reads (place.Direct y) r is = refl
    read_reads _ r is = absurd (none_some r is)

    -- what it is given is next in the body that it was shown
    pub record IsNextOf (z : Shown) (run : Run) : Type 0 where
      pub at_is : run.at ≡ z.lo + length (given c)
      pub some : 0 < length run.bytes
      pub delivered : Delivers t z.r run.at run.x run.bytes
      pub within : IfSome z.hi (λ hi. run.at + length run.bytes ≤ hi)

    until : (o q : Option ℕ) (n : ℕ) → ((m : ℕ) → o ≡ Some m → q ≡ Some m) → IfSome q (λ hi. n ≤ hi) → IfSome o (λ hi. n ≤ hi)
    until None q n to all = tt
    until (Some m) q n to all = at_some q (to m refl) all
      where
        at_some : (p : Option ℕ) → p ≡ Some m → IfSome p (λ hi. n ≤ hi) → n ≤ m
        at_some None is le = absurd (none_some m is)
        at_some (Some hi) is le = let one : hi ≡ m = some_inj hi m is in omega arith

    pub next_of : (want : ℕ) (k : Consumer) (run : Run) (z : Shown) → ev ≡ event.Poll c want → t.consumer c ≡ Some k →
        move_of t now want c k ≡ Gives run → shown c ≡ z ∷ [] → IsNextOf z run
    next_of want k run z at row move was =
        let on = was_shown k z k.shown refl row was in
        let g = given_next t want c k run s (some_want t c want ev goes at) (λ x stood. a.apart.unfounded c x k row stood)
        (gives_of t now c want k run (move_of t now want c k) (move_by t now want c k s row) move on) in
        let read = joined.read c k z row was (read_reads k.place g.0 g.1.number) in
        let count : k.given ≡ length (given c) = reported.count c k row in
        record {
          at_is = omega arith;
          some = g.1.some;
          delivered = subst (λ r. Delivers t r run.at run.x run.bytes) (some_inj g.0 z.r (sym g.1.number ∙ read.number)) g.1.delivered;
          within = until z.hi (hi_of t k.place) (run.at + length run.bytes) read.to g.1.within;
        }

    grown : Grows t now_on
    grown = grows limits t now flaw s ev goes

    held_by : (z : Shown) → (shown c ++ shown_in c e.acts) ≡ z ∷ [] → ToOne t now c ev e.acts → Holds now_on z.r z.lo (given c ++ given_in c e.acts)
    held_by z is (acts_to.quiet none quiet off) =
        let all : (given c ++ given_in c e.acts) ≡ given c = ap (λ xs. given c ++ xs) none ∙ append_none (given c) in
        subst (Holds now_on z.r z.lo) (sym all) (holds_grow t now_on z.r z.lo (given c) grown (joined.held c z (quiet_shown z quiet is)))
    held_by z is (acts_to.shows want q r why head lo hi at there move none some showing) =
        let parts = front_none (shown c) (record { r = r; why = why; lo = lo; hi = hi }) z (sym (ap (λ xs. shown c ++ xs) some) ∙ is) in
        subst (Holds now_on z.r z.lo) (sym (ap (λ xs. given c ++ xs) none ∙ (append_none (given c) ∙ reported.ungiven c parts.0)))
        (λ i lt. absurd (let no : i < 0 = lt in omega arith))
    held_by z is (acts_to.gives want k run at there move bytes quiet off) =
        let was = quiet_shown z quiet is in
        let next = next_of want k run z at there move was in
        let more : Holds now_on z.r run.at run.bytes = holds_of now_on z.r run.at run.x run.bytes (grown z.r run.at run.x run.bytes next.delivered) in
        let before = holds_grow t now_on z.r z.lo (given c) grown (joined.held c z was) in
        subst (λ xs. Holds now_on z.r z.lo (given c ++ xs)) (sym bytes)
        (holds_more now_on z.r z.lo (given c) run.bytes before (subst (λ p. Holds now_on z.r p run.bytes) next.at_is more))

  joined_on : IsJoined now_on (λ c. shown c ++ shown_in c e.acts) (λ c. given c ++ given_in c e.acts)
  joined_on = record {
    read = λ c u z after is on. read_row c (t.consumer c) u z refl after is on (to_one t now c limits flaw ev);
    held = λ c z is. held_by c z is (to_one t now c limits flaw ev);
  }

abbrev pub Joined : Contents → History → Type 0
Joined contents h = IsJoined (tables contents h) (λ c. shown_of c h) (λ c. given_of c h)

module _ (limits : Limits) (contents : Contents) (h : History) (run : IsRun limits contents h) where
  abbrev pub t_run : Tables
  t_run = tables contents h

  shown_is : (c : ℕ) (q : Option Consumer) → t_run.consumer c ≡ q → option_map_or (λ (k : Consumer). not k.shown) q true ≡ true → shown_of c h ≡ []
  shown_is c q row off =
      let all = (consumers_are_filtered limits contents h run).shown c in
      no_first (shown_of c h) (sym all ∙ (ap (λ (z : Option Consumer). option_map_or (λ (k : Consumer). not k.shown) z true) row ∙ off))

  pub is_reported : IsReceived t_run (λ c. shown_of c h) (λ c. given_of c h)
  is_reported = record {
    absent = λ c row. shown_is c None row refl;
    unshown = λ c k row off. shown_is c (Some k) row (ap not off);
    ungiven = λ c none. (one_head_is_shown limits contents h run c).1 none;
    count = λ c k row. sym (ap (λ (z : Option Consumer). option_map_or (λ (q : Consumer). q.given) z 0) row) ∙
        (consumers_are_filtered limits contents h run).offsets c;
  }

denied_joined : (contents : Contents) (h : History) (e : Entry) → is_denied e.acts ≡ true → Joined contents h →
    IsJoined (after_denied (tables contents h) e) (λ c. shown_of c (e ∷ h)) (λ c. given_of c (e ∷ h))
denied_joined contents h e denied j = record {
  read = λ c k z row was on. let r = j.read c k z row (old_shown c z was) on in record { number = r.number; from = r.from; to = r.to; open_end = r.open_end };
  held = λ c z was. subst (Holds (tables contents h) z.r z.lo)
      (sym (ap (λ xs. given_of c h ++ xs) (denied_gives c e.acts denied) ∙ append_none (given_of c h))) (j.held c z (old_shown c z was));
}
  where
    old_shown : (c : ℕ) (z : Shown) → shown_of c (e ∷ h) ≡ z ∷ [] → shown_of c h ≡ z ∷ []
    old_shown c z was = sym (ap (λ xs. shown_of c h ++ xs) (denied_shows c e.acts denied) ∙ append_none (shown_of c h)) ∙ was

pub joined_in_runs : (limits : Limits) (contents : Contents) (h : History) → may_begin limits contents ≡ true → IsRun limits contents h → Joined contents h
joined_in_runs limits contents h may run =
    along limits contents (λ t h. IsJoined t (λ c. shown_of c h) (λ c. given_of c h)) may
    (record { read = λ c k z row was on. absurd (nil_cons z [] was); held = λ c z was. absurd (nil_cons z [] was) })
    (λ h e run later denied j. denied_joined contents h e denied j)
    (λ h now flaw ev run s j. joined_on (step_of limits (tables contents h) now flaw s.before.is_sound s.before.is_owned ev s.going)
    (fallback limits contents h may run) (λ c. shown_of c h) (λ c. given_of c h) (is_reported limits contents h run) j)
    h run

-- What a consumer was given, joined, is of the body that it was shown.
pub bodies_are_read : BodiesAreRead
bodies_are_read limits contents h may run c =
    let one = one_head_is_shown limits contents h run c in
    record { one = one.0; unshown = one.1; joined = λ z was. (joined_in_runs limits contents h may run).held c z was }
