-- A consumer is shown one head at most, and given nothing before that.
--
-- A step of a reader shows nothing (`step_shows`), and a plan gives nothing (`plan_gives`). So by where its consumer
-- stands who was shown a head is shown no other (`shown_shows`), and who was shown none is given nothing
-- (`unshown_gives`). The acts tell what the move is, to its consumer, and others are told nothing (`well_move`).
-- `by_event` joins these for any event; the law of one head is its induction.
use Rattle.std.{proofs.{lemmas.Bool.Decides.{nat_tests}, Common.{◌≡◌, inl, inr, ℕ, ◌≤◌, List, [], ◌++◌, length, Bool, true, false, Option, Some, None, refl, ap, sym, ◌∙◌, subst, arith}}, specs.{Prelude.{map, not, is_none}, Option.{option_and_then}}}
use Rattle.hc_text.proofs.Basics.{cond_true, same_some as same_row}
use Rattle.hc_range.specs.declared.range.Span.{Span}
use Rattle.hc_effects.proofs.Vocabulary.{given_in, Event, Act, Plan, ReadStep, read_step, Place, Move, Shows, Gives, acts_of, gives, plan_move, poll_move, move_of, by_place, shows_head, shows_at, waits_for_head, or_else, Tables, Consumer, step_move, later_hole, read_view, Limits, accepted_acts, poll_acts, loss_acts, closing, Flaw, Misreads, Shown, first, shown_in, own_open, if_headless, act, place}
use Rattle.hc_event.specs.declared.event.Event.TheVariants as event
use Rattle.hc_effects.proofs.{Named.{IsFar, far_reported, far_poll, far_closes, far_lost}, PieceKeeps.{eq_cases}, ReadFilters.{shows_are}, MoveWords.{at_as, hole_as, move_as, step_as, waits_as}}

-- A MOVE THAT SHOWS, AND ONE THAT GIVES

abbrev pub is_showing : Move → Bool
is_showing (Shows r why head lo hi) = true
is_showing _ = false

abbrev pub is_giving : Move → Bool
is_giving (Gives run) = true
is_giving _ = false

abbrev GivesNone : Move → Type 0
GivesNone m = is_giving m ≡ false

abbrev ShowsNone : Move → Type 0
ShowsNone m = is_showing m ≡ false

later_shows : (t : Tables) (k : Consumer) (hole : Span) (hi : Option ℕ) → ShowsNone (later_hole t k hole hi)
later_shows t k hole None = refl
later_shows t k hole (Some hi) = hole_as ShowsNone refl t k.request hole _ (λ v row. refl)

-- a step shows nothing
step_shows : (t : Tables) (want c : ℕ) (k : Consumer) (s : ReadStep) → ShowsNone (step_move t want c k s)
step_shows t want c k s =
    step_as ShowsNone refl t want c k refl (λ run. refl) s (λ cause. refl) (λ x. waits_as ShowsNone refl x refl refl (t.exchange x))
    (λ hole at. later_shows t k hole _)

-- a plan gives nothing
plan_gives : (t : Tables) (k : Consumer) (p : Plan) → GivesNone (plan_move t k p)
plan_gives t k p = grind (arith, nat_tests)

-- A POLL

-- whoever was shown a head is shown no other
or_shows : (o : Option ℕ) (m : Move) → is_showing m ≡ false → is_showing (or_else (waits_for_head o) m) ≡ false
or_shows o m none = grind (arith, nat_tests)

place_shows : (t : Tables) (now want c : ℕ) (k : Consumer) (p : Place) → k.shown ≡ true → is_showing (by_place t now want c k p) ≡ false
place_shows t now want c k (place.Down cause) shown = refl
place_shows t now want c k place.Over shown = refl
place_shows t now want c k _ shown = rw shown (step_shows t want c k (read_step (read_view t want c k)))

pub shown_shows : (t : Tables) (now want c : ℕ) (k : Consumer) → k.shown ≡ true → is_showing (move_of t now want c k) ≡ false
shown_shows t now want c k shown =
    let rest = or_shows (option_and_then (if_headless t) (own_open t k)) (by_place t now want c k k.place) (place_shows t now want c k k.place shown) in
    let none : shows_head t k ≡ None = cond_true k.shown None (shows_at t k k.place) shown in
    ap (λ (o : Option Move). is_showing
    (or_else o (or_else (waits_for_head (option_and_then (if_headless t) (own_open t k))) (by_place t now want c k k.place)))) none ∙ rest

-- whoever was shown none is given nothing
place_gives : (t : Tables) (now want c : ℕ) (k : Consumer) (p : Place) → k.shown ≡ false → is_giving (by_place t now want c k p) ≡ false
place_gives t now want c k (place.Down cause) shown = refl
place_gives t now want c k place.Over shown = refl
place_gives t now want c k _ shown = rw shown (plan_gives t k _)

pub unshown_gives : (t : Tables) (now want c : ℕ) (k : Consumer) → k.shown ≡ false → is_giving (move_of t now want c k) ≡ false
unshown_gives t now want c k shown =
    move_as GivesNone refl t now want c k
    (λ m off is. at_as GivesNone refl t k k.place m is (λ r why head lo hi there. refl))
    (λ x. refl) (λ none bare. place_gives t now want c k k.place shown)

-- THE ACTS OF A MOVE

acts_show : (c d : ℕ) (m : Move) (rest : List Act) → shown_in c rest ≡ [] → length (shown_in c (acts_of d m ++ rest)) ≤ 1
acts_show c d m rest none = grind (arith, nat_tests)

acts_unshown : (c d : ℕ) (m : Move) (rest : List Act) → is_showing m ≡ false → shown_in c rest ≡ [] → shown_in c (acts_of d m ++ rest) ≡ []
acts_unshown c d m rest quiet none = grind (arith, nat_tests)

acts_ungiven : (c d : ℕ) (m : Move) (rest : List Act) → is_giving m ≡ false → given_in c rest ≡ [] → given_in c (acts_of d m ++ rest) ≡ []
acts_ungiven c d m rest quiet none = grind (arith, nat_tests)

-- what an entry shows and gives to a consumer
pub record IsShownWell (t : Tables) (c : ℕ) (acts : List Act) : Type 0 where
  pub one : length (shown_in c acts) ≤ 1
  pub again : (k : Consumer) → t.consumer c ≡ Some k → k.shown ≡ true → shown_in c acts ≡ []
  pub before : (k : Consumer) → t.consumer c ≡ Some k → k.shown ≡ false → given_in c acts ≡ []

well_move : (t : Tables) (now want c : ℕ) (o : Option Consumer) (rest : List Act) → t.consumer c ≡ o → shown_in c rest ≡ [] → given_in c rest ≡ [] →
    IsShownWell t c (acts_of c (poll_move t now want c o) ++ rest)
well_move t now want c None rest row shows gives = record { one = rw shows (omega arith); again = λ k is shown. shows; before = λ k is shown. gives }
well_move t now want c (Some u) rest row shows gives = record {
  one = acts_show c c (move_of t now want c u) rest shows;
  again = λ k is shown. acts_unshown c c (move_of t now want c u) rest
      (shown_shows t now want c u (ap (λ (z : Consumer). z.shown) (same_row (t.consumer c) u k row is) ∙ shown)) shows;
  before = λ k is shown. acts_ungiven c c (move_of t now want c u) rest
      (unshown_gives t now want c u (ap (λ (z : Consumer). z.shown) (same_row (t.consumer c) u k row is) ∙ shown)) gives;
}

well_poll : (t : Tables) (now want c : ℕ) (flaw : Flaw) (rest : List Act) → shown_in c rest ≡ [] → given_in c rest ≡ [] →
    IsShownWell t c (poll_acts t now want c flaw ++ rest)
well_poll t now want c (Misreads r) rest shows gives = record { one = rw shows (omega arith); again = λ k is shown. shows; before = λ k is shown. gives }
well_poll t now want c _ rest shows gives = well_move t now want c (t.consumer c) rest refl shows gives

pub no_first : (xs : List Shown) → is_none (first xs) ≡ true → xs ≡ []
no_first xs h = grind (arith, nat_tests)

pub unshown_of : (c : ℕ) (acts : List Act) → IsFar c acts → shown_in c acts ≡ []
unshown_of c acts f = no_first (shown_in c acts) (shows_are c acts ∙ ap not f.shows)

well_far : (t : Tables) (c : ℕ) (acts : List Act) → IsFar c acts → IsShownWell t c acts
well_far t c acts f = record { one = rw (unshown_of c acts f) (omega arith); again = λ k is shown. unshown_of c acts f; before = λ k is shown. f.gives }

module _ (limits : Limits) (t : Tables) (now c : ℕ) (flaw : Flaw) where
  pub by_event : (event : Event) → IsShownWell t c (accepted_acts limits t now event flaw)
  by_event (event.Poll d want) = elim (eq_cases d c) [
    | inr other ↦ well_far t c _
        (far_poll t now want c d flaw _ other.0
        (far_closes c (closing t (record { now = now; event = event.Poll d want; acts = poll_acts t now want d flaw ++ loss_acts flaw })) (loss_acts flaw)
        (far_lost c flaw)))
    | inl here ↦
        let rest = map act.Close (closing t (record { now = now; event = event.Poll d want; acts = poll_acts t now want d flaw ++ loss_acts flaw })) ++
        loss_acts flaw in
        let f = far_closes c (closing t (record { now = now; event = event.Poll d want; acts = poll_acts t now want d flaw ++ loss_acts flaw }))
        (loss_acts flaw) (far_lost c flaw) in
        subst (λ n. IsShownWell t c (poll_acts t now want n flaw ++ rest)) (sym here.1) (well_poll t now want c flaw rest (unshown_of c rest f) f.gives)
  ]
  by_event (event.Cancel d) =
      well_far t c _ (far_closes c (closing t (record { now = now; event = event.Cancel d; acts = loss_acts flaw })) (loss_acts flaw) (far_lost c flaw))
  by_event ev = well_far t c _ (far_reported limits t now c flaw ev)
