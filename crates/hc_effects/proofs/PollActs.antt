-- What an entry shows and gives to one consumer: nothing, but for the move of its own poll.
use Rattle.std.{proofs.{Common.{◌≡◌, inl, inr, ℕ, List, [], ◌∷◌, ◌++◌, true, false, Option, Some, None, refl, ap, sym, subst, arith}, lemmas.Bool.Decides.{nat_tests}}, specs.Prelude.{map, nat_eq}}
use Rattle.hc_sparse.specs.declared.run.Run.{Run}
use Rattle.hc_effects.proofs.Vocabulary.{given_in, shows_in, Event, Response, Act, Why, Limits, showing_in, accepted_acts, poll_acts, loss_acts, closing, Flaw, Misreads, shown_in, Move, Shows, Gives, acts_of, poll_move, move_of, Tables, Consumer, act}
use Rattle.hc_event.specs.declared.event.Event.TheVariants as event
use Rattle.hc_effects.proofs.{Basics.{append_none}, Named.{IsFar, far_reported, far_poll, far_closes, far_lost}, PieceKeeps.{eq_cases}, ShownOnce.{unshown_of}}

module _ (t : Tables) (now c : ℕ) where
  pub data ToOne (ev : Event) (acts : List Act) : Type 0 where
    quiet : given_in c acts ≡ [] → shown_in c acts ≡ [] → shows_in c acts ≡ false → ToOne ev acts
    shows : (want : ℕ) (k : Consumer) (r : ℕ) (why : Why) (head : Response) (lo : ℕ) (hi : Option ℕ) → ev ≡ event.Poll c want → t.consumer c ≡ Some k →
        move_of t now want c k ≡ Shows r why head lo hi → given_in c acts ≡ [] → shown_in c acts ≡ record { r = r; why = why; lo = lo; hi = hi } ∷ [] →
        showing_in acts ≡ Some (record { c = c; r = r; lo = lo; hi = hi }) → ToOne ev acts
    gives : (want : ℕ) (k : Consumer) (run : Run) → ev ≡ event.Poll c want → t.consumer c ≡ Some k → move_of t now want c k ≡ Gives run → given_in
        c acts ≡ run.bytes → shown_in c acts ≡ [] → shows_in c acts ≡ false → ToOne ev acts

  module _ (ev : Event) (rest : List Act) (f : IsFar c rest) where
    none_shown : shown_in c rest ≡ []
    none_shown = unshown_of c rest f

    same : nat_eq c c ≡ true
    same = grind (arith, nat_tests)

    by_move : (want : ℕ) (k : Consumer) (m : Move) → ev ≡ event.Poll c want → t.consumer c ≡ Some k → move_of t now want c k ≡ m →
        ToOne ev (acts_of c m ++ rest)
    by_move want k (Shows r why head lo hi) at row is =
        let shown : shown_in c (acts_of c (Shows r why head lo hi) ++ rest) ≡ record { r = r; why = why; lo = lo; hi = hi } ∷ [] = rw (same, none_shown) refl in
        shows want k r why head lo hi at row is f.gives shown refl
    by_move want k (Gives run) at row is =
        let given : given_in c (acts_of c (Gives run) ++ rest) ≡ run.bytes = rw (same, f.gives) (append_none run.bytes) in
        gives want k run at row is given none_shown f.shows
    by_move want k _ at row is = quiet f.gives none_shown f.shows

    by_row : (want : ℕ) (q : Option Consumer) → ev ≡ event.Poll c want → t.consumer c ≡ q → ToOne ev (acts_of c (poll_move t now want c q) ++ rest)
    by_row want None at row = quiet f.gives none_shown f.shows
    by_row want (Some k) at row = by_move want k (move_of t now want c k) at row refl

    by_flaw : (want : ℕ) (flaw : Flaw) → ev ≡ event.Poll c want → ToOne ev (poll_acts t now want c flaw ++ rest)
    by_flaw want (Misreads r) at = quiet f.gives none_shown f.shows
    by_flaw want _ at = by_row want (t.consumer c) at refl

  far_one : (ev : Event) (acts : List Act) → IsFar c acts → ToOne ev acts
  far_one ev acts f = quiet f.gives (unshown_of c acts f) f.shows

  module _ (limits : Limits) (flaw : Flaw) where
    -- what an accepted event shows and gives to one consumer
    pub to_one : (ev : Event) → ToOne ev (accepted_acts limits t now ev flaw)
    to_one (event.Poll d want) = elim (eq_cases d c) [
      | inr other ↦ far_one (event.Poll d want) _
          (far_poll t now want c d flaw _ other.0
          (far_closes c (closing t (record { now = now; event = event.Poll d want; acts = poll_acts t now want d flaw ++ loss_acts flaw })) (loss_acts flaw)
          (far_lost c flaw)))
      | inl here ↦
          let rest = map act.Close (closing t (record { now = now; event = event.Poll d want; acts = poll_acts t now want d flaw ++ loss_acts flaw })) ++
          loss_acts flaw in
          let f = far_closes c (closing t (record { now = now; event = event.Poll d want; acts = poll_acts t now want d flaw ++ loss_acts flaw }))
          (loss_acts flaw) (far_lost c flaw) in
          subst (λ n. ToOne (event.Poll d want) (poll_acts t now want n flaw ++ rest)) (sym here.1)
          (by_flaw (event.Poll d want) rest f want flaw (ap (λ n. event.Poll n want) here.1))
    ]
    to_one (event.Cancel d) =
        far_one (event.Cancel d) _
        (far_closes c (closing t (record { now = now; event = event.Cancel d; acts = loss_acts flaw })) (loss_acts flaw) (far_lost c flaw))
    to_one ev = far_one ev _ (far_reported limits t now c flaw ev)
