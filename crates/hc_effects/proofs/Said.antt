-- Whatever the acts of an accepted event say of a consumer, its poll says, by its move.
--
-- The acts of a poll are those of its move, and all others say nothing to a consumer (`is_said`). So what is opened,
-- shown, waited for or left is told by a move, and to the consumer of that (`showing_said`, `wait_said`). `opening_by`,
-- `showing_by`, `waiting_by` and `leaving_by` give the poll and its move for each. Most files that follow a consumer
-- through an entry use them.
use Rattle.std.{proofs.{lemmas.Bool.Decides.{nat_tests}, Common.{arith, ◌≡◌, inl, inr, ℕ, List, [], ◌∷◌, ◌++◌, true, Option, Some, None, refl, ap, sym, ◌∙◌, subst}}, specs.Prelude.{map, ◌||◌, nat_eq}}
use Rattle.hc_text.proofs.Basics.{not_some as none_some, some_inj}
use Rattle.hc_effects.proofs.Vocabulary.{Opening, opening_in, leaves_in, shows_in, Event, Request, Response, Act, Cause, Need, Wait, Why, Limits, Showing, showing_in, wait_in, accepted_acts, poll_acts, loss_acts, closing, denial, is_live, Flaw, Loses, Misreads, Move, Asks, Opens, Shows, Ends, Fails, acts_of, move_of, Tables, Consumer, Sound, evicted, act}
use Rattle.hc_event.specs.declared.event.Event.TheVariants as event
use Rattle.hc_event.specs.declared.act.Cause.TheVariants as cause
use Rattle.hc_event.specs.declared.act.Wait.TheVariants as wait
use Rattle.hc_rules.specs.Refusals as refusals
use Rattle.hc_model.specs.Moves as moves
use Rattle.hc_effects.proofs.{Basics.{false_true}, EventsKeep.{poll_live}, PieceKeeps.{eq_cases}, PieceServes.{IsQuietActs, quiet_acts}}

-- ACTS THAT SAY NOTHING TO A CONSUMER

nothing_said : IsQuietActs []
nothing_said = record { opens = refl; waits = λ c. refl; shows = λ c. refl; showing = refl; gives = λ c. refl; leaves = λ c. refl }

lost_quiet : (flaw : Flaw) → IsQuietActs (loss_acts flaw)
lost_quiet (Loses r kind) = record { opens = refl; waits = λ c. refl; shows = λ c. refl; showing = refl; gives = λ c. refl; leaves = λ c. refl }
lost_quiet _ = nothing_said

closes_quiet : (xs : List ℕ) (rest : List Act) → IsQuietActs rest → IsQuietActs (map act.Close xs ++ rest)
closes_quiet [] rest q = q
closes_quiet (x ∷ xs) rest q = let p = closes_quiet xs rest q in
    record { opens = p.opens; waits = p.waits; shows = p.shows; showing = p.showing; gives = p.gives; leaves = p.leaves }

-- THE ACTS OF A MOVE

-- what is waited for, where that is more than the next bytes
pub data WaitsAs (z : Wait) : Move → Type 0 where
  waits : WaitsAs z (moves.Waits z)
  asks : (x : ℕ) → z ≡ wait.Body x → WaitsAs z (Asks x)
  opens : (x : ℕ) (n : Need) (request : Request) → z ≡ wait.Head x → WaitsAs z (Opens x n request)

-- a move after which its consumer is over
pub data IsLeaving : Move → Type 0 where
  ends : IsLeaving Ends
  fails : (why : Cause) → IsLeaving (Fails why)

pub data IsOpening (o : Opening) : Move → Type 0 where
  opens : IsOpening o (Opens o.x o.need o.request)

pub data IsShowing (s : Showing) : Move → Type 0 where
  shows : (why : Why) (head : Response) → IsShowing s (Shows s.r why head s.lo s.hi)

module _ (c : ℕ) (rest : List Act) (q : IsQuietActs rest) where
  opening_said : (m : Move) (o : Opening) → opening_in (acts_of c m ++ rest) ≡ Some o → (o.c ≡ c) × IsOpening o m
  opening_said (Opens x n request) o is = by_same (record { x = x; c = c; need = n; request = request }) o (some_inj _ o is) refl
    where
      by_same : (p o : Opening) → p ≡ o → p ≡ record { x = x; c = c; need = n; request = request } → (o.c ≡ c) × IsOpening o (Opens x n request)
      by_same p o same is =
          let one : o ≡ record { x = x; c = c; need = n; request = request } = sym same ∙ is in
          (ap (λ (z : Opening). z.c) one, rw one opens)
  opening_said _ o is = absurd (none_some o (rw q.opens at is))

  showing_said : (m : Move) (s : Showing) → showing_in (acts_of c m ++ rest) ≡ Some s → (s.c ≡ c) × IsShowing s m
  showing_said (Shows r why head lo hi) s is =
      let one : s ≡ record { c = c; r = r; lo = lo; hi = hi } = sym (some_inj _ s is) in
      (ap (λ (z : Showing). z.c) one, rw one (shows why head))
  showing_said _ s is = absurd (none_some s (rw q.showing at is))

  wait_pending : (d : ℕ) (w z : Wait) (m : Move) → ((w ≡ z) → WaitsAs z m) → wait_in d (act.Pending c w ∷ rest) ≡ Some z → (c ≡ d) × WaitsAs z m
  wait_pending d w z m then is = grind (arith, nat_tests)

  wait_said : (d : ℕ) (m : Move) (z : Wait) → wait_in d (acts_of c m ++ rest) ≡ Some z → (c ≡ d) × WaitsAs z m
  wait_said d (moves.Waits w) z is = wait_pending d w z (moves.Waits w) (λ same. rw same waits) is
  wait_said d (Asks x) z is = wait_pending d (wait.Body x) z (Asks x) (λ same. asks x (sym same)) is
  wait_said d (Opens x n request) z is = wait_pending d (wait.Head x) z (Opens x n request) (λ same. opens x n request (sym same)) is
  wait_said d _ z is = absurd (none_some z (rw (q.waits d) at is))

  leaves_named : (d : ℕ) → (nat_eq c d || leaves_in d rest) ≡ true → c ≡ d
  leaves_named d is = grind (arith, nat_tests)

  leaves_said : (d : ℕ) (m : Move) → leaves_in d (acts_of c m ++ rest) ≡ true → (c ≡ d) × IsLeaving m
  leaves_said d Ends is = (leaves_named d is, ends)
  leaves_said d (Fails why) is = (leaves_named d is, fails why)
  leaves_said d _ is = absurd (false_true (rw (q.leaves d) at is))

-- who is shown a head is shown one
pub shows_it : (acts : List Act) (s : Showing) → showing_in acts ≡ Some s → shows_in s.c acts ≡ true
shows_it [] s is = absurd (none_some s is)
shows_it (act.Shown c r why status fields lo hi ∷ acts) s is = elim (eq_cases c s.c) [
  | inl here ↦ rw here.0 refl
  | inr other ↦ absurd (other.1 (ap (λ (z : Showing). z.c) (some_inj _ s is)))
]
shows_it (act.Opened x c need request ∷ acts) s is = shows_it acts s is
shows_it (act.Ask x ∷ acts) s is = shows_it acts s is
shows_it (act.Close x ∷ acts) s is = shows_it acts s is
shows_it (act.Given c x at bytes ∷ acts) s is = shows_it acts s is
shows_it (act.Ended c ∷ acts) s is = shows_it acts s is
shows_it (act.Failed c cause ∷ acts) s is = shows_it acts s is
shows_it (act.Pending c wait ∷ acts) s is = shows_it acts s is
shows_it (act.Lost r kind ∷ acts) s is = shows_it acts s is
shows_it (act.Evicted r ∷ acts) s is = shows_it acts s is
shows_it (act.Denied refusal ∷ acts) s is = shows_it acts s is

-- THE POLL

-- the event is a poll of c, whose row is this
pub record IsPoll (t : Tables) (ev : Event) (c want : ℕ) (k : Consumer) : Type 0 where
  pub at : ev ≡ event.Poll c want
  pub row : t.consumer c ≡ Some k

pub record OpensBy (t : Tables) (now : ℕ) (ev : Event) (o : Opening) : Type 0 where
  pub want : ℕ
  pub k : Consumer
  pub poll : IsPoll t ev o.c want k
  pub move : IsOpening o (move_of t now want o.c k)

pub record ShowsBy (t : Tables) (now : ℕ) (ev : Event) (s : Showing) : Type 0 where
  pub want : ℕ
  pub k : Consumer
  pub poll : IsPoll t ev s.c want k
  pub move : IsShowing s (move_of t now want s.c k)

pub record WaitsBy (t : Tables) (now : ℕ) (ev : Event) (c : ℕ) (z : Wait) : Type 0 where
  pub want : ℕ
  pub k : Consumer
  pub poll : IsPoll t ev c want k
  pub move : WaitsAs z (move_of t now want c k)

pub record LeavesBy (t : Tables) (ev : Event) (c : ℕ) : Type 0 where
  pub want : ℕ
  pub k : Consumer
  pub poll : IsPoll t ev c want k

module _ (limits : Limits) (t : Tables) (now : ℕ) (flaw : Flaw) (s : Sound t) where
  -- of an event that isn't a poll nothing is said to any consumer
  reported_quiet : (ev : Event) →
      IsQuietActs (map act.Evicted (evicted limits t now ev) ++
      (loss_acts flaw ++ map act.Close (closing t (record { now = now; event = ev; acts = loss_acts flaw }))))
  reported_quiet ev = quiet_acts (evicted limits t now ev) (closing t (record { now = now; event = ev; acts = loss_acts flaw })) flaw

  pub data IsSaid (ev : Event) (acts : List Act) : Type 0 where
    quiet : IsQuietActs acts → IsSaid ev acts
    polled : (c want : ℕ) (k : Consumer) (rest : List Act) → IsPoll t ev c want k → IsQuietActs rest → acts ≡ acts_of c (move_of t now want c k) ++ rest →
        IsSaid ev acts
    misread : (c want r : ℕ) (k : Consumer) (rest : List Act) → IsPoll t ev c want k → IsQuietActs rest → acts ≡ acts_of c (Fails (cause.StoreRead r)) ++
        rest → IsSaid ev acts

  poll_rest : (c want : ℕ) →
      IsQuietActs (map act.Close (closing t (record { now = now; event = event.Poll c want; acts = poll_acts t now want c flaw ++ loss_acts flaw })) ++
      loss_acts flaw)
  poll_rest c want = closes_quiet (closing t (record { now = now; event = event.Poll c want; acts = poll_acts t now want c flaw ++ loss_acts flaw }))
      (loss_acts flaw) (lost_quiet flaw)

  by_flaw : (c want : ℕ) (k : Consumer) (rest : List Act) (f : Flaw) → t.consumer c ≡ Some k → IsQuietActs rest →
      IsSaid (event.Poll c want) (poll_acts t now want c f ++ rest)
  by_flaw c want k rest (Misreads r) row q = misread c want r k rest (record { at = refl; row = row }) q refl
  by_flaw c want k rest _ row q = polled c want k rest (record { at = refl; row = row }) q (rw row refl)

  by_row : (c want : ℕ) (o : Option Consumer) → t.consumer c ≡ o → is_live o ≡ true →
      IsSaid (event.Poll c want) (accepted_acts limits t now (event.Poll c want) flaw)
  by_row c want None row live = absurd (false_true live)
  by_row c want (Some k) row live = by_flaw c want k _ flaw row (poll_rest c want)

  -- what the acts of an accepted event say
  pub is_said : (ev : Event) → denial t ev ≡ None → IsSaid ev (accepted_acts limits t now ev flaw)
  unfolding refusals.refusal_of
  is_said (event.Poll c want) goes = by_row c want (t.consumer c) refl (poll_live limits t now flaw s c want goes)
  is_said (event.Cancel c) goes =
      quiet (closes_quiet (closing t (record { now = now; event = event.Cancel c; acts = loss_acts flaw })) (loss_acts flaw) (lost_quiet flaw))
  is_said ev goes = quiet (reported_quiet ev)

  opens_by : (ev : Event) (acts : List Act) (o : Opening) → IsSaid ev acts → opening_in acts ≡ Some o → OpensBy t now ev o
  opens_by ev acts o (quiet q) is = absurd (none_some o (rw q.opens at is))
  opens_by ev acts o (polled c want k rest poll q same) is =
      let all = opening_said c rest q (move_of t now want c k) o (rw same at is) in
      by_same c want k poll all.0 all.1
    where
      by_same : (c want : ℕ) (k : Consumer) → IsPoll t ev c want k → o.c ≡ c → IsOpening o (move_of t now want c k) → OpensBy t now ev o
      by_same c want k poll here move =
          record {
            want = want;
            k = k;
            poll = subst (λ d. IsPoll t ev d want k) (sym here) poll;
            move =
                subst (λ d. IsOpening o (move_of t now want d k)) (sym here) move;
          }
  opens_by ev acts o (misread c want r k rest poll q same) is = elim ((opening_said c rest q (Fails (cause.StoreRead r)) o (rw same at is)).1) [ ]

  shows_by : (ev : Event) (acts : List Act) (z : Showing) → IsSaid ev acts → showing_in acts ≡ Some z → ShowsBy t now ev z
  shows_by ev acts z (quiet q) is = absurd (none_some z (rw q.showing at is))
  shows_by ev acts z (polled c want k rest poll q same) is =
      let all = showing_said c rest q (move_of t now want c k) z (rw same at is) in
      record {
        want = want;
        k = k;
        poll = subst (λ d. IsPoll t ev d want k) (sym all.0) poll;
        move =
            subst (λ d. IsShowing z (move_of t now want d k)) (sym all.0) all.1;
      }
  shows_by ev acts z (misread c want r k rest poll q same) is = elim ((showing_said c rest q (Fails (cause.StoreRead r)) z (rw same at is)).1) [ ]

  waits_by : (ev : Event) (acts : List Act) (d : ℕ) (z : Wait) → IsSaid ev acts → wait_in d acts ≡ Some z → WaitsBy t now ev d z
  waits_by ev acts d z (quiet q) is = absurd (none_some z (rw (q.waits d) at is))
  waits_by ev acts d z (polled c want k rest poll q same) is =
      let all = wait_said c rest q d (move_of t now want c k) z (rw same at is) in
      record { want = want; k = k; poll = rw (sym all.0) poll; move = rw (sym all.0) all.1 }
  waits_by ev acts d z (misread c want r k rest poll q same) is = elim ((wait_said c rest q d (Fails (cause.StoreRead r)) z (rw same at is)).1) [ ]

  leaves_by : (ev : Event) (acts : List Act) (d : ℕ) → IsSaid ev acts → leaves_in d acts ≡ true → LeavesBy t ev d
  leaves_by ev acts d (quiet q) is = absurd (false_true (rw (q.leaves d) at is))
  leaves_by ev acts d (polled c want k rest poll q same) is =
      let all = leaves_said c rest q d (move_of t now want c k) (rw same at is) in
      record { want = want; k = k; poll = rw (sym all.0) poll }
  leaves_by ev acts d (misread c want r k rest poll q same) is =
      let all = leaves_said c rest q d (Fails (cause.StoreRead r)) (rw same at is) in
      record { want = want; k = k; poll = rw (sym all.0) poll }

  module _ (ev : Event) (goes : denial t ev ≡ None) where
    pub opening_by : (o : Opening) → opening_in (accepted_acts limits t now ev flaw) ≡ Some o → OpensBy t now ev o
    opening_by o is = opens_by ev (accepted_acts limits t now ev flaw) o (is_said ev goes) is

    pub showing_by : (z : Showing) → showing_in (accepted_acts limits t now ev flaw) ≡ Some z → ShowsBy t now ev z
    showing_by z is = shows_by ev (accepted_acts limits t now ev flaw) z (is_said ev goes) is

    pub waiting_by : (d : ℕ) (z : Wait) → wait_in d (accepted_acts limits t now ev flaw) ≡ Some z → WaitsBy t now ev d z
    waiting_by d z is = waits_by ev (accepted_acts limits t now ev flaw) d z (is_said ev goes) is

    pub leaving_by : (d : ℕ) → leaves_in d (accepted_acts limits t now ev flaw) ≡ true → LeavesBy t ev d
    leaving_by d is = leaves_by ev (accepted_acts limits t now ev flaw) d (is_said ev goes) is
