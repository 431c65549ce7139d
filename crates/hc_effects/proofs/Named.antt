-- What the acts of an accepted event say of a consumer that hasn't started: nothing.
use Rattle.std.{proofs.{lemmas.Bool.Decides.{nat_tests}, Common.{arith, ◌≡◌, ℕ, List, [], ◌∷◌, ◌++◌, Bool, true, false, Some, None, refl}}, specs.Prelude.{map, nat_eq, not, if◌then◌else◌}}
use Rattle.hc_effects.proofs.Vocabulary.{given_in, shows_in, Event, Act, Limits, poll_refusal, accepted_acts, poll_acts, loss_acts, closing, denial, gate, Flaw, NoFlaw, Misreads, Move, acts_of, poll_move, Tables, evicted, act}
use Rattle.hc_event.specs.declared.event.Event.TheVariants as event
use Rattle.hc_event.specs.declared.act.Refusal.TheVariants as refusal
use Rattle.hc_rules.specs.Refusals as refusals
use Rattle.hc_effects.proofs.PieceServes.{IsQuietActs, quiet_acts}

-- acts that neither give nor show anything to c
pub record IsFar (c : ℕ) (acts : List Act) : Type 0 where
  pub gives : given_in c acts ≡ []
  pub shows : shows_in c acts ≡ false

far_quiet : (c : ℕ) (acts : List Act) → IsQuietActs acts → IsFar c acts
far_quiet c acts q = record { gives = q.gives c; shows = q.shows c }

pub far_lost : (c : ℕ) (flaw : Flaw) → IsFar c (loss_acts flaw)
far_lost c NoFlaw = record { gives = refl; shows = refl }
far_lost c _ = record { gives = refl; shows = refl }

pub far_closes : (c : ℕ) (xs : List ℕ) (rest : List Act) → IsFar c rest → IsFar c (map act.Close xs ++ rest)
far_closes c [] rest far = far
far_closes c (x ∷ xs) rest far = let f = far_closes c xs rest far in record { gives = f.gives; shows = f.shows }

-- those of another consumer's move
far_move : (c d : ℕ) (m : Move) (rest : List Act) → nat_eq d c ≡ false → IsFar c rest → IsFar c (acts_of d m ++ rest)
far_move c d m rest other far = grind (arith, nat_tests)

pub far_poll : (t : Tables) (now want c d : ℕ) (flaw : Flaw) (rest : List Act) → nat_eq d c ≡ false → IsFar c rest →
    IsFar c (poll_acts t now want d flaw ++ rest)
far_poll t now want c d (Misreads r) rest other far = record { gives = far.gives; shows = far.shows }
far_poll t now want c d _ rest other far = far_move c d (poll_move t now want d (t.consumer d)) rest other far

pub live_by : (late live zero : Bool) →
    (if late then Some refusal.NoConsumer else if not live then Some refusal.Finished else if zero then Some refusal.WantZero else None) ≡ None → live ≡ true
live_by late live zero h = grind (arith, nat_tests)

-- nothing is said to a consumer but by a poll
pub far_reported : (limits : Limits) (t : Tables) (now c : ℕ) (flaw : Flaw) (event : Event) →
    IsFar c (map act.Evicted (evicted limits t now event) ++
    (loss_acts flaw ++ map act.Close (closing t (record { now = now; event = event; acts = loss_acts flaw }))))
far_reported limits t now c flaw event =
    far_quiet c _ (quiet_acts (evicted limits t now event) (closing t (record { now = now; event = event; acts = loss_acts flaw })) flaw)

module _ (limits : Limits) (t : Tables) (now c : ℕ) (flaw : Flaw) (none : t.consumer c ≡ None) where
  not_it : (d want : ℕ) → poll_refusal (gate t (event.Poll d want)) d want ≡ None → nat_eq d c ≡ false
  not_it d want h = grind (arith, nat_tests)

  -- who hasn't started is neither shown nor given anything
  pub far : (event : Event) → denial t event ≡ None → IsFar c (accepted_acts limits t now event flaw)
  unfolding refusals.refusal_of
  far (event.Poll d want) h =
      far_poll t now want c d flaw _ (not_it d want h)
      (far_closes c (closing t (record { now = now; event = event.Poll d want; acts = poll_acts t now want d flaw ++ loss_acts flaw })) (loss_acts flaw)
      (far_lost c flaw))
  far (event.Cancel d) h = far_closes c (closing t (record { now = now; event = event.Cancel d; acts = loss_acts flaw })) (loss_acts flaw) (far_lost c flaw)
  far ev h = far_reported limits t now c flaw ev
