-- The acts of a turn open exchanges one after another: from the last one before it up to the last one that is counted.
--
-- An entry that is owed opens one exchange at most, the next, and counts it. So acts that open one after another are
-- followed by such. In an answer only the move of a poll opens; what makes room, closings and losses open nothing
-- (`accepted_once`). Lists of acts that open up to a number, and from there on, do so joined (`up_both`), and never
-- count fewer (`up_grows`). `entry_opens` says that of an entry, from which turns are joined.
use Rattle.std.{proofs.Common.{◌≡◌, ◌≤◌, ℕ, ◌+◌, Bool, true, false, List, [], ◌∷◌, ◌++◌, Some, refl, sym, subst, arith}, specs.Prelude.{map}}
use Rattle.hc_effects.proofs.Vocabulary.{Opening, opening_in, is_denied, Act, Event, Limits, accepted_acts, answer_acts, poll_acts, loss_acts, close_acts, closing, Entry, Flaw, NoFlaw, Loses, Misreads, flaw_in, Move, Nothing, Asks, Opens, Shows, Gives, Ends, Fails, acts_of, poll_move, Tables, IsOwed, after, opened_after, evicted, act}
use Rattle.hc_event.specs.declared.event.Event.TheVariants as event
use Rattle.hc_model.specs.Moves as moves
use Rattle.hc_effects.proofs.Owed.{acts_are, is_denial, IsDenied, denied}
use Rattle.hc_proxy.specs.{Invariants.{OpensUp}, Rows.{Proxy}}
use Rattle.hc_proxy.proofs.{Openings.{open_both, evicts_open, closes_open, lost_open}, Stands.{Stands}, StepOn.{opens_behind}, Turning.{OpenOnly}}

-- LISTS OF ACTS

abbrev pub OpenNone : List Act → Type 0
OpenNone acts = OpenOnly (λ x. ⊥) acts

-- one at most
abbrev pub OpenOnce : List Act → Type 0
OpenOnce [] = Unit {0}
OpenOnce (act.Opened x c need request ∷ acts) = OpenNone acts
OpenOnce (_ ∷ acts) = OpenOnce acts

none_up : (acts : List Act) (n m : ℕ) → n ≡ m → OpenNone acts → OpensUp n acts m
none_up [] n m is none = is
none_up (act.Denied refusal ∷ acts) n m is none = none_up acts n m is none
none_up (act.Opened x c need request ∷ acts) n m is none = absurd none.0
none_up (act.Ask x ∷ acts) n m is none = none_up acts n m is none
none_up (act.Close x ∷ acts) n m is none = none_up acts n m is none
none_up (act.Shown c r why status fields lo hi ∷ acts) n m is none = none_up acts n m is none
none_up (act.Given c x at bytes ∷ acts) n m is none = none_up acts n m is none
none_up (act.Ended c ∷ acts) n m is none = none_up acts n m is none
none_up (act.Failed c cause ∷ acts) n m is none = none_up acts n m is none
none_up (act.Pending c wait ∷ acts) n m is none = none_up acts n m is none
none_up (act.Lost r kind ∷ acts) n m is none = none_up acts n m is none
none_up (act.Evicted r ∷ acts) n m is none = none_up acts n m is none

none_once : (acts : List Act) → OpenNone acts → OpenOnce acts
none_once [] none = tt
none_once (act.Denied refusal ∷ acts) none = none_once acts none
none_once (act.Opened x c need request ∷ acts) none = absurd none.0
none_once (act.Ask x ∷ acts) none = none_once acts none
none_once (act.Close x ∷ acts) none = none_once acts none
none_once (act.Shown c r why status fields lo hi ∷ acts) none = none_once acts none
none_once (act.Given c x at bytes ∷ acts) none = none_once acts none
none_once (act.Ended c ∷ acts) none = none_once acts none
none_once (act.Failed c cause ∷ acts) none = none_once acts none
none_once (act.Pending c wait ∷ acts) none = none_once acts none
none_once (act.Lost r kind ∷ acts) none = none_once acts none
none_once (act.Evicted r ∷ acts) none = none_once acts none

once_before : (xs ys : List Act) → OpenOnce xs → OpenNone ys → OpenOnce (xs ++ ys)
once_before [] ys once none = none_once ys none
once_before (act.Denied refusal ∷ xs) ys once none = once_before xs ys once none
once_before (act.Opened x c need request ∷ xs) ys once none = open_both (λ x. ⊥) xs ys once none
once_before (act.Ask x ∷ xs) ys once none = once_before xs ys once none
once_before (act.Close x ∷ xs) ys once none = once_before xs ys once none
once_before (act.Shown c r why status fields lo hi ∷ xs) ys once none = once_before xs ys once none
once_before (act.Given c x at bytes ∷ xs) ys once none = once_before xs ys once none
once_before (act.Ended c ∷ xs) ys once none = once_before xs ys once none
once_before (act.Failed c cause ∷ xs) ys once none = once_before xs ys once none
once_before (act.Pending c wait ∷ xs) ys once none = once_before xs ys once none
once_before (act.Lost r kind ∷ xs) ys once none = once_before xs ys once none
once_before (act.Evicted r ∷ xs) ys once none = once_before xs ys once none

once_up : (acts : List Act) (n : ℕ) → OpenOnce acts → ((o : Opening) → opening_in acts ≡ Some o → o.x ≡ n + 1) →
    OpensUp n acts (opened_after (opening_in acts) n)
once_up [] n once next = refl
once_up (act.Denied refusal ∷ acts) n once next = once_up acts n once next
once_up (act.Opened x c need request ∷ acts) n once next = let is : x ≡ n + 1 = next (record { x = x; c = c; need = need; request = request }) refl in
    (is, none_up acts (n + 1) x (sym is) once)
once_up (act.Ask x ∷ acts) n once next = once_up acts n once next
once_up (act.Close x ∷ acts) n once next = once_up acts n once next
once_up (act.Shown c r why status fields lo hi ∷ acts) n once next = once_up acts n once next
once_up (act.Given c x at bytes ∷ acts) n once next = once_up acts n once next
once_up (act.Ended c ∷ acts) n once next = once_up acts n once next
once_up (act.Failed c cause ∷ acts) n once next = once_up acts n once next
once_up (act.Pending c wait ∷ acts) n once next = once_up acts n once next
once_up (act.Lost r kind ∷ acts) n once next = once_up acts n once next
once_up (act.Evicted r ∷ acts) n once next = once_up acts n once next

pub up_both : (xs ys : List Act) (n m k : ℕ) → OpensUp n xs m → OpensUp m ys k → OpensUp n (xs ++ ys) k
up_both [] ys n m k a b = subst (λ (j : ℕ). OpensUp j ys k) (sym a) b
up_both (act.Denied refusal ∷ xs) ys n m k a b = up_both xs ys n m k a b
up_both (act.Opened x c need request ∷ xs) ys n m k a b = (a.0, up_both xs ys (n + 1) m k a.1 b)
up_both (act.Ask x ∷ xs) ys n m k a b = up_both xs ys n m k a b
up_both (act.Close x ∷ xs) ys n m k a b = up_both xs ys n m k a b
up_both (act.Shown c r why status fields lo hi ∷ xs) ys n m k a b = up_both xs ys n m k a b
up_both (act.Given c x at bytes ∷ xs) ys n m k a b = up_both xs ys n m k a b
up_both (act.Ended c ∷ xs) ys n m k a b = up_both xs ys n m k a b
up_both (act.Failed c cause ∷ xs) ys n m k a b = up_both xs ys n m k a b
up_both (act.Pending c wait ∷ xs) ys n m k a b = up_both xs ys n m k a b
up_both (act.Lost r kind ∷ xs) ys n m k a b = up_both xs ys n m k a b
up_both (act.Evicted r ∷ xs) ys n m k a b = up_both xs ys n m k a b

-- no fewer are counted behind them
pub up_grows : (acts : List Act) (n m : ℕ) → OpensUp n acts m → n ≤ m
up_grows [] n m up = omega arith
up_grows (act.Denied refusal ∷ acts) n m up = up_grows acts n m up
up_grows (act.Opened x c need request ∷ acts) n m up = let le : n + 1 ≤ m = up_grows acts (n + 1) m up.1 in omega arith
up_grows (act.Ask x ∷ acts) n m up = up_grows acts n m up
up_grows (act.Close x ∷ acts) n m up = up_grows acts n m up
up_grows (act.Shown c r why status fields lo hi ∷ acts) n m up = up_grows acts n m up
up_grows (act.Given c x at bytes ∷ acts) n m up = up_grows acts n m up
up_grows (act.Ended c ∷ acts) n m up = up_grows acts n m up
up_grows (act.Failed c cause ∷ acts) n m up = up_grows acts n m up
up_grows (act.Pending c wait ∷ acts) n m up = up_grows acts n m up
up_grows (act.Lost r kind ∷ acts) n m up = up_grows acts n m up
up_grows (act.Evicted r ∷ acts) n m up = up_grows acts n m up

-- AN ENTRY

move_once : (c : ℕ) (m : Move) → OpenOnce (acts_of c m)
move_once c Nothing = tt
move_once c (moves.Waits wait) = tt
move_once c (Asks x) = tt
move_once c (Opens x need request) = tt
move_once c (Shows r why head lo hi) = tt
move_once c (Gives run) = tt
move_once c Ends = tt
move_once c (Fails why) = tt

module _ (limits : Limits) (t : Tables) (now : ℕ) where
  outside_none : (ev : Event) (flaw : Flaw) → OpenNone (map act.Evicted (evicted limits t now ev) ++ (loss_acts flaw ++ close_acts t now ev flaw))
  outside_none ev flaw =
      open_both _ (map act.Evicted (evicted limits t now ev)) _ (evicts_open _ (evicted limits t now ev))
      (open_both _ (loss_acts flaw) _ (lost_open _ flaw)
      (closes_open _ (closing t (record { now = now; event = ev; acts = answer_acts t now ev flaw ++ loss_acts flaw }))))

  behind_none : (ev : Event) (flaw : Flaw) → OpenNone (close_acts t now ev flaw ++ loss_acts flaw)
  behind_none ev flaw =
      open_both _ (close_acts t now ev flaw) _
      (closes_open _ (closing t (record { now = now; event = ev; acts = answer_acts t now ev flaw ++ loss_acts flaw })))
      (lost_open _ flaw)

  poll_once : (c want : ℕ) (flaw : Flaw) → OpenOnce (poll_acts t now want c flaw)
  poll_once c want NoFlaw = move_once c (poll_move t now want c (t.consumer c))
  poll_once c want (Loses r kind) = move_once c (poll_move t now want c (t.consumer c))
  poll_once c want (Misreads r) = tt

  pub accepted_once : (ev : Event) (flaw : Flaw) → OpenOnce (accepted_acts limits t now ev flaw)
  accepted_once (event.Start c request) flaw = none_once (accepted_acts limits t now (event.Start c request) flaw) (outside_none (event.Start c request) flaw)
  accepted_once (event.Poll c want) flaw =
      once_before (poll_acts t now want c flaw) (close_acts t now (event.Poll c want) flaw ++ loss_acts flaw) (poll_once c want flaw)
      (behind_none (event.Poll c want) flaw)
  accepted_once (event.Head x response) flaw = none_once (accepted_acts limits t now (event.Head x response) flaw) (outside_none (event.Head x response) flaw)
  accepted_once (event.Piece x bytes) flaw = none_once (accepted_acts limits t now (event.Piece x bytes) flaw) (outside_none (event.Piece x bytes) flaw)
  accepted_once (event.End x) flaw = none_once (accepted_acts limits t now (event.End x) flaw) (outside_none (event.End x) flaw)
  accepted_once (event.Fault x) flaw = none_once (accepted_acts limits t now (event.Fault x) flaw) (outside_none (event.Fault x) flaw)
  accepted_once (event.Cancel c) flaw = none_once (accepted_acts limits t now (event.Cancel c) flaw) (behind_none (event.Cancel c) flaw)
  accepted_once (event.Doom key) flaw = none_once (accepted_acts limits t now (event.Doom key) flaw) (outside_none (event.Doom key) flaw)

denied_up : (acts : List Act) (n : ℕ) → IsDenied acts → OpensUp n acts n
denied_up _ n (denied refusal) = refl

module _ (limits : Limits) (p : Proxy) (s : Stands limits p) (e : Entry) (is : IsOwed limits p.tables e) where
  entry_up : (b : Bool) → is_denied e.acts ≡ b → OpensUp p.tables.opened e.acts (after p.tables e).opened
  unfolding after
  entry_up true deny = rw deny (denied_up e.acts p.tables.opened (is_denial e.acts deny))
  entry_up false taken =
      rw taken
      (once_up e.acts p.tables.opened
      (subst OpenOnce (sym (acts_are limits p.tables e is taken)) (accepted_once limits p.tables e.now e.event (flaw_in e.acts)))
      (opens_behind limits p s e is))

  -- acts that open one after another are followed by those of an entry
  pub entry_opens : (n : ℕ) (acts : List Act) → OpensUp n acts p.tables.opened → OpensUp n (acts ++ e.acts) (after p.tables e).opened
  entry_opens n acts up = up_both acts e.acts n p.tables.opened (after p.tables e).opened up (entry_up (is_denied e.acts) refl)
