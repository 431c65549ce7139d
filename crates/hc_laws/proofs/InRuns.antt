-- One key, one turn and the barrier of dooms in each run from contents by which a store may begin.
use Rattle.std.proofs.Common.{◌≡◌, ℕ, [], ◌∷◌, true, false, subst}
use Rattle.hc_effects.proofs.Vocabulary.{is_denied, Limits, current, Entry, History, Contents, entry_of, IsOfOneKey, may_begin, OfRuns, DeliversOnce, HasOneTurn, Turns, HasPassed, IsBarred, OfHistories, IsBoundBehindDooms, Tables, Consumer, IsRun, Sound, IsBound, tables, after_denied}
use Rattle.hc_model.specs.{Sound.{is_bound}, Keys.{KeepsOthers}, Laws.{DoomsInRuns, KeysInRuns}}
use Rattle.hc_laws.proofs.{Barred.{next_tables, barrier_is_kept, barrier_begins, binds_behind}, KeysPlaces.{keys_are_kept, keys_begin}, OneKey.{law_of_one_key}, RunFacts.{in_runs_with}, SoundRuns.{runs_are_sound}, Starts.{numbers_begin}, TurnsKeep.{turns_are_kept, turns_begin, turns_are_one}}
use Rattle.hc_effects.proofs.{Once.{delivers_once}, Runs.{by_entries}}

-- A DENIED ENTRY

bound_before : (t : Tables) (e : Entry) (r c : ℕ) (k : Consumer) → IsBound (after_denied t e) r c k → IsBound t r c k
bound_before t e r c k (is_bound lo hi how row at) = is_bound lo hi how row at

denied_one : (t : Tables) (e : Entry) → IsOfOneKey t → IsOfOneKey (after_denied t e)
denied_one t e one = record {
  exchanges = assumption;
  consumers = record {
    own = one.consumers.own;
    bound = λ r c k is. one.consumers.bound r c k (bound_before t e r c k is);
    passed = one.consumers.passed;
    undue = one.consumers.undue;
  };
}

denied_passed : (t : Tables) (e : Entry) (r : ℕ) (k : Consumer) → HasPassed t r k → HasPassed (after_denied t e) r k
unfolding current
denied_passed t e r k h = record { current_is = h.current_is; plain = h.plain; cached = h.cached; asks = h.asks; v = h.v; row = h.row; agrees = h.agrees }

denied_turns : (t : Tables) (e : Entry) → Turns t → Turns (after_denied t e)
denied_turns t e turns = record {
  awaited = λ x w row bare. let a = turns.awaited x w row bare in record { k = a.k; row = a.row; own = a.own; stands = a.stands };
  one_holder = turns.one_holder;
  queued = turns.queued;
  passed = λ c r keep k row at. denied_passed t e r k (turns.passed c r keep k row at);
  first_hole = turns.first_hole;
  validates = turns.validates;
}

-- A RUN

-- what is of one key and who has the turn, of every run
pub record IsTurned (t : Tables) : Type 0 where
  pub one : IsOfOneKey t
  pub turns : Turns t

-- Turns and keys hold of every run.
pub turned_in_runs : OfRuns IsTurned
turned_in_runs = in_runs_with (λ limits t. IsTurned t) (λ limits t. Unit {0}) (λ limits contents h may run. tt)
    (λ limits contents may. record { one = keys_begin contents; turns = turns_begin contents })
    (λ limits t e later held. record { one = denied_one t e held.one; turns = denied_turns t e held.turns })
    (λ limits t now flaw ev s all held. record {
      one = keys_are_kept limits t now flaw s.before.is_sound held.one ev s.going;
      turns = turns_are_kept limits t (entry_of limits t now ev flaw) s.before.is_sound held.one held.turns s.owed s.real.taken;
    })

module _ (limits : Limits) (contents : Contents) (may : may_begin limits contents ≡ true) where
  sound_run : (h : History) → IsRun limits contents h → Sound (tables contents h)
  sound_run h run = runs_are_sound limits contents h may run

  barred : (h : History) → IsRun limits contents h → IsBarred contents h
  barred = by_entries limits contents (IsBarred contents) (barrier_begins contents (numbers_begin limits contents may)) (λ h e run before.
      let held = turned_in_runs limits contents h may run.0 in
      barrier_is_kept limits contents h e (sound_run h run.0) held.one held.turns before run.1)

  others_stay : (h : History) (e : Entry) → IsRun limits contents (e ∷ h) → is_denied e.acts ≡ false →
      KeepsOthers (tables contents h) (tables contents (e ∷ h)) e
  others_stay h e run accepted =
      let held = turned_in_runs limits contents h may run.0 in
      subst (λ u. KeepsOthers (tables contents h) u e) (next_tables contents h e accepted)
      (law_of_one_key limits (tables contents h) e held.one.exchanges held.one.consumers run.1 accepted)

pub one_key_in_runs : OfRuns IsOfOneKey
one_key_in_runs limits contents h may run = (turned_in_runs limits contents h may run).one

pub turns_in_runs : OfRuns HasOneTurn
turns_in_runs limits contents h may run = let held = turned_in_runs limits contents h may run in
    turns_are_one (tables contents h) (runs_are_sound limits contents h may run) held.one held.turns

pub dooms_in_runs : DoomsInRuns
dooms_in_runs limits contents h may run = (barred limits contents may h run).founded

pub binds_in_runs : OfHistories IsBoundBehindDooms
binds_in_runs limits contents [] may run = tt
binds_in_runs limits contents (e ∷ h) may run =
    let held = turned_in_runs limits contents h may run.0 in
    binds_behind limits contents h e (sound_run limits contents may h run.0) held.one held.turns (barred limits contents may h run.0) run.1

pub keys_in_runs : KeysInRuns
keys_in_runs limits contents h e may run accepted = others_stay limits contents may h e run accepted

pub delivers_in_runs : OfRuns DeliversOnce
delivers_in_runs limits contents h may run = delivers_once (tables contents h) (runs_are_sound limits contents h may run)
