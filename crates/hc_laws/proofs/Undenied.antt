-- Acts that are owed to an accepted event aren't those of a denied one.
use Rattle.std.{proofs.{lemmas.Bool.Decides.{nat_tests}, Common.{arith, ◌≡◌, ℕ, List, [], ◌∷◌, ◌++◌, false, refl}}, specs.Prelude.{map}}
use Rattle.hc_effects.proofs.Vocabulary.{is_denied, Event, Act, Limits, accepted_acts, answer_acts, poll_acts, loss_acts, close_acts, Flaw, NoFlaw, Loses, Misreads, closing, Tables, evicted, act}

then_closes : (ys : List ℕ) (flaw : Flaw) → is_denied (map act.Close ys ++ loss_acts flaw) ≡ false
then_closes [] NoFlaw = refl
then_closes [] _ = refl
then_closes (y ∷ ys) flaw = refl

by_flaw : (t : Tables) (now want c : ℕ) (flaw : Flaw) (acts : List Act) → is_denied acts ≡ false → is_denied (poll_acts t now want c flaw ++ acts) ≡ false
by_flaw t now want c flaw acts off = grind (arith, nat_tests)

then_lost : (ys : List ℕ) (flaw : Flaw) → is_denied (loss_acts flaw ++ map act.Close ys) ≡ false
then_lost (y ∷ ys) (Loses r kind) = refl
then_lost (y ∷ ys) (Misreads r) = refl
then_lost _ NoFlaw = refl
then_lost [] _ = refl

then_evicts : (rs : List ℕ) (acts : List Act) → is_denied acts ≡ false → is_denied (map act.Evicted rs ++ acts) ≡ false
then_evicts [] acts off = off
then_evicts (r ∷ rs) acts off = refl

outside : (limits : Limits) (t : Tables) (now : ℕ) (ev : Event) (flaw : Flaw) →
    is_denied (map act.Evicted (evicted limits t now ev) ++ (loss_acts flaw ++ close_acts t now ev flaw)) ≡ false
outside limits t now ev flaw =
    then_evicts (evicted limits t now ev) (loss_acts flaw ++ close_acts t now ev flaw)
    (then_lost (closing t (record { now = now; event = ev; acts = answer_acts t now ev flaw ++ loss_acts flaw })) flaw)

pub undenied : (limits : Limits) (t : Tables) (now : ℕ) (ev : Event) (flaw : Flaw) → is_denied (accepted_acts limits t now ev flaw) ≡ false
undenied limits t now ev flaw = grind (arith, nat_tests, by_flaw, then_closes, closing, outside)
