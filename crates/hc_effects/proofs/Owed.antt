-- What an entry of a run is: denied by the first refusal, or accepted, with the acts that are owed.
use Rattle.std.proofs.{lemmas.Bool.Decides.{nat_tests}, Common.{arith, ◌≡◌, ℕ, List, [], ◌∷◌, true, false, Option, None, refl, ap, sym, ◌∙◌}}
use Rattle.hc_effects.proofs.Vocabulary.{opening_in, is_denied, given_in, Act, Refusal, Limits, loses_in, answer, accepted_acts, denied_or, denial, Entry, flaw_in, shown_in, Tables, IsOwed, act}

goes_by : (o : Option Refusal) (acts : List Act) → is_denied (denied_or o acts) ≡ false → o ≡ None
goes_by o acts h = grind (arith, nat_tests)

-- no refusal applies to what isn't denied
pub goes : (limits : Limits) (t : Tables) (e : Entry) → IsOwed limits t e → is_denied e.acts ≡ false → denial t e.event ≡ None
unfolding answer
goes limits t e owed not_denied =
    goes_by (denial t e.event) (accepted_acts limits t e.now e.event (flaw_in e.acts)) (sym (ap is_denied owed.acts) ∙ not_denied)

-- and its acts are those of an accepted event
pub acts_are : (limits : Limits) (t : Tables) (e : Entry) → IsOwed limits t e → is_denied e.acts ≡ false →
    e.acts ≡ accepted_acts limits t e.now e.event (flaw_in e.acts)
unfolding answer
acts_are limits t e owed not_denied =
    owed.acts ∙ ap (λ (o : Option Refusal). denied_or o (accepted_acts limits t e.now e.event (flaw_in e.acts))) (goes limits t e owed not_denied)

-- what is denied says nothing else
pub data IsDenied : List Act → Type 0 where
  denied : (refusal : Refusal) → IsDenied (act.Denied refusal ∷ [])

pub is_denial : (acts : List Act) → is_denied acts ≡ true → IsDenied acts
is_denial [] h = absurd (let never : false ≡ true = h in cc)
is_denial (act.Denied refusal ∷ []) h = denied refusal
is_denial (act.Denied refusal ∷ b ∷ acts) h = absurd (let never : false ≡ true = h in cc)
is_denial (act.Opened x c need request ∷ acts) h = absurd (let never : false ≡ true = h in cc)
is_denial (act.Ask x ∷ acts) h = absurd (let never : false ≡ true = h in cc)
is_denial (act.Close x ∷ acts) h = absurd (let never : false ≡ true = h in cc)
is_denial (act.Shown c r why status fields lo hi ∷ acts) h = absurd (let never : false ≡ true = h in cc)
is_denial (act.Given c x at bytes ∷ acts) h = absurd (let never : false ≡ true = h in cc)
is_denial (act.Ended c ∷ acts) h = absurd (let never : false ≡ true = h in cc)
is_denial (act.Failed c cause ∷ acts) h = absurd (let never : false ≡ true = h in cc)
is_denial (act.Pending c wait ∷ acts) h = absurd (let never : false ≡ true = h in cc)
is_denial (act.Lost r kind ∷ acts) h = absurd (let never : false ≡ true = h in cc)
is_denial (act.Evicted r ∷ acts) h = absurd (let never : false ≡ true = h in cc)

opens_none : (acts : List Act) → IsDenied acts → opening_in acts ≡ None
opens_none _ (denied refusal) = refl

gives_none : (c : ℕ) (acts : List Act) → IsDenied acts → given_in c acts ≡ []
gives_none c _ (denied refusal) = refl

shows_none : (c : ℕ) (acts : List Act) → IsDenied acts → shown_in c acts ≡ []
shows_none c _ (denied refusal) = refl

loses_none : (r : ℕ) (acts : List Act) → IsDenied acts → loses_in r acts ≡ false
loses_none r _ (denied refusal) = refl

pub denied_opens : (acts : List Act) → is_denied acts ≡ true → opening_in acts ≡ None
denied_opens acts h = opens_none acts (is_denial acts h)

pub denied_gives : (c : ℕ) (acts : List Act) → is_denied acts ≡ true → given_in c acts ≡ []
denied_gives c acts h = gives_none c acts (is_denial acts h)

pub denied_shows : (c : ℕ) (acts : List Act) → is_denied acts ≡ true → shown_in c acts ≡ []
denied_shows c acts h = shows_none c acts (is_denial acts h)

pub denied_loses : (r : ℕ) (acts : List Act) → is_denied acts ≡ true → loses_in r acts ≡ false
denied_loses r acts h = loses_none r acts (is_denial acts h)
