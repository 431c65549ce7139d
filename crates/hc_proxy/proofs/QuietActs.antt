-- An event that is no poll opens nothing, asks for nothing and tells nobody anything.
--
-- By the cases of the event: what comes from outside evicts, loses and closes, a cancel closes and loses, and a denied
-- event is told by one act alone. None of these acts opens, asks for, or tells anything. `is_quiet_entry` is of an
-- entry, and what such acts don't say is by induction over the list.
use Rattle.std.{proofs.{Common.{◌≡◌, ℕ, List, [], ◌∷◌, ◌++◌, Bool, true, false, Option, Some, None, refl, ap, sym, ◌∙◌, subst}, lemmas.List.Folds.{list_all-append}}, specs.{Prelude.{map, ◌&&◌}, List.{list_all}}}
use Rattle.hc_effects.proofs.Vocabulary.{opening_in, asks_in, leaves_in, Act, Refusal, Event, Limits, answer, accepted_acts, answer_acts, loss_acts, close_acts, denied_or, closing, denial, Entry, Flaw, NoFlaw, Loses, Misreads, flaw_in, Tables, IsOwed, evicted, act}
use Rattle.hc_event.specs.declared.event.Event.TheVariants as event
use Rattle.hc_proxy.specs.{Invariants.{is_quiet}, Waiting.{is_poll}}

abbrev pub AreQuiet : List Act → Type 0
AreQuiet acts = list_all is_quiet acts ≡ true

-- LISTS OF SUCH

quiet_evicted : (rs : List ℕ) → AreQuiet (map act.Evicted rs)
quiet_evicted [] = refl
quiet_evicted (r ∷ rs) = quiet_evicted rs

quiet_closed : (xs : List ℕ) → AreQuiet (map act.Close xs)
quiet_closed [] = refl
quiet_closed (x ∷ xs) = quiet_closed xs

quiet_lost : (flaw : Flaw) → AreQuiet (loss_acts flaw)
quiet_lost NoFlaw = refl
quiet_lost (Loses r kind) = refl
quiet_lost (Misreads r) = refl

pub quiet_both : (xs ys : List Act) → AreQuiet xs → AreQuiet ys → AreQuiet (xs ++ ys)
quiet_both xs ys a b = list_all-append is_quiet xs ys ∙ (ap (λ (p : Bool). p && list_all is_quiet ys) a ∙ b)

-- AN ENTRY

module _ (limits : Limits) (t : Tables) where
  closes : (now : ℕ) (ev : Event) (flaw : Flaw) → AreQuiet (close_acts t now ev flaw)
  closes now ev flaw = quiet_closed (closing t (record { now = now; event = ev; acts = answer_acts t now ev flaw ++ loss_acts flaw }))

  -- what is closed and lost
  behind : (now : ℕ) (ev : Event) (flaw : Flaw) → AreQuiet (close_acts t now ev flaw ++ loss_acts flaw)
  behind now ev flaw = quiet_both (close_acts t now ev flaw) (loss_acts flaw) (closes now ev flaw) (quiet_lost flaw)

  -- and what makes room before
  from_outside : (now : ℕ) (ev : Event) (flaw : Flaw) → AreQuiet (map act.Evicted (evicted limits t now ev) ++ (loss_acts flaw ++ close_acts t now ev flaw))
  from_outside now ev flaw =
      quiet_both (map act.Evicted (evicted limits t now ev)) (loss_acts flaw ++ close_acts t now ev flaw) (quiet_evicted (evicted limits t now ev))
      (quiet_both (loss_acts flaw) (close_acts t now ev flaw) (quiet_lost flaw) (closes now ev flaw))

  accepted : (now : ℕ) (ev : Event) (flaw : Flaw) → is_poll ev ≡ false → AreQuiet (accepted_acts limits t now ev flaw)
  accepted now (event.Start c request) flaw h = from_outside now (event.Start c request) flaw
  accepted now (event.Poll c want) flaw h = absurd (let never : true ≡ false = h in cc)
  accepted now (event.Head x response) flaw h = from_outside now (event.Head x response) flaw
  accepted now (event.Piece x bytes) flaw h = from_outside now (event.Piece x bytes) flaw
  accepted now (event.End x) flaw h = from_outside now (event.End x) flaw
  accepted now (event.Fault x) flaw h = from_outside now (event.Fault x) flaw
  accepted now (event.Cancel c) flaw h = behind now (event.Cancel c) flaw
  accepted now (event.Doom key) flaw h = from_outside now (event.Doom key) flaw

  by_denial : (o : Option Refusal) (acts : List Act) → AreQuiet acts → AreQuiet (denied_or o acts)
  by_denial None acts h = h
  by_denial (Some refusal) acts h = refl

  pub is_quiet_entry : (e : Entry) → IsOwed limits t e → is_poll e.event ≡ false → AreQuiet e.acts
  unfolding answer
  is_quiet_entry e o h =
      subst AreQuiet (sym o.acts)
      (by_denial (denial t e.event) (accepted_acts limits t e.now e.event (flaw_in e.acts)) (accepted e.now e.event (flaw_in e.acts) h))

-- WHAT SUCH ACTS DON'T SAY

pub quiet_opens_none : (acts : List Act) → AreQuiet acts → opening_in acts ≡ None
quiet_opens_none [] h = refl
quiet_opens_none (act.Denied refusal ∷ acts) h = quiet_opens_none acts h
quiet_opens_none (act.Opened x c need request ∷ acts) h = absurd (let never : false ≡ true = h in cc)
quiet_opens_none (act.Ask x ∷ acts) h = quiet_opens_none acts (absurd (let never : false ≡ true = h in cc))
quiet_opens_none (act.Close x ∷ acts) h = quiet_opens_none acts h
quiet_opens_none (act.Shown c r why status fields lo hi ∷ acts) h = absurd (let never : false ≡ true = h in cc)
quiet_opens_none (act.Given c x at bytes ∷ acts) h = absurd (let never : false ≡ true = h in cc)
quiet_opens_none (act.Ended c ∷ acts) h = absurd (let never : false ≡ true = h in cc)
quiet_opens_none (act.Failed c cause ∷ acts) h = absurd (let never : false ≡ true = h in cc)
quiet_opens_none (act.Pending c wait ∷ acts) h = absurd (let never : false ≡ true = h in cc)
quiet_opens_none (act.Lost r kind ∷ acts) h = quiet_opens_none acts h
quiet_opens_none (act.Evicted r ∷ acts) h = quiet_opens_none acts h

pub quiet_asks_none : (x : ℕ) (acts : List Act) → AreQuiet acts → asks_in x acts ≡ false
quiet_asks_none x [] h = refl
quiet_asks_none x (act.Denied refusal ∷ acts) h = quiet_asks_none x acts h
quiet_asks_none x (act.Opened y c need request ∷ acts) h = absurd (let never : false ≡ true = h in cc)
quiet_asks_none x (act.Ask y ∷ acts) h = absurd (let never : false ≡ true = h in cc)
quiet_asks_none x (act.Close y ∷ acts) h = quiet_asks_none x acts h
quiet_asks_none x (act.Shown c r why status fields lo hi ∷ acts) h = absurd (let never : false ≡ true = h in cc)
quiet_asks_none x (act.Given c y at bytes ∷ acts) h = absurd (let never : false ≡ true = h in cc)
quiet_asks_none x (act.Ended c ∷ acts) h = absurd (let never : false ≡ true = h in cc)
quiet_asks_none x (act.Failed c cause ∷ acts) h = absurd (let never : false ≡ true = h in cc)
quiet_asks_none x (act.Pending c wait ∷ acts) h = absurd (let never : false ≡ true = h in cc)
quiet_asks_none x (act.Lost r kind ∷ acts) h = quiet_asks_none x acts h
quiet_asks_none x (act.Evicted r ∷ acts) h = quiet_asks_none x acts h

pub quiet_ends_none : (c : ℕ) (acts : List Act) → AreQuiet acts → leaves_in c acts ≡ false
quiet_ends_none c [] h = refl
quiet_ends_none c (act.Denied refusal ∷ acts) h = quiet_ends_none c acts h
quiet_ends_none c (act.Opened x d need request ∷ acts) h = absurd (let never : false ≡ true = h in cc)
quiet_ends_none c (act.Ask x ∷ acts) h = absurd (let never : false ≡ true = h in cc)
quiet_ends_none c (act.Close x ∷ acts) h = quiet_ends_none c acts h
quiet_ends_none c (act.Shown d r why status fields lo hi ∷ acts) h = absurd (let never : false ≡ true = h in cc)
quiet_ends_none c (act.Given d x at bytes ∷ acts) h = absurd (let never : false ≡ true = h in cc)
quiet_ends_none c (act.Ended d ∷ acts) h = absurd (let never : false ≡ true = h in cc)
quiet_ends_none c (act.Failed d cause ∷ acts) h = absurd (let never : false ≡ true = h in cc)
quiet_ends_none c (act.Pending d wait ∷ acts) h = absurd (let never : false ≡ true = h in cc)
quiet_ends_none c (act.Lost r kind ∷ acts) h = quiet_ends_none c acts h
quiet_ends_none c (act.Evicted r ∷ acts) h = quiet_ends_none c acts h
