-- What the acts of a turn open: each has a target, and is open behind the turn, unless a later act closes it.
--
-- An entry opens one exchange at most, which has no row before it, and an open one behind it. The exchange asks for
-- what its consumer asks for, and each consumer asks for a target. What was open stays so, unless the acts of a later
-- entry close it: so it is where no event says anything of it.
use Rattle.std.proofs.Common.{◌≡◌, ◌⊎◌, inl, inr, ℕ, ◌+◌, List, [], ◌∷◌, ◌++◌, Bool, true, false, Option, Some, None, refl, ap, sym, ◌∙◌, subst, arith}
use Rattle.hc_text.proofs.Basics.{false_true, eq_itself as itself, or_left, or_right}
use Rattle.hc_effects.proofs.Vocabulary.{Opening, opening_in, closes_in, is_denied, Act, Limits, Entry, exchange_after, exchange_opened, is_open, flaw_in, Lawful, Tables, IsOwed, after, RequestsAreForTargets, act}
use Rattle.hc_target.specs.Targets.{is_target}
use Rattle.hc_effects.proofs.Owed.{acts_are, is_denial, IsDenied, denied, denied_opens}
use Rattle.hc_proxy.specs.{Invariants.{ArePlain}, Rows.{Proxy}}
use Rattle.hc_proxy.proofs.{ClosedActs.{closes_both}, OpenAfter.{Stops, stays_open}, OpensUp.{OpenNone, OpenOnce, accepted_once}, QuietActs.{AreQuiet}, Stands.{Stands, is_sound}, StepOn.{opens_behind}}

-- LISTS OF ACTS

none_plain : (acts : List Act) (t : Tables) → OpenNone acts → ArePlain acts t
none_plain [] t none = tt
none_plain (act.Denied refusal ∷ acts) t none = none_plain acts t none
none_plain (act.Opened x c need request ∷ acts) t none = absurd none.0
none_plain (act.Ask x ∷ acts) t none = none_plain acts t none
none_plain (act.Close x ∷ acts) t none = none_plain acts t none
none_plain (act.Shown c r why status fields lo hi ∷ acts) t none = none_plain acts t none
none_plain (act.Given c x at bytes ∷ acts) t none = none_plain acts t none
none_plain (act.Ended c ∷ acts) t none = none_plain acts t none
none_plain (act.Failed c cause ∷ acts) t none = none_plain acts t none
none_plain (act.Pending c wait ∷ acts) t none = none_plain acts t none
none_plain (act.Lost r kind ∷ acts) t none = none_plain acts t none
none_plain (act.Evicted r ∷ acts) t none = none_plain acts t none

-- what is opened has a target, and is open
abbrev OpensPlain : Tables → Option Opening → Type 0
OpensPlain t o = (q : Opening) → o ≡ Some q → (is_target q.request.key ≡ true) × (is_open (t.exchange q.x) ≡ true)

once_plain : (acts : List Act) (t : Tables) → OpenOnce acts → OpensPlain t (opening_in acts) → ArePlain acts t
once_plain [] t once h = tt
once_plain (act.Denied refusal ∷ acts) t once h = once_plain acts t once h
once_plain (act.Opened x c need request ∷ acts) t once h =
    let k = h (record { x = x; c = c; need = need; request = request }) refl in
    ((k.0, inl k.1), none_plain acts t once)
once_plain (act.Ask x ∷ acts) t once h = once_plain acts t once h
once_plain (act.Close x ∷ acts) t once h = once_plain acts t once h
once_plain (act.Shown c r why status fields lo hi ∷ acts) t once h = once_plain acts t once h
once_plain (act.Given c x at bytes ∷ acts) t once h = once_plain acts t once h
once_plain (act.Ended c ∷ acts) t once h = once_plain acts t once h
once_plain (act.Failed c cause ∷ acts) t once h = once_plain acts t once h
once_plain (act.Pending c wait ∷ acts) t once h = once_plain acts t once h
once_plain (act.Lost r kind ∷ acts) t once h = once_plain acts t once h
once_plain (act.Evicted r ∷ acts) t once h = once_plain acts t once h

-- what is open stays so, or is closed by these acts
abbrev StaysOr : Tables → Tables → List Act → Type 0
StaysOr t u ys = (x : ℕ) → is_open (t.exchange x) ≡ true → (is_open (u.exchange x) ≡ true) ⊎ (closes_in x ys ≡ true)

still_plain : (t u : Tables) (x : ℕ) (xs ys : List Act) → StaysOr t u ys → (is_open (t.exchange x) ≡ true) ⊎ (closes_in x xs ≡ true) →
    (is_open (u.exchange x) ≡ true) ⊎ (closes_in x (xs ++ ys) ≡ true)
still_plain t u x xs ys stays (inr closes) = inr (closes_both x xs ys ∙ or_left _ _ closes)
still_plain t u x xs ys stays (inl on) = elim (stays x on) as (λ _. (is_open (u.exchange x) ≡ true) ⊎ (closes_in x (xs ++ ys) ≡ true)) [
  | inl now ↦ inl now
  | inr closes ↦ inr (closes_both x xs ys ∙ or_right (closes_in x xs) _ closes)
]

both_plain : (t u : Tables) (xs ys : List Act) → StaysOr t u ys → ArePlain xs t → ArePlain ys u → ArePlain (xs ++ ys) u
both_plain t u [] ys stays a b = b
both_plain t u (act.Denied refusal ∷ xs) ys stays a b = both_plain t u xs ys stays a b
both_plain t u (act.Opened x c need request ∷ xs) ys stays a b =
    ((a.0.0, still_plain t u x xs ys stays a.0.1), both_plain t u xs ys stays a.1 b)
both_plain t u (act.Ask x ∷ xs) ys stays a b = both_plain t u xs ys stays a b
both_plain t u (act.Close x ∷ xs) ys stays a b = both_plain t u xs ys stays a b
both_plain t u (act.Shown c r why status fields lo hi ∷ xs) ys stays a b = both_plain t u xs ys stays a b
both_plain t u (act.Given c x at bytes ∷ xs) ys stays a b = both_plain t u xs ys stays a b
both_plain t u (act.Ended c ∷ xs) ys stays a b = both_plain t u xs ys stays a b
both_plain t u (act.Failed c cause ∷ xs) ys stays a b = both_plain t u xs ys stays a b
both_plain t u (act.Pending c wait ∷ xs) ys stays a b = both_plain t u xs ys stays a b
both_plain t u (act.Lost r kind ∷ xs) ys stays a b = both_plain t u xs ys stays a b
both_plain t u (act.Evicted r ∷ xs) ys stays a b = both_plain t u xs ys stays a b

-- quiet acts open nothing

pub quiet_plain : (acts : List Act) (t : Tables) → AreQuiet acts → ArePlain acts t
quiet_plain [] t h = tt
quiet_plain (act.Denied refusal ∷ acts) t h = quiet_plain acts t h
quiet_plain (act.Opened x c need request ∷ acts) t h = false_true h
quiet_plain (act.Ask x ∷ acts) t h = false_true h
quiet_plain (act.Close x ∷ acts) t h = quiet_plain acts t h
quiet_plain (act.Shown c r why status fields lo hi ∷ acts) t h = false_true h
quiet_plain (act.Given c x at bytes ∷ acts) t h = false_true h
quiet_plain (act.Ended c ∷ acts) t h = false_true h
quiet_plain (act.Failed c cause ∷ acts) t h = false_true h
quiet_plain (act.Pending c wait ∷ acts) t h = false_true h
quiet_plain (act.Lost r kind ∷ acts) t h = quiet_plain acts t h
quiet_plain (act.Evicted r ∷ acts) t h = quiet_plain acts t h

-- AN ENTRY

denied_once : (acts : List Act) → IsDenied acts → OpenOnce acts
denied_once _ (denied refusal) = tt

module _ (limits : Limits) (p : Proxy) (s : Stands limits p) (e : Entry) (is : IsOwed limits p.tables e) (law : Lawful (after p.tables e))
    (asked : RequestsAreForTargets (after p.tables e)) where
  -- the row of what is opened
  new_row : (o : Opening) → opening_in e.acts ≡ Some o → (after p.tables e).exchange o.x ≡ Some (exchange_opened p.tables e o)
  unfolding after exchange_after
  new_row o opens = by_denial (is_denied e.acts) refl
    where
      none : p.tables.exchange o.x ≡ None
      none =
          let next : o.x ≡ p.tables.opened + 1 = opens_behind limits p s e is o opens in
          (is_sound limits p s).numbered.lists.new_exchanges o.x (omega arith)

      by_denial : (b : Bool) → is_denied e.acts ≡ b → (after p.tables e).exchange o.x ≡ Some (exchange_opened p.tables e o)
      by_denial true deny = absurd (let never : None ≡ Some o = sym (denied_opens e.acts deny) ∙ opens in cc)
      by_denial false taken = rw (taken, none, opens, itself o.x) refl

  opens_plain : OpensPlain (after p.tables e) (opening_in e.acts)
  opens_plain o opens =
      let row = new_row o opens in
      let of = law.keyed.exchanges.opener o.x (exchange_opened p.tables e o) row in
      (ap is_target of.2 ∙ asked o.c of.0 of.1, ap is_open row)

  entry_once : (b : Bool) → is_denied e.acts ≡ b → OpenOnce e.acts
  entry_once true deny = denied_once e.acts (is_denial e.acts deny)
  entry_once false taken = subst OpenOnce (sym (acts_are limits p.tables e is taken)) (accepted_once limits p.tables e.now e.event (flaw_in e.acts))

  pub plain_behind : (acts : List Act) → ((y : ℕ) → Stops y e.event → ⊥) → ArePlain acts p.tables → ArePlain (acts ++ e.acts) (after p.tables e)
  plain_behind acts none was =
      both_plain p.tables (after p.tables e) acts e.acts stays was
      (once_plain e.acts (after p.tables e) (entry_once (is_denied e.acts) refl) opens_plain)
    where
      stays : StaysOr p.tables (after p.tables e) e.acts
      stays x on = elim (stays_open p.tables e x on) as (λ _. (is_open ((after p.tables e).exchange x) ≡ true) ⊎ (closes_in x e.acts ≡ true)) [
        | inl now ↦ inl now
        | inr other ↦ elim other as (λ _. (is_open ((after p.tables e).exchange x) ≡ true) ⊎ (closes_in x e.acts ≡ true))
            [ inl closes ↦ inr closes | inr stops ↦ absurd (none x stops) ]
      ]
