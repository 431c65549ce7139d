-- The acts that the closings see, beside all the acts of an entry: who leaves, and whether something is lost.
--
-- Before closings the acts are what is answered, and then what is lost; closings and evictions say neither a loss nor a
-- leave (`closes_lose`, `evicted_lose`, `closes_leave`). So the closings see the same losses as the entry has
-- (`loss_is`), by induction over lists. Who leaves does so by the move of a poll, which stands before (`one_leaves`),
-- or is cancelled: so they see that too (`leaves_leaver`).
use Rattle.std.{proofs.{Common.{◌≡◌, ℕ, List, [], ◌∷◌, ◌++◌, Bool, true, false, Some, None, refl, ap, sym, ◌∙◌, arith}, lemmas.Bool.Decides.{nat_tests}}, specs.Prelude.{map, ◌||◌, nat_eq}}
use Rattle.hc_effects.proofs.{Basics.{false_true}, Closed.{before}, PieceServes.{quiet_acts}}
use Rattle.hc_text.proofs.Basics.{or_false}
use Rattle.hc_effects.proofs.Vocabulary.{leaves_in, Event, Act, Limits, has_loss, leaver_in, accepted_acts, poll_acts, loss_acts, closing, leaver_by, Flaw, NoFlaw, Misreads, Move, Ends, Fails, acts_of, poll_move, Tables, Sound, evicted, act}
use Rattle.hc_event.specs.declared.event.Event.TheVariants as event

-- LOSSES

loss_append : (xs ys : List Act) → has_loss (xs ++ ys) ≡ (has_loss xs || has_loss ys)
loss_append [] ys = refl
loss_append (act.Lost r kind ∷ xs) ys = refl
loss_append (act.Close x ∷ xs) ys = loss_append xs ys
loss_append (act.Opened x c need request ∷ xs) ys = loss_append xs ys
loss_append (act.Ask x ∷ xs) ys = loss_append xs ys
loss_append (act.Shown c r why status fields lo hi ∷ xs) ys = loss_append xs ys
loss_append (act.Given c x at bytes ∷ xs) ys = loss_append xs ys
loss_append (act.Ended c ∷ xs) ys = loss_append xs ys
loss_append (act.Failed c cause ∷ xs) ys = loss_append xs ys
loss_append (act.Pending c wait ∷ xs) ys = loss_append xs ys
loss_append (act.Evicted r ∷ xs) ys = loss_append xs ys
loss_append (act.Denied refusal ∷ xs) ys = loss_append xs ys

pub closes_lose : (xs : List ℕ) (rest : List Act) → has_loss (map act.Close xs ++ rest) ≡ has_loss rest
closes_lose [] rest = refl
closes_lose (x ∷ xs) rest = closes_lose xs rest

pub all_lose : (xs : List ℕ) → has_loss (map act.Close xs) ≡ false
all_lose [] = refl
all_lose (x ∷ xs) = all_lose xs

pub evicted_lose : (rs : List ℕ) (rest : List Act) → has_loss (map act.Evicted rs ++ rest) ≡ has_loss rest
evicted_lose [] rest = refl
evicted_lose (r ∷ rs) rest = evicted_lose rs rest

-- beside what makes room and what is closed
pub reported_loss : (rs xs : List ℕ) (flaw : Flaw) → has_loss (map act.Evicted rs ++ (loss_acts flaw ++ map act.Close xs)) ≡ has_loss (loss_acts flaw)
reported_loss rs xs flaw =
    evicted_lose rs (loss_acts flaw ++ map act.Close xs)
    ∙ (loss_append (loss_acts flaw) (map act.Close xs)
    ∙ (ap (λ b. has_loss (loss_acts flaw) || b) (all_lose xs) ∙ or_false (has_loss (loss_acts flaw))))

module _ (limits : Limits) (t : Tables) (now : ℕ) (flaw : Flaw) (s : Sound t) where
  reported_loses : (ev : Event) →
      has_loss (map act.Evicted (evicted limits t now ev) ++
      (loss_acts flaw ++ map act.Close (closing t (record { now = now; event = ev; acts = loss_acts flaw })))) ≡ has_loss (loss_acts flaw)
  reported_loses ev = reported_loss (evicted limits t now ev) (closing t (record { now = now; event = ev; acts = loss_acts flaw })) flaw

  -- the closings see what is lost
  pub loss_is : (ev : Event) → has_loss (accepted_acts limits t now ev flaw) ≡ has_loss (before limits t now flaw s ev).acts
  loss_is (event.Poll c want) =
      let xs = closing t (before limits t now flaw s (event.Poll c want)) in
      loss_append (poll_acts t now want c flaw) (map act.Close xs ++ loss_acts flaw)
      ∙ (ap (λ b. has_loss (poll_acts t now want c flaw) || b) (closes_lose xs (loss_acts flaw))
      ∙ sym (loss_append (poll_acts t now want c flaw) (loss_acts flaw)))
  loss_is (event.Cancel c) = closes_lose (closing t (before limits t now flaw s (event.Cancel c))) (loss_acts flaw)
  loss_is ev = reported_loses ev

  -- WHO LEAVES

  none_some : (d : ℕ) → None ≡ Some d → ⊥
  none_some d is = cc

  lost_leaves : (d : ℕ) (f : Flaw) → leaver_in (loss_acts f) ≡ Some d → ⊥
  lost_leaves d NoFlaw is = none_some d is
  lost_leaves d _ is = none_some d is

  named : (c d : ℕ) (b : Bool) → Some c ≡ Some d → (nat_eq c d || b) ≡ true
  named c d b is = let same : c ≡ d = cc in let test : nat_eq c d ≡ true = grind (arith, nat_tests) in rw test refl

  move_leaves : (c d : ℕ) (m : Move) (f : Flaw) (rest : List Act) → leaver_in (acts_of c m ++ loss_acts f) ≡ Some d → leaves_in d (acts_of c m ++ rest) ≡ true
  move_leaves c d m f rest is = grind (arith, nat_tests)

  poll_leaves : (c d want : ℕ) (f g : Flaw) (rest : List Act) → leaver_in (poll_acts t now want c f ++ loss_acts g) ≡ Some d → leaves_in
      d (poll_acts t now want c f ++ rest) ≡ true
  poll_leaves c d want (Misreads r) g rest is = named c d (leaves_in d rest) is
  poll_leaves c d want _ g rest is = move_leaves c d (poll_move t now want c (t.consumer c)) g rest is

  -- who leaves, as the closings see it, leaves
  pub leaver_leaves : (ev : Event) (d : ℕ) → leaver_in (before limits t now flaw s ev).acts ≡ Some d → leaves_in d (accepted_acts limits t now ev flaw) ≡ true
  leaver_leaves (event.Poll c want) d is = poll_leaves c d want flaw flaw _ is
  leaver_leaves _ d is = absurd (lost_leaves d flaw is)

  -- and who leaves is seen by them
  pub closes_leave : (d : ℕ) (xs : List ℕ) (f : Flaw) → leaves_in d (map act.Close xs ++ loss_acts f) ≡ false
  closes_leave d [] NoFlaw = refl
  closes_leave d [] _ = refl
  closes_leave d (x ∷ xs) f = closes_leave d xs f

  one_leaves : (c d : ℕ) (xs : List ℕ) (f : Flaw) → (nat_eq c d || leaves_in d (map act.Close xs ++ loss_acts f)) ≡ true → Some c ≡ Some d
  one_leaves c d xs f h = by_test (nat_eq c d) refl
    where
      by_test : (b : Bool) → nat_eq c d ≡ b → Some c ≡ Some d
      by_test true is = let same : c ≡ d = grind (arith, nat_tests) in ap Some same
      by_test false is = absurd (false_true (rw (is, closes_leave d xs f) at h))

  move_leaver : (c d : ℕ) (m : Move) (f g : Flaw) (xs : List ℕ) → leaves_in d (acts_of c m ++ (map act.Close xs ++ loss_acts f)) ≡ true → leaver_in
      (acts_of c m ++ loss_acts g) ≡ Some d
  move_leaver c d Ends f g xs h = one_leaves c d xs f h
  move_leaver c d (Fails cause) f g xs h = one_leaves c d xs f h
  move_leaver c d _ f g xs h = absurd (false_true (sym (closes_leave d xs f) ∙ h))

  poll_leaver : (c d want : ℕ) (z f g : Flaw) (xs : List ℕ) → leaves_in d (poll_acts t now want c z ++ (map act.Close xs ++ loss_acts f)) ≡ true →
      leaver_in (poll_acts t now want c z ++ loss_acts g) ≡ Some d
  poll_leaver c d want (Misreads r) f g xs h = one_leaves c d xs f h
  poll_leaver c d want _ f g xs h = move_leaver c d (poll_move t now want c (t.consumer c)) f g xs h

  reported_leaves : (ev : Event) (d : ℕ) → leaves_in
      d (map act.Evicted (evicted limits t now ev) ++
      (loss_acts flaw ++ map act.Close (closing t (record { now = now; event = ev; acts = loss_acts flaw })))) ≡ false
  reported_leaves ev d = (quiet_acts (evicted limits t now ev) (closing t (record { now = now; event = ev; acts = loss_acts flaw })) flaw).leaves d

  pub leaves_leaver : (ev : Event) (d : ℕ) → leaves_in d (accepted_acts limits t now ev flaw) ≡ true →
      leaver_by ev (before limits t now flaw s ev).acts ≡ Some d
  leaves_leaver (event.Poll c want) d h = poll_leaver c d want flaw flaw flaw (closing t (before limits t now flaw s (event.Poll c want))) h
  leaves_leaver (event.Cancel c) d h = absurd (false_true (sym (closes_leave d (closing t (before limits t now flaw s (event.Cancel c))) flaw) ∙ h))
  leaves_leaver ev d h = absurd (false_true (sym (reported_leaves ev d) ∙ h))
