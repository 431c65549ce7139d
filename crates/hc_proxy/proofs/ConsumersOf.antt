-- The consumers of a client, by the history: they are its own, each started behind those before it.
use Rattle.std.{proofs.Common.{◌≡◌, ◌<◌, ℕ, ◌+◌, List, [], ◌∷◌, ◌++◌, Bool, true, false, Option, refl, ap, arith}, specs.Prelude.{if◌then◌else◌}}
use Rattle.hc_effects.proofs.Vocabulary.{Event, History, event}
use Rattle.hc_proxy.specs.{Asked.{is_at, count_by, starts_in, IsNextStart, AreClients}, Rendered.{consumer_by, consumers_of}, Rows.{with}}
use Rattle.hc_proxy.proofs.{Asked.{IsOther, kept_at}, OwedActs.{AreIts}, Owings.{AreBelow}}

-- an event that starts nobody
pub other_consumers : (holder : ℕ → Option ℕ) (k : ℕ) (ev : Event) → IsOther ev → consumer_by holder k ev ≡ []
other_consumers holder k (event.Start c request) off = absurd off
other_consumers holder k (event.Poll c want) off = refl
other_consumers holder k (event.Head x response) off = refl
other_consumers holder k (event.Piece x bytes) off = refl
other_consumers holder k (event.End x) off = refl
other_consumers holder k (event.Fault x) off = refl
other_consumers holder k (event.Cancel c) off = refl
other_consumers holder k (event.Doom c) off = refl

-- A NEW HOLDER, whose consumer has the next number

module _ (holder : ℕ → Option ℕ) (c z : ℕ) where
  event_kept : (k n : ℕ) (ev : Event) → IsNextStart holder n ev → n + count_by ev < c → consumer_by (with c z holder) k ev ≡ consumer_by holder k ev
  event_kept k n (event.Start d request) next lt = let same : d ≡ n + 1 = next.0 in
      ap (λ (o : Option ℕ). if is_at k o then d ∷ [] else []) (kept_at holder c z d (omega arith))
  event_kept k n (event.Poll d want) next lt = refl
  event_kept k n (event.Head x response) next lt = refl
  event_kept k n (event.Piece x bytes) next lt = refl
  event_kept k n (event.End x) next lt = refl
  event_kept k n (event.Fault x) next lt = refl
  event_kept k n (event.Cancel d) next lt = refl
  event_kept k n (event.Doom d) next lt = refl

  pub consumers_kept : (last k : ℕ) (h : History) → AreClients last holder h → last + starts_in h < c →
      consumers_of (with c z holder) k h ≡ consumers_of holder k h
  consumers_kept last k [] are lt = refl
  consumers_kept last k (e ∷ h) are lt =
      let rest : consumers_of (with c z holder) k h ≡ consumers_of holder k h = consumers_kept last k h are.1 (omega arith) in
      let newest : consumer_by (with c z holder) k e.event ≡ consumer_by holder k e.event = event_kept k (last + starts_in h) e.event are.0 (omega arith) in
      rw (rest, newest) refl

module _ (holder : ℕ → Option ℕ) (k : ℕ) where
  -- THEY ARE ITS OWN

  its_both : (xs ys : List ℕ) → AreIts holder k xs → AreIts holder k ys → AreIts holder k (xs ++ ys)
  its_both [] ys a b = b
  its_both (x ∷ xs) ys a b = (a.0, its_both xs ys a.1 b)

  its_by : (ev : Event) → AreIts holder k (consumer_by holder k ev)
  its_by (event.Start c request) = by_test (is_at k (holder c)) refl
    where
      by_test : (b : Bool) → is_at k (holder c) ≡ b → AreIts holder k (if b then c ∷ [] else [])
      by_test true is = (is, tt)
      by_test false off = tt
  its_by (event.Poll c want) = tt
  its_by (event.Head x response) = tt
  its_by (event.Piece x bytes) = tt
  its_by (event.End x) = tt
  its_by (event.Fault x) = tt
  its_by (event.Cancel c) = tt
  its_by (event.Doom c) = tt

  pub consumers_its : (h : History) → AreIts holder k (consumers_of holder k h)
  consumers_its [] = tt
  consumers_its (e ∷ h) = its_both (consumers_of holder k h) (consumer_by holder k e.event) (consumers_its h) (its_by e.event)

  -- EACH BEHIND THOSE BEFORE IT

  below_both : (n : ℕ) (xs ys : List ℕ) → AreBelow n xs → AreBelow n ys → AreBelow n (xs ++ ys)
  below_both n [] ys a b = b
  below_both n (x ∷ xs) ys a b = (a.0, below_both n xs ys a.1 b)

  below_by : (n m : ℕ) (ev : Event) → IsNextStart holder n ev → n + count_by ev < m → AreBelow m (consumer_by holder k ev)
  below_by n m (event.Start c request) next lt = by_test (is_at k (holder c))
    where
      under : c < m
      under = let same : c ≡ n + 1 = next.0 in omega arith

      by_test : (b : Bool) → AreBelow m (if b then c ∷ [] else [])
      by_test true = (under, tt)
      by_test false = tt
  below_by n m (event.Poll c want) next lt = tt
  below_by n m (event.Head x response) next lt = tt
  below_by n m (event.Piece x bytes) next lt = tt
  below_by n m (event.End x) next lt = tt
  below_by n m (event.Fault x) next lt = tt
  below_by n m (event.Cancel c) next lt = tt
  below_by n m (event.Doom c) next lt = tt

  pub consumers_below : (last m : ℕ) (h : History) → AreClients last holder h → last + starts_in h < m → AreBelow m (consumers_of holder k h)
  consumers_below last m [] are lt = tt
  consumers_below last m (e ∷ h) are lt =
      below_both m (consumers_of holder k h) (consumer_by holder k e.event) (consumers_below last m h are.1 (omega arith))
      (below_by (last + starts_in h) m e.event are.0 (omega arith))
