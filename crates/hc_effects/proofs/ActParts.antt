-- What the parts of an answer say: what makes room, what is lost or closed, and what the consumer of a poll is told.
--
-- `IsAnswer` takes the acts of an accepted event apart, by its kind: what makes room, what is said, a loss, closings. A
-- part says nothing of most matters, so it is left out there: what asks goes by `asks_evicted` and its like, closings
-- by `closes_lost`, losses by `loses_closed`. What is said to a poll's consumer is by `said_is`, and isn't about others
-- (`far_other`). All are short inductions; most files on acts use them.
use Rattle.std.{proofs.{lemmas.Bool.Decides.{nat_tests}, Common.{arith, ◌≡◌, inl, inr, ℕ, List, [], ◌∷◌, ◌++◌, Bool, true, false, Option, Some, None, refl, ap, sym, ◌∙◌}}, specs.Prelude.{map, filter, ◌==◌, ◌||◌, nat_eq}}
use Rattle.hc_text.proofs.Basics.{bool_cases, some_inj as some_is}
use Rattle.hc_effects.proofs.Vocabulary.{Opening, opening_in, asks_in, closes_in, shows_in, given_in, leaves_in, evicts_in, Act, Event, Limits, loses_in, misreads_in, fails_in, leaver_in, wait_in, Showing, showing_in, accepted_acts, answer_acts, poll_acts, loss_acts, close_acts, Flaw, NoFlaw, Loses, Misreads, Move, Nothing, Opens, Shows, Gives, Ends, Fails, acts_of, poll_move, Tables, Consumer, evicted, act, event}
use Rattle.hc_event.specs.declared.act.Cause.TheVariants as cause
use Rattle.hc_effects.proofs.{PieceKeeps.{eq_cases}, PollKeys.{IsNear, near_polled}}

-- THE PARTS

-- the acts of an accepted event, by its kind
pub data IsAnswer (limits : Limits) (t : Tables) (now : ℕ) (ev : Event) (flaw : Flaw) : List Act → Type 0 where
  reported : answer_acts t now ev flaw ≡ [] →
      IsAnswer limits t now ev flaw (map act.Evicted (evicted limits t now ev) ++ (loss_acts flaw ++ close_acts t now ev flaw))
  asked : IsAnswer limits t now ev flaw (answer_acts t now ev flaw ++ (close_acts t now ev flaw ++ loss_acts flaw))

pub answer_is : (limits : Limits) (t : Tables) (now : ℕ) (ev : Event) (flaw : Flaw) → IsAnswer limits t now ev flaw (accepted_acts limits t now ev flaw)
answer_is limits t now (event.Poll c want) flaw = asked
answer_is limits t now (event.Cancel c) flaw = asked
answer_is limits t now _ flaw = reported refl

-- what is said to the consumer of a poll: nothing, its move, or that a read failed
pub data IsSaid (t : Tables) (now : ℕ) (ev : Event) (flaw : Flaw) : List Act → Type 0 where
  silent : IsSaid t now ev flaw []
  does : (c want : ℕ) (k : Consumer) (m : Move) → ev ≡ event.Poll c want → t.consumer c ≡ Some k → m ≡ poll_move t now want c (Some k) → IsNear t k m →
      IsSaid t now ev flaw (acts_of c m)
  misreads : (c want r : ℕ) → ev ≡ event.Poll c want → flaw ≡ Misreads r → IsSaid t now ev flaw (act.Failed c (cause.StoreRead r) ∷ [])

pub said_is : (t : Tables) (now : ℕ) (ev : Event) (flaw : Flaw) → IsSaid t now ev flaw (answer_acts t now ev flaw)
said_is t now (event.Poll c want) flaw = by_flaw flaw
  where
    by_row : (f : Flaw) (o : Option Consumer) → t.consumer c ≡ o → IsSaid t now (event.Poll c want) f (acts_of c (poll_move t now want c o))
    by_row f None row = silent
    by_row f (Some k) row = does c want k (poll_move t now want c (Some k)) refl row refl (near_polled t c k now want)

    by_flaw : (f : Flaw) → IsSaid t now (event.Poll c want) f (poll_acts t now want c f)
    by_flaw NoFlaw = by_row NoFlaw (t.consumer c) refl
    by_flaw (Loses r kind) = by_row (Loses r kind) (t.consumer c) refl
    by_flaw (Misreads r) = misreads c want r refl refl
said_is t now _ flaw = silent

-- WHAT NONE BUT A POLL SAYS

-- the acts ask, misread and open what these do
pub record AsksAs (x r : ℕ) (acts rest : List Act) : Type 0 where
  pub asks : asks_in x acts ≡ asks_in x rest
  pub misreads : misreads_in r acts ≡ misreads_in r rest
  pub opens : opening_in acts ≡ opening_in rest

pub asks_evicted : (x r : ℕ) (rs : List ℕ) (rest : List Act) → AsksAs x r (map act.Evicted rs ++ rest) rest
asks_evicted x r [] rest = record { asks = refl; misreads = refl; opens = refl }
asks_evicted x r (q ∷ rs) rest = let a = asks_evicted x r rs rest in record { asks = a.asks; misreads = a.misreads; opens = a.opens }

pub asks_closed : (x r : ℕ) (ys : List ℕ) (rest : List Act) → AsksAs x r (map act.Close ys ++ rest) rest
asks_closed x r [] rest = record { asks = refl; misreads = refl; opens = refl }
asks_closed x r (y ∷ ys) rest = let a = asks_closed x r ys rest in record { asks = a.asks; misreads = a.misreads; opens = a.opens }

pub asks_closes : (x r : ℕ) (ys : List ℕ) → AsksAs x r (map act.Close ys) []
asks_closes x r [] = record { asks = refl; misreads = refl; opens = refl }
asks_closes x r (y ∷ ys) = let a = asks_closes x r ys in record { asks = a.asks; misreads = a.misreads; opens = a.opens }

pub asks_lost : (x r : ℕ) (flaw : Flaw) (rest : List Act) → AsksAs x r (loss_acts flaw ++ rest) rest
asks_lost x r NoFlaw rest = record { asks = refl; misreads = refl; opens = refl }
asks_lost x r _ rest = record { asks = refl; misreads = refl; opens = refl }

pub asks_loss : (x r : ℕ) (flaw : Flaw) → AsksAs x r (loss_acts flaw) []
asks_loss x r NoFlaw = record { asks = refl; misreads = refl; opens = refl }
asks_loss x r _ = record { asks = refl; misreads = refl; opens = refl }

-- WHAT IS CLOSED, LOST AND EVICTED

-- what is closed
pub closes_evicted : (x : ℕ) (rs : List ℕ) (rest : List Act) → closes_in x (map act.Evicted rs ++ rest) ≡ closes_in x rest
closes_evicted x [] rest = refl
closes_evicted x (q ∷ rs) rest = closes_evicted x rs rest

pub closes_lost : (x : ℕ) (flaw : Flaw) (rest : List Act) → closes_in x (loss_acts flaw ++ rest) ≡ closes_in x rest
closes_lost x flaw rest = grind (arith, nat_tests)

pub closes_before : (x : ℕ) (ys : List ℕ) (flaw : Flaw) → closes_in x (map act.Close ys ++ loss_acts flaw) ≡ closes_in x (map act.Close ys)
closes_before x [] NoFlaw = refl
closes_before x [] _ = refl
closes_before x (y ∷ ys) flaw = ap (λ b. (y == x) || b) (closes_before x ys flaw)

-- what fails the test isn't closed
pub closes_filter : (x : ℕ) (test : ℕ → Bool) (ys : List ℕ) → test x ≡ false → closes_in x (map act.Close (filter test ys)) ≡ false
closes_filter x test [] fails = refl
closes_filter x test (y ∷ ys) fails = elim (bool_cases (test y)) [
  | inr not_it ↦ rw not_it (closes_filter x test ys fails)
  | inl passes ↦ rw passes (elim (eq_cases y x) [
    | inl here ↦ absurd (let never : true ≡ false = sym passes ∙ (ap test here.1 ∙ fails) in cc)
    | inr other ↦ rw other.0 (closes_filter x test ys fails)
  ])
]

-- what is lost
pub loses_evicted : (r : ℕ) (rs : List ℕ) (rest : List Act) → loses_in r (map act.Evicted rs ++ rest) ≡ loses_in r rest
loses_evicted r [] rest = refl
loses_evicted r (q ∷ rs) rest = loses_evicted r rs rest

pub loses_closed : (r : ℕ) (ys : List ℕ) (rest : List Act) → loses_in r (map act.Close ys ++ rest) ≡ loses_in r rest
loses_closed r [] rest = refl
loses_closed r (y ∷ ys) rest = loses_closed r ys rest

loses_closes : (r : ℕ) (ys : List ℕ) → loses_in r (map act.Close ys) ≡ false
loses_closes r [] = refl
loses_closes r (y ∷ ys) = loses_closes r ys

pub loses_before : (r : ℕ) (flaw : Flaw) (ys : List ℕ) → loses_in r (loss_acts flaw ++ map act.Close ys) ≡ loses_in r (loss_acts flaw)
loses_before r (Loses q kind) ys = ap (λ b. (q == r) || b) (loses_closes r ys)
loses_before r _ ys = loses_closes r ys

-- what makes room
pub evicts_closes : (r : ℕ) (ys : List ℕ) → evicts_in r (map act.Close ys) ≡ false
evicts_closes r [] = refl
evicts_closes r (y ∷ ys) = evicts_closes r ys

pub evicts_lost : (r : ℕ) (flaw : Flaw) (rest : List Act) → evicts_in r (loss_acts flaw ++ rest) ≡ evicts_in r rest
evicts_lost r flaw rest = grind (arith, nat_tests)

pub evicts_closed : (r : ℕ) (ys : List ℕ) (flaw : Flaw) → evicts_in r (map act.Close ys ++ loss_acts flaw) ≡ false
evicts_closed r [] NoFlaw = refl
evicts_closed r [] _ = refl
evicts_closed r (y ∷ ys) flaw = evicts_closed r ys flaw

-- each of them has this
abbrev pub AllPass : (ℕ → Type 0) → List ℕ → Type 0
AllPass P [] = Unit {0}
AllPass P (r ∷ rs) = P r × AllPass P rs

-- what all that makes room has, what is evicted has
pub evicts_all : (r : ℕ) (rs : List ℕ) (rest : List Act) (P : ℕ → Type 0) → AllPass P rs → evicts_in r rest ≡ false → evicts_in
    r (map act.Evicted rs ++ rest) ≡ true → P r
evicts_all r [] rest P all none h = absurd (let never : false ≡ true = sym none ∙ h in cc)
evicts_all r (q ∷ rs) rest P all none h = elim (eq_cases q r) [
  | inl here ↦ rw (sym here.1) all.0
  | inr other ↦ evicts_all r rs rest P all.1 none (rw other.0 at h)
]

-- what is said neither closes, loses nor evicts
pub record ClosesAs (x r : ℕ) (acts rest : List Act) : Type 0 where
  pub closes : closes_in x acts ≡ closes_in x rest
  pub loses : loses_in r acts ≡ loses_in r rest
  pub evicts : evicts_in r acts ≡ evicts_in r rest

pub move_closes : (x r c : ℕ) (m : Move) (rest : List Act) → ClosesAs x r (acts_of c m ++ rest) rest
move_closes x r c Nothing rest = record { closes = refl; loses = refl; evicts = refl }
move_closes x r c _ rest = record { closes = refl; loses = refl; evicts = refl }

pub said_closes : (x r : ℕ) (t : Tables) (now : ℕ) (ev : Event) (flaw : Flaw) (acts rest : List Act) → IsSaid t now ev flaw acts →
    ClosesAs x r (acts ++ rest) rest
said_closes x r t now ev flaw _ rest silent = record { closes = refl; loses = refl; evicts = refl }
said_closes x r t now ev flaw _ rest (does c want k m at row is near) = move_closes x r c m rest
said_closes x r t now ev flaw _ rest (misreads c want q at is) = record { closes = refl; loses = refl; evicts = refl }

-- WHAT IS SAID TO ONE CONSUMER

-- nothing of these is about c
pub record IsFarFrom (c : ℕ) (acts : List Act) : Type 0 where
  pub waits : wait_in c acts ≡ None
  pub leaves : leaves_in c acts ≡ false
  pub fails : fails_in c acts ≡ false
  pub shows : shows_in c acts ≡ false
  pub given : given_in c acts ≡ []
  pub opens : (o : Opening) → opening_in acts ≡ Some o → nat_eq o.c c ≡ false
  pub showing : (s : Showing) → showing_in acts ≡ Some s → nat_eq s.c c ≡ false

far_nil : (c : ℕ) → IsFarFrom c []
far_nil c = record {
  waits = refl;
  leaves = refl;
  fails = refl;
  shows = refl;
  given = refl;
  opens = λ o h. absurd (let never : None ≡ Some o = h in cc);
  showing = λ s h. absurd (let never : None ≡ Some s = h in cc);
}

pub far_loss : (c : ℕ) (flaw : Flaw) (rest : List Act) → IsFarFrom c rest → IsFarFrom c (loss_acts flaw ++ rest)
far_loss c (Loses r kind) rest far =
    record { waits = far.waits; leaves = far.leaves; fails = far.fails; shows = far.shows; given = far.given; opens = far.opens; showing = far.showing }
far_loss c _ rest far = far

pub far_lost_only : (c : ℕ) (flaw : Flaw) → IsFarFrom c (loss_acts flaw)
far_lost_only c (Loses r kind) = let far = far_nil c in
    record { waits = refl; leaves = refl; fails = refl; shows = refl; given = refl; opens = far.opens; showing = far.showing }
far_lost_only c _ = far_nil c

pub far_closing : (c : ℕ) (ys : List ℕ) (rest : List Act) → IsFarFrom c rest → IsFarFrom c (map act.Close ys ++ rest)
far_closing c [] rest far = far
far_closing c (y ∷ ys) rest far = let f = far_closing c ys rest far in
    record { waits = f.waits; leaves = f.leaves; fails = f.fails; shows = f.shows; given = f.given; opens = f.opens; showing = f.showing }

pub far_closed : (c : ℕ) (ys : List ℕ) → IsFarFrom c (map act.Close ys)
far_closed c [] = far_nil c
far_closed c (y ∷ ys) = let f = far_closed c ys in
    record { waits = f.waits; leaves = f.leaves; fails = f.fails; shows = f.shows; given = f.given; opens = f.opens; showing = f.showing }

pub far_evicted : (c : ℕ) (rs : List ℕ) (rest : List Act) → IsFarFrom c rest → IsFarFrom c (map act.Evicted rs ++ rest)
far_evicted c [] rest far = far
far_evicted c (r ∷ rs) rest far = let f = far_evicted c rs rest far in
    record { waits = f.waits; leaves = f.leaves; fails = f.fails; shows = f.shows; given = f.given; opens = f.opens; showing = f.showing }

pub far_other : (c d : ℕ) (m : Move) (rest : List Act) → nat_eq d c ≡ false → IsFarFrom c rest → IsFarFrom c (acts_of d m ++ rest)
far_other c d Nothing rest other far = far
far_other c d (Opens x n request) rest other far = record {
  waits = rw other far.waits;
  leaves = far.leaves;
  fails = far.fails;
  shows = far.shows;
  given = far.given;
  opens = λ o h. ap (λ (q : Opening). nat_eq q.c c) (sym (some_is _ o h)) ∙ other;
  showing = far.showing;
}
far_other c d (Shows r why head lo hi) rest other far = record {
  waits = far.waits;
  leaves = far.leaves;
  fails = far.fails;
  shows = rw other far.shows;
  given = far.given;
  opens = far.opens;
  showing = λ s h. ap (λ (q : Showing). nat_eq q.c c) (sym (some_is _ s h)) ∙ other;
}
far_other c d (Gives run) rest other far =
    record {
      waits = far.waits;
      leaves = far.leaves;
      fails = far.fails;
      shows = far.shows;
      given = rw other far.given;
      opens = far.opens;
      showing =
          far.showing;
    }
far_other c d Ends rest other far =
    record {
      waits = far.waits;
      leaves = rw other far.leaves;
      fails = far.fails;
      shows = far.shows;
      given = far.given;
      opens = far.opens;
      showing =
          far.showing;
    }
far_other c d (Fails cause) rest other far =
    record {
      waits = far.waits;
      leaves = rw other far.leaves;
      fails = rw other far.fails;
      shows = far.shows;
      given = far.given;
      opens = far.opens;
      showing = far.showing;
    }
far_other c d _ rest other far =
    record {
      waits = rw other far.waits;
      leaves = far.leaves;
      fails = far.fails;
      shows = far.shows;
      given = far.given;
      opens = far.opens;
      showing =
          far.showing;
    }

pub far_said : (c : ℕ) (t : Tables) (now : ℕ) (ev : Event) (flaw : Flaw) (acts rest : List Act) →
    ((d want : ℕ) → ev ≡ event.Poll d want → nat_eq d c ≡ false) → IsSaid t now ev flaw acts → IsFarFrom c rest → IsFarFrom c (acts ++ rest)
far_said c t now ev flaw _ rest other silent far = far
far_said c t now ev flaw _ rest other (does d want k m at row is near) far = far_other c d m rest (other d want at) far
far_said c t now ev flaw _ rest other (misreads d want q at is) far = far_other c d (Fails (cause.StoreRead q)) rest (other d want at) far

-- WHO LEAVES

pub leaver_lost : (flaw : Flaw) → leaver_in (loss_acts flaw) ≡ None
leaver_lost flaw = grind (arith, nat_tests)
