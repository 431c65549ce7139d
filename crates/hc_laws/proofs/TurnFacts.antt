-- What an entry of a run says: which exchanges it closes, what is lost or evicted, and what a poll tells its consumer.
--
-- The acts of an owed entry that isn't denied (`IsTaken`) have parts, and each part is looked at by itself. What must
-- be closed is, and nothing else (`is_closed`, `stays_open`). What is lost is what the flaw says (`loses_as`). Closings
-- see the same case and the same doom as the entry (`same_case`, `same_doom`). A poll tells its consumer what its move
-- is, or that a read fails (`at_poll`). To others nothing is told (`far_from`).
use Rattle.std.{proofs.{lemmas.Bool.Decides.{nat_tests}, Common.{arith, ◌≡◌, ◌⊎◌, inl, inr, ℕ, List, [], ◌∷◌, ◌++◌, Bool, true, false, Option, Some, None, refl, ap, sym, ◌∙◌, subst}}, specs.Prelude.{◌&&◌, not, ◌||◌, ◌==◌, nat_eq, map, filter, reverse}}
use Rattle.hc_text.proofs.Basics.{bool_cases, or_cases, or_right as or_yes}
use mathlib.Core.List.{reverse_aux}
use Rattle.hc_effects.proofs.Vocabulary.{is_denied, closes_in, evicts_in, opening_in, leaves_in, Act, Event, Response, Limits, loses_in, has_loss, misreads_in, fails_in, accepted_acts, answer_acts, loss_acts, close_acts, case_at, case_of, closing, closes_row, must_close, doomed_key_of, doomed_in, doomed_by_head, doomed_by_case, Entry, exchange_heard, Flaw, NoFlaw, Loses, Misreads, flaw_in, Turns, Move, acts_of, poll_move, Tables, Exchange, Representation, is_keepable, Consumer, IsOwed, may_stand, may_be, Sound, Among, evicted, act}
use Rattle.hc_event.specs.declared.act.Cause.TheVariants as cause
use Rattle.hc_event.specs.declared.event.Event.TheVariants as event
use Rattle.hc_effects.proofs.{ActParts.{IsAnswer, IsSaid, IsFarFrom, answer_is, said_is, asks_evicted, asks_closed, asks_closes, asks_lost, asks_loss, closes_evicted, closes_lost, closes_before, loses_evicted, loses_closed, loses_before, evicts_closed, said_closes, far_loss, far_lost_only, far_closing, far_closed, far_evicted, far_said}, Owed.{acts_are}, PieceKeeps.{eq_cases}, TurnMoves.{Does, does_polled}, SaidActs.{closes_lose, all_lose, evicted_lose}}
use Rattle.hc_effects.proofs.ActParts as parts

-- LISTS

among_aux : (x : ℕ) (xs ys : List ℕ) → Among x xs ⊎ Among x ys → Among x (reverse_aux xs ys)
among_aux x [] ys (inl here) = absurd here
among_aux x [] ys (inr there) = there
among_aux x (y ∷ xs) ys (inl (inl here)) = among_aux x xs (y ∷ ys) (inr (inl here))
among_aux x (y ∷ xs) ys (inl (inr there)) = among_aux x xs (y ∷ ys) (inl there)
among_aux x (y ∷ xs) ys (inr there) = among_aux x xs (y ∷ ys) (inr (inr there))

pub eq-refl : (x : ℕ) → (x == x) ≡ true
eq-refl x = elim (eq_cases x x) [ inl same ↦ same.0 | inr other ↦ absurd (other.1 refl) ]

-- what passes the test and is in the list is closed
closes_passing : (x : ℕ) (test : ℕ → Bool) (ys : List ℕ) → Among x ys → test x ≡ true → closes_in x (map act.Close (filter test ys)) ≡ true
closes_passing x test [] among passes = absurd among
closes_passing x test (y ∷ ys) (inl here) passes = grind (arith, nat_tests)
closes_passing x test (y ∷ ys) (inr there) passes = elim (bool_cases (test y)) [
  | inl also ↦ rw also (or_yes (y == x) _ (closes_passing x test ys there passes))
  | inr fails ↦ rw fails (closes_passing x test ys there passes)
]

-- LOSSES

loss_before : (flaw : Flaw) (ys : List ℕ) → has_loss (loss_acts flaw ++ map act.Close ys) ≡ has_loss (loss_acts flaw)
loss_before (Loses r kind) ys = refl
loss_before _ ys = all_lose ys

loss_said : (t : Tables) (now : ℕ) (ev : Event) (flaw : Flaw) (acts rest : List Act) → IsSaid t now ev flaw acts → has_loss (acts ++ rest) ≡ has_loss rest
loss_said t now ev flaw acts rest it6 = grind (arith, nat_tests)

-- who fails leaves
pub fails_leaves : (c : ℕ) (acts : List Act) → fails_in c acts ≡ true → leaves_in c acts ≡ true
fails_leaves c [] h = absurd (let no_one : false ≡ true = h in cc)
fails_leaves c (act.Failed d cause ∷ acts) h = elim (or_cases (d == c) (fails_in c acts) h) [
  | inl here ↦ rw here refl
  | inr there ↦ or_yes (d == c) (leaves_in c acts) (fails_leaves c acts there)
]
fails_leaves c (act.Ended d ∷ acts) h = or_yes (d == c) (leaves_in c acts) (fails_leaves c acts h)
fails_leaves c (_ ∷ acts) h = fails_leaves c acts h

may_of : (limits : Limits) (t : Tables) (e : Entry) → is_denied e.acts ≡ false → may_stand limits t e ≡ true → may_be limits t e (flaw_in e.acts) ≡ true
unfolding may_stand
may_of limits t e not_denied stands = rw not_denied at stands

-- it is a consumer's own
abbrev pub is_asking : Event → Bool
is_asking (event.Poll c want) = true
is_asking (event.Cancel c) = true
is_asking _ = false

-- where there is no cause to go, nothing goes
pub none_goes : (v : Representation) (b : Bool) → (b && (false || false) || false || false || false || (false && not (is_keepable v)) || false) ≡ false
none_goes v b = grind (arith, nat_tests)

-- an owed entry that isn't denied
pub record IsTaken (limits : Limits) (t : Tables) (e : Entry) : Type 0 where
  pub owed : IsOwed limits t e
  pub not_denied : is_denied e.acts ≡ false

module _ (limits : Limits) (t : Tables) (e : Entry) (taken : IsTaken limits t e) where
  abbrev flaw : Flaw
  flaw = flaw_in e.acts

  abbrev asked_of : List Act
  asked_of = answer_acts t e.now e.event flaw

  pub acts_is : e.acts ≡ accepted_acts limits t e.now e.event flaw
  acts_is = acts_are limits t e taken.owed taken.not_denied

  -- what closings look at
  abbrev pub seen : Entry
  seen = record { now = e.now; event = e.event; acts = answer_acts t e.now e.event (flaw_in e.acts) ++ loss_acts (flaw_in e.acts) }

  abbrev closings : List ℕ
  closings = closing t seen

  abbrev answered : List Act → Type 0
  answered acts = IsAnswer limits t e.now e.event flaw acts

  is_answer : answered (accepted_acts limits t e.now e.event flaw)
  is_answer = answer_is limits t e.now e.event flaw

  said_here : IsSaid t e.now e.event flaw asked_of
  said_here = said_is t e.now e.event flaw

  -- CLOSED

  closes_by : (x : ℕ) (acts : List Act) → answered acts → closes_in x acts ≡ closes_in x (map act.Close closings)
  closes_by x _ (parts.reported silent) = closes_evicted x (evicted limits t e.now e.event) _ ∙ closes_lost x flaw _
  closes_by x _ parts.asked = (said_closes x 0 t e.now e.event flaw asked_of _ said_here).closes ∙ closes_before x closings flaw

  pub closes_as : (x : ℕ) → closes_in x e.acts ≡ closes_in x (map act.Close closings)
  closes_as x = ap (closes_in x) acts_is ∙ closes_by x _ is_answer

  -- what must be closed is
  pub is_closed : (x : ℕ) (w : Exchange) → Among x t.openings → t.exchange x ≡ Some w → must_close t seen x w ≡ true →
      (exchange_heard t seen x e.event w).is_open ≡ true → closes_in x e.acts ≡ true
  unfolding closing
  is_closed x w among row must open_yet = grind (arith, nat_tests, seen, closes_as, closes_passing, among_aux)

  -- and what needn't isn't
  pub stays_open : (x : ℕ) → ((w : Exchange) → t.exchange x ≡ Some w → must_close t seen x w ≡ false) → closes_in x e.acts ≡ false
  unfolding closing
  stays_open x free = closes_as x ∙ parts.closes_filter x (λ y. closes_row t seen y (t.exchange y)) (reverse t.openings) (by_row (t.exchange x) refl)
    where
      by_row : (o : Option Exchange) → t.exchange x ≡ o → closes_row t seen x o ≡ false
      by_row o row = grind (arith, nat_tests)

  -- THE CASE OF A HEAD

  loss_by : (acts : List Act) → answered acts → has_loss acts ≡ has_loss (loss_acts flaw)
  loss_by _ (parts.reported silent) = evicted_lose (evicted limits t e.now e.event) _ ∙ loss_before flaw closings
  loss_by _ parts.asked = loss_said t e.now e.event flaw asked_of _ said_here ∙ closes_lose closings (loss_acts flaw)

  pub loss_as : has_loss e.acts ≡ has_loss (loss_acts flaw)
  loss_as = ap has_loss acts_is ∙ loss_by _ is_answer

  pub loss_seen : has_loss seen.acts ≡ has_loss e.acts
  loss_seen = loss_said t e.now e.event flaw asked_of (loss_acts flaw) said_here ∙ sym loss_as

  pub same_case : case_at t e ≡ case_at t seen
  same_case = ap (λ b. case_of t b e.event) (loss_as ∙ sym (loss_said t e.now e.event flaw asked_of (loss_acts flaw) said_here))

  pub same_doom : doomed_key_of t e ≡ doomed_key_of t seen
  unfolding doomed_key_of
  same_doom = by_event e.event
    where
      by_row : (response : Response) (o : Option Exchange) → doomed_by_head t e response o ≡ doomed_by_head t seen response o
      by_row response None = refl
      by_row response (Some w) = ap (λ z. doomed_by_case z w response) same_case

      by_event : (ev : Event) → doomed_in t e ev ≡ doomed_in t seen ev
      by_event (event.Head x response) = by_row response (t.exchange x)
      by_event _ = refl

  -- LOST, EVICTED, MISREAD

  loses_by : (r : ℕ) (acts : List Act) → answered acts → loses_in r acts ≡ loses_in r (loss_acts flaw)
  loses_by r _ (parts.reported silent) = loses_evicted r (evicted limits t e.now e.event) _ ∙ loses_before r flaw closings
  loses_by r _ parts.asked = (said_closes 0 r t e.now e.event flaw asked_of _ said_here).loses ∙ loses_closed r closings (loss_acts flaw)

  pub loses_as : (r : ℕ) → loses_in r e.acts ≡ loses_in r (loss_acts (flaw_in e.acts))
  loses_as r = ap (loses_in r) acts_is ∙ loses_by r _ is_answer

  pub may_be_so : may_be limits t e (flaw_in e.acts) ≡ true
  may_be_so = may_of limits t e taken.not_denied taken.owed.flaw

  evicts_poll : (r : ℕ) (ev : Event) → is_asking ev ≡ true → evicts_in r (accepted_acts limits t e.now ev flaw) ≡ false
  evicts_poll r ev h = grind (arith, nat_tests, said_closes, said_is, evicts_closed, closing)

  asked_by : (r : ℕ) (ev : Event) → e.event ≡ ev → is_asking ev ≡ true → evicts_in r e.acts ≡ false
  asked_by r ev at h = grind (arith, nat_tests, acts_is, evicts_poll)

  pub evicts_asked : (r : ℕ) → is_asking e.event ≡ true → evicts_in r e.acts ≡ false
  evicts_asked r h = asked_by r e.event refl h

  -- OTHER CONSUMERS

  pub far_from : (c : ℕ) → ((want : ℕ) → e.event ≡ event.Poll c want → ⊥) → IsFarFrom c e.acts
  far_from c other = subst (IsFarFrom c) (sym acts_is) (by_answer _ is_answer)
    where
      apart : (d want : ℕ) → e.event ≡ event.Poll d want → nat_eq d c ≡ false
      apart d want at = grind (arith, nat_tests)

      by_answer : (acts : List Act) → answered acts → IsFarFrom c acts
      by_answer _ (parts.reported silent) = far_evicted c (evicted limits t e.now e.event) _ (far_loss c flaw _ (far_closed c closings))
      by_answer _ parts.asked = far_said c t e.now e.event flaw asked_of _ apart said_here (far_closing c closings _ (far_lost_only c flaw))

  -- A POLL

  reported_by : (x r : ℕ) (acts : List Act) → answered acts → answer_acts t e.now e.event flaw ≡ [] → is_asking e.event ≡ false → parts.AsksAs x r acts []
  reported_by x r _ (parts.reported silent) none asks =
      let a = asks_evicted x r (evicted limits t e.now e.event) (loss_acts flaw ++ map act.Close closings) in
      let b = asks_lost x r flaw (map act.Close closings) in
      let d = asks_closes x r closings in
      record { asks = a.asks ∙ (b.asks ∙ d.asks); misreads = a.misreads ∙ (b.misreads ∙ d.misreads); opens = a.opens ∙ (b.opens ∙ d.opens) }
  reported_by x r _ parts.asked none asks =
      let a = asks_closed x r closings (loss_acts flaw) in
      grind (arith, nat_tests)

  -- an event from outside asks, opens and misreads nothing
  pub reported_quiet : (x r : ℕ) → answer_acts t e.now e.event (flaw_in e.acts) ≡ [] → is_asking e.event ≡ false → parts.AsksAs x r e.acts []
  reported_quiet x r none asks = subst (λ acts. parts.AsksAs x r acts []) (sym acts_is) (reported_by x r _ is_answer none asks)

  evicts_by : (r : ℕ) (acts : List Act) → answered acts → evicted limits t e.now e.event ≡ [] → evicts_in r acts ≡ false
  evicts_by r _ (parts.reported silent) none = ap (λ rs. evicts_in r (map act.Evicted rs ++ (loss_acts flaw ++ map act.Close closings))) none ∙
      (parts.evicts_lost r flaw _ ∙ parts.evicts_closes r closings)
  evicts_by r _ parts.asked none = (said_closes 0 r t e.now e.event flaw asked_of _ said_here).evicts ∙ evicts_closed r closings flaw

  -- where nothing gives way, nothing is evicted
  pub evicts_none : (r : ℕ) → evicted limits t e.now e.event ≡ [] → evicts_in r e.acts ≡ false
  evicts_none r none = ap (evicts_in r) acts_is ∙ evicts_by r _ is_answer none

  pub misreads_behind : (r : ℕ) → misreads_in r (map act.Close (closing t seen) ++ loss_acts (flaw_in e.acts)) ≡ false
  misreads_behind r = (asks_closed 0 r closings _).misreads ∙ (asks_loss 0 r flaw).misreads

  -- what is said behind what is said to the consumer
  abbrev pub behind : List Act
  behind = map act.Close (closing t seen) ++ loss_acts (flaw_in e.acts)

  pub far_behind : (c : ℕ) → IsFarFrom c behind
  far_behind c = far_closing c closings _ (far_lost_only c flaw)

  pub opens_behind : opening_in behind ≡ None
  opens_behind = (asks_closed 0 0 closings _).opens ∙ (asks_loss 0 0 flaw).opens

  -- of its consumer
  pub data AtPoll (c : ℕ) (k : Consumer) : Type 0 where
    moves_on : (want : ℕ) (m : Move) → e.event ≡ event.Poll c want → m ≡ poll_move t e.now want c (Some k) → Does t c k m → e.acts ≡ acts_of c m ++
        behind → seen.acts ≡ acts_of c m ++ loss_acts (flaw_in e.acts) → AtPoll c k
    misreads : (want r : ℕ) → e.event ≡ event.Poll c want → e.acts ≡ act.Failed c (cause.StoreRead r) ∷ behind →
        seen.acts ≡ act.Failed c (cause.StoreRead r) ∷ loss_acts (flaw_in e.acts) → AtPoll c k

  pub at_poll : (c want : ℕ) (k : Consumer) → Sound t → Turns t → t.consumer c ≡ Some k → e.event ≡ event.Poll c want → AtPoll c k
  at_poll c want k s turns row at = by_flaw flaw refl
    where
      by_asked : (ev : Event) → ev ≡ event.Poll c want → accepted_acts limits t e.now ev flaw ≡ answer_acts t e.now ev flaw ++
          (close_acts t e.now ev flaw ++ loss_acts flaw)
      by_asked ev is = subst (λ z. accepted_acts limits t e.now z flaw ≡ answer_acts t e.now z flaw ++ (close_acts t e.now z flaw ++ loss_acts flaw))
          (sym is) refl

      by_move : (f : Flaw) → flaw ≡ f → answer_acts t e.now (event.Poll c want) f ≡ acts_of c (poll_move t e.now want c (t.consumer c)) → AtPoll c k
      by_move f is says =
          let m = poll_move t e.now want c (Some k) in
          let here : asked_of ≡ acts_of c m = ap (λ z. answer_acts t e.now z flaw) at ∙
          (ap (answer_acts t e.now (event.Poll c want)) is ∙ (says ∙ ap (λ o. acts_of c (poll_move t e.now want c o)) row)) in
          let all : e.acts ≡ asked_of ++ behind = acts_is ∙ by_asked e.event at in
          moves_on want m at refl (does_polled t c k s turns row e.now want) (all ∙ ap (λ acts. acts ++ behind) here) (ap (λ acts. acts ++ loss_acts flaw) here)

      by_flaw : (f : Flaw) → flaw ≡ f → AtPoll c k
      by_flaw NoFlaw is = by_move NoFlaw is refl
      by_flaw (Loses r kind) is = by_move (Loses r kind) is refl
      by_flaw (Misreads r) is =
          let here : asked_of ≡ act.Failed c (cause.StoreRead r) ∷ [] = ap (λ z. answer_acts t e.now z flaw) at ∙
          ap (answer_acts t e.now (event.Poll c want)) is in
          misreads want r at (acts_is ∙ (by_asked e.event at ∙ ap (λ acts. acts ++ behind) here)) (ap (λ acts. acts ++ loss_acts flaw) here)
