-- An exchange isn't asked before its head has come, and not yet behind that or a piece of it, in every run.
--
-- Only a poll asks, and for the exchange from which its consumer reads. Where that has no head it isn't written for
-- several, so it is the consumer's own. But who waits for the head of its own is told so, and asks nothing. So what has
-- no head wasn't asked, at the beginning and after each entry. A piece takes the asking away, and the acts of a head or
-- a piece ask nothing.
use Rattle.std.{proofs.Common.{◌≡◌, inl, inr, ℕ, [], ◌∷◌, ◌++◌, Bool, true, false, Option, Some, None, refl, ap, sym, ◌∙◌, subst}, specs.{Prelude.{is_some, if◌then◌else◌, ◌==◌, ◌||◌}, Option.{option_or}}}
use Rattle.hc_text.proofs.Basics.{bool_cases, not_some as none_some, same_some as same_row, some_inj}
use Rattle.hc_effects.proofs.Vocabulary.{Opening, opening_in, asks_in, Event, Response, head_refusal, Limits, Place, accepted_acts, answer_acts, loss_acts, closing, denial, as_open, is_live, Entry, exchange_after, exchange_acted, exchange_heard, exchange_made, exchange_opened, with_head, with_piece, exchange_in, is_headless, flaw_in, entry_of, OfRuns, OfHistories, Turns, Move, Asks, acts_of, Owners, poll_move, is_written, own_open, shared_exchange, group_in, source, Tables, Exchange, Representation, Consumer, Sound, tables, after_accepted, brings_body, wait, place}
use Rattle.hc_event.specs.declared.event.Event.TheVariants as event
use Rattle.hc_rules.specs.Refusals as refusals
use Rattle.hc_model.specs.Asking.{AsksAnew}
use Rattle.hc_model.specs.Moves as moves
use Rattle.hc_effects.proofs.{AboutKeeps.{own_open_of}, ActParts.{asks_closed, asks_loss}, Basics.{false_true, some_none}, EventsKeep.{poll_live}, Owed.{goes}, PieceKeeps.{eq_cases}, PollKeys.{IsNear, near_polled}}
use Rattle.hc_laws.proofs.{Barred.{next_tables}, InRuns.{IsTurned, turned_in_runs}, RunFacts.{in_runs_with}, SoundRuns.{carried}, TurnFacts.{moves_on, misreads, acts_is, IsTaken, AtPoll, at_poll, reported_quiet, is_asking, behind, seen}, TurnStays.{head_opens, head_none, polls_head}}
use Rattle.hc_effects.proofs.PollKeys as near

-- what has no head wasn't asked
pub record AreUnasked (t : Tables) : Type 0 where
  pub bare : (x : ℕ) (w : Exchange) → t.exchange x ≡ Some w → w.head ≡ None → w.asked ≡ false

-- what an event says of an exchange that stays without a head
module _ (t : Tables) (e : Entry) (x : ℕ) (w : Exchange) where
  abbrev IsBare : Exchange → Type 0
  IsBare z = z.head ≡ None → (w.head ≡ None) × (z.asked ≡ false)

  heard_bare : (ev : Event) → (w.head ≡ None → w.asked ≡ false) → IsBare (exchange_heard t e x ev w)
  heard_bare (event.Head y response) was bare = by_test (y == x) bare
    where
      by_test : (b : Bool) → IsBare (if b then with_head t e response w else w)
      by_test true bare = absurd (some_none response bare)
      by_test false bare = (bare, was bare)
  heard_bare (event.Piece y bytes) was bare = by_test (y == x) bare
    where
      by_test : (b : Bool) → IsBare (if b then with_piece bytes w else w)
      by_test true bare = (bare, refl)
      by_test false bare = (bare, was bare)
  heard_bare (event.End y) was bare = by_test (y == x) bare
    where
      by_test : (b : Bool) → IsBare (if b then record w { is_ended = true; is_open = false } else w)
      by_test true bare = (bare, was bare)
      by_test false bare = (bare, was bare)
  heard_bare (event.Fault y) was bare = by_test (y == x) bare
    where
      by_test : (b : Bool) → IsBare (if b then record w { is_open = false } else w)
      by_test true bare = (bare, was bare)
      by_test false bare = (bare, was bare)
  heard_bare _ was bare = (bare, was bare)

-- WHO ASKS

asks_from : (t : Tables) (k : Consumer) (x : ℕ) (m : Move) → IsNear t k m → m ≡ Asks x → source t k ≡ Some x
asks_from t k x _ (near.asks y from) is = from ∙ ap Some (let same : y ≡ x = cc in same)
asks_from t k x _ _ is = cc

module _ (t : Tables) (s : Sound t) (o : Owners t) (turns : Turns t) (now c want x : ℕ) (k : Consumer) (w : Exchange) (row : t.consumer c ≡ Some k)
    (w_row : t.exchange x ≡ Some w) (bare : w.head ≡ None) where
  -- a writing for several has its head
  shared_not : (v : Representation) (r : ℕ) → t.representation r ≡ Some v → is_written t v ≡ true → v.writer ≡ Some x → ⊥
  shared_not v r there on writer =
      let g = (s.rows r v there).growing x on writer in
      false_true (sym (ap (λ (z : Option Response). is_some z) bare) ∙
      (ap (λ (z : Exchange). is_some z.head) (same_row (t.exchange x) w g.0 w_row g.1.row) ∙ g.1.headed))

  group_not : (r : ℕ) (q : Option Representation) → t.representation r ≡ q → group_in t q ≡ Some x → ⊥
  group_not r None there is = none_some x is
  group_not r (Some v) there is = elim (bool_cases (is_written t v)) [
    | inl on ↦ shared_not v r there on (rw on at is)
    | inr off ↦ none_some x (rw off at is)
  ]

  member_not : (p : Place) → shared_exchange t p ≡ Some x → ⊥
  member_not (place.Bound r lo hi how) is = group_not r (t.representation r) refl is
  member_not _ is = none_some x is

  -- its own consumer is told to wait for the head
  own_not : own_open t k ≡ Some x → poll_move t now want c (Some k) ≡ Asks x → ⊥
  own_not own asks =
      let is = own_open_of t k x own in
      let opened : w.is_open ≡ true = ap (λ (z : Exchange). z.is_open) (same_row (t.exchange x) w is.w w_row is.row) ∙ is.opened in
      let headless : is_headless (Some w) ≡ true = rw (opened, bare) refl in
      let it = turns.awaited x w w_row headless in
      let c_is : w.c ≡ c = o.one w.c c x it.k k it.row row it.own is.own in
      let one : it.k ≡ k = same_row (t.consumer c) it.k k (sym (ap t.consumer c_is) ∙ it.row) row in
      let waits : poll_move t now want c (Some k) ≡ moves.Waits (wait.Head x) =
      subst (λ n. poll_move t now want n (Some k) ≡ moves.Waits (wait.Head x)) c_is
      (subst (λ (q : Consumer). poll_move t now want w.c (Some q) ≡ moves.Waits (wait.Head x)) one (polls_head t s turns x w w_row headless now want)) in
      let no : moves.Waits (wait.Head x) ≡ Asks x = sym waits ∙ asks in
      cc

  asks_not : poll_move t now want c (Some k) ≡ Asks x → ⊥
  asks_not asks = by_own (own_open t k) refl (asks_from t k x (poll_move t now want c (Some k)) (near_polled t c k now want) asks)
    where
      by_own : (q : Option ℕ) → own_open t k ≡ q → option_or q (shared_exchange t k.place) ≡ Some x → ⊥
      by_own None own from = member_not k.place from
      by_own (Some y) own from = own_not (own ∙ from) asks

-- AN ENTRY

module _ (limits : Limits) (t : Tables) (e : Entry) (taken : IsTaken limits t e) (s : Sound t) (o : Owners t) (turns : Turns t) (are : AreUnasked t) where
  abbrev u : Tables
  u = after_accepted t e

  behind_asks : (x : ℕ) → asks_in x (behind limits t e taken) ≡ false
  behind_asks x = (asks_closed x 0 (closing t (seen limits t e taken)) _).asks ∙ (asks_loss x 0 (flaw_in e.acts)).asks

  move_asks : (x c : ℕ) (m : Move) → (m ≡ Asks x → ⊥) → asks_in x (acts_of c m ++ behind limits t e taken) ≡ false
  move_asks x c (Asks y) other = elim (eq_cases y x) [
    | inl here ↦ absurd (other (ap Asks here.1))
    | inr off ↦ rw off.0 (behind_asks x)
  ]
  move_asks x c _ other = behind_asks x

  module _ (x : ℕ) (w : Exchange) (row : t.exchange x ≡ Some w) (bare : w.head ≡ None) where
    by_poll : (c : ℕ) (k : Consumer) → t.consumer c ≡ Some k → AtPoll limits t e taken c k → asks_in x e.acts ≡ false
    by_poll c k its (moves_on want m at m_is does all saw) =
        ap (asks_in x) all ∙ move_asks x c m (λ asks. asks_not t s o turns e.now c want x k w its row bare (sym m_is ∙ asks))
    by_poll c k its (misreads want r at all saw) = ap (asks_in x) all ∙ behind_asks x

    polled : (c want : ℕ) (q : Option Consumer) → e.event ≡ event.Poll c want → t.consumer c ≡ q → is_live q ≡ true → asks_in x e.acts ≡ false
    polled c want None at its live = absurd (false_true live)
    polled c want (Some k) at its live = by_poll c k its (at_poll limits t e taken c want k s turns its at)

    unasked : (ev : Event) → e.event ≡ ev → asks_in x e.acts ≡ false
    unfolding refusals.refusal_of
    unasked (event.Poll c want) at =
        polled c want (t.consumer c) at refl
        (poll_live limits t e.now (flaw_in e.acts) s c want (sym (ap (denial t) at) ∙ goes limits t e taken.owed taken.not_denied))
    unasked (event.Cancel c) at =
        ap (asks_in x) (acts_is limits t e taken ∙ ap (λ z. accepted_acts limits t e.now z (flaw_in e.acts)) at)
        ∙ ((asks_closed x 0 (closing t (record { now = e.now; event = event.Cancel c; acts = loss_acts (flaw_in e.acts) })) _).asks ∙
        (asks_loss x 0 (flaw_in e.acts)).asks)
    unasked v at = (reported_quiet limits t e taken x 0 (ap (λ z. answer_acts t e.now z (flaw_in e.acts)) at) (ap is_asking at)).asks

  made_unasked : (x : ℕ) (q : Option Opening) (z : Exchange) → exchange_made t e x q ≡ Some z → z.asked ≡ false
  made_unasked x None z is = absurd (none_some z is)
  made_unasked x (Some p) z is = elim (eq_cases p.x x) [
    | inl here ↦ sym (ap (λ (a : Exchange). a.asked) (some_inj (exchange_opened t e p) z (rw here.0 at is)))
    | inr off ↦ absurd (none_some z (rw off.0 at is))
  ]

  bare_by : (x : ℕ) (q : Option Exchange) (z : Exchange) → t.exchange x ≡ q → exchange_after t e x q ≡ Some z → z.head ≡ None → z.asked ≡ false
  unfolding exchange_after
  bare_by x None z row is bare = made_unasked x (opening_in e.acts) z is
  bare_by x (Some w) z row is bare =
      let same = some_inj (exchange_acted x e.acts (exchange_heard t e x e.event w)) z is in
      let heard = heard_bare t e x w e.event (are.bare x w row) (ap (λ (a : Exchange). a.head) same ∙ bare) in
      sym (ap (λ (a : Exchange). a.asked) same) ∙ (ap (λ b. b || (exchange_heard t e x e.event w).asked) (unasked x w row heard.0 e.event refl) ∙ heard.1)

  unasked_kept : AreUnasked u
  unasked_kept = record { bare = λ x z row bare. bare_by x (t.exchange x) z refl row bare }

  -- BEHIND A HEAD, AND BEHIND A PIECE

  head_bare : (x : ℕ) (response : Response) (w : Exchange) → e.event ≡ event.Head x response → t.exchange x ≡ Some w → is_headless (Some w) ≡ true
  unfolding refusals.refusal_of
  head_bare x response w at row =
      head_opens w (sym (ap (λ z. head_refusal (as_open z)) row) ∙ (sym (ap (denial t) at) ∙ goes limits t e taken.owed taken.not_denied))

  heard_anew : (x : ℕ) (w : Exchange) (ev : Event) → e.event ≡ ev → t.exchange x ≡ Some w → brings_body ev ≡ true → exchange_in ev ≡ Some x →
      (exchange_heard t e x ev w).asked ≡ false
  heard_anew x w (event.Head y response) at row brings is = elim (eq_cases y x) [
    | inr off ↦ absurd (off.1 (some_inj y x is))
    | inl here ↦ rw here.0 (are.bare x w row (head_none w (head_bare x response w (at ∙ ap (λ n. event.Head n response) here.1) row)))
  ]
  heard_anew x w (event.Piece y bytes) at row brings is = elim (eq_cases y x) [
    | inr off ↦ absurd (off.1 (some_inj y x is))
    | inl here ↦ rw here.0 refl
  ]
  heard_anew x w _ at row brings is = absurd (false_true brings)

  quiet_at : (x : ℕ) (ev : Event) → e.event ≡ ev → brings_body ev ≡ true → asks_in x e.acts ≡ false
  quiet_at x (event.Head y response) at brings =
      (reported_quiet limits t e taken x 0 (ap (λ z. answer_acts t e.now z (flaw_in e.acts)) at) (ap is_asking at)).asks
  quiet_at x (event.Piece y bytes) at brings =
      (reported_quiet limits t e taken x 0 (ap (λ z. answer_acts t e.now z (flaw_in e.acts)) at) (ap is_asking at)).asks
  quiet_at x _ at brings = absurd (false_true brings)

  anew_by : (x : ℕ) (q : Option Exchange) (z : Exchange) → brings_body e.event ≡ true → exchange_in e.event ≡ Some x → t.exchange x ≡ q →
      exchange_after t e x q ≡ Some z → z.asked ≡ false
  unfolding exchange_after
  anew_by x None z brings is row after = made_unasked x (opening_in e.acts) z after
  anew_by x (Some w) z brings is row after =
      let same = some_inj (exchange_acted x e.acts (exchange_heard t e x e.event w)) z after in
      sym (ap (λ (a : Exchange). a.asked) same) ∙
      (ap (λ b. b || (exchange_heard t e x e.event w).asked) (quiet_at x e.event refl brings) ∙ heard_anew x w e.event refl row brings is)

  asks_anew : (x : ℕ) (z : Exchange) → brings_body e.event ≡ true → exchange_in e.event ≡ Some x → u.exchange x ≡ Some z → z.asked ≡ false
  asks_anew x z brings is after = anew_by x (t.exchange x) z brings is refl after

-- IN RUNS

pub unasked_in_runs : OfRuns AreUnasked
unasked_in_runs = in_runs_with (λ limits t. AreUnasked t) (λ limits t. IsTurned t) turned_in_runs
    (λ limits contents may. record { bare = λ x w row bare. absurd (none_some w row) })
    (λ limits t e later are. record { bare = are.bare })
    (λ limits t now flaw ev s turned are. unasked_kept limits t (entry_of limits t now ev flaw) (record { owed = s.owed; not_denied = s.real.taken })
    s.before.is_sound s.before.is_owned turned.turns are)

pub asks_anew_in_runs : OfHistories AsksAnew
asks_anew_in_runs limits contents [] may run = tt
asks_anew_in_runs limits contents (e ∷ h) may run = λ x w accepted brings is after.
    let t = tables contents h in
    let c = carried limits contents h may run.0 in
    asks_anew limits t e (record { owed = run.1; not_denied = accepted }) c.is_sound c.is_owned (turned_in_runs limits contents h may run.0).turns
    (unasked_in_runs limits contents h may run.0) x w brings is
    (ap (λ (u : Tables). u.exchange x) (next_tables contents h e accepted) ∙ after)
