-- Who leaves is over, and who doesn't stays live.
--
-- The acts of a leave are what is said to the leaver, what is closed, and what is lost: a seal of what is closed may
-- fail. Its row behind them is over, unless it starts over: at a leave only who waits for what goes could. Who waits so
-- owns nothing, so nothing is closed, and nothing is lost. By any other entry the place of a live consumer becomes none
-- but one at which it is live.
use Rattle.std.{proofs.{Common.{◌≡◌, ◌⊎◌, inl, inr, ℕ, List, [], ◌∷◌, ◌++◌, Bool, true, false, Option, Some, None, refl, ap, sym, ◌∙◌, subst, arith}, lemmas.Bool.Decides.{nat_tests}}, specs.Prelude.{map, nat_eq, nat_lt}}
use Rattle.hc_text.proofs.Basics.{and_none, and_left, bool_cases, false_true, not_some as none_some, eq_itself as same_number}
use Rattle.hc_effects.proofs.Vocabulary.{closes_in, is_denied, leaves_in, Act, Event, Place, Limits, fails_in, loses_in, without_losses, accepted_acts, answer_acts, loss_acts, closing, consumer_after, denial, is_live, left_by, Entry, Flaw, NoFlaw, Loses, Misreads, flaw_in, becomes_gone, goes_in, Lawful, Move, acts_of, move_of, poll_move, Tables, Representation, Consumer, IsOwed, may_be, loses_what_it_waits_for, after, with_item_first, written_representation, written_in, seals_at, stops, first_found, lossless, act, cause, place}
use Rattle.hc_event.specs.declared.event.Event.TheVariants as event
use Rattle.hc_rules.specs.Refusals as refusals
use Rattle.hc_model.specs.Moves as moves
use Rattle.hc_effects.proofs.{ActParts.{far_closing, far_lost_only}, Basics.{number_is}, EventsKeep.{poll_live}, FailsReported.{fails_reported}, LeftBy.{left_passed}, Owed.{goes, acts_are, is_denial, IsDenied}, LeaveFrames.{IsPrefix, acts_left, goes_by, itself}, KeyActs.{closes_lossless}}
use Rattle.hc_effects.proofs.Owed as owed_by
use Rattle.hc_laws.proofs.{TurnOpens.{found_none}, TurnFacts.{far_from, may_be_so}, Accepted.{is_accepted}, LiveAfter.{Starts, was_live}}
use Rattle.hc_effects.proofs.LeaveFrames as frames

-- WHAT IS SAID TO WHO LEAVES

-- it is told a failure, or no read failed
fails_or : (c : ℕ) (ev : Event) (o : Option ℕ) (front rest : List Act) → IsPrefix c ev o front → (fails_in c (front ++ rest) ≡ true) ⊎ (o ≡ None)
fails_or c _ _ _ rest (frames.misreads want r) = inl (rw (same_number c) refl)
fails_or c _ _ _ rest _ = inr refl

lost_closes : (x : ℕ) (flaw : Flaw) → closes_in x (loss_acts flaw) ≡ false
lost_closes x NoFlaw = refl
lost_closes x _ = refl

front_closes : (x c : ℕ) (ev : Event) (o : Option ℕ) (front : List Act) (flaw : Flaw) → IsPrefix c ev o front → closes_in x (front ++ loss_acts flaw) ≡ false
front_closes x c _ _ _ flaw (frames.ends want) = lost_closes x flaw
front_closes x c _ _ _ flaw _ = lost_closes x flaw

front_stops : (x c : ℕ) (ev : Event) (o : Option ℕ) (front : List Act) → IsPrefix c ev o front → stops x ev ≡ false
front_stops x c _ _ _ (frames.ends want) = refl
front_stops x c _ _ _ _ = refl

front_writes : (t : Tables) (it : Entry) (c : ℕ) (ev : Event) (o : Option ℕ) (front : List Act) → IsPrefix c ev o front → written_in
    t it ev ≡ first_found (seals_at t it) t.openings
front_writes t it c _ _ _ (frames.ends want) = refl
front_writes t it c _ _ _ _ = refl

-- A LEAVE

module _ (limits : Limits) (t : Tables) (e : Entry) (law : Lawful t) (is : IsOwed limits t e) where
  module _ (on : is_denied e.acts ≡ false) (c : ℕ) (k : Consumer) (row : t.consumer c ≡ Some k) (ev : Event) (at : e.event ≡ ev) (o : Option ℕ)
      (front : List Act) (f : IsPrefix c ev o front) (says : answer_acts t e.now ev (flaw_in e.acts) ≡ front) where
    abbrev flaw : Flaw
    flaw = flaw_in e.acts

    -- the entry, by its parts
    abbrev it : Entry
    it = frames.e limits t law e.now c k row ev flaw o front f

    acts_same : e.acts ≡ it.acts
    acts_same = acts_are limits t e is on ∙ (ap (λ z. accepted_acts limits t e.now z flaw) at ∙ acts_left limits t law e.now c k row ev flaw o front f says)

    same : e ≡ it
    same = ap (λ z. record { now = e.now; event = z; acts = e.acts }) at ∙ ap (λ z. record { now = e.now; event = ev; acts = z }) acts_same

    -- where nothing is left
    module _ (left : left_by t c k ≡ None) where
      closes_none : (x : ℕ) → closes_in x e.acts ≡ false
      closes_none x =
          ap (closes_in x) (acts_same ∙ ap (λ (z : Option ℕ). front ++ (map act.Close (with_item_first z []) ++ loss_acts flaw)) left)
          ∙ front_closes x c ev o front flaw f

      seals_none : (x : ℕ) → seals_at t (lossless e) x ≡ None
      seals_none x =
          let a : stops x e.event ≡ false = ap (stops x) at ∙ front_stops x c ev o front f in
          let b : closes_in x (without_losses e.acts) ≡ false = closes_lossless x e.acts ∙ closes_none x in
          rw (a, b) refl

      writes_none : written_representation t e ≡ None
      unfolding written_representation
      writes_none = ap (written_in t (lossless e)) at ∙
          (front_writes t (lossless e) c ev o front f ∙ found_none (seals_at t (lossless e)) t.openings seals_none)

      lost_none : (r : ℕ) (z : Flaw) → may_be limits t e z ≡ true → loses_in r (loss_acts z) ≡ false
      lost_none r (Loses q kind) may = absurd (none_some q (sym writes_none ∙ number_is (written_representation t e) q (and_left _ _ (and_left _ _ may))))
      lost_none r _ may = refl

      nothing_goes : o ≡ None → (r : ℕ) (v : Representation) → t.representation r ≡ Some v → becomes_gone t it r v ≡ false
      nothing_goes none r v there =
          let lost : loses_in r (loss_acts flaw) ≡ false = lost_none r flaw (may_be_so limits t e (record { owed = is; not_denied = on })) in
          goes_by limits t law e.now c k row ev flaw o front f r v there
          ∙ rw (lost, none, left) refl

      nothing_in : o ≡ None → (r : ℕ) (z : Option Representation) → t.representation r ≡ z → goes_in t it r z ≡ false
      nothing_in none r None there = refl
      nothing_in none r (Some v) there = nothing_goes none r v there

    -- who waits doesn't start over by it
    stays : (p : Place) → k.place ≡ p → loses_what_it_waits_for t it c p ≡ false
    stays (place.Passed r kept) stands =
        elim (fails_or c ev o front (frames.rest limits t law e.now c k row ev flaw o front f) f) [
          | inl fails ↦ rw fails (and_none (goes_in t it r (t.representation r)))
          | inr none ↦ let quiet : goes_in t it r (t.representation r) ≡ false = nothing_in
              (left_passed t law c k row r kept stands) none r (t.representation r) refl in rw quiet refl
        ]
    stays _ stands = refl

    row_behind : (after t e).consumer c ≡ consumer_after t e c (t.consumer c)
    unfolding after
    row_behind = rw on refl

    leaver_over : is_live ((after t e).consumer c) ≡ false
    leaver_over =
        ap is_live (row_behind ∙ (ap (λ (z : Entry). consumer_after t z c (t.consumer c)) same
        ∙ itself limits t law e.now c k row ev flaw o front f (stays k.place refl)))

  -- WHO IS CANCELLED

  -- who is live has started
  pub has_started : (c : ℕ) → is_live (t.consumer c) ≡ true → nat_lt t.last_start c ≡ false
  has_started c live = by_test (nat_lt t.last_start c) refl
    where
      by_test : (b : Bool) → nat_lt t.last_start c ≡ b → nat_lt t.last_start c ≡ false
      by_test false and_none = and_none
      by_test true past = false_true (sym (ap is_live (law.sound.numbered.lists.new_consumers c (grind (arith, nat_tests)))) ∙ live)

  pub cancel_goes : (c : ℕ) → e.event ≡ event.Cancel c → is_live (t.consumer c) ≡ true → denial t e.event ≡ None
  unfolding refusals.refusal_of
  cancel_goes c at live = ap (denial t) at ∙ rw (has_started c live, live) refl

  cancels_row : (c : ℕ) (o : Option Consumer) → t.consumer c ≡ o → e.event ≡ event.Cancel c → is_live o ≡ true → is_live ((after t e).consumer c) ≡ false
  cancels_row c None row at live = false_true live
  cancels_row c (Some k) row at live =
      leaver_over (is_accepted limits t e is (cancel_goes c at (ap is_live row ∙ live))) c k row (event.Cancel c) at None [] frames.cancels refl

  -- who is cancelled is over
  pub cancelled_over : (c : ℕ) → e.event ≡ event.Cancel c → is_live ((after t e).consumer c) ≡ false
  cancelled_over c at =
      elim (bool_cases (is_live (t.consumer c))) [
        | inl live ↦ cancels_row c (t.consumer c) refl at live
        | inr dead ↦ elim (bool_cases (is_live ((after t e).consumer c))) [
          | inr and_none ↦ and_none
          | inl on ↦ elim (was_live limits t e law is c on) [
            | inl was ↦ false_true (sym dead ∙ was)
            | inr starts ↦ absurd (subst (Starts c) at starts)
          ]
        ]
      ]

  -- WHO IS TOLD THE END OR A FAILURE

  module _ (on : is_denied e.acts ≡ false) (c want : ℕ) (k : Consumer) (row : t.consumer c ≡ Some k) (at : e.event ≡ event.Poll c want)
      (leaves : leaves_in c e.acts ≡ true) where
    abbrev saw : Entry
    saw = record { now = e.now; event = event.Poll c want; acts = answer_acts t e.now (event.Poll c want) (flaw_in e.acts) ++ loss_acts (flaw_in e.acts) }

    poll_acts_are : e.acts ≡ answer_acts t e.now (event.Poll c want) (flaw_in e.acts) ++ (map act.Close (closing t saw) ++ loss_acts (flaw_in e.acts))
    poll_acts_are = acts_are limits t e is on ∙ ap (λ z. accepted_acts limits t e.now z (flaw_in e.acts)) at

    abbrev rest : List Act
    rest = map act.Close (closing t saw) ++ loss_acts (flaw_in e.acts)

    quiet : leaves_in c rest ≡ false
    quiet = (far_closing c (closing t saw) (loss_acts (flaw_in e.acts)) (far_lost_only c (flaw_in e.acts))).leaves

    -- with these acts it wouldn't leave
    not_said : (m : Move) → answer_acts t e.now (event.Poll c want) (flaw_in e.acts) ≡ acts_of c m → leaves_in c (acts_of c m ++ rest) ≡ false →
        is_live ((after t e).consumer c) ≡ false
    not_said m says stays = false_true (sym (ap (leaves_in c) (poll_acts_are ∙ ap (λ z. z ++ rest) says) ∙ stays) ∙ leaves)

    -- what is said makes it leave
    by_move : (m : Move) → move_of t e.now want c k ≡ m → answer_acts t e.now (event.Poll c want) (flaw_in e.acts) ≡ acts_of c m →
        is_live ((after t e).consumer c) ≡ false
    by_move moves.Ends is_move says = leaver_over on c k row (event.Poll c want) at None (acts_of c moves.Ends) (frames.ends want) says
    by_move (moves.Fails why) is_move says =
        leaver_over on c k row (event.Poll c want) at None (acts_of c (moves.Fails why))
        (frames.fails want why (fails_reported t e.now want c k why law.sound law.places row is_move)) says
    by_move v is_move says = not_said v says quiet

    moves_on : (z : Flaw) → flaw_in e.acts ≡ z → answer_acts t e.now (event.Poll c want) z ≡ acts_of c (poll_move t e.now want c (t.consumer c)) →
        is_live ((after t e).consumer c) ≡ false
    moves_on z is_flaw says =
        by_move (move_of t e.now want c k) refl
        (ap (answer_acts t e.now (event.Poll c want)) is_flaw ∙ (says ∙ ap (λ (q : Option Consumer). acts_of c (poll_move t e.now want c q)) row))

    by_flaw : (z : Flaw) → flaw_in e.acts ≡ z → is_live ((after t e).consumer c) ≡ false
    by_flaw NoFlaw is_flaw = moves_on NoFlaw is_flaw refl
    by_flaw (Loses r kind) is_flaw = moves_on (Loses r kind) is_flaw refl
    by_flaw (Misreads r) is_flaw =
        leaver_over on c k row (event.Poll c want) at (Some r) (act.Failed c (cause.StoreRead r) ∷ []) (frames.misreads want r)
        (ap (answer_acts t e.now (event.Poll c want)) is_flaw)

  polls_row : (c want : ℕ) (o : Option Consumer) → t.consumer c ≡ o → is_denied e.acts ≡ false → e.event ≡ event.Poll c want → is_live o ≡ true →
      leaves_in c e.acts ≡ true → is_live ((after t e).consumer c) ≡ false
  polls_row c want None row on at live leaves = false_true live
  polls_row c want (Some k) row on at live leaves = by_flaw on c want k row at leaves (flaw_in e.acts) refl

  polls_live : (c want : ℕ) → is_denied e.acts ≡ false → e.event ≡ event.Poll c want → is_live (t.consumer c) ≡ true
  unfolding refusals.refusal_of
  polls_live c want on at = poll_live limits t e.now (flaw_in e.acts) law.sound c want (sym (ap (denial t) at) ∙ goes limits t e is on)

  -- the acts with which somebody leaves are those of its poll
  pub record IsPolled (c : ℕ) : Type 0 where
    pub want : ℕ
    pub at : e.event ≡ event.Poll c want
    pub on : is_denied e.acts ≡ false

  far_off : (c : ℕ) → is_denied e.acts ≡ false → leaves_in c e.acts ≡ true → ((want : ℕ) → e.event ≡ event.Poll c want → ⊥) → ⊥
  far_off c on leaves other = let never : false ≡ true = sym (far_from limits t e (record { owed = is; not_denied = on }) c other).leaves ∙ leaves in cc

  poll_of : (c : ℕ) (ev : Event) → e.event ≡ ev → is_denied e.acts ≡ false → leaves_in c e.acts ≡ true → IsPolled c
  poll_of c (event.Poll d want) at on leaves = by_test (nat_eq d c) refl
    where
      by_test : (b : Bool) → nat_eq d c ≡ b → IsPolled c
      by_test true its = record { want = want; at = at ∙ ap (λ n. event.Poll n want) (grind (arith, nat_tests)); on = on }
      by_test false and_none = absurd (far_off c on leaves (λ n poll. other n (sym at ∙ poll)))
        where
          other : (n : ℕ) → event.Poll d want ≡ event.Poll c n → ⊥
          other n eq = let never : true ≡ false = sym (same_number d) ∙ (ap (nat_eq d) (ap (λ (z : Event). who z) eq) ∙ and_none) in cc
            where
              who : Event → ℕ
              who (event.Poll a b) = a
              who _ = 0
  poll_of c (event.Start d request) at on leaves =
      absurd (far_off c on leaves (λ n poll. let never : event.Start d request ≡ event.Poll c n = sym at ∙ poll in cc))
  poll_of c (event.Head x response) at on leaves =
      absurd (far_off c on leaves (λ n poll. let never : event.Head x response ≡ event.Poll c n = sym at ∙ poll in cc))
  poll_of c (event.Piece x bytes) at on leaves = absurd (far_off c on leaves (λ n poll. let never : event.Piece x bytes ≡ event.Poll c n = sym at ∙ poll in cc))
  poll_of c (event.End x) at on leaves = absurd (far_off c on leaves (λ n poll. let never : event.End x ≡ event.Poll c n = sym at ∙ poll in cc))
  poll_of c (event.Fault x) at on leaves = absurd (far_off c on leaves (λ n poll. let never : event.Fault x ≡ event.Poll c n = sym at ∙ poll in cc))
  poll_of c (event.Cancel d) at on leaves = absurd (far_off c on leaves (λ n poll. let never : event.Cancel d ≡ event.Poll c n = sym at ∙ poll in cc))
  poll_of c (event.Doom key) at on leaves = absurd (far_off c on leaves (λ n poll. let never : event.Doom key ≡ event.Poll c n = sym at ∙ poll in cc))

  denied_quiet : (c : ℕ) (acts : List Act) → IsDenied acts → leaves_in c acts ≡ false
  denied_quiet c _ (owed_by.denied refusal) = refl

  pub leaver_polls : (c : ℕ) → leaves_in c e.acts ≡ true → IsPolled c
  leaver_polls c leaves =
      elim (bool_cases (is_denied e.acts)) [
        | inl denied ↦ false_true (sym (denied_quiet c e.acts (is_denial e.acts denied)) ∙ leaves)
        | inr on ↦ poll_of c e.event refl on leaves
      ]

  -- who is told the end or a failure is over
  pub reported_over : (c : ℕ) → leaves_in c e.acts ≡ true → is_live ((after t e).consumer c) ≡ false
  reported_over c leaves =
      let p = leaver_polls c leaves in
      polls_row c p.want (t.consumer c) refl p.on p.at (polls_live c p.want p.on p.at) leaves

  -- and was live
  pub reported_live : (c : ℕ) → leaves_in c e.acts ≡ true → is_live (t.consumer c) ≡ true
  reported_live c leaves =
      let p = leaver_polls c leaves in
      polls_live c p.want p.on p.at
