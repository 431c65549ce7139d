-- What is lost by an entry of a run: what its head or piece writes, or what is sealed as its exchange ends.
--
-- An entry of a run says a loss only where it may be (`IsReal`). So what is lost is what is written by it, and it
-- wasn't lost before (`lost_is`, `fresh`). At a piece or a head that is of its exchange. Else it is sealed: an exchange
-- of its family, which was open and has its head, stops or is closed (`stop_open`, `sealing_row`). `sealing` tells
-- which one; laws on what is lost begin with these.
use Rattle.std.{proofs.{Common.{◌≡◌, ◌⊎◌, inl, inr, ℕ, true, false, Option, Some, None, refl, ap, sym, ◌∙◌, arith}, lemmas.Bool.Decides.{nat_tests}}, specs.Prelude.{is_some, ◌||◌}}
use Rattle.hc_text.proofs.Basics.{eq_is, and_left, and_right, not_some as none_some, not_true, or_cases, same_some as same_row, some_inj}
use Rattle.hc_effects.proofs.Vocabulary.{closes_in, is_denied, LostKind, Event, Limits, loses_in, without_losses, loss_acts, answer_acts, accepted_acts, closing, is_number, denial, Entry, exchange_heard, family, Flaw, Loses, flaw_in, entry_of, Measures, Tables, Exchange, Representation, may_stand, may_be, is_kept, IsAbout, evicted, brings_body, written_representation, written_in, lossless, seals_at, sealed_by, is_sealed, stops, event}
use Rattle.hc_model.specs.Sound as sound
use Rattle.hc_effects.proofs.{ActParts.{said_is, said_closes, loses_evicted, loses_closed, loses_before}, Basics.{false_true, number_is}, Closed.{before}, KeyActs.{found_some, closes_lossless, test_some}, MeasuresKeep.{ender}, Unclosed.{had_open}, Waiters.{fault_open_of}, Step.{Step}}

-- the flaw of what is lost
pub record IsLoss (r : ℕ) (flaw : Flaw) : Type 0 where
  pub kind : LostKind
  pub is : flaw ≡ Loses r kind

loss_of : (r : ℕ) (flaw : Flaw) → loses_in r (loss_acts flaw) ≡ true → IsLoss r flaw
loss_of r flaw h = grind (arith, nat_tests)

-- what holds of an entry of a run
pub record IsReal (limits : Limits) (t : Tables) (now : ℕ) (ev : Event) (flaw : Flaw) : Type 0 where
  pub stand : may_stand limits t (entry_of limits t now ev flaw) ≡ true
  pub shown : flaw_in (accepted_acts limits t now ev flaw) ≡ flaw
  pub taken : is_denied (accepted_acts limits t now ev flaw) ≡ false

module _ (step : Step) (m : Measures step.tables) (real : IsReal step.limits step.tables step.now step.event step.flaw) where
  open step use {limits, tables as t, now, flaw, sound as s, event as ev, accepted as goes}

  abbrev e : Entry
  e = entry_of limits t now ev flaw

  abbrev b : Entry
  b = before limits t now flaw s ev

  pub loses_flaw : (r : ℕ) (v : Event) → loses_in r (accepted_acts limits t now v flaw) ≡ loses_in r (loss_acts flaw)
  loses_flaw r (event.Poll c want) =
      (said_closes 0 r t now (event.Poll c want) flaw (answer_acts t now (event.Poll c want) flaw) _ (said_is t now (event.Poll c want) flaw)).loses ∙
      loses_closed r (closing t (before limits t now flaw s (event.Poll c want))) (loss_acts flaw)
  loses_flaw r (event.Cancel c) = loses_closed r (closing t (before limits t now flaw s (event.Cancel c))) (loss_acts flaw)
  loses_flaw r ev = loses_evicted r (evicted limits t now ev) _ ∙ loses_before r flaw _

  -- what is lost is what is written, and wasn't lost
  pub record IsWritten (r : ℕ) : Type 0 where
    pub is : written_representation t e ≡ Some r
    pub kept : is_kept (t.representation r) ≡ true

  pub lost_is : (r : ℕ) → loses_in r e.acts ≡ true → IsWritten r
  unfolding may_stand
  lost_is r loses =
      let f = loss_of r flaw (sym (loses_flaw r ev) ∙ loses) in
      elim (or_cases (is_denied e.acts) (may_be limits t e (flaw_in e.acts)) real.stand) [
        | inl denied ↦ absurd (false_true (sym real.taken ∙ denied))
        | inr may ↦
            let all : may_be limits t e (Loses r f.kind) ≡ true = sym (ap (may_be limits t e) (real.shown ∙ f.is)) ∙ may in
            record {
              is = number_is (written_representation t e) r (and_left _ _ (and_left _ _ all));
              kept =
                  and_right (is_number (written_representation t e) r) _ (and_left _ _ all);
            }
      ]

  pub fresh : (r : ℕ) (v : Representation) → t.representation r ≡ Some v → loses_in r e.acts ≡ true → v.is_lost ≡ false
  fresh r v there loses = not_true v.is_lost (sym (ap is_kept there) ∙ (lost_is r loses).kept)

  -- SEALED

  -- an open exchange of its family ends without a piece
  pub record IsSealing (r : ℕ) : Type 0 where
    pub y : ℕ
    pub w : Exchange
    pub row : t.exchange y ≡ Some w
    pub was_open : w.is_open ≡ true
    pub headed : is_some w.head ≡ true
    pub of_r : family y w ≡ r
    pub ends : (stops y ev ≡ true) ⊎ (closes_in y e.acts ≡ true)

  heard_was : (y : ℕ) (v : Event) (w : Exchange) → (exchange_heard t b y v w).is_open ≡ true → w.is_open ≡ true
  heard_was y v w on = grind (arith, nat_tests)

  stop_open : (y : ℕ) (v : Event) (w : Exchange) → ev ≡ v → stops y v ≡ true → t.exchange y ≡ Some w → w.is_open ≡ true
  stop_open y (event.End x) w here h row =
      let same : x ≡ y = eq_is x y h in
      let z = ender step m y (here ∙ ap event.End same) in
      ap (λ (q : Exchange). q.is_open) (same_row (t.exchange y) w z.w row z.row) ∙ z.ending.is_open
  stop_open y (event.Fault x) w here h row =
      let same : x ≡ y = eq_is x y h in
      fault_open_of step y w (sym (ap (denial t) (here ∙ ap event.Fault same)) ∙ goes) row
  stop_open y _ w here h row = absurd (false_true h)

  -- it has its head, since what has none founded nothing
  head_there : (r y : ℕ) (w : Exchange) (v : Representation) → t.exchange y ≡ Some w → t.representation r ≡ Some v → family y w ≡ r → is_some w.head ≡ true
  head_there r y w v row there of_r = grind (arith, nat_tests)

  sealing_row : (r y : ℕ) (v : Representation) (z : Option Exchange) → t.representation r ≡ Some v → t.exchange y ≡ z →
      sealed_by t (lossless e) y z ≡ Some r → (stops y ev ≡ true) ⊎ (closes_in y e.acts ≡ true) → IsSealing r
  sealing_row r y v None there row h ends = absurd (none_some r h)
  sealing_row r y v (Some w) there row h ends =
      let parts = test_some (is_sealed t (lossless e) (family y w) (t.representation (family y w))) (Some (family y w)) r h in
      let of_r : family y w ≡ r = some_inj (family y w) r parts.1 in
      record { y = y; w = w; row = row; was_open = by_end ends; headed = head_there r y w v row there of_r; of_r = of_r; ends = ends }
    where
      by_end : (stops y ev ≡ true) ⊎ (closes_in y e.acts ≡ true) → w.is_open ≡ true
      by_end (inl stop) = stop_open y ev w refl stop row
      by_end (inr shut) = heard_was y ev w (had_open limits t now flaw s ev y w row shut)

  sealing : (r y : ℕ) (v : Representation) → t.representation r ≡ Some v → seals_at t (lossless e) y ≡ Some r → IsSealing r
  sealing r y v there h =
      let parts = test_some (stops y ev || closes_in y (without_losses e.acts)) (sealed_by t (lossless e) y (t.exchange y)) r h in
      sealing_row r y v (t.exchange y) there refl parts.1 (by_test (or_cases (stops y ev) (closes_in y (without_losses e.acts)) parts.0))
    where
      by_test : (stops y ev ≡ true) ⊎ (closes_in y (without_losses e.acts) ≡ true) → (stops y ev ≡ true) ⊎ (closes_in y e.acts ≡ true)
      by_test (inl stop) = inl stop
      by_test (inr shut) = inr (sym (closes_lossless y e.acts) ∙ shut)

  written_by : (r : ℕ) (v : Representation) (z : Event) → t.representation r ≡ Some v → brings_body z ≡ false → written_in t (lossless e) z ≡ Some r →
      IsSealing r
  written_by r v (event.Head x response) there off h = absurd (let no : true ≡ false = off in cc)
  written_by r v (event.Piece x bytes) there off h = absurd (let no : true ≡ false = off in cc)
  written_by r v _ there off h = let got = found_some (seals_at t (lossless e)) t.openings r h in sealing r got.0 v there got.1

  -- What is lost by another event than a head or a piece is sealed by it.
  pub sealed_loss : (r : ℕ) (v : Representation) → t.representation r ≡ Some v → loses_in r e.acts ≡ true → brings_body ev ≡ false → IsSealing r
  unfolding written_representation
  sealed_loss r v there loses off = written_by r v ev there off (lost_is r loses).is

  -- and the exchange that seals it is the one about it
  pub seals_one : (r x : ℕ) (v : Representation) → t.representation r ≡ Some v → IsAbout t r x → (z : IsSealing r) → z.y ≡ x
  seals_one r x v there about z = s.one_about r z.y x (sound.headed z.w z.row z.was_open z.headed z.of_r (ap is_some there)) about
