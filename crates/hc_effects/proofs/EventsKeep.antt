-- Every owed entry keeps what open exchanges are still to bring absent, and one of them at most about each
-- representation.
use Rattle.std.{proofs.{lemmas.Bool.Decides.{nat_tests}, Common.{arith, ◌≡◌, ℕ, List, [], ◌∷◌, ◌++◌, length, Bool, true, false, Option, Some, None, refl}}, specs.Prelude.{is_some, map, nat_lt, ◌==◌, if◌then◌else◌}}
use Rattle.hc_effects.proofs.Vocabulary.{opening_in, Event, Response, Act, accepted_acts, loss_acts, closing, is_live, denial, as_open, gate, Entry, promised_bytes, Flaw, NoFlaw, Loses, Misreads, Tables, Exchange, Consumer, Sound, after_accepted, evicted, head_refusal, piece_refusal, poll_refusal, Limits, act}
use Rattle.hc_event.specs.declared.event.Event.TheVariants as event
use Rattle.hc_model.specs.Laws.{KeepsDeliveries, DeliveriesAreKept}
use Rattle.hc_rules.specs.Refusals as refusals
use Rattle.hc_effects.proofs.{QuietKeeps.{OpensWell, is_quiet, waits_kept, one_about_kept}, PieceKeeps.{IsPiece, piece_waits, piece_one_about}, HeadKeeps.{IsHead, head_waits, head_one_about}, PollKeeps.{poll_waits, poll_one_about, closes_open_none, losses_open_none}, Once.{taken, IsTaken, never}, Named.{live_by}}

-- nothing is opened but by a poll
evicts_open_none : (rs : List ℕ) (rest : List Act) → opening_in rest ≡ None → opening_in (map act.Evicted rs ++ rest) ≡ None
evicts_open_none [] rest none = none
evicts_open_none (r ∷ rs) rest none = evicts_open_none rs rest none

losses_then : (flaw : Flaw) (xs : List ℕ) → opening_in (loss_acts flaw ++ map act.Close xs) ≡ None
losses_then NoFlaw [] = refl
losses_then NoFlaw (x ∷ xs) = losses_then NoFlaw xs
losses_then (Loses r kind) (x ∷ xs) = losses_then (Loses r kind) xs
losses_then (Misreads r) (x ∷ xs) = losses_then (Misreads r) xs
losses_then _ [] = refl

abbrev pub owed_entry : Limits → Tables → ℕ → Event → Flaw → Entry
owed_entry limits t now event flaw = record { now = now; event = event; acts = accepted_acts limits t now event flaw }

-- an event that opens nothing and brings nothing
quiet_keeps : (t : Tables) (e : Entry) → Sound t → is_quiet e.event ≡ true → opening_in e.acts ≡ None → KeepsDeliveries (after_accepted t e)
quiet_keeps t e s quiet none =
    let well : OpensWell t e = record {
      absent = λ o r v p opens aim at hole. absurd (let never : None ≡ Some o = rw none at opens in cc);
      alone = λ o r from to y opens aim needs about. absurd (let never : None ≡ Some o = rw none at opens in cc);
    } in
    record { waits = waits_kept t e s quiet well; one_about = one_about_kept t e s quiet well }

-- what the refusals of a head and of a poll test
head_by : (is_open headed asked : Bool) (n : ℕ) (o : Option ℕ) →
    head_refusal (if is_open then Some (record { headed = headed; asked = asked; delivered = n; promised = o }) else None) ≡ None → (is_open ≡ true) ×
    (headed ≡ false)
head_by is_open headed asked n o h = grind (arith, nat_tests)

pub no_head : (o : Option Response) → is_some o ≡ false → o ≡ None
no_head o h = grind (arith, nat_tests)

module _ (limits : Limits) (t : Tables) (now : ℕ) (flaw : Flaw) (s : Sound t) where
  pub reported : (event : Event) → opening_in
      (map act.Evicted (evicted limits t now event) ++
      (loss_acts flaw ++ map act.Close (closing t (record { now = now; event = event; acts = loss_acts flaw })))) ≡ None
  reported event =
      let xs = closing t (record { now = now; event = event; acts = loss_acts flaw }) in
      evicts_open_none (evicted limits t now event) (loss_acts flaw ++ map act.Close xs) (losses_then flaw xs)

  pub cancels : (c : ℕ) → opening_in (map act.Close (closing t (record { now = now; event = event.Cancel c; acts = loss_acts flaw })) ++ loss_acts flaw) ≡ None
  cancels c = closes_open_none (closing t (record { now = now; event = event.Cancel c; acts = loss_acts flaw })) (loss_acts flaw) (losses_open_none flaw)

  piece_is : (x : ℕ) (bytes : List ℕ) (o : Option Exchange) → t.exchange x ≡ o → piece_refusal (as_open o) (length bytes) ≡ None →
      KeepsDeliveries (after_accepted t (owed_entry limits t now (event.Piece x bytes) flaw))
  piece_is x bytes None row goes = absurd (never _ goes)
  piece_is x bytes (Some w) row goes =
      let got : IsTaken w (length bytes) = taken (length bytes) w goes in
      let piece : IsPiece t now x bytes (accepted_acts limits t now (event.Piece x bytes) flaw) w =
      record { row = row; was_open = got.is_open; headed = got.headed; opens_none = reported (event.Piece x bytes) } in
      record { waits = piece_waits t now x bytes _ w s piece; one_about = piece_one_about t now x bytes _ w s piece }

  pub head_taken : (w : Exchange) → head_refusal (as_open (Some w)) ≡ None → (w.is_open ≡ true) × (w.head ≡ None)
  head_taken w goes = let parts = head_by w.is_open (is_some w.head) w.asked (length w.body) (promised_bytes w) goes in (parts.0, no_head w.head parts.1)

  head_is : (x : ℕ) (response : Response) (o : Option Exchange) → t.exchange x ≡ o → head_refusal (as_open o) ≡ None →
      KeepsDeliveries (after_accepted t (owed_entry limits t now (event.Head x response) flaw))
  head_is x response None row goes = absurd (never _ goes)
  head_is x response (Some w) row goes =
      let got = head_taken w goes in
      let head : IsHead t now x response (accepted_acts limits t now (event.Head x response) flaw) w =
      record { row = row; was_open = got.0; headless = got.1; opens_none = reported (event.Head x response) } in
      record { waits = head_waits t now x response _ w s head; one_about = head_one_about t now x response _ w s head }

  poll_is : (c want : ℕ) (o : Option Consumer) → t.consumer c ≡ o → is_live o ≡ true →
      KeepsDeliveries (after_accepted t (owed_entry limits t now (event.Poll c want) flaw))
  poll_is c want None row live = absurd (let never : false ≡ true = live in cc)
  poll_is c want (Some k) row live = record { waits = poll_waits limits t now c want k s row flaw; one_about = poll_one_about limits t now c want k s row flaw }

  pub poll_live : (c want : ℕ) → poll_refusal (gate t (event.Poll c want)) c want ≡ None → is_live (t.consumer c) ≡ true
  poll_live c want goes = live_by (nat_lt t.last_start c) (is_live (t.consumer c)) (want == 0) goes

  -- Every accepted event keeps both, where the tables before it are sound.
  pub events_keep : (event : Event) → denial t event ≡ None → KeepsDeliveries (after_accepted t (owed_entry limits t now event flaw))
  unfolding refusals.refusal_of
  events_keep (event.Poll c want) goes = poll_is c want (t.consumer c) refl (poll_live c want goes)
  events_keep (event.Head x response) goes = head_is x response (t.exchange x) refl goes
  events_keep (event.Piece x bytes) goes = piece_is x bytes (t.exchange x) refl goes
  events_keep (event.Cancel c) goes = quiet_keeps t _ s refl (cancels c)
  events_keep ev goes = quiet_keeps t _ s refl (reported ev)

pub deliveries_are_kept : DeliveriesAreKept
deliveries_are_kept limits t now flaw s event goes = events_keep limits t now flaw s event goes
