-- The entry that is owed to an event by a store which never fails is one that a run may go on with.
--
-- Its flaw is the one of the sizes: none, or the loss of what is written. The acts show just that flaw: what
-- is evicted, closed and told shows none, since no consumer is told of a failed read where none failed. And
-- the flaw may be: where a head or a piece lacks room, what it writes is there to be lost. What a head founds wasn't
-- there before, and what a piece is written to isn't lost.
use Rattle.std.{proofs.{lemmas.Bool.Decides.{nat_tests}, Common.{arith, ◌≡◌, ◌≤◌, ℕ, List, [], ◌∷◌, ◌++◌, length, Bool, true, false, Option, Some, None, refl, ap, ◌∙◌}}, specs.{Prelude.{if◌then◌else◌, not, map}, Option.{option_and_then}}}
use Rattle.hc_text.proofs.Basics.{or_right}
use Rattle.hc_effects.proofs.Vocabulary.{Act, Refusal, Event, Response, head_refusal, Limits, Room, answer, accepted_acts, loss_acts, close_acts, case_of, is_founding, closing, denial, as_open, Entry, entry_without_acts, family, Flaw, NoFlaw, Misreads, flaw_in, Move, Nothing, Fails, acts_of, Places, poll_move, Tables, Exchange, Representation, Consumer, IsOwed, may_stand, may_be, is_kept, flaw_by_room, size_flaw, owed, Sound, room_for, room_by, write_of_piece, piece_write, evicted, written_representation, head_writes, piece_writes, unless_lost, lossless, act, cause, room, write}
use Rattle.hc_event.specs.declared.act.Refusal.TheVariants as refusal
use Rattle.hc_event.specs.declared.event.Event.TheVariants as event
use Rattle.hc_rules.specs.Refusals as refusals
use Rattle.hc_effects.proofs.{Basics.{false_true, number_yes}, FailsReported.{fails_reported}, FoundCases.{no_loss}, EvictsLast.{flaw_same}}
use Rattle.hc_laws.proofs.ExchangeFilters.{headless}

-- THE FLAW THAT ACTS SHOW

closes_flaw : (xs : List ℕ) → flaw_in (map act.Close xs) ≡ NoFlaw
closes_flaw [] = refl
closes_flaw (x ∷ xs) = closes_flaw xs

then_flaw : (xs : List ℕ) → flaw_in (map act.Close xs ++ []) ≡ NoFlaw
then_flaw [] = refl
then_flaw (x ∷ xs) = then_flaw xs

-- one of the sizes
abbrev IsOfSize : Flaw → Type 0
IsOfSize (Misreads r) = ⊥
IsOfSize _ = Unit {0}

room_flaw : (z : Room) (o : Option ℕ) → IsOfSize (flaw_by_room z o)
room_flaw z o = grind (arith, nat_tests)

lost_flaw : (flaw : Flaw) (xs : List ℕ) → IsOfSize flaw → flaw_in (loss_acts flaw ++ map act.Close xs) ≡ flaw
lost_flaw flaw xs of_size = grind (arith, nat_tests, closes_flaw)

move_flaw : (c : ℕ) (m : Move) (rest : List Act) → ((r : ℕ) → m ≡ Fails (cause.StoreRead r) → ⊥) → flaw_in rest ≡ NoFlaw → flaw_in
    (acts_of c m ++ rest) ≡ NoFlaw
move_flaw c m rest other none = grind (arith, nat_tests)

module _ (limits : Limits) (t : Tables) (now : ℕ) (s : Sound t) (places : Places t) where
  abbrev sizes : Event → Flaw
  sizes ev = size_flaw limits t now ev

  -- a poll fails nobody for a failed read
  reads_well : (want c : ℕ) (o : Option Consumer) → t.consumer c ≡ o → (r : ℕ) → poll_move t now want c o ≡ Fails (cause.StoreRead r) → ⊥
  reads_well want c None row r is = let never : Nothing ≡ Fails (cause.StoreRead r) = is in cc
  reads_well want c (Some k) row r is = let never : true ≡ false = fails_reported t now want c k (cause.StoreRead r) s places row is in cc

  outside_flaw : (ev : Event) → flaw_in (map act.Evicted (evicted limits t now ev) ++ (loss_acts (sizes ev) ++ close_acts t now ev (sizes ev))) ≡ sizes ev
  outside_flaw ev = grind (arith, nat_tests, flaw_same, evicted, lost_flaw, sizes, closing, room_flaw)

  -- the acts of an accepted event show the flaw of the sizes
  shows_flaw : (ev : Event) → flaw_in (accepted_acts limits t now ev (sizes ev)) ≡ sizes ev
  unfolding room_for
  shows_flaw (event.Poll c want) =
      move_flaw c (poll_move t now want c (t.consumer c)) _ (reads_well want c (t.consumer c) refl)
      (then_flaw (closing t (record { now = now; event = event.Poll c want; acts = acts_of c (poll_move t now want c (t.consumer c)) ++ [] })))
  shows_flaw (event.Cancel c) = then_flaw (closing t (record { now = now; event = event.Cancel c; acts = [] }))
  shows_flaw v = outside_flaw v

-- THE FLAW MAY BE

-- there is no room
abbrev lacks : Room → Bool
lacks (room.After count) = false
lacks _ = true

module _ (limits : Limits) (t : Tables) (now : ℕ) (acts : List Act) where
  abbrev entry : Event → Entry
  entry ev = record { now = now; event = ev; acts = acts }

  -- what is written may be lost
  record IsLosable (ev : Event) : Type 0 where
    r : ℕ
    without : written_representation t (entry_without_acts now ev) ≡ Some r
    beside : written_representation t (entry ev) ≡ Some r
    kept : is_kept (t.representation r) ≡ true

  may_by : (ev : Event) (z : Room) → room_for limits t now ev ≡ z → (lacks z ≡ true → IsLosable ev) →
      may_be limits t (entry ev) (flaw_by_room z (written_representation t (entry_without_acts now ev))) ≡ true
  may_by ev z is losable = grind (arith, nat_tests)

-- A HEAD THAT FOUNDS

founding_writes : (t : Tables) (e : Entry) (x : ℕ) (response : Response) (w : Exchange) → e.event ≡ event.Head x response → t.exchange x ≡ Some w →
    is_founding (case_of t false e.event) ≡ true → head_writes t (lossless e) x response (t.exchange x) ≡ Some x
founding_writes t e x response w at row founds = grind (arith, nat_tests, lossless, no_loss)

module _ (limits : Limits) (t : Tables) (now : ℕ) (acts : List Act) (s : Sound t) where
  abbrev bare : Event → Entry
  bare ev = entry_without_acts now ev

  by_founding : (x : ℕ) (response : Response) (w : Exchange) → t.exchange x ≡ Some w → w.head ≡ None → (b : Bool) →
      is_founding (case_of t false (event.Head x response)) ≡ b →
      lacks (room_by limits t (bare (event.Head x response)) (if b then Some write.Slot else None)) ≡ true → IsLosable limits t now acts (event.Head x response)
  unfolding written_representation
  by_founding x response w row none false founds lacking = absurd (false_true lacking)
  by_founding x response w row none true founds lacking = record {
    r = x;
    without = founding_writes t (bare (event.Head x response)) x response w refl row founds;
    beside = founding_writes t (entry limits t now acts (event.Head x response)) x response w refl row founds;
    kept = ap is_kept (s.numbered.names.unfounded x w row none);
  }

  by_head : (x : ℕ) (response : Response) (q : Option Exchange) → t.exchange x ≡ q → head_refusal (as_open q) ≡ None →
      lacks (room_by limits t (bare (event.Head x response)) (if is_founding (case_of t false (event.Head x response)) then Some write.Slot else None)) ≡
      true → IsLosable limits t now acts (event.Head x response)
  by_head x response None row goes lacking = let never : Some refusal.NoExchange ≡ None = goes in cc
  by_head x response (Some w) row goes lacking =
      by_founding x response w row (headless w goes) (is_founding (case_of t false (event.Head x response))) refl lacking

  -- A PIECE

  by_lost : (x : ℕ) (bytes : List ℕ) (w : Exchange) (v : Representation) → t.exchange x ≡ Some w → t.representation (family x w) ≡ Some v → (b : Bool) →
      v.is_lost ≡ b → lacks (room_by limits t (bare (event.Piece x bytes)) (if b then None else Some (write.Piece v.size (length bytes)))) ≡ true →
      IsLosable limits t now acts (event.Piece x bytes)
  unfolding written_representation
  by_lost x bytes w v row there true lost lacking = absurd (false_true lacking)
  by_lost x bytes w v row there false lost lacking =
      let writes : piece_writes t x (t.exchange x) ≡ Some (family x w) =
      ap (piece_writes t x) row ∙ (ap (unless_lost (family x w)) there ∙ ap (λ b. if b then None else Some (family x w)) lost) in
      record { r = family x w; without = writes; beside = writes; kept = ap is_kept there ∙ ap not lost }

  by_stored : (x : ℕ) (bytes : List ℕ) (w : Exchange) (p : Option Representation) → t.exchange x ≡ Some w → t.representation (family x w) ≡ p →
      lacks (room_by limits t (bare (event.Piece x bytes)) (option_and_then (piece_write (length bytes)) p)) ≡ true →
      IsLosable limits t now acts (event.Piece x bytes)
  by_stored x bytes w None row there lacking = absurd (false_true lacking)
  by_stored x bytes w (Some v) row there lacking = by_lost x bytes w v row there v.is_lost refl lacking

  by_piece : (x : ℕ) (bytes : List ℕ) (q : Option Exchange) → t.exchange x ≡ q →
      lacks (room_by limits t (bare (event.Piece x bytes)) (option_and_then (write_of_piece t x (length bytes)) q)) ≡ true →
      IsLosable limits t now acts (event.Piece x bytes)
  by_piece x bytes None row lacking = absurd (false_true lacking)
  by_piece x bytes (Some w) row lacking = by_stored x bytes w (t.representation (family x w)) row refl lacking

  losable : (ev : Event) → denial t ev ≡ None → lacks (room_for limits t now ev) ≡ true → IsLosable limits t now acts ev
  unfolding room_for refusals.refusal_of
  losable ev goes lacking = grind (arith, nat_tests, by_head, by_piece)

  may_be_so : (ev : Event) → denial t ev ≡ None → may_be limits t (entry limits t now acts ev) (size_flaw limits t now ev) ≡ true
  may_be_so ev goes = may_by limits t now acts ev (room_for limits t now ev) refl (losable ev goes)

-- THE ENTRY

module _ (limits : Limits) (t : Tables) (now : ℕ) (s : Sound t) (places : Places t) (later : t.moment ≤ now) (ev : Event) where
  abbrev of_sizes : Flaw
  of_sizes = size_flaw limits t now ev

  by_denial : (q : Option Refusal) → denial t ev ≡ q → IsOwed limits t (owed limits t now ev)
  unfolding owed answer may_stand
  by_denial (Some refusal) denied = grind (arith, nat_tests)
  by_denial None goes = grind (arith, nat_tests, answer, shows_flaw, or_right, may_be_so)

  -- A run may go on with the entry that is owed.
  pub owed_is_owed : IsOwed limits t (owed limits t now ev)
  owed_is_owed = by_denial (denial t ev) refl
