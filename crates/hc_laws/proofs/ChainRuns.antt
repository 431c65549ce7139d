-- Waits end, in every run: a chain of them goes on over two more consumers at most.
use Rattle.std.{proofs.{lemmas.Bool.Decides.{nat_tests}, Common.{arith, ◌≡◌, ℕ, ◌<◌, true, false, Option, Some, None, refl, ap, sym, ◌∙◌, subst}}, specs.Prelude.{nat_eq}}
use Rattle.hc_effects.proofs.Vocabulary.{wait, MoveEnds, is_live, is_live_place, Endings, Unended, OfRuns, WaitsEnd, WaitsForNobody, turn, Move, Places, plan_view, move_of, poll_move, Tables, Consumer, Sound, IsBound, tables}
use Rattle.hc_model.specs.Chains.{PollsEnd, ChainEnds, ChainsEnd}
use Rattle.hc_model.specs.Moves as moves
use Rattle.hc_model.specs.Sound as sound
use Rattle.hc_effects.proofs.{Basics.{false_true}, Said.{WaitsAs}, WaitedAs.{waited_as}}
use Rattle.hc_laws.proofs.{BehindTurns.{StandsInLine, behind_turn, turn_stands, turn_without}, LivePolls.{Goes, live_goes}, PlaceRuns.{places_in_runs, endings_in_runs}, SoundRuns.{runs_are_sound}, UnendedRuns.{unended_in_runs}, WaitsInRuns.{waits_in_runs}}
use Rattle.hc_effects.proofs.Said as said
use Rattle.hc_effects.proofs.WaitedAs as waited

module _ (t : Tables) (s : Sound t) (places : Places t) (endings : Endings t) (unended : Unended t) (w : WaitsEnd t) where
  -- it ends where the chain goes on from each consumer that it waits for
  goes_on : (GoesOn : ℕ → Type 0) (m : Move) → Goes t m → ((d : ℕ) → m ≡ moves.Waits (wait.Turn d) → GoesOn d) →
      ((d : ℕ) → m ≡ moves.Waits (wait.Busy d) → GoesOn d) → MoveEnds GoesOn t m
  goes_on GoesOn m goes turn busy = grind (arith, nat_tests)

  module _ (now : ℕ) where
    -- whatever its polls are, by its row
    polls_by : (ends : Move → Type 0) (d : ℕ) (u : Consumer) → t.consumer d ≡ Some u → is_live_place u.place ≡ true →
        ((want : ℕ) → 0 < want → ends (move_of t now want d u)) → PollsEnd ends t now d
    polls_by ends d u row live polls = grind (arith, nat_tests)

    -- WHO READS

    reader_live : (r d : ℕ) (u : Consumer) → IsBound t r d u → is_live_place u.place ≡ true
    reader_live r d u (sound.is_bound lo hi how row at) = ap is_live_place at

    reader_row : (r d : ℕ) (u : Consumer) → IsBound t r d u → t.consumer d ≡ Some u
    reader_row r d u (sound.is_bound lo hi how row at) = row

    reader_ends : (GoesOn : ℕ → Type 0) (r d : ℕ) (u : Consumer) → IsBound t r d u → (want : ℕ) → 0 < want → MoveEnds GoesOn t (move_of t now want d u)
    reader_ends GoesOn r d u reader want many =
        let nobody : WaitsForNobody t now want d u = w.reader_goes now d want r u reader in
        goes_on GoesOn (move_of t now want d u) (live_goes t s places endings unended d u (reader_row r d u reader) now want many (reader_live r d u reader))
        (λ a is. absurd (nobody.turn a is)) (λ a is. absurd (nobody.busy a is))

    -- whom a busy one waits for reads
    busy_polls : (ends : Move → Type 0) → ((r d : ℕ) (u : Consumer) → IsBound t r d u → (want : ℕ) → 0 < want → ends (move_of t now want d u)) →
        (c want d : ℕ) (k : Consumer) → t.consumer c ≡ Some k → move_of t now want c k ≡ moves.Waits (wait.Busy d) → PollsEnd ends t now d
    busy_polls ends readers c want d k row is =
        let who = w.busy_reads now c want d k row is in
        polls_by ends d who.1 (reader_row who.0 d who.1 who.2) (reader_live who.0 d who.1 who.2) (readers who.0 d who.1 who.2)

    -- WHO HAS THE TURN

    holder_ends : (d : ℕ) (u : Consumer) → t.consumer d ≡ Some u → is_live_place u.place ≡ true → turn t u.request.key ≡ Some d → (want : ℕ) → 0 < want →
        ChainEnds 1 t now (move_of t now want d u)
    holder_ends d u row live has want many =
        goes_on (λ a. PollsEnd (ChainEnds 0 t now) t now a) (move_of t now want d u) (live_goes t s places endings unended d u row now want many live)
        (λ a is. absurd (w.turn_goes now d want a u row has is))
        (λ a is. busy_polls (ChainEnds 0 t now) (reader_ends (λ b. ⊥)) d want a u row is)

    -- ANYBODY

    module _ (c want : ℕ) (k : Consumer) (row : t.consumer c ≡ Some k) where
      turn_polls : (d : ℕ) → move_of t now want c k ≡ moves.Waits (wait.Turn d) → PollsEnd (ChainEnds 1 t now) t now d
      turn_polls d is =
          let queued = waited_as t now c k (wait.Turn d) (waited.turn d) want s row (subst (WaitsAs (wait.Turn d)) (sym is) said.waits) in
          let behind = behind_turn (plan_view t now c k) d (queued.turn_is d refl) in
          let has : turn t k.request.key ≡ Some d =
          turn_without t k.request.key c d behind.turn_is (subst (λ n. nat_eq n c ≡ false) behind.turn_is behind.other) in
          let stands : StandsInLine t k.request.key d = turn_stands t k.request.key d has in
          polls_by (ChainEnds 1 t now) d stands.k stands.row stands.live
          (holder_ends d stands.k stands.row stands.live (ap (turn t) stands.of_key ∙ has))

      ends : is_live_place k.place ≡ true → 0 < want → ChainEnds 2 t now (move_of t now want c k)
      ends live many =
          goes_on (λ d. PollsEnd (ChainEnds 1 t now) t now d) (move_of t now want c k) (live_goes t s places endings unended c k row now want many live)
          turn_polls
          (λ d is. busy_polls (ChainEnds 1 t now) (reader_ends (λ b. PollsEnd (ChainEnds 0 t now) t now b)) c want d k row is)

    any_ends : (c want : ℕ) (o : Option Consumer) → t.consumer c ≡ o → is_live o ≡ true → 0 < want → ChainEnds 2 t now (poll_move t now want c o)
    any_ends c want None row live many = absurd (false_true live)
    any_ends c want (Some k) row live many = ends c want k row live many

  chains_end : ChainsEnd t
  chains_end now c want live many = any_ends now c want (t.consumer c) refl live many

-- Waits end, in every run.
pub chains_in_runs : OfRuns ChainsEnd
chains_in_runs limits contents h may run =
    chains_end (tables contents h) (runs_are_sound limits contents h may run) (places_in_runs limits contents h may run)
    (endings_in_runs limits contents h may run) (unended_in_runs limits contents h may run) (waits_in_runs limits contents h may run)
