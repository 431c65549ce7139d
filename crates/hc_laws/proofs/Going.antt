-- Who has the turn doesn't wait for it, and who is bound waits for nobody.
use Rattle.std.{proofs.{lemmas.Bool.Decides.{nat_tests}, Common.{◌≡◌, ℕ, List, Bool, true, false, Option, Some, refl, ap, sym, ◌∙◌, arith}}, specs.{Prelude.{unwrap_or}, Option.{option_or}}}
use Rattle.hc_effects.proofs.Vocabulary.{wait, least, lesser, Turns, WaitsForNobody, turn, turn_with, holder, line, Move, bound_to, Tables, Consumer, Sound}
use Rattle.hc_model.specs.Laws.{TurnsGo, ReadersGo}
use Rattle.hc_model.specs.Moves as moves
use Rattle.hc_model.specs.Sound as sound
use Rattle.hc_effects.proofs.TurnMoves.{Does, does_polled}

-- what a move waits for beside an exchange: the turn, or a busy one
abbrev waits_for : Move → Bool
waits_for (moves.Waits (wait.Turn d)) = true
waits_for (moves.Waits (wait.Busy d)) = true
waits_for _ = false

abbrev is_turn : Move → Bool
is_turn (moves.Waits (wait.Turn d)) = true
is_turn _ = false

not_it : {A : Type 0} (test : Move → Bool) (m n : Move) → test n ≡ true → test m ≡ false → m ≡ n → A
not_it test m n passes fails is = absurd (let no_one : true ≡ false = sym passes ∙ (ap test (sym is) ∙ fails) in cc)

-- WHO HAS THE TURN

with_it : (o least_one : Option ℕ) (c : ℕ) → option_or o least_one ≡ Some c → unwrap_or (option_or o (lesser least_one c)) c ≡ c
with_it o least_one c is = grind (arith, nat_tests)

has_it : (t : Tables) (key : List ℕ) (c : ℕ) → turn t key ≡ Some c → turn_with t key c ≡ c
unfolding turn
has_it t key c is = with_it (holder t key) (least (line t key)) c is

turn_goes : (t : Tables) (c d : ℕ) (k : Consumer) (m : Move) → Does t c k m → turn_with t k.request.key c ≡ c → m ≡ moves.Waits (wait.Turn d) → ⊥
turn_goes t c d k m it5 has is = grind (arith, nat_tests)

pub turns_go : TurnsGo
turns_go t s turns now c want d k row has is = turn_goes t c d k _ (does_polled t c k s turns row now want) (has_it t k.request.key c has) is

-- WHO IS BOUND

bound_goes : (t : Tables) (c r : ℕ) (k : Consumer) (m : Move) → Does t c k m → bound_to k.place ≡ Some r → waits_for m ≡ false
bound_goes t c r k m it5 bound = grind (arith, nat_tests)

readers_by : (t : Tables) (s : Sound t) (turns : Turns t) (now c want r : ℕ) (k : Consumer) → t.consumer c ≡ Some k → bound_to k.place ≡ Some r →
    WaitsForNobody t now want c k
readers_by t s turns now c want r k row bound =
    let goes = bound_goes t c r k _ (does_polled t c k s turns row now want) bound in
    record {
      turn = λ d is. not_it waits_for _ (moves.Waits (wait.Turn d)) refl goes is;
      busy = λ d is. not_it waits_for _ (moves.Waits (wait.Busy d)) refl goes is;
    }

pub readers_go : ReadersGo
readers_go t s turns now c want r k (sound.is_bound lo hi how row at) = readers_by t s turns now c want r k row (ap bound_to at)
