-- What an event says that isn't denied.
use Rattle.std.{proofs.{Common.{◌≡◌, ℕ, ◌<◌, List, length, Bool, true, false, Option, Some, None, refl, sym, arith}, lemmas.Bool.Decides.{nat_tests}}, specs.Prelude.{nat_le, nat_lt, ◌==◌, if◌then◌else◌, not}}
use Rattle.hc_text.proofs.Basics.{not_false as not_off}
use Rattle.hc_effects.proofs.Vocabulary.{event, Request, Response, Refusal, Gate, refusal_of, head_refusal, piece_refusal, end_refusal, fault_refusal}
use Rattle.hc_effects.proofs.Tests.{none_some}

first_off : (b : Bool) (r : Refusal) (rest : Option Refusal) → (if b then Some r else rest) ≡ None → b ≡ false
first_off false r rest is = refl
first_off true r rest is = none_some r (sym is)

rest_off : (b : Bool) (r : Refusal) (rest : Option Refusal) → (if b then Some r else rest) ≡ None → rest ≡ None
rest_off false r rest is = is
rest_off true r rest is = none_some r (sym is)

pub start_ascends : (g : Gate) (c : ℕ) (request : Request) → refusal_of g (event.Start c request) ≡ None → g.last_start < c
unfolding refusal_of
start_ascends g c request none = let off = first_off (nat_le c g.last_start) _ _ none in grind (arith, nat_tests, off)

pub poll_lives : (g : Gate) (c want : ℕ) → refusal_of g (event.Poll c want) ≡ None → g.is_live ≡ true
unfolding refusal_of
poll_lives g c want none = not_off g.is_live (first_off (not g.is_live) _ _ (rest_off (nat_lt g.last_start c) _ _ none))

pub poll_wants : (g : Gate) (c want : ℕ) → refusal_of g (event.Poll c want) ≡ None → 0 < want
unfolding refusal_of
poll_wants g c want none =
    let off : (want == 0) ≡ false = first_off (want == 0) _ _ (rest_off (not g.is_live) _ _ (rest_off (nat_lt g.last_start c) _ _ none)) in
    grind (arith, nat_tests, off)

pub cancel_lives : (g : Gate) (c : ℕ) → refusal_of g (event.Cancel c) ≡ None → g.is_live ≡ true
unfolding refusal_of
cancel_lives g c none = not_off g.is_live (first_off (not g.is_live) _ _ (rest_off (nat_lt g.last_start c) _ _ none))

pub head_free : (g : Gate) (x : ℕ) (response : Response) → refusal_of g (event.Head x response) ≡ None → head_refusal g.exchange ≡ None
unfolding refusal_of
head_free g x response none = none

pub piece_free : (g : Gate) (x : ℕ) (bytes : List ℕ) → refusal_of g (event.Piece x bytes) ≡ None → piece_refusal g.exchange (length bytes) ≡ None
unfolding refusal_of
piece_free g x bytes none = none

pub end_free : (g : Gate) (x : ℕ) → refusal_of g (event.End x) ≡ None → end_refusal g.exchange ≡ None
unfolding refusal_of
end_free g x none = none

pub fault_free : (g : Gate) (x : ℕ) → refusal_of g (event.Fault x) ≡ None → fault_refusal g.exchange ≡ None
unfolding refusal_of
fault_free g x none = none
