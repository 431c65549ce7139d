use Rattle.std.{proofs.{Common.{◌≡◌, ℕ, ◌<◌, ◌==◌, List, Option, Some, None, true, false, length, get_or, refl, arith, lt-ltb}, lemmas.{Bool.{le-ltb, false_from_ne_true}, List.Sums.{position_or_len_is}}}, specs.{Prelude.{position, nat_lt}, List.{position_or_len}}}
use Rattle.memchr.specs.Find.{IsFirstByte, is_byte}
use Rattle.hc_text.proofs.split.position_of.Goals as goal

position_is : (b : ℕ) (text : List ℕ) (r : Option ℕ) → IsFirstByte (is_byte b) text r → r ≡ position (λ x. x == b) text
position_is b text None h =
    let at : position_or_len (λ x. x == b) text ≡ length text =
    position_or_len_is (λ x. x == b) text (length text) 0 (omega arith) (λ k lt. false_from_ne_true (get_or text k 0 == b) (λ e. h k (omega arith) lt e))
    (λ no. absurd (omega arith)) in
    let past : nat_lt (position_or_len (λ x. x == b) text) (length text) ≡ false = le-ltb (position_or_len (λ x. x == b) text) (length text) (omega arith) in
    rw past refl
position_is b text (Some k) h =
    let first = h.0 in
    let high : k < length text = first.high in
    let at : position_or_len (λ x. x == b) text ≡ k =
    position_or_len_is (λ x. x == b) text k 0 (omega arith) (λ j lt. false_from_ne_true (get_or text j 0 == b) (λ e. first.before j (omega arith) lt e))
    (λ _. h.1) in
    let within : nat_lt (position_or_len (λ x. x == b) text) (length text) ≡ true = rw at (lt-ltb k (length text) high) in
    rw (within, at) refl

pub returns : goal.returns
returns c = position_is c.args.byte c.args.text.now c.memchr.result c.memchr.ensures
