-- A text that is written over whole.
use Rattle.std.proofs.{Common.{◌≡◌, ℕ, List, ◌++◌, length, take, drop, ◌∙◌, arith}, lemmas.List.{take-append-le, take_all}}

pub whole-text : (n : ℕ) (new old : List ℕ) → length new ≡ n → take n (new ++ drop (length new) old) ≡ new
whole-text n new old is = take-append-le n new (drop (length new) old) (omega arith) ∙ take_all n new (omega arith)
