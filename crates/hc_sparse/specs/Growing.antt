-- Bytes that are kept in segments.
use Rattle.std.specs.Prelude.{◌≡◌, ℕ, List, [], ◌∷◌, length, take, Bool, true, false, nat_eq, if◌then◌else◌}

-- Each has 16,384 bytes.
abbrev pub are_whole : List (List ℕ) → Bool
are_whole [] = true
are_whole (s ∷ ss) = if nat_eq (length s) 16384 then are_whole ss else false

-- Bytes stand at the beginning of others.
abbrev pub Begin : List ℕ → List ℕ → Type 0
Begin first bytes = take (length first) bytes ≡ first
