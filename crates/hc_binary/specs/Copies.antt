-- Bytes that are copied into a room.
use Rattle.std.specs.Prelude.{◌≡◌, ℕ, List, ◌++◌, length, min, take}

-- the first n bytes of the room are the first of the text, as many as there are or as fit
pub record HoldsPrefix (room : List ℕ) (n : ℕ) (text : List ℕ) : Type 0 where
  pub count : n ≡ min (length text) (length room)
  pub front : take n room ≡ take n text

-- a room that held the front of any text holds that of the longer one
pub record Puts (old : List ℕ) (at : ℕ) (bytes new : List ℕ) (n : ℕ) : Type 0 where
  pub room : length new ≡ length old
  pub holds : (text : List ℕ) → HoldsPrefix old at text → HoldsPrefix new n (text ++ bytes)
