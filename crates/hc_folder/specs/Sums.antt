-- The sums that the files of a store end in: MD5 (RFC 1321), which tells a changed byte and no forger.
use Rattle.std.specs.Prelude.{ℕ, List, ◌++◌}
use Rattle.std.specs.Int.{w64, to_le_bytes}
use Rattle.md5.specs.Md5.{md5}

-- a number as eight bytes, the lowest first
unfoldable pub number_bytes : ℕ → List ℕ
number_bytes n = to_le_bytes w64 n

-- the sum of a number and a text that stand behind what has this sum
unfoldable pub sum_behind : List ℕ → ℕ → List ℕ → List ℕ
sum_behind sum n text = md5 ((sum ++ number_bytes n) ++ text)
