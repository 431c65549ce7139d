-- A record as a file: blocks one behind the other. Each has its length, the sum of that, a text, and the sum of both. Every
-- sum is also one of the sum before, so a block counts only where it was written.
use Rattle.std.specs.Prelude.{◌≡◌, ◌⊎◌, ℕ, List, [], ◌∷◌, ◌++◌, length, ◌+◌, ◌<◌, ◌^◌}
use Rattle.std.specs.List.{concat}
use Rattle.hc_folder.specs.Sums.{number_bytes, sum_behind}
use Rattle.hc_folder.specs.declared.block.Taken.{Taken}
use Rattle.hc_folder.specs.declared.block.Taken.TheVariants as taken

-- ONE BLOCK

-- what stands before the text: its length, and the sum of that
unfoldable pub head_of : List ℕ → ℕ → List ℕ
head_of sum n = number_bytes n ++ sum_behind sum n []

-- the sum behind the text
abbrev pub sum_after : List ℕ → List ℕ → List ℕ
sum_after sum text = sum_behind sum (length text) text

-- a block behind what has this sum
abbrev pub block : List ℕ → List ℕ → List ℕ
block sum text = head_of sum (length text) ++ (text ++ sum_after sum text)

-- MANY

abbrev pub blocks : List ℕ → List (List ℕ) → List ℕ
blocks sum [] = []
blocks sum (text ∷ texts) = block sum text ++ blocks (sum_after sum text) texts

-- the sum behind all of them
abbrev pub sum_through : List ℕ → List (List ℕ) → List ℕ
sum_through sum [] = sum
sum_through sum (text ∷ texts) = sum_through (sum_after sum text) texts

-- a text is no longer than a file may be
abbrev pub IsShort : List ℕ → Type 0
IsShort text = length text < 2 ^ 64

abbrev pub AreShort : List (List ℕ) → Type 0
AreShort [] = Unit {0}
AreShort (text ∷ texts) = IsShort text × AreShort texts

-- WHAT STANDS FIRST IN A FILE

-- no block does
abbrev pub BeginsWithNone : List ℕ → List ℕ → Type 0
BeginsWithNone sum file = (text rest : List ℕ) → IsShort text → ¬ (block sum text ++ rest ≡ file)

-- no block does, whatever follows the file
abbrev pub IsBroken : List ℕ → List ℕ → Type 0
IsBroken sum file =
    (text rest more : List ℕ) → IsShort text → ¬ (block sum text ++ rest ≡ file ++ more)

-- It is shorter than a head, or than what its head says.
abbrev pub IsCutShort : List ℕ → List ℕ → Type 0
IsCutShort sum file =
    (length file < 24)
    ⊎ ((n : ℕ) × (rest : List ℕ) × (head_of sum n ++ rest ≡ file) × (length rest < n + 16))

pub record IsCut (sum file : List ℕ) : Type 0 where
  pub none : BeginsWithNone sum file
  pub short : IsCutShort sum file

abbrev pub IsTaken : List ℕ → List ℕ → Taken → Type 0
IsTaken sum file (taken.Whole b) =
    (block sum b.text.now ++ b.rest.now ≡ file) × (b.sum ≡ sum_after sum b.text.now)
    × IsShort b.text.now
IsTaken sum file taken.Cut = IsCut sum file
IsTaken sum file taken.Broken = IsBroken sum file

-- WHAT A RECORD HAS

-- It begins with blocks of these texts, one behind the other, which have this text together. This is the sum behind them, and
-- this the rest.
pub record IsReadTo (sum file text sum' rest : List ℕ) : Type 0 where
  pub texts : List (List ℕ)
  pub short : AreShort texts
  pub file_is : blocks sum texts ++ rest ≡ file
  pub sum_is : sum' ≡ sum_through sum texts
  pub text_is : text ≡ concat texts

-- Its whole blocks have this text. What stands behind them was cut.
pub record HasText (sum file text : List ℕ) : Type 0 where
  pub sum' : List ℕ
  pub rest : List ℕ
  pub read : IsReadTo sum file text sum' rest
  pub cut : IsCut sum' rest

-- Behind so many bytes, which are whole blocks, there is none, whatever follows the file.
pub record IsBrokenAt (sum file : List ℕ) (at : ℕ) : Type 0 where
  pub text : List ℕ
  pub sum' : List ℕ
  pub rest : List ℕ
  pub read : IsReadTo sum file text sum' rest
  pub at_is : at + length rest ≡ length file
  pub broken : IsBroken sum' rest
