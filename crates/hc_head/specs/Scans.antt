-- Where a head ends: with its first empty line (RFC 9112 section 2.1). Empty lines before the first other line are
-- passed (section 2.2), and a line ends with a line feed, with or without a carriage return before it (section 2.2).
use Rattle.std.specs.Prelude.{◌≡◌, ℕ, ◌+◌, ◌==◌, Bool, true, false, List, [], ◌∷◌, ◌++◌, length, Option, Some, None, if◌then◌else◌}
use Rattle.hc_text.specs.Texts.{lacks}
use Rattle.hc_head.specs.declared.scan.Scan.{Scan}
use Rattle.hc_head.specs.declared.scan.Scan.TheVariants.{Before, BeforeReturn, Within, Beginning, BeginningReturn, Ended}
use Rattle.hc_head.specs.declared.scan.Sought.{Sought}
use Rattle.hc_head.specs.declared.scan.Sought.TheVariants.{Ends, Open}

-- behind one more byte
abbrev pub scan_byte : Scan → ℕ → Scan
scan_byte Before b = if b == 10 then Before else if b == 13 then BeforeReturn else Within
scan_byte BeforeReturn b = if b == 10 then Before else Within
scan_byte Within b = if b == 10 then Beginning else Within
scan_byte Beginning b = if b == 10 then Ended else if b == 13 then BeginningReturn else Within
scan_byte BeginningReturn b = if b == 10 then Ended else Within
scan_byte Ended b = Ended

-- behind these bytes
abbrev pub scan_all : Scan → List ℕ → Scan
scan_all scan [] = scan
scan_all scan (b ∷ bytes) = scan_all (scan_byte scan b) bytes

-- the head has not ended
abbrev pub is_open : Scan → Bool
is_open Before = true
is_open BeforeReturn = true
is_open Within = true
is_open Beginning = true
is_open BeginningReturn = true
is_open Ended = false

-- the head ends with so many of the bytes, the last of them a line feed
pub record IsHeadEnd (scan : Scan) (bytes : List ℕ) (n : ℕ) : Type 0 where
  pub front : List ℕ
  pub rest : List ℕ
  pub whole : front ++ 10 ∷ rest ≡ bytes
  pub len : n ≡ length front + 1
  pub open_before : is_open (scan_all scan front) ≡ true
  pub ends : scan_byte (scan_all scan front) 10 ≡ Ended

-- the head doesn't end with the bytes, which lead here
pub record StaysOpen (scan : Scan) (bytes : List ℕ) (next : Scan) : Type 0 where
  pub leads : next ≡ scan_all scan bytes
  pub still_open : is_open next ≡ true

-- what the search comes to
abbrev pub IsSought : Scan → List ℕ → Sought → Type 0
IsSought scan bytes (Ends n) = IsHeadEnd scan bytes n
IsSought scan bytes (Open next) = StaysOpen scan bytes next

-- the first line feed stands behind a line, which has so many bytes
pub record IsLineBefore (text : List ℕ) (n : ℕ) : Type 0 where
  pub line : List ℕ
  pub rest : List ℕ
  pub whole : line ++ 10 ∷ rest ≡ text
  pub len : n ≡ length line
  pub is_line : lacks 10 line ≡ true

-- where the first line feed stands, if there is one
abbrev pub IsLineEnd : List ℕ → Option ℕ → Type 0
IsLineEnd text None = lacks 10 text ≡ true
IsLineEnd text (Some n) = IsLineBefore text n
