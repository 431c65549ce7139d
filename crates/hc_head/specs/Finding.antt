-- Where a head ends, within 32,768 bytes.
use Rattle.std.specs.Prelude.{◌≡◌, ℕ, ◌+◌, ◌<◌, ◌≤◌, true, List, ◌++◌, length, Result, Ok, Err}
use Rattle.hc_head.specs.declared.message.MsgError.{MsgError}
use Rattle.hc_head.specs.declared.message.MsgError.TheVariants as error
use Rattle.hc_head.specs.declared.scan.Scan.{Scan}
use Rattle.hc_head.specs.declared.scan.Sought.{Sought}
use Rattle.hc_head.specs.declared.scan.Sought.TheVariants as sought
use Rattle.hc_head.specs.Scans.{scan_all, is_open, IsHeadEnd, StaysOpen}

-- the head doesn't end with the first of the bytes, which are 32,768 with those before, and there is one more
pub record IsLong (held : ℕ) (scan : Scan) (piece : List ℕ) : Type 0 where
  pub front : List ℕ
  pub rest : List ℕ
  pub whole : front ++ rest ≡ piece
  pub some : 0 < length rest
  pub len : held + length front ≡ 32768
  pub still_open : is_open (scan_all scan front) ≡ true

-- what a search behind so many bytes of the head comes to
abbrev pub Finds : ℕ → Scan → List ℕ → Result Sought MsgError → Type 0
Finds held scan piece (Ok (sought.Ends n)) = IsHeadEnd scan piece n × (held + n ≤ 32768) × (n ≤ length piece)
Finds held scan piece (Ok (sought.Open next)) = StaysOpen scan piece next × (held + length piece ≤ 32768)
Finds held scan piece (Err e) = (e ≡ error.HeadTooLong) × IsLong held scan piece
