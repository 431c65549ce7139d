-- The first line of an item: its forms, and which of them a line is.
use Rattle.std.specs.Prelude.{ℕ, ◌&&◌, not, nat_le, Bool, List, length, codes, bytes_eq, Option, Some, None, option_map, if◌then◌else◌}
use Rattle.std.specs.List.{list_all}
use Rattle.http_header.specs.Token.{is_token_byte}
use Rattle.hc_text.specs.Texts.{lacks, cut, behind}
use Rattle.hc_event.specs.declared.event.Event.{Event}
use Rattle.hc_event.specs.declared.event.Event.TheVariants as event
use Rattle.hc_event.specs.declared.event.Load.{Load}
use Rattle.hc_event.specs.declared.event.Load.TheVariants as load
use Rattle.hc_sched.specs.Words.{◌>>=◌, or_else, plain_of, plain_within, number_and_rest}
use Rattle.hc_sched.specs.Pieces.{is_piece_text}

-- What the first line of an item says. The target is any word: whether it is one is tested apart.
pub data First : Type 0 where
  -- the moment is set
  Sets : (now : ℕ) → First
  -- a request of a consumer, with so many field lines to come
  Starts : (c : ℕ) (method : List ℕ) (load : Load) (target : List ℕ) (count : ℕ) → First
  -- the head of an exchange, with so many field lines to come
  Heads : (x status count : ℕ) → First
  -- a piece of an exchange, by its text
  Brings : (x : ℕ) (text : List ℕ) → First
  -- all entries of a target are forgotten
  Dooms : (target : List ℕ) → First
  -- an event of numbers alone
  Reports : (event : Event) → First

-- a token of 1 to 15 bytes other than `CONNECT`
unfoldable pub is_method : List ℕ → Bool
is_method method =
    list_all is_token_byte method && nat_le 1 (length method) && nat_le (length method) 15
    && not (bytes_eq method (codes "CONNECT"))

unfoldable pub load_of : List ℕ → Option Load
load_of word =
    if bytes_eq word (codes "normal") then Some load.Normal
    else if bytes_eq word (codes "validate") then Some load.Validate
    else if bytes_eq word (codes "bypass") then Some load.Bypass
    else if bytes_eq word (codes "skip") then Some load.Skip
    else if bytes_eq word (codes "only") then Some load.Only
    else if bytes_eq word (codes "disable") then Some load.Disable
    else None

-- one or more bytes without a space
unfoldable pub is_word : List ℕ → Bool
is_word text = nat_le 1 (length text) && lacks 32 text

-- `LOAD TARGET K`
unfoldable pub how_of : List ℕ → Option (Load × List ℕ × ℕ)
how_of words = do
  first ← cut 32 words
  kind ← load_of first.0
  second ← cut 32 first.1
  count ← plain_within 0 64 second.1
  if is_word second.0 then Some (kind, second.0, count) else None

-- `C METHOD LOAD TARGET K`
unfoldable pub start_of : List ℕ → Option First
start_of words = do
  first ← number_and_rest words
  second ← cut 32 first.1
  how ← how_of second.1
  if is_method second.0 then Some (Starts first.0 second.0 how.0 how.1 how.2) else None

-- `C WANT`
unfoldable pub poll_of : List ℕ → Option First
poll_of words = do
  first ← number_and_rest words
  want ← plain_within 0 65536 first.1
  Some (Reports (event.Poll first.0 want))

-- `X STATUS K`
unfoldable pub head_of : List ℕ → Option First
head_of words = do
  first ← number_and_rest words
  second ← cut 32 first.1
  status ← plain_within 200 599 second.0
  count ← plain_within 0 64 second.1
  Some (Heads first.0 status count)

-- `X HEX`
unfoldable pub piece_of : List ℕ → Option First
piece_of words = do
  first ← number_and_rest words
  if is_piece_text first.1 then Some (Brings first.0 first.1) else None

unfoldable pub doom_of : List ℕ → Option First
doom_of words = if is_word words then Some (Dooms words) else None

-- the form of the line
unfoldable pub first_of : List ℕ → Option First
first_of line =
    or_else (behind (codes "poll ") line) poll_of (
    or_else (behind (codes "piece ") line) piece_of (
    or_else (behind (codes "at ") line) (λ words. option_map Sets (plain_of words)) (
    or_else (behind (codes "start ") line) start_of (
    or_else (behind (codes "head ") line) head_of (
    or_else (behind (codes "end ") line)
    (λ words. option_map (λ x. Reports (event.End x)) (plain_of words)) (
    or_else (behind (codes "fault ") line)
    (λ words. option_map (λ x. Reports (event.Fault x)) (plain_of words)) (
    or_else (behind (codes "cancel ") line)
    (λ words. option_map (λ c. Reports (event.Cancel c)) (plain_of words)) (
    or_else (behind (codes "doom ") line) doom_of None))))))))
