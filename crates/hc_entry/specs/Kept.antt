-- What is kept of a key: who waits for its representation, and which one is current.
use Rattle.std.specs.Prelude.{◌≡◌, ℕ, List, [], bytes_eq, Bool, true, not, ◌&&◌, is_some, if◌then◌else◌, Option, None}
use Rattle.hc_entry.specs.Lines.{Line, is_in, is_empty}

-- The consumers in line, the passed and the away ones, each by number, the one in line that holds the turn, if one does,
-- and the representation that is current, if one is.
pub record Kept : Type 0 where
  pub in_line : List ℕ
  pub passed : List ℕ
  pub away : List ℕ
  pub holder : Option ℕ
  pub current : Option ℕ

abbrev pub nothing : Kept
nothing = record { in_line = []; passed = []; away = []; holder = None; current = None }

-- its line, of which no places are told
abbrev pub line_in : Kept → Line
line_in k = record { in_line = k.in_line; passed = k.passed; away = k.away; holder = k.holder; places = [] }

abbrev pub kept_in : Line → Option ℕ → Kept
kept_in l current =
    record { in_line = l.in_line; passed = l.passed; away = l.away; holder = l.holder; current = current }

-- the line changes
abbrev pub on_line : (Line → Line) → Kept → Kept
on_line f k = kept_in (f (line_in k)) k.current

-- this is current, or none is
abbrev pub with_current : Option ℕ → Kept → Kept
with_current r k = record k { current = r }

-- nobody waits, and none is current
abbrev pub is_nothing : Kept → Bool
is_nothing k = is_empty (line_in k) && not (is_some k.current)

-- what is kept of each key
abbrev pub Table : Type 0
Table = List ℕ → Kept

-- what is kept of one key changes, and of every other it stays
abbrev pub Changes : (Kept → Kept) → List ℕ → Table → Table → Type 0
Changes f key before after =
    (k : List ℕ) → after k ≡ (if bytes_eq key k then f (before key) else before k)
