-- The table of what is kept by key.
use Rattle.std.specs.Prelude.{◌≡◌, ℕ, ◌<◌, List, true, Option, Some}
use Rattle.hc_entry.specs.declared.keys.KeyTable.{KeyTable}
use Rattle.hc_entry.specs.Lines.{Line, is_in}
use Rattle.hc_entry.specs.Kept.{Kept, Changes, line_in}
use Rattle.hc_entry.specs.KeyRows.{row_at, rows_of, seated_by}

abbrev pub kept_of : KeyTable → List ℕ → Kept
kept_of t key = rows_of t.rows key

-- the line of a key
abbrev pub line_of : KeyTable → List ℕ → Line
line_of t key = line_in (kept_of t key)

-- who has a seat of a key
abbrev pub seated_at : KeyTable → List ℕ → ℕ → Option ℕ
seated_at t key i = seated_by (row_at t.rows key) i

-- what is kept of one key changes, and of every other it stays
abbrev pub Becomes : (Kept → Kept) → List ℕ → KeyTable → KeyTable → Type 0
Becomes f key before after = Changes f key (kept_of before) (kept_of after)

-- all that is kept stays
abbrev pub Stays : KeyTable → KeyTable → Type 0
Stays before after = (k : List ℕ) → kept_of after k ≡ kept_of before k

-- a seat below this is that of each who waits for the key
abbrev pub AllAreSeatedBelow : ℕ → KeyTable → List ℕ → Type 0
AllAreSeatedBelow end t key =
    (c : ℕ) → is_in c (line_of t key) ≡ true → (i : ℕ) × (i < end) × (seated_at t key i ≡ Some c)

-- no other seat of the key is that of this one
abbrev pub IsItsSeat : KeyTable → List ℕ → ℕ → ℕ → Type 0
IsItsSeat t key i c = (k : ℕ) → seated_at t key k ≡ Some c → k ≡ i
