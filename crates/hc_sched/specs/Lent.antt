-- What the code has of a first line, which it lends from the text.
use Rattle.std.specs.Prelude.{◌≡◌, ℕ, ◌+◌, ◌≤◌, true, length}
use Rattle.hc_sched.specs.declared.first.First.{First as Lent}
use Rattle.hc_sched.specs.declared.first.First.TheVariants as lent
use Rattle.hc_sched.specs.FirstLines.{First, Sets, Starts, Heads, Brings, Dooms, Reports}
use Rattle.hc_sched.specs.Pieces.{is_piece_text}

abbrev pub as_first : Lent → First
as_first (lent.Sets now) = Sets now
as_first (lent.Starts start) =
    Starts start.c start.method.now start.load start.target.now start.count
as_first (lent.Heads x status count) = Heads x status count
as_first (lent.Brings x text) = Brings x text.now
as_first (lent.Dooms target) = Dooms target.now
as_first (lent.Reports event) = Reports event

-- a line of so many bytes may say so
abbrev pub Suits : First → ℕ → Type 0
Suits (Sets now) len = Unit {0}
Suits (Starts c method load target count) len = (count ≤ 64) × (len ≤ length target + 100)
Suits (Heads x status count) len = (count ≤ 64) × (len ≤ 100)
Suits (Brings x text) len = is_piece_text text ≡ true
Suits (Dooms target) len = Unit {0}
Suits (Reports event) len = Unit {0}
