-- Draws: numbers that follow one another by a linear step, from a seed.
use Rattle.std.specs.Prelude.{ℕ, ◌+◌, ◌*◌, ◌/◌, ◌%◌, ◌^◌, List, length, Option, Some, None, slice_get}

-- the state after a draw
unfoldable pub state_after_draw : ℕ → ℕ
state_after_draw s = (s * 6364136223846793005 + 1442695040888963407) % 2 ^ 64

-- the number that is drawn below n
unfoldable pub draw_below : ℕ → ℕ → ℕ
draw_below n s = state_after_draw s / 2 ^ 33 % n

-- the one of these that is drawn, if there is any
abbrev pub choice_of : List ℕ → ℕ → Option ℕ
choice_of numbers s = slice_get numbers (draw_below (length numbers) s)

-- the state after that: where there is none, nothing is drawn
abbrev pub past_pick : Option ℕ → ℕ → ℕ
past_pick None s = s
past_pick (Some n) s = state_after_draw s
