-- The bytes that all consumers were given, by their positions, and those that are written.
use Rattle.std.specs.Prelude.{ℕ, zero, suc, ◌+◌, max, List, [], ◌∷◌, length, drop, Option, Some, None}
use Rattle.hc_sparse.specs.Cells.{Cells, Cell, nothing, cells_with}
use Rattle.hc_event.specs.declared.act.Act.{Act}
use Rattle.hc_event.specs.declared.act.Act.TheVariants as act
use Rattle.hc_model.specs.Entries.{History}

-- what acts give, over what was there
abbrev pub gathered_in : List Act → Cells → Cells
gathered_in [] f = f
gathered_in (act.Given c x at bytes ∷ acts) f = gathered_in acts (cells_with at x bytes f)
gathered_in (_ ∷ acts) f = gathered_in acts f

-- all that was given
abbrev pub gathered : History → Cells
gathered [] = nothing
gathered (e ∷ f) = gathered_in e.acts (gathered f)

abbrev pub given_end_in : List Act → ℕ
given_end_in [] = 0
given_end_in (act.Given c x at bytes ∷ acts) = max (at + length bytes) (given_end_in acts)
given_end_in (_ ∷ acts) = given_end_in acts

-- no byte from this position on was given
abbrev pub given_end : History → ℕ
given_end [] = 0
given_end (e ∷ f) = max (given_end_in e.acts) (given_end f)

abbrev pub byte_before : Option Cell → List ℕ → List ℕ
byte_before None rest = []
byte_before (Some cell) rest = cell.byte ∷ rest

-- the bytes from a position on without a gap, at most so many
abbrev pub bytes_on : Cells → ℕ → ℕ → List ℕ
bytes_on f p zero = []
bytes_on f p (suc n) = byte_before (f p) (bytes_on f (p + 1) n)

-- what is written: all bytes given from 0 on without a gap
unfoldable pub written_of : History → List ℕ
written_of f = bytes_on (gathered f) 0 (given_end f)

-- what is written before the last event
abbrev pub written_before : History → List ℕ
written_before [] = []
written_before (e ∷ f) = written_of f

-- what is written behind it
abbrev pub written_last : History → List ℕ
written_last f = drop (length (written_before f)) (written_of f)
