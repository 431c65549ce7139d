-- What a block tells of each of its offsets.
use Rattle.std.specs.Prelude.{Bool, nat_lt, vec_len, vec_capacity}
use Rattle.hc_sparse.specs.Extents.{Marks, marks_of}
use Rattle.hc_sparse.specs.declared.block.Block.{Block}

-- The mark of each offset.
abbrev pub marks_in : Block → Marks
marks_in b o = marks_of b.extents.items o

-- Whether one extent more needs no memory.
abbrev pub has_spare : Block → Bool
has_spare b = nat_lt (vec_len b.extents) (vec_capacity b.extents)
