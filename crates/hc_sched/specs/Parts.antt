-- A line as a list of parts.
use Rattle.std.specs.Prelude.{◌≡◌, ℕ, List, [], ◌∷◌, ◌++◌}
use Rattle.std.specs.Fmt.{decimal}
use Rattle.hc_sched.specs.declared.parts.Part.{Part}
use Rattle.hc_sched.specs.declared.parts.Part.TheVariants.{Text, Number}

abbrev pub part_text : Part → List ℕ
part_text (Text bytes) = bytes.now
part_text (Number n) = decimal n

-- theirs, one after another
abbrev pub parts_text : List Part → List ℕ
parts_text [] = []
parts_text (part ∷ parts) = part_text part ++ parts_text parts

-- what was there stands first
pub record IsKept (old new : List ℕ) : Type 0 where
  pub more : List ℕ
  pub whole : old ++ more ≡ new
