-- What the elements so far tell of the length of a body, read one by one.
use Rattle.std.specs.Prelude.{ℕ, List, [], ◌∷◌, if◌then◌else◌, Option, Some}
use Rattle.hc_rules.specs.declared.length.Length.{Length}
use Rattle.hc_rules.specs.declared.length.Length.TheVariants.{Unknown, Promised, Part, Bad}
use Rattle.hc_rules.specs.Lengths.{is_same_number, promised_or_bad}
use Rattle.hc_rules.specs.RangeTexts.{number_of}

-- with one more number: the first is promised, and each later one is to be the same
abbrev pub with_number : Length → Option ℕ → Length
with_number Unknown number = promised_or_bad number
with_number (Promised n) number = if is_same_number (Some n) number then Promised n else Bad
with_number (Part base n) number = Bad
with_number Bad number = Bad

-- with one more element
abbrev pub with_element : Length → List ℕ → Length
with_element so_far element = with_number so_far (number_of element)

-- with more elements
abbrev pub with_elements : Length → List (List ℕ) → Length
with_elements so_far [] = so_far
with_elements so_far (element ∷ elements) = with_elements (with_element so_far element) elements
