-- How many bytes the lines of fields have.
use Rattle.std.proofs.{Common.{◌≡◌, ℕ, ◌+◌, List, [], ◌∷◌, length, refl, arith, length-append}, lemmas.List.Sums.{sum_by-cons}}
use Rattle.hc_fields.specs.Lines.{field_text, fields_text}
use Rattle.hc_fields.proofs.MarkLemmas.{length-field_text}
use Rattle.hc_binary.specs.Numbers.{lines_length}

pub lines_length-text : (fs : List (List ℕ × List ℕ)) → lines_length fs ≡ length (fields_text fs)
lines_length-text [] = refl
lines_length-text (f ∷ fs) =
    let size = sum_by-cons (λ (g : List ℕ × List ℕ). length g.0 + length g.1) f fs in
    let line = length-field_text f.0 f.1 in
    let both = length-append (field_text f) (fields_text fs) in
    let rest = lines_length-text fs in
    omega (arith, size, line, both, rest)
