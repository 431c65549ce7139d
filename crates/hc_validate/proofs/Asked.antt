-- What Range asks for, as it is read.
use Rattle.std.{proofs.Common.{◌≡◌, ℕ, List, Option, Some, None, subst}, specs.Prelude.{IfSome, IsSomeAnd}}
use Rattle.hc_range.specs.{declared.range.RangeSpec.{RangeSpec}, Ranges.{SpellsRange}}
use Rattle.hc_validate.specs.{Origin.{IsAsked, range_of}, Updates.{FieldPairs}}

no_spelling : (text : List ℕ) → ((asked : RangeSpec) → SpellsRange text asked → None ≡ Some asked) → (asked : RangeSpec) → ¬ (SpellsRange text asked)
no_spelling text none asked spells = let e : None ≡ Some asked = none asked spells in absurd (cc)

pub asked_by : (fields : FieldPairs) (text : List ℕ) (asked : Option RangeSpec) → Some text ≡ range_of fields
    → IfSome asked (SpellsRange text) → ((one : RangeSpec) → SpellsRange text one → asked ≡ Some one) → IsAsked fields asked
asked_by fields text (Some asked) is found spelled = subst (λ (o : Option (List ℕ)). IsSomeAnd o (λ t. SpellsRange t asked)) is found
asked_by fields text None is found spelled =
    subst (λ (o : Option (List ℕ)). IfSome o (λ t. (one : RangeSpec) → ¬ (SpellsRange t one))) is (no_spelling text spelled)
