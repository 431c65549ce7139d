-- What is called whole is whole.
use Rattle.std.proofs.{lemmas.Bool.Decides.{nat_tests}, Common.{arith, ◌≡◌, ℕ, List, Bool, true, false, cond, Option, Some, None, refl}}
use Rattle.hc_record.specs.declared.kind.Kind.TheVariants as kind
use Rattle.hc_effects.proofs.Vocabulary.{current, kind_of, kind_for, is_growing, is_complete, is_prefix, covers_all, Tables, Representation}
use Rattle.hc_model.specs.Laws.{IsWhole}
use Rattle.hc_effects.proofs.HoleLemmas as holes

-- of these words only the second is Whole
complete_by : (growing complete front : Bool) →
    (cond growing kind.Growing (cond complete kind.Whole (cond front kind.Truncated kind.Ranges))) ≡ kind.Whole → complete ≡ true
complete_by growing complete front h = grind (arith, nat_tests)

whole_by : (v : Representation) (o : Option ℕ) → v.head.total ≡ o → covers_all v o ≡ true → IsWhole v
whole_by v None is h = absurd (let never : false ≡ true = h in cc)
whole_by v (Some total) is h = (total, is, holes.covers_all v.stored v.reach 0 total h)

pub whole_is : (t : Tables) (key : List ℕ) (r : ℕ) (v : Representation) → current t key ≡ Some r → t.representation r ≡ Some v →
    kind_for t key ≡ Some kind.Whole → IsWhole v
unfolding kind_of
whole_is t key r v is row found = whole_by v v.head.total refl (complete_by (is_growing t r) (is_complete v) (is_prefix v) cc)
