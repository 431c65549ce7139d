-- Whether a list of tags has one.
use Rattle.std.{proofs.Common.{◌≡◌, ◌↔◌, Bool, ◌||◌, ℕ, List, [], ◌∷◌, Option, Some, refl, ap, subst}, specs.{Prelude.{Result, IfOk, IsTrue, IsSomeAnd, bytes_eq}, List.{list_any}}}
use Rattle.hc_text.specs.declared.memory.NoMemory.{NoMemory}
use Rattle.hc_etag.specs.{declared.tag.Tag.{Tag}, Tags.{values_of}}
use Rattle.hc_validate.specs.Origin.{Lists, has_tag, is_tag}

-- a test of tags is one of their values
pub any_of : (opaque : List ℕ) (tags : List Tag) → list_any (is_tag opaque) tags ≡ has_tag opaque (values_of tags)
any_of opaque [] = refl
any_of opaque (t ∷ ts) = ap (λ (b : Bool). bytes_eq t.opaque opaque || b) (any_of opaque ts)

-- the joined values are the text that is read
pub listed_in : (opaque text : List ℕ) (joined : Option (List ℕ)) (r : Result Bool NoMemory) → Some text ≡ joined
    → IfOk r (λ listed. IsTrue listed ↔ Lists opaque text) → IfOk r (λ listed. IsTrue listed ↔ IsSomeAnd joined (Lists opaque))
listed_in opaque text joined r is h = subst (λ (o : Option (List ℕ)). IfOk r (λ listed. IsTrue listed ↔ IsSomeAnd o (Lists opaque))) is h
