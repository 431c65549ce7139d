-- The one strong tag of a list of values.
use Rattle.std.{proofs.{Common.{◌≡◌, ℕ, ◌-◌, Bool, true, false, List, [], ◌∷◌, ◌++◌, length, Option, Some, None, refl, sym, ap, ◌∙◌, inl, inr, arith, length-append}, lemmas.{Bool.{cases_Bool, cases_eq, ne_eqb, not_from_false, and_parts, and_from, both_ways}, List.{take_at}, Option.{none-some, same_Some}, Slice.Eq.{bytes_eq-Decides}}}, specs.{Prelude.{bytes_eq, ◌&&◌, Result, Ok, Err, OnErr}, List.{list_all}}}
use Rattle.hc_text.specs.Texts.{lacks}
use Rattle.hc_etag.specs.{Etags.{quote, is_etagc, IsOpaque, SpellsTag, tag_text}, TagTexts.{strong_in}}
use Rattle.hc_etag.proofs.TagReads.{strong_in-spelled}
use Rattle.hc_fields.specs.FirstValues.{only_of}
use Rattle.hc_record.specs.{Head.{inside_of, strong_opaque, one_strong_opaque}, Lines.{joining_text}}

inside-tag : (opaque : List ℕ) → inside_of (tag_text false opaque) ≡ opaque
inside-tag opaque =
    let count : length (tag_text false opaque) - 2 ≡ length opaque = omega (arith, length-append opaque (quote ∷ [])) in
    rw count (take_at opaque (quote ∷ []) (length opaque) refl)

pub strong_opaque-tag : (opaque : List ℕ) → IsOpaque opaque → strong_opaque (tag_text false opaque) ≡ Some opaque
strong_opaque-tag opaque h =
    rw (inside-tag opaque, (bytes_eq-Decides (tag_text false opaque) (tag_text false opaque)).1 refl, h) refl

abbrev is_strong : List ℕ → Bool
is_strong v = bytes_eq v (quote ∷ inside_of v ++ quote ∷ []) && list_all is_etagc (inside_of v)

pub tag-strong_opaque : (v opaque : List ℕ) → strong_opaque v ≡ Some opaque → IsOpaque opaque × (v ≡ tag_text false opaque)
tag-strong_opaque v opaque h =
    elim (cases_Bool (is_strong v)) [
      | inl passes ↦
          let both = and_parts _ _ passes in
          let same : inside_of v ≡ opaque = same_Some _ _ (rw passes at h) in
          (rw same at both.1, rw same at ((bytes_eq-Decides v (quote ∷ inside_of v ++ quote ∷ [])).0 both.0))
      | inr fails ↦ absurd (none-some _ (rw fails at h))
    ]

pub own_tag : (vs : List (List ℕ)) (opaque : List ℕ) → one_strong_opaque vs ≡ Some opaque → IsOpaque opaque × (vs ≡ tag_text false opaque ∷ [])
own_tag [] opaque h = absurd (none-some _ h)
own_tag (v ∷ []) opaque h =
    let own = tag-strong_opaque v opaque h in (own.0, rw (← own.1) refl)
own_tag (v ∷ w ∷ vs) opaque h = absurd (none-some _ h)

lacks-tag : (opaque : List ℕ) → IsOpaque opaque → lacks 10 (opaque ++ quote ∷ []) ≡ true
lacks-tag [] h = refl
lacks-tag (b ∷ opaque) h =
    let both = and_parts (is_etagc b) (list_all is_etagc opaque) h in
    elim (cases_eq b 10) [
      | inl same ↦ absurd (both_ways _ refl (rw same at both.0))
      | inr differs ↦ and_from _ _ (not_from_false _ (ne_eqb b 10 differs)) (lacks-tag opaque both.1)
    ]

-- no line ends in the text of a joining tag
pub lacks-joining : (vs : List (List ℕ)) (joining : Option (List ℕ)) → joining ≡ one_strong_opaque vs → lacks 10 (joining_text joining) ≡ true
lacks-joining vs None is = refl
lacks-joining vs (Some opaque) is = lacks-tag opaque (own_tag vs opaque (sym is)).0

pub only_value_is : (vs : List (List ℕ)) (v : List ℕ) → only_of vs ≡ Some v → vs ≡ v ∷ []
only_value_is [] v is = absurd (none-some _ is)
only_value_is (u ∷ []) v is = ap (λ (x : List ℕ). x ∷ []) (same_Some _ _ is)
only_value_is (u ∷ w ∷ vs) v is = absurd (none-some _ is)

-- two readings of a strong tag agree where there is none
pub no_strong_opaque : (v : List ℕ) → strong_in v ≡ None → strong_opaque v ≡ None
no_strong_opaque v none =
    elim (cases_Bool (is_strong v)) [
      | inl passes ↦
          let both = and_parts _ _ passes in
          let spelled : SpellsTag v false (inside_of v) = (both.1, (bytes_eq-Decides v (quote ∷ inside_of v ++ quote ∷ [])).0 both.0) in
          absurd (none-some _ (sym none ∙ strong_in-spelled v (inside_of v) spelled))
      | inr fails ↦ rw fails refl
    ]

pub on_err : {T E : Type 0} (r : Result T E) (P : Type 0) → P → OnErr r P
on_err (Ok t) P p = tt
on_err (Err e) P p = p
