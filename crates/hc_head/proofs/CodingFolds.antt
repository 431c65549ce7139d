-- What elements say, read one by one, is what they say as a whole.
use Rattle.std.{proofs.Common.{arith, ◌≡◌, ℕ, ◌+◌, ◌<◌, length, drop, get_or, List, [], ◌∷◌, ◌++◌, refl, sym, ap, ◌∙◌}, specs.Prelude.{codes}}
use Rattle.hc_fields.specs.FirstValues.{elements_in}
use Rattle.hc_rules.specs.{declared.length.Length.{Length}, LengthSoFar.{with_elements}}
use Rattle.hc_head.specs.{declared.lengths.Coding.{Coding, TheVariants.{Plain, Other}}, Held.{field_in, fields_in}, Responses.{is_chunked}, Codings.{with_coding, with_codings, is_coding, coding_with, length_with}}
use Rattle.httparse.specs.declared.borrowed.Header.{Header}
use Rattle.hc_rules.proofs.LengthFolds.{with_elements-append}
use Rattle.hc_head.proofs.Heads.{fields_from}

with_codings-append : (so_far : Coding) (xs ys : List (List ℕ)) → with_codings so_far (xs ++ ys) ≡ with_codings (with_codings so_far xs) ys
with_codings-append so_far [] ys = refl
with_codings-append so_far (x ∷ xs) ys = with_codings-append (with_coding so_far x) xs ys

-- one field more
pub one_length : (so_far : Length) (f : List ℕ × List ℕ) (fields : List (List ℕ × List ℕ))
    → with_elements (length_with so_far f) (elements_in (codes "content-length") fields) ≡ with_elements so_far
    (elements_in (codes "content-length") (f ∷ fields))
one_length so_far f fields = search (arith, with_elements-append)

pub one_coding : (so_far : Coding) (f : List ℕ × List ℕ) (fields : List (List ℕ × List ℕ))
    → with_codings (coding_with so_far f) (elements_in (codes "transfer-encoding") fields) ≡ with_codings so_far
    (elements_in (codes "transfer-encoding") (f ∷ fields))
one_coding so_far f fields = search (arith, with_codings-append)

other_stays : (es : List (List ℕ)) → with_codings Other es ≡ Other
other_stays [] = refl
other_stays (e ∷ es) = other_stays es

pub coding_is : (es : List (List ℕ)) → is_coding (with_codings Plain es) ≡ is_chunked es
coding_is es = search (arith, other_stays)

-- the field at a place of the list
pub length_next : (so_far next total : Length) (headers : List Header) (i : ℕ) (d : Header) → i < length headers →
    next ≡ length_with so_far (field_in (get_or headers i d))
    → with_elements so_far (elements_in (codes "content-length") (fields_in (drop i headers))) ≡ total
    → with_elements next (elements_in (codes "content-length") (fields_in (drop (i + 1) headers))) ≡ total
length_next so_far next total headers i d lt is all =
    rw is (one_length so_far (field_in (get_or headers i d)) (fields_in (drop (i + 1) headers)))
    ∙ ap (λ (fs : List (List ℕ × List ℕ)). with_elements so_far (elements_in (codes "content-length") fs)) (sym (fields_from headers i d lt)) ∙ all

pub coding_next : (so_far next total : Coding) (headers : List Header) (i : ℕ) (d : Header) → i < length headers →
    next ≡ coding_with so_far (field_in (get_or headers i d))
    → with_codings so_far (elements_in (codes "transfer-encoding") (fields_in (drop i headers))) ≡ total
    → with_codings next (elements_in (codes "transfer-encoding") (fields_in (drop (i + 1) headers))) ≡ total
coding_next so_far next total headers i d lt is all =
    rw is (one_coding so_far (field_in (get_or headers i d)) (fields_in (drop (i + 1) headers)))
    ∙ ap (λ (fs : List (List ℕ × List ℕ)). with_codings so_far (elements_in (codes "transfer-encoding") fs)) (sym (fields_from headers i d lt)) ∙ all
