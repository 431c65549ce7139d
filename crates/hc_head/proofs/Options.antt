-- Where Connection names no field but those that concern the connection alone anyway, no other field is an option.
use Rattle.std.{proofs.{lemmas.{Bool.{or_parts, or_right, or_left, Decides.{nat_tests}}, Slice.Eq.{bytes_eq-Decides}}, Common.{◌≡◌, ℕ, ◌<◌, Bool, true, false, List, [], ◌∷◌, length, get_or, zero, suc, refl, ap, ◌∙◌, arith}}, specs.{Prelude.{◌&&◌, ◌||◌, not, bytes_eq}, List.{list_any}}}
use Rattle.http_header.specs.Token.{lowercase}
use Rattle.hc_fields.specs.FieldList.{has_name}
use Rattle.httparse.specs.declared.borrowed.Header.{Header}
use Rattle.hc_head.specs.{Rules.{is_there, is_hop_name, is_option}, Options.{names_other, is_other, has_others}, Held.{field_in, fields_in}}

named_is_other : (all : List (List ℕ × List ℕ)) (name : List ℕ) → is_there name all ≡ true → is_hop_name name ≡ false
    → (e : List ℕ) → bytes_eq (lowercase e) name ≡ true → names_other all e ≡ true
named_is_other all name present plain e same =
    let equal : lowercase e ≡ name = (bytes_eq-Decides (lowercase e) name).0 same in
    ap (λ (n : List ℕ). not (is_hop_name n) && is_there n all) equal ∙ ap (λ (b : Bool). not b && is_there name all) plain ∙ present

no_element : (all : List (List ℕ × List ℕ)) (name : List ℕ) → is_there name all ≡ true → is_hop_name name ≡ false
    → (es : List (List ℕ)) → list_any (names_other all) es ≡ false → list_any (λ element. bytes_eq (lowercase element) name) es ≡ false
no_element all name present plain [] h = refl
no_element all name present plain (e ∷ es) h =
    let parts = or_parts (names_other all e) (list_any (names_other all) es) h in
    let rest = no_element all name present plain es parts.1 in
    grind (arith, nat_tests, named_is_other)

no_field : (all : List (List ℕ × List ℕ)) (name : List ℕ) → is_there name all ≡ true → is_hop_name name ≡ false
    → (f : List ℕ × List ℕ) → is_other all f ≡ false → is_option name f ≡ false
no_field all name present plain f h = search (arith, no_element)

no_option_in : (all : List (List ℕ × List ℕ)) (name : List ℕ) → is_there name all ≡ true → is_hop_name name ≡ false
    → (fields : List (List ℕ × List ℕ)) → list_any (is_other all) fields ≡ false → list_any (is_option name) fields ≡ false
no_option_in all name present plain [] h = refl
no_option_in all name present plain (f ∷ fields) h =
    let parts = or_parts (is_other all f) (list_any (is_other all) fields) h in
    ap (λ (b : Bool). b || list_any (is_option name) fields) (no_field all name present plain f parts.0) ∙ no_option_in all name present plain fields parts.1

pub no_option : (all : List (List ℕ × List ℕ)) (name : List ℕ) → is_there name all ≡ true → is_hop_name name ≡ false → has_others all ≡ false
    → list_any (is_option name) all ≡ false
no_option all name present plain h = no_option_in all name present plain all h

-- a field's own name is there
pub there_at : (headers : List Header) (i : ℕ) (d : Header) → i < length headers → is_there (lowercase (get_or headers i d).name.now) (fields_in headers) ≡ true
there_at [] i d lt = absurd (omega arith)
there_at (x ∷ headers) zero d lt =
    or_left (has_name (lowercase x.name.now) (field_in x)) (is_there (lowercase x.name.now) (fields_in headers))
    ((bytes_eq-Decides (lowercase x.name.now) (lowercase x.name.now)).1 refl)
there_at (x ∷ headers) (suc i) d lt =
    or_right (has_name (lowercase (get_or headers i d).name.now) (field_in x)) (is_there (lowercase (get_or headers i d).name.now) (fields_in headers))
    (there_at headers i d (omega arith))
