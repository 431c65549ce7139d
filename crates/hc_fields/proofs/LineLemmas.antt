-- Lines of fields, and a text that grows.
use Rattle.std.proofs.{Common.{◌≡◌, ℕ, ◌+◌, ◌<◌, List, [], ◌∷◌, ◌++◌, length, take, get_or, refl, sym, ap, ◌∙◌, arith, length-append}, lemmas.List.{append_assoc, append-nil, map_more, take-take, take_at}}
use Rattle.hc_fields.specs.{declared.mark.Mark.{Mark}, Lines.{field_text, fields_text}, Marks.{field_at, fields_at}}
use Rattle.hc_fields.proofs.Sorted.{Pair}

pub fields_text-append : (fs gs : List Pair) → fields_text (fs ++ gs) ≡ fields_text fs ++ fields_text gs
fields_text-append [] gs = refl
fields_text-append (f ∷ fs) gs = rw (fields_text-append fs gs) (sym (append_assoc (field_text f) (fields_text fs) (fields_text gs)))

pub fields_text-push : (fs : List Pair) (f : Pair) → fields_text (fs ++ f ∷ []) ≡ fields_text fs ++ field_text f
fields_text-push fs f = fields_text-append fs (f ∷ []) ∙ ap (λ (t : List ℕ). fields_text fs ++ t) (append-nil (field_text f))

pub fields_text-more : (text : List ℕ) (marks : List Mark) (i : ℕ) (d : Mark) → i < length marks →
    fields_text (fields_at text (take (i + 1) marks)) ≡ fields_text (fields_at text (take i marks)) ++ field_text (field_at text (get_or marks i d))
fields_text-more text marks i d lt =
    rw (map_more (field_at text) marks i d lt) (fields_text-push (fields_at text (take i marks)) (field_at text (get_or marks i d)))

-- what a text that only grew begins with
pub begins_with : (old more new : List ℕ) (n m : ℕ) → n ≡ length old → take m new ≡ old ++ more → m ≡ length (old ++ more) → take n new ≡ old
begins_with old more new n m n_is is m_is =
    let len = length-append old more in
    sym (take-take n m new (omega arith)) ∙ rw (is, n_is) (take_at old more (length old) refl)
