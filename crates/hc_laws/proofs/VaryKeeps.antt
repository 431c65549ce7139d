-- No update changes what Vary names, so whom a stored head answers.
use Rattle.std.{proofs.Common.{◌≡◌, ℕ, List, Bool, true, false, Option, Some, None, refl, ap, ◌∙◌}, specs.{Prelude.{◌&&◌, if◌then◌else◌, codes, ◌==◌}, List.{list_all, flat_map}}}
use Rattle.hc_effects.proofs.Vocabulary.{Event, Request, Entry, family, representation_heard, representation_acted, representation_after_head, with_renewed_head, updates, representation_after_piece, with_total_if_none, length_in, Tables, Exchange, Representation, event}
use Rattle.hc_fields.specs.{FieldList.{values_of}, Agreement.{agree_on}, FirstValues.{elements_in}}
use Rattle.hc_fresh.specs.Vary.{matches_vary, matches_on, is_name}
use Rattle.http_header.specs.Token.{lowercase}
use Rattle.hc_text.specs.Elements.{elements}
use Rattle.hc_validate.specs.Updates.{updated_fields, FieldPairs}
use Rattle.hc_effects.proofs.FieldsKeep.{values_kept}

abbrev vary : List ℕ
vary = codes "vary"

updated_vary : (fields new : FieldPairs) → values_of vary (updated_fields fields new) ≡ values_of vary fields
updated_vary fields new = values_kept vary refl fields new

-- REPRESENTATIONS

-- whom the head answers
record AnswersAs (v u : Representation) : Type 0 where
  names : elements_in vary u.head.fields ≡ elements_in vary v.head.fields
  of : u.head.vary_fields ≡ v.head.vary_fields

itself : (v : Representation) → AnswersAs v v
itself v = record { names = refl; of = refl }

answers_if : (b : Bool) (v u : Representation) → AnswersAs v u → AnswersAs v (if b then u else v)
answers_if true v u h = h
answers_if false v u h = itself v

heard_answers : (t : Tables) (e : Entry) (r : ℕ) (ev : Event) (v : Representation) → AnswersAs v (representation_heard t e r ev v)
heard_answers t e r (event.Head x response) v = by_row (t.exchange x)
  where
    by_row : (o : Option Exchange) → AnswersAs v (representation_after_head t e r x response o v)
    by_row None = itself v
    by_row (Some w) = answers_if (updates t e r w v) v (with_renewed_head t e x response w v)
        (record { names = ap (λ values. flat_map elements values) (updated_vary v.head.fields response.fields); of = refl })
heard_answers t e r (event.Piece x bytes) v = by_row (t.exchange x)
  where
    by_row : (o : Option Exchange) → AnswersAs v (representation_after_piece e r x bytes o v)
    by_row None = itself v
    by_row (Some w) = answers_if (family x w == r) v _ (record { names = refl; of = refl })
heard_answers t e r (event.End x) v = answers_if (x == r) v (with_total_if_none (length_in (t.exchange x)) v) (record { names = refl; of = refl })
heard_answers t e r _ v = itself v

agrees_by : (request : Request) (v u : Representation) → AnswersAs v u → matches_vary u.head request ≡ matches_vary v.head request
agrees_by request v u same =
    ap (λ names. list_all (matches_on u.head request) names) same.names
    ∙ ap (λ fields. list_all (λ element. is_name element && agree_on (lowercase element) fields request.fields) (elements_in vary v.head.fields)) same.of

-- an entry leaves whom a stored head answers
pub same_agreement : (t : Tables) (e : Entry) (r : ℕ) (request : Request) (v : Representation) →
    matches_vary (representation_acted t e r v (representation_heard t e r e.event v)).head request ≡ matches_vary v.head request
same_agreement t e r request v = agrees_by request v _ (heard_answers t e r e.event v)
