-- Texts that are appended one behind another.
use Rattle.std.{proofs.{Common.{arith, ◌≡◌, ℕ, false, List, [], ◌∷◌, ◌++◌, length, take, drop, refl, sym, ap, ◌∙◌, append_assoc}, lemmas.List.{append-nil, take_at, take-append-drop}}, specs.Prelude.{codes}}
use Rattle.hc_event.specs.declared.event.Response.{Response}
use Rattle.hc_msg.specs.Writing.{Keeps, crlf, line_of, lines_of, status_line, response_text, closing_of}

pub four : (x y z u v a b c d : List ℕ) → y ≡ x ++ a → z ≡ y ++ b → u ≡ z ++ c → v ≡ u ++ d → v ≡ x ++ (a ++ (b ++ (c ++ d)))
four x y z u v a b c d p q r s = rw (s, r, q, p) (simp append_assoc)

-- what keeps the longer text keeps the shorter
pub keeps_more : (x y z a : List ℕ) → y ≡ x ++ a → Keeps y z → Keeps x z
keeps_more x y z a grows keeps =
    let rest = drop (length y) z in
    let whole : x ++ (a ++ rest) ≡ z = sym (append_assoc x a rest) ∙ ap (λ (t : List ℕ). t ++ rest) (sym grows ∙ sym keeps) ∙ take-append-drop (length y) z in
    ap (take (length x)) (sym whole) ∙ take_at x (a ++ rest) (length x) refl

-- the lines of fields with one more
lines_push : (fields : List (List ℕ × List ℕ)) (f : List ℕ × List ℕ) → lines_of (fields ++ f ∷ []) ≡ lines_of fields ++ line_of f
lines_push [] f = append-nil (line_of f)
lines_push (g ∷ fields) f = ap (λ (t : List ℕ). line_of g ++ t) (lines_push fields f) ∙ sym (append_assoc (line_of g) (lines_of fields) (line_of f))

pub closing : (response : Response) (x y z u : List ℕ) → y ≡ x ++ status_line response.status → z ≡ y ++ lines_of response.fields → u ≡ z ++
    (codes "connection: close" ++ (crlf ++ crlf))
    → u ≡ x ++ response_text (closing_of response) false
closing response x y z u p q r = search (arith, lines_push, append_assoc)
