-- Two heads of which one's record begins the other's.
use Rattle.std.proofs.{Common.{◌≡◌, ℕ, List, [], ◌++◌, Option, refl, sym, ap, ◌∙◌}, lemmas.List.{append_assoc, append-nil}}
use Rattle.hc_fields.specs.Lines.{fields_text}
use Rattle.hc_fields.proofs.FieldTexts.{fields_once}
use Rattle.hc_record.specs.{declared.{kind.Kind.{Kind}, version.Version.{Version}}, Head.{Head, IsHead, joining_of}, Lines.{joining_text, tag_line}, Record.{field_lines, spelling}, Parts.{first_text}}
use Rattle.hc_record.proofs.Stages.{first_of, AreFirst-of, rest_lines, spelling-parts, first_once, tag_once, lacks-own}

pub record Same (a b : Head) (v w : Version) (rest : List ℕ) : Type 0 where
  pub version : v ≡ w
  pub kind : a.kind ≡ b.kind
  pub total : a.total ≡ b.total
  pub status : a.status ≡ b.status
  pub requested : a.requested ≡ b.requested
  pub answered : a.answered ≡ b.answered
  pub vary_fields : a.vary_fields ≡ b.vary_fields
  pub fields : a.fields ≡ b.fields
  pub nothing : rest ≡ []

regroup : (f t g h r : List ℕ) → f ++ (t ++ (g ++ (h ++ r))) ≡ (f ++ (t ++ (g ++ h))) ++ r
regroup f t g h r = simp append_assoc

pub same : (a b : Head) (v w : Version) (rest : List ℕ) → IsHead a → IsHead b → spelling v a ++ rest ≡ spelling w b → Same a b v w rest
same a b v w rest own_a own_b is =
    let tail = fields_text a.vary_fields ++ (fields_text a.fields ++ rest) in
    let whole : first_text (first_of v a) ++ (tag_line v (joining_text a.joining) ++ tail) ≡ first_text (first_of w b) ++ rest_lines w b =
    regroup (first_text (first_of v a)) (tag_line v (joining_text a.joining)) (fields_text a.vary_fields) (fields_text a.fields) rest
    ∙ (ap (λ (l : List ℕ). l ++ rest) (sym (spelling-parts v a)) ∙ (is ∙ spelling-parts w b)) in
    let first = first_once (first_of v a) (first_of w b) _ _ (AreFirst-of v a own_a) (AreFirst-of w b own_b) whole in
    let tags = tag_once w (joining_text a.joining) (joining_text b.joining) tail (field_lines b) (lacks-own a own_a v _ refl) (lacks-own b own_b w _ refl)
    (rw first.version at first.numbers.rest) in
    let vary = fields_once a.vary_fields b.vary_fields _ _ own_a.vary_list.fields own_b.vary_list.fields first.numbers.vary_count tags.1 in
    let last = fields_once a.fields b.fields rest [] own_a.list.fields own_b.list.fields first.numbers.count
    (vary.1 ∙ sym (append-nil (fields_text b.fields))) in
    record {
      version = first.version;
      kind = first.seal.kind;
      total = first.seal.total;
      status = first.status;
      requested = first.numbers.requested;
      answered = first.numbers.answered;
      vary_fields = vary.0;
      fields = last.0;
      nothing = last.1;
    }

abbrev make : Kind → Option ℕ → ℕ → ℕ → ℕ → Option (List ℕ) → List (List ℕ × List ℕ) → List (List ℕ × List ℕ) → Head
make kind total status requested answered joining vary_fields fields =
    record {
      kind = kind;
      total = total;
      status = status;
      requested = requested;
      answered = answered;
      joining = joining;
      vary_fields = vary_fields;
      fields = fields;
    }

-- heads with one record are one
pub same_head : (a b : Head) (v w : Version) → IsHead a → IsHead b → spelling v a ≡ spelling w b → (a ≡ b) × (v ≡ w)
same_head a b v w own_a own_b is =
    let s = same a b v w [] own_a own_b (append-nil (spelling v a) ∙ is) in
    let joining : a.joining ≡ b.joining = own_a.own_joining ∙ (ap joining_of s.fields ∙ sym own_b.own_joining) in
    let heads : make a.kind a.total a.status a.requested a.answered a.joining a.vary_fields a.fields ≡ make b.kind b.total b.status b.requested b.answered
    b.joining b.vary_fields b.fields =
    rw (s.kind, s.total, s.status, s.requested, s.answered, joining, s.vary_fields, s.fields) refl in
    (heads, s.version)
