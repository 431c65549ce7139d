-- What joins brings bytes of the hole from the same representation, and nothing else does.
use Rattle.std.{proofs.{Common.{◌≡◌, ℕ, ◌+◌, ◌<◌, Bool, true, false, eqb, leb, List, Option, Some, refl, sym, ap, ◌∙◌, inl, inr, arith}, lemmas.Bool.{and_parts, and_from, eqb-true, Decides.{nat_tests}}}, specs.Prelude.{◌&&◌, not, bytes_eq}}
use Rattle.hc_text.proofs.{Basics.{not_true as denied, eqb-same}, Cutting.{none_or_some as seen}}
use Rattle.hc_range.specs.declared.range.{Span.{Span}, ContentRange.{ContentRange, TheVariants.{Part}}}
use Rattle.hc_cachectl.specs.Directives.{of_response}
use Rattle.hc_event.specs.declared.event.Response.{Response}
use Rattle.hc_rules.specs.{RangeTexts.{content_range_of}, Statuses.{brings_part}, TagTexts.{strong_of, strongly_equals, is_same_tag}, Joins.{joins, fills}, Laws.{IsJoin, JoinsAreRight}}
use Rattle.hc_rules.proofs.RangeReads.{same_bytes, bytes_eq-same}

leb-lt : (m n : ℕ) → leb (m + 1) n ≡ true → m < n
leb-lt m n h = grind (arith, nat_tests)

lt-leb : (m n : ℕ) → m < n → leb (m + 1) n ≡ true
lt-leb m n h = grind (arith, nat_tests)

same_part : (first last n start total : ℕ) → first ≡ start → n ≡ total → Some (Part first last (Some n)) ≡ Some (Part start last (Some total))
same_part first last n start total a b = cc

fills-some : (o : Option ContentRange) (total : ℕ) (hole : Span) → fills o total hole ≡ true → (last : ℕ) ×
    ((o ≡ Some (Part hole.lo last (Some total))) × (last < hole.hi))
fills-some (Some (Part first last (Some n))) total hole h =
    let a = and_parts (eqb n total && eqb first hole.lo) (leb (last + 1) hole.hi) h in
    let b = and_parts (eqb n total) (eqb first hole.lo) a.0 in
    (last, (same_part first last n hole.lo total (eqb-true first hole.lo b.1) (eqb-true n total b.0), leb-lt last hole.hi a.1))
fills-some _ total hole h = absurd (cc)

strong-some : (fields : List (List ℕ × List ℕ)) (weak : Bool) (opaque : List ℕ) → strongly_equals fields weak opaque ≡ true → (weak ≡ false) ×
    (strong_of fields ≡ Some opaque)
strong-some fields true opaque h = absurd (cc)
strong-some fields false opaque h = elim (seen (strong_of fields)) [
  | inl none ↦ let e : false ≡ true = sym (ap (λ (o : Option (List ℕ)). is_same_tag o opaque) none) ∙ h in absurd (cc)
  | inr (other, is) ↦
      let e : bytes_eq other opaque ≡ true = sym (ap (λ (o : Option (List ℕ)). is_same_tag o opaque) is) ∙ h in
      (refl, is ∙ ap (λ (t : List ℕ). Some t) (same_bytes other opaque e))
]

join-some : (tag : Bool × List ℕ) (total : ℕ) (hole : Span) (answer : Response) → joins tag total hole answer ≡ true → (last : ℕ) × IsJoin
    tag total hole answer last
unfolding joins
join-some tag total hole answer h =
    let status = brings_part answer.status in
    let strong = strongly_equals answer.fields tag.0 tag.1 in
    let part = fills (content_range_of answer.fields) total hole in
    let a = and_parts (status && strong && part) (not (of_response answer.fields).no_store) h in
    let b = and_parts (status && strong) part a.0 in
    let d = and_parts status strong b.0 in
    let (last, (reported, within)) = fills-some (content_range_of answer.fields) total hole b.1 in
    let (strict, same) = strong-some answer.fields tag.0 tag.1 d.1 in
    (last, record { status = d.0; strict = strict; same = same; reported = reported; within = within; kept = denied (of_response answer.fields).no_store a.1 })

strong-same : (fields : List (List ℕ × List ℕ)) (weak : Bool) (opaque : List ℕ) → weak ≡ false → strong_of fields ≡ Some opaque →
    strongly_equals fields weak opaque ≡ true
strong-same fields true opaque strict same = absurd (cc)
strong-same fields false opaque strict same = ap (λ (o : Option (List ℕ)). is_same_tag o opaque) same ∙ bytes_eq-same opaque opaque refl

fills-part : (o : Option ContentRange) (last total : ℕ) (hole : Span) → o ≡ Some (Part hole.lo last (Some total)) → last < hole.hi → fills o total hole ≡ true
fills-part o last total hole reported within =
    ap (λ (p : Option ContentRange). fills p total hole) reported
    ∙ and_from (eqb total total && eqb hole.lo hole.lo) (leb (last + 1) hole.hi)
    (and_from (eqb total total) (eqb hole.lo hole.lo) (eqb-same total) (eqb-same hole.lo)) (lt-leb last hole.hi within)

some-join : (tag : Bool × List ℕ) (total : ℕ) (hole : Span) (answer : Response) (last : ℕ) → IsJoin tag total hole answer last →
    joins tag total hole answer ≡ true
unfolding joins
some-join tag total hole answer last h =
    let strong = strong-same answer.fields tag.0 tag.1 h.strict h.same in
    let part = fills-part (content_range_of answer.fields) last total hole h.reported h.within in
    let kept : not (of_response answer.fields).no_store ≡ true = ap not h.kept in
    and_from _ _ (and_from _ _ (and_from _ _ h.status strong) part) kept

pub joins-right : JoinsAreRight
joins-right tag total hole answer = (join-some tag total hole answer, λ h. some-join tag total hole answer h.0 h.1)
