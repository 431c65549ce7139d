use Rattle.std.proofs.{Common.{◌≡◌, ◌∙◌, ℕ, Bool, false, List, [], ◌∷◌, ◌++◌, sym, ap, subst}, lemmas.List.{map_push}}
use Rattle.hc_etag.specs.Tags.{value_of, values_of}
use Rattle.hc_etag.proofs.TagLemmas.{IsReadUpTo, read_blank, read_comma, read_tag, all_read}
use Rattle.hc_etag.proofs.list.read_tags.Goals as goal

pub loop-first-preserved-then-first-eq44 : goal.loop-first-preserved-then-first-eq44
loop-first-preserved-then-first-eq44 c =
    read_comma c.args.text.now (values_of c.loop-first.tags.items) c.loop-first.may_come c.loop-first.rest.now c.in-Some.first.now c.in-Some.after.now
    c.in-Some.ensures.cases.0 c.if-first-eq44.true c.loop-first.invariant

pub loop-first-preserved-then-is_blank : goal.loop-first-preserved-then-is_blank
loop-first-preserved-then-is_blank c =
    read_blank c.args.text.now (values_of c.loop-first.tags.items) c.loop-first.may_come c.loop-first.rest.now c.in-Some.first.now c.in-Some.after.now
    c.in-Some.ensures.cases.0 (sym c.is_blank.ensures ∙ c.if-is_blank.true) c.loop-first.invariant

pub loop-first-preserved : goal.loop-first-preserved
loop-first-preserved c =
    let text = c.args.text.now in
    let rest = c.loop-first.rest.now in
    let leading = c.in-Some-leading_tag.leading in
    let new = c.in_ok-tag.field-0 in
    let value : value_of new ≡ (leading.weak, leading.opaque.now) = let weak : new.weak ≡ leading.weak = c.in_ok-tag.ensures.weak in
    let opaque : new.opaque ≡ leading.opaque.now = c.in_ok-tag.ensures.opaque in cc in
    let more : values_of c.push.new.self.items ≡ values_of c.loop-first.tags.items ++ (leading.weak, leading.opaque.now) ∷ [] =
    ap values_of c.in_ok-push.ensures.items ∙ map_push value_of c.loop-first.tags.items new ∙
    ap (λ (v : Bool × List ℕ). values_of c.loop-first.tags.items ++ v ∷ []) value in
    let so_far = subst (λ (m : Bool). IsReadUpTo text (values_of c.loop-first.tags.items) m rest) c.if-not-may_come.false c.loop-first.invariant in
    subst (λ (read : List (Bool × List ℕ)). IsReadUpTo text read false leading.rest.now) (sym more)
    (read_tag text (values_of c.loop-first.tags.items) rest c.in-Some.first.now c.in-Some.after.now leading.weak leading.opaque.now leading.rest.now
    c.in-Some.ensures.cases.0 (sym c.is_blank.ensures ∙ c.if-is_blank.false) c.if-first-eq44.false c.in-Some-leading_tag.ensures.opaque
    c.in-Some-leading_tag.ensures.found so_far)

pub returns-clause-found : goal.returns-clause-found
returns-clause-found c =
    (all_read c.args.text.now (values_of c.loop-first.tags.items) c.loop-first.may_come c.loop-first.rest.now c.in_default.ensures.cases
    c.loop-first.invariant).0
