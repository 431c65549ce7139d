use Rattle.std.proofs.{Common.{◌∙◌, ℕ, List, [], length, eqb, sym, ap}, lemmas.{Bool.{both_ways}, List.{append-nil}}}
use Rattle.hc_etag.specs.Etags.{tag_text}
use Rattle.hc_etag.proofs.EtagLemmas.{tag_unique}
use Rattle.hc_etag.proofs.read.read_tag.Goals as goal

pub returns-then-not-is_empty-clause-none : goal.returns-then-not-is_empty-clause-none
returns-then-not-is_empty-clause-none c = λ weak opaque h.
    let one = tag_unique c.in-Some.leading.weak weak c.in-Some.leading.opaque.now opaque c.in-Some.leading.rest.now [] c.in-Some.ensures.opaque h.0
    (sym c.in-Some.ensures.found ∙ h.1 ∙ sym (append-nil (tag_text weak opaque))) in
    both_ways c.is_empty.result c.if-not-is_empty.true (c.is_empty.ensures ∙ ap (λ (t : List ℕ). eqb (length t) 0) one.2)
