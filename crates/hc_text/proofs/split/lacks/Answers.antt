use Rattle.std.{proofs.{Common.{◌≡◌, ℕ, ◌+◌, ◌==◌, List, Option, Some, None, Bool, true, false, not, refl, ap, take, drop, sym, ◌∙◌}, lemmas.Bool.{false_from_ne_true}}, specs.Prelude.{position, is_some}}
use Rattle.hc_text.specs.Texts.{lacks}
use Rattle.hc_text.proofs.Cuts.{cut-position, lacks-all, lacks-not}
use Rattle.hc_text.proofs.split.lacks.Goals as goal

lacks_is : (b : ℕ) (text : List ℕ) (found : Option ℕ) → found ≡ position (λ x. x == b) text → not (is_some found) ≡ lacks b text
lacks_is b text None h = sym (lacks-all b text (sym h))
lacks_is b text (Some k) h =
    let cut = cut-position b text k (sym h) in
    sym (false_from_ne_true (lacks b text) (λ e. lacks-not b (take k text) (drop (k + 1) text) (rw cut.whole e)))

not_twice : (b : Bool) → b ≡ not (not b)
not_twice true = refl
not_twice false = refl

pub returns : goal.returns
returns c =
    not_twice c.is_none.result ∙ sym (ap not c.is_none.ensures) ∙ lacks_is c.args.byte c.args.text.now c.position_of.result c.position_of.ensures
