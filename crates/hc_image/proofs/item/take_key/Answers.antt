use Rattle.std.proofs.{Common.{◌≡◌, false, sym, ap, ◌∙◌, ◌∷◌, [], rules, arith}, lemmas.{Bool.{both_ways}, List.{append_assoc}}}
use Rattle.hc_target.specs.Targets.{is_target}
use Rattle.hc_text.proofs.Cuts.{cut_once}
use Rattle.hc_image.proofs.Once.{lacks-target}
use Rattle.hc_image.proofs.item.take_key.Goals as goal

pub returns-then-not-branch : goal.returns-then-not-branch
returns-then-not-branch c = λ key after target same.
    let text = c.in-Some.ensures in
    let cut = cut_once 32 key after c.in-Some.text.now c.take_to.new.self (lacks-target key target) text.0
    (sym (append_assoc key (32 ∷ []) after) ∙ (same ∙ sym text.1)) in
    let off : c.in_ok-is_target.field-0 ≡ false = first_of (search (rules, c.if-not-branch.true), grind (arith, c.if-not-branch.true)) in
    both_ways _ off (c.in_ok-is_target.ensures.value ∙ (ap is_target (sym cut.0) ∙ target))
