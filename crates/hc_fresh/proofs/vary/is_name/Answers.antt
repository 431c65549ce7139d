use Rattle.std.proofs.{Common.{◌≡◌, ◌∙◌, true, false, inl, inr, refl}, lemmas.Bool.{both_ways, cases_Bool}}
use Rattle.hc_fresh.specs.Vary.{is_token}
use Rattle.hc_fresh.proofs.Tokens.{is_token-from, IsToken-from}
use Rattle.hc_fresh.proofs.vary.is_name.Goals as goal

pub returns-then-is_token : goal.returns-then-is_token
returns-then-is_token c =
    let element = c.args.element.now in
    let token : is_token element ≡ true = is_token-from element (c.is_token.ensures.0 c.if-is_token.true) in
    c.ne.ensures ∙ rw (token, c.as_slice.ensures) refl

pub returns-else-is_token : goal.returns-else-is_token
returns-else-is_token c =
    let element = c.args.element.now in
    let other : is_token element ≡ false = elim (cases_Bool (is_token element)) [
      | inl passes ↦ absurd (both_ways c.is_token.result c.if-is_token.false (c.is_token.ensures.1 (IsToken-from element passes)))
      | inr fails ↦ fails
    ] in
    c.if-is_token.false ∙ rw other refl
