use Rattle.std.proofs.Common.{sym, ◌∙◌, subst, ℕ, List}
use Rattle.hc_text.proofs.Basics.{not_false}
use Rattle.hc_wire.specs.declared.event.Address.{Address}
use Rattle.hc_app.specs.Addresses.{IsAddress}
use Rattle.hc_app.proofs.Wording.{is_origin, no_address}
use Rattle.hc_app.proofs.command.origin_by.Goals as goal

pub returns-in_default-clause-none : goal.returns-in_default-clause-none
returns-in_default-clause-none c =
    no_address _ _ _ (subst (λ (text : List ℕ). (a : Address) → IsAddress text a → ⊥) c.as_bytes.ensures.value c.in_default.ensures.none)

pub returns-clause-found : goal.returns-clause-found
returns-clause-found c = is_origin
    _ _ _ c.in-Some.listen c.in-Some-read_plain.turns (not_false _ (rw c.as_str.ensures.value at (sym c.ne.ensures ∙ c.if-ne.false)))
    (rw c.as_bytes.ensures.value at c.in-Some.ensures.found) (rw c.as_bytes-2.ensures.value at c.in-Some-read_plain.ensures.found)
