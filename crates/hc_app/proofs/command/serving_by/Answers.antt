use Rattle.std.proofs.Common.{sym, ◌∙◌, subst, ℕ, List}
use Rattle.hc_text.proofs.Basics.{not_false}
use Rattle.hc_wire.specs.declared.event.Address.{Address}
use Rattle.hc_app.specs.Addresses.{IsAddress}
use Rattle.hc_app.proofs.Wording.{is_serving, no_listen, no_from}
use Rattle.hc_app.proofs.command.serving_by.Goals as goal

pub returns-in_default-clause-none : goal.returns-in_default-clause-none
returns-in_default-clause-none c =
    no_listen _ _ _ _ (subst (λ (text : List ℕ). (a : Address) → IsAddress text a → ⊥) c.as_bytes.ensures.value c.in_default.ensures.none)

pub returns-in_default-read_address-clause-none : goal.returns-in_default-read_address-clause-none
returns-in_default-read_address-clause-none c =
    no_from _ _ _ _ (subst (λ (text : List ℕ). (a : Address) → IsAddress text a → ⊥) c.as_bytes-2.ensures.value c.in_default-read_address.ensures.none)

pub returns-clause-found : goal.returns-clause-found
returns-clause-found c =
    is_serving _ _ _ _ c.in-Some.listen c.in-Some-read_address.origin
    c.in-Some-read_plain.turns (not_false _ (rw c.as_str.ensures.value at (sym c.ne.ensures ∙ c.if-ne.false)))
    (rw c.as_bytes.ensures.value at c.in-Some.ensures.found) (rw c.as_bytes-2.ensures.value at c.in-Some-read_address.ensures.found)
    (rw c.as_bytes-3.ensures.value at c.in-Some-read_plain.ensures.found)
