use Rattle.std.proofs.{Common.{sym}, lemmas.Bool.{ltb-true}}
use Rattle.hc_fields.proofs.Kept.{value_at}
use Rattle.hc_fields.proofs.fields.Fields.value.Goals as goal

pub returns : goal.returns
returns c =
    let found = c.in_ok-mark.ensures.lookup in
    let is = value_at c.self.inside.text.items c.named.result.now c.args.i c.in_ok-mark.mark.now (ltb-true _ _ (sym found.0)) found.1 in
    let named = rw (c.deref.ensures.value, c.deref-2.ensures.value) at c.named.ensures.fields in
    rw (c.value.ensures, c.deref-3.ensures.value, ← c.self.view_is) (sym (rw named at is))
