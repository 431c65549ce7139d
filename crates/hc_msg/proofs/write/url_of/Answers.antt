use Rattle.std.{proofs.Common.{◌≡◌, sym, subst, ◌∙◌, rules}, specs.Prelude.{IsUtf8}}
use Rattle.hc_head.proofs.Keys.{target_text, target_faults}
use Rattle.hc_msg.proofs.write.url_of.Goals as goal

pub unreachable-requires : goal.unreachable-requires
unreachable-requires c =
    let same : c.deref.result.now ≡ c.args.key.now = search rules in
    c.in_default.ensures.cases.0 (subst IsUtf8 (sym same) (target_text c.args.key.now c.requires))

pub unreachable-requires-in_default-e : goal.unreachable-requires-in_default-e
unreachable-requires-in_default-e c =
    let same : c.deref.result.now ≡ c.args.key.now = search rules in
    let tokens = c.in-Ok.ensures.cases in
    target_faults c.args.key.now c.in-Ok.text.now c.in-Err.e c.requires (tokens.0 ∙ same) c.in-Err.ensures c.in_default-e.not-OutOfMemory
    c.in_default-e.not-Overflow
