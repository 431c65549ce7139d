use Rattle.std.proofs.Common.{sym, ◌∙◌, arith}
use Rattle.hc_fields.proofs.Compared.{decides, defers, lowered_at, lowered_end}
use Rattle.hc_fields.proofs.search.compare_lowered.Goals as goal

pub returns-then-is_ne : goal.returns-then-is_ne
returns-then-is_ne c =
    let both = c.min-i-end.ensures in
    let lt = c.loop-i-test.true in
    let first = lowered_at c.args.name.now c.args.bytes.now c.loop-i.i c.cmp-found.result (omega (arith, both, lt)) (omega (arith, both, lt))
    (rw (← c.to_ascii_lowercase.ensures.value) c.cmp-found.ensures) in
    sym (decides c.cmp-found.result _ (sym c.is_ne.ensures ∙ c.if-is_ne.true)) ∙ (sym first ∙ c.loop-i.invariant)

pub loop-i-preserved : goal.loop-i-preserved
loop-i-preserved c =
    let both = c.min-i-end.ensures in
    let lt = c.loop-i-test.true in
    let first = lowered_at c.args.name.now c.args.bytes.now c.loop-i.i c.cmp-found.result (omega (arith, both, lt)) (omega (arith, both, lt))
    (rw (← c.to_ascii_lowercase.ensures.value) c.cmp-found.ensures) in
    sym (defers c.cmp-found.result _ (sym c.is_ne.ensures ∙ c.if-is_ne.false)) ∙ (sym first ∙ c.loop-i.invariant)

pub returns : goal.returns
returns c =
    let both = c.min-i-end.ensures in
    let past = c.loop-i-test.false in
    let within = c.loop-i.auto.i-end in
    c.cmp.ensures ∙ (sym (lowered_end c.args.name.now c.args.bytes.now c.loop-i.i (omega (arith, both, past, within))) ∙ c.loop-i.invariant)
