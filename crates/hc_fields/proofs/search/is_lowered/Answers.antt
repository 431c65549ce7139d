use Rattle.std.proofs.Common.{◌≡◌, ◌<◌, length, sym, ◌∙◌, arith}
use Rattle.hc_fields.proofs.Compared.{lowered_same, lowered_other}
use Rattle.hc_fields.proofs.search.is_lowered.Goals as goal

pub returns-then-to_ascii_lowercase-bytes : goal.returns-then-to_ascii_lowercase-bytes
returns-then-to_ascii_lowercase-bytes c =
    let lt : c.loop-i.i < length c.args.name.now = omega arith in
    sym (lowered_other c.args.name.now c.args.bytes.now c.loop-i.i lt
    (λ e. c.if-to_ascii_lowercase-bytes.true (c.to_ascii_lowercase.ensures.value ∙ e)))

pub returns : goal.returns
returns c =
    let len : length c.args.name.now ≡ length c.args.bytes.now = omega arith in
    sym (lowered_same c.args.name.now c.args.bytes.now len (λ k lt. c.loop-i.invariant k (omega arith)))
