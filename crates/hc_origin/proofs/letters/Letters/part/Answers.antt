use Rattle.std.{proofs.Common.{ℕ, ap, ◌∙◌}, specs.Prelude.{min}}
use Rattle.hc_origin.proofs.Runs.{letters-part}
use Rattle.hc_origin.proofs.letters.Letters.part.Goals as goal

pub returns : goal.returns
returns c = letters-part c.args.self.now.bytes.items c.deref.result.now c.args.next c.args.end c.min-len.result c.args.self.now.are
    (c.min-len.ensures ∙ ap (λ (x : ℕ). min x 16384) c.saturating_sub.ensures) c.deref.ensures.value
