use Rattle.std.proofs.Common.{◌∙◌, ◌++◌, ◌∷◌, ℕ, List, [], ap}
use Rattle.hc_generate.specs.Sending.{origin_bytes}
use Rattle.hc_generate.proofs.ByteLemmas.{origin_bytes-more}
use Rattle.hc_generate.proofs.exchange.origin_bytes.Goals as goal

pub loop-i-preserved : goal.loop-i-preserved
loop-i-preserved c =
    c.in_ok-push.ensures.items
    ∙ (ap (λ (bytes : List ℕ). bytes ++ c.origin_byte.result ∷ []) c.loop-i.invariant
    ∙ (ap (λ (b : ℕ). origin_bytes c.args.at c.loop-i.i ++ b ∷ []) c.origin_byte.ensures
    ∙ origin_bytes-more c.args.at c.loop-i.i))
