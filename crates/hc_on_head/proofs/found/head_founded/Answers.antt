use Rattle.std.proofs.Common.{◌≡◌, ap, sym, ◌∙◌}
use Rattle.hc_effects.proofs.Vocabulary.{total_of_part, promise_of}
use Rattle.hc_on_head.proofs.{FoundSlot.{total_with, total_small, total_then, total_else}, found.head_founded.Goals.{then-brings_part, else-brings_part}}
use Rattle.hc_on_head.proofs.found.head_founded.Goals as goal

pub founded_head-requires-clause-total : goal.founded_head-requires-clause-total
founded_head-requires-clause-total g c =
    let need = c.unwrap-opening.result.need.now in
    let request = c.unwrap-opening.result.request.now in
    let response = c.args.response.now in
    let total_is : c.if-brings_part.total ≡ total_with need request response = elim c.if-brings_part.branch [
      | then-brings_part w ↦ total_then
          need request response c.if-brings_part.total (sym c.brings_part.ensures ∙ w.if-brings_part.true)
          (w.total-is ∙ (w.total_of-total.ensures ∙ ap total_of_part w.content_range_of.ensures.value))
      | else-brings_part w ↦ total_else
          need request response c.if-brings_part.total (sym c.brings_part.ensures ∙ w.if-brings_part.false)
          (w.total-is ∙ (c.promise-promise.ensures ∙ ap promise_of c.length_of.ensures))
    ] in
    λ n is. total_small need request response n (sym total_is ∙ is)
