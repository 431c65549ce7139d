use Rattle.std.proofs.{Common.{arith, sym, ◌∙◌}, lemmas.List.{append_assoc}}
use Rattle.hc_record.specs.Lines.{number_and_end}
use Rattle.hc_image.proofs.Once.{behind}
use Rattle.hc_image.proofs.item.take_item_numbers.Goals as goal

pub returns-in_err-count : goal.returns-in_err-count
returns-in_err-count c = rw c.from_residual-in_err-count.ensures (λ n after small same.
    let r = c.in_ok-r.ensures in
    let apart = sym (append_assoc (number_and_end 32 n.r) (number_and_end 10 n.count) after) ∙ same in
    c.in_err-count.ensures n.count after small.count (behind 32 n.r c.in_ok-r.r _ _ _ (omega arith) small.r r.0 apart r.1))
