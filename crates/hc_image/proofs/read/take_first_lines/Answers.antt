use Rattle.std.proofs.{Common.{arith, sym, ◌∙◌, codes, ◌∷◌, ◌++◌, []}, lemmas.List.{append_cancel_left}}
use Rattle.hc_image.proofs.Once.{behind, lines_apart}
use Rattle.hc_image.proofs.read.take_first_lines.Goals as goal

pub returns-in_err-last_consumer : goal.returns-in_err-last_consumer
returns-in_err-last_consumer c = rw c.from_residual-in_err-last_consumer.ensures (λ first after small same.
    let zero = append_cancel_left (codes "image 1" ++ 10 ∷ []) _ _
    (sym (lines_apart first.now first.last_consumer first.next_exchange first.count after) ∙ (same ∙ sym c.in_ok-take_bytes.ensures)) in
    let one = behind 32 first.now c.in_ok-now.now _ _ _ (omega arith) small.now c.in_ok-now.ensures.0 zero c.in_ok-now.ensures.1 in
    c.in_err-last_consumer.ensures first.last_consumer _ small.last one)

pub returns-in_err-next_exchange : goal.returns-in_err-next_exchange
returns-in_err-next_exchange c = rw c.from_residual-in_err-next_exchange.ensures (λ first after small same.
    let zero = append_cancel_left (codes "image 1" ++ 10 ∷ []) _ _
    (sym (lines_apart first.now first.last_consumer first.next_exchange first.count after) ∙ (same ∙ sym c.in_ok-take_bytes.ensures)) in
    let one = behind 32 first.now c.in_ok-now.now _ _ _ (omega arith) small.now c.in_ok-now.ensures.0 zero c.in_ok-now.ensures.1 in
    let two = behind 32 first.last_consumer c.in_ok-last_consumer.last_consumer _ _ _ (omega arith) small.last c.in_ok-last_consumer.ensures.0 one
    c.in_ok-last_consumer.ensures.1 in
    c.in_err-next_exchange.ensures first.next_exchange _ small.next two)

pub returns-in_err-count : goal.returns-in_err-count
returns-in_err-count c = rw c.from_residual-in_err-count.ensures (λ first after small same.
    let zero = append_cancel_left (codes "image 1" ++ 10 ∷ []) _ _
    (sym (lines_apart first.now first.last_consumer first.next_exchange first.count after) ∙ (same ∙ sym c.in_ok-take_bytes.ensures)) in
    let one = behind 32 first.now c.in_ok-now.now _ _ _ (omega arith) small.now c.in_ok-now.ensures.0 zero c.in_ok-now.ensures.1 in
    let two = behind 32 first.last_consumer c.in_ok-last_consumer.last_consumer _ _ _ (omega arith) small.last c.in_ok-last_consumer.ensures.0 one
    c.in_ok-last_consumer.ensures.1 in
    let three = behind 32 first.next_exchange c.in_ok-next_exchange.next_exchange _ _ _ (omega arith) small.next c.in_ok-next_exchange.ensures.0 two
    c.in_ok-next_exchange.ensures.1 in
    c.in_err-count.ensures first.count _ small.count three)
