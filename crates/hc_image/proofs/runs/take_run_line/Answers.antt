use Rattle.std.proofs.{Common.{arith, sym, ◌∙◌, codes}, lemmas.List.{append_cancel_left}}
use Rattle.hc_image.proofs.Once.{behind, run_line_apart}
use Rattle.hc_image.proofs.runs.take_run_line.Goals as goal

pub returns-in_err-at : goal.returns-in_err-at
returns-in_err-at c = rw c.from_residual-in_err-at.ensures (λ line after small same.
    let zero = append_cancel_left (codes "run ") _ _ (sym (run_line_apart line.x line.at line.count after) ∙ (same ∙ sym c.in_ok-take_bytes.ensures)) in
    let one = behind 32 line.x c.in_ok-x.x _ _ _ (omega arith) small.x c.in_ok-x.ensures.0 zero c.in_ok-x.ensures.1 in
    c.in_err-at.ensures line.at _ small.place one)

pub returns-in_err-count : goal.returns-in_err-count
returns-in_err-count c = rw c.from_residual-in_err-count.ensures (λ line after small same.
    let zero = append_cancel_left (codes "run ") _ _ (sym (run_line_apart line.x line.at line.count after) ∙ (same ∙ sym c.in_ok-take_bytes.ensures)) in
    let one = behind 32 line.x c.in_ok-x.x _ _ _ (omega arith) small.x c.in_ok-x.ensures.0 zero c.in_ok-x.ensures.1 in
    let two = behind 32 line.at c.in_ok-at.at _ _ _ (omega arith) small.place c.in_ok-at.ensures.0 one c.in_ok-at.ensures.1 in
    c.in_err-count.ensures line.count _ small.count two)
