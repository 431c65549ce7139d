use Rattle.std.proofs.{Common.{sym, ◌∙◌, ◌∷◌, [], ◌++◌, length}, lemmas.List.{append_assoc}}
use Rattle.hc_image.specs.Images.{run_line}
use Rattle.hc_image.proofs.Once.{run_line_once}
use Rattle.hc_image.proofs.runs.take_run.Goals as goal

pub returns-in_default : goal.returns-in_default
returns-in_default c = λ run after has same.
    c.in_default.ensures (record { x = run.x; at = run.at; count = length run.bytes }) _ (record { x = has.x; place = has.place; count = has.count })
    (sym (append_assoc (run_line run.x run.at (length run.bytes)) (run.bytes ++ 10 ∷ []) after) ∙ same)

pub returns-in_default-take_block : goal.returns-in_default-take_block
returns-in_default-take_block c = λ run after has same.
    let line = c.in-Some.ensures in
    let once = run_line_once run.x c.in-Some.line.x run.at c.in-Some.line.at (length run.bytes) c.in-Some.line.count _ _ has.x line.0.x has.place
    line.0.place has.count line.0.count
    (sym (append_assoc (run_line run.x run.at (length run.bytes)) (run.bytes ++ 10 ∷ []) after) ∙ (same ∙ sym line.1)) in
    c.in_default-take_block.ensures run.bytes after once.0 (sym (append_assoc run.bytes (10 ∷ []) after) ∙ once.1)
