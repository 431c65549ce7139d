use Rattle.std.proofs.{Common.{sym}, lemmas.List.{take_rest}}
use Rattle.hc_text.proofs.Cuts.{lacks-all, cut-position}
use Rattle.hc_record.proofs.cursor.Cursor.take_line.Goals as goal

pub returns-in_err-at : goal.returns-in_err-at
returns-in_err-at c = rw c.from_residual.ensures
    (rw (← c.self.view_is) (lacks-all 10 c.self.inside.rest.now (sym c.in_err-at.ensures)))

pub returns : goal.returns
returns c =
    let cut = cut-position 10 c.self.inside.rest.now c.in_ok-at.at (sym c.in_ok-at.ensures) in
    rw (take_rest c.self.inside.rest.now, ← c.self.view_is) (cut.before, cut.whole)
