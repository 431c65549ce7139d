use Rattle.hc_record.proofs.TakenParts.{no_total}
use Rattle.hc_record.proofs.cursor.Cursor.take_total.Goals as goal

pub returns-in_err-total : goal.returns-in_err-total
returns-in_err-total c = rw c.from_residual.ensures
    (rw (← c.self.view_is) (no_total c.self.inside.rest.now (rw c.split_at.ensures.front at c.in_err-total.ensures)))
