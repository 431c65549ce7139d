use mathlib.Core.Path.{fun_ext}
use Rattle.hc_stored.specs.Rows.{rows_of}
use Rattle.hc_stored.proofs.ShelfLemmas.{cells-kept}
use Rattle.hc_stored.proofs.entries.Entries.covers.Goals as goal

pub returns : goal.returns
returns g c =
    let e = c.args.self.now in
    let same = fun_ext (cells-kept (g.B.Backend.slots e.store) (rows_of e.rows c.args.r) c.slot_in.result.n c.slot_in.ensures) in
    rw (← same) c.covers.ensures
