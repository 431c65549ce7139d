-- What an exchange was opened with, behind its references.
use Rattle.std.specs.Prelude.{ℕ}
use Rattle.hc_event.specs.declared.act.Need.{Need}
use Rattle.hc_event.specs.declared.event.Request.{Request}
use Rattle.hc_exch.specs.declared.row.Opening.{Opening}

abbrev pub opened_with : Opening → Need × Request × ℕ
opened_with o = (o.need.now, o.request.now, o.moment)
