use Rattle.std.{proofs.Common.{◌≡◌, take}, specs.List.{list_all}}
use Rattle.hc_etag.specs.Etags.{is_etagc}
use Rattle.hc_etag.proofs.text.all_may_stand.Given as goal

abbrev pub invariant-loop-b : goal.invariant-loop-b
invariant-loop-b l = l.all ≡ list_all is_etagc (take l.b-index l.bytes)
