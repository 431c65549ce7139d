use Rattle.std.{proofs.Common.{◌≡◌, drop}, specs.{Prelude.{codes}, Option.{option_copied}}}
use Rattle.hc_fields.specs.{FieldList.{values_of}, FirstValues.{only_of}}
use Rattle.hc_head.specs.Held.{fields_in}
use Rattle.hc_head.proofs.Hosts.{only_with}
use Rattle.hc_head.proofs.request.host_of.Given as goal

abbrev pub invariant-loop-header : goal.invariant-loop-header
invariant-loop-header l =
    only_with (option_copied l.host) (values_of (codes "host") (fields_in (drop l.header-index l.headers))) ≡ only_of
    (values_of (codes "host") (fields_in l.headers))
