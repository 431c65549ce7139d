use Rattle.std.{proofs.Common.{◌≡◌, drop}, specs.Prelude.{codes}}
use Rattle.hc_fields.specs.FirstValues.{elements_in}
use Rattle.hc_head.specs.{declared.lengths.Coding.TheVariants.{Plain}, Codings.{with_codings}, Held.{fields_in}}
use Rattle.hc_head.proofs.lengths.is_chunked.Given as goal

abbrev pub invariant-loop-header : goal.invariant-loop-header
invariant-loop-header l =
    with_codings l.coding (elements_in (codes "transfer-encoding") (fields_in (drop l.header-index l.headers)))
    ≡ with_codings Plain (elements_in (codes "transfer-encoding") (fields_in l.headers))
