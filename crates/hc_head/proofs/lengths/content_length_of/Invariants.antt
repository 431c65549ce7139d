use Rattle.std.{proofs.Common.{◌≡◌, drop}, specs.Prelude.{codes}}
use Rattle.hc_fields.specs.FirstValues.{elements_in}
use Rattle.hc_rules.specs.{Lengths.{content_length_of}, LengthSoFar.{with_elements}}
use Rattle.hc_head.specs.Held.{fields_in}
use Rattle.hc_head.proofs.lengths.content_length_of.Given as goal

abbrev pub invariant-loop-header : goal.invariant-loop-header
invariant-loop-header l =
    with_elements l.length (elements_in (codes "content-length") (fields_in (drop l.header-index l.headers)))
    ≡ content_length_of (elements_in (codes "content-length") (fields_in l.headers))
