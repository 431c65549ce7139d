use Rattle.std.{proofs.Common.{◌≡◌, drop}, specs.List.{list_any}}
use Rattle.http_header.specs.Token.{lowercase}
use Rattle.hc_head.specs.{Rules.{is_option}, Held.{fields_in}}
use Rattle.hc_head.proofs.fields.is_named.Given as goal

abbrev pub invariant-loop-header : goal.invariant-loop-header
invariant-loop-header l =
    list_any (is_option (lowercase l.name)) (fields_in (drop l.header-index l.headers))
    ≡ list_any (is_option (lowercase l.name)) (fields_in l.headers)
