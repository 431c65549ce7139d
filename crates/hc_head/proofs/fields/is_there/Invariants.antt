use Rattle.std.proofs.Common.{◌≡◌, drop}
use Rattle.http_header.specs.Token.{lowercase}
use Rattle.hc_head.specs.{Rules.{is_there}, Held.{fields_in}}
use Rattle.hc_head.proofs.fields.is_there.Given as goal

abbrev pub invariant-loop-header : goal.invariant-loop-header
invariant-loop-header l = is_there (lowercase l.name) (fields_in (drop l.header-index l.headers)) ≡ is_there (lowercase l.name) (fields_in l.headers)
