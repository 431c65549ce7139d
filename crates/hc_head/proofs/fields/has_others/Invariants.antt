use Rattle.std.{proofs.Common.{◌≡◌, drop}, specs.List.{list_any}}
use Rattle.hc_head.specs.{Options.{is_other, has_others}, Held.{fields_in}}
use Rattle.hc_head.proofs.fields.has_others.Given as goal

abbrev pub invariant-loop-header : goal.invariant-loop-header
invariant-loop-header l = list_any (is_other (fields_in l.headers)) (fields_in (drop l.header-index l.headers)) ≡ has_others (fields_in l.headers)
