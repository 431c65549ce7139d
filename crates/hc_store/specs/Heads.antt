-- Changes of a head.
use Rattle.std.specs.Prelude.{Option, Some, None}
use Rattle.hc_record.specs.declared.kind.Kind.{Kind}
use Rattle.hc_record.specs.Head.{Head}

-- With another kind, where there is one.
abbrev pub with_kind : Option Kind → Head → Head
with_kind None h = h
with_kind (Some kind) h = record h { kind = kind }
