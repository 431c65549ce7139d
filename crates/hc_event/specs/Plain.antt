-- Acts that hold neither fields nor bytes.
use Rattle.hc_event.specs.declared.act.Act.{Act}
use Rattle.hc_event.specs.declared.act.Act.TheVariants as act

abbrev pub IsPlain : Act → Type 0
IsPlain (act.Opened x c need request) = ⊥
IsPlain (act.Shown c r why status fields lo hi) = ⊥
IsPlain (act.Given c x at bytes) = ⊥
IsPlain _ = Unit {0}
