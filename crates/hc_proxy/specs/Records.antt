-- The text of a turn.
use Rattle.std.specs.Prelude.{ℕ, List}
use Rattle.hc_proxy.specs.declared.record.Record.{Record}

-- what wasn't written yet
abbrev pub text_of : Record → List ℕ
text_of r = r.text.items

-- the moment of the last event
abbrev pub last_of : Record → ℕ
last_of r = r.last
