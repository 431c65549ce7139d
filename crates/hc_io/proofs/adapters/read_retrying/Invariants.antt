use Rattle.std.specs.Io.KnownBytes.{Keeps}
use Rattle.hc_io.proofs.adapters.read_retrying.Given as goal

-- an interrupted read takes nothing
abbrev pub invariant-signals : goal.invariant-signals
invariant-signals g l = Keeps (g.R.Read.remaining l.fn.reader) (g.R.Read.remaining l.reader)
