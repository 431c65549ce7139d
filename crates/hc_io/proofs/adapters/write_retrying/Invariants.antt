use Rattle.std.specs.Io.KnownBytes.{Keeps}
use Rattle.hc_io.proofs.adapters.write_retrying.Given as goal

-- an interrupted write puts nothing
abbrev pub invariant-signals : goal.invariant-signals
invariant-signals g l = Keeps (g.W.Write.contents l.fn.writer) (g.W.Write.contents l.writer)
