use Rattle.hc_replay.specs.{declared.generating.TheConstants.{PROGRAM_LIMITS}, Generates.{Stands}}
use Rattle.hc_replay.proofs.generating.summary.Given as goal

abbrev pub invariant-loop : goal.invariant-loop
invariant-loop l = Stands PROGRAM_LIMITS l.fn.seed l.counter l.rounds
