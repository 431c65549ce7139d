use Rattle.std.proofs.Common.{take}
use Rattle.hc_text.specs.Sorted.{itself, has}
use Rattle.hc_state.specs.DetachedReaders.{ChangesEach, after_parting}
use Rattle.hc_state.proofs.changes.part.Given as goal

abbrev pub invariant-loop-c : goal.invariant-loop-c
invariant-loop-c l = ChangesEach l.initial.consumers l.consumers (λ d. has itself d (take l.c-index l.cs)) (after_parting l.detached_reader l.x l.cause)
