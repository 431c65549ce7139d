use Rattle.std.proofs.Common.{refl}
use Rattle.hc_replay.specs.Generates.{done, unwritten, wanting, unfinished}
use Rattle.hc_replay.proofs.generating.generate.Goals as goal

pub returns-in-Ok-write_all-clause-ends : goal.returns-in-Ok-write_all-clause-ends
returns-in-Ok-write_all-clause-ends g c = done _ c.in-Ok.ensures (rw c.as_slice.ensures.value at c.in-Ok-write_all.ensures.ok)

pub returns-in-Err-SinkFailed-clause-ends : goal.returns-in-Err-SinkFailed-clause-ends
returns-in-Err-SinkFailed-clause-ends g c = unwritten _ c.in-Ok.ensures (rw c.as_slice.ensures.value at c.write_all.ensures.front)

pub returns-in-Ok-clause-ends : goal.returns-in-Ok-clause-ends
returns-in-Ok-clause-ends g c = wanting _ c.in-Ok.ensures (rw c.as_slice.ensures.value at c.write_all.ensures.front)

pub returns-clause-ends : goal.returns-clause-ends
returns-clause-ends g c = unfinished refl
