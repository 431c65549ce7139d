use Rattle.std.proofs.Common.{refl}
use Rattle.hc_app.specs.Program.{fetched, wanting}
use Rattle.hc_app.proofs.run.obey.Goals as goal

-- src/run.rt:127:1
pub returns-in-Ok-Some-clause-keeps : goal.returns-in-Ok-Some-clause-keeps
returns-in-Ok-Some-clause-keeps g c = fetched _ (rw c.in-Ok-Some.field-0-is at c.in-Ok-Some.ensures.found) c.fetch_input.ensures.does refl

-- src/run.rt:127:1
pub returns-in-Err-clause-keeps : goal.returns-in-Err-clause-keeps
returns-in-Err-clause-keeps g c = wanting refl refl
