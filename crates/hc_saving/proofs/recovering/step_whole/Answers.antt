use Rattle.hc_driver.specs.declared.stop.Stop.TheVariants as stop
use Rattle.hc_saving.proofs.Recovered.{is_stepped, is_unstepped}
use Rattle.hc_saving.proofs.recovering.step_whole.Goals as goal

pub returns-in-Ok-clause-stepped : goal.returns-in-Ok-clause-stepped
returns-in-Ok-clause-stepped g c = is_stepped (record { cache = c.args.cache }) c.go_through_prefix.new.on c.args.moment _ _ _ c.in-Ok.ensures.read

pub returns-in-Err-Refused-clause-none : goal.returns-in-Err-Refused-clause-none
returns-in-Err-Refused-clause-none g c =
    is_unstepped (record { cache = c.args.cache }) c.go_through_prefix.new.on c.args.moment _ _ (stop.Refused c.in-Err-Refused.refused)
    (rw c.in-Err-Refused.field-0-is at c.in-Err-Refused.ensures.breaks)

pub returns-in-Err-SourceFailed-clause-none : goal.returns-in-Err-SourceFailed-clause-none
returns-in-Err-SourceFailed-clause-none g c =
    is_unstepped (record { cache = c.args.cache }) c.go_through_prefix.new.on c.args.moment _ _ stop.SourceFailed
    (rw c.in-Err-SourceFailed.field-0-is at c.in-Err-SourceFailed.ensures.breaks)

pub returns-in-Err-NoMemory-clause-none : goal.returns-in-Err-NoMemory-clause-none
returns-in-Err-NoMemory-clause-none g c =
    is_unstepped (record { cache = c.args.cache }) c.go_through_prefix.new.on c.args.moment _ _ stop.NoMemory
    (rw c.in-Err-NoMemory.field-0-is at c.in-Err-NoMemory.ensures.breaks)
