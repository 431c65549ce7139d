use Rattle.std.{proofs.Common.{arith, subst, ◌∙◌}, specs.Prelude.{IfSome}}
use Rattle.hc_folder.specs.{Says.{IsSmall, HasFilesCause, ReadsBehind}, Files.{Files}, declared.folder.ImageFound.{ImageFound}}
use Rattle.hc_folder.proofs.Saying.{folder_ends, folder_cause, no_value, lost, nothing, broken_file, older, behind_image}
use Rattle.hc_folder.proofs.reading.read_files.Goals as goal

-- THE IMAGE CAN'T BE READ

pub returns-in_err-found-clause-reads : goal.returns-in_err-found-clause-reads
returns-in_err-found-clause-reads g c =
    folder_ends (g.F.Folder.files c.args.folder.now) c.from_residual.result c.in_err-found.field-0.0 c.from_residual.ensures.1

pub returns-in_err-found-clause-small : goal.returns-in_err-found-clause-small
returns-in_err-found-clause-small g c = no_value IsSmall _ c.from_residual.result c.from_residual.ensures.1

pub returns-in_err-found-clause-same : goal.returns-in_err-found-clause-same
returns-in_err-found-clause-same g c = c.in_err-found.ensures.same

pub returns-in_err-found-clause-cause : goal.returns-in_err-found-clause-cause
returns-in_err-found-clause-cause g c =
    folder_cause ImageFound _ _ c.in_err-found.field-0.0 c.from_residual.result c.from_residual.ensures.1 c.in_err-found.ensures.cause

-- THERE IS NO IMAGE

pub returns-then-newest-gt0-clause-reads : goal.returns-then-newest-gt0-clause-reads
returns-then-newest-gt0-clause-reads g c =
    lost (g.F.Folder.files c.args.folder.now) c.in_ok-found.found.file c.in_ok-found.found.newest c.in_ok-found.ensures.found
    c.in_default.is c.if-newest-gt0.true

pub returns-in_default-clause-reads : goal.returns-in_default-clause-reads
returns-in_default-clause-reads g c =
    nothing (g.F.Folder.files c.args.folder.now) c.in_ok-found.found.file c.in_ok-found.found.newest c.in_ok-found.ensures.found
    c.new-text.result c.in_default.is c.if-newest-gt0.false c.new-text.ensures.items

pub returns-in_default-clause-small : goal.returns-in_default-clause-small
returns-in_default-clause-small g c = (let len = c.new-text.ensures.len in record { text = omega (arith, len); number = omega arith })

-- THERE IS ONE

pub returns-in_default-read_image_file-clause-reads : goal.returns-in_default-read_image_file-clause-reads
returns-in_default-read_image_file-clause-reads g c =
    broken_file (g.F.Folder.files c.args.folder.now) c.in_ok-found.found.file c.in_ok-found.found.newest c.in_ok-found.ensures.found
    c.in-Some.file c.in-Some.is c.in_default-read_image_file.ensures

pub returns-then-newest-number-clause-reads : goal.returns-then-newest-number-clause-reads
returns-then-newest-number-clause-reads g c =
    older (g.F.Folder.files c.args.folder.now) c.in_ok-found.found.file c.in_ok-found.found.newest c.in_ok-found.ensures.found
    c.in-Some.file c.in-Some.is c.in-Some-read_image_file.image c.in-Some-read_image_file.ensures c.if-newest-number.true

pub read_behind-requires : goal.read_behind-requires
read_behind-requires g c = c.in-Some-read_image_file.ensures.small

pub returns-clause-reads : goal.returns-clause-reads
returns-clause-reads g c =
    behind_image (g.F.Folder.files c.args.folder.now) c.in_ok-found.found.file c.in_ok-found.found.newest c.in_ok-found.ensures.found
    c.in-Some.file c.in-Some.is c.in-Some-read_image_file.image c.in-Some-read_image_file.ensures c.read_behind.result c.if-newest-number.false
    (subst (λ o. IfSome o (λ (f : Files). ReadsBehind c.in-Some-read_image_file.image f c.read_behind.result)) c.in_ok-found.ensures.same c.read_behind.ensures.reads)

pub returns-clause-small : goal.returns-clause-small
returns-clause-small g c = c.read_behind.ensures.small

pub returns-clause-same : goal.returns-clause-same
returns-clause-same g c = c.read_behind.ensures.same ∙ c.in_ok-found.ensures.same

pub returns-clause-cause : goal.returns-clause-cause
returns-clause-cause g c =
    subst (λ before. HasFilesCause before (g.F.Folder.faults c.read_behind.new.folder) c.read_behind.result) c.in_ok-found.ensures.cause
    c.read_behind.ensures.cause

pub returns-then-newest-gt0-clause-small : goal.returns-then-newest-gt0-clause-small
returns-then-newest-gt0-clause-small g c = tt

pub returns-then-newest-gt0-clause-same : goal.returns-then-newest-gt0-clause-same
returns-then-newest-gt0-clause-same g c = c.in_ok-found.ensures.same

pub returns-then-newest-gt0-clause-cause : goal.returns-then-newest-gt0-clause-cause
returns-then-newest-gt0-clause-cause g c = c.in_ok-found.ensures.cause

pub returns-in_default-clause-same : goal.returns-in_default-clause-same
returns-in_default-clause-same g c = c.in_ok-found.ensures.same

pub returns-in_default-clause-cause : goal.returns-in_default-clause-cause
returns-in_default-clause-cause g c = c.in_ok-found.ensures.cause

pub returns-in_default-read_image_file-clause-small : goal.returns-in_default-read_image_file-clause-small
returns-in_default-read_image_file-clause-small g c = tt

pub returns-in_default-read_image_file-clause-same : goal.returns-in_default-read_image_file-clause-same
returns-in_default-read_image_file-clause-same g c = c.in_ok-found.ensures.same

pub returns-in_default-read_image_file-clause-cause : goal.returns-in_default-read_image_file-clause-cause
returns-in_default-read_image_file-clause-cause g c = c.in_ok-found.ensures.cause

pub returns-then-newest-number-clause-small : goal.returns-then-newest-number-clause-small
returns-then-newest-number-clause-small g c = tt

pub returns-then-newest-number-clause-same : goal.returns-then-newest-number-clause-same
returns-then-newest-number-clause-same g c = c.in_ok-found.ensures.same

pub returns-then-newest-number-clause-cause : goal.returns-then-newest-number-clause-cause
returns-then-newest-number-clause-cause g c = c.in_ok-found.ensures.cause
