use Rattle.std.{proofs.Common.{ℕ, ap, length, arith}, specs.{Global.{Global}, Prelude.{Vec}}}
use Rattle.hc_folder.specs.Says.{IsSmall}
use Rattle.hc_folder.proofs.Saying.{behind_ends, folder_cause, no_value, behind_text, behind_broken, behind_lacking}
use Rattle.hc_folder.proofs.reading.read_behind.Goals as goal

-- THE RECORD CAN'T BE READ

pub returns-in_err-file-clause-reads : goal.returns-in_err-file-clause-reads
returns-in_err-file-clause-reads g c =
    behind_ends (g.F.Folder.files c.args.folder.now) c.from_residual.result c.args.image c.in_err-file.field-0.0 c.from_residual.ensures.1

pub returns-in_err-file-clause-small : goal.returns-in_err-file-clause-small
returns-in_err-file-clause-small g c = no_value IsSmall _ c.from_residual.result c.from_residual.ensures.1

pub returns-in_err-file-clause-same : goal.returns-in_err-file-clause-same
returns-in_err-file-clause-same g c = c.in_err-file.ensures.same

pub returns-in_err-file-clause-cause : goal.returns-in_err-file-clause-cause
returns-in_err-file-clause-cause g c =
    folder_cause (Vec ℕ Global) _ _ c.in_err-file.field-0.0 c.from_residual.result c.from_residual.ensures.1 c.in_err-file.ensures.cause

-- ITS TEXT

pub returns-in-Ok-clause-reads : goal.returns-in-Ok-clause-reads
returns-in-Ok-clause-reads g c =
    behind_text (g.F.Folder.files c.args.folder.now) c.args.image c.in_ok-file.file.items c.as_slice.result.now c.as_slice.ensures.value
    c.in_ok-file.ensures.bytes c.in-Ok.text c.in-Ok.ensures.text

pub returns-in-Ok-clause-small : goal.returns-in-Ok-clause-small
returns-in-Ok-clause-small g c =
    let less = c.in-Ok.ensures.shorter in
    let size = ap length c.as_slice.ensures.value in
    let most = c.in_ok-file.ensures.small in
    record { text = omega (arith, less, size, most); number = c.requires }

pub returns-in-Ok-clause-same : goal.returns-in-Ok-clause-same
returns-in-Ok-clause-same g c = c.in_ok-file.ensures.same

pub returns-in-Ok-clause-cause : goal.returns-in-Ok-clause-cause
returns-in-Ok-clause-cause g c = c.in_ok-file.ensures.cause

-- IT IS BROKEN, OR MEMORY IS REFUSED

pub returns-in-Err-Broken-clause-reads : goal.returns-in-Err-Broken-clause-reads
returns-in-Err-Broken-clause-reads g c =
    behind_broken (g.F.Folder.files c.args.folder.now) c.args.image c.in_ok-file.file.items c.as_slice.result.now c.as_slice.ensures.value
    c.in_ok-file.ensures.bytes c.in-Err-Broken.at (rw c.in-Err-Broken.field-0-is at c.in-Err-Broken.ensures.none)

pub returns-clause-reads : goal.returns-clause-reads
returns-clause-reads g c = behind_lacking (g.F.Folder.files c.args.folder.now) c.args.image

pub returns-in-Err-Broken-clause-small : goal.returns-in-Err-Broken-clause-small
returns-in-Err-Broken-clause-small g c = tt

pub returns-in-Err-Broken-clause-same : goal.returns-in-Err-Broken-clause-same
returns-in-Err-Broken-clause-same g c = c.in_ok-file.ensures.same

pub returns-in-Err-Broken-clause-cause : goal.returns-in-Err-Broken-clause-cause
returns-in-Err-Broken-clause-cause g c = c.in_ok-file.ensures.cause

pub returns-clause-small : goal.returns-clause-small
returns-clause-small g c = tt

pub returns-clause-same : goal.returns-clause-same
returns-clause-same g c = c.in_ok-file.ensures.same

pub returns-clause-cause : goal.returns-clause-cause
returns-clause-cause g c = c.in_ok-file.ensures.cause
