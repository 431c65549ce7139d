use Rattle.std.proofs.Common.{sym, subst}
use Rattle.hc_folder.specs.Causes.{HasFolderCause}
use Rattle.hc_folder.proofs.Renewals.{renewed, partly_renewed, left_as_was, by_ok, by_err, as_err}
use Rattle.hc_folder.proofs.renewing.renew.Goals as goal

pub returns-in_err-put_image-clause-ok : goal.returns-in_err-put_image-clause-ok
returns-in_err-put_image-clause-ok g c = rw (as_err _ c.from_residual.result c.from_residual.ensures.1) tt

pub returns-in_err-put_image-clause-err : goal.returns-in_err-put_image-clause-err
returns-in_err-put_image-clause-err g c = rw (as_err _ c.from_residual.result c.from_residual.ensures.1)
    (left_as_was c.args.file.now c.args.number (g.F.Folder.files c.args.folder.now) (g.F.Folder.files c.put_image.new.self) c.in_err-put_image.ensures.err)

pub returns-in_err-put_image-clause-cause : goal.returns-in_err-put_image-clause-cause
returns-in_err-put_image-clause-cause g c =
    subst (HasFolderCause (g.F.Folder.faults c.args.folder.now) (g.F.Folder.faults c.put_image.new.self))
    (sym (as_err _ c.from_residual.result c.from_residual.ensures.1)) c.in_err-put_image.ensures.cause

pub returns-clause-ok : goal.returns-clause-ok
returns-clause-ok g c =
    by_ok c.remove_below.result _ _
    (renewed c.args.file.now c.args.number (g.F.Folder.files c.args.folder.now) (g.F.Folder.files c.put_image.new.self)
    (g.F.Folder.files c.remove_below.new.self) c.in_ok-put_image.ensures.ok) c.remove_below.ensures.ok

pub returns-clause-err : goal.returns-clause-err
returns-clause-err g c =
    by_err c.remove_below.result _ _
    (partly_renewed c.args.file.now c.args.number (g.F.Folder.files c.args.folder.now) (g.F.Folder.files c.put_image.new.self)
    (g.F.Folder.files c.remove_below.new.self) c.in_ok-put_image.ensures.ok) c.remove_below.ensures.err

pub returns-clause-cause : goal.returns-clause-cause
returns-clause-cause g c =
    subst (λ before. HasFolderCause before (g.F.Folder.faults c.remove_below.new.self) c.remove_below.result) c.in_ok-put_image.ensures.cause
    c.remove_below.ensures.cause
