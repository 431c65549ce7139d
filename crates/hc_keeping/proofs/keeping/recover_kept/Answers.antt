use Rattle.std.proofs.Common.{◌∙◌}
use Rattle.hc_saving.specs.Recovers.{bytes_of}
use Rattle.hc_keeping.proofs.FromFiles.{unread_keeps, unread_cause, text_keeps, text_cause, files_said, none_found}
use Rattle.hc_keeping.proofs.keeping.recover_kept.Goals as goal

pub returns-in_err-said-clause-keeps : goal.returns-in_err-said-clause-keeps
returns-in_err-said-clause-keeps g c =
    unread_keeps c.args.limits (g.F.Folder.files c.args.folder.now) c.in_err-said.field-0.0 c.from_residual.result c.from_residual.ensures.1
    c.in_err-said.ensures.reads

pub returns-in_err-said-clause-same : goal.returns-in_err-said-clause-same
returns-in_err-said-clause-same g c = c.in_err-said.ensures.same

pub returns-in_err-said-clause-cause : goal.returns-in_err-said-clause-cause
returns-in_err-said-clause-cause g c =
    unread_cause _ _ c.in_err-said.field-0.0 c.from_residual.result c.from_residual.ensures.1 c.in_err-said.ensures.cause

pub recover_text-requires : goal.recover_text-requires
recover_text-requires g c = c.in_ok-said.ensures.small

pub returns-clause-keeps : goal.returns-clause-keeps
returns-clause-keeps g c =
    text_keeps c.args.limits (g.F.Folder.files c.args.folder.now) c.in_ok-said.said c.recover_text.result c.in_ok-said.ensures.reads c.recover_text.ensures

pub returns-clause-same : goal.returns-clause-same
returns-clause-same g c = c.in_ok-said.ensures.same

pub returns-clause-cause : goal.returns-clause-cause
returns-clause-cause g c =
    let s = c.in_ok-said.said in
    text_cause c.args.limits (bytes_of s.image) s.number s.text.items _ _ c.recover_text.result c.recover_text.ensures c.in_ok-said.ensures.cause

-- THE FILES SAY IT ONCE

pub returns-in_err-said-clause-found : goal.returns-in_err-said-clause-found
returns-in_err-said-clause-found g c = λ image n text said. none_found _ _ c.from_residual.result c.from_residual.ensures.1

pub returns-clause-found : goal.returns-clause-found
returns-clause-found g c = λ image n text said.
    files_said c.args.limits (g.F.Folder.files c.args.folder.now) c.recover_text.result image n text said
    (text_keeps c.args.limits (g.F.Folder.files c.args.folder.now) c.in_ok-said.said c.recover_text.result c.in_ok-said.ensures.reads
    c.recover_text.ensures)
