use Rattle.std.{proofs.Common.{◌∙◌, ℕ, ap, subst}, specs.{Global.{Global}, Prelude.{Vec}}}
use Rattle.hc_folder.specs.Recording.{HasUnwrittenCause, size_with}
use Rattle.hc_folder.specs.declared.recording.Unwritten.TheVariants as why
use Rattle.hc_folder.proofs.Recorded.{on_recorded, none_ok, all_written, folder_cause, told_cause}
use Rattle.hc_folder.proofs.recording.Recorder.put_all.Goals as goal

-- THE IMAGE ISN'T PUT

pub returns-in_err-put_owed-clause-recorded : goal.returns-in_err-put_owed-clause-recorded
returns-in_err-put_owed-clause-recorded g c = c.in_err-put_owed.ensures.recorded

pub returns-in_err-put_owed-clause-ok : goal.returns-in_err-put_owed-clause-ok
returns-in_err-put_owed-clause-ok g c = none_ok _ _ c.from_residual.result c.from_residual.ensures.1

pub returns-in_err-put_owed-clause-cause : goal.returns-in_err-put_owed-clause-cause
returns-in_err-put_owed-clause-cause g c =
    folder_cause (g.F.Folder.faults c.args.self.now.folder) (g.F.Folder.faults c.put_owed.new.self.folder) (size_with c.put_owed.new.self)
    c.from_residual.result c.in_err-put_owed.field-0.0 c.from_residual.ensures.1 c.in_err-put_owed.ensures.cause

-- THE BLOCK THAT COMES NEXT ISN'T PUT

pub returns-in_err-put_block-clause-recorded : goal.returns-in_err-put_block-clause-recorded
returns-in_err-put_block-clause-recorded g c =
    let r = c.args.self.now in
    let s = c.put_owed.new.self in
    let t = c.put_block.new.self in
    on_recorded r s t (g.F.Folder.files r.folder) (g.F.Folder.files s.folder) (g.F.Folder.files t.folder) c.in_ok-put_owed.ensures.recorded
    c.in_err-put_block.ensures.recorded

pub returns-in_err-put_block-clause-ok : goal.returns-in_err-put_block-clause-ok
returns-in_err-put_block-clause-ok g c = none_ok _ _ c.from_residual-in_err-put_block.result c.from_residual-in_err-put_block.ensures.1

pub returns-in_err-put_block-clause-cause : goal.returns-in_err-put_block-clause-cause
returns-in_err-put_block-clause-cause g c =
    let t = c.put_block.new.self in
    let out = c.from_residual-in_err-put_block in
    subst (λ before. HasUnwrittenCause before (g.F.Folder.faults t.folder) (size_with t) out.result) c.in_ok-put_owed.ensures.cause
    (told_cause (g.F.Folder.faults c.put_owed.new.self.folder) (g.F.Folder.faults t.folder) (size_with t) out.result c.in_err-put_block.field-0.0 out.ensures.1
    c.in_err-put_block.ensures.cause)

-- NO BLOCK IS MADE

pub make_block-requires : goal.make_block-requires
make_block-requires g c = c.in_ok-put_block.ensures.ok

pub returns-in_err-make_block-clause-recorded : goal.returns-in_err-make_block-clause-recorded
returns-in_err-make_block-clause-recorded g c =
    let r = c.args.self.now in
    let s = c.put_owed.new.self in
    let t = c.put_block.new.self in
    let u = c.make_block.new.self in
    on_recorded r t u (g.F.Folder.files r.folder) (g.F.Folder.files t.folder) (g.F.Folder.files u.folder)
    (on_recorded r s t (g.F.Folder.files r.folder) (g.F.Folder.files s.folder) (g.F.Folder.files t.folder) c.in_ok-put_owed.ensures.recorded
    c.in_ok-put_block.ensures.recorded) c.in_err-make_block.ensures.recorded

pub returns-in_err-make_block-clause-ok : goal.returns-in_err-make_block-clause-ok
returns-in_err-make_block-clause-ok g c = none_ok _ _ c.from_residual-in_err-make_block.result c.from_residual-in_err-make_block.ensures.1

pub returns-in_err-make_block-clause-cause : goal.returns-in_err-make_block-clause-cause
returns-in_err-make_block-clause-cause g c =
    let u = c.make_block.new.self in
    let out = c.from_residual-in_err-make_block in
    told_cause (g.F.Folder.faults c.args.self.now.folder) (g.F.Folder.faults u.folder) (size_with u) out.result why.NoMemory out.ensures.1
    (ap g.F.Folder.faults c.in_err-make_block.ensures.folder ∙ c.in_ok-put_block.ensures.cause ∙ c.in_ok-put_owed.ensures.cause)

-- BEHIND THAT

pub returns-clause-recorded : goal.returns-clause-recorded
returns-clause-recorded g c =
    let r = c.args.self.now in
    let s = c.put_owed.new.self in
    let t = c.put_block.new.self in
    let u = c.make_block.new.self in
    let v = c.put_block-2.new.self in
    on_recorded r u v (g.F.Folder.files r.folder) (g.F.Folder.files u.folder) (g.F.Folder.files v.folder)
    (on_recorded r t u (g.F.Folder.files r.folder) (g.F.Folder.files t.folder) (g.F.Folder.files u.folder)
    (on_recorded r s t (g.F.Folder.files r.folder) (g.F.Folder.files s.folder) (g.F.Folder.files t.folder) c.in_ok-put_owed.ensures.recorded
    c.in_ok-put_block.ensures.recorded) c.in_ok-make_block.ensures.recorded) c.put_block-2.ensures.recorded

pub returns-clause-ok : goal.returns-clause-ok
returns-clause-ok g c =
    all_written c.put_block-2.new.self c.put_block-2.result
    (c.put_block-2.ensures.owed ∙ c.in_ok-make_block.ensures.owed ∙ c.in_ok-put_block.ensures.owed ∙ c.in_ok-put_owed.ensures.ok)
    (ap (λ (v : Vec ℕ Global). v.items) c.put_block-2.ensures.waiting ∙ c.in_ok-make_block.ensures.ok) c.put_block-2.ensures.ok

pub returns-clause-cause : goal.returns-clause-cause
returns-clause-cause g c =
    let v = c.put_block-2.new.self in
    subst (λ before. HasUnwrittenCause before (g.F.Folder.faults v.folder) (size_with v) c.put_block-2.result)
    (ap g.F.Folder.faults c.in_ok-make_block.ensures.folder ∙ c.in_ok-put_block.ensures.cause ∙ c.in_ok-put_owed.ensures.cause) c.put_block-2.ensures.cause
