use Rattle.std.proofs.Common.{ap, ◌∙◌}
use Rattle.hc_folder.proofs.Recorded.{begun_told}
use Rattle.hc_folder.proofs.recording.Recorder.put_first.Goals as goal

pub invariant_of-self : goal.invariant_of-self
invariant_of-self g c = let s = c.put_owed-put.new.self in record { small = s.small; written = s.written }

pub returns-clause-recorded : goal.returns-clause-recorded
returns-clause-recorded g c = c.put_owed-put.ensures.recorded

pub returns-clause-renewed : goal.returns-clause-renewed
returns-clause-renewed g c = c.put_owed-put.ensures.renewed

pub returns-clause-told : goal.returns-clause-told
returns-clause-told g c =
    let s = c.put_owed-put.new.self in
    let q = c.put_owed-put.ensures in
    begun_told (g.F.Folder.faults c.args.self.now.folder) (g.F.Folder.faults s.folder)
    (record s { unwritten = c.unput-self.result; small = s.small; written = s.written }) c.put_owed-put.result q.cause q.ok
    (ap (λ v. v.items) q.block ∙ c.requires.block) (ap (λ v. v.items) q.waiting ∙ c.requires.waiting) c.unput-self.ensures
