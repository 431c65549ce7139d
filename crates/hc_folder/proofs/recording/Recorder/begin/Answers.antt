use Rattle.std.proofs.Common.{◌≡◌, ap, subst}
use Rattle.hc_folder.specs.Recording.{IsAsTold}
use Rattle.hc_folder.proofs.{Recorded.{begun_recorded, begun_renewed}, Told.{begun_tells}}
use Rattle.hc_folder.proofs.recording.Recorder.begin.Goals as goal

-- WHAT IS ASKED FOR

pub new-recorder-requires-clause-image : goal.new-recorder-requires-clause-image
new-recorder-requires-clause-image g c = c.requires.image

pub new-recorder-requires-clause-new : goal.new-recorder-requires-clause-new
new-recorder-requires-clause-new g c = c.requires.new

pub put_first-requires-clause-block : goal.put_first-requires-clause-block
put_first-requires-clause-block g c = c.new-recorder.ensures.new.block

pub put_first-requires-clause-waiting : goal.put_first-requires-clause-waiting
put_first-requires-clause-waiting g c = c.new-recorder.ensures.new.waiting

-- THE IMAGE IS PUT, OR OWED

pub returns-clause-recorded : goal.returns-clause-recorded
returns-clause-recorded g c =
    begun_recorded c.args.file.items c.args.sum c.new-recorder.result c.put_first.new.self (g.F.Folder.files c.args.folder)
    (g.F.Folder.files c.new-recorder.result.folder) (g.F.Folder.files c.put_first.new.self.folder)
    (ap g.F.Folder.files c.new-recorder.ensures.folder) c.new-recorder.ensures.recorded c.put_first.ensures.recorded

pub returns-clause-taken : goal.returns-clause-taken
returns-clause-taken g c =
    begun_tells c.args.file.items c.args.sum c.new-recorder.result c.put_first.new.self (g.F.Folder.files c.args.folder)
    (g.F.Folder.files c.new-recorder.result.folder) (g.F.Folder.files c.put_first.new.self.folder)
    (ap g.F.Folder.files c.new-recorder.ensures.folder) c.new-recorder.ensures.recorded c.put_first.ensures.recorded

pub returns-clause-renewed : goal.returns-clause-renewed
returns-clause-renewed g c =
    let new = c.new-recorder.ensures.new in
    begun_renewed c.args.file c.args.number c.new-recorder.result.number c.new-recorder.result.owed (g.F.Folder.files c.args.folder)
    (g.F.Folder.files c.new-recorder.result.folder) (g.F.Folder.files c.put_first.new.self.folder) new.owed new.number
    (ap g.F.Folder.files c.new-recorder.ensures.folder) c.put_first.ensures.renewed

pub returns-clause-told : goal.returns-clause-told
returns-clause-told g c =
    let s = c.put_first.new.self in
    let same = ap g.F.Folder.faults c.new-recorder.ensures.folder in
    subst (λ before. IsAsTold before (g.F.Folder.faults s.folder) s) same c.put_first.ensures.told
