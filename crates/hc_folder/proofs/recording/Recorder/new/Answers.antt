use Rattle.std.proofs.Common.{refl}
use Rattle.hc_folder.proofs.{Recorded.{begun}, Told.{begun_taken}}
use Rattle.hc_folder.proofs.recording.Recorder.new.Goals as goal

pub returns-clause-recorded : goal.returns-clause-recorded
returns-clause-recorded g c =
    begun _ c.args.file c.args.number c.args.sum 0 c.new-block.result.items c.args.sum c.new-waiting.result.items (g.F.Folder.files c.args.folder) refl refl
    c.new-block.ensures.items c.new-waiting.ensures.items c.requires.new

pub returns-clause-folder : goal.returns-clause-folder
returns-clause-folder g c = refl

pub returns-clause-new : goal.returns-clause-new
returns-clause-new g c = record {
  owed = refl;
  number = refl;
  block = c.new-block.ensures.items;
  waiting = c.new-waiting.ensures.items;
  told = refl;
}

pub invariant_of-result-clause-small : goal.invariant_of-result-clause-small
invariant_of-result-clause-small g c = c.requires.image.small

pub invariant_of-result-clause-written : goal.invariant_of-result-clause-written
invariant_of-result-clause-written g c =
    begun_taken c.args.file.items c.args.number c.args.sum c.requires.image _ 0 c.new-block.result.items c.args.sum c.new-waiting.result.items
    (g.F.Folder.files c.args.folder)
    (begun _ c.args.file c.args.number c.args.sum 0 c.new-block.result.items c.args.sum c.new-waiting.result.items (g.F.Folder.files c.args.folder) refl refl
    c.new-block.ensures.items c.new-waiting.ensures.items c.requires.new)
