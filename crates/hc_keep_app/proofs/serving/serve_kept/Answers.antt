use Rattle.std.{proofs.Common.{◌∙◌, refl, ap, subst}, specs.Prelude.{Some, true}}
use Rattle.hc_contents.specs.PlainContents.{plain_contents}
use Rattle.hc_folder.{specs.{Files.{IsRenewedOrLeft}, ImageFiles.{image_file}, Recording.{told_of}}, proofs.Told.{untold_files}}
use Rattle.hc_image.specs.Images.{image_of}
use Rattle.hc_proxy.specs.{Recorded.{Records}, Rows.{setting_of}, Served.{ServesWith}}
use Rattle.hc_rules.specs.declared.room.Limits.{Limits}
use Rattle.hc_keep_app.specs.Serving.{HasEndedWire}
use Rattle.hc_keep_app.proofs.{Kept.{image_behind, kept_behind, next_free, text_behind, told_first}, Unserved.{fresh_bound, ended_wire, never_risen}}
use Rattle.hc_keep_app.proofs.serving.serve_kept.Goals as goal

-- NOTHING IS SERVED

pub returns-in-Err-clause-refused : goal.returns-in-Err-clause-refused
returns-in-Err-clause-refused g c = c.in-Err.ensures.refused

pub returns-in-Err-clause-files : goal.returns-in-Err-clause-files
returns-in-Err-clause-files g c = c.in-Err.ensures.files

pub returns-in-Err-clause-unasked : goal.returns-in-Err-clause-unasked
returns-in-Err-clause-unasked g c = c.in-Err.ensures.unasked

pub returns-in-Err-clause-folder : goal.returns-in-Err-clause-folder
returns-in-Err-clause-folder g c = c.in-Err.ensures.folder

pub returns-in-Err-clause-unbound : goal.returns-in-Err-clause-unbound
returns-in-Err-clause-unbound g c = c.in-Err.ensures.unbound

-- IT IS SERVED

pub serve_from-ended-requires-clause-stocked : goal.serve_from-ended-requires-clause-stocked
serve_from-ended-requires-clause-stocked g c = (let b = c.in-Ok.ensures.begun in ∣ (plain_contents b.kept.contents, b.ready_is.stocked) ∣₁)

pub serve_from-ended-requires-clause-few : goal.serve_from-ended-requires-clause-few
serve_from-ended-requires-clause-few g c = c.in-Ok.ensures.begun.ready_is.few

pub serve_from-ended-requires-clause-unused : goal.serve_from-ended-requires-clause-unused
serve_from-ended-requires-clause-unused g c = c.in-Ok.ensures.begun.ready_is.unused

pub serve_from-ended-requires-clause-fresh : goal.serve_from-ended-requires-clause-fresh
serve_from-ended-requires-clause-fresh g c =
    fresh_bound (Some c.args.serving.listen) (Some c.args.serving.origin) (g.W.Wire.log c.args.wire.now) (g.W.Wire.log c.begin.new.wire) c.requires.fresh
    c.in-Ok.ensures.begun.binds

pub serve_from-ended-requires-clause-unseen : goal.serve_from-ended-requires-clause-unseen
serve_from-ended-requires-clause-unseen g c = λ k. c.in-Ok.ensures.stages k ∙ c.requires.unseen k

pub begin-log-requires-clause-image : goal.begin-log-requires-clause-image
begin-log-requires-clause-image g c =
    let b = c.in-Ok.ensures.begun in
    let q = b.ready_is in
    image_behind (plain_contents b.kept.contents) b.kept.next q.numbered c.in-Ok.ready.next c.in-Ok.ready.image q.next_is q.image

pub begin-log-requires-clause-new : goal.begin-log-requires-clause-new
begin-log-requires-clause-new g c =
    let b = c.in-Ok.ensures.begun in
    next_free c.args.serving.limits (g.F.Folder.files c.args.folder) (g.F.Folder.files c.begin.new.folder) b.kept c.in-Ok.ready.next c.in-Ok.ensures.files
    b.ready_is.next_is b.recovered

pub returns-clause-served : goal.returns-clause-served
returns-clause-served g c =
    let b = c.in-Ok.ensures.begun in
    let contents = plain_contents b.kept.contents in
    let n = b.kept.next in
    let limits = c.args.serving.limits in
    let files = g.F.Folder.files c.args.folder in
    let file = image_file (image_of contents) n in
    let r = c.begin-log.result in
    let s = c.serve_from-ended.new.log in
    let first = told_first file c.in-Ok.ready.image.file.items b.ready_is.image.file_is (IsRenewedOrLeft c.in-Ok.ready.image.file.items c.in-Ok.ready.next)
    r.owed r.number r.at r.block.items r.waiting.items (g.F.Folder.files r.folder) files (g.F.Folder.files c.begin.new.folder) c.in-Ok.ensures.files
    c.begin-log.ensures.taken c.begin-log.ensures.renewed in
    let t = text_behind file limits contents (setting_of contents true) c.args.serving.turns files (told_of r) (told_of s) (g.W.Wire.log c.begin.new.wire)
    (g.W.Wire.log c.serve_from-ended.new.wire) c.serve_from-ended.result first
    (subst (λ (l : Limits). Records l contents (told_of r) (told_of s) c.serve_from-ended.result) b.ready_is.limits_are
    (c.serve_from-ended.ensures.recorded contents b.ready_is.stocked))
    (subst (λ (l : Limits).
    ServesWith l (setting_of contents true) c.args.serving.turns (g.W.Wire.log c.begin.new.wire) (g.W.Wire.log c.serve_from-ended.new.wire) (told_of r)
    (told_of s) c.serve_from-ended.result) b.ready_is.limits_are (c.serve_from-ended.ensures.serves (λ a b. refl) contents b.ready_is.stocked)) in
    record {
      kept = b.kept;
      recovered = b.recovered;
      bound = g.W.Wire.log c.begin.new.wire;
      binds = b.binds;
      text = t.text;
      serves = t.serves;
      records = t.records;
      keeps = kept_behind contents n b.ready_is.numbered t.text c.close-closed.result.standing files (g.F.Folder.files c.close-closed.result.folder)
          (told_of s) t.told
          (λ none. ap g.F.Folder.files c.close-closed.ensures.folder ∙
          untold_files s.owed s.number s.at s.block.items s.waiting.items (g.F.Folder.files s.folder) none)
          c.close-closed.ensures.stands;
      never = (λ is. never_risen (c.serve_from-ended.ensures.sink is));
    }

pub returns-clause-wire : goal.returns-clause-wire
returns-clause-wire g c =
    subst (λ before. HasEndedWire before (g.W.Wire.faults c.serve_from-ended.new.wire) c.serve_from-ended.result) c.in-Ok.ensures.wire
    (ended_wire (g.W.Wire.faults c.begin.new.wire) (g.W.Wire.faults c.serve_from-ended.new.wire) c.serve_from-ended.result c.serve_from-ended.ensures.wire
    c.serve_from-ended.ensures.wire_calm)
