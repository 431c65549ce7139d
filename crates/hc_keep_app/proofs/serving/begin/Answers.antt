use Rattle.std.proofs.Common.{refl, ◌∙◌}
use Rattle.hc_contents.specs.PlainContents.{plain_contents}
use Rattle.hc_keep_app.specs.Serving.{HasFolderEnd, HasRefusedWire, IsUnserved, of_wire}
use Rattle.hc_keep_app.specs.Serving as serving
use Rattle.hc_keep_app.specs.declared.serving.Unserved.TheVariants as why
use Rattle.hc_keep_app.proofs.Unserved.{none_ok, no_value, on_err, by_error, unready_unserved, unready_folder, unready_wire, unbound_unserved, unbound_folder, unbound_wire}
use Rattle.hc_keep_app.proofs.serving.begin.Goals as goal

-- NOTHING IS RECOVERED

pub returns-in_err-kept-clause-begun : goal.returns-in_err-kept-clause-begun
returns-in_err-kept-clause-begun g c = no_value _ _ c.from_residual.result c.from_residual.ensures.1

pub returns-in_err-kept-clause-refused : goal.returns-in_err-kept-clause-refused
returns-in_err-kept-clause-refused g c =
    let e = c.in_err-kept.field-0.0 in
    by_error (why.Unrecovered e) (IsUnserved c.args.serving.limits (g.F.Folder.files c.args.folder.now)) c.from_residual.result c.from_residual.ensures.1
    (serving.unrecovered e c.in_err-kept.ensures.keeps)

pub returns-in_err-kept-clause-files : goal.returns-in_err-kept-clause-files
returns-in_err-kept-clause-files g c = c.in_err-kept.ensures.same

pub returns-in_err-kept-clause-unasked : goal.returns-in_err-kept-clause-unasked
returns-in_err-kept-clause-unasked g c = on_err _ c.from_residual.result refl

pub returns-in_err-kept-clause-stages : goal.returns-in_err-kept-clause-stages
returns-in_err-kept-clause-stages g c = λ k. refl

pub returns-in_err-kept-clause-folder : goal.returns-in_err-kept-clause-folder
returns-in_err-kept-clause-folder g c =
    by_error (why.Unrecovered c.in_err-kept.field-0.0) (HasFolderEnd (g.F.Folder.faults c.args.folder.now) (g.F.Folder.faults c.recover_kept.new.folder))
    c.from_residual.result c.from_residual.ensures.1 c.in_err-kept.ensures.cause

pub returns-in_err-kept-clause-wire : goal.returns-in_err-kept-clause-wire
returns-in_err-kept-clause-wire g c = none_ok _ _ c.from_residual.result c.from_residual.ensures.1

pub returns-in_err-kept-clause-unbound : goal.returns-in_err-kept-clause-unbound
returns-in_err-kept-clause-unbound g c =
    by_error (why.Unrecovered c.in_err-kept.field-0.0) (HasRefusedWire (g.W.Wire.faults c.args.wire.now) (g.W.Wire.faults c.args.wire.now))
    c.from_residual.result c.from_residual.ensures.1 refl

-- NO CACHE BEGINS

pub returns-in_err-ready-clause-begun : goal.returns-in_err-ready-clause-begun
returns-in_err-ready-clause-begun g c = no_value _ _ c.from_residual-in_err-ready.result c.from_residual-in_err-ready.ensures.1

pub returns-in_err-ready-clause-refused : goal.returns-in_err-ready-clause-refused
returns-in_err-ready-clause-refused g c =
    by_error c.in_err-ready.field-0.0 (IsUnserved c.args.serving.limits (g.F.Folder.files c.args.folder.now)) c.from_residual-in_err-ready.result
    c.from_residual-in_err-ready.ensures.1
    (unready_unserved c.args.serving.limits (g.F.Folder.files c.args.folder.now) c.in_ok-kept.kept c.in_err-ready.field-0.0 c.in_ok-kept.ensures.keeps
    c.in_err-ready.ensures.err)

pub returns-in_err-ready-clause-files : goal.returns-in_err-ready-clause-files
returns-in_err-ready-clause-files g c = c.in_ok-kept.ensures.same

pub returns-in_err-ready-clause-unasked : goal.returns-in_err-ready-clause-unasked
returns-in_err-ready-clause-unasked g c = on_err _ c.from_residual-in_err-ready.result refl

pub returns-in_err-ready-clause-stages : goal.returns-in_err-ready-clause-stages
returns-in_err-ready-clause-stages g c = λ k. refl

pub returns-in_err-ready-clause-folder : goal.returns-in_err-ready-clause-folder
returns-in_err-ready-clause-folder g c =
    let kept = c.in_ok-kept.kept in
    by_error c.in_err-ready.field-0.0 (HasFolderEnd (g.F.Folder.faults c.args.folder.now) (g.F.Folder.faults c.recover_kept.new.folder))
    c.from_residual-in_err-ready.result c.from_residual-in_err-ready.ensures.1
    (unready_folder c.args.serving.limits (plain_contents kept.contents) kept.next _ _ c.in_err-ready.field-0.0 c.in_err-ready.ensures.err
    c.in_ok-kept.ensures.cause)

pub returns-in_err-ready-clause-wire : goal.returns-in_err-ready-clause-wire
returns-in_err-ready-clause-wire g c = none_ok _ _ c.from_residual-in_err-ready.result c.from_residual-in_err-ready.ensures.1

pub returns-in_err-ready-clause-unbound : goal.returns-in_err-ready-clause-unbound
returns-in_err-ready-clause-unbound g c =
    let kept = c.in_ok-kept.kept in
    by_error c.in_err-ready.field-0.0 (HasRefusedWire (g.W.Wire.faults c.args.wire.now) (g.W.Wire.faults c.args.wire.now))
    c.from_residual-in_err-ready.result c.from_residual-in_err-ready.ensures.1
    (unready_wire c.args.serving.limits (plain_contents kept.contents) kept.next _ _ c.in_err-ready.field-0.0 c.in_err-ready.ensures.err refl)

-- NOBODY LISTENS

pub returns-in_err-bind-clause-begun : goal.returns-in_err-bind-clause-begun
returns-in_err-bind-clause-begun g c = no_value _ _ c.from_residual-in_err-bind.result c.from_residual-in_err-bind.ensures.1

pub returns-in_err-bind-clause-refused : goal.returns-in_err-bind-clause-refused
returns-in_err-bind-clause-refused g c =
    let e = c.in_err-bind.field-0.0 in
    by_error (of_wire e) (IsUnserved c.args.serving.limits (g.F.Folder.files c.args.folder.now)) c.from_residual-in_err-bind.result
    c.from_residual-in_err-bind.ensures.1
    (unbound_unserved c.args.serving.limits (g.F.Folder.files c.args.folder.now) c.in_ok-kept.kept e c.in_ok-kept.ensures.keeps)

pub returns-in_err-bind-clause-files : goal.returns-in_err-bind-clause-files
returns-in_err-bind-clause-files g c = c.in_ok-kept.ensures.same

pub returns-in_err-bind-clause-unasked : goal.returns-in_err-bind-clause-unasked
returns-in_err-bind-clause-unasked g c = on_err _ c.from_residual-in_err-bind.result c.in_err-bind.ensures.err

pub returns-in_err-bind-clause-stages : goal.returns-in_err-bind-clause-stages
returns-in_err-bind-clause-stages g c = c.in_err-bind.ensures.stages

pub returns-in_err-bind-clause-folder : goal.returns-in_err-bind-clause-folder
returns-in_err-bind-clause-folder g c =
    by_error (of_wire c.in_err-bind.field-0.0) (HasFolderEnd (g.F.Folder.faults c.args.folder.now) (g.F.Folder.faults c.recover_kept.new.folder))
    c.from_residual-in_err-bind.result c.from_residual-in_err-bind.ensures.1
    (unbound_folder _ _ c.in_err-bind.field-0.0 c.in_ok-kept.ensures.cause)

pub returns-in_err-bind-clause-wire : goal.returns-in_err-bind-clause-wire
returns-in_err-bind-clause-wire g c = none_ok _ _ c.from_residual-in_err-bind.result c.from_residual-in_err-bind.ensures.1

pub returns-in_err-bind-clause-unbound : goal.returns-in_err-bind-clause-unbound
returns-in_err-bind-clause-unbound g c =
    by_error (of_wire c.in_err-bind.field-0.0) (HasRefusedWire (g.W.Wire.faults c.args.wire.now) (g.W.Wire.faults c.bind.new.self))
    c.from_residual-in_err-bind.result c.from_residual-in_err-bind.ensures.1
    (unbound_wire _ _ _ c.in_err-bind.field-0.0 c.in_err-bind.ensures.cause)

-- IT LISTENS

pub returns-clause-begun : goal.returns-clause-begun
returns-clause-begun g c = record {
  kept = c.in_ok-kept.kept;
  recovered = c.in_ok-kept.ensures.keeps;
  ready_is = c.in_ok-ready.ensures.ok;
  binds = c.in_ok-bind.ensures.ok;
}

pub returns-clause-files : goal.returns-clause-files
returns-clause-files g c = c.in_ok-kept.ensures.same

pub returns-clause-stages : goal.returns-clause-stages
returns-clause-stages g c = c.in_ok-bind.ensures.stages

pub returns-clause-wire : goal.returns-clause-wire
returns-clause-wire g c = c.in_ok-bind.ensures.cause.calm
