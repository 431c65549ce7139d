use Rattle.std.proofs.Common.{refl, subst}
use Rattle.hc_rules.specs.declared.room.Limits.{Limits}
use Rattle.hc_saving.specs.Saves.{Saves}
use Rattle.hc_app.specs.Owing.{wanting_all}
use Rattle.hc_app.proofs.{Saved.{does_save, never_wired}, Concluded.{wireless, stream_status}}
use Rattle.hc_app.proofs.run.save_input.Goals as goal

pub returns-in_default-clause-does : goal.returns-in_default-clause-does
returns-in_default-clause-does g c = wanting_all refl

pub conclude-requires : goal.conclude-requires
conclude-requires g c = record {
  wireless = never_wired _ _ _ _ c.save-end.result
      (subst (λ (l : Limits). Saves l (g.S.Source.left c.args.input.now) (g.S.Source.left c.save-end.new.source) (g.K.Sink.taken c.args.out.now)
      (g.K.Sink.taken c.save-end.new.sink) c.save-end.result) c.in-Ok.ensures.limits c.save-end.ensures.ends);
}

pub returns-clause-does : goal.returns-clause-does
returns-clause-does g c =
    does_save _ _ _ _ _ _ _ _ _ _ c.save-end.result c.conclude.result
    (subst (λ (l : Limits). Saves l (g.S.Source.left c.args.input.now) (g.S.Source.left c.save-end.new.source) (g.K.Sink.taken c.args.out.now)
    (g.K.Sink.taken c.save-end.new.sink) c.save-end.result) c.in-Ok.ensures.limits c.save-end.ensures.ends)
    c.conclude.ensures c.save-end.ensures.sink c.save-end.ensures.sink_calm

pub returns-clause-stream_faults : goal.returns-clause-stream_faults
returns-clause-stream_faults g c =
    stream_status _ _ _ _ _ _ _ _ _ _ c.conclude.ensures c.save-end.ensures.source c.save-end.ensures.source_calm c.save-end.ensures.sink
    c.save-end.ensures.sink_calm

pub returns-clause-wireless : goal.returns-clause-wireless
returns-clause-wireless g c = wireless _ _ _ _ _ _ c.conclude.ensures
