use Rattle.std.proofs.Common.{refl, ◌∙◌, arith}
use Rattle.hc_replay.proofs.ReportSteps.{new_moment}
use Rattle.hc_model.specs.Entries.{no_contents}
use Rattle.hc_app.specs.Owing.{wanting_all}
use Rattle.hc_app.proofs.{Done.{never_wire}, Fronted.{does_front}, Concluded.{wireless, stream_status}}
use Rattle.hc_app.proofs.run.front_input.Goals as goal

pub returns-in_default-clause-does : goal.returns-in_default-clause-does
returns-in_default-clause-does g c = wanting_all refl

pub replay_front-end-requires-clause-later : goal.replay_front-end-requires-clause-later
replay_front-end-requires-clause-later g c =
    let at = c.new-front.ensures.moment in
    let early = new_moment c.in-Ok.cache c.in-Ok.ensures.stands in
    omega (arith, at, early)

pub conclude-requires : goal.conclude-requires
conclude-requires g c = record { wireless = never_wire _ _ _ _ _ c.replay_front-end.ensures.ends }

pub returns-clause-does : goal.returns-clause-does
returns-clause-does g c =
    does_front c.new-front.result (c.new-front.ensures.stands no_contents c.in-Ok.ensures.stands) (c.new-front.ensures.limits ∙ c.in-Ok.ensures.limits)
    (λ u. refl) _ _ _ _ _ _ _ _ _ _ _ _ _
    c.replay_front-end.ensures.ends c.conclude.ensures c.replay_front-end.ensures.sink c.replay_front-end.ensures.sink_calm

pub returns-clause-stream_faults : goal.returns-clause-stream_faults
returns-clause-stream_faults g c =
    stream_status _ _ _ _ _ _ _ _ _ _ c.conclude.ensures c.replay_front-end.ensures.source c.replay_front-end.ensures.source_calm
    c.replay_front-end.ensures.sink c.replay_front-end.ensures.sink_calm

pub returns-clause-wireless : goal.returns-clause-wireless
returns-clause-wireless g c = wireless _ _ _ _ _ _ c.conclude.ensures
