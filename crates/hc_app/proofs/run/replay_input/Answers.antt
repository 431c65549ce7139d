use Rattle.std.proofs.Common.{refl}
use Rattle.hc_replay.proofs.ReportSteps.{new_moment}
use Rattle.hc_app.specs.Owing.{wanting_all}
use Rattle.hc_app.proofs.{Done.{does_replay, never_wire}, Concluded.{wireless, stream_status}}
use Rattle.hc_app.proofs.run.replay_input.Goals as goal

pub returns-in_default-clause-does : goal.returns-in_default-clause-does
returns-in_default-clause-does g c = wanting_all refl

pub replay-end-requires-clause-later : goal.replay-end-requires-clause-later
replay-end-requires-clause-later g c = new_moment c.in-Ok.cache c.in-Ok.ensures.stands

pub conclude-requires : goal.conclude-requires
conclude-requires g c = record { wireless = never_wire _ _ _ _ _ c.replay-end.ensures.ends }

pub returns-clause-does : goal.returns-clause-does
returns-clause-does g c =
    does_replay c.in-Ok.cache c.in-Ok.ensures.stands c.in-Ok.ensures.limits (λ u. refl) _ _ _ _ _ _ _ _ _ _ _ _ _ c.replay-end.ensures.ends
    c.conclude.ensures c.replay-end.ensures.sink c.replay-end.ensures.sink_calm

pub returns-clause-stream_faults : goal.returns-clause-stream_faults
returns-clause-stream_faults g c =
    stream_status _ _ _ _ _ _ _ _ _ _ c.conclude.ensures c.replay-end.ensures.source c.replay-end.ensures.source_calm c.replay-end.ensures.sink
    c.replay-end.ensures.sink_calm

pub returns-clause-wireless : goal.returns-clause-wireless
returns-clause-wireless g c = wireless _ _ _ _ _ _ c.conclude.ensures
