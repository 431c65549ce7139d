use Rattle.std.proofs.Common.{refl}
use Rattle.hc_app.proofs.{Done.{does_generate, never_read, never_wired}, Concluded.{wireless, stream_status}}
use Rattle.hc_app.proofs.run.write_summary.Goals as goal

pub conclude-requires : goal.conclude-requires
conclude-requires g c = record { wireless = never_wired c.args.seed c.args.count _ _ _ c.generate-end.ensures.ends }

pub returns-clause-does : goal.returns-clause-does
returns-clause-does g c =
    λ left. does_generate c.args.seed c.args.count left _ _ _ _ _ _ _ _ _ _ c.generate-end.ensures.ends c.conclude.ensures c.generate-end.ensures.sink
    c.generate-end.ensures.sink_calm

pub returns-clause-stream_faults : goal.returns-clause-stream_faults
returns-clause-stream_faults g c = λ unread.
    stream_status _ _ _ _ unread unread _ _ _ _ c.conclude.ensures
    (λ is. absurd (never_read c.args.seed c.args.count _ _ _ c.generate-end.ensures.ends is)) (λ off. refl) c.generate-end.ensures.sink
    c.generate-end.ensures.sink_calm

pub returns-clause-wireless : goal.returns-clause-wireless
returns-clause-wireless g c = wireless _ _ _ _ _ _ c.conclude.ensures
