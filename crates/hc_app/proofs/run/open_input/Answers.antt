use Rattle.hc_app.proofs.Opened.{does_open, never_wired, wireless, stream_status}
use Rattle.hc_app.proofs.run.open_input.Goals as goal

pub conclude_open-requires : goal.conclude_open-requires
conclude_open-requires g c = record { wireless = never_wired _ _ _ _ c.reopen-end.result c.reopen-end.ensures.ends }

pub returns-clause-does : goal.returns-clause-does
returns-clause-does g c =
    does_open _ _ _ _ _ _ _ _ _ _ c.reopen-end.result c.conclude_open.result c.reopen-end.ensures.ends c.conclude_open.ensures c.reopen-end.ensures.sink
    c.reopen-end.ensures.sink_calm

pub returns-clause-stream_faults : goal.returns-clause-stream_faults
returns-clause-stream_faults g c =
    stream_status _ _ _ _ _ _ _ _ _ _ c.conclude_open.ensures c.reopen-end.ensures.source c.reopen-end.ensures.source_calm c.reopen-end.ensures.sink
    c.reopen-end.ensures.sink_calm

pub returns-clause-wireless : goal.returns-clause-wireless
returns-clause-wireless g c = wireless _ _ _ _ _ _ c.conclude_open.ensures
