use Rattle.std.proofs.Common.{refl, subst}
use Rattle.hc_rules.specs.declared.room.Limits.{Limits}
use Rattle.hc_fetch.specs.Endings.{Fetches}
use Rattle.hc_app.specs.Owing.{wanting_all}
use Rattle.hc_app.proofs.Fetched.{does_fetch, stream_status, wireless}
use Rattle.hc_app.proofs.fetching.fetch_input.Goals as goal

pub returns-in_default-clause-does : goal.returns-in_default-clause-does
returns-in_default-clause-does g c = wanting_all refl

pub returns-clause-does : goal.returns-clause-does
returns-clause-does g c =
    does_fetch c.args.plan _ _ _ _ _ _ _ _ _ _ c.fetch-end.result c.conclude_fetch.result
    (subst (λ (l : Limits). Fetches l c.args.plan (g.S.Source.left c.args.input.now) (g.S.Source.left c.fetch-end.new.turns)
    (g.K.Sink.taken c.args.out.now) (g.K.Sink.taken c.fetch-end.new.sink) c.fetch-end.result) c.in-Ok.ensures.limits (c.fetch-end.ensures.ends (λ a b. refl)))
    c.conclude_fetch.ensures c.fetch-end.ensures.sink c.fetch-end.ensures.sink_calm

pub returns-clause-stream_faults : goal.returns-clause-stream_faults
returns-clause-stream_faults g c =
    stream_status _ _ _ _ _ _ _ _ _ _ c.conclude_fetch.ensures c.fetch-end.ensures.source c.fetch-end.ensures.source_calm c.fetch-end.ensures.sink
    c.fetch-end.ensures.sink_calm

pub returns-clause-wireless : goal.returns-clause-wireless
returns-clause-wireless g c = wireless _ _ _ _ _ _ c.conclude_fetch.ensures
