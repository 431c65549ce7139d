use Rattle.std.proofs.Common.{ℕ, List, refl, subst}
use Rattle.hc_io.specs.Sink.{Takes, TakesPrefix}
use Rattle.hc_saving.specs.Saves as saves
use Rattle.hc_saving.proofs.saving.write_left.Goals as goal

pub returns-in_default-clause-writes : goal.returns-in_default-clause-writes
returns-in_default-clause-writes g c = λ h stands count. saves.none refl

pub returns-in-Ok-write_all-clause-writes : goal.returns-in-Ok-write_all-clause-writes
returns-in-Ok-write_all-clause-writes g c =
    λ h stands count. saves.all c.in-Ok.image.items (c.in-Ok.ensures h stands count)
    (subst (λ (l : List ℕ). Takes (g.K.Sink.taken c.args.sink.now) (g.K.Sink.taken c.write_all.new.sink) l) c.as_slice.ensures.value
    c.in-Ok-write_all.ensures.ok)

pub returns-in-Err-SinkFailed-clause-writes : goal.returns-in-Err-SinkFailed-clause-writes
returns-in-Err-SinkFailed-clause-writes g c =
    λ h stands count. saves.part c.in-Ok.image.items (c.in-Ok.ensures h stands count)
    (subst (λ (l : List ℕ). TakesPrefix (g.K.Sink.taken c.args.sink.now) (g.K.Sink.taken c.write_all.new.sink) l) c.as_slice.ensures.value
    c.write_all.ensures.front)

pub returns-clause-writes : goal.returns-clause-writes
returns-clause-writes g c =
    λ h stands count. saves.short c.in-Ok.image.items (c.in-Ok.ensures h stands count)
    (subst (λ (l : List ℕ). TakesPrefix (g.K.Sink.taken c.args.sink.now) (g.K.Sink.taken c.write_all.new.sink) l) c.as_slice.ensures.value
    c.write_all.ensures.front)
