use Rattle.std.proofs.Common.{refl}
use Rattle.hc_saving.specs.Recovers.{bytes_of}
use Rattle.hc_saving.proofs.{Causes.{is_fault, unread_calm}, Recovered.{always_taken, unread_ends}}
use Rattle.hc_saving.proofs.recovering.recover.Goals as goal

pub returns-in_err-contents-clause-recovers : goal.returns-in_err-contents-clause-recovers
returns-in_err-contents-clause-recovers g c =
    unread_ends c.args.limits (bytes_of c.args.image) (g.S.Source.left c.args.behind.now) c.from_residual.result c.in_err-contents.field-0.0
    c.from_residual.ensures.1 c.in_err-contents.ensures.none

pub returns-in_err-contents-clause-taken : goal.returns-in_err-contents-clause-taken
returns-in_err-contents-clause-taken g c =
    always_taken c.args.limits (bytes_of c.args.image) (g.S.Source.left c.args.behind.now) (g.S.Source.left c.args.behind.now) c.from_residual.result
    (returns-in_err-contents-clause-recovers g c)

pub returns-in_err-contents-clause-source : goal.returns-in_err-contents-clause-source
returns-in_err-contents-clause-source g c = λ failed.
    let e = c.in_err-contents.field-0.0 in
    absurd (unread_calm (bytes_of c.args.image) e c.in_err-contents.ensures.none (is_fault e c.from_residual.result c.from_residual.ensures.1 failed))

pub returns-in_err-contents-clause-source_calm : goal.returns-in_err-contents-clause-source_calm
returns-in_err-contents-clause-source_calm g c = λ calm. refl

pub returns-clause-recovers : goal.returns-clause-recovers
returns-clause-recovers g c = c.recover_from.ensures.recovers (bytes_of c.args.image) c.in_ok-contents.ensures.found

pub returns-clause-taken : goal.returns-clause-taken
returns-clause-taken g c =
    always_taken c.args.limits (bytes_of c.args.image) (g.S.Source.left c.args.behind.now) (g.S.Source.left c.recover_from.new.behind)
    c.recover_from.result (returns-clause-recovers g c)

pub returns-clause-source : goal.returns-clause-source
returns-clause-source g c = c.recover_from.ensures.source

pub returns-clause-source_calm : goal.returns-clause-source_calm
returns-clause-source_calm g c = c.recover_from.ensures.source_calm
