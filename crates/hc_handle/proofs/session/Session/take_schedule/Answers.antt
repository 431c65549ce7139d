use Rattle.std.proofs.Common.{sym, ◌∙◌}
use Rattle.hc_handle.proofs.TextPieces.{may_some}
use Rattle.hc_handle.proofs.session.Session.take_schedule.Goals as goal

pub returns-in-Some-clause-may : goal.returns-in-Some-clause-may
returns-in-Some-clause-may c =
    may_some c.args.self.now.schedule c.in-Some.schedule _ _ _ c.args.self.now.spent (sym c.take.ensures.value ∙ c.in-Some.is) c.requires.ready
    c.args.self.now.goes_on
