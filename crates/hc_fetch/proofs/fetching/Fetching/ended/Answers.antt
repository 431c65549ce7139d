use Rattle.std.proofs.Common.{ap, sym, ◌∙◌, true, false}
use Rattle.hc_fetch.specs.declared.ended.FetchEnded.TheVariants as ended
use Rattle.hc_fetch.proofs.Fitted.{ended_so}
use Rattle.hc_fetch.proofs.fetching.Fetching.ended.Goals as goal

pub returns-then-is_done-clause-ended : goal.returns-then-is_done-clause-ended
returns-then-is_done-clause-ended g c = λ f stand. ap ended.Done c.written-written.ensures ∙ ended_so c.args.self.now f true stand (sym c.if-is_done.true ∙ c.is_done.ensures)

pub returns-else-is_done-clause-ended : goal.returns-else-is_done-clause-ended
returns-else-is_done-clause-ended g c = λ f stand. ap ended.Unfinished c.written-written.ensures ∙
    ended_so c.args.self.now f false stand (sym c.if-is_done.false ∙ c.is_done.ensures)
