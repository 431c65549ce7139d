use Rattle.std.proofs.Common.{sym, ap, ◌∙◌}
use Rattle.hc_sched.specs.Feeding.{progress_of}
use Rattle.hc_sched.proofs.FeedLemmas.{feeds_again, answers_again}
use Rattle.hc_sched.proofs.feed.Feed.feed.Goals as goal

pub returns-in-Some-clause-feeds : goal.returns-in-Some-clause-feeds
returns-in-Some-clause-feeds c =
    feeds_again c.in-Some.e c.self.inside.reader c.args.self.now c.args.piece.now c.args.out.now.items
    (ap (λ o. progress_of o c.self.inside.reader) (sym c.in-Some.is) ∙ c.self.view_is)

pub returns-in-Some-clause-again : goal.returns-in-Some-clause-again
returns-in-Some-clause-again c =
    answers_again c.in-Some.e c.self.inside.reader c.args.self.now
    (ap (λ o. progress_of o c.self.inside.reader) (sym c.in-Some.is) ∙ c.self.view_is)
