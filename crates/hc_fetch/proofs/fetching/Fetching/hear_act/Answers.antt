use Rattle.std.proofs.Common.{refl}
use Rattle.hc_fetch.proofs.Hearings.{takes_given}
use Rattle.hc_fetch.proofs.fetching.Fetching.hear_act.Goals as goal

pub returns-in_ok-give-in-Given-clause-takes : goal.returns-in_ok-give-in-Given-clause-takes
returns-in_ok-give-in-Given-clause-takes g c =
    rw c.in-Given.is
    (takes_given c.args.self.now _ c.in-Given.c c.in-Given.x c.in-Given.at c.in-Given.bytes c.args.text.now.items c.give.new.text.items
    (record { plan = refl; cache = refl; moment = refl; count = refl; decided = refl }) refl refl
    c.in_ok-give-in-Given.ensures.keeps c.in_ok-give-in-Given.ensures.text)
