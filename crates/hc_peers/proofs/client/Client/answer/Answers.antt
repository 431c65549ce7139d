use Rattle.hc_peers.proofs.client.Client.answer.Goals as goal

pub returns-in-Shown-clause-ok : goal.returns-in-Shown-clause-ok
returns-in-Shown-clause-ok c =
    let v = c.in-Shown in
    rw v.is (c.show.ensures.ok v.c v.r v.why v.lo v.hi)

pub returns-in-Given-clause-ok : goal.returns-in-Given-clause-ok
returns-in-Given-clause-ok c = let v = c.in-Given in rw v.is (c.give.ensures.ok v.c v.x v.at)

pub returns-in-Ended-clause-ok : goal.returns-in-Ended-clause-ok
returns-in-Ended-clause-ok c = rw c.in-Ended.is (c.end.ensures.ok c.in-Ended.c)

pub returns-in-Failed-clause-ok : goal.returns-in-Failed-clause-ok
returns-in-Failed-clause-ok c = rw c.in-Failed.is (c.fail.ensures.ok c.in-Failed.c)
