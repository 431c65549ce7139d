use Rattle.hc_origin.proofs.origin.Origin.refuse.Goals as goal

pub returns-in_default-clause-handles : goal.returns-in_default-clause-handles
returns-in_default-clause-handles g c = λ reports log follows leaves. c.close.ensures.goes reports log follows (leaves c.in_default.not-NoMemory)
