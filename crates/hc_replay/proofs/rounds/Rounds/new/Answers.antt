use Rattle.hc_replay.proofs.GoneOn.{stands_new}
use Rattle.hc_replay.proofs.rounds.Rounds.new.Goals as goal

pub returns : goal.returns
returns c = stands_new c.args.limits c.args.seed _ c.in_ok-new.ensures.stands c.in_ok-new.ensures.unused c.in_ok-new.ensures.limits c.new-3.ensures
