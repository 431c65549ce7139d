use Rattle.hc_rules.proofs.RoomLaws.{shortest}
use Rattle.hc_rules.proofs.laws.shortest_gives_way.Goals as goal

pub returns : goal.returns
returns c = shortest
