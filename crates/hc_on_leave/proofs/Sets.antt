-- Lists of acts are a set: of what is merely there, they tell what is.
use Rattle.std.proofs.{Common.{List}, Props.{props}}
use Rattle.hc_effects.proofs.Vocabulary.{Act}

pub acts_set : IsSet (List Act)
acts_set = Prim.hlevel props
