-- What a cache stands for once all who were live have left.
use Rattle.std.specs.Prelude.{◌≡◌, ◌+◌, length}
use Rattle.hc_model.specs.Denials.{live}
use Rattle.hc_model.specs.Entries.{History, Contents}
use Rattle.hc_store.specs.declared.backend.Backend.{Ghosts}
use Rattle.hc_core.specs.declared.cache.Cache.{Cache}
use Rattle.hc_core.specs.Steps.{StandsFor, limits_in, steps}
use Rattle.hc_saving.specs.Leaving.{AllLeave}

-- the cache stands for some history
pub record StandsForAny {B : Type 0} {g : Ghosts B} (s : Cache B g) : Type 0 where
  pub contents : Contents
  pub h : History
  pub stands : StandsFor s contents h

-- All who were live behind a history have left, each by a step, and the cache stands for that.
pub record HasLeft {B : Type 0} {g : Ghosts B} (s u : Cache B g) (contents : Contents) (h : History) : Type 0 where
  pub left : History
  pub leave : AllLeave (limits_in s) contents h left
  pub stands : StandsFor u contents left
  pub number : steps u + length h ≡ steps s + length left
