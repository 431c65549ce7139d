-- A cache begins with contents, or why none does.
use Rattle.std.specs.Prelude.{◌≡◌, ◌+◌, [], Some, None}
use Rattle.hc_rules.specs.declared.room.Limits.{Limits}
use Rattle.hc_contents.specs.Fit.{unfit_of}
use Rattle.hc_contents.specs.declared.unfit.Unfit.{Unfit}
use Rattle.hc_contents.specs.declared.unfit.Unfit.TheVariants as unfit
use Rattle.hc_model.specs.Entries.{Contents}
use Rattle.hc_store.specs.declared.backend.Backend.{Ghosts}
use Rattle.hc_core.specs.declared.begin.ContentsError.{ContentsError}
use Rattle.hc_core.specs.declared.begin.ContentsError.TheVariants as error
use Rattle.hc_core.specs.declared.cache.Cache.{Cache}
use Rattle.hc_core.specs.Steps.{StandsFor, ServesAll, limits_in, steps, bytes_received}
use Rattle.hc_saving.specs.declared.begin.BeginError.{BeginError}
use Rattle.hc_saving.specs.declared.begin.BeginError.TheVariants as begin

-- it begins with these contents, and is unused
pub record BeginsWith {B : Type 0} {g : Ghosts B} (limits : Limits) (contents : Contents) (cache : Cache B g) : Type 0 where
  pub fits : unfit_of limits contents ≡ None
  pub stands : StandsFor cache contents []
  pub serves : ServesAll cache contents
  pub unused : steps cache + bytes_received cache ≡ 0
  pub limited : limits_in cache ≡ limits

-- or the contents are refused, or memory was
pub data IsUnbegun (limits : Limits) (contents : Contents) : BeginError → Type 0 where
  refused : (why : Unfit) → unfit_of limits contents ≡ Some why → IsUnbegun limits contents (begin.Unfit why)
  lacking : IsUnbegun limits contents begin.NoMemory

-- why none begins
abbrev pub refused_by : ContentsError → BeginError
refused_by (error.BadContent i) = begin.Unfit (unfit.BadContent i)
refused_by error.Full = begin.Unfit unfit.Full
refused_by error.Fault = begin.NoMemory
refused_by error.NoMemory = begin.NoMemory
