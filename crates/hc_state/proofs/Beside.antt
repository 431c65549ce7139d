-- What most handlers leave as it is: the last start and the representations.
use Rattle.std.proofs.Common.{◌≡◌, ◌∙◌}
use Rattle.hc_store.specs.declared.backend.Backend.{Ghosts}
use Rattle.hc_state.specs.declared.rows.Rows.{Rows}

pub record Beside {B : Type 0} {g : Ghosts B} (r u : Rows B g) : Type 0 where
  pub last_start : u.last_start ≡ r.last_start
  pub entries : u.entries ≡ r.entries
