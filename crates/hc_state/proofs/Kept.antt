-- No more are kept than may be live.
use Rattle.std.{proofs.Common.{◌+◌, ◌<◌, arith}, specs.HashMap.{hash_map_len}}
use Rattle.hc_store.specs.declared.backend.Backend.{Ghosts}
use Rattle.hc_effects.proofs.Vocabulary.{most_live}
use Rattle.hc_state.specs.{declared.rows.Rows.{Rows}, Stands.{Stands}}
use Rattle.hc_state.proofs.Maps.{merely_below}

pub few_kept : {B : Type 0} {g : Ghosts B} (r : Rows B g) → ∥ Stands r ∥₁ → hash_map_len r.consumers < most_live + 1
few_kept r some = merely_below (hash_map_len r.consumers) (most_live + 1) some
    (λ s. (let few = s.facts.live.few in let count = s.rows.count in omega (arith, few, count)))
