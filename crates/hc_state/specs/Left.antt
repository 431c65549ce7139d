-- What is told of a consumer that leaves, and the tables for which the rows stand then.
use Rattle.std.specs.Prelude.{◌≡◌, ◌<◌, ℕ, List, [], ◌∷◌, ◌++◌, map, Some}
use Rattle.hc_rules.specs.declared.room.Limits.{Limits}
use Rattle.hc_store.specs.declared.backend.Backend.{Ghosts}
use Rattle.hc_event.specs.declared.act.Act.{Act}
use Rattle.hc_event.specs.declared.act.Act.TheVariants as act
use Rattle.hc_event.specs.declared.act.LostKind.TheVariants as kind
use Rattle.hc_stored.specs.Entries.{shelf_of}
use Rattle.hc_model.specs.Effects.{left_by, going_with, with_leave, with_representation, let_go, let_some_go, lost_to}
use Rattle.hc_model.specs.Rows.{Tables, Consumer}
use Rattle.hc_model.specs.Tables.{with_item_first}
use Rattle.hc_model.specs.Writers.{exclusive}
use Rattle.hc_state.specs.declared.rows.Rows.{Rows}
use Rattle.hc_state.specs.Stands.{RowsStand}
use Rattle.hc_state.specs.Stopped.{IsSealed}

-- the seal of what c leaves failed: it is lost, and let go
pub record LeftUnsealed {B : Type 0} {g : Ghosts B} (limits : Limits) (faults : ℕ) (u : Rows B g) (t : Tables)
    (before out : List Act) (now c : ℕ) (k : Consumer) : Type 0 where
  pub x : ℕ
  pub left : left_by t c k ≡ Some x
  pub sealed : IsSealed t x
  pub acts : out ≡ before ++ (act.Close x ∷ act.Lost sealed.r kind.Fault ∷ [])
  pub failed : faults < (shelf_of u.entries).faults
  pub rows : RowsStand limits u (let_go now sealed.r
      (with_representation sealed.r
      (Some (lost_to (exclusive t sealed.r sealed.v) sealed.v)) (with_leave c k t)))

-- c left: what only it read is closed, and sealed or let go
pub data HasLeft {B : Type 0} {g : Ghosts B} (limits : Limits) (faults : ℕ) (u : Rows B g) (t : Tables)
    (before out : List Act) (now c : ℕ) (k : Consumer) : Type 0 where
  quietly : out ≡ before ++ map act.Close (with_item_first (left_by t c k) []) →
      RowsStand limits u (let_some_go now (going_with t (left_by t c k)) (with_leave c k t)) →
      HasLeft limits faults u t before out now c k
  unsealed : LeftUnsealed limits faults u t before out now c k → HasLeft limits faults u t before out now c k
