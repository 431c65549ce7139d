-- As what consumers are bound to a representation, and what a consumer decides that sees it as current.
use Rattle.std.specs.Prelude.{◌≡◌, ℕ, Bool, false, Option, Some, is_some, if◌then◌else◌}
use Rattle.hc_rules.specs.declared.admission.BoundKind.{BoundKind}
use Rattle.hc_rules.specs.declared.admission.BoundKind.TheVariants as kind
use Rattle.hc_rules.specs.declared.plan.Plan.{Plan}
use Rattle.hc_rules.specs.declared.room.Limits.{Limits}
use Rattle.hc_rules.specs.Plans.{plan_of}
use Rattle.hc_store.specs.declared.backend.Backend.{Ghosts}
use Rattle.hc_model.specs.Planning.{candidate}
use Rattle.hc_model.specs.Reading.{is_written}
use Rattle.hc_model.specs.Rows as rows
use Rattle.hc_model.specs.Rows.{Tables, Representation}
use Rattle.hc_model.specs.Writers.{exclusive, has_more}
use Rattle.hc_txn.specs.declared.transaction.Transaction.{Transaction as Consumer}
use Rattle.hc_txn.specs.Plans.{plan_view_by}
use Rattle.hc_state.specs.declared.rows.Rows.{Rows}
use Rattle.hc_state.specs.Facts.{Facts}
use Rattle.hc_state.specs.Kept.{IsKept}
use Rattle.hc_state.specs.Stands.{RowsStand}

-- whether the consumer has more to come of q, until that is lost
abbrev pub HasMoreIs : {B : Type 0} {g : Ghosts B} → Rows B g → ℕ → Consumer → Bool → Type 0
HasMoreIs r q k more =
    (limits : Limits) (t : Tables) (v : rows.Consumer) (p : Representation) → Facts limits t → RowsStand limits r t →
    IsKept t k v → t.representation q ≡ Some p → p.is_lost ≡ false → more ≡ has_more t p v

-- who writes q alone, until that is lost
abbrev pub ExclusiveIs : {B : Type 0} {g : Ghosts B} → Rows B g → ℕ → Option ℕ → Type 0
ExclusiveIs r q writer =
    (limits : Limits) (t : Tables) (p : Representation) → Facts limits t → RowsStand limits r t →
    t.representation q ≡ Some p → p.is_lost ≡ false → writer ≡ exclusive t q p

-- as what all are bound to q
abbrev pub kind_in : Tables → ℕ → Representation → BoundKind
kind_in t q p =
    if is_written t p then kind.Shared
    else if is_some (exclusive t q p) then kind.Exclusive
    else kind.Reader

-- until that is lost
abbrev pub KindIs : {B : Type 0} {g : Ghosts B} → Rows B g → ℕ → BoundKind → Type 0
KindIs r q k =
    (limits : Limits) (t : Tables) (p : Representation) → Facts limits t → RowsStand limits r t →
    t.representation q ≡ Some p → p.is_lost ≡ false → k ≡ kind_in t q p

-- What the consumer decides, with its turn told so, where q is current for its key: the plan that sees q as the tables have it.
abbrev pub DecidesOn : {B : Type 0} {g : Ghosts B} → Rows B g → ℕ → ℕ → ℕ → ℕ → Plan → Consumer → Type 0
DecidesOn r now c turn q plan k =
    (limits : Limits) (t : Tables) (v : rows.Consumer) (p : Representation) → Facts limits t → RowsStand limits r t →
    t.consumer c ≡ Some v → t.representation q ≡ Some p →
    plan ≡ plan_of (plan_view_by now c turn (candidate t now q v.request p) k)
