-- What becomes of a piece that the store refuses.
use Rattle.std.specs.Prelude.{◌≡◌, ◌≤◌, ◌<◌, ℕ, ◌+◌, ◌==◌, List, [], ◌∷◌, ◌++◌, length, map, Bool, true, false, Option, Some, None, is_some, is_none, if◌then◌else◌}
use Rattle.hc_rules.specs.declared.room.Limits.{Limits}
use Rattle.hc_store.specs.declared.backend.Backend.{Ghosts}
use Rattle.hc_event.specs.declared.act.Act.{Act}
use Rattle.hc_event.specs.declared.act.Act.TheVariants as act
use Rattle.hc_event.specs.declared.act.LostKind.{LostKind}
use Rattle.hc_event.specs.declared.act.LostKind.TheVariants as kinds
use Rattle.hc_event.specs.declared.event.Event.TheVariants as event
use Rattle.hc_stored.specs.Entries.{shelf_of}
use Rattle.hc_stored.specs.Shelf.{is_kept}
use Rattle.hc_event.specs.declared.place.Place.TheVariants as place
use Rattle.hc_event.specs.declared.place.BoundBy.{BoundBy}
use Rattle.hc_model.specs.Denials.{denial}
use Rattle.hc_model.specs.Effects.{all_closed, with_event, as_gone, let_go, lost_to, unless_reached, with_exchange, with_representation}
use Rattle.hc_model.specs.ExchangeRows.{with_piece}
use Rattle.hc_model.specs.Exchanges.{base, family, front}
use Rattle.hc_model.specs.LettingGo.{MayLetGo}
use Rattle.hc_model.specs.RepresentationRows.{with_stored_bytes}
use Rattle.hc_model.specs.Rows as rows
use Rattle.hc_model.specs.Rows.{Tables, Exchange, Representation}
use Rattle.hc_model.specs.Runs.{may_lose}
use Rattle.hc_model.specs.Weights.{evicted, room_for}
use Rattle.hc_model.specs.Writers.{survivor}
use Rattle.hc_state.specs.declared.rows.Rows.{Rows}
use Rattle.hc_state.specs.Facts.{Facts}
use Rattle.hc_state.specs.DetachedReaders.{MayLoseShared, shared_loss}
use Rattle.hc_state.specs.Room.{GivesWay}
use Rattle.hc_state.specs.Stands.{RowsStand}
use Rattle.hc_state.specs.Stopped.{HoldsNothing}

-- THAT IT IS REFUSED

-- What is idle made room for a piece of x, and the store refused that, for this reason.
pub record Refuses {B : Type 0} {g : Ghosts B} (limits : Limits) (r u : Rows B g) (t : Tables) (now x : ℕ) (bytes : List ℕ)
    (kind : LostKind) (before out : List Act) : Type 0 where
  pub gives : GivesWay limits u t now (evicted limits t now (event.Piece x bytes)) before out
  pub may : may_lose (room_for limits t now (event.Piece x bytes)) kind ≡ true
  pub caused : kind ≡ kinds.Fault → (shelf_of r.entries).faults < (shelf_of u.entries).faults

-- whatever tables the rows stood for
pub record RefusesPiece {B : Type 0} {g : Ghosts B} (r u : Rows B g) (now x q : ℕ) (bytes : List ℕ)
    (kind : LostKind) (before out : List Act) (spare : ℕ) : Type 0 where
  pub refuses : (limits : Limits) (t : Tables) → Facts limits t → RowsStand limits r t →
      denial t (event.Piece x bytes) ≡ None → Refuses limits r u t now x bytes kind before out
  pub there : is_kept (shelf_of u.entries) q ≡ true
  pub exchanges : u.exchanges ≡ r.exchanges
  pub room : 2 ≤ spare

-- WHO GOES ON

-- the detached reader
pub record GoesOn (t : Tables) (x : ℕ) (w : Exchange) (v : Representation) : Type 0 where
  pub c : ℕ
  pub k : rows.Consumer
  pub lo : ℕ
  pub hi : Option ℕ
  pub how : BoundBy
  pub row : t.consumer c ≡ Some k
  pub at : k.place ≡ place.Bound (family x w) lo hi how
  pub alone : v.alone ≡ Some c
  pub own : k.own ≡ Some x

-- what isn't stored of that is held, from where its reader stands on, up to the front of its exchange
pub record MayHold (t : Tables) (x : ℕ) (w : Exchange) (v : Representation) : Type 0 where
  pub on : GoesOn t x w v
  pub lost : v.is_lost ≡ true
  pub gone : v.is_gone ≡ true
  pub unended : w.is_ended ≡ false
  pub within : on.lo + on.k.given ≤ front w
  pub absent : v.stored (front w) ≡ None
  pub reached : (p : ℕ) → v.reach ≤ p → v.stored p ≡ None
  pub brought_some : (p : ℕ) → v.reach ≤ p → p + 1 ≡ front w → length w.body ≡ 0

-- WHAT IT DOES

-- the piece comes, once the loss of r was told: nothing of it is stored
abbrev pub brought_lost : ℕ → ℕ → ℕ → Exchange → List ℕ → Representation → Tables → Tables
brought_lost now r x w bytes v t =
    with_event now (event.Piece x bytes) (record (with_exchange x (Some (with_piece bytes w)) t) {
      representation = λ q. if r == q then Some (with_stored_bytes false (front w) x bytes v) else t.representation q;
    })

-- the tables once r is lost and let go
abbrev pub own_loss : ℕ → ℕ → Representation → Option ℕ → Tables → Tables
own_loss now r v alone t = let_go now r (with_representation r (Some (lost_to alone v)) t)

-- x brings r, which isn't lost
pub record Brings (t : Tables) (r x : ℕ) (w : Exchange) (v : Representation) : Type 0 where
  pub may : MayLetGo t
  pub row : t.exchange x ≡ Some w
  pub opened : w.is_open ≡ true
  pub headed : is_some w.head ≡ true
  pub unended : w.is_ended ≡ false
  pub of_r : family x w ≡ r
  pub there : t.representation r ≡ Some v
  pub kept : v.is_lost ≡ false
  pub nobody : v.alone ≡ None

-- what it takes to lose a piece of who writes alone
pub record MayLoseOwn (t : Tables) (now r x : ℕ) (w : Exchange) (v : Representation) (alone : Option ℕ) :
    Type 0 where
  pub brings : Brings t r x w v
  pub none : HoldsNothing t r v alone
  pub holds : MayHold (own_loss now r v alone t) x w (as_gone (lost_to alone v))

-- and one of what is written for several
pub record MayLosePiece (t : Tables) (now r x : ℕ) (w : Exchange) (v : Representation) : Type 0 where
  pub brings : Brings t r x w v
  pub shared : MayLoseShared t r x v
  pub holds : (d : ℕ) → survivor t r v ≡ Some d →
      MayHold (shared_loss now r x v (Some d) t) x w (as_gone (lost_to (Some d) v))

-- the exchange is closed that the piece leaves open, where nobody goes on
abbrev pub closes_with : Option ℕ → ℕ → List ℕ → Exchange → List ℕ
closes_with detached_reader x bytes w = if is_none detached_reader then unless_reached x bytes w else []

pub record LosesPiece {B : Type 0} {g : Ghosts B} (limits : Limits) (u : Rows B g) (t : Tables) (before out : List Act)
    (now r x : ℕ) (bytes : List ℕ) (w : Exchange) (v : Representation) (kind : LostKind) : Type 0 where
  pub acts : out ≡ before
      ++ (act.Lost r kind ∷ map act.Close (closes_with (survivor t r v) x bytes w))
  pub rows : RowsStand limits u (all_closed (closes_with (survivor t r v) x bytes w)
      (brought_lost now r x w bytes (as_gone (lost_to (survivor t r v) v))
      (shared_loss now r x v (survivor t r v) t)))
