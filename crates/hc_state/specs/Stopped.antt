-- An exchange stops: what that takes, and what becomes of what it brought.
use Rattle.std.specs.Prelude.{◌≡◌, ◌<◌, ℕ, List, [], ◌∷◌, ◌++◌, Bool, true, false, Option, Some, None, is_some, option_map, if◌then◌else◌, ◌==◌}
use Rattle.hc_rules.specs.declared.room.Limits.{Limits}
use Rattle.hc_store.specs.declared.backend.Backend.{Ghosts}
use Rattle.hc_event.specs.declared.act.Act.{Act}
use Rattle.hc_event.specs.declared.act.Act.TheVariants as act
use Rattle.hc_event.specs.declared.act.Cause.{Cause}
use Rattle.hc_event.specs.declared.act.LostKind.TheVariants as kind
use Rattle.hc_record.specs.declared.kind.Kind.TheVariants as kinds
use Rattle.hc_stored.specs.Entries.{shelf_of}
use Rattle.hc_stored.specs.Kept as entry
use Rattle.hc_stored.specs.Shelf.{Becomes, same_order}
use Rattle.hc_event.specs.declared.place.Place.TheVariants as place
use Rattle.hc_event.specs.declared.place.BoundBy.TheVariants as by
use Rattle.hc_model.specs.Effects.{tables_after_close, failing, going_with, let_go, let_some_go, lost_to, with_representation}
use Rattle.hc_model.specs.Exchanges.{family, promised_bytes, is_headless}
use Rattle.hc_model.specs.LettingGo.{MayLetGo}
use Rattle.hc_model.specs.Reading.{is_bound, is_written}
use Rattle.hc_model.specs.Rows.{Tables, Exchange, Representation, Consumer}
use Rattle.hc_model.specs.Writers.{exclusive}
use Rattle.hc_state.specs.declared.rows.Rows.{Rows}
use Rattle.hc_state.specs.Kept.{held_alone}
use Rattle.hc_state.specs.Stands.{RowsStand}

-- the same tables, with these consumers
abbrev pub with_consumers : (ℕ → Option Consumer) → Tables → Tables
with_consumers f t = record t { consumer = f }

-- these fail, where nothing else is due to them
abbrev pub due_for : Tables → (ℕ → Bool) → Cause → ℕ → Option Consumer
due_for t among why d =
    if among d then option_map (failing (Some why)) (t.consumer d) else t.consumer d

-- WHAT IT TAKES

-- nobody is bound by a first hole for whose head it waits
abbrev pub NobodyAwaits : Tables → ℕ → Type 0
NobodyAwaits t x =
    (d r lo : ℕ) (hi : Option ℕ) (k : Consumer) → t.consumer d ≡ Some k →
    k.place ≡ place.Bound r lo hi (by.FirstHole x) → is_headless (t.exchange x) ≡ false

-- nothing is held of what comes of r, for who goes on with it
abbrev pub HoldsNothing : Tables → ℕ → Representation → Option ℕ → Type 0
HoldsNothing t r v alone =
    (y : ℕ) (w : Exchange) → t.exchange y ≡ Some w → family y w ≡ r →
    held_alone t y w v alone ≡ []

-- x is open and may be closed, with these consumers; where what it brought is lost, this one goes on
-- with it, and all that came is stored
pub record MayStop (t : Tables) (f : ℕ → Option Consumer) (x : ℕ) (alone : Option ℕ) :
    Type 0 where
  pub w : Exchange
  pub row : t.exchange x ≡ Some w
  pub is_open : w.is_open ≡ true
  pub may : MayLetGo (with_consumers f t)
  pub unawaited : NobodyAwaits (with_consumers f t) x
  pub writes : (v : Representation) → is_some w.head ≡ true →
      t.representation (family x w) ≡ Some v → v.is_lost ≡ false →
      alone ≡ exclusive t (family x w) v
  pub stored : (v : Representation) → is_some w.head ≡ true →
      t.representation (family x w) ≡ Some v → v.is_lost ≡ false →
      HoldsNothing (with_consumers f t) (family x w) v alone

-- WHAT BECOMES OF WHAT IT BROUGHT

-- it is to be sealed: it isn't gone, and is kept
pub record IsSealed (t : Tables) (x : ℕ) : Type 0 where
  pub w : Exchange
  pub r : ℕ
  pub v : Representation
  pub row : t.exchange x ≡ Some w
  pub of_r : family x w ≡ r
  pub there : t.representation r ≡ Some v
  pub stays : v.is_gone ≡ false
  pub kept : going_with t (Some x) ≡ None

-- its seal failed: it is lost, and let go
pub record SealFailed {B : Type 0} {g : Ghosts B} (limits : Limits) (faults : ℕ) (u : Rows B g)
    (t : Tables) (f : ℕ → Option Consumer) (before out : List Act) (now x : ℕ) : Type 0 where
  pub sealed : IsSealed t x
  pub acts : out ≡ before ++ (act.Lost sealed.r kind.Fault ∷ [])
  pub failed : faults < (shelf_of u.entries).faults
  pub rows : RowsStand limits u (let_go now sealed.r
      (with_representation sealed.r
      (Some (lost_to (exclusive t sealed.r sealed.v) sealed.v))
      (tables_after_close x (with_consumers f t))))

-- x is closed, and what it brought is sealed or let go
pub data HasStopped {B : Type 0} {g : Ghosts B} (limits : Limits) (faults : ℕ) (u : Rows B g)
    (t : Tables) (f : ℕ → Option Consumer) (before out : List Act) (now x : ℕ) : Type 0 where
  quietly : out ≡ before →
      RowsStand limits u (let_some_go now (going_with t (Some x)) (tables_after_close x (with_consumers f t))) →
      HasStopped limits faults u t f before out now x
  unsealed : SealFailed limits faults u t f before out now x → HasStopped limits faults u t f before out now x

-- WHERE IT BREAKS OFF

-- it is open, and before its head its consumer was shown one
pub record IsBroken (t : Tables) (x : ℕ) (w : Exchange) : Type 0 where
  pub row : t.exchange x ≡ Some w
  pub is_open : w.is_open ≡ true
  pub shown : w.head ≡ None → (k : Consumer) → t.consumer w.c ≡ Some k → k.shown ≡ true

-- whose own it is: past the store, of the consumer for which it was opened
pub data IsOwn (t : Tables) (x c : ℕ) (w : Exchange) : Type 0 where
  past : t.representation (family x w) ≡ None → c ≡ w.c → IsOwn t x c w
  brings : (k : Consumer) (v : Representation) → t.representation (family x w) ≡ Some v →
      t.consumer c ≡ Some k → k.own ≡ Some x → IsOwn t x c w

-- to whoever reads from it the failure is due, and it has stopped
pub data BrokeOff {B : Type 0} {g : Ghosts B} (limits : Limits) (faults : ℕ) (u : Rows B g) (t : Tables)
    (before out : List Act) (now x : ℕ) (w : Exchange) (why : Cause) : Type 0 where
  own : (c : ℕ) → IsOwn t x c w →
      HasStopped limits faults u t (due_for t (λ d. c == d) why) before out now x →
      BrokeOff limits faults u t before out now x w why
  shared : (v : Representation) → t.representation (family x w) ≡ Some v →
      is_written t v ≡ true → v.writer ≡ Some x →
      HasStopped limits faults u t (due_for t (λ d. is_bound (family x w) (t.consumer d)) why)
      before out now x →
      BrokeOff limits faults u t before out now x w why

-- c, which was shown nothing, waits for its head
pub record Waited (t : Tables) (x c : ℕ) (w : Exchange) (k : Consumer) : Type 0 where
  pub row : t.exchange x ≡ Some w
  pub is_open : w.is_open ≡ true
  pub bare : w.head ≡ None
  pub for_it : w.c ≡ c
  pub consumer : t.consumer c ≡ Some k
  pub unshown : k.shown ≡ false

-- WHERE IT ENDS, AND TOLD NO LENGTH

-- x is open, and its head told no length
pub record ReportsNoLength (t : Tables) (x : ℕ) : Type 0 where
  pub w : Exchange
  pub row : t.exchange x ≡ Some w
  pub unreported : promised_bytes w ≡ None

-- all but representations stays
pub record KeepsBesideEntries {B : Type 0} {g : Ghosts B} (r u : Rows B g) : Type 0 where
  pub last_start : u.last_start ≡ r.last_start
  pub consumers : u.consumers ≡ r.consumers
  pub exchanges : u.exchanges ≡ r.exchanges
  pub keys : u.keys ≡ r.keys

-- what is stored is gone, or sealed as whole and so long, or lost and let go
pub data SealedWhole {B : Type 0} {g : Ghosts B} (limits : Limits) (faults : ℕ) (r u : Rows B g)
    (t : Tables) (before out : List Act) (now q : ℕ) (v : Representation) (n : ℕ) : Type 0 where
  gone : v.is_gone ≡ true → out ≡ before → u ≡ r →
      SealedWhole limits faults r u t before out now q v n
  sealed : v.is_gone ≡ false → out ≡ before → KeepsBesideEntries r u →
      Becomes (option_map (entry.sealed_kept kinds.Whole (Some n))) same_order q
      (shelf_of r.entries) (shelf_of u.entries) →
      SealedWhole limits faults r u t before out now q v n
  lost : v.is_gone ≡ false → out ≡ before ++ (act.Lost q kind.Fault ∷ []) →
      faults < (shelf_of u.entries).faults →
      RowsStand limits u (let_go now q (with_representation q (Some (lost_to None v)) t)) →
      SealedWhole limits faults r u t before out now q v n
