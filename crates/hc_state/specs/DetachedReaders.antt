-- What is lost while several read it together: who goes on with it, and what becomes of the others.
use Rattle.std.specs.Prelude.{◌≡◌, ◌<◌, ℕ, ◌+◌, ◌==◌, List, ◌∷◌, ◌++◌, map, Bool, true, false, Option, Some, None, is_some, filter, option_map, if◌then◌else◌, nat_eq}
use Rattle.std.specs.HashMap.{get, hash_map_len}
use Rattle.hc_rules.specs.declared.room.Limits.{Limits}
use Rattle.hc_store.specs.declared.backend.Backend.{Ghosts}
use Rattle.hc_event.specs.declared.act.Act.{Act}
use Rattle.hc_event.specs.declared.act.Act.TheVariants as act
use Rattle.hc_event.specs.declared.act.Cause.{Cause}
use Rattle.hc_event.specs.declared.act.LostKind.{LostKind}
use Rattle.hc_event.specs.declared.event.Event.TheVariants as event
use Rattle.hc_event.specs.declared.event.Response.{Response}
use Rattle.hc_stored.specs.Entries.{shelf_of}
use Rattle.hc_stored.specs.Kept.{Kept}
use Rattle.hc_rules.specs.declared.heads.HeadCase.TheVariants as heads
use Rattle.hc_rules.specs.HeadCases.{head_case}
use Rattle.hc_rules.specs.Admissions.{least}
use Rattle.hc_model.specs.Cases.{head_view}
use Rattle.hc_model.specs.Currents.{current, is_number}
use Rattle.hc_model.specs.Denials.{denial}
use Rattle.hc_model.specs.Effects.{all_closed, let_go, lost_to, unless_survived, with_representation, group_lost}
use Rattle.hc_model.specs.Exchanges.{family, front}
use Rattle.hc_model.specs.LettingGo.{MayLetGo}
use Rattle.hc_model.specs.Rows.{Tables, Exchange, Representation}
use Rattle.hc_model.specs.Writers.{survivor}
use Rattle.hc_txn.specs.declared.transaction.Transaction.{Transaction as Consumer}
use Rattle.hc_state.specs.declared.rows.Rows.{Rows}
use Rattle.hc_state.specs.Changes.{Numbered}
use Rattle.hc_txn.specs.Transactions.{with_due, with_own}
use Rattle.hc_state.specs.Facts.{Facts}
use Rattle.hc_state.specs.Stands.{Answered, RowsStand}

-- WHAT BECOMES OF THEM

-- the detached reader has the exchange for its own, and to each other this failure is due
abbrev pub after_parting : Option ℕ → ℕ → Cause → ℕ → Consumer → Consumer
after_parting detached_reader x why c k = if is_number detached_reader c then with_own x k else with_due why k

-- each of these changes by its number, every other is as it was, and the count stays
pub record ChangesEach {A : Type 0} (old new : Numbered A) (among : ℕ → Bool)
    (change : ℕ → A → A) : Type 0 where
  pub places : (d : ℕ) →
      get nat_eq new d
      ≡ (if among d then option_map (change d) (get nat_eq old d) else get nat_eq old d)
  pub len : hash_map_len new ≡ hash_map_len old

-- WHAT IT TAKES

-- r isn't lost, and all that x, which writes it for several, brought is stored
pub record MayLoseShared (t : Tables) (r x : ℕ) (v : Representation) : Type 0 where
  pub may : MayLetGo t
  pub there : t.representation r ≡ Some v
  pub kept : v.is_lost ≡ false
  pub nobody : v.alone ≡ None
  pub w : Exchange
  pub row : t.exchange x ≡ Some w
  pub opened : w.is_open ≡ true
  pub headed : is_some w.head ≡ true
  pub writes : v.writer ≡ Some x
  pub of_r : family x w ≡ r
  pub front_is : front w ≡ v.reach

-- WHAT IT DOES

-- the tables once that is lost and let go: the survivor goes on with x, the others fail
abbrev pub shared_loss : ℕ → ℕ → ℕ → Representation → Option ℕ → Tables → Tables
shared_loss now r x v detached_reader t =
    let_go now r (with_representation r (Some (lost_to detached_reader v)) (group_lost r detached_reader (Some x) t))

pub record LosesShared {B : Type 0} {g : Ghosts B} (limits : Limits) (u : Rows B g) (t : Tables) (now r x : ℕ)
    (v : Representation) (detached_reader : Option ℕ) : Type 0 where
  pub detached_reader_is : detached_reader ≡ survivor t r v
  pub rows : RowsStand limits u (shared_loss now r x v detached_reader t)

-- and x is closed, where nobody goes on with it
pub record LosesGroup {B : Type 0} {g : Ghosts B} (limits : Limits) (u : Rows B g) (t : Tables)
    (before out : List Act) (now r x : ℕ) (v : Representation) (kind : LostKind) : Type 0 where
  pub acts : out ≡ before
      ++ (act.Lost r kind ∷ map act.Close (unless_survived (survivor t r v) (Some x)))
  pub rows : RowsStand limits u (all_closed (unless_survived (survivor t r v) (Some x))
      (shared_loss now r x v (survivor t r v) t))

-- WHERE A 304 MAY BE ABOUT IT

-- a 304 of x, which may be about r, is answered where r can't be read or updated: the store has
-- failed more often than this
abbrev pub AnswersLosing : {B : Type 0} {g : Ghosts B} → Rows B g → Rows B g → List Act → List Act → ℕ → ℕ → ℕ → ℕ → Response → Type 0
AnswersLosing r u before out faults now x q response =
    (limits : Limits) (t : Tables) (w : Exchange) → Facts limits t → RowsStand limits r t →
    denial t (event.Head x response) ≡ None → t.exchange x ≡ Some w → w.aim ≡ Some q →
    current t w.request.key ≡ Some q →
    head_case (record (head_view t false w response) { selects = false }) ≡ heads.NotValidated →
    faults < (shelf_of r.entries).faults →
    Answered limits faults u t before out now (event.Head x response)
