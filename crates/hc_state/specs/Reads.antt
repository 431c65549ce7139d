-- What is done for a consumer that is bound.
use Rattle.std.specs.Prelude.{◌≡◌, ◌<◌, ℕ, ◌+◌, List, length, Bool, true, false, Option, Some, None, is_some, nat_lt, not, ◌==◌, ◌&&◌, if◌then◌else◌, IsSomeAnd}
use Rattle.std.specs.Option.{option_or}
use Rattle.hc_rules.specs.declared.room.Limits.{Limits}
use Rattle.hc_store.specs.declared.backend.Backend.{Ghosts}
use Rattle.hc_event.specs.declared.act.Act.{Act}
use Rattle.hc_event.specs.declared.act.Why.{Why}
use Rattle.hc_event.specs.declared.act.Why.TheVariants as why
use Rattle.hc_event.specs.declared.event.Event.TheVariants as event
use Rattle.hc_range.specs.Spans.{IsWithin}
use Rattle.hc_range.specs.declared.range.Span.{Span}
use Rattle.hc_record.specs.Head.{Head}
use Rattle.hc_rules.specs.declared.request.RequestClass.{RequestClass}
use Rattle.hc_rules.specs.declared.reading.ReadView.{ReadView}
use Rattle.hc_sparse.specs.Cells.{IsNext}
use Rattle.hc_sparse.specs.Stretch.{stretch}
use Rattle.hc_sparse.specs.declared.run.Run.{Run}
use Rattle.hc_stored.specs.Entries.{shelf_of}
use Rattle.hc_stored.specs.Kept.{Kept}
use Rattle.hc_stored.specs.Shelf as shelf
use Rattle.hc_stored.specs.Shelf.{Shelf, cells_at, head_at}
use Rattle.hc_exch.specs.Exchanges.{table_of}
use Rattle.hc_exch.specs.Known.{Table}
use Rattle.hc_exch.specs.declared.row.Open.{Open}
use Rattle.hc_event.specs.declared.place.BoundBy.{BoundBy}
use Rattle.hc_event.specs.declared.place.BoundBy.TheVariants as by
use Rattle.hc_event.specs.declared.place.Place.TheVariants as place
use Rattle.hc_rules.specs.Statuses.{brings_part}
use Rattle.hc_model.specs.Currents.{current, is_number}
use Rattle.hc_model.specs.Reading.{is_bound_place}
use Rattle.hc_model.specs.Rows as rows
use Rattle.hc_model.specs.Rows.{Tables}
use Rattle.hc_txn.specs.declared.transaction.Transaction.{Transaction as Consumer}
use Rattle.hc_state.specs.declared.rows.Rows.{Rows}
use Rattle.hc_state.specs.Handlers.{most}
use Rattle.hc_state.specs.Facts.{Facts}
use Rattle.hc_state.specs.Leaving.{if_running, writer_group_of}
use Rattle.hc_state.specs.Plans.{is_idle_at, AnswersFilling}
use Rattle.hc_state.specs.Stands.{RowsStand, Answered, Answers}

-- WHAT CAN'T BE READ

-- it is bound to q, or that is current for its key and it reads nothing yet
pub data MayMisread (t : Tables) (q : ℕ) (k : rows.Consumer) : Type 0 where
  bound : is_bound_place q k.place ≡ true → MayMisread t q k
  planned : is_idle_at k.place ≡ true → current t k.request.key ≡ Some q → MayMisread t q k

-- the poll of c, which may read q, is answered where the store has failed since so many faults
abbrev pub AnswersMisread : {B : Type 0} {g : Ghosts B} → Rows B g → Rows B g → List Act → List Act → ℕ → ℕ → ℕ → Type 0
AnswersMisread r u before out now c q =
    (want faults : ℕ) (limits : Limits) (t : Tables) (k : rows.Consumer) → faults < (shelf_of r.entries).faults →
    Facts limits t → RowsStand limits r t → t.consumer c ≡ Some k → MayMisread t q k →
    Answered limits faults u t before out now (event.Poll c want)

-- WHO IS TO BE SHOWN A HEAD

-- it is bound to r by this
abbrev pub IsBoundBy : ℕ → BoundBy → Consumer → Type 0
IsBoundBy r by k = (lo : ℕ) × (hi : Option ℕ) × (k.place ≡ place.Bound r lo hi by)

-- and wasn't shown a head
abbrev pub IsUnshownBy : ℕ → BoundBy → Consumer → Type 0
IsUnshownBy r by k = IsBoundBy r by k × (k.shown ≡ false)

abbrev pub is_headless_open : Option Open → Bool
is_headless_open None = false
is_headless_open (Some o) = not o.headed

-- it waits for the head of its first hole
abbrev pub waits_for_first : Table → BoundBy → Bool
waits_for_first table (by.FirstHole x) = is_headless_open (table x).running
waits_for_first table _ = false

-- where it has a range, it is shown a part: not where it founded with the whole
abbrev pub may_be_part : BoundBy → ℕ → Bool
may_be_part by.Founding status = brings_part status
may_be_part _ status = true

abbrev pub is_part : RequestClass → BoundBy → ℕ → Bool
is_part class by status = is_some class.range && may_be_part by status

-- why it is shown r
abbrev pub why_shown : ℕ → BoundBy → Why
why_shown r (by.FirstHole x) = why.Validated x
why_shown r _ = why.Fetched r

-- each poll of c is answered
abbrev pub AnswersPolls : {B : Type 0} {g : Ghosts B} → Rows B g → Rows B g → List Act → List Act → ℕ → Type 0
AnswersPolls r u before out c = (now want : ℕ) → Answers r u before out now (event.Poll c want)

-- WHO READS ON

-- it is bound to r, and was shown a head
abbrev pub IsShownAt : ℕ → Consumer → Type 0
IsShownAt r k =
    ((lo : ℕ) × (hi : Option ℕ) × (by : BoundBy) × (k.place ≡ place.Bound r lo hi by))
    × (k.shown ≡ true)

-- as much of its own exchange is held
abbrev pub held_own : Table → Option ℕ → ℕ
held_own table None = 0
held_own table (Some x) = length (table x).held

-- it goes on alone with what was lost
abbrev pub goes_alone : ℕ → Option Kept → Bool
goes_alone c None = false
goes_alone c (Some e) = e.is_lost && is_number e.alone c

-- what the reading of a consumer looks at, where the stored bytes ahead end there, and these are the next
abbrev pub bound_view : Table → Option Kept → ℕ → Option ℕ → Option ℕ → Consumer → ReadView
bound_view table e c stored next k = record {
  offset = k.lo + k.given;
  hi = k.hi;
  stored = stored;
  held = goes_alone c e && nat_lt 0 (held_own table k.own);
  due = k.due;
  source = option_or (if_running table k.own) (writer_group_of table e);
  next_stored = next;
}

pub record ReadViewIs {B : Type 0} {g : Ghosts B} (r : Rows B g) (q c : ℕ) (stored : Option ℕ) (view : ReadView) (k : Consumer) : Type 0 where
  pub next : Option ℕ
  pub next_is : IsNext (cells_at (shelf_of r.entries) q) (k.lo + k.given) next
  pub is : view ≡ bound_view (table_of r.exchanges) ((shelf_of r.entries).kept q) c stored next k

-- the stored bytes of one exchange that stand there, at most so many
abbrev pub run_ahead : Shelf → ℕ → ℕ → ℕ → Option Run
run_ahead s q o count = if count == 0 then None else stretch (cells_at s q) o count

-- All but the count of faults stays.
pub record ReadsStore {B : Type 0} {g : Ghosts B} (r u : Rows B g) : Type 0 where
  pub last_start : u.last_start ≡ r.last_start
  pub consumers : u.consumers ≡ r.consumers
  pub exchanges : u.exchanges ≡ r.exchanges
  pub keys : u.keys ≡ r.keys
  pub entries : shelf.Stays (shelf_of r.entries) (shelf_of u.entries)

-- the exchange of its own for whose head it waits
abbrev pub headless_own : Table → Option ℕ → Option ℕ
headless_own table None = None
headless_own table (Some x) = if is_headless_open (table x).running then Some x else None

-- it waits for no head
abbrev pub WaitsForNoHead : Table → Consumer → Type 0
WaitsForNoHead table k = headless_own table k.own ≡ None

-- what stands ahead of it, as much as it wants and not past its end
abbrev pub IsRunAhead : Shelf → ℕ → ℕ → Option Run → Consumer → Type 0
IsRunAhead s q want run k =
    run ≡ run_ahead s q (k.lo + k.given) (most k.hi (k.lo + k.given) want)

-- A LATER HOLE

-- it is within the length
abbrev pub IsInLength : Span → Head → Type 0
IsInLength hole head = IsSomeAnd head.total (IsWithin hole)

-- the poll is answered where c opens the next exchange, for a hole of r
abbrev pub AnswersHole : {B : Type 0} {g : Ghosts B} → Rows B g → Rows B g → List Act → List Act → ℕ → ℕ → ℕ → Span → Consumer → Type 0
AnswersHole r u before out now c q hole k =
    IsSomeAnd (head_at (shelf_of r.entries) q)
    (λ head. AnswersFilling r u before out now c head hole k)
