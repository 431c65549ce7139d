-- The plan of a consumer that reads nothing yet: what it looks at.
use Rattle.std.specs.Prelude.{◌≡◌, ℕ, List, Bool, true, false, Option, Some, None, unwrap_or, is_some, IsSomeAnd, ◌==◌, ◌&&◌, not, if◌then◌else◌}
use Rattle.std.specs.Option.{ForSome}
use Rattle.hc_rules.specs.declared.room.Limits.{Limits}
use Rattle.hc_store.specs.declared.backend.Backend.{Ghosts}
use Rattle.hc_event.specs.declared.act.Act.{Act}
use Rattle.hc_range.specs.declared.range.Span.{Span}
use Rattle.hc_range.specs.Spans.{IsWithin}
use Rattle.hc_event.specs.declared.act.Why.{Why}
use Rattle.hc_event.specs.declared.act.Need.{Need}
use Rattle.hc_event.specs.declared.act.Need.TheVariants as need
use Rattle.hc_event.specs.declared.event.Event.TheVariants as event
use Rattle.hc_event.specs.declared.event.Request.{Request}
use Rattle.hc_fields.specs.FieldList.{IsWithinLimits}
use Rattle.hc_rules.specs.declared.plan.Plan.{Plan}
use Rattle.hc_rules.specs.declared.plan.PlanView.{PlanView}
use Rattle.hc_rules.specs.declared.request.Wanted.TheVariants as wanted
use Rattle.hc_rules.specs.Plans.{plan_of}
use Rattle.hc_rules.specs.Requests.{wanted_of}
use Rattle.hc_entry.specs.declared.keys.KeyTable.{KeyTable}
use Rattle.hc_entry.specs.Keys.{kept_of, line_of}
use Rattle.hc_entry.specs.Lines.{is_in, turn_with}
use Rattle.hc_exch.specs.Exchanges.{next_of}
use Rattle.hc_record.specs.Head.{Head}
use Rattle.hc_validate.specs.Conditions.{conditional}
use Rattle.hc_validate.specs.Showing.{shown_response}
use Rattle.hc_event.specs.declared.place.Place.{Place}
use Rattle.hc_event.specs.declared.place.Place.TheVariants as place
use Rattle.hc_model.specs.ConsumerRows.{kept_by}
use Rattle.hc_model.specs.Currents.{current}
use Rattle.hc_model.specs.Effects.{with_consumer, with_opening, just_opened}
use Rattle.hc_model.specs.Lawful.{Lawful}
use Rattle.hc_model.specs.Moves.{Move, Opens, Shows, span_to, hole_request}
use Rattle.hc_model.specs.Planning as planning
use Rattle.hc_model.specs.Planning.{has_passed}
use Rattle.hc_model.specs.Rows as rows
use Rattle.hc_model.specs.Rows.{Tables}
use Rattle.hc_txn.specs.declared.transaction.Transaction.{Transaction as Consumer}
use Rattle.hc_state.specs.declared.rows.Rows.{Rows}
use Rattle.hc_txn.specs.Transactions.{queues}
use Rattle.hc_state.specs.Facts.{Facts}
use Rattle.hc_state.specs.Stands.{RowsStand, Answers, AnswersMove}

-- what the plan of a consumer looks at, but for what is current
abbrev pub plan_view : {B : Type 0} {g : Ghosts B} → Rows B g → ℕ → ℕ → Consumer → PlanView
plan_view r now c k = record {
  moment = now;
  since = k.since;
  c = c;
  class = k.class;
  passed = has_passed k.place;
  kept = kept_by k.place;
  turn = unwrap_or (turn_with c (line_of r.keys k.request.key)) c;
  current = None;
}

abbrev pub PlanViewIs : {B : Type 0} {g : Ghosts B} → Rows B g → ℕ → ℕ → PlanView → Consumer → Type 0
PlanViewIs r now c view k = view ≡ plan_view r now c k

-- it waits in line for the turn of another
abbrev pub waits_in_line : PlanView → Bool
waits_in_line v = not v.passed && not (v.turn == v.c) && not v.class.only

-- it neither goes past the store, nor bypasses what is stored, nor waits in line
abbrev pub looks_at_stored : PlanView → Bool
looks_at_stored v = not v.class.disabled && not v.class.bypassing && not (waits_in_line v)

-- WHO HAS A PLAN

-- it reads nothing, and no exchange of its own is open
abbrev pub is_idle_at : Place → Bool
is_idle_at place.Line = true
is_idle_at (place.Passed r kept) = true
is_idle_at _ = false

abbrev pub IsIdle : Consumer → Type 0
IsIdle k = is_idle_at k.place ≡ true

-- who passed is kept by its key
abbrev pub IsKeptPassed : KeyTable → ℕ → Consumer → Type 0
IsKeptPassed keys c k = has_passed k.place ≡ true → is_in c (line_of keys k.request.key) ≡ true

-- it is in line
abbrev pub in_line : rows.Consumer → rows.Consumer
in_line k = record k { place = place.Line }

-- the rows represent tables in which it is in line
abbrev pub StandsInLine : {B : Type 0} {g : Ghosts B} → Rows B g → Rows B g → ℕ → Type 0
StandsInLine r u c =
    (limits : Limits) (t : Tables) (k : rows.Consumer) → Lawful t → RowsStand limits r t → t.consumer c ≡ Some k →
    RowsStand limits u (with_consumer c (Some (in_line k)) t)

-- WHO OPENS AN EXCHANGE

-- the poll is answered where c opens the next exchange, with its request as it is
abbrev pub AnswersOpening : {B : Type 0} {g : Ghosts B} → Rows B g → Rows B g → List Act → List Act → ℕ → ℕ → Need → Consumer → Type 0
AnswersOpening r u before out now c need k =
    (want : ℕ) → AnswersMove r u before out now c want (Opens (next_of r.exchanges) need k.request)

-- WHO ASKS THE ORIGIN WITH THE TURN

-- it waits with others, and its turn is next
abbrev pub IsNext : KeyTable → ℕ → Consumer → Type 0
IsNext keys c k =
    (queues k ≡ true) × (turn_with c (line_of keys k.request.key) ≡ Some c)

abbrev pub IsOfItsKey : Request → Consumer → Type 0
IsOfItsKey request k = request.key ≡ k.request.key

-- it waits with the turn for the head of x, which is about what is current
abbrev pub tables_in_turn : ℕ → ℕ → ℕ → Need → Request → rows.Consumer → Tables → Tables
tables_in_turn now c x need request v t =
    with_consumer c (Some (record v { own = Some x; place = place.Turn x }))
    (with_opening x (just_opened now c need request (current t v.request.key)) t)

-- the rows represent tables in which it does
abbrev pub BeginsTurn : {B : Type 0} {g : Ghosts B} → Rows B g → Rows B g → ℕ → ℕ → Need → Request → ℕ → Type 0
BeginsTurn r u now c need request x =
    (limits : Limits) (t : Tables) (v : rows.Consumer) → Facts limits t → RowsStand limits r t → t.consumer c ≡ Some v →
    RowsStand limits u (tables_in_turn now c x need request v t)

-- the poll is answered where c asks whether this stored head still holds
abbrev pub AnswersValidating : {B : Type 0} {g : Ghosts B} → Rows B g → Rows B g → List Act → List Act → ℕ → ℕ → Head → Consumer → Type 0
AnswersValidating r u before out now c head k =
    (want : ℕ) →
    AnswersMove r u before out now c want
    (Opens (next_of r.exchanges) need.Validate (conditional head k.request))

-- WHO WAITS FOR A BODY

-- it waits for its key
abbrev pub IsWaiting : KeyTable → ℕ → Consumer → Type 0
IsWaiting keys c k = is_in c (line_of keys k.request.key) ≡ true

-- r is current for its key
abbrev pub HasCurrent : KeyTable → ℕ → Consumer → Type 0
HasCurrent keys r k = (kept_of keys k.request.key).current ≡ Some r

-- it has passed, for r
abbrev pub let_through : ℕ → rows.Consumer → rows.Consumer
let_through r k = record k { place = place.Passed r (kept_by k.place) }

-- the rows represent tables in which it has
abbrev pub StandsPassed : {B : Type 0} {g : Ghosts B} → Rows B g → Rows B g → ℕ → ℕ → Type 0
StandsPassed r u c q =
    (limits : Limits) (t : Tables) (k : rows.Consumer) → Lawful t → RowsStand limits r t → t.consumer c ≡ Some k →
    current t k.request.key ≡ Some q →
    RowsStand limits u (with_consumer c (Some (let_through q k)) t)

-- WHICH PLAN IS CARRIED OUT

-- the fields of its request are no more than those of a request from outside
abbrev pub IsRequestWithinLimits : Consumer → Type 0
IsRequestWithinLimits k = IsWithinLimits k.request.fields

-- what is current for its key, where the plan looks at that
abbrev pub IsLookedAt : KeyTable → PlanView → Option ℕ → Consumer → Type 0
IsLookedAt keys view seen k =
    seen ≡ (if looks_at_stored view then (kept_of keys k.request.key).current else None)

-- the plan of the consumer, by whatever tables the rows represent
abbrev pub IsPlanOf : {B : Type 0} {g : Ghosts B} → Rows B g → ℕ → ℕ → Plan → Type 0
IsPlanOf r now c plan =
    (limits : Limits) (t : Tables) (v : rows.Consumer) → Facts limits t → RowsStand limits r t → t.consumer c ≡ Some v →
    plan_of (planning.plan_view t now c v) ≡ plan

-- each poll of it is answered
abbrev pub AnswersPoll : {B : Type 0} {g : Ghosts B} → Rows B g → Rows B g → List Act → List Act → ℕ → ℕ → Type 0
AnswersPoll r u before out now c = (want : ℕ) → Answers r u before out now (event.Poll c want)

-- WHO IS SHOWN WHAT IS CURRENT

-- where what it is shown begins and ends: the interval, or all of it
abbrev pub begin_of : Option Span → ℕ
begin_of None = 0
begin_of (Some span) = span.lo

abbrev pub end_of : Option Span → Option ℕ → Option ℕ
end_of None total = total
end_of (Some span) total = Some span.hi

-- a part that it is shown isn't empty, and within the length
abbrev pub IsShownPart : Head → Option Span → Consumer → Type 0
IsShownPart head span k =
    is_some k.class.range ≡ true →
    ForSome (span_to (begin_of span) (end_of span head.total)) (λ s. IsSomeAnd head.total (IsWithin s))

-- what is shown of r, for this reason
abbrev pub shows_part : ℕ → Head → Why → Option Span → Consumer → Move
shows_part r head why span k =
    let lo = begin_of span in
    let hi = end_of span head.total in
    Shows r why (shown_response head why (span_to lo hi) (is_some k.class.range)) lo hi

-- the poll is answered where c is shown that
abbrev pub AnswersShowing : {B : Type 0} {g : Ghosts B} → Rows B g → Rows B g → List Act → List Act → ℕ → ℕ → Head → Why → Option Span → Consumer → Type 0
AnswersShowing r u before out c q head why span k =
    (now want : ℕ) → AnswersMove r u before out now c want (shows_part q head why span k)

-- WHO FILLS A HOLE

-- the poll is answered where c opens the next exchange, for a hole of what has this head
abbrev pub AnswersFilling : {B : Type 0} {g : Ghosts B} → Rows B g → Rows B g → List Act → List Act → ℕ → ℕ → Head → Span → Consumer → Type 0
AnswersFilling r u before out now c head hole k =
    (want : ℕ) →
    AnswersMove r u before out now c want
    (Opens (next_of r.exchanges) (need.Hole hole.lo hole.hi)
    (hole_request head k.request hole (unwrap_or head.total 0)))

-- for the first hole of the interval that it wants
abbrev pub AnswersFirst : {B : Type 0} {g : Ghosts B} → Rows B g → Rows B g → List Act → List Act → ℕ → ℕ → Head → Span → Span → Consumer → Type 0
AnswersFirst r u before out now c head span hole k =
    wanted_of k.class.range head.total ≡ wanted.Interval span →
    AnswersFilling r u before out now c head hole k
