-- What a consumer reads: one interval of the body of one representation, as its exchanges delivered it.
use Rattle.std.specs.Prelude.{◌≡◌, ◌≢◌, ◌⊎◌, ℕ, ◌+◌, ◌-◌, ◌≤◌, ◌<◌, List, [], ◌∷◌, ◌++◌, length, slice_index, Option, Some, None, is_some, IfSome, Bool, true, false, IsTrue, option_map, if◌then◌else◌, nat_le, nat_lt, ◌&&◌, ◌||◌, not}
use Rattle.hc_sparse.specs.Cells.{Cell}
use Rattle.hc_event.specs.Filters.{is_denied, given_in}
use Rattle.hc_event.specs.declared.event.Event.TheVariants as event
use Rattle.hc_event.specs.declared.event.Request.{Request}
use Rattle.hc_event.specs.declared.act.Act.{Act}
use Rattle.hc_event.specs.declared.act.Act.TheVariants as act
use Rattle.hc_event.specs.declared.act.Why.{Why}
use Rattle.hc_event.specs.declared.act.Why.TheVariants as why
use Rattle.hc_rules.specs.declared.heads.HeadCase.{HeadCase}
use Rattle.hc_rules.specs.declared.heads.HeadCase.TheVariants as case
use Rattle.hc_rules.specs.declared.room.Limits.{Limits}
use Rattle.hc_fresh.specs.Facts.{allowed}
use Rattle.hc_model.specs.Entries.{Entry, History, Contents}
use Rattle.hc_model.specs.Flaws.{failures_in}
use Rattle.hc_model.specs.Rows.{Tables, Exchange, Representation, Consumer}
use Rattle.hc_model.specs.Exchanges.{base, front, exchange_in}
use Rattle.hc_model.specs.Currents.{is_number}
use Rattle.hc_model.specs.Cases.{case_at}
use Rattle.hc_model.specs.Reading.{end_in, offset, hi_of}
use Rattle.hc_model.specs.Steps.{bound_row}
use Rattle.hc_model.specs.Tables.{tables}
use Rattle.hc_model.specs.Beginnings.{may_begin}
use Rattle.hc_model.specs.Runs.{IsRun}
use Rattle.hc_model.specs.Histories.{Opened, Shown, request_of, opening_of, shown_in, shown_of, given_of, joined_of}

-- BODIES

-- a byte of an answer past the store
abbrev pub answer_cell : ℕ → ℕ → Exchange → Option Cell
answer_cell x p w =
    if nat_le (base w) p && nat_lt p (front w)
    then Some (record { byte = slice_index w.body (p - base w); x = x }) else None

abbrev pub direct_cell : ℕ → ℕ → Option Exchange → Option Cell
direct_cell x p None = None
direct_cell x p (Some w) = answer_cell x p w

abbrev pub cell_by : Tables → ℕ → ℕ → Option Representation → Option Cell
cell_by t r p None = direct_cell r p (t.exchange r)
cell_by t r p (Some v) = v.body p

-- the byte at a position of a body, and the exchange that delivered it; an answer past the store is a representation of its own
abbrev pub body_of : Tables → ℕ → ℕ → Option Cell
body_of t r p = cell_by t r p (t.representation r)

-- These bytes stand in the body of r from a position on, and x delivered them.
abbrev pub Delivers : Tables → ℕ → ℕ → ℕ → List ℕ → Type 0
Delivers t r at x bytes =
    (i : ℕ) → i < length bytes →
    body_of t r (at + i) ≡ Some (record { byte = slice_index bytes i; x = x })

-- These bytes stand in the body of r from a position on, whoever delivered them.
abbrev pub Holds : Tables → ℕ → ℕ → List ℕ → Type 0
Holds t r at bytes =
    (i : ℕ) → i < length bytes → (x : ℕ) × Delivers t r (at + i) x (slice_index bytes i ∷ [])

abbrev pub end_by : Tables → ℕ → Option Representation → Option ℕ
end_by t r None = end_in (t.exchange r)
end_by t r (Some v) = v.head.total

-- where a body ends, once that is known
abbrev pub end_of : Tables → ℕ → Option ℕ
end_of t r = end_by t r (t.representation r)

-- the end of what was shown, where that was known, and else that of the body
abbrev pub IsEnd : Tables → ℕ → Option ℕ → ℕ → Type 0
IsEnd t r (Some hi) n = n ≡ hi
IsEnd t r None n = end_of t r ≡ Some n

-- REASONS

abbrev pub is_validated : Option HeadCase → Bool
is_validated (Some case.Validated) = true
is_validated _ = false

abbrev pub aims_at : Option Exchange → ℕ → Bool
aims_at None r = false
aims_at (Some w) r = is_number w.aim r

abbrev pub selects_at : Tables → Entry → ℕ → ℕ → Bool
selects_at t e x r =
    not (is_denied e.acts) && is_validated (case_at t e)
    && is_number (exchange_in e.event) x && aims_at (t.exchange x) r

-- the head of x selected r
abbrev pub has_selected : Contents → ℕ → ℕ → History → Bool
has_selected contents x r [] = false
has_selected contents x r (e ∷ h) =
    selects_at (tables contents h) e x r || has_selected contents x r h

abbrev pub allowed_on : Option Representation → Option Request → ℕ → Option Why
allowed_on (Some v) (Some request) now = allowed v.head request now
allowed_on _ _ now = None

-- freshness allows it for this reason, at this moment
abbrev pub IsAllowed : Contents → History → ℕ → ℕ → ℕ → Why → Type 0
IsAllowed contents h now c r why =
    allowed_on ((tables contents h).representation r) (request_of c h) now ≡ Some why

-- the reason for which c is shown r holds
abbrev pub IsReason : Contents → History → ℕ → ℕ → ℕ → Why → Type 0
IsReason contents h now c r (why.Fetched x) = x ≡ r
IsReason contents h now c r (why.Fresh age life) = IsAllowed contents h now c r (why.Fresh age life)
IsReason contents h now c r (why.StaleAllowed age life) =
    IsAllowed contents h now c r (why.StaleAllowed age life)
IsReason contents h now c r (why.Validated x) =
    (option_map (λ (o : Opened). o.c) (opening_of x h) ≡ Some c)
    × IsTrue (is_number (joined_of contents x h) r || has_selected contents x r h)

-- ACTS

-- what c was shown and given, in these entries and in the acts before this one
abbrev pub shown_before : ℕ → History → List Act → List Shown
shown_before c h acts = shown_of c h ++ shown_in c acts

abbrev pub given_before : ℕ → History → List Act → List ℕ
given_before c h acts = given_of c h ++ given_in c acts

-- the bytes from a place on are those of the body, next to what was given before, and within the end of what is read
pub record IsNext (t : Tables) (s : Shown) (given : List ℕ) (x at : ℕ) (bytes : List ℕ)
    : Type 0 where
  pub at_place : at ≡ s.lo + length given
  pub some : length bytes ≢ 0
  pub delivered : Delivers t s.r at x bytes
  pub within : IfSome s.hi (λ hi. at + length bytes ≤ hi)

-- An act behind these entries and these acts keeps what a reader may rely on.
abbrev pub ReadsAct : Contents → History → ℕ → List Act → Act → Type 0
ReadsAct contents h now before (act.Shown c r why status fields lo hi) =
    (shown_before c h before ≡ []) × (given_before c h before ≡ [])
    × IsReason contents h now c r why
ReadsAct contents h now before (act.Given c x at bytes) =
    (s : Shown) × (shown_before c h before ≡ s ∷ [])
    × IsNext (tables contents h) s (given_before c h before) x at bytes
ReadsAct contents h now before (act.Ended c) =
    (s : Shown) × (shown_before c h before ≡ s ∷ [])
    × IsEnd (tables contents h) s.r s.hi (s.lo + length (given_before c h before))
ReadsAct contents h now before _ = Unit {0}

abbrev pub ReadsActs : Contents → History → ℕ → List Act → List Act → Type 0
ReadsActs contents h now before [] = Unit {0}
ReadsActs contents h now before (act ∷ acts) =
    ReadsAct contents h now before act × ReadsActs contents h now (before ++ (act ∷ [])) acts

-- each act of each entry does
abbrev pub ReadsEach : Contents → History → Type 0
ReadsEach contents [] = Unit {0}
ReadsEach contents (e ∷ h) = ReadsEach contents h × ReadsActs contents h e.now [] e.acts

-- HISTORIES

-- A consumer is shown one head at most, and its bytes, joined, are those of that body from the first one on.
pub record ReadsBody (contents : Contents) (h : History) (c : ℕ) : Type 0 where
  pub one : length (shown_of c h) ≤ 1
  pub unshown : shown_of c h ≡ [] → given_of c h ≡ []
  pub joined : (s : Shown) → shown_of c h ≡ s ∷ [] →
      Holds (tables contents h) s.r s.lo (given_of c h)

-- a consumer is shown one head at most, and given nothing before that
abbrev pub OneHeadIsShown : Type 0
OneHeadIsShown =
    (limits : Limits) (contents : Contents) (h : History) → IsRun limits contents h → (c : ℕ) →
    (length (shown_of c h) ≤ 1) × (shown_of c h ≡ [] → given_of c h ≡ [])

pub record ReadsWhole (contents : Contents) (h : History) : Type 0 where
  pub acts : ReadsEach contents h
  pub bodies : (c : ℕ) → ReadsBody contents h c

-- an act is among these
abbrev pub Says : Act → List Act → Type 0
Says act [] = ⊥
Says act (other ∷ acts) = (other ≡ act) ⊎ Says act acts

-- what a consumer is given is next in the body that it was shown, and within its end, in every run from contents by which a store
-- may begin
abbrev pub GivesNext : Type 0
GivesNext =
    (limits : Limits) (contents : Contents) (h : History) (e : Entry) →
    may_begin limits contents ≡ true → IsRun limits contents (e ∷ h) →
    (c x at : ℕ) (bytes : List ℕ) → Says (act.Given c x at bytes) e.acts →
    ReadsAct contents h e.now [] (act.Given c x at bytes)

-- who is told the end was given all up to it
abbrev pub EndsWell : Type 0
EndsWell =
    (limits : Limits) (contents : Contents) (h : History) (e : Entry) →
    may_begin limits contents ≡ true → IsRun limits contents (e ∷ h) →
    (c : ℕ) → Says (act.Ended c) e.acts → ReadsAct contents h e.now [] (act.Ended c)

-- and joined what it was given is of that body
abbrev pub BodiesAreRead : Type 0
BodiesAreRead =
    (limits : Limits) (contents : Contents) (h : History) → may_begin limits contents ≡ true →
    IsRun limits contents h → (c : ℕ) → ReadsBody contents h c

abbrev pub RunsReadWhole : Type 0
RunsReadWhole =
    (limits : Limits) (contents : Contents) (h : History) → may_begin limits contents ≡ true →
    IsRun limits contents h → ReadsWhole contents h

-- WHAT IS STORED IS GIVEN

-- c was shown a head, and the next byte of what it reads is stored, before the end of that
pub record HasNextStored (t : Tables) (c : ℕ) : Type 0 where
  pub k : Consumer
  pub row : t.consumer c ≡ Some k
  pub shown : k.shown ≡ true
  pub v : Representation
  pub reads : bound_row t k ≡ Some v
  pub stored : is_some (v.stored (offset t k)) ≡ true
  pub before : IfSome (hi_of t k.place) (λ hi. offset t k < hi)

-- By an accepted poll it is given something, where the store doesn't fail: so of the last entry.
abbrev pub GivesStored : Contents → History → Type 0
GivesStored contents [] = Unit {0}
GivesStored contents (e ∷ h) =
    (c want : ℕ) → e.event ≡ event.Poll c want → is_denied e.acts ≡ false →
    failures_in e.acts ≡ 0 → HasNextStored (tables contents h) c → 0 < length (given_in c e.acts)
