-- What an accepted poll does, in one word each, and the acts of it.
use Rattle.std.specs.Prelude.{ℕ, ◌+◌, List, [], ◌∷◌, codes, Bool, Option, Some, None, if◌then◌else◌, unwrap_or}
use Rattle.hc_fields.specs.FirstValues.{first_value}
use Rattle.hc_range.specs.declared.range.Span.{Span}
use Rattle.hc_range.specs.Spans.{range_text}
use Rattle.hc_sparse.specs.declared.run.Run.{Run}
use Rattle.hc_record.specs.Head.{Head}
use Rattle.hc_event.specs.declared.event.Request.{Request}
use Rattle.hc_event.specs.declared.event.Response.{Response}
use Rattle.hc_event.specs.declared.act.Act.{Act}
use Rattle.hc_event.specs.declared.act.Act.TheVariants as act
use Rattle.hc_event.specs.declared.act.Need.{Need}
use Rattle.hc_event.specs.declared.act.Need.TheVariants as need
use Rattle.hc_event.specs.declared.act.Wait.{Wait}
use Rattle.hc_event.specs.declared.act.Wait.TheVariants as wait
use Rattle.hc_event.specs.declared.act.Why.{Why}
use Rattle.hc_event.specs.declared.act.Cause.{Cause}
use Rattle.hc_validate.specs.Updates.{with_one}
use Rattle.hc_validate.specs.Showing.{shown_response}
use Rattle.hc_model.specs.Rows.{Tables, Exchange, Representation}

pub data Move : Type 0 where
  Nothing : Move
  Waits : (wait : Wait) → Move
  Asks : (x : ℕ) → Move
  Opens : (x : ℕ) (need : Need) (request : Request) → Move
  Shows : (r : ℕ) (why : Why) (head : Response) (lo : ℕ) (hi : Option ℕ) → Move
  Gives : (run : Run) → Move
  Ends : Move
  Fails : (cause : Cause) → Move

-- its acts, for the consumer c
abbrev pub acts_of : ℕ → Move → List Act
acts_of c Nothing = []
acts_of c (Waits wait) = act.Pending c wait ∷ []
acts_of c (Asks x) = act.Ask x ∷ act.Pending c (wait.Body x) ∷ []
acts_of c (Opens x need request) = act.Opened x c need request ∷ act.Pending c (wait.Head x) ∷ []
acts_of c (Shows r why head lo hi) = act.Shown c r why head.status head.fields lo hi ∷ []
acts_of c (Gives run) = act.Given c run.x run.at run.bytes ∷ []
acts_of c Ends = act.Ended c ∷ []
acts_of c (Fails cause) = act.Failed c cause ∷ []

-- OPENING

-- the next exchange
abbrev pub opens : Tables → Need → Request → Move
opens t need request = Opens (t.opened + 1) need request

-- the request for a hole, as long as the tag is that of what is stored (RFC 9110 sections 13.1.5 and 14.2)
abbrev pub hole_request : Head → Request → Span → ℕ → Request
hole_request head request hole total = record request {
  fields = with_one (codes "if-range") (unwrap_or (first_value (codes "etag") head.fields) [])
      (with_one (codes "range") (range_text hole total) request.fields);
}

-- the next exchange, for a hole of what is stored
abbrev pub opens_hole : Tables → Request → Option Representation → Span → Move
opens_hole t request None hole = Nothing
opens_hole t request (Some v) hole =
    opens t (need.Hole hole.lo hole.hi)
    (hole_request v.head request hole (unwrap_or v.head.total 0))

-- SHOWING

abbrev pub span_to : ℕ → Option ℕ → Option Span
span_to lo None = None
span_to lo (Some hi) = Some (record { lo = lo; hi = hi })

-- the stored head: of this interval for a consumer with a range, and else of the whole
abbrev pub shows_stored : ℕ → Why → Bool → ℕ → Option ℕ → Option Representation → Move
shows_stored r why ranged lo hi None = Nothing
shows_stored r why ranged lo hi (Some v) =
    Shows r why (shown_response v.head why (span_to lo hi) ranged) lo hi

-- GIVING AND ASKING

abbrev pub gives : Option Run → Move
gives None = Nothing
gives (Some run) = Gives run

-- the next bytes of an exchange are asked for, where they aren't yet
abbrev pub waits_for : ℕ → Option Exchange → Move
waits_for x None = Nothing
waits_for x (Some w) = if w.asked then Waits (wait.Body x) else Asks x
