-- What the tables come to.
use Rattle.std.specs.Prelude.{◌≡◌, ◌≢◌, ◌↔◌, ℕ, ◌+◌, ◌-◌, ◌<◌, ◌≤◌, ◌⊎◌, Bool, true, false, List, [], length, take, sum, map, filter, All, Contains, Option, Some, None, is_some, unwrap_or, IsSome, IfSome, codes}
use Rattle.hc_range.specs.declared.range.Span.{Span}
use Rattle.hc_range.specs.declared.range.RangeSpec.{RangeSpec}
use Rattle.hc_range.specs.declared.range.ContentRange.{ContentRange}
use Rattle.hc_range.specs.declared.range.ContentRange.TheVariants as range
use Rattle.hc_cachectl.specs.Directives.{of_response}
use Rattle.hc_range.specs.Ranges.{SpellsRange, SpellsContentRange}
use Rattle.hc_etag.specs.Etags.{SpellsTag}
use Rattle.hc_rules.specs.RangeTexts.{asked_in, content_range_in, content_range_of, number_of}
use Rattle.hc_rules.specs.Lengths.{has_no_body, gives_part, length_of}
use Rattle.hc_rules.specs.Statuses.{brings_whole, brings_part}
use Rattle.hc_etag.specs.TagTexts.{strong_in}
use Rattle.hc_rules.specs.TagTexts.{strong_of}
use Rattle.hc_event.specs.declared.event.Event.{Event}
use Rattle.hc_event.specs.declared.event.Event.TheVariants as event
use Rattle.hc_fields.specs.FirstValues.{elements_in}
use Rattle.hc_event.specs.declared.event.Request.{Request}
use Rattle.hc_event.specs.declared.event.Response.{Response}
use Rattle.hc_event.specs.declared.act.Need.{Need}
use Rattle.hc_rules.specs.declared.length.Length.{Length}
use Rattle.hc_rules.specs.declared.length.Length.TheVariants as reported
use Rattle.hc_event.specs.declared.act.Why.{Why}
use Rattle.hc_event.specs.declared.act.Refusal.{Refusal}
use Rattle.hc_event.specs.declared.act.Refusal.TheVariants as refusal
use Rattle.hc_rules.specs.declared.need.Route.TheVariants as route
use Rattle.hc_rules.specs.declared.refusal.Gate.{Gate}
use Rattle.hc_rules.specs.declared.refusal.OpenExchange.{OpenExchange}
use Rattle.hc_rules.specs.declared.heads.HeadCase.{HeadCase}
use Rattle.hc_rules.specs.declared.heads.HeadCase.TheVariants as case
use Rattle.hc_rules.specs.declared.heads.HeadView.{HeadView}
use Rattle.hc_rules.specs.declared.plan.Plan.{Plan}
use Rattle.hc_rules.specs.declared.plan.Plan.TheVariants as plan
use Rattle.hc_rules.specs.declared.plan.Candidate.{Candidate}
use Rattle.hc_rules.specs.declared.plan.PlanView.{PlanView}
use Rattle.hc_rules.specs.declared.request.Wanted.TheVariants as wants
use Rattle.hc_rules.specs.declared.reading.ReadStep.{ReadStep}
use Rattle.hc_rules.specs.declared.reading.ReadStep.TheVariants as step
use Rattle.hc_rules.specs.declared.reading.ReadView.{ReadView}
use Rattle.hc_rules.specs.declared.admission.Bound.{Bound}
use Rattle.hc_rules.specs.declared.admission.BoundKind.TheVariants as kind
use Rattle.hc_rules.specs.declared.admission.Admission.{Admission}
use Rattle.hc_rules.specs.declared.admission.Admission.TheVariants as admission
use Rattle.hc_rules.specs.declared.survivor.Member.{Member}
use Rattle.hc_rules.specs.Needs.{route_of}
use Rattle.hc_rules.specs.Refusals.{refusal_of}
use Rattle.hc_rules.specs.HeadCases.{head_case}
use Rattle.hc_rules.specs.Plans.{longest_wait, plan_of, plan_on, why_by, allowed_by}
use Rattle.hc_rules.specs.Readings.{read_step}
use Rattle.hc_rules.specs.Rooms.{gives_way}
use Rattle.hc_rules.specs.Admissions.{admission_of, is_of, numbers, least_of, least_bound, survivor_at, stands_at}
use Rattle.hc_rules.specs.Joins.{joins}

-- TEXTS

-- The range that is read is the one that the text spells, and so is what Content-Range tells.
abbrev pub RangesAreSpelled : Type 0
RangesAreSpelled = (text : List ℕ) (asked : RangeSpec) → (asked_in text ≡ Some asked) ↔ SpellsRange text asked

abbrev pub PartsAreSpelled : Type 0
PartsAreSpelled = (text : List ℕ) (range : ContentRange) → (content_range_in text ≡ Some range) ↔ SpellsContentRange text range

-- a strong tag is read where the text spells one
abbrev pub StrongTagsAreSpelled : Type 0
StrongTagsAreSpelled = (text opaque : List ℕ) → (strong_in text ≡ Some opaque) ↔ SpellsTag text false opaque

-- REFUSALS

-- the place of a refusal in their order
abbrev pub rank : Refusal → ℕ
rank (refusal.NotRising last) = 1
rank refusal.TooManyConsumers = 2
rank refusal.NoConsumer = 3
rank refusal.Finished = 4
rank refusal.WantZero = 5
rank refusal.NoExchange = 6
rank refusal.HeadTwice = 7
rank refusal.NoHeadYet = 8
rank refusal.NotAsked = 9
rank refusal.EmptyPiece = 10
rank (refusal.Overlong promised) = 11

-- what stands against a start, a consumer's event, or a poll, whatever else does
abbrev pub StopsStart : Gate → ℕ → Refusal → Type 0
StopsStart g c (refusal.NotRising last) = (c ≤ g.last_start) × (last ≡ g.last_start)
StopsStart g c refusal.TooManyConsumers = 1024 ≤ g.live
StopsStart g c _ = ⊥

abbrev pub StopsPoll : Gate → ℕ → ℕ → Refusal → Type 0
StopsPoll g c want refusal.NoConsumer = g.last_start < c
StopsPoll g c want refusal.Finished = (c ≤ g.last_start) × (g.is_live ≡ false)
StopsPoll g c want refusal.WantZero = want ≡ 0
StopsPoll g c want _ = ⊥

abbrev pub StopsCancel : Gate → ℕ → Refusal → Type 0
StopsCancel g c refusal.NoConsumer = g.last_start < c
StopsCancel g c refusal.Finished = (c ≤ g.last_start) × (g.is_live ≡ false)
StopsCancel g c _ = ⊥

-- what stands against an event of an exchange that isn't open, or of an open one
abbrev pub StopsClosed : Refusal → Type 0
StopsClosed refusal.NoExchange = Unit {0}
StopsClosed _ = ⊥

abbrev pub StopsHead : Option OpenExchange → Refusal → Type 0
StopsHead None r = StopsClosed r
StopsHead (Some x) refusal.HeadTwice = x.headed ≡ true
StopsHead (Some x) _ = ⊥

abbrev pub StopsPiece : Option OpenExchange → ℕ → Refusal → Type 0
StopsPiece None n r = StopsClosed r
StopsPiece (Some x) n refusal.NoHeadYet = x.headed ≡ false
StopsPiece (Some x) n refusal.NotAsked = x.asked ≡ false
StopsPiece (Some x) n refusal.EmptyPiece = n ≡ 0
StopsPiece (Some x) n (refusal.Overlong promised) = (x.promised ≡ Some promised) × (promised < x.delivered + n)
StopsPiece (Some x) n _ = ⊥

abbrev pub StopsEnd : Option OpenExchange → Refusal → Type 0
StopsEnd None r = StopsClosed r
StopsEnd (Some x) refusal.NoHeadYet = x.headed ≡ false
StopsEnd (Some x) _ = ⊥

abbrev pub StopsFault : Option OpenExchange → Refusal → Type 0
StopsFault None r = StopsClosed r
StopsFault (Some x) r = ⊥

-- the refusal applies to the event, whatever others do
abbrev pub Applies : Gate → Event → Refusal → Type 0
Applies g (event.Start c request) r = StopsStart g c r
Applies g (event.Poll c want) r = StopsPoll g c want r
Applies g (event.Head x response) r = StopsHead g.exchange r
Applies g (event.Piece x bytes) r = StopsPiece g.exchange (length bytes) r
Applies g (event.End x) r = StopsEnd g.exchange r
Applies g (event.Fault x) r = StopsFault g.exchange r
Applies g (event.Cancel c) r = StopsCancel g c r
Applies g (event.Doom key) r = ⊥

-- what is answered to an event that these refusals apply to: the least of them, or none where there is none
abbrev pub IsLeast : (Refusal → Type 0) → Option Refusal → Type 0
IsLeast Stops None = (s : Refusal) → ¬ (Stops s)
IsLeast Stops (Some r) = Stops r × ((s : Refusal) → Stops s → rank r ≤ rank s)

-- a denied event names the least refusal that applies, and an accepted one has none
abbrev pub DenialsAreLeast : Type 0
DenialsAreLeast = (g : Gate) (e : Event) → IsLeast (Applies g e) (refusal_of g e)

-- LENGTHS

-- the elements of Content-Length
abbrev pub declared_in : Response → List (List ℕ)
declared_in response = elements_in (codes "content-length") response.fields

-- there are some, and each spells this number
abbrev pub AllSay : ℕ → List (List ℕ) → Type 0
AllSay n elements = (elements ≢ []) × All (λ element. number_of element ≡ Some n) elements

-- Content-Range says the bytes from this position on, and so many; Content-Length says nothing else
pub record SaysPart (response : Response) (base count : ℕ) : Type 0 where
  pub last : ℕ
  pub total : Option ℕ
  pub range : content_range_of response.fields ≡ Some (range.Part base last total)
  pub count_is : count ≡ last + 1 - base
  pub agrees : (declared_in response ≡ []) ⊎ AllSay count (declared_in response)

-- What is promised is none of an answer without a body, or what Content-Length says; a part is what Content-Range says;
-- where nothing is known nothing was said, and what is bad has a body and said something, or had to tell a part.
abbrev pub IsRightLength : Need → Request → Response → Length → Type 0
IsRightLength need request response reported.Unknown =
    (has_no_body request response.status ≡ false) × (declared_in response ≡ [])
IsRightLength need request response (reported.Promised n) =
    ((has_no_body request response.status ≡ true) × (n ≡ 0)) ⊎ AllSay n (declared_in response)
IsRightLength need request response (reported.Part base count) =
    (brings_part response.status ≡ true) × (route_of need ≢ route.Direct) × SaysPart response base count
IsRightLength need request response reported.Bad =
    (has_no_body request response.status ≡ false)
    × ((declared_in response ≢ []) ⊎ (gives_part (route_of need) response.status ≡ true))

abbrev pub LengthsAreRight : Type 0
LengthsAreRight =
    (need : Need) (request : Request) (response : Response) →
    IsRightLength need request response (length_of need request response)

-- CASES OF HEADS

-- the head is good, may be stored, and its write isn't lost
abbrev pub MayFound : HeadView → Bool → Type 0
MayFound v brings = (v.bad ≡ false) × (v.storable ≡ true) × (v.lost ≡ false) × (brings ≡ true)

-- what a case says of its head
abbrev pub IsRightCase : HeadView → HeadCase → Type 0
IsRightCase v case.DirectBad = v.bad ≡ true
IsRightCase v case.DirectTaken = v.bad ≡ false
IsRightCase v case.TurnBad = v.bad ≡ true
IsRightCase v case.Validated = (v.bad ≡ false) × (v.status ≡ 304) × (v.conditional ≡ true) × (v.selects ≡ true) × (v.lost ≡ false)
IsRightCase v case.NotValidated = (v.bad ≡ false) × (v.status ≡ 304) × (v.conditional ≡ true)
IsRightCase v case.TurnServerError = (v.bad ≡ false) × (500 ≤ v.status)
IsRightCase v case.FoundsWhole = MayFound v (brings_whole v.status)
IsRightCase v case.FoundsRange = MayFound v (brings_part v.status) × (v.fits ≡ true)
IsRightCase v case.PassesBy = v.bad ≡ false
IsRightCase v case.FirstBad = v.bad ≡ true
IsRightCase v case.FirstJoins = (v.bad ≡ false) × (v.joins ≡ true)
IsRightCase v case.FirstServerError = (v.bad ≡ false) × (500 ≤ v.status)
IsRightCase v case.FirstChanged = (v.bad ≡ false) × (v.joins ≡ false)
IsRightCase v case.FirstReplaced = MayFound v (brings_whole v.status)
IsRightCase v case.FirstPassesBy = (v.bad ≡ false) × (v.joins ≡ false)
IsRightCase v case.LaterBad = v.bad ≡ true
IsRightCase v case.LaterJoins = (v.bad ≡ false) × (v.joins ≡ true)
IsRightCase v case.LaterChanged = (v.bad ≡ false) × (v.joins ≡ false)

-- what is founded may be stored, what validates or joins does so, and only a bad head is called bad
abbrev pub CasesAreRight : Type 0
CasesAreRight = (v : HeadView) → IsRightCase v (head_case v)

-- WHAT FILLS A HOLE

-- The answer is a part with a strong tag of these bytes, which brings the bytes from the start of the hole to this position, at most to
-- the end of the hole, tells this total, and may be stored.
pub record IsJoin (tag : Bool × List ℕ) (total : ℕ) (hole : Span) (answer : Response) (last : ℕ) : Type 0 where
  pub status : brings_part answer.status ≡ true
  pub strict : tag.0 ≡ false
  pub same : strong_of answer.fields ≡ Some tag.1
  pub reported : content_range_of answer.fields ≡ Some (range.Part hole.lo last (Some total))
  pub within : last < hole.hi
  pub kept : (of_response answer.fields).no_store ≡ false

-- just such answers join, so none does by a weak tag or without a total
abbrev pub JoinsAreRight : Type 0
JoinsAreRight = (tag : Bool × List ℕ) (total : ℕ) (hole : Span) (answer : Response)
    → (joins tag total hole answer ≡ true) ↔ ((last : ℕ) × IsJoin tag total hole answer last)

-- PLANS

-- it has the turn of its key, or has passed and may still read
abbrev pub HasTurn : PlanView → Type 0
HasTurn v = (v.turn ≡ v.c) ⊎ ((v.passed ≡ true) × IsSome (why_by v.kept (allowed_by v.current)))

-- it may read what is stored for this reason: the 304 that it kept, or what freshness allows
abbrev pub MayRead : PlanView → Why → Type 0
MayRead v why = why_by v.kept (allowed_by v.current) ≡ Some why

-- it hasn't waited for so long that it goes past the store
abbrev pub MayWait : PlanView → Type 0
MayWait v = v.moment < v.since + longest_wait

-- what a plan says of its view
abbrev pub IsRightPlan : PlanView → Plan → Type 0
IsRightPlan v (plan.Direct n) = (v.class.only ≡ false) × (route_of n ≡ route.Direct)
IsRightPlan v (plan.Turn d) = (v.class.only ≡ false) × (d ≢ v.c) × MayWait v
IsRightPlan v (plan.Fetch n) = (v.class.only ≡ false) × (route_of n ≡ route.Turn) × HasTurn v
IsRightPlan v (plan.Bind why span) = MayRead v why
IsRightPlan v (plan.FirstHole span hole) = (v.class.only ≡ false) × HasTurn v
IsRightPlan v (plan.Busy d kept) = (v.class.only ≡ false) × (kept ≡ v.kept) × MayWait v
IsRightPlan v plan.Miss = v.class.only ≡ true

-- what opens an exchange has the turn or goes past the store, what is read may be read, and nobody waits for 20 seconds
abbrev pub PlansAreRight : Type 0
PlansAreRight = (v : PlanView) → IsRightPlan v (plan_of v)

-- READING

-- the offset is at the known end
abbrev pub IsAtEnd : ReadView → Type 0
IsAtEnd v = IfSome v.hi (λ hi. hi ≤ v.offset) × IsSome v.hi

-- nothing is there to be given
abbrev pub HasNothing : ReadView → Type 0
HasNothing v = (v.stored ≡ None) × (v.held ≡ false)

-- what a step says of its view
abbrev pub IsRightStep : ReadView → ReadStep → Type 0
IsRightStep v step.Ended = IsAtEnd v
IsRightStep v (step.Stored upto) = IsSome v.stored × IfSome v.stored (λ end. upto ≤ end) × IfSome v.hi (λ hi. upto ≤ hi)
IsRightStep v step.Held = (v.stored ≡ None) × (v.held ≡ true)
IsRightStep v (step.Failed cause) = HasNothing v × (v.due ≡ Some cause)
IsRightStep v (step.Waits x) = HasNothing v × (v.due ≡ None) × (v.source ≡ Some x)
IsRightStep v (step.Hole span) = HasNothing v × (v.due ≡ None) × (v.source ≡ None) × (span.lo ≡ v.offset)

-- nobody is told the end before it, and nobody fails, waits or asks while bytes are there
abbrev pub StepsAreRight : Type 0
StepsAreRight = (v : ReadView) → IsRightStep v (read_step v)

-- ROOM

-- what is left of the sum without the first so many
abbrev pub sum_without : ℕ → ℕ → List ℕ → ℕ
sum_without count all idle = all - sum (take count idle)

-- So many make room and fewer don't; where none is told, all don't.
abbrev pub IsShortest : ℕ → ℕ → List ℕ → Option ℕ → Type 0
IsShortest most all idle None = most < all - sum idle
IsShortest most all idle (Some count) =
    (count ≤ length idle) × (sum_without count all idle ≤ most)
    × ((fewer : ℕ) → fewer < count → most < sum_without fewer all idle)

abbrev pub ShortestGivesWay : Type 0
ShortestGivesWay = (most all : ℕ) (idle : List ℕ) → IsShortest most all idle (gives_way most all idle)

-- ADMISSION AND SURVIVOR

-- the number is one of the list, and none is less; or there is none
abbrev pub IsLeastOf : List ℕ → Option ℕ → Type 0
IsLeastOf ns None = ns ≡ []
IsLeastOf ns (Some n) = Contains ns n × All (λ m. n ≤ m) ns

abbrev pub SurvivorsAreLeast : Type 0
SurvivorsAreLeast = (end : ℕ) (members : List Member)
    → IsLeastOf (map (λ (m : Member). m.c) (filter (stands_at end) members)) (survivor_at end members)

-- those that are bound in this way
abbrev pub those : (Bound → Bool) → List Bound → List ℕ
those p bound = numbers (filter p bound)

-- what an admission says of those that are bound
abbrev pub IsRightAdmission : List Bound → Bool → Bool → Admission → Type 0
IsRightAdmission bound ranged holes admission.Shared = (ranged ≡ false) × (those (is_of kind.Shared) bound ≢ [])
IsRightAdmission bound ranged holes admission.Reader =
    (holes ≡ false) × (those (is_of kind.Shared) bound ≡ []) × (those (is_of kind.Exclusive) bound ≡ [])
IsRightAdmission bound ranged holes admission.Exclusive = (holes ≡ true) × (bound ≡ [])
IsRightAdmission bound ranged holes (admission.Behind d) = Contains (numbers bound) d

-- writers write alone or all together, and nobody is bound beside another who writes alone
abbrev pub AdmissionsAreRight : Type 0
AdmissionsAreRight = (bound : List Bound) (ranged holes : Bool) → IsRightAdmission bound ranged holes (admission_of bound ranged holes)

-- how a plan says an admission
abbrev pub carried_out : PlanView → Why → Span → Option Span → Admission → Plan
carried_out v why span hole admission.Shared = plan.Bind why None
carried_out v why span hole admission.Reader = plan.Bind why (Some span)
carried_out v why span hole admission.Exclusive = plan.FirstHole span (unwrap_or hole span)
carried_out v why span hole (admission.Behind d) = plan.Busy d v.kept

-- the plan sees who is bound; while the writer group is on, all of them are its members
pub record SeesBound (s : Candidate) (bound : List Bound) : Type 0 where
  pub writer_group : s.writer_group ≡ is_some (least_of kind.Shared bound)
  pub together : (d : ℕ) → least_of kind.Shared bound ≡ Some d → s.least_bound ≡ Some d
  pub exclusive : s.exclusive ≡ least_of kind.Exclusive bound
  pub least : s.least_bound ≡ least_bound bound

-- of an interval that it may read, the plan is the admission beside those who are bound
abbrev pub AdmitsAsPlanned : Type 0
AdmitsAsPlanned = (v : PlanView) (s : Candidate) (why : Why) (span : Span) (bound : List Bound)
    → SeesBound s bound → s.span ≡ wants.Interval span
    → plan_on v s why ≡ carried_out v why span s.hole (admission_of bound (is_some v.class.range) (is_some s.hole))
