-- What decides how a fetch ends, before its input does.
use Rattle.std.specs.Prelude.{◌≡◌, ◌==◌, ◌&&◌, ◌||◌, not, List, [], ◌∷◌, Bool, true, false, Option, Some, None, is_some, is_none, if◌then◌else◌}
use Rattle.std.specs.Option.{option_or}
use Rattle.hc_event.specs.declared.act.Act.{Act}
use Rattle.hc_event.specs.declared.act.Act.TheVariants as act
use Rattle.hc_event.specs.declared.event.Event.{Event}
use Rattle.hc_event.specs.declared.event.Event.TheVariants as event
use Rattle.hc_model.specs.Entries.{History}
use Rattle.hc_fetch.specs.declared.ended.FetchEnded.{FetchEnded}
use Rattle.hc_fetch.specs.declared.ended.FetchEnded.TheVariants as ended
use Rattle.hc_fetch.specs.declared.plan.FetchPlan.{FetchPlan}
use Rattle.hc_fetch.specs.Heads.{Head, heads_in, first_in, first_head, total_of}

-- the fetch starts and cancels its consumers itself, so a start or a cancel that is read is foreign
abbrev pub is_foreign : Event → Bool
is_foreign (event.Start c request) = true
is_foreign (event.Cancel c) = true
is_foreign _ = false

-- some of these events are foreign
abbrev pub has_foreign : History → Bool
has_foreign [] = false
has_foreign (e ∷ f) = is_foreign e.event || has_foreign f

-- a fetch decides so by itself: neither its input nor its output failed
abbrev pub is_own : FetchEnded → Bool
is_own ended.SourceFailed = false
is_own ended.SinkFailed = false
is_own _ = true

abbrev pub IsOwn : FetchEnded → Type 0
IsOwn by = is_own by ≡ true

-- a consumer fails
abbrev pub by_failure : List Act → Option FetchEnded
by_failure [] = None
by_failure (act.Failed c cause ∷ acts) = Some (ended.Failed c cause)
by_failure (_ ∷ acts) = by_failure acts

-- the first consumer is shown the whole, or a part of a known whole where there are to be parts
abbrev pub fits_first : FetchPlan → Head → Bool
fits_first plan head =
    head.status == 200 || (not (plan.parts == 1) && is_some (total_of head))

-- the others are shown the whole or a part, once the first one was
abbrev pub fits : FetchPlan → Option Head → Head → Bool
fits plan first head =
    if head.c == 1 then fits_first plan head
    else is_some first && (head.status == 200 || head.status == 206)

-- it is shown another representation than the first consumer was
abbrev pub by_other : Head → Option Head → Option FetchEnded
by_other head None = None
by_other head (Some first) =
    if head.r == first.r then None else Some (ended.Other head.c head.r first.r)

abbrev pub by_head : FetchPlan → Option Head → Head → Option FetchEnded
by_head plan first head =
    if fits plan first head then by_other head first else Some (ended.Status head.c head.status)

-- the first of these heads that decides, where the first consumer was shown one or not
abbrev pub by_heads : FetchPlan → Option Head → List Head → Option FetchEnded
by_heads plan first [] = None
by_heads plan first (head ∷ heads) =
    option_or (by_head plan first head)
    (by_heads plan (option_or first (first_in (head ∷ []))) heads)

-- what the acts of an event decide, behind what happened before
unfoldable pub decided_by : FetchPlan → History → List Act → Option FetchEnded
decided_by plan f acts = option_or (by_failure acts) (by_heads plan (first_head f) (heads_in acts))

-- nothing was decided
abbrev pub is_undecided : FetchPlan → History → Bool
is_undecided plan [] = true
is_undecided plan (e ∷ f) = is_none (decided_by plan f e.acts) && is_undecided plan f

-- nothing was decided before the last event
abbrev pub is_undecided_before : FetchPlan → History → Bool
is_undecided_before plan [] = true
is_undecided_before plan (e ∷ f) = is_undecided plan f
