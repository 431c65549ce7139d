-- The run of a fetch: its own consumers start, and the events of the input happen.
use Rattle.std.specs.Prelude.{ℕ, zero, suc, ◌+◌, ◌==◌, ◌&&◌, List, [], ◌∷◌, ◌++◌, Bool, false, true, length, Option, Some, None, is_none, if◌then◌else◌}
use Rattle.hc_event.specs.declared.act.Act.{Act}
use Rattle.hc_event.specs.declared.act.Act.TheVariants as act
use Rattle.hc_model.specs.Entries.{Entry, History, entry_without_acts}
use Rattle.hc_fetch.specs.declared.ended.FetchEnded.{FetchEnded}
use Rattle.hc_fetch.specs.declared.ended.FetchEnded.TheVariants as ended
use Rattle.hc_fetch.specs.declared.plan.FetchPlan.{FetchPlan}
use Rattle.hc_fetch.specs.Deciding.{decided_by}
use Rattle.hc_fetch.specs.Gathering.{written_of}
use Rattle.hc_fetch.specs.Heads.{Head, heads_in, first_in, first_head, total_of}
use Rattle.hc_fetch.specs.Plans.{first_start, part_start, part_count}

-- WHO STARTS

-- the consumers of the second part up to the n-th start, one after another
abbrev pub parts_start : FetchPlan → ℕ → ℕ → ℕ → History
parts_start plan now total zero = []
parts_start plan now total (suc n) =
    if n == 0 then []
    else entry_without_acts now (part_start plan total (n + 1)) ∷ parts_start plan now total n

abbrev pub start_by_total : FetchPlan → ℕ → Option ℕ → History
start_by_total plan now None = []
start_by_total plan now (Some total) = parts_start plan now total (part_count plan total)

abbrev pub start_by_head : FetchPlan → ℕ → Option Head → History
start_by_head plan now None = []
start_by_head plan now (Some head) = start_by_total plan now (total_of head)

-- behind the event that shows the first consumer a part of a known whole the others start
abbrev pub starts_behind : FetchPlan → History → Entry → History
starts_behind plan f e =
    if is_none (decided_by plan f e.acts) && is_none (first_head f)
    then start_by_head plan e.now (first_in (heads_in e.acts)) else []

-- THE RUN

-- where nothing happened yet, the first consumer starts at this moment
abbrev pub started : FetchPlan → ℕ → History → History
started plan now [] = entry_without_acts now (first_start plan) ∷ []
started plan now (e ∷ h) = e ∷ h

-- the history of the cache, behind these events of the input
abbrev pub cache_history : FetchPlan → History → History
cache_history plan [] = []
cache_history plan (e ∷ f) =
    starts_behind plan f e ++ (e ∷ started plan e.now (cache_history plan f))

-- WHERE THE INPUT ENDS

abbrev pub ends_in : ℕ → List Act → Bool
ends_in c [] = false
ends_in c (act.Ended d ∷ acts) = if d == c then true else ends_in c acts
ends_in c (_ ∷ acts) = ends_in c acts

abbrev pub has_ended : ℕ → History → Bool
has_ended c [] = false
has_ended c (e ∷ f) = if ends_in c e.acts then true else has_ended c f

abbrev pub is_all : Option ℕ → ℕ → Bool
is_all None n = false
is_all (Some total) n = n == total

-- all of it was written: what the part told, or what the first consumer read to its end
abbrev pub is_done_by : Option Head → History → ℕ → Bool
is_done_by None f n = false
is_done_by (Some head) f n =
    if head.status == 200 then has_ended 1 f else is_all (total_of head) n

-- how a fetch ends with its input, behind these events, where nothing was decided
unfoldable pub ended_with : History → FetchEnded
ended_with f =
    if is_done_by (first_head f) f (length (written_of f)) then ended.Done (length (written_of f))
    else ended.Unfinished (length (written_of f))
