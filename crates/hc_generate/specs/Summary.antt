-- The summary: what was counted over all that was answered.
use Rattle.std.specs.Prelude.{◌≡◌, ℕ, ◌+◌, ◌-◌, ◌^◌, min, Bool, true, false, List, ◌∷◌, [], ◌++◌, length, count_by, codes}
use Rattle.std.specs.List.{sum_by}
use Rattle.std.specs.Fmt.{decimal}
use Rattle.hc_event.specs.declared.act.Act.{Act}
use Rattle.hc_event.specs.declared.act.Act.TheVariants as act
use Rattle.hc_generate.specs.declared.counts.Counts.{Counts}

-- ONE ACT

abbrev pub is_opened : Act → Bool
is_opened (act.Opened x c need request) = true
is_opened _ = false

abbrev pub is_ended : Act → Bool
is_ended (act.Ended c) = true
is_ended _ = false

abbrev pub is_failed : Act → Bool
is_failed (act.Failed c cause) = true
is_failed _ = false

abbrev pub is_lost : Act → Bool
is_lost (act.Lost r kind) = true
is_lost _ = false

-- how many bytes are given
abbrev pub given_size : Act → ℕ
given_size (act.Given c x at bytes) = length bytes
given_size _ = 0

-- ALL OF THEM

-- a count stands still at its end
abbrev pub up_to_end : ℕ → ℕ
up_to_end n = min n (2 ^ 64 - 1)

-- of a list of events, by the acts of each, the oldest first
abbrev pub summary : List (List Act) → Counts
summary answered = record {
  events = up_to_end (length answered);
  opens = up_to_end (sum_by (λ acts. count_by is_opened acts) answered);
  bytes = up_to_end (sum_by (λ acts. sum_by given_size acts) answered);
  ended = up_to_end (sum_by (λ acts. count_by is_ended acts) answered);
  failed = up_to_end (sum_by (λ acts. count_by is_failed acts) answered);
  lost = up_to_end (sum_by (λ acts. count_by is_lost acts) answered);
}

-- some acts more, of the same event
abbrev pub counts_with_acts : List Act → Counts → Counts
counts_with_acts acts n = record n {
  opens = up_to_end (n.opens + count_by is_opened acts);
  bytes = up_to_end (n.bytes + sum_by given_size acts);
  ended = up_to_end (n.ended + count_by is_ended acts);
  failed = up_to_end (n.failed + count_by is_failed acts);
  lost = up_to_end (n.lost + count_by is_lost acts);
}

-- one event more, with these acts
abbrev pub counts_with_event : List Act → Counts → Counts
counts_with_event acts n = counts_with_acts acts (record n { events = up_to_end (n.events + 1) })

-- that is the summary of all of them
abbrev pub OneMoreIsCounted : Type 0
OneMoreIsCounted =
    (answered : List (List Act)) (acts : List Act) → summary (answered ++ acts ∷ []) ≡ counts_with_event acts (summary answered)

-- ITS TEXT

abbrev pub line : List ℕ → ℕ → List ℕ
line word n = word ++ decimal n ++ 10 ∷ []

abbrev pub summary_text : Counts → List ℕ
summary_text n =
    line (codes "events ") n.events ++ line (codes "opens ") n.opens ++ line (codes "bytes ") n.bytes
    ++ line (codes "ended ") n.ended ++ line (codes "failed ") n.failed ++ line (codes "lost ") n.lost
