-- What a fetch writes.
use Rattle.std.specs.Prelude.{◌≡◌, ℕ, List, ◌∷◌, ◌++◌, false, true, Some}
use Rattle.hc_rules.specs.declared.room.Limits.{Limits}
use Rattle.hc_model.specs.Beginnings.{may_begin}
use Rattle.hc_model.specs.Entries.{Entry, History, no_contents}
use Rattle.hc_model.specs.Reads.{Holds, end_of}
use Rattle.hc_model.specs.Runs.{IsRun}
use Rattle.hc_model.specs.Tables.{tables}
use Rattle.hc_fetch.specs.declared.ended.FetchEnded.TheVariants as ended
use Rattle.hc_fetch.specs.declared.plan.FetchPlan.{FetchPlan}
use Rattle.hc_fetch.specs.Bounds.{IsPlan}
use Rattle.hc_fetch.specs.Deciding.{has_foreign, is_undecided, is_undecided_before}
use Rattle.hc_fetch.specs.Fetches.{cache_history, ended_with}
use Rattle.hc_fetch.specs.Gathering.{written_of}
use Rattle.hc_fetch.specs.Heads.{Head, first_head}

-- the events of the input, with the fetch's own consumers, are a run, and none before the last one decided how it ends
pub record IsFetchRun (limits : Limits) (plan : FetchPlan) (f : History) : Type 0 where
  pub begins : may_begin limits no_contents ≡ true
  pub run : IsRun limits no_contents (cache_history plan f)
  pub undecided_before : is_undecided_before plan f ≡ true

-- what is written stands in the body that the first consumer was shown, from 0 on
abbrev pub WritesTheBody : Type 0
WritesTheBody =
    (limits : Limits) (plan : FetchPlan) (f : History) → IsFetchRun limits plan f →
    (head : Head) → first_head f ≡ Some head →
    Holds (tables no_contents (cache_history plan f)) head.r 0 (written_of f)

-- Where the fetch is done, it is all of that body. Consumers are the fetch's own: with others the first one might be sent past the
-- store, where no Content-Range is held against the bytes that come.
abbrev pub WritesAllOfIt : Type 0
WritesAllOfIt =
    (limits : Limits) (plan : FetchPlan) (f : History) (total : ℕ) → IsPlan plan →
    IsFetchRun limits plan f → has_foreign f ≡ false → is_undecided plan f ≡ true →
    ended_with f ≡ ended.Done total → (head : Head) → first_head f ≡ Some head →
    end_of (tables no_contents (cache_history plan f)) head.r ≡ Some total

-- with one event more what was written stays, and more may follow
abbrev pub WritesOn : Type 0
WritesOn =
    (limits : Limits) (plan : FetchPlan) (e : Entry) (f : History) →
    IsFetchRun limits plan (e ∷ f) → (more : List ℕ) × (written_of f ++ more ≡ written_of (e ∷ f))
