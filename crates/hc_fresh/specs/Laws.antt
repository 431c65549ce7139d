-- What the table of freshness comes to (RFC 9111 sections 4 and 5.2).
use Rattle.std.specs.Prelude.{◌≡◌, ◌≢◌, ℕ, ◌+◌, ◌-◌, ◌<◌, ◌≤◌, ◌⊎◌, false, Option, Some, None, IfSome}
use Rattle.hc_event.specs.declared.event.Load.TheVariants as load
use Rattle.hc_event.specs.declared.event.Request.{Request}
use Rattle.hc_event.specs.declared.act.Why.{Why}
use Rattle.hc_event.specs.declared.act.Why.TheVariants as why
use Rattle.hc_cachectl.specs.Directives.{of_request, of_response}
use Rattle.hc_record.specs.Head.{Head}
use Rattle.hc_fresh.specs.Ages.{age}
use Rattle.hc_fresh.specs.Facts.{allowed}
use Rattle.hc_fresh.specs.Lifetimes.{lifetime}

-- nothing asks for a validation, and the head is as young, and fresh for as long, as the request asks
pub record NeedsNone (head : Head) (request : Request) (now : ℕ) : Type 0 where
  pub loaded : request.load ≢ load.Validate
  pub asked : (of_request request.fields).max_age ≢ Some 0
  pub stored : (of_response head.fields).no_cache ≡ false
  pub young : IfSome (of_request request.fields).max_age (λ most. age head now ≤ most)
  pub long : IfSome (of_request request.fields).min_fresh (λ more. age head now + more ≤ lifetime head)

-- an answer that is stale by so much is accepted: by any excess, or by one up to a bound
abbrev pub AcceptsStale : Option (Option ℕ) → ℕ → Type 0
AcceptsStale most excess = (most ≡ Some None) ⊎ ((bound : ℕ) × (most ≡ Some (Some bound)) × (excess ≤ bound))

-- the head may be used though it is stale
pub record MayBeStale (head : Head) (request : Request) (now : ℕ) : Type 0 where
  pub free : (of_response head.fields).must_revalidate ≡ false
  pub leave : (request.load ≡ load.Skip)
      ⊎ AcceptsStale (of_request request.fields).max_stale (age head now - lifetime head)

-- what a reason says of the head and the request
abbrev pub IsRightUse : Head → Request → ℕ → Why → Type 0
IsRightUse head request now (why.Fresh a l) =
    NeedsNone head request now × (a ≡ age head now) × (l ≡ lifetime head) × (a < l)
IsRightUse head request now (why.StaleAllowed a l) =
    NeedsNone head request now × (a ≡ age head now) × (l ≡ lifetime head) × (l ≤ a) × MayBeStale head request now
IsRightUse head request now (why.Fetched x) = ⊥
IsRightUse head request now (why.Validated x) = ⊥

-- what is used without validation is fresh, or stale with leave
abbrev pub UsesAreRight : Type 0
UsesAreRight = (head : Head) (request : Request) (now : ℕ) (reason : Why)
    → allowed head request now ≡ Some reason → IsRightUse head request now reason
