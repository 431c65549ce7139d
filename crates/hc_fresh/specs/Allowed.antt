-- Whether a stored head may be used without validation (RFC 9111 sections 4 and 5.2).
use Rattle.std.specs.Prelude.{ℕ, ◌+◌, ◌-◌, ◌==◌, nat_lt, nat_le, ◌||◌, Bool, true, false, Option, Some, None, if◌then◌else◌}
use Rattle.hc_event.specs.declared.event.Load.{Load}
use Rattle.hc_event.specs.declared.event.Load.TheVariants as load
use Rattle.hc_event.specs.declared.act.Why.{Why}
use Rattle.hc_event.specs.declared.act.Why.TheVariants as why
use Rattle.hc_cachectl.specs.declared.directives.Directives.{Directives}

abbrev pub is_validate : Load → Bool
is_validate load.Validate = true
is_validate _ = false

abbrev pub is_skip : Load → Bool
is_skip load.Skip = true
is_skip _ = false

abbrev pub is_zero : Option ℕ → Bool
is_zero None = false
is_zero (Some n) = n == 0

-- older than this, where there is a bound
abbrev pub is_older : ℕ → Option ℕ → Bool
is_older age None = false
is_older age (Some bound) = nat_lt bound age

-- not fresh for so much longer, where that is asked for
abbrev pub lacks : ℕ → ℕ → Option ℕ → Bool
lacks lifetime age None = false
lacks lifetime age (Some seconds) = nat_lt lifetime (age + seconds)

-- stale by so much is accepted
abbrev pub accepts : Option (Option ℕ) → ℕ → Bool
accepts None excess = false
accepts (Some None) excess = true
accepts (Some (Some bound)) excess = nat_le excess bound

-- What is stored and what is asked, the load, how old the head is and for how long it is fresh: the first case that applies.
abbrev pub allowed_by : Bool → Bool → Directives → Load → ℕ → ℕ → Option Why
allowed_by no_cache must_revalidate asked load age lifetime =
    if is_validate load || is_zero asked.max_age then None  -- validation asked for
    else if no_cache then None  -- stored no-cache
    else if is_older age asked.max_age then None  -- older than asked
    else if lacks lifetime age asked.min_fresh then None  -- not fresh for long enough
    else if nat_lt age lifetime then Some (why.Fresh age lifetime)  -- still fresh
    else if must_revalidate then None  -- must revalidate
    else if is_skip load then Some (why.StaleAllowed age lifetime)  -- skips validation
    else if accepts asked.max_stale (age - lifetime) then Some (why.StaleAllowed age lifetime)  -- stale within what is accepted
    else None  -- else stale
