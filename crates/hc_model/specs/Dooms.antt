-- The key whose current representation is doomed or bypassed (RFC 9111 section 4.4).
use Rattle.std.specs.Prelude.{ℕ, List, bytes_eq, Bool, false, Option, Some, None, if◌then◌else◌, ◌&&◌, not, nat_lt}
use Rattle.std.specs.List.{list_any}
use Rattle.hc_event.specs.Safe.{safe_methods}
use Rattle.hc_event.specs.Filters.{Opening, opening_in}
use Rattle.hc_event.specs.declared.event.Event.{Event}
use Rattle.hc_event.specs.declared.event.Event.TheVariants as event
use Rattle.hc_event.specs.declared.event.Response.{Response}
use Rattle.hc_event.specs.declared.act.Need.{Need}
use Rattle.hc_event.specs.declared.act.Need.TheVariants as need
use Rattle.hc_rules.specs.declared.heads.HeadCase.{HeadCase}
use Rattle.hc_rules.specs.declared.heads.HeadCase.TheVariants as case
use Rattle.hc_model.specs.Entries.{Entry}
use Rattle.hc_model.specs.Rows.{Tables, Exchange}
use Rattle.hc_model.specs.Cases.{case_at}

-- the answer to an unsafe request says that it may have changed something
abbrev pub changes : Exchange → Response → Bool
changes w response =
    nat_lt response.status 400 && not (list_any (bytes_eq w.request.method) safe_methods)

abbrev pub doomed_if : Bool → Exchange → Option (List ℕ)
doomed_if does w = if does then Some w.request.key else None

-- the head of an exchange past the store, even a bad one
abbrev pub doomed_by_case : Option HeadCase → Exchange → Response → Option (List ℕ)
doomed_by_case (Some case.DirectBad) w response = doomed_if (changes w response) w
doomed_by_case (Some case.DirectTaken) w response = doomed_if (changes w response) w
doomed_by_case _ w response = None

abbrev pub doomed_by_head : Tables → Entry → Response → Option Exchange → Option (List ℕ)
doomed_by_head t e response None = None
doomed_by_head t e response (Some w) = doomed_by_case (case_at t e) w response

abbrev pub doomed_in : Tables → Entry → Event → Option (List ℕ)
doomed_in t e (event.Doom key) = Some key
doomed_in t e (event.Head x response) = doomed_by_head t e response (t.exchange x)
doomed_in t e _ = None

-- the key that is doomed: by a doom, or by an unsafe request that may have changed something
unfoldable pub doomed_key_of : Tables → Entry → Option (List ℕ)
doomed_key_of t e = doomed_in t e e.event

-- there is a key, and it is this one
abbrev pub is_key : Option (List ℕ) → List ℕ → Bool
is_key None key = false
is_key (Some k) key = bytes_eq k key

abbrev pub bypassed_for : Need → List ℕ → Option (List ℕ)
bypassed_for need.Bypass key = Some key
bypassed_for _ key = None

abbrev pub bypassed_by : Option Opening → Option (List ℕ)
bypassed_by None = None
bypassed_by (Some o) = bypassed_for o.need o.request.key

-- the key for which an exchange is opened that goes past what is stored
abbrev pub bypass_key : Entry → Option (List ℕ)
bypass_key e = bypassed_by (opening_in e.acts)
