-- What becomes gone: it isn't used for a new consumer any more.
use Rattle.std.specs.Prelude.{ℕ, length, codes, bytes_eq, Bool, false, Option, Some, None, is_some, ◌==◌, ◌||◌, ◌&&◌, not, nat_lt}
use Rattle.std.specs.List.{list_any}
use Rattle.http_header.specs.Token.{lowercase}
use Rattle.hc_fields.specs.FirstValues.{elements_in}
use Rattle.hc_event.specs.Filters.{closes_in, evicts_in}
use Rattle.hc_event.specs.declared.event.Event.{Event}
use Rattle.hc_event.specs.declared.event.Event.TheVariants as event
use Rattle.hc_rules.specs.declared.heads.HeadCase.{HeadCase}
use Rattle.hc_rules.specs.declared.heads.HeadCase.TheVariants as case
use Rattle.hc_rules.specs.Statuses.{brings_whole}
use Rattle.hc_model.specs.Entries.{Entry}
use Rattle.hc_model.specs.ActFilters.{loses_in, has_loss, misreads_in}
use Rattle.hc_model.specs.Rows.{Tables, Exchange, Representation}
use Rattle.hc_model.specs.Exchanges.{promised_bytes, exchange_at}
use Rattle.hc_model.specs.Currents.{is_current, is_number}
use Rattle.hc_model.specs.Cases.{case_at}
use Rattle.hc_model.specs.Dooms.{doomed_key_of, bypass_key, is_key}

-- BY A HEAD

abbrev pub is_below_500 : Event → Bool
is_below_500 (event.Head x response) = nat_lt response.status 500
is_below_500 _ = false

-- r is current for the key of the exchange
abbrev pub is_current_of : Tables → Exchange → ℕ → Bool
is_current_of t w r = is_current t w.request.key r

abbrev pub goes_by_case : Tables → Entry → ℕ → Option HeadCase → Exchange → Bool
goes_by_case t e r (Some case.NotValidated) w = is_number w.aim r
goes_by_case t e r (Some case.FoundsWhole) w = is_current_of t w r
goes_by_case t e r (Some case.FoundsRange) w = is_current_of t w r
goes_by_case t e r (Some case.PassesBy) w = is_current_of t w r
goes_by_case t e r (Some case.FirstChanged) w = is_number w.aim r
goes_by_case t e r (Some case.FirstReplaced) w = is_number w.aim r || is_current_of t w r
-- where a replacing answer is lost, what it replaces is gone all the same
goes_by_case t e r (Some case.FirstPassesBy) w =
    is_number w.aim r || (has_loss e.acts && is_current_of t w r)
goes_by_case t e r (Some case.LaterChanged) w = is_number w.aim r && is_below_500 e.event
goes_by_case t e r _ w = false

abbrev pub goes_by_exchange : Tables → Entry → ℕ → Option Exchange → Bool
goes_by_exchange t e r None = false
goes_by_exchange t e r (Some w) = goes_by_case t e r (case_at t e) w

-- a head says that r is no more
abbrev pub goes_by_head : Tables → Entry → ℕ → Bool
goes_by_head t e r = goes_by_exchange t e r (exchange_at t e.event)

-- BY AN EARLY END

abbrev pub is_below : ℕ → Option ℕ → Bool
is_below n None = false
is_below n (Some p) = nat_lt n p

-- fewer bytes came than were promised
abbrev pub is_short : Exchange → Bool
is_short w = is_below (length w.body) (promised_bytes w)

abbrev pub stops_early : Exchange → ℕ → Event → Bool
stops_early w r (event.Fault x) = x == r
stops_early w r (event.End x) = x == r && is_short w
stops_early w r _ = false

abbrev pub ends_founding : Entry → ℕ → Option Exchange → Bool
ends_founding e r None = false
ends_founding e r (Some w) = w.is_open && (stops_early w r e.event || closes_in r e.acts)

-- the whole answer that founded r faults, is short or is closed
abbrev pub ends_early : Tables → Entry → ℕ → Representation → Bool
ends_early t e r v = brings_whole v.head.status && ends_founding e r (t.exchange r)

-- its origin takes no ranges (RFC 9110 section 14.3)
abbrev pub refuses_ranges : Representation → Bool
refuses_ranges v =
    list_any (λ element. bytes_eq (lowercase element) (codes "none"))
    (elements_in (codes "accept-ranges") v.head.fields)

-- what is stored can be completed later
unfoldable pub is_keepable : Representation → Bool
is_keepable v =
    is_some v.head.joining && is_some v.head.total && nat_lt 0 v.size && not (refuses_ranges v)

-- ALL CAUSES

-- by a doom or a bypass while it is current, by a head, by a loss, a failed read or an early end
abbrev pub goes_itself : Tables → Entry → ℕ → Representation → Bool
goes_itself t e r v =
    (is_current t v.key r && (is_key (doomed_key_of t e) v.key || is_key (bypass_key e) v.key))
    || goes_by_head t e r
    || loses_in r e.acts
    || misreads_in r e.acts
    || (ends_early t e r v && not (is_keepable v))

-- or since it makes room
unfoldable pub becomes_gone : Tables → Entry → ℕ → Representation → Bool
becomes_gone t e r v = goes_itself t e r v || evicts_in r e.acts

abbrev pub goes_in : Tables → Entry → ℕ → Option Representation → Bool
goes_in t e r None = false
goes_in t e r (Some v) = becomes_gone t e r v
