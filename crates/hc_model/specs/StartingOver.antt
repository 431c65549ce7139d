-- Who starts over: it stands in the line again, as if it had just started.
use Rattle.std.specs.Prelude.{ℕ, Bool, true, false, Option, Some, None, ◌||◌, ◌&&◌, not}
use Rattle.hc_rules.specs.declared.heads.HeadCase.{HeadCase}
use Rattle.hc_rules.specs.declared.heads.HeadCase.TheVariants as case
use Rattle.hc_event.specs.declared.place.Place.{Place}
use Rattle.hc_event.specs.declared.place.Place.TheVariants as place
use Rattle.hc_event.specs.declared.place.BoundBy.TheVariants as by
use Rattle.hc_model.specs.Entries.{Entry}
use Rattle.hc_model.specs.ActFilters.{fails_in}
use Rattle.hc_model.specs.Rows.{Tables, Consumer}
use Rattle.hc_model.specs.Exchanges.{is_headless, exchange_at, is_for}
use Rattle.hc_model.specs.Cases.{case_at}
use Rattle.hc_model.specs.Dooms.{doomed_key_of, is_key}
use Rattle.hc_model.specs.Gone.{goes_in}

-- the exchange whose head a consumer waits for, to found or to join by it
abbrev pub awaited_exchange : Place → Option ℕ
awaited_exchange (place.Turn x) = Some x
awaited_exchange (place.Bound r lo hi (by.FirstHole y)) = Some y
awaited_exchange _ = None

-- it waits, or is bound by a first hole whose exchange has no head yet
abbrev pub waits_at : Tables → Place → Bool
waits_at t place.Line = true
waits_at t (place.Passed r kept) = true
waits_at t (place.Turn x) = true
waits_at t (place.Bound r lo hi (by.FirstHole y)) = is_headless (t.exchange y)
waits_at t _ = false

abbrev pub sends_back : Option HeadCase → Bool
sends_back (Some case.NotValidated) = true
sends_back (Some case.FirstChanged) = true
sends_back _ = false

abbrev pub loses_what_it_waits_for : Tables → Entry → ℕ → Place → Bool
loses_what_it_waits_for t e c (place.Passed r kept) =
    goes_in t e r (t.representation r) && not (fails_in c e.acts)
loses_what_it_waits_for t e c _ = false

-- at a doom where it waits, where its own head says so, and where what it waits for becomes gone
unfoldable pub starts_over : Tables → Entry → ℕ → Consumer → Bool
starts_over t e c k =
    (is_key (doomed_key_of t e) k.request.key && waits_at t k.place)
    || (sends_back (case_at t e) && is_for (exchange_at t e.event) c)
    || loses_what_it_waits_for t e c k.place
