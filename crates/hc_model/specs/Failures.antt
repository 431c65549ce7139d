-- The failure that an entry makes due for a consumer that is bound or direct.
use Rattle.std.specs.Prelude.{ℕ, length, Option, Some, None, if◌then◌else◌, ◌&&◌, not, nat_lt}
use Rattle.std.specs.Option.{option_or}
use Rattle.hc_event.specs.declared.event.Event.{Event}
use Rattle.hc_event.specs.declared.event.Event.TheVariants as event
use Rattle.hc_event.specs.declared.act.Cause.{Cause}
use Rattle.hc_event.specs.declared.act.Cause.TheVariants as cause
use Rattle.hc_rules.specs.declared.heads.HeadCase.{HeadCase}
use Rattle.hc_rules.specs.declared.heads.HeadCase.TheVariants as case
use Rattle.hc_rules.specs.Lengths.{is_same_number}
use Rattle.hc_event.specs.declared.place.Place.{Place}
use Rattle.hc_event.specs.declared.place.Place.TheVariants as place
use Rattle.hc_model.specs.Entries.{Entry}
use Rattle.hc_model.specs.Rows.{Tables, Exchange, Representation, Consumer}
use Rattle.hc_model.specs.Exchanges.{promised_bytes, exchange_in, is_for}
use Rattle.hc_model.specs.Currents.{is_number}
use Rattle.hc_model.specs.Cases.{case_at}
use Rattle.hc_model.specs.Reading.{source}
use Rattle.hc_model.specs.Writers.{loses_group, survivor}

abbrev pub short_of : ℕ → Exchange → Option ℕ → Option Cause
short_of x w None = None
short_of x w (Some p) =
    if nat_lt (length w.body) p then Some (cause.Short x (length w.body) p) else None

abbrev pub short_cause : ℕ → Option Exchange → Option Cause
short_cause x None = None
short_cause x (Some w) = short_of x w (promised_bytes w)

-- why an exchange that stops gives less than it should
abbrev pub stop_cause : Tables → Event → Option Cause
stop_cause t (event.Fault x) = Some (cause.Net x)
stop_cause t (event.End x) = short_cause x (t.exchange x)
stop_cause t _ = None

-- for whoever reads from the exchange that stops
abbrev pub cause_of_stop : Tables → Entry → Consumer → Option Cause
cause_of_stop t e k =
    if is_same_number (source t k) (exchange_in e.event) then stop_cause t e.event else None

abbrev pub cause_by_loss : Tables → Entry → ℕ → ℕ → Option Representation → Option Cause
cause_by_loss t e c r None = None
cause_by_loss t e c r (Some v) =
    if loses_group t e r v && not (is_number (survivor t r v) c)
    then Some (cause.StoreWrite r) else None

-- for the members of a lost writing, but for who goes on with it
abbrev pub cause_of_loss : Tables → Entry → ℕ → Place → Option Cause
cause_of_loss t e c (place.Bound r lo hi by) = cause_by_loss t e c r (t.representation r)
cause_of_loss t e c _ = None

abbrev pub cause_by_case : Option HeadCase → ℕ → Option Cause
cause_by_case (Some case.LaterBad) x = Some (cause.BadHead x)
cause_by_case (Some case.LaterChanged) x = Some (cause.Changed x)
cause_by_case _ x = None

-- for the consumer of a head that doesn't fill its hole
abbrev pub cause_of_head : Tables → Entry → ℕ → Event → Option Cause
cause_of_head t e c (event.Head x response) =
    if is_for (t.exchange x) c then cause_by_case (case_at t e) x else None
cause_of_head t e c _ = None

unfoldable pub becomes_due : Tables → Entry → ℕ → Consumer → Option Cause
becomes_due t e c k =
    option_or (cause_of_stop t e k)
    (option_or (cause_of_loss t e c k.place) (cause_of_head t e c e.event))
