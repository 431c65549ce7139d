-- Which exchanges an entry closes.
use Rattle.std.specs.Prelude.{ℕ, List, Bool, true, false, Option, Some, None, is_none, ◌==◌, ◌||◌, ◌&&◌, filter, reverse}
use Rattle.std.specs.List.{list_all}
use Rattle.hc_event.specs.declared.event.Event.{Event}
use Rattle.hc_event.specs.declared.event.Event.TheVariants as event
use Rattle.hc_event.specs.declared.act.Act.{Act}
use Rattle.hc_rules.specs.declared.heads.HeadCase.{HeadCase}
use Rattle.hc_rules.specs.declared.heads.HeadCase.TheVariants as case
use Rattle.hc_event.specs.declared.place.Place.{Place}
use Rattle.hc_event.specs.declared.place.Place.TheVariants as place
use Rattle.hc_model.specs.Entries.{Entry}
use Rattle.hc_model.specs.ActFilters.{leaver_in}
use Rattle.hc_model.specs.Rows.{Tables, Exchange, Representation, Consumer}
use Rattle.hc_model.specs.Exchanges.{family, is_headless}
use Rattle.hc_model.specs.Currents.{is_number}
use Rattle.hc_model.specs.Cases.{case_at}
use Rattle.hc_model.specs.Reading.{bound, own_open, shared_exchange}
use Rattle.hc_model.specs.Writers.{loses_group, survivor}
use Rattle.hc_model.specs.Dooms.{doomed_key_of, is_key}
use Rattle.hc_model.specs.StartingOver.{awaited_exchange}
use Rattle.hc_model.specs.ExchangeRows.{exchange_heard}

-- BY ITS HEAD

abbrev pub is_refused : Option HeadCase → Bool
is_refused (Some case.DirectBad) = true
is_refused (Some case.TurnBad) = true
is_refused (Some case.FirstBad) = true
is_refused (Some case.FirstChanged) = true
is_refused (Some case.LaterBad) = true
is_refused (Some case.LaterChanged) = true
is_refused _ = false

abbrev pub brings_head : ℕ → Event → Bool
brings_head x (event.Head y response) = y == x
brings_head x _ = false

-- BY A DOOM

abbrev pub awaits : Option Consumer → ℕ → Bool
awaits None x = false
awaits (Some k) x = is_number (awaited_exchange k.place) x

-- of its key, while its consumer waits for its head, to found or to join by it
abbrev pub is_doomed : Tables → Entry → ℕ → Exchange → Bool
is_doomed t e x w =
    is_key (doomed_key_of t e) w.request.key && is_headless (Some w) && awaits (t.consumer w.c) x

-- BY A LOSS

-- nobody goes on with what it wrote for several
abbrev pub has_no_survivor : Tables → Entry → ℕ → ℕ → Option Representation → Bool
has_no_survivor t e x r None = false
has_no_survivor t e x r (Some v) =
    is_number v.writer x && loses_group t e r v && is_none (survivor t r v)

-- BY WHO LEAVES

abbrev pub leaver_by : Event → List Act → Option ℕ
leaver_by (event.Cancel c) acts = Some c
leaver_by _ acts = leaver_in acts

-- who is over from this entry on
abbrev pub leaver : Entry → Option ℕ
leaver e = leaver_by e.event e.acts

abbrev pub is_last_reader : Tables → ℕ → Place → Bool
is_last_reader t c (place.Bound r lo hi by) = list_all (λ d. d == c) (bound t r)
is_last_reader t c _ = false

-- it was the leaver's own, or that of a writer group whose last member the leaver was
abbrev pub is_left_by : Tables → ℕ → ℕ → Option Consumer → Bool
is_left_by t x c None = false
is_left_by t x c (Some k) =
    is_number (own_open t k) x || (is_number (shared_exchange t k.place) x && is_last_reader t c k.place)

abbrev pub is_left : Tables → ℕ → Option ℕ → Bool
is_left t x None = false
is_left t x (Some c) = is_left_by t x c (t.consumer c)

-- ALL CAUSES

abbrev pub must_close : Tables → Entry → ℕ → Exchange → Bool
must_close t e x w =
    (is_refused (case_at t e) && brings_head x e.event)
    || is_doomed t e x w
    || has_no_survivor t e x (family x w) (t.representation (family x w))
    || is_left t x (leaver e)

abbrev pub closes_row : Tables → Entry → ℕ → Option Exchange → Bool
closes_row t e x None = false
closes_row t e x (Some w) = must_close t e x w && (exchange_heard t e x e.event w).is_open

-- the exchanges that must be closed, in ascending order of their numbers: of those that the event leaves open
unfoldable pub closing : Tables → Entry → List ℕ
closing t e = filter (λ x. closes_row t e x (t.exchange x)) (reverse t.openings)
