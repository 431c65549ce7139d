-- The case of a head that comes, by what is known of its exchange (RFC 9111 sections 3.3, 3.4 and 4.3).
use Rattle.std.specs.Prelude.{ℕ, List, Bool, true, false, Option, Some, None, ◌&&◌, option_map}
use Rattle.hc_range.specs.declared.range.Span.{Span}
use Rattle.hc_event.specs.declared.event.Event.{Event}
use Rattle.hc_event.specs.declared.event.Event.TheVariants as event
use Rattle.hc_event.specs.declared.event.Response.{Response}
use Rattle.hc_event.specs.declared.act.Need.{Need}
use Rattle.hc_event.specs.declared.act.Need.TheVariants as need
use Rattle.hc_rules.specs.declared.heads.HeadCase.{HeadCase}
use Rattle.hc_rules.specs.declared.heads.HeadCase.TheVariants as case
use Rattle.hc_rules.specs.declared.heads.HeadView.{HeadView}
use Rattle.hc_rules.specs.HeadCases.{head_case, is_conditional, is_storable, fits_to_found}
use Rattle.hc_rules.specs.Joins.{joins}
use Rattle.hc_rules.specs.Lengths.{length_of, is_bad, is_same_number}
use Rattle.hc_rules.specs.Requests.{range_of}
use Rattle.hc_validate.specs.Selection.{selects}
use Rattle.hc_model.specs.Entries.{Entry}
use Rattle.hc_model.specs.ActFilters.{has_loss}
use Rattle.hc_model.specs.Rows.{Tables, Exchange, Representation, Consumer}
use Rattle.hc_model.specs.Currents.{current, row_of}

abbrev pub was_shown : Option Consumer → Bool
was_shown None = false
was_shown (Some k) = k.shown

abbrev pub selects_row : Option Representation → Response → Bool
selects_row None response = false
selects_row (Some v) response = selects v.head response

-- the 304 is about the representation of its exchange, which is still current
abbrev pub validates : Tables → Exchange → Response → Bool
validates t w response =
    is_same_number (current t w.request.key) w.aim && selects_row (row_of t w.aim) response

-- the part fits to found for the consumer of the exchange
abbrev pub fits_asker : Option Consumer → Response → Bool
fits_asker None response = false
fits_asker (Some k) response = fits_to_found (range_of k.request) response

abbrev pub joins_by : Option (List ℕ) → Option ℕ → Span → Response → Bool
joins_by (Some opaque) (Some total) hole response = joins (false, opaque) total hole response
joins_by _ _ hole response = false

-- the head brings bytes of the hole, from the representation of its exchange
abbrev pub joins_row : Need → Option Representation → Response → Bool
joins_row (need.Hole from to) (Some v) response =
    joins_by v.head.joining v.head.total (record { lo = from; hi = to }) response
joins_row _ v response = false

-- what the table of the cases looks at, where a write of this head is lost or isn't
abbrev pub head_view : Tables → Bool → Exchange → Response → HeadView
head_view t lost w response = record {
  need = w.need;
  shown = was_shown (t.consumer w.c);
  status = response.status;
  bad = is_bad (length_of w.need w.request response);
  conditional = is_conditional w.need w.request;
  selects = validates t w response;
  storable = is_storable w.request response;
  fits = fits_asker (t.consumer w.c) response;
  joins = joins_row w.need (row_of t w.aim) response;
  lost = lost;
}

-- the case of the head that an event brings
unfoldable pub case_of : Tables → Bool → Event → Option HeadCase
case_of t lost (event.Head x response) =
    option_map (λ w. head_case (head_view t lost w response)) (t.exchange x)
case_of t lost _ = None

-- the case of the head of an entry, which sees what the entry loses
abbrev pub case_at : Tables → Entry → Option HeadCase
case_at t e = case_of t (has_loss e.acts) e.event

-- the exchange of the head becomes a representation
abbrev pub is_founding : Option HeadCase → Bool
is_founding (Some case.FoundsWhole) = true
is_founding (Some case.FoundsRange) = true
is_founding (Some case.FirstReplaced) = true
is_founding _ = false

-- the exchange of the head joins the representation that it is about
abbrev pub is_joining : Option HeadCase → Bool
is_joining (Some case.FirstJoins) = true
is_joining (Some case.LaterJoins) = true
is_joining _ = false

-- the head updates the stored one (RFC 9111 section 3.2)
abbrev pub is_updating : Option HeadCase → Bool
is_updating (Some case.Validated) = true
is_updating other = is_joining other
