-- What an entry leaves as it was: what it doesn't speak of.
use Rattle.std.specs.Prelude.{◌≡◌, ℕ, List, Bool, true, false, Option, Some, None, if◌then◌else◌, ◌==◌, ◌||◌, ◌&&◌, not}
use Rattle.hc_event.specs.Filters.{asks_in, closes_in, evicts_in, opening_in, Opening}
use Rattle.hc_event.specs.declared.event.Event.{Event}
use Rattle.hc_event.specs.declared.event.Event.TheVariants as event
use Rattle.hc_event.specs.declared.event.Response.{Response}
use Rattle.hc_rules.specs.declared.heads.HeadCase.{HeadCase}
use Rattle.hc_rules.specs.declared.heads.HeadCase.TheVariants as case
use Rattle.hc_rules.specs.declared.room.Limits.{Limits}
use Rattle.hc_rules.specs.Lengths.{is_same_number}
use Rattle.hc_rules.specs.Statuses.{brings_whole}
use Rattle.hc_event.specs.declared.place.Place.{Place}
use Rattle.hc_event.specs.declared.place.Place.TheVariants as place
use Rattle.hc_model.specs.ActFilters.{loses_in, misreads_in}
use Rattle.hc_model.specs.Cases.{case_at, is_founding}
use Rattle.hc_model.specs.ConsumerRows.{own_after, due_after, back_in_line}
use Rattle.hc_model.specs.Currents.{current, is_current, is_number}
use Rattle.hc_model.specs.Denials.{denial}
use Rattle.hc_model.specs.Dooms.{doomed_key_of, bypass_key}
use Rattle.hc_model.specs.Effects.{waits_for}
use Rattle.hc_model.specs.Entries.{Entry}
use Rattle.hc_model.specs.Evictions.{unevicting_entry}
use Rattle.hc_model.specs.Exchanges.{family, exchange_in, is_for}
use Rattle.hc_model.specs.Flaws.{Flaw}
use Rattle.hc_model.specs.Gone.{becomes_gone, goes_in, goes_by_case, is_current_of, is_keepable, stops_early}
use Rattle.hc_model.specs.Keys.{entry_of}
use Rattle.hc_model.specs.Owners.{Owners}
use Rattle.hc_model.specs.Reading.{bound, is_bound, source}
use Rattle.hc_model.specs.RepresentationRows.{updates}
use Rattle.hc_model.specs.Rows.{Tables, Exchange, Representation, Consumer}
use Rattle.hc_model.specs.Sound.{Sound}
use Rattle.hc_model.specs.StartingOver.{starts_over, waits_at}
use Rattle.hc_model.specs.Tables.{after_accepted, founds}
use Rattle.hc_model.specs.Writers.{loses_group}

-- THE PARTS OF A REPRESENTATION

abbrev pub updates_row : Tables → Entry → ℕ → Representation → Option Exchange → Bool
updates_row t e r v None = false
updates_row t e r v (Some w) = updates t e r w v

-- the head that comes updates it
abbrev pub is_headed : Tables → Entry → ℕ → Representation → Event → Bool
is_headed t e r v (event.Head x response) = updates_row t e r v (t.exchange x)
is_headed t e r v _ = false

abbrev pub is_of_family : ℕ → ℕ → Option Exchange → Bool
is_of_family r x None = false
is_of_family r x (Some w) = family x w == r

-- a piece of its family comes
abbrev pub is_filled : Tables → ℕ → Event → Bool
is_filled t r (event.Piece x bytes) = is_of_family r x (t.exchange x)
is_filled t r _ = false

-- the exchange that founded it ends
abbrev pub is_ended : ℕ → Event → Bool
is_ended r (event.End x) = x == r
is_ended r _ = false

-- Each part stays but where an entry speaks of it.
pub record KeepsParts (t : Tables) (e : Entry) (r : ℕ) (v u : Representation) : Type 0 where
  pub key : u.key ≡ v.key
  pub head : is_headed t e r v e.event ≡ false → is_ended r e.event ≡ false → u.head ≡ v.head
  pub writer : is_headed t e r v e.event ≡ false → u.writer ≡ v.writer
  pub body : is_filled t r e.event ≡ false → u.body ≡ v.body
  pub stored : is_filled t r e.event ≡ false → u.stored ≡ v.stored
  pub reach : is_filled t r e.event ≡ false → u.reach ≡ v.reach
  pub size : is_filled t r e.event ≡ false → u.size ≡ v.size
  pub lost : u.is_lost ≡ (loses_in r e.acts || v.is_lost)
  pub alone : loses_in r e.acts ≡ false → u.alone ≡ v.alone
  pub gone : u.is_gone ≡ (becomes_gone t e r v || v.is_gone)

pub record IsKeptIn (t : Tables) (e : Entry) (r : ℕ) (v : Representation) : Type 0 where
  pub u : Representation
  pub row : (after_accepted t e).representation r ≡ Some u
  pub parts : KeepsParts t e r v u

abbrev pub PartsAreKept : Type 0
PartsAreKept =
    (t : Tables) (e : Entry) (r : ℕ) (v : Representation) → t.representation r ≡ Some v →
    IsKeptIn t e r v

-- A WHOLE ROW

-- what an answer of each case is about, or replaces
abbrev pub answers_about : Tables → ℕ → Option HeadCase → Exchange → Bool
answers_about t r (Some case.Validated) w = is_number w.aim r
answers_about t r (Some case.NotValidated) w = is_number w.aim r
answers_about t r (Some case.FoundsWhole) w = is_current_of t w r
answers_about t r (Some case.FoundsRange) w = is_current_of t w r
answers_about t r (Some case.PassesBy) w = is_current_of t w r
answers_about t r (Some case.FirstJoins) w = is_number w.aim r
answers_about t r (Some case.FirstChanged) w = is_number w.aim r
answers_about t r (Some case.FirstReplaced) w = is_number w.aim r || is_current_of t w r
answers_about t r (Some case.FirstPassesBy) w = is_number w.aim r || is_current_of t w r
answers_about t r (Some case.LaterJoins) w = is_number w.aim r
answers_about t r (Some case.LaterChanged) w = is_number w.aim r
answers_about t r _ w = false

abbrev pub head_about : Tables → Entry → ℕ → Option Exchange → Bool
head_about t e r None = false
head_about t e r (Some w) = answers_about t r (case_at t e) w

-- the event is of r: its head founds, updates or replaces it, its piece is of its family, or it stops what founded it
abbrev pub is_event_of : Tables → Entry → ℕ → Event → Bool
is_event_of t e r (event.Head x response) = x == r || head_about t e r (t.exchange x)
is_event_of t e r (event.Piece x bytes) = is_of_family r x (t.exchange x)
is_event_of t e r (event.End x) = x == r
is_event_of t e r (event.Fault x) = x == r
is_event_of t e r _ = false

abbrev pub is_current_for : Tables → Option (List ℕ) → ℕ → Bool
is_current_for t None r = false
is_current_for t (Some key) r = is_current t key r

-- an act names it, or the exchange that founded it
abbrev pub are_acts_of : ℕ → Entry → Bool
are_acts_of r e =
    loses_in r e.acts || misreads_in r e.acts || evicts_in r e.acts || closes_in r e.acts

-- the entry speaks of r
abbrev pub speaks_of : Tables → Entry → ℕ → Bool
speaks_of t e r =
    is_event_of t e r e.event || is_current_for t (doomed_key_of t e) r || is_current_for t (bypass_key e) r
    || are_acts_of r e

abbrev pub OthersStay : Type 0
OthersStay =
    (t : Tables) (e : Entry) (r : ℕ) → speaks_of t e r ≡ false →
    (after_accepted t e).representation r ≡ t.representation r

-- nor does it go
abbrev pub OthersDontGo : Type 0
OthersDontGo =
    (t : Tables) (e : Entry) (r : ℕ) (v : Representation) → speaks_of t e r ≡ false →
    becomes_gone t e r v ≡ false

-- why r goes
pub data GoesBy (t : Tables) (e : Entry) (r : ℕ) (v : Representation) : Type 0 where
  by_doom : current t v.key ≡ Some r → doomed_key_of t e ≡ Some v.key → GoesBy t e r v
  by_bypass : current t v.key ≡ Some r → bypass_key e ≡ Some v.key → GoesBy t e r v
  by_head : (x : ℕ) (response : Response) (w : Exchange) → e.event ≡ event.Head x response →
      t.exchange x ≡ Some w → goes_by_case t e r (case_at t e) w ≡ true → GoesBy t e r v
  by_loss : loses_in r e.acts ≡ true → GoesBy t e r v
  by_misread : misreads_in r e.acts ≡ true → GoesBy t e r v
  by_stop : (w : Exchange) → t.exchange r ≡ Some w → w.is_open ≡ true → brings_whole v.head.status ≡ true →
      is_keepable v ≡ false → (stops_early w r e.event || closes_in r e.acts) ≡ true →
      GoesBy t e r v
  by_eviction : evicts_in r e.acts ≡ true → GoesBy t e r v

abbrev pub GoneIsCaused : Type 0
GoneIsCaused =
    (t : Tables) (e : Entry) (r : ℕ) (v : Representation) → becomes_gone t e r v ≡ true →
    GoesBy t e r v

-- EXCHANGES

abbrev pub is_opened : ℕ → Option Opening → Bool
is_opened x None = false
is_opened x (Some o) = o.x == x

-- the event is of x, or an act names it
abbrev pub speaks_of_exchange : Entry → ℕ → Bool
speaks_of_exchange e x =
    is_number (exchange_in e.event) x || asks_in x e.acts || closes_in x e.acts
    || is_opened x (opening_in e.acts)

abbrev pub ExchangesStay : Type 0
ExchangesStay =
    (t : Tables) (e : Entry) (x : ℕ) → speaks_of_exchange e x ≡ false →
    (after_accepted t e).exchange x ≡ t.exchange x

-- CONSUMERS

-- the event is its own, or one of an exchange that was opened for it
abbrev pub is_event_for : Tables → ℕ → Event → Bool
is_event_for t c (event.Start d request) = d == c
is_event_for t c (event.Poll d want) = d == c
is_event_for t c (event.Head x response) = is_for (t.exchange x) c
is_event_for t c (event.Fault x) = is_for (t.exchange x) c
is_event_for t c (event.Cancel d) = d == c
is_event_for t c _ = false

-- at another's event: a failure may become due, and the exchange of a lost writing its own
abbrev pub beside : Tables → Entry → ℕ → Consumer → Consumer
beside t e c k = due_after t e c k (record k { own = own_after t e c k.place k.own })

-- the entry that is owed at an event, whole or without its evictions
pub data IsEntry (limits : Limits) (t : Tables) (now : ℕ) (event : Event) (flaw : Flaw) :
    Entry → Type 0 where
  whole : IsEntry limits t now event flaw (entry_of limits t now event flaw)
  unevicting : IsEntry limits t now event flaw (unevicting_entry t now event flaw)

-- Who isn't spoken to stands where it stood, unless it starts over.
abbrev pub StandersStay : Type 0
StandersStay =
    (limits : Limits) (t : Tables) (now : ℕ) (event : Event) (flaw : Flaw) (e : Entry) →
    IsEntry limits t now event flaw e → (c : ℕ) (k : Consumer) → t.consumer c ≡ Some k →
    is_event_for t c event ≡ false →
    (after_accepted t e).consumer c
    ≡ Some (if starts_over t e c k then back_in_line now k else beside t e c k)

-- why it starts over at another's event
pub data StartsOverBy (t : Tables) (e : Entry) (k : Consumer) : Type 0 where
  by_doom : doomed_key_of t e ≡ Some k.request.key → waits_at t k.place ≡ true → StartsOverBy t e k
  by_going : (r : ℕ) (kept : Option ℕ) → k.place ≡ place.Passed r kept →
      goes_in t e r (t.representation r) ≡ true → StartsOverBy t e k

abbrev pub StartingOverIsCaused : Type 0
StartingOverIsCaused =
    (t : Tables) (e : Entry) (c : ℕ) (k : Consumer) → is_event_for t c e.event ≡ false →
    starts_over t e c k ≡ true → StartsOverBy t e k

abbrev pub loses_row : Tables → Entry → ℕ → Option Representation → Bool
loses_row t e r None = false
loses_row t e r (Some v) = loses_group t e r v

-- what is written for it and others is lost
abbrev pub loses_reading : Tables → Entry → Place → Bool
loses_reading t e (place.Bound r lo hi by) = loses_row t e r (t.representation r)
loses_reading t e _ = false

-- what it reads from stops, or is lost
abbrev pub is_hit : Tables → Entry → Consumer → Bool
is_hit t e k =
    is_same_number (source t k) (exchange_in e.event) || loses_reading t e k.place

-- Where that isn't so either, its row stays.
abbrev pub ReadersStay : Type 0
ReadersStay =
    (limits : Limits) (t : Tables) (now : ℕ) (event : Event) (flaw : Flaw) (e : Entry) →
    IsEntry limits t now event flaw e → Owners t → (c : ℕ) (k : Consumer) →
    t.consumer c ≡ Some k → is_event_for t c event ≡ false → starts_over t e c k ≡ false →
    is_hit t e k ≡ false → (after_accepted t e).consumer c ≡ Some k

abbrev pub goes_back : Tables → Entry → ℕ → Option Consumer → Bool
goes_back t e c None = false
goes_back t e c (Some k) = starts_over t e c k

abbrev pub has_passed_in : ℕ → Option Consumer → Bool
has_passed_in r None = false
has_passed_in r (Some k) = waits_for r k.place

-- At another's event one is bound, or was let through, to what it was before, unless it starts over.
pub record StandsStill (t u : Tables) (e : Entry) (c : ℕ) : Type 0 where
  pub bound_is : (r : ℕ) → is_bound r (u.consumer c)
      ≡ (is_bound r (t.consumer c) && not (goes_back t e c (t.consumer c)))
  pub passed_is : (r : ℕ) → has_passed_in r (u.consumer c)
      ≡ (has_passed_in r (t.consumer c) && not (goes_back t e c (t.consumer c)))

abbrev pub OthersStandStill : Type 0
OthersStandStill =
    (limits : Limits) (t : Tables) (now : ℕ) (event : Event) (flaw : Flaw) (e : Entry) →
    IsEntry limits t now event flaw e → (c : ℕ) → is_event_for t c event ≡ false →
    StandsStill t (after_accepted t e) e c

-- Where nobody becomes bound to r, nor is any more, those stay who are.
abbrev pub BoundStay : Type 0
BoundStay =
    (t : Tables) (e : Entry) → Sound t → denial t e.event ≡ None → (r : ℕ) →
    ((c : ℕ) → is_bound r ((after_accepted t e).consumer c) ≡ is_bound r (t.consumer c)) →
    bound (after_accepted t e) r ≡ bound t r

-- WHAT IS CURRENT

-- what is founded is of another key, if anything is
abbrev pub FoundsOther : Tables → Entry → List ℕ → Type 0
FoundsOther t e key =
    (r : ℕ) (w : Exchange) → founds t e ≡ Some r → t.exchange r ≡ Some w → w.request.key ≡ key → ⊥

abbrev pub unless_gone : Tables → Entry → Option ℕ → Option ℕ
unless_gone t e None = None
unless_gone t e (Some r) = if goes_in t e r (t.representation r) then None else Some r

-- What is current stays so unless it goes, where nothing else of its key is founded.
abbrev pub CurrentStays : Type 0
CurrentStays =
    (t : Tables) (e : Entry) → Sound t → (key : List ℕ) → FoundsOther t e key →
    current (after_accepted t e) key ≡ unless_gone t e (current t key)

-- What is founded is current.
abbrev pub FoundedIsCurrent : Type 0
FoundedIsCurrent =
    (t : Tables) (e : Entry) (x : ℕ) (response : Response) (w : Exchange) →
    e.event ≡ event.Head x response → t.exchange x ≡ Some w → t.representation x ≡ None →
    is_founding (case_at t e) ≡ true → current (after_accepted t e) w.request.key ≡ Some x
