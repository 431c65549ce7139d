-- What the list of entries says, entry by entry: filters, which the columns of the tables are.
use Rattle.std.specs.Prelude.{◌≡◌, ℕ, List, [], ◌∷◌, ◌++◌, length, Option, Some, None, is_none, is_some, option_map, option_and_then, if◌then◌else◌, ◌==◌, ◌||◌, ◌&&◌, not, Bool, true, false}
use Rattle.std.specs.Option.{option_map_or, option_or}
use Rattle.hc_sparse.specs.Cells.{Cells, nothing, cells_with}
use Rattle.hc_sparse.specs.declared.run.Run.{Run}
use Rattle.hc_event.specs.Filters.{Opening, opening_in, is_denied, given_in}
use Rattle.hc_event.specs.declared.event.Event.{Event}
use Rattle.hc_event.specs.declared.event.Event.TheVariants as event
use Rattle.hc_event.specs.declared.event.Request.{Request}
use Rattle.hc_event.specs.declared.event.Response.{Response}
use Rattle.hc_event.specs.declared.act.Need.{Need}
use Rattle.hc_event.specs.declared.act.Act.{Act}
use Rattle.hc_event.specs.declared.act.Act.TheVariants as act
use Rattle.hc_event.specs.declared.act.Why.{Why}
use Rattle.hc_rules.specs.declared.room.Limits.{Limits}
use Rattle.hc_model.specs.Entries.{Entry, History, Contents}
use Rattle.hc_model.specs.ActFilters.{loses_in}
use Rattle.hc_model.specs.Rows.{Tables, Exchange, Representation, Consumer}
use Rattle.hc_model.specs.Exchanges.{family, front}
use Rattle.hc_model.specs.Cases.{case_at, is_joining}
use Rattle.hc_model.specs.StartingOver.{starts_over}
use Rattle.hc_model.specs.Tables.{first_tables, tables}
use Rattle.hc_model.specs.Runs.{IsRun}

-- what each entry brings, the oldest first
abbrev pub each : {A : Type 0} → (Entry → List A) → History → List A
each f [] = []
each f (e ∷ h) = each f h ++ f e

-- the same, where an entry is judged by the tables before it
abbrev pub each_after : {A : Type 0} → (Tables → Entry → List A) → Contents → History → List A
each_after f contents [] = []
each_after f contents (e ∷ h) = each_after f contents h ++ f (tables contents h) e

abbrev pub first : {A : Type 0} → List A → Option A
first [] = None
first (x ∷ xs) = Some x

abbrev pub last : {A : Type 0} → List A → Option A
last [] = None
last (x ∷ xs) = option_or (last xs) (Some x)

abbrev pub if_accepted : {A : Type 0} → Entry → List A → List A
if_accepted e xs = if is_denied e.acts then [] else xs

-- WHAT EVENTS BROUGHT

abbrev pub request_in : ℕ → Event → List Request
request_in c (event.Start d request) = if d == c then request ∷ [] else []
request_in c _ = []

-- the request of a consumer: that of its accepted start
abbrev pub request_of : ℕ → History → Option Request
request_of c h = first (each (λ e. if_accepted e (request_in c e.event)) h)

-- a head, and the moment at which it came
pub record Answered : Type 0 where
  pub moment : ℕ
  pub response : Response

abbrev pub head_in : ℕ → ℕ → Event → List Answered
head_in x now (event.Head y response) =
    if y == x then record { moment = now; response = response } ∷ [] else []
head_in x now _ = []

-- the head of an exchange: its accepted one
abbrev pub head_of : ℕ → History → Option Answered
head_of x h = first (each (λ e. if_accepted e (head_in x e.now e.event)) h)

abbrev pub bytes_in : ℕ → Event → List ℕ
bytes_in x (event.Piece y bytes) = if y == x then bytes else []
bytes_in x _ = []

-- the bytes that an exchange delivered: those of its accepted pieces
abbrev pub delivered_of : ℕ → History → List ℕ
delivered_of x h = each (λ e. if_accepted e (bytes_in x e.event)) h

abbrev pub ends_in : ℕ → Event → Bool
ends_in x (event.End y) = y == x
ends_in x _ = false

-- an exchange ended: it had an accepted End
abbrev pub has_ended : ℕ → History → Bool
has_ended x [] = false
has_ended x (e ∷ h) = (not (is_denied e.acts) && ends_in x e.event) || has_ended x h

-- WHAT ACTS SAID

-- an exchange as it was opened
pub record Opened : Type 0 where
  pub c : ℕ
  pub need : Need
  pub request : Request
  pub moment : ℕ

abbrev pub opening_at : ℕ → ℕ → Option Opening → List Opened
opening_at x now None = []
opening_at x now (Some o) =
    if o.x == x
    then record { c = o.c; need = o.need; request = o.request; moment = now } ∷ [] else []

-- for whom, for what, with which request and when an exchange was opened
abbrev pub opening_of : ℕ → History → Option Opened
opening_of x h = first (each (λ e. opening_at x e.now (opening_in e.acts)) h)

-- the bytes that a consumer was given
abbrev pub given_of : ℕ → History → List ℕ
given_of c h = each (λ e. given_in c e.acts) h

-- what a consumer was shown: of which representation, why, and from where to where
pub record Shown : Type 0 where
  pub r : ℕ
  pub why : Why
  pub lo : ℕ
  pub hi : Option ℕ

abbrev pub shown_in : ℕ → List Act → List Shown
shown_in c [] = []
shown_in c (act.Shown d r why status fields lo hi ∷ acts) =
    if d == c then record { r = r; why = why; lo = lo; hi = hi } ∷ shown_in c acts
    else shown_in c acts
shown_in c (_ ∷ acts) = shown_in c acts

-- all that a consumer was shown
abbrev pub shown_of : ℕ → History → List Shown
shown_of c h = each (λ e. shown_in c e.acts) h

-- WHAT ENTRIES DID

abbrev pub joining_in : Tables → ℕ → Event → Option Exchange → List ℕ
joining_in t x (event.Head y response) (Some w) =
    if y == x then option_map_or (λ r. r ∷ []) w.aim [] else []
joining_in t x _ w = []

abbrev pub joining_at : ℕ → Tables → Entry → List ℕ
joining_at x t e =
    if is_joining (case_at t e) then joining_in t x e.event (t.exchange x) else []

-- the representation that an exchange joined by its head
abbrev pub joined_of : Contents → ℕ → History → Option ℕ
joined_of contents x h = first (each_after (λ t e. if_accepted e (joining_at x t e)) contents h)

abbrev pub piece_by : ℕ → ℕ → List ℕ → Option Exchange → Option Representation → List Run
piece_by r x bytes (Some w) (Some v) =
    if family x w == r then record { x = x; at = front w; bytes = bytes } ∷ [] else []
piece_by r x bytes w v = []

abbrev pub piece_in : Tables → ℕ → Event → List Run
piece_in t r (event.Piece x bytes) = piece_by r x bytes (t.exchange x) (t.representation r)
piece_in t r _ = []

-- the pieces that the family of a representation delivered, each at its place
abbrev pub pieces_of : Contents → ℕ → History → List Run
pieces_of contents r h = each_after (λ t e. if_accepted e (piece_in t r e.event)) contents h

-- a representation that stands is lost
abbrev pub loses_at : ℕ → Tables → Entry → Bool
loses_at r t e = is_some (t.representation r) && loses_in r e.acts

-- a representation was lost
abbrev pub was_lost : Contents → ℕ → History → Bool
was_lost contents r [] = false
was_lost contents r (e ∷ h) = loses_at r (tables contents h) e || was_lost contents r h

-- those of its pieces that came before it was lost
abbrev pub stored_of : Contents → ℕ → History → List Run
stored_of contents r [] = []
stored_of contents r (e ∷ h) =
    stored_of contents r h
    ++ (if was_lost contents r (e ∷ h) then []
    else if_accepted e (piece_in (tables contents h) r e.event))

-- pieces over what was there
abbrev pub over : List Run → Cells → Cells
over [] f = f
over (run ∷ runs) f = over runs (cells_with run.at run.x run.bytes f)

abbrev pub cells_in : Option Representation → Cells
cells_in None = nothing
cells_in (Some v) = v.body

-- what the store began with of a representation
abbrev pub begun_with : Contents → ℕ → Cells
begun_with contents r =
    cells_in ((first_tables contents).representation r)

abbrev pub start_in : ℕ → Event → Bool
start_in c (event.Start d request) = d == c
start_in c _ = false

abbrev pub starts_over_at : Tables → Entry → ℕ → Option Consumer → Bool
starts_over_at t e c None = start_in c e.event
starts_over_at t e c (Some k) = starts_over t e c k

abbrev pub start_at : ℕ → Tables → Entry → List ℕ
start_at c t e = if starts_over_at t e c (t.consumer c) then e.now ∷ [] else []

-- the moment at which a consumer started, or started over last
abbrev pub since_of : Contents → ℕ → History → Option ℕ
since_of contents c h = last (each_after (λ t e. if_accepted e (start_at c t e)) contents h)

-- THE COLUMNS ARE THESE

abbrev pub opened_in : Exchange → Opened
opened_in w = record { c = w.c; need = w.need; request = w.request; moment = w.opened }

abbrev pub answered_in : Exchange → Option Answered
answered_in w = option_map (λ response. record { moment = w.answered; response = response }) w.head

pub record AreExchanges (contents : Contents) (h : History) (t : Tables) : Type 0 where
  pub openings : (x : ℕ) → option_map opened_in (t.exchange x) ≡ opening_of x h
  pub heads : (x : ℕ) → option_and_then answered_in (t.exchange x) ≡ head_of x h
  pub bodies : (x : ℕ) →
      option_map_or (λ (w : Exchange). w.body) (t.exchange x) [] ≡ delivered_of x h
  pub ends : (x : ℕ) →
      option_map_or (λ (w : Exchange). w.is_ended) (t.exchange x) false ≡ has_ended x h
  pub joins : (x : ℕ) →
      option_and_then (λ (w : Exchange). w.joined) (t.exchange x) ≡ joined_of contents x h

pub record AreConsumers (contents : Contents) (h : History) (t : Tables) : Type 0 where
  pub requests : (c : ℕ) →
      option_map (λ (k : Consumer). k.request) (t.consumer c) ≡ request_of c h
  pub starts : (c : ℕ) →
      option_map (λ (k : Consumer). k.since) (t.consumer c) ≡ since_of contents c h
  pub offsets : (c : ℕ) →
      option_map_or (λ (k : Consumer). k.given) (t.consumer c) 0 ≡ length (given_of c h)
  pub shown : (c : ℕ) →
      option_map_or (λ (k : Consumer). not k.shown) (t.consumer c) true
      ≡ is_none (first (shown_of c h))

pub record IsFilteredRow (contents : Contents) (r : ℕ) (h : History) (v : Representation)
    : Type 0 where
  pub body : (p : ℕ) → v.body p ≡ over (pieces_of contents r h) (begun_with contents r) p
  pub stored : (p : ℕ) → v.stored p ≡ over (stored_of contents r h) (begun_with contents r) p
  pub lost : v.is_lost ≡ was_lost contents r h

abbrev pub AreRepresentations : Contents → History → Tables → Type 0
AreRepresentations contents h t =
    (r : ℕ) (v : Representation) → t.representation r ≡ Some v → IsFilteredRow contents r h v

pub record IsFiltered (contents : Contents) (h : History) : Type 0 where
  pub exchanges : AreExchanges contents h (tables contents h)
  pub consumers : AreConsumers contents h (tables contents h)
  pub representations : AreRepresentations contents h (tables contents h)

abbrev pub ConsumersAreFiltered : Type 0
ConsumersAreFiltered =
    (limits : Limits) (contents : Contents) (h : History) → IsRun limits contents h →
    AreConsumers contents h (tables contents h)

abbrev pub ExchangesAreFiltered : Type 0
ExchangesAreFiltered =
    (limits : Limits) (contents : Contents) (h : History) → IsRun limits contents h →
    AreExchanges contents h (tables contents h)

abbrev pub RunsAreFiltered : Type 0
RunsAreFiltered =
    (limits : Limits) (contents : Contents) (h : History) → IsRun limits contents h →
    IsFiltered contents h
