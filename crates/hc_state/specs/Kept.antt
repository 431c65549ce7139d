-- What is kept of consumers and exchanges is what the tables say of them.
use Rattle.std.specs.Prelude.{◌≡◌, ℕ, ◌-◌, List, [], length, drop, Bool, true, false, Option, Some, None, is_some, is_none, if◌then◌else◌, ◌==◌, ◌&&◌}
use Rattle.hc_event.specs.declared.event.Response.{Response}
use Rattle.hc_rules.specs.Requests.{is_disabled, is_only}
use Rattle.hc_event.specs.declared.place.Place.{Place}
use Rattle.hc_event.specs.declared.place.Place.TheVariants as place
use Rattle.hc_model.specs.Rows as rows
use Rattle.hc_model.specs.Rows.{Tables, Exchange, Representation}
use Rattle.hc_model.specs.Currents.{is_number}
use Rattle.hc_model.specs.Exchanges.{base, front, family, promised_bytes, is_open}
use Rattle.hc_model.specs.Holes.{absent_from}
use Rattle.hc_model.specs.Reading.{lo_of, hi_of, offset, is_bound_place}
use Rattle.hc_model.specs.Denials.{is_live, is_live_place}
use Rattle.hc_rules.specs.declared.need.Route.{Route}
use Rattle.hc_rules.specs.declared.need.Route.TheVariants as route
use Rattle.hc_rules.specs.Needs.{route_of}
use Rattle.hc_exch.specs.declared.role.Role.{Role}
use Rattle.hc_exch.specs.declared.role.Role.TheVariants as role
use Rattle.hc_exch.specs.declared.row.Open.{Open}
use Rattle.hc_exch.specs.Known.{Known}
use Rattle.hc_txn.specs.declared.transaction.Transaction.{Transaction as Consumer}

-- CONSUMERS

abbrev pub head_in : Option Exchange → Option Response
head_in None = None
head_in (Some w) = w.head

abbrev pub answer_at : Tables → Place → Option Response
answer_at t (place.Direct x) = head_in (t.exchange x)
answer_at t _ = None

-- the head of an answer past the store that is to be shown
abbrev pub answer_for : Tables → rows.Consumer → Option Response
answer_for t v = if v.shown then None else answer_at t v.place

-- A consumer is kept as the tables have it. Since when it waits is looked at only where it may wait
-- for another.
pub record IsKept (t : Tables) (k : Consumer) (v : rows.Consumer) : Type 0 where
  pub is_there : is_live_place v.place ≡ true
  pub request : k.request ≡ v.request
  pub since : is_disabled v.request ≡ false → is_only v.request ≡ false → k.since ≡ v.since
  pub place : k.place ≡ v.place
  pub own : k.own ≡ v.own
  pub shown : k.shown ≡ v.shown
  pub answer : k.answer ≡ answer_for t v
  pub begins : k.lo ≡ lo_of t v.place
  pub ends : k.hi ≡ hi_of t v.place
  pub given : k.given ≡ v.given
  pub due : k.due ≡ v.due

-- who isn't kept isn't live
abbrev pub KeepsConsumer : Tables → Option Consumer → Option rows.Consumer → Type 0
KeepsConsumer t None row = is_live row ≡ false
KeepsConsumer t (Some k) None = ⊥
KeepsConsumer t (Some k) (Some v) = IsKept t k v

-- EXCHANGES

-- what an exchange is to the cache until its head comes
abbrev pub role_awaited : Route → Option ℕ → Role
role_awaited route.Turn aim = role.Turn aim
role_awaited route.Hole (Some r) = role.Hole r
role_awaited _ aim = role.Direct

-- and then: it brings a representation, or goes past the store
abbrev pub role_of : Tables → ℕ → Exchange → Role
role_of t x w =
    if is_none w.head then role_awaited (route_of w.need) w.aim
    else if is_some (t.representation (family x w)) then role.Body (family x w) else role.Direct

-- An open exchange is kept as the tables have it.
pub record IsRunning (t : Tables) (x : ℕ) (o : Open) (w : Exchange) : Type 0 where
  pub is_open : w.is_open ≡ true
  pub c : o.c ≡ w.c
  pub need : o.need ≡ w.need
  pub request : o.request ≡ w.request
  pub moment : o.moment ≡ w.opened
  pub headed : o.headed ≡ is_some w.head
  pub asked : o.asked ≡ w.asked
  pub base_is : o.base ≡ base w
  pub delivered : o.delivered ≡ length w.body
  pub promised_is : o.promised ≡ promised_bytes w
  pub role : o.role ≡ role_of t x w

-- what isn't kept isn't open
abbrev pub KeepsRunning : Tables → ℕ → Option Open → Option Exchange → Type 0
KeepsRunning t x None row = is_open row ≡ false
KeepsRunning t x (Some o) None = ⊥
KeepsRunning t x (Some o) (Some w) = IsRunning t x o w

-- WHAT IS HELD

abbrev pub is_direct : Place → ℕ → Bool
is_direct (place.Direct y) x = y == x
is_direct _ x = false

-- what its consumer has yet to read of it past the store
abbrev pub unread : ℕ → Exchange → Option rows.Consumer → List ℕ
unread x w None = []
unread x w (Some k) = if is_direct k.place x then drop k.given w.body else []

-- the first position ahead of a consumer, up to where an exchange stands, of which nothing is stored
abbrev pub first_lacking : Tables → Exchange → Representation → rows.Consumer → ℕ
first_lacking t w v k = absent_from v.stored v.reach (offset t k) (front w)

-- what came of its own exchange, and isn't stored
abbrev pub unstored_bytes : Tables → ℕ → Exchange → Representation → Option rows.Consumer → List ℕ
unstored_bytes t x w v None = []
unstored_bytes t x w v (Some k) =
    if is_bound_place (family x w) k.place && is_number k.own x
    then drop (first_lacking t w v k - base w) w.body else []

-- for the detached reader
abbrev pub held_alone : Tables → ℕ → Exchange → Representation → Option ℕ → List ℕ
held_alone t x w v None = []
held_alone t x w v (Some c) = unstored_bytes t x w v (t.consumer c)

abbrev pub held_of : Tables → ℕ → Exchange → Option Representation → List ℕ
held_of t x w None = unread x w (t.consumer w.c)
held_of t x w (Some v) = held_alone t x w v v.alone

-- what is held of an exchange: what it brought past the store, or after a loss, and wasn't given yet
abbrev pub held_for : Tables → ℕ → Option Exchange → List ℕ
held_for t x None = []
held_for t x (Some w) = held_of t x w (t.representation (family x w))

pub record KeepsExchange (t : Tables) (x : ℕ) (known : Known) : Type 0 where
  pub running : KeepsRunning t x known.running (t.exchange x)
  pub held : known.held ≡ held_for t x (t.exchange x)
