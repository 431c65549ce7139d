-- What holds of a consumer by its place, in every run.
use Rattle.std.specs.Prelude.{◌≡◌, ℕ, ◌≤◌, [], length, Bool, true, false, Option, Some, None, is_some}
use Rattle.hc_event.specs.declared.act.Cause.{Cause}
use Rattle.hc_event.specs.declared.act.Cause.TheVariants as cause
use Rattle.hc_rules.specs.declared.need.Route.TheVariants as route
use Rattle.hc_rules.specs.Needs.{route_of}
use Rattle.hc_rules.specs.Requests.{is_disabled, is_only}
use Rattle.hc_event.specs.declared.place.Place.TheVariants as place
use Rattle.hc_event.specs.declared.place.BoundBy.{BoundBy}
use Rattle.hc_event.specs.declared.place.BoundBy.TheVariants as by
use Rattle.hc_model.specs.Exchanges.{family, promised_bytes}
use Rattle.hc_model.specs.Reading.{own_open}
use Rattle.hc_model.specs.Rows.{Tables, Exchange, Consumer}

-- the failure is that of a read of the store: it is told at once, and never due
abbrev pub is_failed_read : Option Cause → Bool
is_failed_read None = false
is_failed_read (Some (cause.StoreRead r)) = true
is_failed_read (Some _) = false

-- it reads nothing yet: it was shown no head and given nothing, and no failure is due
pub record IsIdle (k : Consumer) : Type 0 where
  pub unshown : k.shown ≡ false
  pub ungiven : k.given ≡ 0
  pub undue : k.due ≡ None

-- nor does an exchange of its own bring anything
pub record IsAway (t : Tables) (k : Consumer) : Type 0 where
  pub idle : IsIdle k
  pub unowned : own_open t k ≡ None

-- it may read from the store, and ask the origin
pub record Queues (k : Consumer) : Type 0 where
  pub cached : is_disabled k.request ≡ false
  pub asks : is_only k.request ≡ false

-- it has the turn, and waits for the head of the exchange that was opened for that
pub record AwaitsTurn (t : Tables) (c x : ℕ) (k : Consumer) : Type 0 where
  pub w : Exchange
  pub row : t.exchange x ≡ Some w
  pub for_it : w.c ≡ c
  pub own : k.own ≡ Some x
  pub by_turn : route_of w.need ≡ route.Turn
  pub is_open : w.is_open ≡ true
  pub headless : w.head ≡ None
  pub idle : IsIdle k

-- what it reads past the store is still to begin: it was opened for that
pub record IsUnheard (w : Exchange) (k : Consumer) : Type 0 where
  pub past : route_of w.need ≡ route.Direct
  pub is_open : w.is_open ≡ true
  pub unshown : k.shown ≡ false
  pub empty : w.body ≡ []
  pub undue : k.due ≡ None

-- it reads the answer of its own exchange, which is no representation and joined none
pub record ReadsPast (t : Tables) (c x : ℕ) (k : Consumer) : Type 0 where
  pub w : Exchange
  pub row : t.exchange x ≡ Some w
  pub for_it : w.c ≡ c
  pub own : k.own ≡ Some x
  pub unjoined : w.joined ≡ None
  pub unfounded : t.representation x ≡ None
  pub given : k.given ≤ length w.body
  pub unheard : w.head ≡ None → IsUnheard w k
  pub undue : w.is_open ≡ true → k.due ≡ None

-- who reads an exchange past the store
pub record IsReadPast (t : Tables) (x : ℕ) (w : Exchange) : Type 0 where
  pub k : Consumer
  pub row : t.consumer w.c ≡ Some k
  pub place_is : k.place ≡ place.Direct x

-- by its place: who reads nothing has no open exchange but the one of its turn, who was shown no head was
-- given nothing, and what an open exchange past the store brings is read
pub record Places (t : Tables) : Type 0 where
  pub line : (c : ℕ) (k : Consumer) → t.consumer c ≡ Some k → k.place ≡ place.Line → IsAway t k
  pub passed : (c r : ℕ) (kept : Option ℕ) (k : Consumer) → t.consumer c ≡ Some k →
      k.place ≡ place.Passed r kept → IsAway t k
  pub turn : (c x : ℕ) (k : Consumer) → t.consumer c ≡ Some k → k.place ≡ place.Turn x →
      AwaitsTurn t c x k
  pub direct : (c x : ℕ) (k : Consumer) → t.consumer c ≡ Some k → k.place ≡ place.Direct x →
      ReadsPast t c x k
  pub down : (c : ℕ) (why : Cause) (k : Consumer) → t.consumer c ≡ Some k →
      k.place ≡ place.Down why → IsAway t k
  pub over : (c : ℕ) (k : Consumer) → t.consumer c ≡ Some k → k.place ≡ place.Over →
      own_open t k ≡ None
  pub turn_queues : (c x : ℕ) (k : Consumer) → t.consumer c ≡ Some k → k.place ≡ place.Turn x →
      Queues k
  pub passed_queues : (c r : ℕ) (kept : Option ℕ) (k : Consumer) → t.consumer c ≡ Some k →
      k.place ≡ place.Passed r kept → Queues k
  pub bound_cached : (c r lo : ℕ) (hi : Option ℕ) (by : BoundBy) (k : Consumer) →
      t.consumer c ≡ Some k → k.place ≡ place.Bound r lo hi by → is_disabled k.request ≡ false
  pub direct_asks : (c x : ℕ) (k : Consumer) → t.consumer c ≡ Some k → k.place ≡ place.Direct x →
      is_only k.request ≡ false
  pub down_asks : (c : ℕ) (why : Cause) (k : Consumer) → t.consumer c ≡ Some k →
      k.place ≡ place.Down why → is_only k.request ≡ false
  pub first_asks : (c r lo y : ℕ) (hi : Option ℕ) (k : Consumer) → t.consumer c ≡ Some k →
      k.place ≡ place.Bound r lo hi (by.FirstHole y) → is_only k.request ≡ false
  pub line_unowned : (c : ℕ) (k : Consumer) → t.consumer c ≡ Some k → k.place ≡ place.Line →
      k.own ≡ None
  pub ungiven : (c : ℕ) (k : Consumer) → t.consumer c ≡ Some k → k.shown ≡ false → k.given ≡ 0
  pub reported : (c : ℕ) (k : Consumer) → t.consumer c ≡ Some k → is_failed_read k.due ≡ false
  pub down_reported : (c : ℕ) (why : Cause) (k : Consumer) → t.consumer c ≡ Some k →
      k.place ≡ place.Down why → is_failed_read (Some why) ≡ false
  pub read : (x : ℕ) (w : Exchange) → t.exchange x ≡ Some w → w.is_open ≡ true →
      is_some w.head ≡ true → t.representation (family x w) ≡ None → IsReadPast t x w
  pub received : (x : ℕ) (w : Exchange) → t.exchange x ≡ Some w → length w.body ≤ t.received
  pub promised_most : (x n : ℕ) (w : Exchange) → t.exchange x ≡ Some w → promised_bytes w ≡ Some n →
      length w.body ≤ n
  pub ended : (x : ℕ) (w : Exchange) → t.exchange x ≡ Some w → w.is_ended ≡ true →
      w.is_open ≡ false
