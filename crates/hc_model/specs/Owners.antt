-- Whose an exchange is, and where its consumer waits for its head: what makes soundness inductive.
use Rattle.std.specs.Prelude.{◌≡◌, ℕ, true, false, Option, Some, None, is_some}
use Rattle.hc_event.specs.declared.act.Need.TheVariants as need
use Rattle.hc_rules.specs.declared.need.Route.TheVariants as route
use Rattle.hc_rules.specs.Needs.{route_of}
use Rattle.hc_rules.specs.Requests.{is_bypassing}
use Rattle.hc_event.specs.declared.place.Place.{Place}
use Rattle.hc_event.specs.declared.place.Place.TheVariants as place
use Rattle.hc_event.specs.declared.place.BoundBy.{BoundBy}
use Rattle.hc_event.specs.declared.place.BoundBy.TheVariants as by
use Rattle.hc_model.specs.Reading.{is_written, reads}
use Rattle.hc_model.specs.Sound.{IsBound, IsFirst}
use Rattle.hc_model.specs.Rows.{Tables, Exchange, Representation, Consumer}

-- where a consumer stands for whom this exchange waits for its head
pub data IsAwaiting (x : ℕ) (w : Exchange) (p : Place) : Type 0 where
  direct : route_of w.need ≡ route.Direct → p ≡ place.Direct x → IsAwaiting x w p
  turn : route_of w.need ≡ route.Turn → p ≡ place.Turn x → IsAwaiting x w p
  hole : (r lo : ℕ) (hi : Option ℕ) (by : BoundBy) → route_of w.need ≡ route.Hole →
      w.aim ≡ Some r → p ≡ place.Bound r lo hi by → IsAwaiting x w p

-- it is the own exchange of the consumer for which it was opened
pub record Awaits (t : Tables) (x : ℕ) (w : Exchange) : Type 0 where
  pub k : Consumer
  pub row : t.consumer w.c ≡ Some k
  pub own : k.own ≡ Some x
  pub at : IsAwaiting x w k.place

-- where a consumer stands whose open exchange has a head: it reads that past the store, or is bound
pub data IsReading (x : ℕ) (p : Place) : Type 0 where
  direct : p ≡ place.Direct x → IsReading x p
  bound : (r lo : ℕ) (hi : Option ℕ) (by : BoundBy) → p ≡ place.Bound r lo hi by → IsReading x p

-- who reads past the store and wasn't shown a head may be shown it, or waits for it
pub data IsPast (t : Tables) (x : ℕ) (k : Consumer) : Type 0 where
  answered : (w : Exchange) → t.exchange x ≡ Some w → is_some w.head ≡ true → IsPast t x k
  waits : (w : Exchange) → k.own ≡ Some x → t.exchange x ≡ Some w → w.is_open ≡ true →
      w.head ≡ None → IsPast t x k

-- the request of an exchange is of the key and the method of its consumer's
pub record IsOpener (t : Tables) (w : Exchange) : Type 0 where
  pub k : Consumer
  pub row : t.consumer w.c ≡ Some k
  pub key_is : w.request.key ≡ k.request.key
  pub method_is : w.request.method ≡ k.request.method
  pub plain : w.need ≡ need.Validate → is_bypassing k.request ≡ false

-- it was opened for this consumer
pub record IsFor (t : Tables) (x c : ℕ) : Type 0 where
  pub w : Exchange
  pub row : t.exchange x ≡ Some w
  pub for_it : w.c ≡ c

pub record Owners (t : Tables) : Type 0 where
  pub opener : (x : ℕ) (w : Exchange) → t.exchange x ≡ Some w → IsOpener t w
  pub there : (c x : ℕ) (k : Consumer) → t.consumer c ≡ Some k → k.own ≡ Some x →
      is_some (t.exchange x) ≡ true
  pub one : (c d x : ℕ) (k u : Consumer) → t.consumer c ≡ Some k → t.consumer d ≡ Some u →
      k.own ≡ Some x → u.own ≡ Some x → c ≡ d
  pub apart : (r x c : ℕ) (v : Representation) (k : Consumer) → t.representation r ≡ Some v →
      is_written t v ≡ true → v.writer ≡ Some x → t.consumer c ≡ Some k → k.own ≡ Some x → ⊥
  pub waiting : (x : ℕ) (w : Exchange) → t.exchange x ≡ Some w → w.is_open ≡ true →
      w.head ≡ None → Awaits t x w
  pub first_own : (c r lo y : ℕ) (hi : Option ℕ) (k : Consumer) → t.consumer c ≡ Some k →
      k.place ≡ place.Bound r lo hi (by.FirstHole y) → IsFor t y c
  pub passed : (c r : ℕ) (kept : Option ℕ) (k : Consumer) → t.consumer c ≡ Some k →
      k.place ≡ place.Passed r kept → is_bypassing k.request ≡ false
  pub writers : (r x : ℕ) (v : Representation) → t.representation r ≡ Some v →
      v.writer ≡ Some x → is_some (t.exchange x) ≡ true
  pub idle_due : (c : ℕ) (k : Consumer) → t.consumer c ≡ Some k → reads k.place ≡ false →
      k.due ≡ None
  pub first_due : (r c d : ℕ) (v : Representation) (k u : Consumer) → t.representation r ≡ Some v →
      v.is_lost ≡ false → IsFirst t r c → t.consumer c ≡ Some k → k.due ≡ None →
      IsBound t r d u → u.due ≡ None
  pub founders : (r : ℕ) (w : Exchange) (v : Representation) → t.exchange r ≡ Some w →
      t.representation r ≡ Some v → w.joined ≡ None
  pub reading : (c x : ℕ) (k : Consumer) (w : Exchange) → t.consumer c ≡ Some k →
      k.own ≡ Some x → t.exchange x ≡ Some w → w.is_open ≡ true → is_some w.head ≡ true →
      IsReading x k.place
  pub past : (c x : ℕ) (k : Consumer) → t.consumer c ≡ Some k → k.place ≡ place.Direct x →
      k.shown ≡ false → IsPast t x k
