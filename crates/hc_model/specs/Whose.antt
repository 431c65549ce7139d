-- Whose an exchange is: who has to be looked at when it stops.
use Rattle.std.specs.Prelude.{◌≡◌, ℕ, List, [], Bool, true, false, Some, None}
use Rattle.hc_event.specs.declared.place.Place.{Place}
use Rattle.hc_event.specs.declared.place.Place.TheVariants as place
use Rattle.hc_model.specs.Exchanges.{family}
use Rattle.hc_model.specs.Reading.{is_written, bound, own_open}
use Rattle.hc_model.specs.Rows.{Tables, Exchange, Representation, Consumer}
use Rattle.hc_model.specs.Sound.{IsBound, IsAbout}

-- where a consumer stands that an exchange of its own still brings something
abbrev pub may_own : Place → Bool
may_own (place.Turn x) = true
may_own (place.Bound r lo hi by) = true
may_own (place.Direct x) = true
may_own _ = false

-- whose own it may be: that of the consumer for which it was opened, or of the detached reader of what it wrote for several
pub data IsOwner (t : Tables) (x : ℕ) (w : Exchange) (c : ℕ) : Type 0 where
  opener : w.c ≡ c → IsOwner t x w c
  alone : (v : Representation) → t.representation (family x w) ≡ Some v → v.alone ≡ Some c →
      IsOwner t x w c

-- whose an open exchange is: its consumer's, where it is of no representation; else that of the writer group, or of
-- one who is bound to what it brings
pub data IsSomebodys (t : Tables) (x : ℕ) (w : Exchange) : Type 0 where
  own : (k : Consumer) → t.representation (family x w) ≡ None → t.consumer w.c ≡ Some k →
      k.own ≡ Some x → may_own k.place ≡ true → IsSomebodys t x w
  shared : (v : Representation) → t.representation (family x w) ≡ Some v → is_written t v ≡ true →
      v.writer ≡ Some x → IsSomebodys t x w
  read : (c : ℕ) (k : Consumer) (v : Representation) → t.representation (family x w) ≡ Some v →
      IsBound t (family x w) c k → k.own ≡ Some x → k.due ≡ None → IsOwner t x w c →
      IsSomebodys t x w

-- an exchange whose consumer is of this key
pub record IsOfKey (t : Tables) (x : ℕ) (key : List ℕ) : Type 0 where
  pub w : Exchange
  pub row : t.exchange x ≡ Some w
  pub k : Consumer
  pub opener : t.consumer w.c ≡ Some k
  pub key_is : k.request.key ≡ key

-- each open exchange is somebody's, what is written is of the key of who asked for it, and about what nobody is bound to
-- no exchange is open
pub record Whose (t : Tables) : Type 0 where
  pub somebodys : (x : ℕ) (w : Exchange) → t.exchange x ≡ Some w → w.is_open ≡ true →
      IsSomebodys t x w
  pub owner : (c x : ℕ) (k : Consumer) (w : Exchange) → t.consumer c ≡ Some k →
      k.own ≡ Some x → t.exchange x ≡ Some w → IsOwner t x w c
  pub stands : (c x : ℕ) (k : Consumer) → t.consumer c ≡ Some k → own_open t k ≡ Some x →
      may_own k.place ≡ true
  pub unread : (r x : ℕ) (v : Representation) → t.representation r ≡ Some v → bound t r ≡ [] →
      IsAbout t r x → ⊥
  pub writer_key : (r x : ℕ) (v : Representation) → t.representation r ≡ Some v →
      v.writer ≡ Some x → IsOfKey t x v.key
