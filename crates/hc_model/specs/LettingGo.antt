-- What it takes to let representations go, one after another, and which give way to a write.
use Rattle.std.specs.Prelude.{◌≡◌, ◌≢◌, ℕ, List, [], length, take, map, true, false, Option, Some, None, is_some, ◌==◌, ◌||◌, not, if◌then◌else◌}
use Rattle.std.specs.List.{sum_by}
use Rattle.hc_sparse.specs.Cells.{size}
use Rattle.hc_rules.specs.declared.room.Limits.{Limits}
use Rattle.hc_rules.specs.declared.room.Room.{Room}
use Rattle.hc_rules.specs.declared.room.Room.TheVariants as room
use Rattle.hc_rules.specs.declared.room.Write.{Write}
use Rattle.hc_rules.specs.Rooms.{weight_of, room_of}
use Rattle.hc_event.specs.declared.place.Place.TheVariants as place
use Rattle.hc_model.specs.Contents.{idle_now}
use Rattle.hc_model.specs.Currents.{is_current}
use Rattle.hc_model.specs.Orders.{AreOnce}
use Rattle.hc_model.specs.Places.{Queues}
use Rattle.hc_model.specs.Reading.{bound}
use Rattle.hc_model.specs.Rows.{Tables, Representation, Consumer}
use Rattle.hc_model.specs.Sound.{Among, OneCurrent}

-- it waits for r, which is of its key and isn't gone, and may ask the origin
pub record WaitsOn (t : Tables) (r : ℕ) (k : Consumer) : Type 0 where
  pub v : Representation
  pub row : t.representation r ≡ Some v
  pub key_is : v.key ≡ k.request.key
  pub not_gone : v.is_gone ≡ false
  pub queues : Queues k

-- Of each key one representation at most isn't gone, each row stands in its list, and whoever was
-- let through waits for what isn't gone.
pub record MayLetGo (t : Tables) : Type 0 where
  pub one_current : OneCurrent t
  pub founded : (r : ℕ) → is_some (t.representation r) ≡ true → Among r t.founded
  pub started : (c : ℕ) → is_some (t.consumer c) ≡ true → Among c t.starts
  pub waits : (c r : ℕ) (kept : Option ℕ) (k : Consumer) → t.consumer c ≡ Some k →
      k.place ≡ place.Passed r kept → WaitsOn t r k

-- WHAT GIVES WAY

abbrev pub weight_in : Tables → ℕ → Option Representation → ℕ
weight_in t r None = 0
weight_in t r (Some v) =
    if is_current t v.key r || not (length (bound t r) == 0) then weight_of v.size else 0

-- what a representation weighs: it has a slot while it is current or a consumer is bound to it
abbrev pub weight_now : Tables → ℕ → ℕ
weight_now t r = weight_in t r (t.representation r)

-- what all weigh
abbrev pub weights_now : Tables → ℕ
weights_now t = sum_by (weight_now t) t.founded

-- whether there is room for a write
abbrev pub room_now : Limits → Tables → Write → Room
room_now limits t write =
    room_of limits (weights_now t) write (map (weight_now t) (idle_now t))

abbrev pub first_idle : Tables → Room → List ℕ
first_idle t (room.After count) = take count (idle_now t)
first_idle t _ = []

-- which give way to it
abbrev pub giving_way : Limits → Tables → Write → List ℕ
giving_way limits t write = first_idle t (room_now limits t write)

-- it isn't gone, or somebody is bound to it
abbrev pub IsInUse : Tables → ℕ → Representation → Type 0
IsInUse t r v = v.is_gone ≡ true → bound t r ≢ []

-- of each that is in use as many bytes are stored as it says
abbrev pub AreSized : Tables → Type 0
AreSized t =
    (r : ℕ) (v : Representation) → t.representation r ≡ Some v → IsInUse t r v →
    v.size ≡ size v.stored

-- And what is used or founded stands once in its list, and of what is in use as many bytes are stored
-- as it says.
pub record MayMakeRoom (t : Tables) : Type 0 where
  pub may : MayLetGo t
  pub used : AreOnce t.used
  pub founded : AreOnce t.founded
  pub sized : AreSized t
