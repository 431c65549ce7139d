-- Scripts of a wire.
use Rattle.std.specs.Prelude.{◌≡◌, ℕ, ◌==◌, ◌&&◌, ◌^◌, ◌<◌, nat_lt, Bool, true, false, not, All, List, [], ◌∷◌, length}
use Rattle.std.specs.List.{list_any}
use Rattle.hc_wire.specs.declared.event.WireEvent.{WireEvent}
use Rattle.hc_wire.specs.declared.event.WireEvent.TheVariants as event
use Rattle.hc_wire.specs.declared.scripted.Scripted.{Scripted}

-- the bytes of a `Got` are as many as it says, and some; no other event has bytes
abbrev pub is_sized : WireEvent → List ℕ → Bool
is_sized (event.Got k n) bytes = length bytes == n && nat_lt 0 n
is_sized (event.Accepted k) bytes = length bytes == 0
is_sized (event.Ended k) bytes = length bytes == 0
is_sized (event.Broke k) bytes = length bytes == 0
is_sized (event.Room k) bytes = length bytes == 0
is_sized event.Quiet bytes = length bytes == 0

abbrev pub is_got_by : ℕ → WireEvent → Bool
is_got_by k (event.Got j n) = j == k
is_got_by k (event.Accepted j) = false
is_got_by k (event.Ended j) = false
is_got_by k (event.Broke j) = false
is_got_by k (event.Room j) = false
is_got_by k event.Quiet = false

abbrev pub is_got : ℕ → Scripted → Bool
is_got k s = is_got_by k s.event

-- behind the end of a connection nothing of it is got
abbrev pub is_behind : WireEvent → List Scripted → Bool
is_behind (event.Ended k) rest = not (list_any (is_got k) rest)
is_behind (event.Got j n) rest = true
is_behind (event.Accepted j) rest = true
is_behind (event.Broke j) rest = true
is_behind (event.Room j) rest = true
is_behind event.Quiet rest = true

abbrev pub ends_once : List Scripted → Bool
ends_once [] = true
ends_once (s ∷ rest) = is_behind s.event rest && ends_once rest

-- Each item is of its size and its moment below 2^62, and a connection's end comes after its bytes.
pub record IsScript (script : List Scripted) : Type 0 where
  pub early : All (λ (s : Scripted). s.moment < 2 ^ 62) script
  pub sized : All (λ (s : Scripted). is_sized s.event s.bytes ≡ true) script
  pub ends : ends_once script ≡ true
