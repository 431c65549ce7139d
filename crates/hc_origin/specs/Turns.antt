-- How the connections stand at each call of `next`, behind the calls before it.
use Rattle.std.specs.Prelude.{◌≡◌, ℕ, ◌==◌, ◌<◌, Bool, true, false, List, [], ◌∷◌, ◌++◌, length, is_some}
use Rattle.std.specs.List.{list_any}
use Rattle.hc_wire.specs.declared.connection.Standing.{Standing}
use Rattle.hc_wire.specs.Events.{Closed}
use Rattle.hc_wire.specs.Logs.{Called, Taker, stage_in, sent_in}
use Rattle.hc_origin.specs.Coming.{Came, came_of, is_accepted, is_cut_off, is_refused, request_in}
use Rattle.hc_origin.specs.Answering.{IsAnswer}

-- AN OPEN CONNECTION

-- It lacks some bytes of its answer, and took less than it was offered since the call before.
pub record Lacks (came : Came) (taken : ℕ) (short : Bool) : Type 0 where
  pub text : List ℕ
  pub is : IsAnswer came text
  pub some : taken < length text
  pub stalled : short ≡ true

-- It is read. Its request isn't refused, and wasn't cut off. Before it is whole nothing was sent; then bytes are lacking.
pub record StandsRight (came : Came) (s : Standing) : Type 0 where
  pub reads : s.reads ≡ true
  pub unrefused : is_refused came ≡ false
  pub uncut : is_cut_off came ≡ false
  pub unasked : is_some (request_in came) ≡ false → s.taken ≡ 0
  pub lacks : is_some (request_in came) ≡ true → Lacks came s.taken s.short

-- A CLOSED ONE

-- Why a connection was closed that has taken these bytes.
pub data Closes (came : Came) (sent : List ℕ) : Type 0 where
  refused : is_refused came ≡ true → sent ≡ [] → Closes came sent
  cut_off : is_cut_off came ≡ true → sent ≡ [] → Closes came sent
  -- all of its answer was taken
  answered : IsAnswer came sent → Closes came sent

-- it was closed for a cause, and stays closed
abbrev pub IsClosedRight : ℕ → Came → List Taker → Type 0
IsClosedRight k came takers = (stage_in takers k ≡ Closed) × Closes came (sent_in takers k)

-- ALL

abbrev pub is_of : ℕ → Standing → Bool
is_of k s = s.k == k

-- each open one stands right
abbrev pub AllStand : List Called → List Standing → Type 0
AllStand before [] = Unit {0}
AllStand before (s ∷ standings) = StandsRight (came_of s.k before) s × AllStand before standings

-- A call of `next`, behind those before it. What each connection has taken in the end is told by the takers.
pub record Fits (takers : List Taker) (before : List Called) (call : Called) : Type 0 where
  pub waits : call.wait ≡ true
  pub stands : AllStand before call.standings
  pub closed : (k : ℕ) → is_accepted k before ≡ true → list_any (is_of k) call.standings ≡ false
      → IsClosedRight k (came_of k before) takers

-- each call fits those before it
abbrev pub AllFit : List Taker → List Called → List Called → Type 0
AllFit takers before [] = Unit {0}
AllFit takers before (call ∷ calls) = Fits takers before call × AllFit takers (before ++ call ∷ []) calls
