-- What the work lists of the tables have to do with their rows.
use Rattle.std.specs.Prelude.{◌≡◌, ℕ, Bool, true, false, Option, Some, None, nat_eq, ◌==◌, is_some}
use Rattle.std.specs.HashMap.{HashMap}
use Rattle.std.specs.HashMap as hash
use Rattle.std.specs.BTreeMap.{BTreeMap}
use Rattle.std.specs.BTreeMap as tree
use Rattle.std.specs.BTreeSet.{BTreeSet}
use Rattle.std.specs.BTreeSet as set
use Rattle.std.specs.Ordering.{nat_cmp}
use Rattle.hc_peers.specs.declared.client.Client.{Client}
use Rattle.hc_peers.specs.declared.upstream.Upstream.{Upstream}
use Rattle.hc_peers.specs.Peers.{is_ready, is_settled}

-- CLIENTS

abbrev pub consumer_at : Option Client → Option ℕ
consumer_at None = None
consumer_at (Some client) = client.consumer

abbrev pub ready_at : Option Client → Bool
ready_at None = false
ready_at (Some client) = is_ready client

abbrev pub settled_at : Option Client → Bool
settled_at None = true
settled_at (Some client) = is_settled client

-- just the live consumers stand there, each with the connection of its client
abbrev pub IsLiveTable : {S : Type 0} → HashMap ℕ Client S → BTreeMap ℕ ℕ → Type 0
IsLiveTable rows live =
    ((c k : ℕ) → tree.get nat_cmp live c ≡ Some k → consumer_at (hash.get nat_eq rows k) ≡ Some c)
    × ((c k : ℕ) → consumer_at (hash.get nat_eq rows k) ≡ Some c → tree.get nat_cmp live c ≡ Some k)

-- just those stand there whose next request is to be read
abbrev pub IsReadySet : {S : Type 0} → HashMap ℕ Client S → BTreeSet ℕ → Type 0
IsReadySet rows ready =
    (k : ℕ) → set.contains nat_cmp ready k ≡ ready_at (hash.get nat_eq rows k)

-- who doesn't stand there is settled
abbrev pub IsTouchedSet : {S : Type 0} → HashMap ℕ Client S → BTreeSet ℕ → Type 0
IsTouchedSet rows touched =
    (k : ℕ) → set.contains nat_cmp touched k ≡ false
    → settled_at (hash.get nat_eq rows k) ≡ true

-- CONNECTIONS TO THE ORIGIN

abbrev pub is_numbered : Option ℕ → ℕ → Bool
is_numbered None x = false
is_numbered (Some y) x = y == x

abbrev pub is_at : ℕ → Option Upstream → Bool
is_at k None = false
is_at k (Some upstream) = upstream.k == k

-- just the connections of the exchanges stand there, each with its exchange
abbrev pub IsDialledTable : {S T : Type 0} → HashMap ℕ Upstream S → HashMap ℕ ℕ T → Type 0
IsDialledTable rows dialled =
    (k x : ℕ) → is_at k (hash.get nat_eq rows x) ≡ is_numbered (hash.get nat_eq dialled k) x

-- who stands there is there
abbrev pub AreThere : {S : Type 0} → HashMap ℕ Upstream S → BTreeSet ℕ → Type 0
AreThere rows news =
    (x : ℕ) → set.contains nat_cmp news x ≡ true → is_some (hash.get nat_eq rows x) ≡ true
