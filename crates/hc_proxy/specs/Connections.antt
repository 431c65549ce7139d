-- Whose a connection is, and how it stood at a call.
use Rattle.std.specs.Prelude.{ℕ, ◌+◌, ◌-◌, ◌==◌, nat_lt, List, [], ◌∷◌, ◌++◌, length, drop, find, map, replicate, Bool, false, Option, Some, None, if◌then◌else◌}
use Rattle.std.specs.List.{list_any}
use Rattle.hc_wire.specs.declared.connection.Standing.{Standing}
use Rattle.hc_wire.specs.Logs.{Called, Log}
use Rattle.hc_proxy.specs.Rows.{Client, Proxy, Setting}

-- THE DIALS, by exchange

-- Each dial is for the next exchange. Those that were opened before have no connection.
abbrev pub dials_from : Setting → List ℕ → List (Option ℕ)
dials_from setting dialled = replicate (setting.contents.next_exchange - 1) None ++ map Some dialled

-- by what the store of these tables began with
abbrev pub dials_in : Proxy → Log → List (Option ℕ)
dials_in p log = dials_from p.setting log.dialled

-- WHOSE

abbrev pub is_dialled : ℕ → Option ℕ → Bool
is_dialled k None = false
is_dialled k (Some j) = j == k

abbrev pub place_from : ℕ → ℕ → List (Option ℕ) → Option ℕ
place_from n k [] = None
place_from n k (o ∷ os) = if is_dialled k o then Some n else place_from (n + 1) k os

-- the exchange of a connection: exchange x has the one that was dialled for it
abbrev pub exchange_of : List (Option ℕ) → ℕ → Option ℕ
exchange_of dialled k = place_from 1 k dialled

abbrev pub first_of : List (Option ℕ) → Option ℕ
first_of [] = None
first_of (o ∷ os) = o

-- the connection of an exchange; these are numbered from 1
abbrev pub connection_of : List (Option ℕ) → ℕ → Option ℕ
connection_of dialled x = if x == 0 then None else first_of (drop (x - 1) dialled)

-- AT A CALL

abbrev pub is_of : ℕ → Standing → Bool
is_of k standing = standing.k == k

-- the connection was open
abbrev pub stands : Called → ℕ → Bool
stands call k = list_any (is_of k) call.standings

abbrev pub taken_by : Option Standing → ℕ
taken_by None = 0
taken_by (Some standing) = standing.taken

-- how many bytes it had taken
abbrev pub taken_at : Called → ℕ → ℕ
taken_at call k = taken_by (find (is_of k) call.standings)

-- the client was to be sent more than it had taken
abbrev pub has_unsent : Called → ℕ → Client → Bool
has_unsent call k client = nat_lt (taken_at call k) (length client.owed)
