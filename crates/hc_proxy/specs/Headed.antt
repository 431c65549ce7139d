-- How far the answer of an exchange was read, and what the exchange has of it.
use Rattle.std.specs.Prelude.{◌≡◌, ℕ, nat_lt, Bool, true, false, Option, Some, None, is_some}
use Rattle.hc_model.specs.Exchanges.{is_open}
use Rattle.hc_model.specs.Rows.{Exchange}
use Rattle.hc_msg.specs.Reading.{Requests, Reading, Heading, Counts, Chunk, Failed}
use Rattle.hc_proxy.specs.Rows.{Upstream, Proxy}

-- an answer is read, and of a body or a chunk some bytes are to come
abbrev pub is_answer : Reading → Bool
is_answer (Heading Requests scan text) = false
is_answer (Counts left) = nat_lt 0 left
is_answer (Chunk left) = nat_lt 0 left
is_answer _ = true

-- its head was read
abbrev pub is_begun : Reading → Bool
is_begun (Heading kind scan text) = false
is_begun (Failed e) = false
is_begun _ = true

abbrev pub has_head : Option Exchange → Bool
has_head None = false
has_head (Some w) = is_some w.head

-- behind its head it is read only where the exchange has that
abbrev pub IsReadAs : Reading → Option Exchange → Type 0
IsReadAs reading o = (is_answer reading ≡ true) × (is_begun reading ≡ true → has_head o ≡ true)

-- the answers of all open exchanges are read so
abbrev pub AreHeaded : Proxy → Type 0
AreHeaded p =
    (y : ℕ) (v : Upstream) → is_open (p.tables.exchange y) ≡ true → p.upstream y ≡ Some v →
    IsReadAs v.reading (p.tables.exchange y)
