-- What comes of offering a connection what it is owed: to a client, which may be closed then or is told whether it is read,
-- and to one to the origin.
use Rattle.std.specs.Prelude.{◌≡◌, ◌≤◌, ℕ, List, [], length, take, drop, nat_lt, Bool, Option, Some, None, if◌then◌else◌}
use Rattle.hc_wire.specs.Events.{Stage, with_stage, closed_of, reading_of}
use Rattle.hc_wire.specs.Logs.{Log, Reports, with_sent, with_closed, with_reading}
use Rattle.hc_peers.specs.declared.client.Client.{Client}
use Rattle.hc_peers.specs.declared.clients.Clients.{Clients}
use Rattle.hc_peers.specs.declared.upstream.Upstream.{Upstream}
use Rattle.hc_peers.specs.declared.upstreams.Upstreams.{Upstreams}
use Rattle.hc_peers.specs.Clients.{client_of, Becomes, Stays}
use Rattle.hc_peers.specs.Peers.{is_idle, is_over, is_same}
use Rattle.hc_peers.specs.Upstreams as upstreams
use Rattle.hc_peers.specs.Upstreams.{upstream_of}

-- THE WIRE

-- of these bytes, so many first were taken
abbrev pub sent_of : ℕ → ℕ → List ℕ → Log → Log
sent_of k n bytes log = with_sent k (take n bytes) (nat_lt n (length bytes)) log

-- it is told to read a connection or not to, where it was told otherwise
abbrev pub reading_reported : ℕ → Bool → Bool → Log → Log
reading_reported k was on log = if is_same was on then log else with_reading k on log

abbrev pub stage_reported : ℕ → Bool → Bool → (ℕ → Stage) → ℕ → Stage
stage_reported k was on stages j =
    if is_same was on then stages j else with_stage k (reading_of on (stages k)) stages j

-- A CLIENT

abbrev pub unsent_at : Option Client → List ℕ
unsent_at None = []
unsent_at (Some client) = client.unsent

abbrev pub unsent_up : Option Upstream → List ℕ
unsent_up None = []
unsent_up (Some upstream) = upstream.unsent

abbrev pub number_at : Option Upstream → ℕ
number_at None = 0
number_at (Some upstream) = upstream.k

abbrev pub sent_more : ℕ → Client → Client
sent_more n client = record client { unsent = drop n client.unsent }

-- it is closed once it has taken all, where it is to be; else it is read while it waits for nothing
abbrev pub behind_offer : Client → Option Client
behind_offer client =
    if is_over client then None else Some (record client { reading = is_idle client })

abbrev pub log_behind : ℕ → Client → Log → Log
log_behind k client log =
    if is_over client then with_closed k log else reading_reported k client.reading (is_idle client) log

abbrev pub stage_behind : ℕ → Client → (ℕ → Stage) → ℕ → Stage
stage_behind k client stages j =
    if is_over client then with_stage k (closed_of (stages k)) stages j
    else stage_reported k client.reading (is_idle client) stages j

module _ {W : Type 0} (stages : W → ℕ → Stage) (log : W → Option Log) where
  pub record IsOfferedTo (k : ℕ) (client : Client) (old new : Clients) (wire wire' : W) : Type 0 where
    pub n : ℕ
    pub within : n ≤ length client.unsent
    pub becomes : Becomes k (behind_offer (sent_more n client)) old new
    pub reported : Reports (log wire) (log wire')
        (λ l. log_behind k (sent_more n client) (sent_of k n client.unsent l))
    pub stands : (j : ℕ) → stages wire' j ≡ stage_behind k (sent_more n client) (stages wire) j

  abbrev pub IsOfferedAt : ℕ → Option Client → Clients → Clients → W → W → Type 0
  IsOfferedAt k None old new wire wire' =
      Stays old new × (log wire' ≡ log wire) × ((j : ℕ) → stages wire' j ≡ stages wire j)
  IsOfferedAt k (Some client) old new wire wire' = IsOfferedTo k client old new wire wire'

  abbrev pub IsOffered : ℕ → Clients → Clients → W → W → Type 0
  IsOffered k old new wire wire' = IsOfferedAt k (client_of old k) old new wire wire'

  -- A CONNECTION TO THE ORIGIN, which is read while it is wanted

  pub record IsOfferedUp (x : ℕ) (on : Bool) (upstream : Upstream) (old new : Upstreams)
      (wire wire' : W) : Type 0 where
    pub n : ℕ
    pub within : n ≤ length upstream.unsent
    pub becomes : upstreams.Becomes x
        (Some (record upstream { unsent = drop n upstream.unsent; reading = on })) old new
    pub reported : Reports (log wire) (log wire')
        (λ l. reading_reported upstream.k upstream.reading on (sent_of upstream.k n upstream.unsent l))
    pub stands : (j : ℕ) → stages wire' j
        ≡ stage_reported upstream.k upstream.reading on (stages wire) j

  abbrev pub IsOfferedUpAt : ℕ → Bool → Option Upstream → Upstreams → Upstreams → W → W → Type 0
  IsOfferedUpAt x on None old new wire wire' =
      upstreams.Stays old new × (log wire' ≡ log wire) × ((j : ℕ) → stages wire' j ≡ stages wire j)
  IsOfferedUpAt x on (Some upstream) old new wire wire' =
      IsOfferedUp x on upstream old new wire wire'

  abbrev pub IsOfferedOrigin : ℕ → Bool → Upstreams → Upstreams → W → W → Type 0
  IsOfferedOrigin x on old new wire wire' =
      IsOfferedUpAt x on (upstream_of old x) old new wire wire'
