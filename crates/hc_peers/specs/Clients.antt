-- The table of clients: what it has at each connection, and which of them are looked at.
use Rattle.std.specs.Prelude.{◌≡◌, ℕ, List, [], ◌∷◌, ◌++◌, length, Bool, false, Option, Some, None, nat_eq, ◌==◌, if◌then◌else◌}
use Rattle.std.specs.HashMap as hash
use Rattle.std.specs.BTreeMap as tree
use Rattle.std.specs.Ordering.{nat_cmp}
use Rattle.std.specs.BTreeSet as set
use Rattle.hc_event.specs.declared.act.Act.{Act}
use Rattle.hc_msg.specs.Inputs.{Next, Waits, Reports, Fails, next_in}
use Rattle.hc_msg.specs.Reading.{Failed, Asks}
use Rattle.hc_peers.specs.declared.client.Client.{Client}
use Rattle.hc_peers.specs.declared.clients.Clients.{Clients}
use Rattle.hc_peers.specs.declared.clients.NextRequest.{NextRequest}
use Rattle.hc_peers.specs.declared.clients.NextRequest.TheVariants as heard
use Rattle.hc_peers.specs.Peers.{read_to, asks, refused, answered, addressee}
use Rattle.hc_peers.specs.Renderings.{asked_of, reply_to}

-- WHAT IT HAS

-- the client at each connection
abbrev pub client_of : Clients → ℕ → Option Client
client_of s k = hash.get nat_eq s.rows k

-- how many there are
abbrev pub count_of : Clients → ℕ
count_of s = hash.hash_map_len s.rows

-- their connections
abbrev pub connections_of : Clients → List ℕ
connections_of s = hash.keys s.rows

-- the live consumers, in ascending order
abbrev pub consumers_of : Clients → List ℕ
consumers_of s = tree.keys s.live

-- those whose next request is to be read, in ascending order
abbrev pub ready_of : Clients → List ℕ
ready_of s = set.keys s.ready

-- those that are to be looked at when all is sent, in ascending order
abbrev pub touched_of : Clients → List ℕ
touched_of s = set.keys s.touched

abbrev pub is_touched : Clients → ℕ → Bool
is_touched s k = set.contains nat_cmp s.touched k

-- WHAT CHANGES

-- one of them is this now, or there is none
abbrev pub with : ℕ → Option Client → (ℕ → Option Client) → ℕ → Option Client
with k row all j = if j == k then row else all j

-- a change at one connection
abbrev pub Becomes : ℕ → Option Client → Clients → Clients → Type 0
Becomes k row old new = (j : ℕ) → client_of new j ≡ with k row (client_of old) j

-- nothing changes
abbrev pub Stays : Clients → Clients → Type 0
Stays old new = (j : ℕ) → client_of new j ≡ client_of old j

abbrev pub received : List ℕ → Client → Client
received bytes client = record client { input = client.input ++ bytes }

-- ITS NEXT REQUEST

-- what becomes of a client by what stands next, where the next consumer is c
abbrev pub hearing : ℕ → Bool → Next → Client → Client
hearing c front (Waits reading) client = read_to reading [] client
hearing c front (Reports (Asks request) reading rest) client =
    asks c (reply_to front request) (read_to reading rest client)
hearing c front (Fails e) client = refused e (read_to (Failed e) [] client)
hearing c front _ client = client

-- what is told of it
abbrev pub outcome_of : ℕ → Bool → Next → NextRequest
outcome_of k front (Reports (Asks request) reading rest) = heard.Asks k (asked_of front request)
outcome_of k front _ = heard.Nothing

-- that of the first one was read, which waits for something now or gave all that came
pub record IsHeard (c : ℕ) (front : Bool) (old new : Clients) (result : NextRequest) : Type 0 where
  pub k : ℕ
  pub rest : List ℕ
  pub client : Client
  pub first : ready_of old ≡ k ∷ rest
  pub row : client_of old k ≡ Some client
  pub others : ready_of new ≡ rest
  pub becomes : Becomes k (Some (hearing c front (next_in 1 client.reader client.input) client)) old new
  pub result_is : result ≡ outcome_of k front (next_in 1 client.reader client.input)

pub data HearsNext (c : ℕ) (front : Bool) (old new : Clients) (result : NextRequest) : Type 0 where
  nobody : ready_of old ≡ [] → result ≡ heard.Nobody → Stays old new → HearsNext c front old new result
  somebody : IsHeard c front old new result → HearsNext c front old new result

-- ANSWERS

abbrev pub is_same_consumer : Option ℕ → Option ℕ → Bool
is_same_consumer None d = false
is_same_consumer (Some c) None = false
is_same_consumer (Some c) (Some d) = c == d

-- the act is sent to the client whose live consumer it names
abbrev pub answered_in : Act → Option Client → Option Client
answered_in a None = None
answered_in a (Some client) =
    Some (if is_same_consumer (addressee a) client.consumer then answered a client else client)

-- WHO IS POLLED

abbrev pub has_all : Option Client → Bool
has_all None = false
has_all (Some client) = length client.unsent == 0

abbrev pub is_taking : Clients → Option ℕ → Bool
is_taking s None = false
is_taking s (Some k) = has_all (client_of s k)

-- the live consumer is that of a client which was sent all
abbrev pub takes_more : Clients → ℕ → Bool
takes_more s c = is_taking s (tree.get nat_cmp s.live c)
