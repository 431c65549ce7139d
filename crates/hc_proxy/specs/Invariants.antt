-- What holds of the tables of the definitions within a turn.
use Rattle.std.specs.Prelude.{◌≡◌, ◌⊎◌, ◌≤◌, ◌+◌, ◌&&◌, ◌||◌, ℕ, List, [], ◌∷◌, length, Bool, true, false, Option, Some, None, not, nat_lt}
use Rattle.std.specs.List.{sum_by}
use Rattle.hc_event.specs.Filters.{leaves_in, closes_in}
use Rattle.hc_event.specs.declared.act.Act.{Act}
use Rattle.hc_event.specs.declared.act.Act.TheVariants as act
use Rattle.hc_model.specs.Denials.{is_live}
use Rattle.hc_model.specs.Entries.{History}
use Rattle.hc_model.specs.Exchanges.{is_open, is_wanted}
use Rattle.hc_model.specs.Rows.{Tables}
use Rattle.hc_target.specs.Targets.{is_target}
use Rattle.hc_msg.specs.Inputs.{Next, Waits, Fails}
use Rattle.hc_msg.specs.Reading.{Reading, Heading, Requests, Failed}
use Rattle.hc_wire.specs.Logs.{Called}
use Rattle.hc_proxy.specs.Carrying.{acts_in, carried_out}
use Rattle.hc_proxy.specs.Connections.{exchange_of, connection_of, taken_at}
use Rattle.hc_proxy.specs.Network.{has_news, next_of}
use Rattle.hc_proxy.specs.Rows.{Client, Upstream, Proxy}

-- ACTS

-- acts that are carried out in no way but that a connection may be closed
abbrev pub is_quiet : Act → Bool
is_quiet (act.Denied refusal) = true
is_quiet (act.Close x) = true
is_quiet (act.Lost r kind) = true
is_quiet (act.Evicted r) = true
is_quiet _ = false

-- whoever is told by these acts that it is over is so
abbrev pub AreOver : List Act → Proxy → Type 0
AreOver acts p = (c : ℕ) → leaves_in c acts ≡ true → is_live (p.tables.consumer c) ≡ false

-- CLIENTS

-- its requests are read, or it was refused
abbrev pub IsOfRequests : Reading → Type 0
IsOfRequests (Heading Requests scan text) = Unit {0}
IsOfRequests (Failed e) = Unit {0}
IsOfRequests _ = ⊥

-- the client at k is here, and its live consumer is c
pub record IsHolder (p : Proxy) (k c : ℕ) : Type 0 where
  pub row : Client
  pub at : p.client k ≡ Some row
  pub here : row.gone ≡ false
  pub consumer : row.consumer ≡ Some c

-- Who waits: each live consumer is that of a client, which is told by an act if it is over.
pub record HasConsumers (p : Proxy) : Type 0 where
  pub held : (k c : ℕ) → IsHolder p k c → p.holder c ≡ Some k
  pub started : (k c : ℕ) → IsHolder p k c → c ≤ p.starts
  pub live : (c : ℕ) → is_live (p.tables.consumer c) ≡ true → (k : ℕ) × IsHolder p k c
  pub alive : (k c : ℕ) → IsHolder p k c →
      (is_live (p.tables.consumer c) ≡ true) ⊎ (leaves_in c (acts_in p.part) ≡ true)
  pub idle : (k : ℕ) (r : Client) → p.client k ≡ Some r → r.closing ≡ true → r.consumer ≡ None

-- CONNECTIONS TO THE ORIGIN

-- a part, and no wait and no error
abbrev pub is_part : Next → Bool
is_part (Waits reading) = false
is_part (Fails e) = false
is_part _ = true

-- the step *network* does something for it
abbrev pub is_due_by : Bool → Option Upstream → Bool
is_due_by wanted None = false
is_due_by wanted (Some v) = (wanted && has_news v) || (v.ended && not (is_part (next_of v)))

abbrev pub is_due : Proxy → ℕ → Bool
is_due p x = is_due_by (is_wanted (p.tables.exchange x)) (p.upstream x)

-- each number of a connection names one exchange
abbrev pub NamesOne : List (Option ℕ) → Type 0
NamesOne dialled =
    (x k : ℕ) → connection_of dialled x ≡ Some k → exchange_of dialled k ≡ Some x

-- the acts open exchanges one after another, behind the first n and up to m
abbrev pub OpensUp : ℕ → List Act → ℕ → Type 0
OpensUp n [] m = n ≡ m
OpensUp n (act.Opened x c need request ∷ acts) m = (x ≡ n + 1) × OpensUp (n + 1) acts m
OpensUp n (_ ∷ acts) m = OpensUp n acts m

-- every open exchange whose connection has ended has a part that stands next
abbrev pub IsHeardOut : Proxy → Type 0
IsHeardOut p =
    (y : ℕ) (v : Upstream) → is_open (p.tables.exchange y) ≡ true → p.upstream y ≡ Some v →
    v.ended ≡ true → is_part (next_of v) ≡ true

-- COUNTS

-- how many bytes of the origin weren't read
abbrev pub unread_of : Option Upstream → ℕ
unread_of None = 0
unread_of (Some upstream) = length upstream.input

abbrev pub unread : Proxy → ℕ
unread p = sum_by (λ x. unread_of (p.upstream x)) p.tables.openings

-- the moment of the last event; before the first, this one
abbrev pub last_event : ℕ → History → ℕ
last_event moment [] = moment
last_event moment (e ∷ h) = e.now

-- WHO IS SENT SOMETHING

-- the consumer that is sent something by an act
abbrev pub addressee : Act → Option ℕ
addressee (act.Shown c r why status fields lo hi) = Some c
addressee (act.Given c x at bytes) = Some c
addressee (act.Ended c) = Some c
addressee (act.Failed c cause) = Some c
addressee _ = None

-- it is that of a client which was sent all
pub record IsServed (call : Called) (p : Proxy) (k c : ℕ) : Type 0 where
  pub holder : IsHolder p k c
  pub held : p.holder c ≡ Some k
  pub all : nat_lt (taken_at call k) (length holder.row.owed) ≡ false

-- each act that is sent to a consumer finds its client, behind the acts before it
abbrev pub AreServed : Called → Proxy → List Act → Type 0
AreServed call p [] = Unit {0}
AreServed call p (a ∷ acts) =
    ((c : ℕ) → addressee a ≡ Some c → (k : ℕ) × IsServed call p k c)
    × AreServed call (carried_out a p) acts

-- WHAT THE ACTS OF A TURN LEAVE

-- whatever they close is over
abbrev pub AreShut : List Act → Tables → Type 0
AreShut acts t = (y : ℕ) → closes_in y acts ≡ true → is_open (t.exchange y) ≡ false

-- and its number was given out
abbrev pub AreClosed : List Act → Tables → Type 0
AreClosed acts t =
    (y : ℕ) → closes_in y acts ≡ true → (is_open (t.exchange y) ≡ false) × (y ≤ t.opened)

-- each exchange that they open has a target, and is open behind the turn, or closed by a later one
abbrev pub ArePlain : List Act → Tables → Type 0
ArePlain [] t = Unit {0}
ArePlain (act.Opened x c need request ∷ acts) t =
    ((is_target request.key ≡ true)
    × ((is_open (t.exchange x) ≡ true) ⊎ (closes_in x acts ≡ true)))
    × ArePlain acts t
ArePlain (_ ∷ acts) t = ArePlain acts t
