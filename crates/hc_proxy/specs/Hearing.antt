-- What comes of what is done for one exchange in the step *network*.
use Rattle.std.specs.Prelude.{◌≡◌, ◌⊎◌, ◌≤◌, ◌^◌, ◌+◌, ℕ, Bool, true, false, List, length, Some, nat_eq}
use Rattle.hc_core.specs.Steps.{steps, bytes_received}
use Rattle.hc_event.specs.Filters.{is_denied}
use Rattle.hc_event.specs.declared.event.Event.{Event}
use Rattle.hc_event.specs.declared.event.Event.TheVariants as event
use Rattle.hc_head.specs.Spellings.{IsSpelledResponse}
use Rattle.hc_model.specs.Exchanges.{is_open}
use Rattle.hc_msg.specs.declared.message.Look.{Look}
use Rattle.hc_msg.specs.declared.message.Look.TheVariants as look
use Rattle.hc_msg.specs.declared.message.WirePart.{WirePart}
use Rattle.hc_msg.specs.declared.message.WirePart.TheVariants as part
use Rattle.hc_peers.specs.Upstreams.{is_news}
use Rattle.hc_store.specs.declared.backend.Backend.{Ghosts}
use Rattle.hc_proxy.specs.declared.proxy.Proxy as loop
use Rattle.hc_proxy.specs.Invariants.{is_part, unread}
use Rattle.hc_proxy.specs.Keeping.{Frame, Turn, HasCache, KeepsBut, KeepsQuiet, Stepped, RestStays}
use Rattle.hc_proxy.specs.Network.{next_of}
use Rattle.hc_proxy.specs.Rows.{Upstream, Proxy}
use Rattle.hc_proxy.specs.Steps.{with_entry}

-- A PART is one event

abbrev pub event_of : ℕ → WirePart → Event
event_of x (part.Head response) = event.Head x response
event_of x (part.Piece bytes) = event.Piece x bytes
event_of x part.End = event.End x

-- it is one of a schedule: a head has a spelling, and a piece isn't too long
abbrev pub IsFit : WirePart → Type 0
IsFit (part.Head response) = IsSpelledResponse response
IsFit (part.Piece bytes) = length bytes ≤ 65536
IsFit part.End = Unit {0}

-- how many bytes of a body it brings
abbrev pub length_of : WirePart → ℕ
length_of (part.Piece bytes) = length bytes
length_of _ = 0

module _ {B : Type 0} {g : Ghosts B} where
  -- it may be taken: tables have room for what it brings
  abbrev pub MayTake : WirePart → loop.Proxy B g → Type 0
  MayTake part x = (f : Frame) × (p : Proxy) × HasCache f x p
      × (unread p + bytes_received x.cache + length_of part ≤ f.bytes)

  -- the cache answered a fault
  pub record FaultStepped (f : Frame) (x x' : loop.Proxy B g) (z : ℕ) (p : Proxy) : Type 0 where
    pub stepped : Stepped f x x' (event.Fault z) p
    pub rest : RestStays x x'
    pub one : steps x'.cache ≡ steps x.cache + 1

  -- or the piece, and a fault behind it where that was denied
  pub record PieceStepped (f : Frame) (x x' : loop.Proxy B g) (z : ℕ) (bytes : List ℕ) (p : Proxy) : Type 0 where
    pub mid : loop.Proxy B g
    pub first : Stepped f x mid (event.Piece z bytes) p
    pub rest : RestStays x mid
    pub moved : mid.moved ≡ true
    pub one : steps mid.cache ≡ steps x.cache + 1
    pub behind : ((is_denied first.e.acts ≡ false) × (x' ≡ mid))
        ⊎ ((is_denied first.e.acts ≡ true) × FaultStepped f mid x' z (with_entry first.e p))

  -- the cache answered the part
  abbrev pub PartStepped
      : Frame → loop.Proxy B g → loop.Proxy B g → ℕ → WirePart → Proxy → Type 0
  PartStepped f x x' z (part.Head response) p =
      Stepped f x x' (event.Head z response) p × (steps x'.cache ≡ steps x.cache + 1)
  PartStepped f x x' z (part.Piece bytes) p = PieceStepped f x x' z bytes p
  PartStepped f x x' z part.End p =
      Stepped f x x' (event.End z) p × (steps x'.cache ≡ steps x.cache + 1)

-- WHAT STANDS NEXT

-- a part or an error
abbrev pub has_next : Look → Bool
has_next look.Waits = false
has_next _ = true

-- THE OTHERS

-- their rows stay, and nothing is opened
pub record IsApart (z : ℕ) (p q : Proxy) : Type 0 where
  pub rows : (y : ℕ) → nat_eq y z ≡ false → q.upstream y ≡ p.upstream y
  pub opens : (y : ℕ) → is_open (q.tables.exchange y) ≡ true → is_open (p.tables.exchange y) ≡ true

-- of one that is open, and whose connection has ended, a part stands next
abbrev pub IsHeardAt : ℕ → Proxy → Type 0
IsHeardAt z p =
    (v : Upstream) → is_open (p.tables.exchange z) ≡ true → p.upstream z ≡ Some v →
    v.ended ≡ true → is_part (next_of v) ≡ true

module _ {B : Type 0} {g : Ghosts B} where
  -- so many steps are left for z, where that is open
  abbrev pub MayStep : ℕ → ℕ → loop.Proxy B g → Type 0
  MayStep n z x = (t : Turn) × (p : Proxy) × KeepsBut z t x p
      × (is_open (p.tables.exchange z) ≡ true → steps x.cache + n ≤ 2 ^ 60)

  -- z is open
  abbrev pub IsOpenHere : ℕ → loop.Proxy B g → Type 0
  IsOpenHere z x =
      (t : Turn) × (p : Proxy) × KeepsBut z t x p × (is_open (p.tables.exchange z) ≡ true)

  -- n steps were made before. Behind two it isn't open, and where it wasn't, none was made.
  pub record HasHanded (z : ℕ) (t : Turn) (p : Proxy) (n : ℕ) (x : loop.Proxy B g) (q : Proxy) : Type 0 where
    pub keeps : KeepsBut z t x q
    pub apart : IsApart z p q
    pub most : steps x.cache ≤ n + 2
    pub once : is_open (q.tables.exchange z) ≡ true → steps x.cache ≤ n + 1
    pub none : is_open (p.tables.exchange z) ≡ false → steps x.cache ≤ n

  pub record HasFinished (z : ℕ) (t : Turn) (p : Proxy) (n : ℕ) (x : loop.Proxy B g) (q : Proxy) : Type 0 where
    pub keeps : KeepsBut z t x q
    pub apart : IsApart z p q
    pub heard : IsHeardAt z q
    pub most : steps x.cache ≤ n + 1
    pub none : is_open (p.tables.exchange z) ≡ false → steps x.cache ≤ n

  pub record HasHeard (z : ℕ) (t : Turn) (p : Proxy) (n : ℕ) (x : loop.Proxy B g) (q : Proxy) : Type 0 where
    pub keeps : KeepsQuiet t x q
    pub apart : IsApart z p q
    pub heard : IsHeardAt z q
    pub most : steps x.cache ≤ n + 2
    pub none : is_open (p.tables.exchange z) ≡ false → steps x.cache ≤ n

  -- who is listed stays so, or whoever is another one
  abbrev pub NewsStays : loop.Proxy B g → loop.Proxy B g → Type 0
  NewsStays x x' = (y : ℕ) → is_news x'.upstreams y ≡ is_news x.upstreams y

  abbrev pub NewsOff : ℕ → loop.Proxy B g → loop.Proxy B g → Type 0
  NewsOff z x x' =
      (y : ℕ) → nat_eq y z ≡ false → is_news x'.upstreams y ≡ is_news x.upstreams y

  -- all but the list over which a step goes stays
  pub record OnlyRound (x x' : loop.Proxy B g) : Type 0 where
    pub cache : x'.cache ≡ x.cache
    pub text : x'.record ≡ x.record
    pub acts : x'.acts ≡ x.acts
    pub now : x'.now ≡ x.now
    pub starts : x'.starts ≡ x.starts
    pub front : x'.front ≡ x.front
    pub moved : x'.moved ≡ x.moved
    pub clients : x'.clients ≡ x.clients
    pub upstreams : x'.upstreams ≡ x.upstreams
    pub closed : x'.closed ≡ x.closed
