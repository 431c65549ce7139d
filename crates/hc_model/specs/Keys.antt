-- The law of one key: an accepted event changes what is said of its own key, and else only how much
-- is idle.
use Rattle.std.specs.Prelude.{◌≡◌, ℕ, List, [], ◌∷◌, Bool, false, true, Option, Some, None}
use Rattle.std.specs.Option.{option_map}
use Rattle.hc_event.specs.Filters.{Opening, opening_in, evicts_in, is_denied}
use Rattle.hc_event.specs.declared.event.Event.{Event}
use Rattle.hc_event.specs.declared.event.Event.TheVariants as event
use Rattle.hc_event.specs.declared.event.Request.{Request}
use Rattle.hc_event.specs.declared.act.Act.{Act}
use Rattle.hc_rules.specs.declared.room.Limits.{Limits}
use Rattle.hc_event.specs.declared.place.Place.{Place}
use Rattle.hc_event.specs.declared.place.Place.TheVariants as place
use Rattle.hc_model.specs.Entries.{Entry, History, Contents}
use Rattle.hc_model.specs.Flaws.{Flaw}
use Rattle.hc_model.specs.Rows.{Tables, Exchange, Representation, Consumer}
use Rattle.hc_model.specs.Dooms.{is_key}
use Rattle.hc_model.specs.Histories.{request_of}
use Rattle.hc_model.specs.Tables.{after_accepted, first_tables}
use Rattle.hc_model.specs.Denials.{denial}
use Rattle.hc_model.specs.Answers.{accepted_acts}
use Rattle.hc_model.specs.Reading.{reads}
use Rattle.hc_model.specs.ConsumerRows.{back_in_line}
use Rattle.hc_model.specs.Runs.{IsOwed}
use Rattle.hc_model.specs.Sound.{Sound, IsBound}

-- THE KEY OF AN EVENT

abbrev pub key_of_consumer : Tables → ℕ → Option (List ℕ)
key_of_consumer t c = option_map (λ (k : Consumer). k.request.key) (t.consumer c)

-- that of the consumer for which it was opened
abbrev pub key_of_exchange : Tables → ℕ → Option (List ℕ)
key_of_exchange t x = option_map (λ (w : Exchange). w.request.key) (t.exchange x)

abbrev pub key_of_representation : Tables → ℕ → Option (List ℕ)
key_of_representation t r = option_map (λ (v : Representation). v.key) (t.representation r)

-- that of its consumer, of its exchange, or that which it dooms
abbrev pub key_of : Tables → Event → Option (List ℕ)
key_of t (event.Start c request) = Some request.key
key_of t (event.Poll c want) = key_of_consumer t c
key_of t (event.Head x response) = key_of_exchange t x
key_of t (event.Piece x bytes) = key_of_exchange t x
key_of t (event.End x) = key_of_exchange t x
key_of t (event.Fault x) = key_of_exchange t x
key_of t (event.Cancel c) = key_of_consumer t c
key_of t (event.Doom key) = Some key

abbrev pub is_of_key : Option (List ℕ) → Option (List ℕ) → Bool
is_of_key key None = false
is_of_key key (Some other) = is_key key other

-- what the event may change: exchanges, representations and consumers of its key
abbrev pub concerns_exchange : Tables → Event → ℕ → Bool
concerns_exchange t event x = is_of_key (key_of t event) (key_of_exchange t x)

abbrev pub concerns_representation : Tables → Event → ℕ → Bool
concerns_representation t event r = is_of_key (key_of t event) (key_of_representation t r)

abbrev pub concerns_consumer : Tables → Event → ℕ → Bool
concerns_consumer t event c = is_of_key (key_of t event) (key_of_consumer t c)

-- WHAT IS OF ONE KEY

-- what it names has a row of this key
abbrev pub HasRow : Tables → ℕ → List ℕ → Type 0
HasRow t r key = (v : Representation) × (t.representation r ≡ Some v) × (v.key ≡ key)

-- an exchange, its consumer, and the representations that it is about, joined, founded and writes
pub record ExchangeKeys (t : Tables) : Type 0 where
  pub opener : (x : ℕ) (w : Exchange) → t.exchange x ≡ Some w →
      (k : Consumer) × (t.consumer w.c ≡ Some k) × (w.request.key ≡ k.request.key)
  pub aims : (x r : ℕ) (w : Exchange) → t.exchange x ≡ Some w → w.aim ≡ Some r →
      HasRow t r w.request.key
  pub joined : (x r : ℕ) (w : Exchange) → t.exchange x ≡ Some w → w.joined ≡ Some r →
      HasRow t r w.request.key
  pub founded : (r : ℕ) (w : Exchange) (v : Representation) → t.exchange r ≡ Some w →
      t.representation r ≡ Some v → v.key ≡ w.request.key
  pub writers : (r x : ℕ) (v : Representation) → t.representation r ≡ Some v →
      v.writer ≡ Some x → (w : Exchange) × (t.exchange x ≡ Some w) × (v.key ≡ w.request.key)

-- a consumer, its own exchange, and what it reads or waits for
pub record ConsumerKeys (t : Tables) : Type 0 where
  pub own : (c x : ℕ) (k : Consumer) → t.consumer c ≡ Some k → k.own ≡ Some x →
      (w : Exchange) × (t.exchange x ≡ Some w) × (w.request.key ≡ k.request.key)
  pub bound : (r c : ℕ) (k : Consumer) → IsBound t r c k → HasRow t r k.request.key
  pub passed : (r c : ℕ) (kept : Option ℕ) (k : Consumer) → t.consumer c ≡ Some k →
      k.place ≡ place.Passed r kept → HasRow t r k.request.key
  pub undue : (c : ℕ) (k : Consumer) → t.consumer c ≡ Some k → reads k.place ≡ false →
      k.due ≡ None

-- THE LAW

abbrev pub entry_of : Limits → Tables → ℕ → Event → Flaw → Entry
entry_of limits t now event flaw =
    record { now = now; event = event; acts = accepted_acts limits t now event flaw }

-- what is evicted is gone; nothing else is said of it
abbrev pub IsEvicted : Option Representation → Option Representation → Type 0
IsEvicted (Some v) (Some u) = u ≡ record v { is_gone = true }
IsEvicted _ _ = ⊥

-- it waits for what is evicted
abbrev pub loses : List Act → Place → Bool
loses acts (place.Passed r kept) = evicts_in r acts
loses acts _ = false

-- The rows of other keys stay; but what makes room is gone, and who waits for it starts over.
-- What is new is of the event's key.
pub record KeepsOthers (t u : Tables) (e : Entry) : Type 0 where
  pub exchanges : (x : ℕ) (w : Exchange) → t.exchange x ≡ Some w →
      concerns_exchange t e.event x ≡ false → u.exchange x ≡ Some w
  pub representations : (r : ℕ) (v : Representation) → t.representation r ≡ Some v →
      concerns_representation t e.event r ≡ false → evicts_in r e.acts ≡ false →
      u.representation r ≡ Some v
  pub evicted : (r : ℕ) → concerns_representation t e.event r ≡ false →
      evicts_in r e.acts ≡ true → IsEvicted (t.representation r) (u.representation r)
  pub consumers : (c : ℕ) (k : Consumer) → t.consumer c ≡ Some k →
      concerns_consumer t e.event c ≡ false → loses e.acts k.place ≡ false →
      u.consumer c ≡ Some k
  pub losers : (c : ℕ) (k : Consumer) → t.consumer c ≡ Some k →
      concerns_consumer t e.event c ≡ false → loses e.acts k.place ≡ true →
      u.consumer c ≡ Some (back_in_line e.now k)
  pub new_exchanges : (x : ℕ) (w : Exchange) → t.exchange x ≡ None → u.exchange x ≡ Some w →
      key_of t e.event ≡ Some w.request.key
  pub new_representations : (r : ℕ) (v : Representation) → t.representation r ≡ None →
      u.representation r ≡ Some v → key_of t e.event ≡ Some v.key
  pub new_consumers : (c : ℕ) (k : Consumer) → t.consumer c ≡ None → u.consumer c ≡ Some k →
      key_of t e.event ≡ Some k.request.key

abbrev pub LawOfOneKey : Type 0
LawOfOneKey =
    (limits : Limits) (t : Tables) (e : Entry) → ExchangeKeys t → ConsumerKeys t →
    IsOwed limits t e → is_denied e.acts ≡ false → KeepsOthers t (after_accepted t e) e

-- what is of one key stays so, after each accepted event, whatever the store loses
pub record IsOfOneKey (t : Tables) : Type 0 where
  pub exchanges : ExchangeKeys t
  pub consumers : ConsumerKeys t

abbrev pub KeysAreKept : Type 0
KeysAreKept =
    (limits : Limits) (t : Tables) (now : ℕ) (flaw : Flaw) → Sound t → IsOfOneKey t →
    (event : Event) → denial t event ≡ None →
    IsOfOneKey (after_accepted t (entry_of limits t now event flaw))

abbrev pub KeysBegin : Type 0
KeysBegin = (contents : Contents) → IsOfOneKey (first_tables contents)

-- what is opened is asked for by the key of its consumer's start
pub record IsOfItsStart (h : History) (o : Opening) : Type 0 where
  pub request : Request
  pub started : request_of o.c h ≡ Some request
  pub key_is : o.request.key ≡ request.key

-- so is what the last entry opens
abbrev pub OpensForKey : Contents → History → Type 0
OpensForKey contents [] = Unit {0}
OpensForKey contents (e ∷ h) = (o : Opening) → opening_in e.acts ≡ Some o → IsOfItsStart h o
