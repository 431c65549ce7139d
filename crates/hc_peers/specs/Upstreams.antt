-- The table of connections to the origin: what it has for each exchange, and which of them are looked at.
use Rattle.std.specs.Prelude.{◌≡◌, ℕ, List, length, Bool, false, Option, Some, None, Result, nat_eq, ◌==◌, not, if◌then◌else◌}
use Rattle.std.specs.HashMap as hash
use Rattle.std.specs.BTreeSet as set
use Rattle.std.specs.Ordering.{nat_cmp}
use Rattle.hc_head.specs.declared.message.MsgError.{MsgError}
use Rattle.hc_msg.specs.declared.message.Look.{Look}
use Rattle.hc_msg.specs.declared.message.Look.TheVariants as look
use Rattle.hc_msg.specs.declared.message.WirePart.{WirePart}
use Rattle.hc_peers.specs.declared.upstream.Upstream.{Upstream}
use Rattle.hc_peers.specs.declared.upstreams.Upstreams.{Upstreams}
use Rattle.hc_msg.specs.Inputs.{look_of}
use Rattle.hc_peers.specs.Origins.{Takes, has_news, next_of}

-- the connection of each exchange
abbrev pub upstream_of : Upstreams → ℕ → Option Upstream
upstream_of s x = hash.get nat_eq s.rows x

-- how many there are, and their connections
abbrev pub count_of : Upstreams → ℕ
count_of s = hash.hash_map_len s.rows

abbrev pub connections_of : Upstreams → List ℕ
connections_of s = hash.keys s.dialled

-- of these something may be handed to the cache, in ascending order
abbrev pub news_of : Upstreams → List ℕ
news_of s = set.keys s.news

abbrev pub is_news : Upstreams → ℕ → Bool
is_news s x = set.contains nat_cmp s.news x

-- these are to be looked at when all is sent, in ascending order
abbrev pub touched_of : Upstreams → List ℕ
touched_of s = set.keys s.touched

abbrev pub is_touched : Upstreams → ℕ → Bool
is_touched s x = set.contains nat_cmp s.touched x

-- WHAT CHANGES

abbrev pub with : ℕ → Option Upstream → (ℕ → Option Upstream) → ℕ → Option Upstream
with x row all y = if y == x then row else all y

-- a change of one exchange
abbrev pub Becomes : ℕ → Option Upstream → Upstreams → Upstreams → Type 0
Becomes x row old new = (y : ℕ) → upstream_of new y ≡ with x row (upstream_of old) y

-- nothing changes
abbrev pub Stays : Upstreams → Upstreams → Type 0
Stays old new = (y : ℕ) → upstream_of new y ≡ upstream_of old y

abbrev pub OthersStay : ℕ → Upstreams → Upstreams → Type 0
OthersStay x old new = (y : ℕ) → nat_eq y x ≡ false → upstream_of new y ≡ upstream_of old y

-- one more stands in a list, or one less; the others stay
abbrev pub Marks : (ℕ → Bool) → (ℕ → Bool) → ℕ → Bool → Type 0
Marks old new x now = (y : ℕ) → new y ≡ (if y == x then now else old y)

-- WHAT IS TOLD OF ONE

abbrev pub has_news_at : Option Upstream → Bool
has_news_at None = false
has_news_at (Some upstream) = has_news upstream

abbrev pub has_ended_at : Option Upstream → Bool
has_ended_at None = false
has_ended_at (Some upstream) = upstream.ended

abbrev pub look_at : Option Upstream → Look
look_at None = look.Waits
look_at (Some upstream) = look_of (next_of upstream)

abbrev pub number_of : Upstream → ℕ
number_of upstream = upstream.k

-- it lacks bytes that it is owed
abbrev pub lacks_at : Option Upstream → Bool
lacks_at None = false
lacks_at (Some upstream) = not (length upstream.unsent == 0)

-- neither list changes
abbrev pub ListsStay : Upstreams → Upstreams → Type 0
ListsStay old new =
    ((y : ℕ) → is_news new y ≡ is_news old y) × ((y : ℕ) → is_touched new y ≡ is_touched old y)

-- what was read of the exchange, where it is there
pub record TakesOf (x : ℕ) (old new : Upstreams) (before : Upstream) (result : Result (Option WirePart) MsgError) : Type 0 where
  pub after : Upstream
  pub takes : Takes before after result
  pub becomes : Becomes x (Some after) old new
