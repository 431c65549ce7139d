-- What the origin brings to an exchange: its answer, then the bytes of that, in pieces.
use Rattle.std.specs.Prelude.{◌≡◌, ℕ, zero, suc, ◌+◌, ◌-◌, min, nat_lt, List, [], ◌∷◌, if◌then◌else◌}
use Rattle.hc_event.specs.declared.event.Event.TheVariants.{Head, Piece}
use Rattle.hc_text.specs.Sorted.{with_replacement, without}
use Rattle.hc_validate.specs.declared.origin.Answer.{Answer}
use Rattle.hc_validate.specs.Origin.{IsOriginAnswer, origin_byte}
use Rattle.hc_generate.specs.declared.exchange.Brought.{Brought}
use Rattle.hc_generate.specs.declared.exchange.Exchange.{Exchange}
use Rattle.hc_generate.specs.declared.exchange.Owed.{Owed}
use Rattle.hc_generate.specs.declared.exchange.Owed.TheVariants.{Answer as answer_to, Bytes}

abbrev pub number_of : Exchange → ℕ
number_of e = e.x

-- n bytes of the origin, from a position on
abbrev pub origin_bytes : ℕ → ℕ → List ℕ
origin_bytes at zero = []
origin_bytes at (suc n) = origin_byte at ∷ origin_bytes (at + 1) n

-- how many of the bytes from `at` up to `hi` come next
abbrev pub next_length : ℕ → ℕ → ℕ
next_length at hi = min (hi - at) 512

-- the next piece of the bytes from `at` up to `hi`
abbrev pub next_piece : ℕ → ℕ → ℕ → Brought
next_piece x at hi = record {
  event = Piece x (origin_bytes at (next_length at hi));
  at = at + next_length at hi;
  hi = hi;
}

-- the head of an answer; its bytes are to come
abbrev pub head_of : ℕ → Answer → Brought
head_of x answer = record { event = Head x answer.response; at = answer.lo; hi = answer.hi }

-- what comes of what is owed, and which bytes are owed then
abbrev pub Brings : ℕ → Owed → Brought → Type 0
Brings x (answer_to request) b = (answer : Answer) × IsOriginAnswer request answer × (b ≡ head_of x answer)
Brings x (Bytes at hi) b = b ≡ next_piece x at hi

-- the exchange x is owed the bytes from `at` up to `hi`. Where these are none it is forgotten
abbrev pub owed_then : ℕ → ℕ → ℕ → List Exchange → List Exchange
owed_then x at hi exchanges =
    if nat_lt at hi then with_replacement number_of (record { x = x; owed = Bytes at hi }) exchanges
    else without number_of x exchanges
