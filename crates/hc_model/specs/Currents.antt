-- What is current for a key (RFC 9111 section 4).
use Rattle.std.specs.Prelude.{ℕ, List, bytes_eq, Bool, false, Option, Some, None, ◌==◌, ◌&&◌, not, find, option_and_then}
use Rattle.hc_model.specs.Rows.{Tables, Representation}

abbrev pub is_usable : List ℕ → Option Representation → Bool
is_usable key None = false
is_usable key (Some v) = bytes_eq v.key key && not v.is_gone

-- the representation of the key that was founded last, of those that aren't gone
unfoldable pub current : Tables → List ℕ → Option ℕ
current t key = find (λ r. is_usable key (t.representation r)) t.founded

-- there is a number, and it is this one
abbrev pub is_number : Option ℕ → ℕ → Bool
is_number None n = false
is_number (Some m) n = m == n

-- r is current for the key
abbrev pub is_current : Tables → List ℕ → ℕ → Bool
is_current t key r = is_number (current t key) r

-- the row of a representation, where there is one
abbrev pub row_of : Tables → Option ℕ → Option Representation
row_of t r = option_and_then t.representation r

-- the length of a representation, once that is known
abbrev pub total_in : Option Representation → Option ℕ
total_in None = None
total_in (Some v) = v.head.total
