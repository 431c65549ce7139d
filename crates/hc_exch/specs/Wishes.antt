-- Which open exchanges are wanted, and which wait for an ask.
use Rattle.std.specs.Prelude.{◌≡◌, ℕ, ◌+◌, ◌≤◌, Bool, true, List, []}
use Rattle.hc_text.specs.Sorted.{is_sorted, has, with_item, without, itself}

-- those of which a head or a piece is wanted, and the other ones, by number
pub record Wished : Type 0 where
  pub wanted : List ℕ
  pub idle : List ℕ

abbrev pub nobody : Wished
nobody = record { wanted = []; idle = [] }

abbrev pub wants_more : ℕ → Wished → Wished
wants_more x w = record w { wanted = with_item itself x w.wanted }

abbrev pub asks : ℕ → Wished → Wished
asks x w = record { wanted = with_item itself x w.wanted; idle = without itself x w.idle }

abbrev pub rests : ℕ → Wished → Wished
rests x w = record { wanted = without itself x w.wanted; idle = with_item itself x w.idle }

abbrev pub leaves : ℕ → Wished → Wished
leaves x w = record { wanted = without itself x w.wanted; idle = without itself x w.idle }

-- the numbers rise, and each list has room for all of both
pub record HasRoom (wanted idle : List ℕ) (wanted_len idle_len wanted_room idle_room : ℕ) : Type 0 where
  pub wanted_rise : is_sorted itself wanted ≡ true
  pub idle_rise : is_sorted itself idle ≡ true
  pub wanted_fit : wanted_len + idle_len ≤ wanted_room
  pub idle_fit : wanted_len + idle_len ≤ idle_room
