-- What is kept by key is what the tables say of it.
use Rattle.std.specs.Prelude.{◌≡◌, ℕ, List, bytes_eq, Bool, false, Option, Some, None, ◌&&◌}
use Rattle.hc_entry.specs.Kept.{Kept}
use Rattle.hc_entry.specs.Lines.{is_held_by}
use Rattle.hc_text.specs.Sorted.{is_among}
use Rattle.hc_event.specs.declared.place.Place.{Place}
use Rattle.hc_event.specs.declared.place.Place.TheVariants as place
use Rattle.hc_event.specs.declared.place.BoundBy.TheVariants as by
use Rattle.hc_model.specs.Currents.{current}
use Rattle.hc_model.specs.Exchanges.{is_headless}
use Rattle.hc_model.specs.Lines.{is_in_line, holds_turn}
use Rattle.hc_model.specs.Planning.{has_passed}
use Rattle.hc_model.specs.Rows.{Tables, Consumer}

-- it has the turn of the key
abbrev pub has_turn : List ℕ → Option Consumer → Bool
has_turn key o = is_in_line key o && holds_turn o

-- it has passed for the key
abbrev pub is_passed : List ℕ → Option Consumer → Bool
is_passed key None = false
is_passed key (Some k) = bytes_eq k.request.key key && has_passed k.place

-- it is bound by a first hole whose exchange has no head yet
abbrev pub is_away_at : Tables → Place → Bool
is_away_at t (place.Bound r lo hi (by.FirstHole y)) = is_headless (t.exchange y)
is_away_at t _ = false

abbrev pub is_away : Tables → List ℕ → Option Consumer → Bool
is_away t key None = false
is_away t key (Some k) = bytes_eq k.request.key key && is_away_at t k.place

pub record KeepsKey (t : Tables) (key : List ℕ) (k : Kept) : Type 0 where
  pub current : k.current ≡ current t key
  pub in_line : (c : ℕ) → is_among c k.in_line ≡ is_in_line key (t.consumer c)
  pub passed : (c : ℕ) → is_among c k.passed ≡ is_passed key (t.consumer c)
  pub away : (c : ℕ) → is_among c k.away ≡ is_away t key (t.consumer c)
  pub holder : (c : ℕ) → is_held_by c k.holder ≡ has_turn key (t.consumer c)
