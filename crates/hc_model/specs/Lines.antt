-- The line of a key, and whose turn it is.
use Rattle.std.specs.Prelude.{ℕ, List, ◌∷◌, bytes_eq, Bool, true, false, Option, Some, None, ◌&&◌, not, filter, find, unwrap_or}
use Rattle.std.specs.Option.{option_or}
use Rattle.hc_rules.specs.Admissions.{least}
use Rattle.hc_rules.specs.Requests.{is_disabled, is_only}
use Rattle.hc_event.specs.declared.place.Place.{Place}
use Rattle.hc_event.specs.declared.place.Place.TheVariants as place
use Rattle.hc_model.specs.Rows.{Tables, Consumer}

abbrev pub stands_in_line : Place → Bool
stands_in_line place.Line = true
stands_in_line (place.Turn x) = true
stands_in_line _ = false

abbrev pub is_in_line : List ℕ → Option Consumer → Bool
is_in_line key None = false
is_in_line key (Some k) =
    bytes_eq k.request.key key && stands_in_line k.place
    && not (is_disabled k.request) && not (is_only k.request)

-- the line of a key
unfoldable pub line : Tables → List ℕ → List ℕ
line t key = filter (λ c. is_in_line key (t.consumer c)) t.starts

abbrev pub holds_place : Place → Bool
holds_place (place.Turn x) = true
holds_place _ = false

abbrev pub holds_turn : Option Consumer → Bool
holds_turn None = false
holds_turn (Some k) = holds_place k.place

-- who waits for a head with the turn
abbrev pub holder : Tables → List ℕ → Option ℕ
holder t key = find (λ c. holds_turn (t.consumer c)) (line t key)

-- whose turn it is: that one's, or the least one's of the line
unfoldable pub turn : Tables → List ℕ → Option ℕ
turn t key = option_or (holder t key) (least (line t key))

-- whose turn it is, with one more consumer in the line
abbrev pub turn_with : Tables → List ℕ → ℕ → ℕ
turn_with t key c = unwrap_or (option_or (holder t key) (least (c ∷ line t key))) c
