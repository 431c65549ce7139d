-- How much of a representation is stored.
use Rattle.std.specs.Prelude.{ℕ, List, Bool, false, Option, Some, None, if◌then◌else◌, ◌==◌, ◌&&◌, nat_lt, option_map}
use Rattle.std.specs.List.{list_any}
use Rattle.std.specs.Option.{option_and_then}
use Rattle.hc_record.specs.declared.kind.Kind.{Kind}
use Rattle.hc_record.specs.declared.kind.Kind.TheVariants as kind
use Rattle.hc_model.specs.Rows.{Tables, Exchange, Representation}
use Rattle.hc_model.specs.Exchanges.{family}
use Rattle.hc_model.specs.Currents.{current}
use Rattle.hc_model.specs.Holes.{covers}

abbrev pub brings_to : ℕ → ℕ → Option Exchange → Bool
brings_to r x None = false
brings_to r x (Some w) = w.is_open && family x w == r

-- an exchange that founded or joined it is open
abbrev pub is_growing : Tables → ℕ → Bool
is_growing t r = list_any (λ x. brings_to r x (t.exchange x)) t.openings

abbrev pub covers_all : Representation → Option ℕ → Bool
covers_all v None = false
covers_all v (Some total) = covers v.stored v.reach 0 total

-- its length is known, and all of it is stored
abbrev pub is_complete : Representation → Bool
is_complete v = covers_all v v.head.total

-- what is stored is some first bytes
abbrev pub is_prefix : Representation → Bool
is_prefix v = nat_lt 0 v.size && covers v.stored v.reach 0 v.size

unfoldable pub kind_of : Tables → ℕ → Representation → Kind
kind_of t r v =
    if is_growing t r then kind.Growing
    else if is_complete v then kind.Whole
    else if is_prefix v then kind.Truncated
    else kind.Ranges

abbrev pub kind_at : Tables → ℕ → Option Kind
kind_at t r = option_map (kind_of t r) (t.representation r)

-- the kind of what is current for a key
abbrev pub kind_for : Tables → List ℕ → Option Kind
kind_for t key = option_and_then (kind_at t) (current t key)
