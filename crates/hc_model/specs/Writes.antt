-- Which representation an entry writes in the store.
use Rattle.std.specs.Prelude.{ℕ, List, [], ◌∷◌, Bool, false, Option, Some, None, if◌then◌else◌, ◌==◌, ◌||◌, ◌&&◌, not}
use Rattle.std.specs.Option.{option_or}
use Rattle.hc_event.specs.Filters.{closes_in}
use Rattle.hc_event.specs.declared.event.Event.{Event}
use Rattle.hc_event.specs.declared.event.Event.TheVariants as event
use Rattle.hc_event.specs.declared.event.Response.{Response}
use Rattle.hc_rules.specs.HeadCases.{is_conditional}
use Rattle.hc_rules.specs.Lengths.{is_same_number}
use Rattle.hc_model.specs.Entries.{Entry}
use Rattle.hc_model.specs.ActFilters.{without_losses}
use Rattle.hc_model.specs.Rows.{Tables, Exchange, Representation}
use Rattle.hc_model.specs.Exchanges.{family}
use Rattle.hc_model.specs.Currents.{current}
use Rattle.hc_model.specs.Cases.{case_at, is_founding, is_joining}
use Rattle.hc_model.specs.Gone.{ends_early, is_keepable}

-- BY A HEAD

-- a 304 that may be about what is current
abbrev pub may_validate : Tables → Exchange → Response → Bool
may_validate t w response =
    response.status == 304 && is_conditional w.need w.request
    && is_same_number (current t w.request.key) w.aim

-- what it founds, what it may validate, or what it joins
abbrev pub head_writes : Tables → Entry → ℕ → Response → Option Exchange → Option ℕ
head_writes t e x response None = None
head_writes t e x response (Some w) =
    if is_founding (case_at t e) then Some x
    else if may_validate t w response || is_joining (case_at t e) then w.aim
    else None

-- BY A PIECE

abbrev pub unless_lost : ℕ → Option Representation → Option ℕ
unless_lost r None = None
unless_lost r (Some v) = if v.is_lost then None else Some r

abbrev pub piece_writes : Tables → ℕ → Option Exchange → Option ℕ
piece_writes t x None = None
piece_writes t x (Some w) = unless_lost (family x w) (t.representation (family x w))

-- BY AN END WITHOUT A PIECE

abbrev pub is_sealed : Tables → Entry → ℕ → Option Representation → Bool
is_sealed t e r None = false
is_sealed t e r (Some v) = not v.is_gone && not (ends_early t e r v && not (is_keepable v))

abbrev pub sealed_by : Tables → Entry → ℕ → Option Exchange → Option ℕ
sealed_by t e x None = None
sealed_by t e x (Some w) =
    if is_sealed t e (family x w) (t.representation (family x w)) then Some (family x w) else None

abbrev pub stops : ℕ → Event → Bool
stops x (event.End y) = y == x
stops x (event.Fault y) = y == x
stops x _ = false

abbrev pub seals_at : Tables → Entry → ℕ → Option ℕ
seals_at t e x =
    if stops x e.event || closes_in x e.acts then sealed_by t e x (t.exchange x) else None

abbrev pub first_found : (ℕ → Option ℕ) → List ℕ → Option ℕ
first_found f [] = None
first_found f (x ∷ xs) = option_or (f x) (first_found f xs)

-- the representation whose kind and total are sealed, since an exchange of its family ends without a piece
abbrev pub sealed_representation : Tables → Entry → Option ℕ
sealed_representation t e = first_found (seals_at t e) t.openings

-- BY AN ENTRY

-- a head without a loss closes no exchange of a representation
abbrev pub written_in : Tables → Entry → Event → Option ℕ
written_in t e (event.Head x response) = head_writes t e x response (t.exchange x)
written_in t e (event.Piece x bytes) = piece_writes t x (t.exchange x)
written_in t e _ = sealed_representation t e

abbrev pub lossless : Entry → Entry
lossless e = record e { acts = without_losses e.acts }

-- the representation that an entry writes, as it would without a loss
unfoldable pub written_representation : Tables → Entry → Option ℕ
written_representation t e = written_in t (lossless e) e.event
