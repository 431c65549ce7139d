-- What is kept of representations is what the tables say of them.
use Rattle.std.specs.Prelude.{◌≡◌, ◌≢◌, ◌<◌, ◌^◌, ℕ, [], Bool, true, false, Option, Some, None, filter, not, ◌&&◌}
use Rattle.hc_sparse.specs.Cells.{Covers}
use Rattle.hc_record.specs.Head.{sealed_head}
use Rattle.hc_record.specs.declared.kind.Kind.TheVariants as kinds
use Rattle.hc_text.specs.Sorted.{has, itself}
use Rattle.hc_stored.specs.Kept.{Kept}
use Rattle.hc_stored.specs.Shelf.{Shelf}
use Rattle.hc_model.specs.Currents.{is_number}
use Rattle.hc_model.specs.Kinds.{kind_of}
use Rattle.hc_model.specs.Reading.{is_bound, is_bound_place, bound}
use Rattle.hc_model.specs.Rows.{Tables, Exchange, Representation, Consumer}
use Rattle.hc_model.specs.Writers.{came_alone}

-- WHO IS BOUND

-- it is bound to r, and came alone
abbrev pub is_first : Tables → ℕ → Option Consumer → Bool
is_first t r None = false
is_first t r (Some k) = is_bound_place r k.place && came_alone t k.place

-- ITS LENGTH

-- A length that became known once it was gone isn't told: all of it has come, and nobody came to it
-- alone.
pub record IsForgotten (k : Kept) (v : Representation) : Type 0 where
  pub gone : v.is_gone ≡ true
  pub unreported : k.head.total ≡ None
  pub total : ℕ
  pub known : v.head.total ≡ Some total
  pub came : Covers v.body 0 total
  pub first : k.first ≡ None

pub data KnowsLength (k : Kept) (v : Representation) : Type 0 where
  reported : k.head.total ≡ v.head.total → KnowsLength k v
  unreported : IsForgotten k v → KnowsLength k v

-- WHO WRITES IT

-- it was opened, and isn't open any more
abbrev pub is_over : Option Exchange → Bool
is_over None = false
is_over (Some w) = not w.is_open

-- The exchange of its writer group is told; one that is over may be forgotten.
pub data KnowsWriter (exchange : ℕ → Option Exchange) (kept reported : Option ℕ) : Type 0 where
  as_written : kept ≡ reported → KnowsWriter exchange kept reported
  forgotten : (x : ℕ) → kept ≡ None → reported ≡ Some x → is_over (exchange x) ≡ true →
      KnowsWriter exchange kept reported

-- ONE OF THEM

-- Where it isn't gone its kind and length are told; what is called whole is.
pub record IsEntry (t : Tables) (r : ℕ) (k : Kept) (v : Representation) : Type 0 where
  pub used : v.is_gone ≡ true → bound t r ≢ []
  pub key : k.key ≡ v.key
  pub head : sealed_head kinds.Growing v.head.total k.head ≡ v.head
  pub length : KnowsLength k v
  pub kind : v.is_gone ≡ false → k.head.kind ≡ kind_of t r v
  pub whole : (n : ℕ) → k.head.kind ≡ kinds.Whole → k.head.total ≡ Some n → Covers v.stored 0 n
  pub cells : (p : ℕ) → k.cells p ≡ v.stored p
  pub reach : v.is_lost ≡ false → k.reach ≡ v.reach
  pub bound : (c : ℕ) → has itself c k.bound ≡ is_bound r (t.consumer c)
  pub first : (c : ℕ) → is_number k.first c ≡ is_first t r (t.consumer c)
  pub writer : KnowsWriter t.exchange k.writer v.writer
  pub is_lost : k.is_lost ≡ v.is_lost
  pub alone : k.alone ≡ v.alone
  pub is_gone : k.is_gone ≡ v.is_gone

-- it is gone, and nobody is bound to it
pub record IsDropped (t : Tables) (r : ℕ) (v : Representation) : Type 0 where
  pub gone : v.is_gone ≡ true
  pub unused : bound t r ≡ []

-- one is kept as long as it isn't gone, or somebody is bound to it
abbrev pub KeepsEntry : Tables → ℕ → Option Kept → Option Representation → Type 0
KeepsEntry t r None None = Unit {0}
KeepsEntry t r None (Some v) = IsDropped t r v
KeepsEntry t r (Some k) None = ⊥
KeepsEntry t r (Some k) (Some v) = IsEntry t r k v

-- ALL OF THEM

abbrev pub is_usable_row : Option Representation → Bool
is_usable_row None = false
is_usable_row (Some v) = not v.is_gone

abbrev pub is_usable_kept : Option Kept → Bool
is_usable_kept None = false
is_usable_kept (Some k) = not k.is_gone

-- each length that is told may be sealed
abbrev pub KnowsShort : Shelf → Type 0
KnowsShort s =
    (r n : ℕ) (k : Kept) → s.kept r ≡ Some k → k.head.total ≡ Some n → n < 2 ^ 62

-- those that aren't gone stand in the order in which consumers became bound to them
pub record KeepsEntries (t : Tables) (s : Shelf) : Type 0 where
  pub each : (r : ℕ) → KeepsEntry t r (s.kept r) (t.representation r)
  pub order : s.order ≡ filter (λ r. is_usable_row (t.representation r)) t.used
