-- What still comes of a representation: one exchange at most brings it, and what isn't gone and has no known length is brought
-- by the one that founded it.
use Rattle.std.specs.Prelude.{◌≡◌, ℕ, ◌∷◌, true, false, Some, None, is_some}
use Rattle.hc_rules.specs.declared.room.Limits.{Limits}
use Rattle.hc_rules.specs.Statuses.{brings_whole}
use Rattle.hc_model.specs.Beginnings.{may_begin}
use Rattle.hc_model.specs.Entries.{Entry, History, Contents}
use Rattle.hc_model.specs.Exchanges.{family, is_open}
use Rattle.hc_model.specs.Kinds.{is_growing}
use Rattle.hc_model.specs.Reading.{is_written}
use Rattle.hc_model.specs.Rows.{Tables, Exchange, Representation}
use Rattle.hc_model.specs.Runs.{IsRun}
use Rattle.hc_model.specs.Tables.{tables}

-- an open exchange that founded or joined r
pub record Grows (t : Tables) (x r : ℕ) : Type 0 where
  pub w : Exchange
  pub row : t.exchange x ≡ Some w
  pub is_open : w.is_open ≡ true
  pub headed : is_some w.head ≡ true
  pub of_r : family x w ≡ r

-- it is written for several, from the whole answer that founded it
pub record IsComing (t : Tables) (r : ℕ) (v : Representation) : Type 0 where
  pub written : is_written t v ≡ true
  pub writer : v.writer ≡ Some r
  pub status : brings_whole v.head.status ≡ true
  pub grows : Grows t r r

pub record Growing (t : Tables) : Type 0 where
  pub grower : (r : ℕ) (v : Representation) → t.representation r ≡ Some v →
      is_growing t r ≡ true → (x : ℕ) × Grows t x r
  pub grows : (r x : ℕ) → Grows t x r → is_growing t r ≡ true
  pub one : (r x y : ℕ) (v : Representation) → t.representation r ≡ Some v → Grows t x r →
      Grows t y r → x ≡ y
  pub known : (r : ℕ) (v : Representation) → t.representation r ≡ Some v → v.is_gone ≡ false →
      is_growing t r ≡ false → is_some v.head.total ≡ true
  pub unknown : (r : ℕ) (v : Representation) → t.representation r ≡ Some v → v.is_gone ≡ false →
      v.head.total ≡ None → IsComing t r v

-- where the exchange that brings r stops, nothing brings it any more
abbrev pub StopsGrowing : Tables → Tables → Type 0
StopsGrowing old new =
    (r x : ℕ) (v : Representation) → old.representation r ≡ Some v → Grows old x r →
    is_open (new.exchange x) ≡ false → is_growing new r ≡ false

-- at each entry of a run
abbrev pub StopsInRuns : Type 0
StopsInRuns =
    (limits : Limits) (contents : Contents) (h : History) (e : Entry) →
    may_begin limits contents ≡ true → IsRun limits contents (e ∷ h) →
    StopsGrowing (tables contents h) (tables contents (e ∷ h))
