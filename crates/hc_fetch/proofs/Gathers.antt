-- What is gathered stands in the body that was shown first, and what is written is read off from it.
--
-- What is given by an entry stands in that body before it. So over what stands there too, nothing is changed that was
-- gathered before (`gathers_on`), and all stands there again (`gathers_there`). The bytes from 0 on without a gap
-- are some first part of those of what has more (`writes_on`), and stand in the body (`written_held`).
use Rattle.std.{proofs.Common.{◌≡◌, inl, inr, ℕ, zero, suc, ◌+◌, ◌-◌, ◌<◌, ◌≤◌, List, [], ◌∷◌, ◌++◌, length, Bool, Option, Some, None, refl, ap, sym, ◌∙◌, subst, arith}, specs.Prelude.{if◌then◌else◌, slice_index}}
use Rattle.hc_sparse.specs.Cells.{Cells, Cell, cells_with}
use Rattle.hc_sparse.proofs.CellLemmas.{inside-cases}
use Rattle.hc_effects.proofs.Vocabulary.{Act, Delivers, Holds, Says, body_of, Tables, act}
use Rattle.hc_fetch.specs.Gathering.{gathered_in, byte_before, bytes_on}

-- all of this is in the body of r
abbrev pub Stands : Tables → ℕ → Cells → Type 0
Stands t r f = (p : ℕ) (cell : Cell) → f p ≡ Some cell → body_of t r p ≡ Some cell

-- so is what these acts give
abbrev pub GivesOf : Tables → ℕ → List Act → Type 0
GivesOf t r acts = (c x at : ℕ) (bytes : List ℕ) → Says (act.Given c x at bytes) acts → Delivers t r at x bytes

-- what is somewhere is there too
abbrev pub IsPartOf : Cells → Cells → Type 0
IsPartOf f g = (p : ℕ) (cell : Cell) → f p ≡ Some cell → g p ≡ Some cell

-- ONE ACT

module _ (t : Tables) (r x at : ℕ) (bytes : List ℕ) (f : Cells) (given : Delivers t r at x bytes) (stand : Stands t r f) where
  -- what was given at a position
  abbrev new : ℕ → Cell
  new p = record { byte = slice_index bytes (p - at); x = x }

  new_stands : (p : ℕ) → at ≤ p → p < at + length bytes → body_of t r p ≡ Some (new p)
  new_stands p low high =
      let under : p - at < length bytes = omega arith in
      let place : at + (p - at) ≡ p = omega arith in
      subst (λ (q : ℕ). body_of t r q ≡ Some (new p)) place (given (p - at) under)

  pub one_stands : Stands t r (cells_with at x bytes f)
  one_stands p cell is = elim (inside-cases at (length bytes) p) [
    | inl here ↦
        let there : Some (new p) ≡ Some cell = sym (ap (λ (b : Bool). if b then Some (new p) else f p) here.0) ∙ is in
        new_stands p here.1 here.2 ∙ there
    | inr off ↦ stand p cell (sym (ap (λ (b : Bool). if b then Some (new p) else f p) off.0) ∙ is)
  ]

  one_on : IsPartOf f (cells_with at x bytes f)
  one_on p cell is = elim (inside-cases at (length bytes) p) [
    | inl here ↦ ap (λ (b : Bool). if b then Some (new p) else f p) here.0 ∙ (sym (new_stands p here.1 here.2) ∙ stand p cell is)
    | inr off ↦ ap (λ (b : Bool). if b then Some (new p) else f p) off.0 ∙ is
  ]

-- ALL ACTS

less : (t : Tables) (r : ℕ) (a : Act) (acts : List Act) → GivesOf t r (a ∷ acts) → GivesOf t r acts
less t r a acts gives c x at bytes says = gives c x at bytes (inr says)

pub gathers_there : (t : Tables) (r : ℕ) (acts : List Act) (f : Cells) → GivesOf t r acts → Stands t r f → Stands t r (gathered_in acts f)
gathers_there t r [] f gives stand = stand
gathers_there t r (act.Given c x at bytes ∷ acts) f gives stand =
    gathers_there t r acts (cells_with at x bytes f) (less t r (act.Given c x at bytes) acts gives)
    (one_stands t r x at bytes f (gives c x at bytes (inl refl)) stand)
gathers_there t r (act.Shown c s why status fields lo hi ∷ acts) f gives stand =
    gathers_there t r acts f (less t r (act.Shown c s why status fields lo hi) acts gives) stand
gathers_there t r (a ∷ acts) f gives stand = gathers_there t r acts f (less t r a acts gives) stand

pub gathers_on : (t : Tables) (r : ℕ) (acts : List Act) (f : Cells) → GivesOf t r acts → Stands t r f → IsPartOf f (gathered_in acts f)
gathers_on t r [] f gives stand p cell is = is
gathers_on t r (act.Given c x at bytes ∷ acts) f gives stand p cell is =
    let given = gives c x at bytes (inl refl) in
    gathers_on t r acts (cells_with at x bytes f) (less t r (act.Given c x at bytes) acts gives) (one_stands t r x at bytes f given stand) p cell
    (one_on t r x at bytes f given stand p cell is)
gathers_on t r (a ∷ acts) f gives stand p cell is = gathers_on t r acts f (less t r a acts gives) stand p cell is

-- WHAT IS WRITTEN

by_cell : (f g : Cells) (p n m : ℕ) (q : Option Cell) → f p ≡ q → IsPartOf f g → ((more : List ℕ) × (bytes_on f (p + 1) n ++ more ≡ bytes_on g (p + 1) m))
    → (more : List ℕ) × (byte_before q (bytes_on f (p + 1) n) ++ more ≡ byte_before (g p) (bytes_on g (p + 1) m))
by_cell f g p n m None is part rest = (byte_before (g p) (bytes_on g (p + 1) m), refl)
by_cell f g p n m (Some cell) is part rest =
    (rest.0, ap (λ (bytes : List ℕ). cell.byte ∷ bytes) rest.1 ∙ ap (λ (q : Option Cell). byte_before q (bytes_on g (p + 1) m)) (sym (part p cell is)))

pub writes_on : (f g : Cells) (p n m : ℕ) → IsPartOf f g → n ≤ m → (more : List ℕ) × (bytes_on f p n ++ more ≡ bytes_on g p m)
writes_on f g p zero m part le = (bytes_on g p m, refl)
writes_on f g p (suc n) zero part le = absurd (omega arith)
writes_on f g p (suc n) (suc m) part le = by_cell f g p n m (f p) refl part (writes_on f g (p + 1) n m part (omega arith))

one_held : (t : Tables) (r p : ℕ) (cell : Cell) → body_of t r p ≡ Some cell → Delivers t r (p + 0) cell.x (cell.byte ∷ [])
one_held t r p cell there zero below = let place : p + 0 + 0 ≡ p = omega arith in rw place there
one_held t r p cell there (suc k) below = absurd (omega arith)

-- a byte before bytes
held_more : (t : Tables) (r p : ℕ) (q : Option Cell) (bytes : List ℕ) → ((cell : Cell) → q ≡ Some cell → body_of t r p ≡ Some cell) →
    Holds t r (p + 1) bytes → Holds t r p (byte_before q bytes)
held_more t r p None bytes there rest i lt = absurd (omega arith)
held_more t r p (Some cell) bytes there rest zero lt = (cell.x, one_held t r p cell (there cell refl))
held_more t r p (Some cell) bytes there rest (suc i) lt =
    let place : p + 1 + i ≡ p + suc i = omega arith in
    subst (λ (q : ℕ). (x : ℕ) × Delivers t r q x (slice_index bytes i ∷ [])) place (rest i (omega arith))

pub written_held : (t : Tables) (r : ℕ) (f : Cells) (p n : ℕ) → Stands t r f → Holds t r p (bytes_on f p n)
written_held t r f p zero stand = λ i lt. absurd (omega arith)
written_held t r f p (suc n) stand = held_more t r p (f p) (bytes_on f (p + 1) n) (stand p) (written_held t r f (p + 1) n stand)
