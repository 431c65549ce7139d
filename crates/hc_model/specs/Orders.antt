-- In what order the lists stand: who started, what was opened, what was founded, and what was used last.
use Rattle.std.specs.Prelude.{ℕ, ◌+◌, ◌<◌, List, [], ◌∷◌}
use Rattle.hc_model.specs.Rows.{Tables}
use Rattle.hc_model.specs.Sound.{Among}

-- each is below the one before it, and the first is below n
abbrev pub Descends : ℕ → List ℕ → Type 0
Descends n [] = Unit {0}
Descends n (d ∷ ds) = (d < n) × Descends d ds

-- each stands once
abbrev pub AreOnce : List ℕ → Type 0
AreOnce [] = Unit {0}
AreOnce (n ∷ ns) = (Among n ns → ⊥) × AreOnce ns

-- who started and what was opened, the newest first; and what was founded, each once, also by its last use
pub record InOrder (t : Tables) : Type 0 where
  pub starts : Descends (t.last_start + 1) t.starts
  pub openings : Descends (t.opened + 1) t.openings
  pub founded : AreOnce t.founded
  pub used : AreOnce t.used
  pub used_founded : (r : ℕ) → Among r t.used → Among r t.founded
  pub founded_used : (r : ℕ) → Among r t.founded → Among r t.used
