-- Induction over runs: what each entry of a run keeps.
use Rattle.std.proofs.Common.{[], ◌∷◌, ◌++◌}
use Rattle.hc_effects.proofs.Vocabulary.{Contents, Entry, History, IsRun, Limits}

module _ (limits : Limits) (contents : Contents) (P : History → Type 0) where
  abbrev pub IsKept : Type 0
  IsKept = (h : History) (e : Entry) → IsRun limits contents (e ∷ h) → P h → P (e ∷ h)

  -- What holds of no entry, and each entry keeps, holds of every run.
  pub by_entries : P [] → IsKept → (h : History) → IsRun limits contents h → P h
  by_entries begins keeps [] run = begins
  by_entries begins keeps (e ∷ h) run = keeps h e run (by_entries begins keeps h run.0)

  -- What holds of a history, and each entry keeps, holds of every run that goes on behind it.
  pub by_later_entries : IsKept → (later h : History) → IsRun limits contents (later ++ h) → P h → P (later ++ h)
  by_later_entries keeps [] h run holds = holds
  by_later_entries keeps (e ∷ later) h run holds = keeps (later ++ h) e run (by_later_entries keeps later h run.0 holds)
