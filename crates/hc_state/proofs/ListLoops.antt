-- Who changed so far in a loop over consumers that are listed.
use Rattle.std.proofs.Common.{ℕ, List, take}
use Rattle.hc_text.specs.Sorted.{itself, has}
use Rattle.hc_state.specs.Changes.{Numbered, ChangesAmong}
use Rattle.hc_txn.specs.declared.transaction.Transaction.{Transaction as Consumer}

-- the first so many of them changed
abbrev pub ChangedFirst : ℕ → List ℕ → (Consumer → Consumer) → Numbered Consumer → Numbered Consumer → Type 0
ChangedFirst i cs f old new = ChangesAmong old new (λ d. has itself d (take i cs)) f
