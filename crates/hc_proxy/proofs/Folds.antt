-- One call more at the end of a log.
use Rattle.std.proofs.Common.{◌≡◌, ℕ, List, [], ◌∷◌, ◌++◌, Option, refl}
use Rattle.hc_effects.proofs.Vocabulary.{Limits}
use Rattle.hc_wire.specs.Logs.{Called}
use Rattle.hc_proxy.specs.{Loops.{Fits, AllFit}, Rows.{Proxy}, Turns.{turned, turned_by}}

module _ (limits : Limits) (dialled : List (Option ℕ)) where
  -- the tables behind it are those of its turn, behind the calls before it
  pub turned_more : (calls : List Called) (call : Called) (p : Proxy) →
      turned_by limits dialled (calls ++ call ∷ []) p ≡ turned limits dialled call (turned_by limits dialled calls p)
  turned_more [] call p = refl
  turned_more (first ∷ calls) call p = turned_more calls call (turned limits dialled first p)

  -- it fits, and so do those before it
  pub fit_more : (calls : List Called) (call : Called) (p : Proxy) → AllFit limits dialled p calls →
      Fits limits dialled (turned_by limits dialled calls p) call → AllFit limits dialled p (calls ++ call ∷ [])
  fit_more [] call p all fits = (fits, tt)
  fit_more (first ∷ calls) call p all fits = (all.0, fit_more calls call (turned limits dialled first p) all.1 fits)

  pub fit_last : (calls : List Called) (call : Called) (p : Proxy) → AllFit limits dialled p (calls ++ call ∷ []) → AllFit limits dialled p calls ×
      Fits limits dialled (turned_by limits dialled calls p) call
  fit_last [] call p all = (tt, all.0)
  fit_last (first ∷ calls) call p all =
      let before = fit_last calls call (turned limits dialled first p) all.1 in
      ((all.0, before.0), before.1)
