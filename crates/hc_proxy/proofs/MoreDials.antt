-- Dials that come later change nothing of the turns before, nor whether their calls fit.
--
-- A turn looks only at the dials of the exchanges that were opened before it. Exchanges are only added, so where
-- there are as many dials as exchanges behind all turns, there were before each of them. What is dialled
-- behind those isn't looked at.
use Rattle.std.proofs.{Common.{◌≡◌, ◌≤◌, ℕ, List, [], ◌∷◌, ◌++◌, length, Option, refl, ap, sym, ◌∙◌, subst, arith}, lemmas.List.{take-append-le}}
use Rattle.hc_effects.proofs.Vocabulary.{Limits}
use Rattle.hc_wire.specs.Logs.{Called}
use Rattle.hc_proxy.specs.{Carrying.{carried}, Handling.{begun}, Listening.{reads_right}, Loops.{Fits, AllFit}, Rows.{Proxy}, Sending.{sends_right}, Standings.{stand_right}, Turns.{so_far, happened, turned, turned_by}}
use Rattle.hc_proxy.proofs.Stands.{Stands, turn_goes, turns_go}

module _ (limits : Limits) (dialled more : List (Option ℕ)) where
  dials_same : (p : Proxy) → p.tables.opened ≤ length dialled → so_far p (dialled ++ more) ≡ so_far p dialled
  dials_same p enough = take-append-le p.tables.opened dialled more enough

  pub turn_same : (call : Called) (p : Proxy) → p.tables.opened ≤ length dialled → turned limits (dialled ++ more) call p ≡ turned limits dialled call p
  unfolding turned
  turn_same call p enough = ap (λ xs. carried (happened limits xs call (begun call p))) (dials_same p enough)

  -- there are enough before, where there are behind
  enough_before : (calls : List Called) (p : Proxy) → Stands limits p → (turned_by limits dialled calls p).tables.opened ≤ length dialled →
      p.tables.opened ≤ length dialled
  enough_before calls p s enough = let grows : p.tables.opened ≤ (turned_by limits dialled calls p).tables.opened =
      (turns_go limits dialled calls p s).opened in omega arith

  -- The tables behind calls are the same with more dials.
  pub turns_same : (calls : List Called) (p : Proxy) → Stands limits p → (turned_by limits dialled calls p).tables.opened ≤ length dialled →
      turned_by limits (dialled ++ more) calls p ≡ turned_by limits dialled calls p
  turns_same [] p s enough = refl
  turns_same (call ∷ calls) p s enough =
      ap (turned_by limits (dialled ++ more) calls) (turn_same call p (enough_before (call ∷ calls) p s enough))
      ∙ turns_same calls (turned limits dialled call p) (turn_goes limits dialled call p s).stands enough

  -- THE CALLS

  pub fits_same : (call : Called) (p : Proxy) → p.tables.opened ≤ length dialled → Fits limits dialled p call → Fits limits (dialled ++ more) p call
  fits_same call p enough f =
      let same = dials_same p enough in
      record {
        few = f.few;
        wait = f.wait;
        stands = ap (λ xs. stand_right call xs p) same ∙ f.stands;
        reads = ap (λ xs. reads_right call xs p) same ∙ f.reads;
        sends = ap (λ xs. sends_right call xs p) same ∙ f.sends;
      }

  fits_back : (call : Called) (p : Proxy) → p.tables.opened ≤ length dialled → Fits limits (dialled ++ more) p call → Fits limits dialled p call
  fits_back call p enough f =
      let same = sym (dials_same p enough) in
      record {
        few = f.few;
        wait = f.wait;
        stands = ap (λ xs. stand_right call xs p) same ∙ f.stands;
        reads = ap (λ xs. reads_right call xs p) same ∙ f.reads;
        sends = ap (λ xs. sends_right call xs p) same ∙ f.sends;
      }

  -- Calls that fit do so with more dials.
  pub all_fit : (calls : List Called) (p : Proxy) → Stands limits p → (turned_by limits dialled calls p).tables.opened ≤ length dialled →
      AllFit limits dialled p calls → AllFit limits (dialled ++ more) p calls
  all_fit [] p s enough fit = tt
  all_fit (call ∷ calls) p s enough fit =
      let before = enough_before (call ∷ calls) p s enough in (
        fits_same call p before fit.0,
        subst (λ q. AllFit limits (dialled ++ more) q calls) (sym (turn_same call p before))
            (all_fit calls (turned limits dialled call p) (turn_goes limits dialled call p s).stands enough fit.1),
      )

  -- And calls that fit with more do without them.
  pub all_fit_back : (calls : List Called) (p : Proxy) → Stands limits p → (turned_by limits dialled calls p).tables.opened ≤ length dialled →
      AllFit limits (dialled ++ more) p calls → AllFit limits dialled p calls
  all_fit_back [] p s enough fit = tt
  all_fit_back (call ∷ calls) p s enough fit =
      let before = enough_before (call ∷ calls) p s enough in (
        fits_back call p before fit.0,
        all_fit_back calls (turned limits dialled call p) (turn_goes limits dialled call p s).stands enough
            (subst (λ q. AllFit limits (dialled ++ more) q calls) (turn_same call p before) fit.1),
      )
