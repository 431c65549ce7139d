-- Who came alone and rests, rests at each entry of a run.
use Rattle.std.proofs.Common.{◌≡◌, ℕ, Bool, ◌∷◌, true, false, Some, None, refl, sym, ◌∙◌, subst}
use Rattle.hc_text.proofs.Basics.{some_inj}
use Rattle.hc_effects.proofs.Vocabulary.{is_denied, Entry, flaw_in, bound, is_written, exclusive, has_more, Tables, Representation, Consumer, IsBound, tables, after_accepted, after_denied}
use Rattle.hc_model.specs.{Resting.{RestsOn, RestsInRuns}, Sound.{is_bound}}
use Rattle.hc_effects.proofs.{OfEntries.{of_real}, RestsOn.{rests_kept}, Step.{step_of}}
use Rattle.hc_laws.proofs.{Barred.{denied_tables, next_tables}, SoundRuns.{carried}}

-- a denied entry leaves who writes alone
exclusive_same : (t : Tables) (e : Entry) (r : ℕ) (v : Representation) → exclusive (after_denied t e) r v ≡ exclusive t r v
unfolding exclusive bound is_written
exclusive_same t e r v = refl

-- and all of it
rests_denied : (t : Tables) (e : Entry) → RestsOn t (after_denied t e)
rests_denied t e = record {
  rests = λ r c v p k u there after fresh first row reader none enough. same_more v p k u
      (some_inj v p (sym there ∙ after)) (some_inj k u (sym row ∙ row_is r c u reader)) enough;
  unwritten = λ r v p there after fresh some free. same_writer r v p (some_inj v p (sym there ∙ after)) free;
}
  where
    row_is : (r c : ℕ) (u : Consumer) → IsBound (after_denied t e) r c u → t.consumer c ≡ Some u
    row_is r c u (is_bound lo hi how row at) = row

    same_more : (v p : Representation) (k u : Consumer) → v ≡ p → k ≡ u → has_more t v k ≡ false → has_more (after_denied t e) p u ≡ false
    same_more v p k u same one enough =
        subst (λ (z : Representation). has_more t z u ≡ false) same (subst (λ (z : Consumer). has_more t v z ≡ false) one enough)

    same_writer : (r : ℕ) (v p : Representation) → v ≡ p → exclusive t r v ≡ None → exclusive (after_denied t e) r p ≡ None
    same_writer r v p same free = subst (λ (z : Representation). exclusive (after_denied t e) r z ≡ None) same (exclusive_same t e r v ∙ free)

pub rests_in_runs : RestsInRuns
rests_in_runs limits contents h e may run = by_denial (is_denied e.acts) refl
  where
    by_denial : (b : Bool) → is_denied e.acts ≡ b → RestsOn (tables contents h) (tables contents (e ∷ h))
    by_denial true denied = subst (RestsOn (tables contents h)) (denied_tables contents h e denied) (rests_denied (tables contents h) e)
    by_denial false accepted =
        let c = carried limits contents h may run.0 in
        subst (RestsOn (tables contents h)) (next_tables contents h e accepted)
        (of_real limits (tables contents h) e (λ z. RestsOn (tables contents h) (after_accepted (tables contents h) z)) run.1 accepted
        (λ going real. rests_kept (step_of limits (tables contents h) e.now (flaw_in e.acts) c.is_sound c.is_owned e.event going) c.is_measured real))
