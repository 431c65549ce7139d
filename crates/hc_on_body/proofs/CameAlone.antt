-- Nobody came alone to what has no known length: who came alone knows where its part ends.
use Rattle.std.{proofs.Common.{◌≡◌, ℕ, Bool, true, false, Option, Some, None, refl, ap, sym, ◌∙◌}, specs.Prelude.{option_map, ◌&&◌, ◌==◌, if◌then◌else◌}}
use Rattle.hc_text.proofs.Basics.{false_true, and_both as parts_on}
use Rattle.hc_effects.proofs.Vocabulary.{place, BoundBy, back_in_line, let_go, back_from, as_gone, Measures, is_bound_place, Tables, Representation, Sound, IsBound, came_alone, status_in}
use Rattle.hc_model.specs.{Effects.{waits_for}, Sound.{is_bound}}
use Rattle.hc_model.specs.Rows as rows
use Rattle.hc_effects.proofs.{HasBound.{bound_at}, Tests.{none_some}}
use Rattle.hc_state.specs.Stored.{is_first}
use Rattle.hc_state.proofs.OneOfEach.{first_by}

abbrev pub NobodyFirst : Tables → ℕ → Type 0
NobodyFirst t x = (d : ℕ) → is_first t x (t.consumer d) ≡ false

pub nobody_first : (t : Tables) (x : ℕ) (v : Representation) → Sound t → Measures t → t.representation x ≡ Some v → v.head.total ≡ None → NobodyFirst t x
nobody_first t x v s measures there unknown d = by_row (t.consumer d) refl
  where
    never : (k : rows.Consumer) → t.consumer d ≡ Some k → (lo : ℕ) (hi : Option ℕ) (how : BoundBy) → k.place ≡ place.Bound x lo hi how →
        came_alone t (place.Bound x lo hi how) ≡ true → ⊥
    never k row lo None how at alone = false_true (s.writes.known_end x d lo None how k row at alone)
    never k row lo (Some end) how at alone =
        let ends = measures.ends x d lo end how k v row at there in
        none_some ends.total (sym unknown ∙ ends.known)

    by_bound : {P : Type 0} (k : rows.Consumer) → came_alone t k.place ≡ true → IsBound t x d k → P
    by_bound k alone (is_bound lo hi how row at) = absurd (never k row lo hi how at (sym (ap (came_alone t) at) ∙ alone))

    by_test : (k : rows.Consumer) → t.consumer d ≡ Some k → (b : Bool) → is_first t x (Some k) ≡ b → b ≡ false
    by_test k row false is = refl
    by_test k row true is =
        let parts = parts_on (is_bound_place x k.place) (came_alone t k.place) is in
        by_bound k parts.1 (bound_at t x d k k.place row refl parts.0)

    by_row : (o : Option rows.Consumer) → t.consumer d ≡ o → is_first t x o ≡ false
    by_row None row = refl
    by_row (Some k) row = by_test k row (is_first t x (Some k)) refl

-- letting go makes nobody one who came alone
module _ (now q x : ℕ) (t : Tables) where
  status_gone : (b : Bool) (o : Option Representation) → status_in (if b then option_map as_gone o else o) ≡ status_in o
  status_gone true None = refl
  status_gone true (Some v) = refl
  status_gone false o = refl

  back_first : (b : Bool) (k : rows.Consumer) → is_first t x (Some k) ≡ false → is_first t x (Some (if b then back_in_line now k else k)) ≡ false
  back_first true k off = refl
  back_first false k off = off

  row_first : (o : Option rows.Consumer) → is_first t x o ≡ false → is_first t x (option_map (back_from now q) o) ≡ false
  row_first None off = refl
  row_first (Some k) off = back_first (waits_for q k.place) k off

  pub nobody_first_go : NobodyFirst t x → NobodyFirst (let_go now q t) x
  nobody_first_go nobody d =
      first_by t (let_go now q t) (λ n. status_gone (q == n) (t.representation n)) x ((let_go now q t).consumer d)
      ∙ row_first (t.consumer d) (nobody d)
