-- Who writes alone is the only one that is bound, in every run.
--
-- That others are bound beside who came alone only where it rests is kept by another file, and carried here
-- (`lone_in_runs`). Who writes alone has more to come, so it doesn't rest: nobody else is bound (`others_not`). So of
-- the consumers in order it alone passes the test (`one_passes`), and the list of who is bound is that one (`only_by`).
-- Who is exclusive lacks something, and the other way (`writes_by`).
use Rattle.std.{proofs.Common.{◌≡◌, ◌<◌, inl, inr, ℕ, ◌+◌, List, [], ◌∷◌, Bool, true, false, Option, Some, None, refl, ap, sym, ◌∙◌, arith}, specs.Prelude.{◌↔◌, filter, is_some, is_none}}
use Rattle.hc_text.proofs.Basics.{all_three, bool_cases, not_some as none_some, same_some as same_row}
use Rattle.hc_effects.proofs.Vocabulary.{Cause, Entry, OfRuns, Descends, InOrder, is_written, is_bound, is_bound_place, bound, Tables, Representation, Consumer, Sound, Among, IsBound, IsFirst, tables, after_denied, came_alone, exclusive, has_more, place}
use Rattle.hc_sparse.specs.Cells.{EndsBy}
use Rattle.hc_model.specs.Alone.{Alone, IsOnly}
use Rattle.hc_model.specs.Sound as sound
use Rattle.hc_effects.proofs.{Basics.{false_true}, Exclusives.{IsExclusive, exclusive_parts}, HasBound.{bound_row}, HolesOpened.{stored_ends}, Losses.{exclusive_is}, ExclusiveWriters.{eq-refl}, PieceKeeps.{eq_cases}, OfConsumers.{all_below}, RestsOn.{IsResting, none_more}, Step.{step_of}}
use Rattle.hc_laws.proofs.{DeniedKeeps.{written_same}, Lone.{AreLone, lone_kept}, OrderRuns.{order_in_runs}, RunFacts.{in_runs}, SoundRuns.{carried}}

lone_denied : (t : Tables) (e : Entry) → AreLone t → AreLone (after_denied t e)
lone_denied t e was = record { lone = by_first }
  where
    by_first : (r c d : ℕ) (v : Representation) (k u : Consumer) → t.representation r ≡ Some v → v.is_lost ≡ false →
        is_written (after_denied t e) v ≡ false → IsFirst (after_denied t e) r c → t.consumer c ≡ Some k → k.due ≡ None →
        IsBound (after_denied t e) r d u → (d ≡ c → ⊥) → IsResting (after_denied t e) v k
    by_first r c d v k u row fresh off (sound.first q lo hi how q_row at alone) k_row none (sound.is_bound a b f u_row at_u) apart =
        let i = was.lone r c d v k u row fresh (sym (written_same t e v) ∙ off) (sound.first q lo hi how q_row at alone) k_row none
        (sound.is_bound a b f u_row at_u) apart in
        record { unowned = i.unowned; rest = record { hi = i.rest.hi; end = i.rest.end; covered = i.rest.covered } }

lone_in_runs : OfRuns AreLone
lone_in_runs = in_runs (λ limits t. AreLone t)
    (λ limits contents may. record { lone = λ r c d v k u row fresh off first k_row. absurd (none_some k k_row) })
    (λ limits t e later was. lone_denied t e was)
    (λ limits t now flaw later c was ev goes real. lone_kept (step_of limits t now flaw c.is_sound c.is_owned ev goes) c.is_measured was real)

-- ONE THAT PASSES

-- none but c passes, and c isn't among them
none_passes : (test : ℕ → Bool) (c : ℕ) (ds : List ℕ) → ((d : ℕ) → test d ≡ true → d ≡ c) → (Among c ds → ⊥) → filter test ds ≡ []
none_passes test c [] one absent = refl
none_passes test c (d ∷ ds) one absent = elim (bool_cases (test d)) [
  | inl on ↦ absurd (absent (inl (one d on)))
  | inr off ↦ rw off (none_passes test c ds one (λ there. absent (inr there)))
]

-- of numbers in order c alone passes
one_passes : (test : ℕ → Bool) (n c : ℕ) (ds : List ℕ) → Descends n ds → ((d : ℕ) → test d ≡ true → d ≡ c) → test c ≡ true → Among c ds →
    filter test ds ≡ c ∷ []
one_passes test n c [] down one passes there = absurd there
one_passes test n c (d ∷ ds) down one passes (inl here) =
    let on : test d ≡ true = ap test here ∙ passes in
    rw on (rw (none_passes test c ds one (λ there. let less : c < d = all_below d c ds down.1 there in let same : d ≡ c = here in absurd (omega arith)))
    (ap (λ z. z ∷ []) here))
one_passes test n c (d ∷ ds) down one passes (inr there) = elim (bool_cases (test d)) [
  | inl on ↦ let less : c < d = all_below d c ds down.1 there in let same : d ≡ c = one d on in absurd (omega arith)
  | inr off ↦ rw off (one_passes test d c ds down.1 one passes there)
]

module _ (t : Tables) (s : Sound t) (lone : AreLone t) (order : InOrder t) where
  -- who rests writes nothing
  resting_not : (v : Representation) (k : Consumer) → EndsBy v.reach v.stored → IsResting t v k → has_more t v k ≡ true → ⊥
  resting_not v k ends i more = false_true (sym (none_more t v k ends i) ∙ more)

  -- nobody else is
  others_not : (r c d : ℕ) (v : Representation) → t.representation r ≡ Some v → v.is_lost ≡ false → IsExclusive t r c v → (u : Consumer) →
      IsBound t r d u → (d ≡ c → ⊥) → ⊥
  others_not r c d v row fresh x u other apart =
      resting_not v x.k (stored_ends t r v (s.rows r v row))
      (lone.lone r c d v x.k u row fresh x.unwritten x.first (row_is x.reader) x.none_due other apart) x.more
    where
      row_is : IsBound t r c x.k → t.consumer c ≡ Some x.k
      row_is (sound.is_bound lo hi how is at) = is

  only_by : (r c : ℕ) (v : Representation) → t.representation r ≡ Some v → v.is_lost ≡ false → exclusive t r v ≡ Some c → IsOnly t r c
  unfolding bound
  only_by r c v row fresh is =
      let x = exclusive_parts t r c v is in
      record { came = x.first; only = bound_is x x.k x.reader }
    where
      is_c : IsExclusive t r c v → (d : ℕ) → is_bound r (t.consumer d) ≡ true → d ≡ c
      is_c x d on = elim (eq_cases d c) [
        | inl same ↦ same.1
        | inr off ↦ let reader = bound_row t r d (t.consumer d) refl on in absurd (others_not r c d v row fresh x reader.0 reader.1 off.1)
      ]

      bound_is : IsExclusive t r c v → (k : Consumer) → IsBound t r c k → bound t r ≡ c ∷ []
      bound_is x k (sound.is_bound lo hi how k_row at) =
          one_passes (λ d. is_bound r (t.consumer d)) (t.last_start + 1) c t.starts order.starts (is_c x)
          (ap (is_bound r) k_row ∙ (ap (is_bound_place r) at ∙ eq-refl r)) (s.numbered.lists.started c (ap (λ (z : Option Consumer). is_some z) k_row))

  writes_by : (r c : ℕ) (v : Representation) (k : Consumer) → t.representation r ≡ Some v → v.is_lost ≡ false → is_written t v ≡ false → IsFirst t r c →
      t.consumer c ≡ Some k → k.due ≡ None → (exclusive t r v ≡ Some c) ↔ (has_more t v k ≡ true)
  writes_by r c v k row fresh off (sound.first q lo hi how q_row at alone) k_row none = (to, back)
    where
      same : q ≡ k
      same = same_row (t.consumer c) q k q_row k_row

      to : exclusive t r v ≡ Some c → has_more t v k ≡ true
      to is = by_parts (exclusive_parts t r c v is)
        where
          row_is : (z : Consumer) → IsBound t r c z → t.consumer c ≡ Some z
          row_is z (sound.is_bound a b d is at) = is

          by_parts : IsExclusive t r c v → has_more t v k ≡ true
          by_parts x = ap (has_more t v) (same_row (t.consumer c) k x.k k_row (row_is x.k x.reader)) ∙ x.more

      back : has_more t v k ≡ true → exclusive t r v ≡ Some c
      back more =
          let stands : k.place ≡ place.Bound r lo hi how = ap (λ (z : Consumer). z.place) (sym same) ∙ at in
          exclusive_is t r c v k s (sound.is_bound lo hi how k_row stands) off
          (all_three (came_alone t k.place) (is_none k.due) (has_more t v k) (ap (came_alone t) stands ∙ alone)
          (ap (λ (z : Option Cause). is_none z) none) more)

  alone_by : Alone t
  alone_by = record { is_only = only_by; writes = writes_by }

pub alone_in_runs : OfRuns Alone
alone_in_runs limits contents h may run =
    alone_by (tables contents h) (carried limits contents h may run).is_sound (lone_in_runs limits contents h may run) (order_in_runs limits contents h may run)
