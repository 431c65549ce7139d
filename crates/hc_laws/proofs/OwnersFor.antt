-- Whose own an exchange may be: its consumer's, or the detached reader's of what it wrote for several, in every run.
--
-- An own exchange that was so keeps whose it is: it is its consumer's still, or its reader is still the detached one of
-- its family, which a later head doesn't change (`kept_owner`, `stays_alone`). An opened one is its consumer's. One
-- that is left was that of a lost writing, whose survivor goes on with it (`left_owner`). `by_from` joins the three,
-- and `owners_for` carries this.
use Rattle.std.{proofs.Common.{◌≡◌, inl, inr, ℕ, true, Option, Some, refl, ap, sym, ◌∙◌, subst}, specs.Prelude.{is_some, unwrap_or, ◌&&◌}}
use Rattle.hc_text.proofs.Basics.{and_left, and_right, bool_cases, not_some as none_some, same_some as same_row}
use Rattle.hc_effects.proofs.Vocabulary.{Opening, opening_in, Response, Limits, loses_in, Entry, family, entry_of, OfRunsIn, Measures, is_written, Tables, Exchange, Representation, Consumer, after_accepted, after_denied, IsOwner, loses_group, brings_body, event}
use Rattle.hc_model.specs.Whose as whose
use Rattle.hc_effects.proofs.{Basics.{false_true, some_row}, ExchangeFrom.{ExchangeFrom, exchange_from, IsSame}, FirstKeeps.{is_new}, LossBy.{IsReal, fresh}, OwnFrom.{OwnFrom, own_from, IsLeft}, OwnersKeep.{new_number}, RepFrom.{RepFrom, rep_from, IsKept}, ServedKeeps.{lost_alone, kept_alone}, Step.{Step, step_of}}
use Rattle.hc_effects.proofs.ExchangeFrom as exchange
use Rattle.hc_effects.proofs.OwnFrom as own_by
use Rattle.hc_effects.proofs.RepFrom as rep
use Rattle.hc_laws.proofs.RunFacts.{in_runs}

pub record AreFor (limits : Limits) (t : Tables) : Type 0 where
  pub owner : (c x : ℕ) (k : Consumer) (w : Exchange) → t.consumer c ≡ Some k → k.own ≡ Some x → t.exchange x ≡ Some w → IsOwner t x w c

module _ (step : Step) (m : Measures step.tables) (was : AreFor step.limits step.tables)
    (real : IsReal step.limits step.tables step.now step.event step.flaw) where
  open step use {limits, tables as t, now, flaw, sound as s, owners as o, event as ev, accepted as goes}

  abbrev e : Entry
  e = entry_of limits t now ev flaw

  abbrev now_on : Tables
  now_on = after_accepted t e

  -- a representation that was there
  kept_row : (r : ℕ) (v : Representation) → t.representation r ≡ Some v → (p : Representation) × (now_on.representation r ≡ Some p) × IsKept t e r v p
  kept_row r v there =
      let got = some_row (now_on.representation r) (rep.stays t e r (t.representation r) (ap (λ (q : Option Representation). is_some q) there)) in
      (got.0, got.1, by_from got.0 (rep_from t e r (t.representation r) got.0 refl got.1))
    where
      by_from : (p : Representation) → RepFrom t e r p → IsKept t e r v p
      by_from p (rep.was u kept) = subst (λ (q : Representation). IsKept t e r q p) (same_row (t.representation r) u v kept.row there) kept
      by_from p (rep.founded response w none here exchange_row on made) = absurd (none_some v (sym none ∙ there))

  module _ (c x : ℕ) (u : Consumer) (w z : Exchange) (row : t.exchange x ≡ Some w) (same : IsSame t e x w z) where
    is_opener : w.c ≡ c → IsOwner now_on x z c
    is_opener mine = whose.opener (same.c_is ∙ mine)

    -- with its head it still is of the family that it was of, or it was its consumer's
    stays_alone : (v : Representation) → t.representation (family x w) ≡ Some v →
        ((p : Representation) → IsKept t e (family x w) v p → p.alone ≡ Some c) → family x z ≡ family x w → IsOwner now_on x z c
    stays_alone v there alone family_is =
        let on = kept_row (family x w) v there in
        whose.alone on.0 (ap now_on.representation family_is ∙ on.1) (alone on.0 on.2)

    module _ (k : Consumer) (k_row : t.consumer c ≡ Some k) (own : k.own ≡ Some x) where
      headed_opener : (response : Response) → ev ≡ event.Head x response → w.c ≡ c
      headed_opener response here =
          let new = is_new limits t now flaw s ev goes x response w here row in
          let waits = o.waiting x w row new.is_open new.bare in
          o.one w.c c x waits.k k waits.row k_row waits.own own

      still_alone : (v : Representation) → t.representation (family x w) ≡ Some v → v.alone ≡ Some c → (p : Representation) →
          IsKept t e (family x w) v p → p.alone ≡ Some c
      still_alone v there alone p kept = elim (bool_cases (loses_in (family x w) e.acts)) [
        | inr quiet ↦ (kept_alone step m real (family x w) v p kept quiet).1 ∙ alone
        | inl loses ↦ absurd (none_some c (sym ((s.rows (family x w) v there).store.nobody_alone (fresh step m real (family x w) v there loses)) ∙ alone))
      ]

      kept_owner : IsOwner t x w c → IsOwner now_on x z c
      kept_owner (whose.opener mine) = is_opener mine
      kept_owner (whose.alone v there alone) = elim same.heard_or [
        | inl still ↦ stays_alone v there (still_alone v there alone) (ap (λ (q : Option ℕ). unwrap_or q x) still.1)
        | inr came ↦ is_opener (headed_opener came.response came.at)
      ]

    -- what was written for several is left to one
    module _ (p : Rattle.hc_event.specs.declared.place.Place.Place) (i : IsLeft t e c x p) where
      on : is_written t i.v ≡ true
      on = and_right _ _ i.loses

      loses : loses_in i.r e.acts ≡ true
      loses = and_right _ _ (and_left (brings_body ev && loses_in i.r e.acts) (is_written t i.v) i.loses)

      left_alone : (q : Representation) → IsKept t e i.r i.v q → q.alone ≡ Some c
      left_alone q kept =
          let losing : loses_group t e i.r i.v ≡ true = i.loses in
          (lost_alone step m real i.r i.v q i.row kept loses).1 ∙ rw losing i.survives

      left_owner : IsOwner now_on x z c
      left_owner =
          let g = (s.rows i.r i.v i.row).growing x on i.writer_is in
          let one : g.0 ≡ w = same_row (t.exchange x) g.0 w g.1.row row in
          let of_r : family x w ≡ i.r = ap (family x) (sym one) ∙ g.1.family_is in
          let headed : is_some w.head ≡ true = ap (λ (q : Exchange). is_some q.head) (sym one) ∙ g.1.headed in
          elim same.heard_or [
            | inl still ↦ stays_alone i.v (ap t.representation of_r ∙ i.row) (λ q kept. left_alone q (subst (λ n. IsKept t e n i.v q) of_r kept))
                (ap (λ (q : Option ℕ). unwrap_or q x) still.1)
            | inr came ↦ absurd (false_true
                (sym (ap (λ (q : Option Response). is_some q) (is_new limits t now flaw s ev goes x came.response w came.at row).bare) ∙ headed))
          ]

  by_from : (c x : ℕ) (u : Consumer) (z : Exchange) → OwnFrom t e c x u → ExchangeFrom t e x z → IsOwner now_on x z c
  by_from c x u z (own_by.kept k its own heard) (exchange.was w row same) = kept_owner c x u w z row same k its.row own (was.owner c x k w its.row own row)
  by_from c x u z (own_by.kept k its own heard) (exchange.new q none opens here made) =
      absurd (false_true (sym (ap (λ (y : Option Exchange). is_some y) none) ∙ o.there c x k its.row own))
  by_from c x u z (own_by.opened k q its opens mine number) (exchange.was w row same) = absurd (none_some w (sym (new_number step q x opens number) ∙ row))
  by_from c x u z (own_by.opened k q its opens mine number) (exchange.new p none also here made) =
      whose.opener (ap (λ (y : Exchange). y.c) (sym made) ∙ (ap (λ (y : Opening). y.c) (same_row (opening_in e.acts) p q also opens) ∙ mine))
  by_from c x u z (own_by.left k its i) (exchange.was w row same) = left_owner c x u w z row same _ i
  by_from c x u z (own_by.left k its i) (exchange.new p none opens here made) =
      let g = (s.rows i.r i.v i.row).growing x (and_right _ _ i.loses) i.writer_is in
      absurd (none_some g.0 (sym none ∙ g.1.row))

  for_kept : AreFor limits now_on
  for_kept = record {
    owner =
        λ c x u z after own after_row. by_from c x u z (own_from t e c x (t.consumer c) u refl after own) (exchange_from t e x (t.exchange x) z refl after_row);
  }

for_denied : (limits : Limits) (t : Tables) (e : Entry) → AreFor limits t → AreFor limits (after_denied t e)
for_denied limits t e was = record { owner = λ c x k w row own exchange_row. by_owner x w c (was.owner c x k w row own exchange_row) }
  where
    by_owner : (x : ℕ) (w : Exchange) (c : ℕ) → IsOwner t x w c → IsOwner (after_denied t e) x w c
    by_owner x w c (whose.opener mine) = whose.opener mine
    by_owner x w c (whose.alone v there alone) = whose.alone v there alone

pub owners_for : OfRunsIn AreFor
owners_for = in_runs AreFor (λ limits contents may. record { owner = λ c x k w row. absurd (none_some k row) })
    (λ limits t e later was. for_denied limits t e was)
    (λ limits t now flaw later c was ev goes real. for_kept (step_of limits t now flaw c.is_sound c.is_owned ev goes) c.is_measured was real)
