-- The moments of stored heads stay in order, and no length stands among their fields.
--
-- A stored head stays, is renewed, or is that of an answer (`HeadFrom`). Exchanges are opened in the past
-- (`opened_by`), so the moments of a head stay in order (`dated_from`). No length or range stands among its fields,
-- since each way leaves them out (`heads_kept`). That heads stay within limits goes alike. At the beginning each item
-- has a right head (`dated_item`). `heads_in_runs` carries this.
use Rattle.std.{proofs.{Common.{◌≡◌, inl, inr, ℕ, ◌≤◌, List, [], ◌∷◌, Bool, true, false, None, Option, Some, refl, ap, sym, ◌∙◌, subst, arith}, lemmas.Bool.Decides.{nat_tests}}, specs.Prelude.{◌==◌, find, option_map, codes}}
use Rattle.hc_text.proofs.Basics.{and_left, and_right, not_some as none_some, not_true as not_yes, some_inj}
use Rattle.hc_effects.proofs.Vocabulary.{is_denied, Event, Response, Limits, may_begin, are_good, has_right_head, Entry, History, Content, Contents, exchange_heard, OfRuns, Tables, Exchange, Representation, StoredHeads, IsHeadWithinLimits, AreWithinLimits, tables, first_tables, representation_of_content, after, after_accepted, after_denied, event}
use Rattle.hc_fields.specs.FirstValues.{has_field}
use Rattle.hc_record.specs.Head.{Head}
use Rattle.hc_validate.specs.Updates.{is_within_limits}
use Rattle.hc_model.specs.StoredHeads.{HeadsAreWithinLimits}
use Rattle.hc_effects.proofs.{ExchangeFrom.{was, new, ExchangeFrom, exchange_from}, FieldsKeep.{length_kept, range_kept, length_none, range_none, within_limits_founded}, Forward.{after_is}, PieceKeeps.{eq_cases}, RepFrom.{RepFrom, rep_from}}
use Rattle.hc_laws.proofs.{HeadFrom.{updated, reported, still, HeadFrom, head_from}, RunFacts.{in_runs}}
use Rattle.hc_effects.proofs.RepFrom as rep

-- the moment of its opening stays
opened_heard : (t : Tables) (e : Entry) (x : ℕ) (ev : Event) (w : Exchange) → (exchange_heard t e x ev w).opened ≡ w.opened
opened_heard t e x ev w = grind (arith, nat_tests)

-- of a head
pub record IsDated (moment : ℕ) (head : Head) : Type 0 where
  pub asked : head.requested ≤ head.answered
  pub came : head.answered ≤ moment
  pub no_length : has_field (codes "content-length") head.fields ≡ false
  pub no_range : has_field (codes "content-range") head.fields ≡ false

module _ (t : Tables) (e : Entry) (later : t.moment ≤ e.now) (g : StoredHeads t) where
  abbrev now_on : Tables
  now_on = after_accepted t e

  opened_by : (x : ℕ) (u : Exchange) → now_on.exchange x ≡ Some u → ExchangeFrom t e x u → u.opened ≤ e.now
  opened_by x u row (was w at same) =
      let is : w.opened ≡ u.opened = sym (opened_heard t e x e.event w) ∙
      ap (λ (z : Exchange). z.opened) (some_inj _ u (sym (after_is t e x w (t.exchange x) at) ∙ row)) in
      grind (arith, nat_tests)
  opened_by x u row (new o none opening here is) = let now_is : e.now ≡ u.opened = ap (λ (z : Exchange). z.opened) is in omega arith

  dated : (r : ℕ) (v : Representation) → t.representation r ≡ Some v → IsDated e.now v.head
  dated r v row = grind (arith, nat_tests)

  dated_from : (r : ℕ) (v u : Representation) → t.representation r ≡ Some v → HeadFrom t e r v u → IsDated e.now u.head
  dated_from r v u row it4 = grind (arith, nat_tests, still, dated, reported, updated, length_kept, range_kept)

  dated_by : (r : ℕ) (u : Representation) → RepFrom t e r u → IsDated e.now u.head
  dated_by r u (rep.was v kept) = dated_from r v u kept.row (head_from t e r v u kept)
  dated_by r u (rep.founded response w none here row on is) = grind (arith, nat_tests, length_none, range_none)

  dated_row : (r : ℕ) (u : Representation) → now_on.representation r ≡ Some u → IsDated e.now u.head
  dated_row r u row = dated_by r u (rep_from t e r (t.representation r) u refl row)

  pub heads_kept : StoredHeads now_on
  heads_kept = record {
    opened = λ x u row. opened_by x u row (exchange_from t e x (t.exchange x) u refl row);
    moments = λ r u row. let d = dated_row r u row in (d.asked, d.came);
    lengths = λ r u row. (dated_row r u row).no_length;
    ranges = λ r u row. (dated_row r u row).no_range;
  }

heads_denied : (t : Tables) (e : Entry) → t.moment ≤ e.now → StoredHeads t → StoredHeads (after_denied t e)
heads_denied t e later g = grind (arith, nat_tests)

-- MODEST HEADS

within_limits_head : (e : Entry) (x : ℕ) (response : Response) → e.event ≡ event.Head x response → IsHeadWithinLimits e.event →
    is_within_limits response.fields ≡ true
within_limits_head e x response here within_limits = subst IsHeadWithinLimits here within_limits

within_limits_from : (t : Tables) (e : Entry) (r : ℕ) (v u : Representation) → is_within_limits v.head.fields ≡ true → HeadFrom t e r v u →
    is_within_limits u.head.fields ≡ true
within_limits_from t e r v u old it6 = grind (arith, nat_tests)

within_limits_by : (t : Tables) (e : Entry) (r : ℕ) (u : Representation) → IsHeadWithinLimits e.event → AreWithinLimits t → RepFrom t e r u →
    is_within_limits u.head.fields ≡ true
within_limits_by t e r u within_limits old (rep.was v kept) = within_limits_from t e r v u (old r v kept.row) (head_from t e r v u kept)
within_limits_by t e r u within_limits old (rep.founded response w none here row on is) =
    sym (ap (λ (z : Representation). is_within_limits z.head.fields) is) ∙
    within_limits_founded response.fields (within_limits_head e r response here within_limits)

within_limits_step : (t : Tables) (e : Entry) (b : Bool) → is_denied e.acts ≡ b → IsHeadWithinLimits e.event → AreWithinLimits t → AreWithinLimits (after t e)
unfolding after
within_limits_step t e true denied within_limits old = rw denied old
within_limits_step t e false accepted within_limits old =
    rw accepted (λ r u row. within_limits_by t e r u within_limits old (rep_from t e r (t.representation r) u refl row))

-- AT THE BEGINNING

abbrev of_number : ℕ → Content → Bool
of_number r item = item.r == r

module _ (limits : Limits) (contents : Contents) where
  right_item : (r : ℕ) (a : Content) (earlier items : List Content) → are_good limits contents earlier items ≡ true → find (of_number r) items ≡ Some a →
      has_right_head contents a ≡ true
  right_item r a earlier [] good is = absurd (none_some a is)
  right_item r a earlier (item ∷ later) good is = elim (eq_cases item.r r) [
    | inl here ↦ ap (has_right_head contents) (sym (some_inj item a (rw here.0 at is))) ∙ and_right _ _ (and_left _ _ good)
    | inr off ↦ right_item r a (item ∷ earlier) later (and_right _ _ good) (rw off.0 at is)
  ]

  module _ (may : may_begin limits contents ≡ true) where
    good : are_good limits contents [] contents.items ≡ true
    unfolding may_begin
    good = and_left _ _ (and_left _ _ (and_left _ _ (and_left _ _ (and_left _ _ may))))

    pub right_head : (r : ℕ) (item : Content) → find (of_number r) contents.items ≡ Some item → has_right_head contents item ≡ true
    right_head r item found = right_item r item [] contents.items good found

    dated_item : (item : Content) → has_right_head contents item ≡ true → IsDated contents.now (representation_of_content item).head
    dated_item item right = grind (arith, nat_tests, and_left, and_right, not_yes)

    by_item : (P : Representation → Type 0) → ((item : Content) → has_right_head contents item ≡ true → P (representation_of_content item)) →
        (r : ℕ) (v : Representation) (z : Option Content) → find (of_number r) contents.items ≡ z → option_map representation_of_content z ≡ Some v → P v
    by_item P holds r v None found row = absurd (none_some v row)
    by_item P holds r v (Some item) found row = subst P (some_inj (representation_of_content item) v row) (holds item (right_head r item found))

    dated_begun : (r : ℕ) (v : Representation) → (first_tables contents).representation r ≡ Some v → IsDated contents.now v.head
    dated_begun r v row = by_item (λ (z : Representation). IsDated contents.now z.head) dated_item r v (find (of_number r) contents.items) refl row

    heads_begin : StoredHeads (first_tables contents)
    heads_begin = grind (arith, nat_tests, none_some, dated_begun)

    within_limits_begin : AreWithinLimits (first_tables contents)
    within_limits_begin r v row =
        by_item (λ (z : Representation). is_within_limits z.head.fields ≡ true) (λ item right. and_right _ _ right) r v
        (find (of_number r) contents.items) refl row

-- IN RUNS

pub heads_in_runs : OfRuns StoredHeads
heads_in_runs = in_runs (λ limits t. StoredHeads t) (λ limits contents may. heads_begin limits contents may)
    (λ limits t e later g. heads_denied t e later g) (λ limits t now flaw later c g ev goes real. heads_kept t _ later g)

pub within_limits_in_runs : (limits : Limits) (contents : Contents) (h : History) → may_begin limits contents ≡ true → HeadsAreWithinLimits h →
    AreWithinLimits (tables contents h)
unfolding tables
within_limits_in_runs limits contents [] may within_limits = within_limits_begin limits contents may
within_limits_in_runs limits contents (e ∷ h) may within_limits =
    within_limits_step (tables contents h) e (is_denied e.acts) refl within_limits.1 (within_limits_in_runs limits contents h may within_limits.0)
