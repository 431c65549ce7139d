-- Where each start asks for a target, each representation has one as its key.
use Rattle.std.{proofs.{lemmas.Bool.Decides.{nat_tests}, Common.{arith, ◌≡◌, inl, inr, ℕ, List, [], ◌∷◌, Bool, true, false, None, Option, Some, refl, ap, sym, ◌∙◌}}, specs.Prelude.{◌==◌, find, option_map}}
use Rattle.hc_text.proofs.Basics.{and_left, and_right, not_some as none_some, some_inj}
use Rattle.hc_effects.proofs.Vocabulary.{Limits, may_begin, is_good, are_good, Entry, entry_of, Content, Contents, ExchangeKeys, Tables, Representation, tables, first_tables, representation_of_content, after_accepted, RequestsAreForTargets, KeysAreTargets}
use Rattle.hc_target.specs.Targets.{is_target}
use Rattle.hc_model.specs.WithinLimits.{KeysStayTargets, StartsHaveTargets}
use Rattle.hc_effects.proofs.{PieceKeeps.{eq_cases}, RepFrom.{RepFrom, rep_from}}
use Rattle.hc_laws.proofs.{RunsWithinLimits.{requests_are_for_targets}, InRuns.{one_key_in_runs}, RunFacts.{along}}

-- the key of what is founded is that of its exchange, and so of a consumer
target_by : (t : Tables) (e : Entry) (r : ℕ) (u : Representation) → ExchangeKeys t → RequestsAreForTargets t → KeysAreTargets t → RepFrom t e r u →
    is_target u.key ≡ true
target_by t e r u keys asked old it7 = grind (arith, nat_tests)

targets_kept : (t : Tables) (e : Entry) → ExchangeKeys t → RequestsAreForTargets t → KeysAreTargets t → KeysAreTargets (after_accepted t e)
targets_kept t e keys asked old r u row = target_by t e r u keys asked old (rep_from t e r (t.representation r) u refl row)

-- AT THE BEGINNING

abbrev of_number : ℕ → Content → Bool
of_number r item = item.r == r

module _ (limits : Limits) (contents : Contents) where
  good_target : (earlier : List Content) (item : Content) (later : List Content) → is_good limits contents earlier item later ≡ true → is_target item.key ≡ true
  good_target earlier item later good = and_left _ _ (and_left _ _ (and_left _ _ (and_left _ _ (and_left _ _ (and_left _ _ good)))))

  target_of : (r : ℕ) (a : Content) (earlier items : List Content) → are_good limits contents earlier items ≡ true → find (of_number r) items ≡ Some a →
      is_target a.key ≡ true
  target_of r a earlier [] good is = absurd (none_some a is)
  target_of r a earlier (item ∷ later) good is = elim (eq_cases item.r r) [
    | inl here ↦ ap (λ (z : Content). is_target z.key) (sym (some_inj item a (rw here.0 at is))) ∙ good_target earlier item later (and_left _ _ good)
    | inr off ↦ target_of r a (item ∷ earlier) later (and_right _ _ good) (rw off.0 at is)
  ]

  module _ (may : may_begin limits contents ≡ true) where
    good : are_good limits contents [] contents.items ≡ true
    unfolding may_begin
    good = and_left _ _ (and_left _ _ (and_left _ _ (and_left _ _ (and_left _ _ may))))

    by_item : (r : ℕ) (v : Representation) (z : Option Content) → find (of_number r) contents.items ≡ z →
        option_map representation_of_content z ≡ Some v → is_target v.key ≡ true
    by_item r v None found row = absurd (none_some v row)
    by_item r v (Some item) found row = sym (ap (λ (z : Representation). is_target z.key) (some_inj (representation_of_content item) v row)) ∙
        target_of r item [] contents.items good found

    targets_begin : KeysAreTargets (first_tables contents)
    targets_begin r v row = by_item r v (find (of_number r) contents.items) refl row

-- IN RUNS

pub keys_stay_targets : KeysStayTargets
keys_stay_targets limits contents h may run =
    along limits contents (λ t h. StartsHaveTargets h → KeysAreTargets t) may
    (λ starts. targets_begin limits contents may)
    (λ h e run later denied old starts. old starts.0)
    (λ h now flaw ev run s old starts. targets_kept (tables contents h) (entry_of limits (tables contents h) now ev flaw)
    (one_key_in_runs limits contents h may run).exchanges (requests_are_for_targets contents h starts.0) (old starts.0))
    h run
