-- Who is bound, as the table of plans sees it, is who is bound in one way, by number.
use Rattle.std.{proofs.Common.{◌≡◌, ℕ, List, Bool, true, false, cond, Option, Some, None, refl, ap, sym, ◌∙◌}, specs.Prelude.{is_some, map}}
use Rattle.hc_text.specs.Sorted.{is_sorted, itself}
use Rattle.hc_rules.specs.{declared.admission.{Bound.{Bound}, BoundKind.{BoundKind}}, Admissions.{least, least_bound, least_of}}
use Rattle.hc_rules.specs.declared.admission.BoundKind.TheVariants as kind
use Rattle.hc_entry.specs.Used.{bound_as}
use Rattle.hc_entry.proofs.AdmissionLemmas.{least-ascending, least_bound-map, least_of-other, least_of-same}

-- as what all are bound
abbrev pub kind_by : Bool → Option ℕ → BoundKind
kind_by group exclusive = cond group kind.Shared (cond (is_some exclusive) kind.Exclusive kind.Reader)

abbrev pub bound_by : List ℕ → Bool → Option ℕ → List Bound
bound_by cs group exclusive = map (bound_as (kind_by group exclusive)) cs

pub record AreSeen (cs : List ℕ) (group : Bool) (exclusive : Option ℕ) (first : Option ℕ) : Type 0 where
  pub writer_group : group ≡ is_some (least_of kind.Shared (bound_by cs group exclusive))
  pub together : (d : ℕ) → least_of kind.Shared (bound_by cs group exclusive) ≡ Some d → first ≡ Some d
  pub exclusive_is : exclusive ≡ least_of kind.Exclusive (bound_by cs group exclusive)
  pub least_is : first ≡ least_bound (bound_by cs group exclusive)

-- whoever is bound to what a writer group writes is a member of it, and who writes alone is the only one
module _ (cs : List ℕ) (up : is_sorted itself cs ≡ true) (first : Option ℕ) (at : least cs ≡ first) where
  of_kind : (k : BoundKind) → first ≡ least_bound (map (bound_as k) cs)
  of_kind k = sym at ∙ (least-ascending cs up ∙ sym (least_bound-map k cs up))

  shared_is : least_of kind.Shared (map (bound_as kind.Shared) cs) ≡ first
  shared_is = least_of-same kind.Shared kind.Shared cs refl up ∙ (sym (least-ascending cs up) ∙ at)

  exclusive_is : least_of kind.Exclusive (map (bound_as kind.Exclusive) cs) ≡ first
  exclusive_is = least_of-same kind.Exclusive kind.Exclusive cs refl up ∙ (sym (least-ascending cs up) ∙ at)

  none_of : (k other : BoundKind) (d : ℕ) → least_of other (map (bound_as k) cs) ≡ None → least_of other (map (bound_as k) cs) ≡ Some d → first ≡ Some d
  none_of k other d off on = absurd (let never : None ≡ Some d = sym off ∙ on in cc)

  pub are_seen : (group : Bool) (exclusive : Option ℕ) → (group ≡ true → is_some first ≡ true) → (group ≡ true → exclusive ≡ None)
      → ((d : ℕ) → exclusive ≡ Some d → first ≡ Some d) → AreSeen cs group exclusive first
  are_seen true exclusive some none alone = record {
    writer_group = sym (ap (λ (o : Option ℕ). is_some o) shared_is ∙ some refl);
    together = λ d is. sym shared_is ∙ is;
    exclusive_is = none refl ∙ sym (least_of-other kind.Shared kind.Exclusive cs refl);
    least_is = of_kind kind.Shared;
  }
  are_seen false (Some c) some none alone = record {
    writer_group = ap (λ (o : Option ℕ). is_some o) (sym (least_of-other kind.Exclusive kind.Shared cs refl));
    together = λ d. none_of kind.Exclusive kind.Shared d (least_of-other kind.Exclusive kind.Shared cs refl);
    exclusive_is = sym (alone c refl) ∙ sym exclusive_is;
    least_is = of_kind kind.Exclusive;
  }
  are_seen false None some none alone = record {
    writer_group = ap (λ (o : Option ℕ). is_some o) (sym (least_of-other kind.Reader kind.Shared cs refl));
    together = λ d. none_of kind.Reader kind.Shared d (least_of-other kind.Reader kind.Shared cs refl);
    exclusive_is = sym (least_of-other kind.Reader kind.Exclusive cs refl);
    least_is = of_kind kind.Reader;
  }
