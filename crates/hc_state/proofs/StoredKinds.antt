-- How much is stored of a representation, by what is told of what is kept.
use Rattle.std.{proofs.{Common.{◌≡◌, ℕ, ◌<◌, Bool, true, false, Some, None, refl, ap, sym, ◌∙◌, subst, arith}, lemmas.Bool.Decides.{nat_tests}}, specs.Prelude.{is_some, nat_lt, ◌&&◌, ◌↔◌, IsTrue}}
use Rattle.hc_text.proofs.Basics.{same_test}
use Rattle.hc_sparse.specs.Cells.{Cells, Covers}
use Rattle.hc_stored.specs.declared.view.EntryView.{EntryView}
use Rattle.hc_effects.proofs.Vocabulary.{covers, is_complete, is_prefix, covers_all, Representation}
use Rattle.hc_effects.proofs.HoleLemmas as holes
use Rattle.hc_state.specs.Stops.{IsViewOf}

module _ (v : Representation) (cells : Cells) (entry : EntryView) (is : IsViewOf v cells entry) where
  -- what the store covers is covered
  covers_as : (b : Bool) (hi : ℕ) → (IsTrue b ↔ Covers cells 0 hi) → b ≡ covers v.stored v.reach 0 hi
  covers_as b hi reports = same_test b (covers v.stored v.reach 0 hi)
      (λ on. holes.covers_yes v.stored v.reach 0 hi is.ends (λ p lo up. ap (λ z. is_some z) (sym (is.stored p)) ∙ reports.0 on p lo up))
      (λ on. reports.1 (λ p lo up. ap (λ z. is_some z) (is.stored p) ∙ holes.covers_all v.stored v.reach 0 hi on p lo up))

  pub complete_as : (b : Bool) (total : ℕ) → entry.total ≡ Some total → (IsTrue b ↔ Covers cells 0 total) → b ≡ is_complete v
  complete_as b total known reports = covers_as b total reports ∙ ap (covers_all v) (sym known ∙ is.total)

  pub incomplete_as : entry.total ≡ None → false ≡ is_complete v
  incomplete_as none = ap (covers_all v) (sym none ∙ is.total)

  pub front_as : (b : Bool) → 0 < entry.size → (IsTrue b ↔ Covers cells 0 entry.size) → b ≡ is_prefix v
  front_as b some reports = covers_as b entry.size reports ∙
      (ap (λ n. covers v.stored v.reach 0 n) is.size ∙ sym (by_test (nat_lt 0 v.size) (tests v.size (subst (λ n. 0 < n) is.size some))))
    where
      tests : (n : ℕ) → 0 < n → nat_lt 0 n ≡ true
      tests n lt = grind (arith, nat_tests, lt)

      by_test : (a : Bool) → a ≡ true → (a && covers v.stored v.reach 0 v.size) ≡ covers v.stored v.reach 0 v.size
      by_test true on = refl
      by_test false on = absurd (let never : false ≡ true = on in cc)

  pub no_front_as : nat_lt 0 entry.size ≡ false → false ≡ is_prefix v
  no_front_as none = grind (arith, nat_tests)
