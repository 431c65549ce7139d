-- Contents by which a store may begin have numbers that were given out, and each has a key of its own.
use Rattle.std.{proofs.{Common.{◌≡◌, inl, inr, ℕ, ◌-◌, ◌≤◌, List, [], ◌∷◌, Bool, true, false, Some, ap, sym, ◌∙◌, arith}, lemmas.Bool.Decides.{nat_tests}}, specs.{Prelude.{◌==◌, bytes_eq, find}, List.{list_any}}}
use Rattle.hc_text.proofs.Basics.{and_left, and_right, not_some as none_some, not_true, some_inj}
use Rattle.hc_effects.proofs.Vocabulary.{Limits, may_begin, are_good, is_good, is_given_out, Content, Contents, AreNumbered, IsStart}
use Rattle.hc_rules.proofs.RangeReads.{bytes_eq-same}
use Rattle.hc_effects.proofs.{Basics.{false_true, or_false}, PieceKeeps.{eq_cases}}

abbrev of_number : ℕ → Content → Bool
of_number r item = item.r == r

abbrev has_key : List ℕ → Content → Bool
has_key key other = bytes_eq other.key key

module _ (limits : Limits) (contents : Contents) where
  -- a good item has a number that was given out, and its key is that of no earlier one
  good_parts : (earlier : List Content) (item : Content) (later : List Content) → is_good limits contents earlier item later ≡ true →
      (is_given_out contents item.r ≡ true) × (list_any (has_key item.key) earlier ≡ false)
  good_parts earlier item later good =
      let two = and_left _ _ (and_left _ _ (and_left _ _ (and_left _ _ good))) in
      (and_left _ _ (and_left _ _ (and_right _ _ two)), not_true (list_any (has_key item.key) earlier) (and_right _ _ (and_left _ _ two)))

  numbered : (r : ℕ) (a : Content) (earlier items : List Content) → are_good limits contents earlier items ≡ true → find (of_number r) items ≡ Some a →
      (is_given_out contents a.r ≡ true) × (a.r ≡ r)
  numbered r a earlier [] good is = absurd (none_some a is)
  numbered r a earlier (item ∷ later) good is = elim (eq_cases item.r r) [
    | inl here ↦
        let same : item ≡ a = some_inj item a (rw here.0 at is) in (
          ap (λ (z : Content). is_given_out contents z.r) (sym same) ∙ (good_parts earlier item later (and_left _ _ good)).0,
          ap (λ (z : Content). z.r) (sym same) ∙ here.1,
        )
    | inr off ↦ numbered r a (item ∷ earlier) later (and_right _ _ good) (rw off.0 at is)
  ]

  -- its key is that of no earlier one
  fresh : (q : ℕ) (b : Content) (earlier items : List Content) → are_good limits contents earlier items ≡ true → find (of_number q) items ≡ Some b →
      list_any (has_key b.key) earlier ≡ false
  fresh q b earlier [] good is = absurd (none_some b is)
  fresh q b earlier (item ∷ later) good is = elim (eq_cases item.r q) [
    | inl here ↦ ap (λ (z : Content). list_any (has_key z.key) earlier) (sym (some_inj item b (rw here.0 at is))) ∙
        (good_parts earlier item later (and_left _ _ good)).1
    | inr off ↦ (or_false (has_key b.key item) (list_any (has_key b.key) earlier) (fresh q b (item ∷ earlier) later (and_right _ _ good) (rw off.0 at is))).1
  ]

  -- of two items the later one has another key
  later_key : (q : ℕ) (a b : Content) (earlier later : List Content) → are_good limits contents (a ∷ earlier) later ≡ true →
      find (of_number q) later ≡ Some b → a.key ≡ b.key → ⊥
  later_key q a b earlier later good is same =
      false_true (sym ((or_false (has_key b.key a) (list_any (has_key b.key) earlier) (fresh q b (a ∷ earlier) later good is)).0) ∙
      bytes_eq-same a.key b.key same)

  apart : (r q : ℕ) (a b : Content) (earlier items : List Content) → are_good limits contents earlier items ≡ true → find (of_number r) items ≡ Some a →
      find (of_number q) items ≡ Some b → a.key ≡ b.key → r ≡ q
  apart r q a b earlier [] good is also same = absurd (none_some a is)
  apart r q a b earlier (item ∷ later) good is also same = elim (eq_cases item.r r) [
    | inl here ↦ elim (eq_cases item.r q) [
      | inl there ↦ sym here.1 ∙ there.1
      | inr off ↦
          absurd (later_key q item b earlier later (and_right _ _ good) (rw off.0 at also)
          (ap (λ (z : Content). z.key) (some_inj item a (rw here.0 at is)) ∙ same))
    ]
    | inr off ↦ elim (eq_cases item.r q) [
      | inl there ↦
          absurd (later_key r item a earlier later (and_right _ _ good) (rw off.0 at is)
          (ap (λ (z : Content). z.key) (some_inj item b (rw there.0 at also)) ∙ sym same))
      | inr other ↦ apart r q a b (item ∷ earlier) later (and_right _ _ good) (rw off.0 at is) (rw other.0 at also) same
    ]
  ]

  given_below : (n r : ℕ) → is_given_out contents n ≡ true → n ≡ r → r ≤ contents.next_exchange - 1
  given_below n r given same = grind (arith, nat_tests)

  -- numbers begin with 1
  pub numbers_begin : may_begin limits contents ≡ true → AreNumbered contents
  unfolding may_begin
  numbers_begin may r item is =
      let all = numbered r item [] contents.items (and_left _ _ (and_left _ _ (and_left _ _ (and_left _ _ (and_left _ _ may))))) is in
      grind (arith, nat_tests)

  pub starts : may_begin limits contents ≡ true → IsStart contents
  unfolding may_begin
  starts may =
      let good : are_good limits contents [] contents.items ≡ true = and_left _ _ (and_left _ _ (and_left _ _ (and_left _ _ (and_left _ _ may)))) in
      record {
        numbered = λ r item is. let all = numbered r item [] contents.items good is in given_below item.r r all.0 all.1;
        apart = λ r q a b is also same. apart r q a b [] contents.items good is also same;
      }
