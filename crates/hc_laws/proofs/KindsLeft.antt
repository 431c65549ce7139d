-- The kind of what is left is that of its runs.
use Rattle.std.{proofs.{Common.{◌≡◌, inl, inr, ℕ, ◌+◌, ◌-◌, ◌<◌, ◌≤◌, Bool, true, refl, ap, sym, ◌∙◌, arith}, lemmas.Bool.Decides.{nat_tests}}, specs.Prelude.{is_some, nat_lt, ◌==◌, ◌&&◌, if◌then◌else◌}}
use Rattle.hc_text.proofs.Basics.{both_true as and_both, and_left, and_right, bool_cases, eq_is, eq_yes, same_test}
use Rattle.hc_record.specs.declared.kind.Kind.{Kind}
use Rattle.hc_record.specs.declared.kind.Kind.TheVariants as kind
use Rattle.hc_sparse.specs.Cells.{Cells, Covers, EndsBy, size_below}
use Rattle.hc_sparse.proofs.SizeLemmas.{below-le}
use Rattle.hc_effects.proofs.Vocabulary.{kind_of_runs, same_kind, runs_from, covers, last_end, bytes_in}
use Rattle.hc_effects.proofs.{Basics.{false_true}, HoleLemmas.{covers_all, covers_yes}}
use Rattle.hc_laws.proofs.{Positions.{below_full, full_below, no_other_below}, RunsFrom.{bytes_from, end_is}}

same_self : (k : Kind) → same_kind k k ≡ true
same_self kind.Growing = refl
same_self _ = refl

-- the kind of so much
abbrev pub kind_by : Bool → Bool → Kind
kind_by complete front = if complete then kind.Whole else if front then kind.Truncated else kind.Ranges

module _ (f : Cells) (reach total : ℕ) (ends : EndsBy reach f) (tight : (m : ℕ) → reach ≡ m + 1 → is_some (f m) ≡ true) (within : reach ≤ total) where
  abbrev bytes : ℕ
  bytes = bytes_in (runs_from f 0 reach)

  abbrev last : ℕ
  last = last_end (runs_from f 0 reach)

  pub count_is : bytes ≡ size_below f reach
  unfolding size_below
  count_is = by_sum (size_below f reach) (size_below f 0) bytes (ap (size_below f) (sym (omega arith)) ∙ bytes_from f 0 reach) refl
    where
      by_sum : (a b c : ℕ) → a ≡ b + c → b ≡ 0 → c ≡ a
      by_sum a b c sum none = omega arith

  pub last_is : last ≡ reach
  last_is = end_is f reach tight

  full : last ≡ bytes → Covers f 0 reach
  full same = let a : last ≡ reach = last_is in let b : bytes ≡ size_below f reach = count_is in below_full f reach (omega arith)

  -- what is covered ends where bytes do
  covered_end : Covers f 0 total → total ≡ reach
  covered_end all = elim (bool_cases (nat_lt reach total)) [
    | inl past ↦ absurd (false_true (sym (ap is_some (ends reach (omega arith))) ∙ all reach (omega arith) (grind (arith, nat_tests))))
    | inr near ↦ let under : total ≤ reach = grind (arith, nat_tests) in omega arith
  ]

  complete_same : covers f reach 0 total ≡ (last == bytes && bytes == total)
  complete_same = same_test _ _ to back
    where
      to : covers f reach 0 total ≡ true → (last == bytes && bytes == total) ≡ true
      to h =
          let all : Covers f 0 total = covers_all f reach 0 total h in
          let same : total ≡ reach = covered_end all in
          let count : size_below f reach ≡ reach = full_below f reach (λ p lo hi. all p lo (omega arith)) in
          let a : last ≡ reach = last_is in
          let b : bytes ≡ size_below f reach = count_is in
          and_both _ _ (eq_yes last bytes (omega arith)) (eq_yes bytes total (omega arith))

      back : (last == bytes && bytes == total) ≡ true → covers f reach 0 total ≡ true
      back h =
          let same : last ≡ bytes = eq_is last bytes (and_left (last == bytes) (bytes == total) h) in
          let sum : bytes ≡ total = eq_is bytes total (and_right (last == bytes) (bytes == total) h) in
          let a : last ≡ reach = last_is in
          covers_yes f reach 0 total ends (λ p lo hi. full same p lo (omega arith))

  front_same : (size : ℕ) → size ≡ size_below f reach → (nat_lt 0 size && covers f reach 0 size) ≡ (nat_lt 0 bytes && last == bytes)
  front_same size is = same_test _ _ to back
    where
      to : (nat_lt 0 size && covers f reach 0 size) ≡ true → (nat_lt 0 bytes && last == bytes) ≡ true
      to h =
          let some : nat_lt 0 size ≡ true = and_left (nat_lt 0 size) (covers f reach 0 size) h in
          let a : last ≡ reach = last_is in
          let b : bytes ≡ size_below f reach = count_is in
          let most : size_below f reach ≤ reach = below-le f reach in
          let up : reach ≤ size = by_reach (covers_all f reach 0 size (and_right (nat_lt 0 size) (covers f reach 0 size) h)) in
          and_both _ _ (let over : 0 < size = grind (arith, nat_tests) in let less : 0 < bytes = omega arith in grind (arith, nat_tests))
          (eq_yes last bytes (omega arith))
        where
          by_reach : Covers f 0 size → reach ≤ size
          by_reach all = elim (bool_cases (nat_lt size reach)) [
            | inr near ↦ grind (arith, nat_tests)
            | inl past ↦
                let over : size < reach = grind (arith, nat_tests) in
                absurd (no_other_below f size (reach - 1) reach all (sym is) (omega arith) (omega arith) (tight (reach - 1) (omega arith)))
          ]

      back : (nat_lt 0 bytes && last == bytes) ≡ true → (nat_lt 0 size && covers f reach 0 size) ≡ true
      back h =
          let some : nat_lt 0 bytes ≡ true = and_left (nat_lt 0 bytes) (last == bytes) h in
          let same : last ≡ bytes = eq_is last bytes (and_right (nat_lt 0 bytes) (last == bytes) h) in
          let a : last ≡ reach = last_is in
          let b : bytes ≡ size_below f reach = count_is in
          let first : nat_lt 0 size ≡ true =
          (let over : 0 < bytes = grind (arith, nat_tests) in let less : 0 < size = omega arith in grind (arith, nat_tests)) in
          and_both _ _ first (covers_yes f reach 0 size ends (λ p lo hi. full same p lo (omega arith)))

  -- The kind is that of the runs.
  pub kind_right : (size : ℕ) → size ≡ size_below f reach →
      same_kind (kind_by (covers f reach 0 total) (nat_lt 0 size && covers f reach 0 size)) (kind_of_runs (runs_from f 0 reach) total) ≡ true
  kind_right size is = rw (complete_same, front_same size is) (same_self (kind_of_runs (runs_from f 0 reach) total))
