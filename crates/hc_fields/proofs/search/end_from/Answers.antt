use Rattle.std.proofs.{Common.{◌≡◌, [], length, not, inl, inr, sym, ◌∙◌, arith}, lemmas.{Bool.{cases_lt}, List.{length-map, Sums.{position_or_len_is, fails_before_first, prefix_len-le-length}}}}
use Rattle.http_header.specs.Token.{lowercase}
use Rattle.hc_fields.specs.Marks.{field_at, fields_at}
use Rattle.hc_fields.proofs.{Sorted.{Pair}, Places.{no_mark, is_behind, nth_is, named-not_behind, other-behind}}
use Rattle.hc_fields.proofs.search.end_from.Goals as goal

pub loop-end-init : goal.loop-end-init
loop-end-init c k lt =
    let start = c.requires.start in
    fails_before_first (is_behind (lowercase c.args.name.now)) (fields_at c.args.text.now c.args.marks.now) k ([], []) (omega (arith, lt, start))

pub returns-then-not-is_named-clause-place : goal.returns-then-not-is_named-clause-place
returns-then-not-is_named-clause-place c =
    let fs = fields_at c.args.text.now c.args.marks.now in
    let name = lowercase c.args.name.now in
    let len = length-map c.args.marks.now (field_at c.args.text.now) in
    let lt = c.loop-end-test.true in
    let past = c.requires.behind in
    let from = c.loop-end.auto.end in
    let other = rw (← nth_is c.args.text.now c.args.marks.now c.loop-end.end no_mark lt, c.if-not-is_named.true) at c.is_named.ensures in
    sym (position_or_len_is (is_behind name) fs c.loop-end.end ([], []) (omega (arith, len, lt)) c.loop-end.invariant
    (λ _. other-behind name fs c.loop-end.end c.requires.marks.list.sorted (omega (arith, past, from)) (omega (arith, len, lt)) (sym other)))

pub loop-end-preserved : goal.loop-end-preserved
loop-end-preserved c k lt =
    let name = lowercase c.args.name.now in
    elim (cases_lt k c.loop-end.end) [
      | inl before ↦ c.loop-end.invariant k before
      | inr last ↦
          let is : k ≡ c.loop-end.end = omega (arith, lt, last) in
          rw (is, nth_is c.args.text.now c.args.marks.now c.loop-end.end no_mark c.loop-end-test.true)
          (named-not_behind name (field_at c.args.text.now _) (sym c.is_named.ensures ∙ c.if-not-is_named.false))
    ]

pub returns-clause-place : goal.returns-clause-place
returns-clause-place c =
    let fs = fields_at c.args.text.now c.args.marks.now in
    let len = length-map c.args.marks.now (field_at c.args.text.now) in
    let past = c.loop-end-test.false in
    sym (position_or_len_is (is_behind (lowercase c.args.name.now)) fs (length c.args.marks.now) ([], []) (omega (arith, len))
    (λ k lt. c.loop-end.invariant k (omega (arith, past, lt)))
    (λ lt. absurd (omega (arith, len, lt))))

pub returns-clause-order : goal.returns-clause-order
returns-clause-order c =
    let fs = fields_at c.args.text.now c.args.marks.now in
    let len = length-map c.args.marks.now (field_at c.args.text.now) in
    let start = c.requires.start in
    omega (arith, len, start, prefix_len-le-length (λ (f : Pair). not (is_behind (lowercase c.args.name.now) f)) fs)
