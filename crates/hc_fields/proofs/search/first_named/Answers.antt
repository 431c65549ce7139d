use Rattle.std.proofs.{Common.{◌≡◌, [], length, inl, inr, sym, arith}, lemmas.{Bool.{cases_lt}, List.{length-map, Sums.{position_or_len_is}}}}
use Rattle.http_header.specs.Token.{lowercase}
use Rattle.hc_fields.specs.{FieldList.{has_name}, Marks.{field_at, fields_at}}
use Rattle.hc_fields.proofs.Places.{no_mark, nth_is}
use Rattle.hc_fields.proofs.search.first_named.Goals as goal

pub returns-then-is_named-clause-place : goal.returns-then-is_named-clause-place
returns-then-is_named-clause-place c =
    let fs = fields_at c.args.text.now c.args.marks.now in
    let len = length-map c.args.marks.now (field_at c.args.text.now) in
    let lt = c.loop-start-test.true in
    sym (position_or_len_is (has_name (lowercase c.args.name.now)) fs c.loop-start.start ([], []) (omega (arith, len, lt)) c.loop-start.invariant
    (λ _. rw (nth_is c.args.text.now c.args.marks.now c.loop-start.start no_mark lt, ← c.is_named.ensures) c.if-is_named.true))

pub loop-start-preserved : goal.loop-start-preserved
loop-start-preserved c k lt =
    elim (cases_lt k c.loop-start.start) [
      | inl before ↦ c.loop-start.invariant k before
      | inr last ↦
          let is : k ≡ c.loop-start.start = omega (arith, lt, last) in
          rw (is, nth_is c.args.text.now c.args.marks.now c.loop-start.start no_mark c.loop-start-test.true, ← c.is_named.ensures) c.if-is_named.false
    ]

pub returns-clause-place : goal.returns-clause-place
returns-clause-place c =
    let fs = fields_at c.args.text.now c.args.marks.now in
    let len = length-map c.args.marks.now (field_at c.args.text.now) in
    let past = c.loop-start-test.false in
    let within = c.loop-start.auto.start-end in
    sym (position_or_len_is (has_name (lowercase c.args.name.now)) fs (length c.args.marks.now) ([], []) (omega (arith, len))
    (λ k lt. c.loop-start.invariant k (omega (arith, past, lt)))
    (λ lt. absurd (omega (arith, len, lt))))
