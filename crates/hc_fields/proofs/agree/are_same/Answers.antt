use Rattle.std.{proofs.Common.{◌≡◌, ◌≢◌, ◌≤◌, ◌∙◌, List, ℕ, ◌++◌, true, false, length, take, drop, sym, ap, arith}, specs.Option.{option_copied}}
use Rattle.hc_fields.specs.{Agreement.{behind}, Joined.{all_values}}
use Rattle.hc_fields.proofs.Agreeing.{differ, other_from, same_behind, same_from}
use Rattle.hc_fields.proofs.agree.are_same.Goals as goal

pub returns-then-ne : goal.returns-then-ne
returns-then-ne c =
    let a = c.advance.new.self in
    let b = c.advance-in-loop-a.new.self in
    let other = other_from c.split_at.result.0.now c.split_at-in-loop-a.result.0.now c.ne.result c.ne.ensures c.if-ne.true in
    let n = c.min-count.result in
    let in_a : n ≤ length a.rest.now = omega (arith, c.split_at.ensures.back_len) in
    let in_b : n ≤ length b.rest.now = omega (arith, c.split_at-in-loop-a.ensures.back_len) in
    let others : take n a.rest.now ≢ take n b.rest.now = λ e. other (c.split_at.ensures.front ∙ e ∙ sym c.split_at-in-loop-a.ensures.front) in
    let differs = differ n a.rest.now b.rest.now (behind (option_copied a.value) (drop a.next (all_values a)))
    (behind (option_copied b.value) (drop b.next (all_values b))) in_a in_b others in (
      λ (impossible : false ≡ true). cc,
      λ same. absurd (differs (c.advance.ensures.left ∙ (c.loop-a.invariant.same.1 same) ∙ sym c.advance-in-loop-a.ensures.left)),
    )

pub loop-a-preserved : goal.loop-a-preserved
loop-a-preserved c =
    let a = c.advance.new.self in
    let b = c.advance-in-loop-a.new.self in
    let n = c.min-count.result in
    let x = behind (option_copied a.value) (drop a.next (all_values a)) in
    let y = behind (option_copied b.value) (drop b.next (all_values b)) in
    let same = same_from c.split_at.result.0.now c.split_at-in-loop-a.result.0.now c.ne.result c.ne.ensures c.if-ne.false in
    let fronts : take n a.rest.now ≡ take n b.rest.now = sym c.split_at.ensures.front ∙ same ∙ c.split_at-in-loop-a.ensures.front in
    let both = same_behind n a.rest.now b.rest.now x y fronts in
    let a_left = ap (λ (t : List ℕ). t ++ x) c.split_at.ensures.back in
    let b_left = ap (λ (t : List ℕ). t ++ y) c.split_at-in-loop-a.ensures.back in
    record {
      a_count = c.advance.ensures.count;
      b_count = c.advance-in-loop-a.ensures.count;
      same = (
        λ e. c.loop-a.invariant.same.0 (sym c.advance.ensures.left ∙ both.0 (sym a_left ∙ e ∙ b_left) ∙ c.advance-in-loop-a.ensures.left),
        λ e. a_left ∙ both.1 (c.advance.ensures.left ∙ c.loop-a.invariant.same.1 e ∙ sym c.advance-in-loop-a.ensures.left) ∙ sym b_left,
      );
    }
