use Rattle.std.proofs.{Common.{◌≡◌, ℕ, ◌++◌, ◌∷◌, [], take, false, eqb, ltb, ap, ◌∙◌, inl, inr, subst, arith}, Math.Nat.{le-max_left, le-max_right}, lemmas.{Bool.{cases_Bool, ne_eqb, ltb-true, ltb-false}, List.{take_more}}}
use Rattle.hc_wire.specs.{Events.{Unseen}, Logs.{Taker, stage_in}}
use Rattle.hc_wire.proofs.LogLemmas.{unseen-more, unseen-less, seen-last}
use Rattle.hc_wire.proofs.connection.greatest_in.Goals as goal

pub loop-c-preserved : goal.loop-c-preserved
loop-c-preserved c =
    let item = c.c-item.result in
    let cs = c.args.connections.now in
    let number : c.c.inside.k ≡ item.k = ap (λ (t : Taker). t.k) c.c.view_is in
    let most = c.max-greatest.ensures in
    record {
      above = λ k above.
          let one = le-max_left c.c.inside.k c.loop-c.greatest in
          let other = le-max_right c.c.inside.k c.loop-c.greatest in
          let off : eqb item.k k ≡ false = ne_eqb item.k k (λ e. absurd (omega arith)) in
          rw (take_more cs c.loop-c.c-index item c.loop-c-test.true, ← c.c-item.is)
          (unseen-more k _ item (c.loop-c.invariant.above k (omega arith)) off);
      least = λ unseen.
          let there = rw (take_more cs c.loop-c.c-index item c.loop-c-test.true, ← c.c-item.is) at unseen in
          elim (cases_Bool (ltb c.loop-c.greatest item.k)) [
            | inl less ↦
                let lt = ltb-true c.loop-c.greatest item.k less in
                let own : c.max-greatest.result ≡ item.k = omega arith in
                absurd (seen-last (take c.loop-c.c-index cs) item (subst (λ (n : ℕ). stage_in (take c.loop-c.c-index cs ++ item ∷ []) n ≡ Unseen) own there))
            | inr not_less ↦
                let le = ltb-false c.loop-c.greatest item.k not_less in
                let kept : c.max-greatest.result ≡ c.loop-c.greatest = omega arith in
                kept ∙ c.loop-c.invariant.least
                (unseen-less c.loop-c.greatest (take c.loop-c.c-index cs) item
                (subst (λ (n : ℕ). stage_in (take c.loop-c.c-index cs ++ item ∷ []) n ≡ Unseen) kept there))
          ];
    }
