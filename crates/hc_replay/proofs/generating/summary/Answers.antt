use Rattle.std.proofs.Common.{◌≡◌, ◌++◌, List, ℕ, arith, ap, subst, ◌∙◌}
use Rattle.hc_replay.specs.{declared.generating.TheConstants.{PROGRAM_LIMITS}, Summaries.{HasGone}}
use Rattle.hc_generate.specs.Summary.{summary_text}
use Rattle.hc_replay.proofs.GoneOn.{may_go_on}
use Rattle.hc_replay.proofs.generating.summary.Goals as goal

pub go_on-requires : goal.go_on-requires
go_on-requires c =
    let few = c.requires.few in
    let lt = c.loop-test.true in
    record { may = may_go_on PROGRAM_LIMITS c.args.seed c.loop.counter c.loop.rounds (omega arith) c.loop.invariant }

pub loop-preserved : goal.loop-preserved
loop-preserved c = c.in_ok-go_on.ensures PROGRAM_LIMITS c.args.seed c.loop.counter c.loop.invariant

pub returns : goal.returns
returns c =
    let end = c.loop.auto.counter-end in
    let all : c.loop.counter ≡ c.args.count = omega (arith, c.loop-test.false) in
    record {
      state = c.loop.rounds.generator;
      history = c.loop.invariant.history;
      gone = subst (λ (n : ℕ). HasGone PROGRAM_LIMITS c.args.seed n c.loop.rounds.generator c.loop.invariant.history) all c.loop.invariant.gone;
      text_is = c.in_ok-write_summary.ensures.ok ∙ ap (λ (l : List ℕ). l ++ summary_text c.loop.rounds.generator.counts) c.new-text.ensures.items;
    }
