use Rattle.std.{proofs.Common.{◌≡◌, ◌-◌, ◌+◌, ◌∙◌, sym, ap, arith}, specs.Prelude.{slice_range}}
use Rattle.hc_text.specs.Elements.{trim_end}
use Rattle.hc_text.proofs.ElementLemmas.{before_blank, blanks_more, trim_end_less, trim_end_here}
use Rattle.hc_text.proofs.list.trimmed_end.Goals as goal

pub loop-end-preserved : goal.loop-end-preserved
loop-end-preserved c =
    let text = c.args.text.now in
    let start = c.args.start in
    let last = c.loop-end.end - 1 in
    let more : last + 1 ≡ c.loop-end.end = omega arith in
    let blank = sym c.is_blank.ensures ∙ c.loop-end-test.true in
    let before = before_blank text start c.loop-end.end c.loop-end.invariant.after c.requires.begins blank in
    record {
      after = before;
      within = omega arith;
      same = c.loop-end.invariant.same ∙ ap (λ n. trim_end (slice_range text start n)) (sym more) ∙
          trim_end_less text start last (omega arith) (omega arith) blank;
      blanks = blanks_more text last c.args.stop blank (λ k from below. c.loop-end.invariant.blanks k (omega arith) below);
    }

pub returns-clause-trimmed : goal.returns-clause-trimmed
returns-clause-trimmed c =
    let text = c.args.text.now in
    let start = c.args.start in
    let last = c.loop-end.end - 1 in
    let more : last + 1 ≡ c.loop-end.end = omega arith in
    c.loop-end.invariant.same ∙ ap (λ n. trim_end (slice_range text start n)) (sym more)
    ∙ trim_end_here text start last (omega arith) (omega arith) (sym c.is_blank.ensures ∙ c.loop-end-test.false)
    ∙ ap (λ n. slice_range text start n) more
