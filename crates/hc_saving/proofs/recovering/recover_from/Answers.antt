use Rattle.std.proofs.Common.{Err, refl, ap, ◌∙◌}
use Rattle.hc_contents.specs.PlainContents.{plain_contents}
use Rattle.hc_core.proofs.BegunCache.{numbers_fit}
use Rattle.hc_core.specs.Steps.{limits_in}
use Rattle.hc_replay.specs.Histories.{run_of}
use Rattle.hc_saving.specs.declared.begin.BeginError.TheVariants as begin
use Rattle.hc_saving.specs.declared.recovering.RecoverError.TheVariants as error
use Rattle.hc_saving.proofs.{Causes.{named, is_fault, is_no_error, begin_calm}, Opened.{begun_moment}, Recovered.{unbegun_ends, unstepped_ends, unleft_ends, found_ends, stands_behind, still_early}}
use Rattle.hc_saving.proofs.recovering.recover_from.Goals as goal

-- NO CACHE BEGINS

pub returns-in_err-cache-clause-recovers : goal.returns-in_err-cache-clause-recovers
returns-in_err-cache-clause-recovers g c = λ image has.
    unbegun_ends c.args.limits image (g.S.Source.left c.args.behind.now) c.from_residual.result (plain_contents c.args.contents) c.in_err-cache.field-0.0
    has c.from_residual.ensures.1 c.in_err-cache.ensures.none

pub returns-in_err-cache-clause-source : goal.returns-in_err-cache-clause-source
returns-in_err-cache-clause-source g c = λ failed.
    absurd (begin_calm c.in_err-cache.field-0.0 (is_fault _ c.from_residual.result c.from_residual.ensures.1 failed))

pub returns-in_err-cache-clause-source_calm : goal.returns-in_err-cache-clause-source_calm
returns-in_err-cache-clause-source_calm g c = λ calm. refl

-- IT IS STEPPED

pub step_whole-requires-clause-small : goal.step_whole-requires-clause-small
step_whole-requires-clause-small g c =
    (numbers_fit (limits_in c.in_ok-cache.cache) (plain_contents c.args.contents) c.in_ok-cache.ensures.begun.stands.begins).0

pub step_whole-requires-clause-at : goal.step_whole-requires-clause-at
step_whole-requires-clause-at g c = begun_moment c.in_ok-cache.cache (plain_contents c.args.contents) c.in_ok-cache.ensures.begun.stands

pub step_whole-requires-clause-unused : goal.step_whole-requires-clause-unused
step_whole-requires-clause-unused g c = c.in_ok-cache.ensures.begun.unused

pub returns-in_err-cache-2-clause-recovers : goal.returns-in_err-cache-2-clause-recovers
returns-in_err-cache-2-clause-recovers g c = λ image has.
    unstepped_ends c.args.limits image (g.S.Source.left c.args.behind.now) c.from_residual-in_err-cache-2.result (g.S.Source.left c.step_whole.new.behind)
    (plain_contents c.args.contents) c.in_err-cache-2.field-0.0
    has c.in_ok-cache.ensures.begun.fits c.from_residual-in_err-cache-2.ensures.1 c.in_err-cache-2.ensures.none

pub returns-in_err-cache-2-clause-source : goal.returns-in_err-cache-2-clause-source
returns-in_err-cache-2-clause-source g c = λ failed.
    c.in_err-cache-2.ensures.source
    (ap Err (is_fault c.in_err-cache-2.field-0.0 c.from_residual-in_err-cache-2.result c.from_residual-in_err-cache-2.ensures.1 failed))

pub returns-in_err-cache-2-clause-source_calm : goal.returns-in_err-cache-2-clause-source_calm
returns-in_err-cache-2-clause-source_calm g c = λ calm.
    let e = c.in_err-cache-2.field-0.0 in
    c.in_err-cache-2.ensures.source_calm
    (λ same. calm (named e c.from_residual-in_err-cache-2.result c.from_residual-in_err-cache-2.ensures.1 ∙ ap Err (is_fault e (Err e) refl same)))

-- ALL LEAVE

pub contents_left-requires-clause-stands : goal.contents_left-requires-clause-stands
contents_left-requires-clause-stands g c =
    let contents = plain_contents c.args.contents in
    let q = c.in_ok-cache-2.ensures.stepped in
    ∣ record {
      contents = contents;
      h = run_of q.history;
      stands =
          stands_behind contents c.in_ok-cache.cache c.in_ok-cache-2.cache _ _ c.in_ok-cache.ensures.begun.stands q;
    } ∣₁

pub contents_left-requires-clause-early : goal.contents_left-requires-clause-early
contents_left-requires-clause-early g c =
    let contents = plain_contents c.args.contents in
    let begun = c.in_ok-cache.ensures.begun in
    still_early contents c.in_ok-cache.cache c.in_ok-cache-2.cache _ _ begun.stands c.in_ok-cache-2.ensures.stepped
    (numbers_fit (limits_in c.in_ok-cache.cache) contents begun.stands.begins).0

pub contents_left-requires-clause-few : goal.contents_left-requires-clause-few
contents_left-requires-clause-few g c = c.in_ok-cache-2.ensures.few

pub contents_left-requires-clause-little : goal.contents_left-requires-clause-little
contents_left-requires-clause-little g c = c.in_ok-cache-2.ensures.little

pub returns-in_err-contents_left-clause-recovers : goal.returns-in_err-contents_left-clause-recovers
returns-in_err-contents_left-clause-recovers g c = λ image has.
    let q = c.in_ok-cache-2.ensures.stepped in
    unleft_ends c.args.limits image (g.S.Source.left c.args.behind.now) c.from_residual-in_err-contents_left.result
    (g.S.Source.left c.step_whole.new.behind) q.text q.gives c.from_residual-in_err-contents_left.ensures.1

pub returns-in_err-contents_left-clause-source : goal.returns-in_err-contents_left-clause-source
returns-in_err-contents_left-clause-source g c = λ failed.
    absurd (begin_calm begin.NoMemory
    (is_fault error.NoMemory c.from_residual-in_err-contents_left.result c.from_residual-in_err-contents_left.ensures.1 failed))

pub returns-in_err-contents_left-clause-source_calm : goal.returns-in_err-contents_left-clause-source_calm
returns-in_err-contents_left-clause-source_calm g c = λ calm.
    c.in_ok-cache-2.ensures.source_calm (is_no_error c.in_ok-cache-2.cache error.SourceFailed _ refl)

-- IT IS FOUND

pub returns-clause-recovers : goal.returns-clause-recovers
returns-clause-recovers g c = λ image has.
    let contents = plain_contents c.args.contents in
    found_ends c.args.limits image (g.S.Source.left c.args.behind.now) (g.S.Source.left c.step_whole.new.behind) contents c.in_ok-cache.cache
    c.in_ok-cache-2.cache c.in_ok-contents_left.field-0
    has c.in_ok-cache.ensures.begun (λ v. refl) c.in_ok-cache-2.ensures.stepped c.in_ok-contents_left.ensures.left c.in_ok-contents_left.ensures.fits

pub returns-clause-source : goal.returns-clause-source
returns-clause-source g c = λ failed. absurd (is_no_error c.in_ok-contents_left.field-0 error.SourceFailed _ refl failed)

pub returns-clause-source_calm : goal.returns-clause-source_calm
returns-clause-source_calm g c = λ calm.
    c.in_ok-cache-2.ensures.source_calm (is_no_error c.in_ok-cache-2.cache error.SourceFailed _ refl)
