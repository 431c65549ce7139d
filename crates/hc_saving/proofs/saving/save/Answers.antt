use Rattle.std.proofs.Common.{refl, subst, arith, ◌≡◌}
use Rattle.hc_effects.proofs.Vocabulary.{Limits, no_contents}
use Rattle.hc_replay.specs.Histories.{run_of, failures}
use Rattle.hc_replay.proofs.ReportSteps.{new_moment}
use Rattle.hc_saving.specs.Saves.{Writes}
use Rattle.hc_saving.proofs.Saved.{gone_through, not_saved, image_saved, never_risen, no_source}
use Rattle.hc_saving.proofs.saving.save.Goals as goal

pub go_through-requires-clause-later : goal.go_through-requires-clause-later
go_through-requires-clause-later g c = new_moment c.args.cache c.requires.new

pub write_left-requires-clause-stands : goal.write_left-requires-clause-stands
write_left-requires-clause-stands g c =
    let unused = c.requires.unused in
    let q = gone_through (record { cache = c.args.cache }) c.go_through.new.on _ _ c.requires.new (omega (arith, unused)) c.go_through.result c.in-Done.is
    c.go_through.ensures.ends in
    ∣ record { contents = no_contents; h = run_of q.history; stands = q.stands } ∣₁

pub write_left-requires-clause-early : goal.write_left-requires-clause-early
write_left-requires-clause-early g c =
    let unused = c.requires.unused in
    (gone_through (record { cache = c.args.cache }) c.go_through.new.on _ _ c.requires.new (omega (arith, unused)) c.go_through.result c.in-Done.is
    c.go_through.ensures.ends).moment

pub returns-in-Done-clause-ends : goal.returns-in-Done-clause-ends
returns-in-Done-clause-ends g c =
    let unused = c.requires.unused in
    let q = gone_through (record { cache = c.args.cache }) c.go_through.new.on _ _ c.requires.new (omega (arith, unused)) c.go_through.result c.in-Done.is
    c.go_through.ensures.ends in
    let counted = q.replayed.counted in
    let none : failures q.history ≡ 0 = omega (arith, counted) in
    image_saved (record { cache = c.args.cache }) c.go_through.new.on _ _ c.requires.new (omega (arith, unused)) q none _ _ c.write_left.result
    (subst (λ (l : Limits). Writes l (run_of q.history) (g.K.Sink.taken c.args.sink.now) (g.K.Sink.taken c.write_left.new.sink) c.write_left.result)
    q.limits (c.write_left.ensures.writes (run_of q.history) q.stands q.count))

pub returns-in-Done-clause-source : goal.returns-in-Done-clause-source
returns-in-Done-clause-source g c = λ same.
    let unused = c.requires.unused in
    let q = gone_through (record { cache = c.args.cache }) c.go_through.new.on _ _ c.requires.new (omega (arith, unused)) c.go_through.result c.in-Done.is
    c.go_through.ensures.ends in
    absurd (no_source _ _ _ _ _ (c.write_left.ensures.writes (run_of q.history) q.stands q.count) same)

pub returns-in_default : goal.returns-in_default
returns-in_default g c =
    let unused = c.requires.unused in
    record {
      ends = not_saved (record { cache = c.args.cache }) c.go_through.new.on _ _ c.requires.new (omega (arith, unused)) _ _ c.go_through.result
          c.go_through.ensures.ends c.in_default.not-Done (λ failed. never_risen (c.go_through.ensures.sink failed));
      source = c.go_through.ensures.source;
      source_calm = c.go_through.ensures.source_calm;
      sink = λ failed. absurd (never_risen (c.go_through.ensures.sink failed));
      sink_calm = λ calm. refl;
    }
