use Rattle.std.proofs.Common.{sym, ◌∙◌}
use Rattle.hc_stored.specs.Entries.{shelf_of}
use Rattle.hc_on_head.proofs.HeadViews.{joins_reported, joins_not, joins_of_kept, joins_at}
use Rattle.hc_on_head.proofs.head.joins_hole.Goals as goal

pub returns-in-Joins : goal.returns-in-Joins
returns-in-Joins g c =
    let a = c.in-Hole-Some in
    let b = c.in-Some-Some in
    joins_at (shelf_of c.args.rows.now.entries) c.args.need c.args.aim a.from a.to a.r c.args.response.now _ a.is-0 a.is-1
    (joins_of_kept _ a.from a.to b.total c.in-Some.entry b.tag.now c.args.response.now _ c.in-Some.ensures b.ensures.value b.ensures.strong b.is-1
    (joins_reported _ b.total _ c.args.response.now (sym c.accepts-answer.ensures ∙ c.in-Joins.is)))

pub returns-in_default-matches : goal.returns-in_default-matches
returns-in_default-matches g c =
    let a = c.in-Hole-Some in
    let b = c.in-Some-Some in
    joins_at (shelf_of c.args.rows.now.entries) c.args.need c.args.aim a.from a.to a.r c.args.response.now _ a.is-0 a.is-1
    (joins_of_kept _ a.from a.to b.total c.in-Some.entry b.tag.now c.args.response.now _ c.in-Some.ensures b.ensures.value b.ensures.strong b.is-1
    (joins_not _ b.total _ c.args.response.now (λ is. c.in_default-matches.not-Joins (c.accepts-answer.ensures ∙ is))))
