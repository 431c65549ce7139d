use Rattle.std.{proofs.Common.{sym, ◌∙◌, ap, subst, arith}, specs.Prelude.{is_some}}
use Rattle.hc_effects.proofs.Basics.{false_true}
use Rattle.hc_core.specs.Steps.{limits_in}
use Rattle.hc_fetch.specs.{Deciding.{IsOwn}, Endings.{Fetches, ended_as}}
use Rattle.hc_fetch.proofs.{Fetched.{done_ends, cut_ends, no_wire, source_back, sink_back}, Starting.{new_moment}}
use Rattle.hc_fetch.proofs.through.fetch.Goals as goal

pub go_through-requires-clause-later : goal.go_through-requires-clause-later
go_through-requires-clause-later g c = let at = new_moment c.args.cache c.requires.new in let same = c.new-fetching.ensures.moment in omega (arith, at, same)

pub go_through-requires-clause-open : goal.go_through-requires-clause-open
go_through-requires-clause-open g c = ap is_some c.new-fetching.ensures.open

pub returns-in-Done-clause-ends : goal.returns-in-Done-clause-ends
returns-in-Done-clause-ends g c = λ never.
    done_ends (limits_in c.args.cache) c.args.plan c.requires.plan c.new-fetching.result c.go_through.new.on (c.new-fetching.ensures.stands never)
    c.new-fetching.ensures.plan (ap limits_in c.new-fetching.ensures.cache) _ _ _ _
    c.go_through.result c.answer.result c.answer.ensures.decided c.answer.ensures.open c.go_through.ensures.ends c.in-Done.is

pub returns-in-Done-clause-source : goal.returns-in-Done-clause-source
returns-in-Done-clause-source g c = λ same. absurd (false_true (subst IsOwn same c.answer.ensures.own))

pub returns-in-Done-clause-sink : goal.returns-in-Done-clause-sink
returns-in-Done-clause-sink g c = λ same. absurd (false_true (subst IsOwn same c.answer.ensures.own))

pub cut_off-requires-clause-wire : goal.cut_off-requires-clause-wire
cut_off-requires-clause-wire g c = no_wire c.go_through.result c.go_through.ensures.ends

pub returns : goal.returns
returns g c = record {
  ends = λ never. subst (Fetches _ _ _ _ _ _) (sym c.cut_off.ensures)
      (cut_ends (limits_in c.args.cache) c.args.plan c.requires.plan c.new-fetching.result c.go_through.new.on (c.new-fetching.ensures.stands never)
      c.new-fetching.ensures.plan (ap limits_in c.new-fetching.ensures.cache) _ _ _ _
      c.go_through.result c.go_through.ensures.ends c.in_default.not-Done);
  source = λ failed. c.go_through.ensures.source (source_back c.go_through.result (sym c.cut_off.ensures ∙ failed));
  source_calm = λ calm. c.go_through.ensures.source_calm (λ failed. calm (c.cut_off.ensures ∙ ap ended_as failed));
  sink = λ failed. c.go_through.ensures.sink (sink_back c.go_through.result (sym c.cut_off.ensures ∙ failed));
  sink_calm = λ calm. c.go_through.ensures.sink_calm (λ failed. calm (c.cut_off.ensures ∙ ap ended_as failed));
}
