use Rattle.std.{proofs.Common.{◌∙◌, sym, subst, List, Option, arith, drop, ◌+◌}, specs.Prelude.{IfSome}}
use Rattle.hc_effects.proofs.Vocabulary.{Act}
use Rattle.hc_fetch.specs.{declared.ended.FetchEnded.{FetchEnded}, Deciding.{IsOwn}, Hearing.{Takes}}
use Rattle.hc_fetch.proofs.Hearings.{own_or, takes_none, takes_then, next_act, no_more}
use Rattle.hc_fetch.proofs.fetching.Fetching.hear.Goals as goal

pub loop-act-preserved : goal.loop-act-preserved
loop-act-preserved g c =
    let here = c.in_ok-hear_act.ensures.takes in (
      (
        here.others.decided ∙ c.loop-act.invariant.0.0,
        subst (λ (q : Option FetchEnded). IfSome q IsOwn) (sym c.or-decides.ensures) (own_or _ _ c.loop-act.invariant.0.1 c.in_ok-hear_act.ensures.own),
      ),
      λ u after result takes.
          let rest = subst (λ (q : Option FetchEnded). Takes c.hear_act.new.self u (drop (c.loop-act.act-index + 1) c.args.acts.now)
          c.hear_act.new.text.items after q result) c.or-decides.ensures takes in
          let both = takes_then c.loop-act.self c.hear_act.new.self u c.act-item.result (drop (c.loop-act.act-index + 1) c.args.acts.now)
          c.loop-act.text.items c.hear_act.new.text.items after c.loop-act.decides _ result here rest in
          c.loop-act.invariant.1 u after result
          (subst (λ (l : List Act). Takes c.loop-act.self u l c.loop-act.text.items after c.loop-act.decides result)
          (sym (next_act c.args.acts.now c.loop-act.act-index c.act-item.result c.loop-act-test.true c.act-item.is)) both),
    )

pub returns-clause-takes : goal.returns-clause-takes
returns-clause-takes g c =
    let past = c.loop-act-test.false in
    c.loop-act.invariant.1 c.loop-act.self c.loop-act.text.items c.loop-act.decides
    (subst (λ (l : List Act). Takes c.loop-act.self c.loop-act.self l c.loop-act.text.items c.loop-act.text.items c.loop-act.decides c.loop-act.decides)
    (sym (no_more c.args.acts.now c.loop-act.act-index (omega (arith, past))))
    (takes_none c.loop-act.self c.loop-act.text.items c.loop-act.decides))
