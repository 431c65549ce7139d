use Rattle.std.proofs.Common.{◌≡◌, subst, List, ℕ, Bool, Some, None}
use Rattle.hc_effects.proofs.Vocabulary.{act_list, Act}
use Rattle.hc_fetch.specs.{Deciding.{by_failure}, Firsts.{total_to_start}, Hearing.{Takes}}
use Rattle.hc_fetch.proofs.{Going.{answered_alone, answered_with}, Totals.{short_start}}
use Rattle.hc_fetch.proofs.fetching.Fetching.answer_event.Goals as goal

pub start_others-requires-clause-total : goal.start_others-requires-clause-total
start_others-requires-clause-total g c =
    short_start c.is_some-was_shown.result c.in_ok-decides.decides c.hear.new.self.first c.in-Some.total c.in-Some.ensures c.hear.new.self.short

pub returns-in-Some-clause-answered : goal.returns-in-Some-clause-answered
returns-in-Some-clause-answered g c =
    let acts : List Act = act_list c.step.new.acts in
    let takes =
    subst (λ (before : List ℕ). Takes c.step.new.self c.hear.new.self acts before c.hear.new.text.items (by_failure acts) c.in_ok-decides.decides)
    c.requires.empty
    (subst (λ (l : List Act). Takes c.step.new.self c.hear.new.self l c.args.text.now.items c.hear.new.text.items (by_failure l) c.in_ok-decides.decides)
    c.list.ensures c.in_ok-decides.ensures.takes) in
    let starts = subst (λ (b : Bool). Some c.in-Some.total ≡ total_to_start b c.in_ok-decides.decides c.hear.new.self.first) c.is_some-was_shown.ensures
    c.in-Some.ensures in
    answered_with c.args.self.now c.step.new.self c.hear.new.self c.args.now c.args.event.now acts c.hear.new.text.items c.in_ok-decides.decides
    c.in_ok-step.ensures takes c.requires.own c.requires.small
    c.start_others.new.self c.in-Some.total starts c.requires.count.0 c.in_ok-start_others.ensures

pub returns-clause-answered : goal.returns-clause-answered
returns-clause-answered g c =
    let acts : List Act = act_list c.step.new.acts in
    let takes =
    subst (λ (before : List ℕ). Takes c.step.new.self c.hear.new.self acts before c.hear.new.text.items (by_failure acts) c.in_ok-decides.decides)
    c.requires.empty
    (subst (λ (l : List Act). Takes c.step.new.self c.hear.new.self l c.args.text.now.items c.hear.new.text.items (by_failure l) c.in_ok-decides.decides)
    c.list.ensures c.in_ok-decides.ensures.takes) in
    let starts = subst (λ (b : Bool). None ≡ total_to_start b c.in_ok-decides.decides c.hear.new.self.first) c.is_some-was_shown.ensures c.in_default.ensures in
    answered_alone c.args.self.now c.step.new.self c.hear.new.self c.args.now c.args.event.now acts c.hear.new.text.items c.in_ok-decides.decides
    c.in_ok-step.ensures takes c.requires.own c.requires.small starts
