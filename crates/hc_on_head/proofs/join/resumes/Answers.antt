use Rattle.std.{proofs.Common.{ℕ, nat_eq, ap, sym, ◌∙◌, subst}, specs.{Prelude.{option_map, ◌↔◌, IsTrue}, HashMap.{get}}}
use Rattle.hc_stored.specs.Entries.{shelf_of}
use Rattle.hc_exch.specs.Openings.{opened_with}
use Rattle.hc_state.specs.Joining.{LacksOnly}
use Rattle.hc_on_head.proofs.JoinResumes.{no_hole, is_start, resumes_not, resumes_as}
use Rattle.hc_state.proofs.Maps.{lent}
use Rattle.hc_on_head.proofs.join.resumes.Goals as goal

pub returns-in_default : goal.returns-in_default
returns-in_default g c = λ limits t w p k from to facts stands row opened hole for_it there stays kept reported.
    no_hole c.args.rows.now t c.args.heard.x c.unwrap-opening.result w from to stands row opened
    (sym (ap (option_map opened_with) c.unwrap-opening.ensures) ∙ c.opening.ensures) hole c.in_default.not-Hole

pub returns-then-is_some : goal.returns-then-is_some
returns-then-is_some g c = λ limits t w p k from to facts stands row opened hole for_it there stays kept reported.
    let at = lent c.get.result (get nat_eq c.args.rows.now.consumers c.args.heard.c) c.unwrap-consumer.result c.get.ensures.value c.unwrap-consumer.ensures in
    resumes_not c.args.rows.now t facts stands c.args.r c.args.heard.c from to c.args.response.now w p c.unwrap-consumer.result.now k hole for_it at there
    stays kept reported (sym c.is_some.ensures ∙ c.if-is_some.true)

pub returns : goal.returns
returns g c = λ limits t w p k from to facts stands row opened hole for_it there stays kept reported.
    let r = c.args.rows.now in
    let at = lent c.get.result (get nat_eq r.consumers c.args.heard.c) c.unwrap-consumer.result c.get.ensures.value c.unwrap-consumer.ensures in
    let start = is_start r t c.args.heard.x c.unwrap-opening.result w from to stands row opened
    (sym (ap (option_map opened_with) c.unwrap-opening.ensures) ∙ c.opening.ensures) hole c.in-Hole.from c.in-Hole.to c.in-Hole.is in
    resumes_as r t facts stands c.args.r c.args.heard.c from to c.args.response.now w p c.unwrap-consumer.result.now k hole for_it at there stays kept
    reported (sym c.is_some.ensures ∙ c.if-is_some.false)
    c.lacks_only.result (subst (λ (n : ℕ). IsTrue c.lacks_only.result ↔ LacksOnly n c.args.response.now ((shelf_of r.entries).kept c.args.r)) start
    c.lacks_only.ensures)
