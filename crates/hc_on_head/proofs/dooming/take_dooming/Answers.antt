use Rattle.std.{proofs.Common.{Some, None, refl, ap, sym, ◌∙◌, subst}, specs.Prelude.{option_map}}
use Rattle.hc_effects.proofs.Vocabulary.{act_list}
use Rattle.hc_exch.specs.{Exchanges.{table_of}, Openings.{opened_with}}
use Rattle.hc_state.specs.{Dooms.{IsDoomed, IsUnheard}, Heads.{is_bad_case}}
use Rattle.hc_on_leave.proofs.HeardRows.{asker_of, asked_by}
use Rattle.hc_on_head.proofs.{DoomingHandlers.{past_place, accepted_then, good_then, dooming_taken, dooming_bad, unheard_as}, HeadReported.{taken_case}}
use Rattle.hc_on_head.proofs.dooming.take_dooming.Goals as goal

pub doom-requires-clause-unheard : goal.doom-requires-clause-unheard
doom-requires-clause-unheard g c =
    unheard_as (table_of c.args.rows.now.exchanges) c.args.heard.x c.unwrap.result c.in_ok-key.key c.requires.comes.accepted
    (sym (ap (option_map opened_with) c.unwrap.ensures) ∙ c.opening.ensures) c.in_ok-key.ensures c.requires.past.opened

pub returns-in-DirectBad-clause-answers : goal.returns-in-DirectBad-clause-answers
returns-in-DirectBad-clause-answers g c = λ limits t w facts stands goes row is unsafe.
    let r = c.args.rows.now in
    let mid = c.doom.new.rows in
    let now = c.args.heard.now in
    let x = c.args.heard.x in
    let response = c.args.response.now in
    let a = asker_of r t facts now x response w stands goes row in
    let for_it = asked_by r t x c.args.heard.c w stands c.requires.comes.accepted c.requires.comes.asker row in
    let unheard = unheard_as (table_of c.args.rows.now.exchanges) c.args.heard.x c.unwrap.result c.in_ok-key.key c.requires.comes.accepted
    (sym (ap (option_map opened_with) c.unwrap.ensures) ∙ c.opening.ensures) c.in_ok-key.ensures c.requires.past.opened in
    let past = past_place r t x w a c.in_ok-key.key stands unheard in
    dooming_bad r t facts stands now x response w a.v a.awaits past.0 mid (act_list c.args.out.now) _ goes unsafe _ c.args.heard.c for_it
    (subst (λ k. IsUnheard (table_of r.exchanges) k x) past.1 unheard) (is ∙ c.in-DirectBad.is)
    (subst (λ k. IsDoomed limits mid t (act_list c.args.out.now) (act_list c.doom.new.out) now k (Some x)) past.1 (c.doom.ensures.doomed _ t facts.law stands))
    refl refl refl refl c.stand.ensures

pub have_answer-requires-clause-accepted : goal.have_answer-requires-clause-accepted
have_answer-requires-clause-accepted g c =
    let unheard = unheard_as (table_of c.args.rows.now.exchanges) c.args.heard.x c.unwrap.result c.in_ok-key.key c.requires.comes.accepted
    (sym (ap (option_map opened_with) c.unwrap.ensures) ∙ c.opening.ensures) c.in_ok-key.ensures c.requires.past.opened in
    accepted_then c.args.rows.now c.doom-2.new.rows c.args.heard.now c.args.heard.x c.in_ok-key.key c.args.response.now (act_list c.args.out.now) _
    unheard c.requires.comes.stands c.doom-2.ensures.doomed

pub have_answer-requires-clause-good : goal.have_answer-requires-clause-good
have_answer-requires-clause-good g c =
    let unheard = unheard_as (table_of c.args.rows.now.exchanges) c.args.heard.x c.unwrap.result c.in_ok-key.key c.requires.comes.accepted
    (sym (ap (option_map opened_with) c.unwrap.ensures) ∙ c.opening.ensures) c.in_ok-key.ensures c.requires.past.opened in
    good_then c.args.rows.now c.doom-2.new.rows c.args.heard.now c.args.heard.x c.in_ok-key.key c.args.response.now (act_list c.args.out.now) _ unheard
    c.requires.comes.stands c.doom-2.ensures.doomed
    (c.requires.past.good (ap is_bad_case (taken_case c.args.case c.requires.past.case_is c.in_default.not-DirectBad)))

pub returns-clause-answers : goal.returns-clause-answers
returns-clause-answers g c = λ limits t w facts stands goes row is unsafe.
    let r = c.args.rows.now in
    let mid = c.doom-2.new.rows in
    let now = c.args.heard.now in
    let x = c.args.heard.x in
    let response = c.args.response.now in
    let a = asker_of r t facts now x response w stands goes row in
    let for_it = asked_by r t x c.args.heard.c w stands c.requires.comes.accepted c.requires.comes.asker row in
    let unheard = unheard_as (table_of c.args.rows.now.exchanges) c.args.heard.x c.unwrap.result c.in_ok-key.key c.requires.comes.accepted
    (sym (ap (option_map opened_with) c.unwrap.ensures) ∙ c.opening.ensures) c.in_ok-key.ensures c.requires.past.opened in
    let past = past_place r t x w a c.in_ok-key.key stands unheard in
    dooming_taken r t facts stands now x response w a.v a.awaits past.0 mid (act_list c.args.out.now) _ goes unsafe _
    (is ∙ taken_case c.args.case c.requires.past.case_is c.in_default.not-DirectBad)
    (subst (λ k. IsDoomed limits mid t (act_list c.args.out.now) (act_list c.doom-2.new.out) now k None) past.1 (c.doom-2.ensures.doomed _ t facts.law stands))
    (λ m alone stood. c.have_answer.ensures.stands _ m w a.v alone for_it stood)
