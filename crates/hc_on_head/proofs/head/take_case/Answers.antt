use Rattle.std.proofs.Common.{Some, ap, sym, ◌∙◌}
use Rattle.hc_effects.proofs.Vocabulary.{act_list, HeadCase, doomed_by_case}
use Rattle.hc_state.specs.Heads.{is_bad_case}
use Rattle.hc_on_leave.proofs.{HeardRows.{asker_of, asked_by}, UnstoredHandlers.{alone_taken, taken_answered}}
use Rattle.hc_on_head.proofs.{HeadReported.{past_case, good_past, unused_case}, JoinHeads.{aim_some, kept_this, about_this, join_case, good_join}}
use Rattle.hc_state.proofs.Words.{ok_then}
use Rattle.hc_on_head.proofs.head.take_case.Goals as goal

pub answer_past-requires-clause-good : goal.answer_past-requires-clause-good
answer_past-requires-clause-good g c = c.requires.fits.good (ap is_bad_case c.in-DirectTaken.is)

pub go_past-requires-clause-good : goal.go_past-requires-clause-good
go_past-requires-clause-good g c = c.requires.fits.good (good_past c.args.case c.in-TurnServerError.is)

pub returns-in-DirectTaken-clause-answers : goal.returns-in-DirectTaken-clause-answers
returns-in-DirectTaken-clause-answers g c = ok_then
    c.answer_past.result c.answer_past.ensures.stands (λ stood limits t w facts stands goes row is doomless same.
    let r = c.args.rows.now in
    let u = c.answer_past.new.rows in
    let now = c.args.heard.now in
    let x = c.args.heard.x in
    let response = c.args.response.now in
    let a = asker_of r t facts now x response w stands goes row in
    let for_it = asked_by r t x c.args.heard.c w stands c.requires.comes.accepted c.requires.comes.asker row in
    let taken = is ∙ c.in-DirectTaken.is in
    taken_answered r u t facts now x response goes w a.v a.awaits a.stands taken (act_list c.args.out.now)
    (ap (λ (q : HeadCase). doomed_by_case (Some q) w response) (sym c.in-DirectTaken.is) ∙ doomless)
    (stood _ t w a.v (alone_taken r u t facts now x response goes w a.v a.awaits a.stands taken) for_it stands))

pub returns-in-TurnServerError-clause-answers : goal.returns-in-TurnServerError-clause-answers
returns-in-TurnServerError-clause-answers g c = ok_then
    c.go_past.result c.go_past.ensures.answers (λ answers. answers c.args.case (act_list c.args.out.now) (past_case c.args.case c.in-TurnServerError.is))

pub unwrap-requires : goal.unwrap-requires
unwrap-requires g c = aim_some c.args.rows.now c.args.heard.x c.view.result c.unwrap-role.result c.aim_of.result c.args.response.now
    c.requires.comes.accepted c.view.ensures c.unwrap-role.ensures c.aim_of.ensures (c.requires.fits.joins (join_case c.args.case c.in-FirstJoins.is))

pub join-requires-clause-about : goal.join-requires-clause-about
join-requires-clause-about g c = record {
  about = about_this c.args.rows.now c.args.heard.x c.view.result c.unwrap-role.result c.aim_of.result c.args.response.now c.requires.comes.accepted
      c.view.ensures c.unwrap-role.ensures c.aim_of.ensures c.unwrap.result c.unwrap.ensures;
  there = kept_this c.args.rows.now c.args.heard.x c.view.result c.unwrap-role.result c.aim_of.result c.args.response.now c.requires.comes.accepted
      c.view.ensures c.unwrap-role.ensures c.aim_of.ensures c.unwrap.result c.unwrap.ensures (c.requires.fits.joins (join_case c.args.case c.in-FirstJoins.is));
}

pub join-requires-clause-good : goal.join-requires-clause-good
join-requires-clause-good g c = c.requires.fits.good (good_join c.args.case c.in-FirstJoins.is)

pub returns-in-FirstJoins-clause-answers : goal.returns-in-FirstJoins-clause-answers
returns-in-FirstJoins-clause-answers g c = ok_then
    c.join.result c.join.ensures.answers (λ answers. answers c.args.case c.args.goes (join_case c.args.case c.in-FirstJoins.is))

pub close_unused-requires-clause-unused : goal.close_unused-requires-clause-unused
close_unused-requires-clause-unused g c = unused_case c.args.case c.in-DirectBad.is
