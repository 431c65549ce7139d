use Rattle.std.proofs.Common.{ap, arith}
use Rattle.hc_state.specs.Heads.{starts_anew}
use Rattle.hc_on_head.proofs.{HeadReported.{live_now, heard_now, waits_as_reported, reported_as, past_of_runs, past_as, reported_dooming, reported_unselected}, JoinHeads.{fits_as}}
use Rattle.hc_state.proofs.{Words.{ok_then}, Kept.{few_kept}}
use Rattle.hc_on_head.proofs.head.take_head.Goals as goal

pub case_of-case-requires-clause-live : goal.case_of-case-requires-clause-live
case_of-case-requires-clause-live g c =
    live_now c.args.rows.now c.args.x c.view.result c.unwrap-view.result c.requires.accepted c.view.ensures c.unwrap-view.ensures c.requires.stands

pub take_case-requires-clause-comes : goal.take_case-requires-clause-comes
take_case-requires-clause-comes g c =
    heard_now c.args.rows.now c.args.now c.args.x c.view.result c.unwrap-view.result c.requires.accepted c.view.ensures c.unwrap-view.ensures c.requires.stands

pub take_case-requires-clause-fits : goal.take_case-requires-clause-fits
take_case-requires-clause-fits g c =
    let lives = live_now c.args.rows.now c.args.x c.view.result c.unwrap-view.result c.requires.accepted c.view.ensures c.unwrap-view.ensures
    c.requires.stands in
    fits_as c.args.rows.now c.args.x c.view.result c.unwrap-view.result c.aim_of-aim.result c.args.response.now c.requires.accepted c.view.ensures
    c.unwrap-view.ensures c.aim_of-aim.ensures c.case_of-case.result lives c.case_of-case.ensures
    c.args.now c.requires.stands c.requires.within_limits c.in_default.not-NotValidated

pub take_dooming-requires-clause-comes : goal.take_dooming-requires-clause-comes
take_dooming-requires-clause-comes g c =
    heard_now c.args.rows.now c.args.now c.args.x c.view.result c.unwrap-view.result c.requires.accepted c.view.ensures c.unwrap-view.ensures c.requires.stands

pub take_dooming-requires-clause-past : goal.take_dooming-requires-clause-past
take_dooming-requires-clause-past g c =
    let lives = live_now c.args.rows.now c.args.x c.view.result c.unwrap-view.result c.requires.accepted c.view.ensures c.unwrap-view.ensures
    c.requires.stands in
    past_as c.args.rows.now c.args.x c.args.response.now c.view.result c.unwrap-view.result c.aim_of-aim.result c.case_of-case.result c.requires.accepted
    c.view.ensures c.unwrap-view.ensures c.aim_of-aim.ensures c.case_of-case.ensures
    c.dooms.result c.dooms.ensures c.if-dooms.true c.args.now lives

pub take_dooming-requires-clause-room : goal.take_dooming-requires-clause-room
take_dooming-requires-clause-room g c =
    let few = few_kept c.args.rows.now c.requires.stands in
    let room = c.requires.room in
    omega (arith, few, room)

pub returns-then-dooms-clause-answers : goal.returns-then-dooms-clause-answers
returns-then-dooms-clause-answers g c = ok_then c.take_dooming.result c.take_dooming.ensures.answers (λ answers limits t facts stands goes.
    let reported = reported_dooming c.args.rows.now c.args.x c.args.response.now c.view.result c.unwrap-view.result c.aim_of-aim.result
    c.case_of-case.result c.requires.accepted c.view.ensures c.unwrap-view.ensures c.aim_of-aim.ensures c.case_of-case.ensures
    c.dooms.result c.dooms.ensures c.if-dooms.true t facts stands in
    answers _ t reported.w facts stands goes reported.row reported.is reported.unsafe)

pub validate-requires-clause-comes : goal.validate-requires-clause-comes
validate-requires-clause-comes g c =
    heard_now c.args.rows.now c.args.now c.args.x c.view.result c.unwrap-view.result c.requires.accepted c.view.ensures c.unwrap-view.ensures c.requires.stands

pub validate-requires-clause-waits : goal.validate-requires-clause-waits
validate-requires-clause-waits g c =
    let lives = live_now c.args.rows.now c.args.x c.view.result c.unwrap-view.result c.requires.accepted c.view.ensures c.unwrap-view.ensures
    c.requires.stands in
    waits_as_reported c.args.rows.now c.args.x c.args.response.now c.view.result c.unwrap-view.result c.aim_of-aim.result c.case_of-case.result
    c.requires.accepted c.view.ensures c.unwrap-view.ensures c.aim_of-aim.ensures c.case_of-case.ensures
    c.requires.stands (past_of_runs c.args.rows.now) lives (ap starts_anew c.in-NotValidated.is)

pub returns-in-NotValidated-clause-answers : goal.returns-in-NotValidated-clause-answers
returns-in-NotValidated-clause-answers g c = ok_then c.validate.result c.validate.ensures.answers (λ answers limits t facts stands goes.
    let reported = reported_unselected c.args.rows.now c.args.x c.args.response.now c.view.result c.unwrap-view.result c.aim_of-aim.result
    c.case_of-case.result c.requires.accepted c.view.ensures c.unwrap-view.ensures c.aim_of-aim.ensures c.case_of-case.ensures
    t facts stands c.in-NotValidated.is in
    answers _ t reported.w facts stands goes reported.row reported.about reported.is)

pub returns-clause-answers : goal.returns-clause-answers
returns-clause-answers g c = ok_then c.take_case.result c.take_case.ensures.answers (λ answers limits t facts stands goes.
    let reported = reported_as c.args.rows.now c.args.x c.args.response.now c.view.result c.unwrap-view.result c.aim_of-aim.result c.case_of-case.result
    c.requires.accepted c.view.ensures c.unwrap-view.ensures c.aim_of-aim.ensures c.case_of-case.ensures
    t facts stands c.dooms.result c.let_go_by-goes.result c.dooms.ensures c.if-dooms.false c.let_go_by-goes.ensures c.in_default.not-NotValidated in
    answers _ t reported.w facts stands goes reported.row reported.is reported.doomless reported.same)
