use Rattle.std.proofs.Common.{ℕ, Some, sym, subst}
use Rattle.hc_effects.proofs.Vocabulary.{act_list, back_in_line, with_consumer}
use Rattle.hc_state.specs.Stands.{RowsStand}
use Rattle.hc_on_leave.proofs.{HeardRows.{asker_of, asked_by}, UnstoredHandlers.{awaits_anew, anew_answered}}
use Rattle.hc_on_head.proofs.unstored.start_anew.Goals as goal

pub returns-clause-answers : goal.returns-clause-answers
returns-clause-answers g c = λ k on limits t w facts stands goes row is doomless same.
    let r = c.args.rows.now in
    let now = c.args.heard.now in
    let x = c.args.heard.x in
    let response = c.args.response.now in
    let first = c.send_back.new.rows in
    let mid = c.refuse.new.rows in
    let a = asker_of r t facts now x response w stands goes row in
    let for_it = asked_by r t x c.args.heard.c w stands c.requires.comes.accepted c.requires.comes.asker row in
    anew_answered r first mid t facts now x response goes w a.v a.awaits (act_list c.args.out.now) _ c.refuse.ensures.acts c.refuse.ensures.rest.rest
    c.refuse.ensures.rest.consumers c.refuse.ensures.closed
    _ c.args.goes k on is same
    (subst (λ (d : ℕ). RowsStand limits first (with_consumer d (Some (back_in_line now a.v)) t)) (sym for_it)
    (c.send_back.ensures.stands _ t x w a.v facts a.awaits for_it (awaits_anew t x w a.v response k a.awaits.asker a.stands on is) stands))
    (λ m may after. c.let_some_go.ensures.stands _ m may after)
