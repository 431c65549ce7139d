use Rattle.std.proofs.Common.{refl}
use Rattle.hc_effects.proofs.Vocabulary.{act_list}
use Rattle.hc_on_leave.proofs.{HeardRows.{asker_of, asked_by}, UnstoredHandlers.{due_then, late_answered}}
use Rattle.hc_on_head.proofs.unstored.close_hole.Goals as goal

pub returns-clause-answers : goal.returns-clause-answers
returns-clause-answers g c = λ k on because limits t w facts stands goes row is doomless same.
    let r = c.args.rows.now in
    let now = c.args.heard.now in
    let x = c.args.heard.x in
    let response = c.args.response.now in
    let first = record r { consumers = c.make_due.new.consumers } in
    let mid = c.refuse.new.rows in
    let a = asker_of r t facts now x response w stands goes row in
    let for_it = asked_by r t x c.args.heard.c w stands c.requires.comes.accepted c.requires.comes.asker row in
    late_answered r first mid t facts now x response goes w a.v a.awaits (act_list c.args.out.now) _ c.refuse.ensures.acts c.refuse.ensures.rest.rest
    c.refuse.ensures.rest.consumers c.refuse.ensures.closed
    _ c.args.goes k a.stands on is same
    (due_then r first t facts now x c.args.heard.c response w a c.args.cause k goes stands for_it because refl refl refl refl c.make_due.ensures)
    (λ m may after. c.let_some_go.ensures.stands _ m may after)
