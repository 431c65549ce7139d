use Rattle.std.proofs.Common.{ℕ, Some, refl, sym, subst}
use Rattle.hc_event.specs.declared.place.Place.TheVariants as place
use Rattle.hc_effects.proofs.Vocabulary.{with_consumer}
use Rattle.hc_state.specs.Stands.{RowsStand}
use Rattle.hc_on_leave.proofs.{HeardRows.{asker_of, asked_by}, UnstoredHandlers.{alone_past, past_answered}}
use Rattle.hc_on_head.proofs.unstored.go_past.Goals as goal

pub returns-clause-answers : goal.returns-clause-answers
returns-clause-answers g c = λ k before on limits t w facts stands goes row is doomless same.
    let r = c.args.rows.now in
    let now = c.args.heard.now in
    let x = c.args.heard.x in
    let response = c.args.response.now in
    let first = c.fall_back.new.rows in
    let mid = c.answer_past.new.rows in
    let a = asker_of r t facts now x response w stands goes row in
    let for_it = asked_by r t x c.args.heard.c w stands c.requires.comes.accepted c.requires.comes.asker row in
    let alone = alone_past r mid mid t facts now x response goes w a.v a.awaits a.stands c.args.goes before k on is in
    let fallback = subst (λ (d : ℕ). RowsStand limits first (with_consumer d (Some (record a.v { place = place.Direct x })) t)) (sym for_it)
    (c.fall_back.ensures.stands _ t x w a.v facts a.awaits for_it refl stands) in
    past_answered r mid _ t facts now x response goes w a.v a.awaits a.stands c.args.goes before k on is same
    (c.in_ok-answer_past.ensures.stands _ _ w _ alone for_it fallback)
    (λ may after. c.let_some_go.ensures.stands _ _ may after)
