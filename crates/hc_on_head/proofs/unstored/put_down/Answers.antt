use Rattle.std.proofs.Common.{ℕ, Some, sym, subst}
use Rattle.hc_effects.proofs.Vocabulary.{act_list, with_consumer, cause}
use Rattle.hc_event.specs.declared.place.Place.TheVariants as place
use Rattle.hc_state.specs.Stands.{RowsStand}
use Rattle.hc_on_leave.proofs.{HeardRows.{asker_of, asked_by}, UnstoredHandlers.{put_down_answered}}
use Rattle.hc_on_head.proofs.unstored.put_down.Goals as goal

pub returns-clause-answers : goal.returns-clause-answers
returns-clause-answers g c = λ k on limits t w facts stands goes row is doomless none.
    let r = c.args.rows.now in
    let x = c.args.heard.x in
    let mid = c.fall_back.new.rows in
    let a = asker_of r t facts c.args.heard.now x c.args.response.now w stands goes row in
    let for_it = asked_by r t x c.args.heard.c w stands c.requires.comes.accepted c.requires.comes.asker row in
    put_down_answered r mid _ t facts c.args.heard.now x c.args.response.now goes w a.v a.awaits (act_list c.args.out.now) _ c.refuse.ensures.acts
    c.refuse.ensures.rest.rest c.refuse.ensures.rest.consumers c.refuse.ensures.closed
    k on is doomless
    (subst (λ (d : ℕ). RowsStand limits mid (with_consumer d (Some (record a.v { place = place.Down (cause.BadHead x) })) t)) (sym for_it)
    (c.fall_back.ensures.stands _ t x w a.v facts a.awaits for_it tt stands))
