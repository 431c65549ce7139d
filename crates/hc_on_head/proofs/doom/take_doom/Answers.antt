use Rattle.std.proofs.Common.{None, refl}
use Rattle.hc_effects.proofs.Vocabulary.{act_list, awaited_and, event}
use Rattle.hc_stored.specs.Entries.{shelf_of}
use Rattle.hc_effects.proofs.DoomEffects.{doom_does}
use Rattle.hc_state.proofs.{Answering.{does_answered}, Counting.{stands_counted}}
use Rattle.hc_on_leave.proofs.LeaveHandlers.{flawless}
use Rattle.hc_on_head.proofs.doom.take_doom.Goals as goal

pub returns-clause-answers : goal.returns-clause-answers
returns-clause-answers g c = λ limits t facts rows accepted.
    let r = c.args.rows.now in
    let key = c.args.key.now in
    let doomed = c.doom.ensures.doomed _ t facts.law rows in
    does_answered limits (shelf_of r.entries).faults _ t _ (act_list c.args.out.now) _ _ c.args.now (event.Doom key)
    (doom_does limits t facts.law c.args.now key)
    refl (flawless (awaited_and t key None)) doomed.acts (stands_counted _ _ c.args.now (event.Doom key) refl doomed.rows)
