use Rattle.std.proofs.Common.{refl, sym, ◌∙◌}
use Rattle.hc_stored.specs.Entries.{shelf_of}
use Rattle.hc_exch.specs.Exchanges.{table_of}
use Rattle.hc_state.specs.declared.stop.Disposition.TheVariants as stop
use Rattle.hc_state.proofs.{CloseHandler.{stopped_nothing, stopped_going}, SealHandler.{seal_kept}, Stopping.{means_it}}
use Rattle.hc_on_leave.proofs.seal.stop_bringing.Goals as goal

pub returns-in-Nothing-clause-stopped : goal.returns-in-Nothing-clause-stopped
returns-in-Nothing-clause-stopped g c = λ limits t f facts may stands.
    let r = c.args.rows.now in
    let x = c.args.x in
    stopped_nothing limits _ t facts f x c.args.alone may c.args.now _ _ _ r stands
    (record { last_start = refl; keys = refl; entries = refl }) refl c.close.ensures
    (means_it r t facts f stands x may.w may.row may.is_open stop.Nothing (sym c.in-Nothing.is ∙ c.stop_of.ensures)) refl

pub returns-in-LetGo-clause-stopped : goal.returns-in-LetGo-clause-stopped
returns-in-LetGo-clause-stopped g c = λ limits t f facts may stands.
    let r = c.args.rows.now in
    let x = c.args.x in
    let mid = c.let_go.new.rows in
    let goes = means_it r t facts f stands x may.w may.row may.is_open (stop.LetGo c.in-LetGo.r) (sym c.in-LetGo.is ∙ c.stop_of.ensures) in
    stopped_going limits _ t facts f x c.args.alone may c.args.now _ _ _ c.in-LetGo.r mid (c.let_go.ensures.stands _ _ may.may stands)
    (record { last_start = refl; keys = refl; entries = refl }) refl c.close-in-LetGo.ensures goes refl

pub seal_stopped-requires-clause-there : goal.seal_stopped-requires-clause-there
seal_stopped-requires-clause-there g c =
    seal_kept c.args.x c.in-Seal.r (table_of c.args.rows.now.exchanges c.args.x).running (shelf_of c.args.rows.now.entries)
    (sym c.stop_of.ensures ∙ c.in-Seal.is)

pub returns-in-Seal-clause-stopped : goal.returns-in-Seal-clause-stopped
returns-in-Seal-clause-stopped g c = λ limits t f facts may stands.
    c.seal_stopped.ensures.stopped _ t f facts may stands (sym c.stop_of.ensures ∙ c.in-Seal.is)
