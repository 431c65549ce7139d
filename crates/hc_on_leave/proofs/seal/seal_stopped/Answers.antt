use Rattle.std.proofs.Common.{ℕ, ◌<◌, [], Err, refl, ap, sym, ◌∙◌, subst}
use Rattle.hc_effects.proofs.Vocabulary.{act_list}
use Rattle.hc_stored.specs.{Entries.{shelf_of}, declared.view.EntryView.{EntryView}}
use Rattle.hc_state.specs.declared.stop.Disposition.TheVariants as stop
use Rattle.hc_state.specs.Stopped.{with_consumers}
use Rattle.hc_state.proofs.{SealHandler.{stopped_sealed, stopped_lost, viewed, reported_kept, nobody_yet, nothing_held}, ReaderSteps.{stands_read}, Stopping.{Stays, means_it}}
use Rattle.hc_on_leave.proofs.Shorts.{view_short}
use Rattle.hc_on_leave.proofs.seal.seal_stopped.Goals as goal

pub seal-requires-clause-total : goal.seal-requires-clause-total
seal-requires-clause-total g c =
    view_short (shelf_of c.args.rows.now.entries) c.args.r c.entry.result c.unwrap-entry.result c.requires.may.short c.entry.ensures c.unwrap-entry.ensures

pub returns-in-Ok-clause-stopped : goal.returns-in-Ok-clause-stopped
returns-in-Ok-clause-stopped g c = λ limits t f facts may stands decided.
    let r = c.args.rows.now in
    let x = c.args.x in
    let q = c.args.r in
    let stays : Stays t (with_consumers f t) (shelf_of r.entries) x q may.w =
    means_it r t facts f stands x may.w may.row may.is_open (stop.Seal q) (sym decided) in
    let is = viewed (shelf_of r.entries) q stays.e c.entry.result c.unwrap-entry.result stays.kept c.entry.ensures c.unwrap-entry.ensures in
    stopped_sealed limits r _ t facts f x c.args.alone may c.args.now _ (act_list c.args.out.now) (act_list c.args.out.now) q stays stands refl refl refl
    c.close.ensures
    c.kind_without-kind.result c.unwrap-entry.result.total
    (c.kind_without-kind.ensures stays.p (reported_kept (shelf_of r.entries) q stays.e stays.p c.unwrap-entry.result stays.kept is stays.is_reported))
    (ap (λ (z : EntryView). z.total) is) c.in-Ok.ensures.ok refl

pub returns-in-Err-clause-stopped : goal.returns-in-Err-clause-stopped
returns-in-Err-clause-stopped g c = λ limits t f facts may stands decided.
    let r = c.args.rows.now in
    let x = c.args.x in
    let q = c.args.r in
    let s = with_consumers f t in
    let stays : Stays t s (shelf_of r.entries) x q may.w = means_it r t facts f stands x may.w may.row may.is_open (stop.Seal q) (sym decided) in
    let nobody = nobody_yet limits r r t facts f x c.args.alone may 0 0 [] [] q stays in
    let nothing = nothing_held limits r r t facts f x c.args.alone may 0 0 [] [] q stays in
    let lost = c.lose_to.ensures.lost _ s stays.p may.may stays.row nobody nothing (stands_read r _ s refl refl refl refl c.in-Err.ensures.err stands) in
    stopped_lost limits r _ t facts f x c.args.alone may c.args.now _ (act_list c.args.out.now) (act_list c.lose_to.new.out) q stays c.lose_to.new.rows lost
    (record { last_start = refl; keys = refl; entries = refl }) refl c.close-in-Err.ensures
    (subst (λ (m : ℕ). (shelf_of r.entries).faults < m) (sym c.lose_to.ensures.faults)
    (c.seal.ensures.cause.fault (c.in-Err.is ∙ ap Err (c.seal.ensures.only c.in-Err.field-0 c.in-Err.is))))
    c.lose_to.ensures.acts
