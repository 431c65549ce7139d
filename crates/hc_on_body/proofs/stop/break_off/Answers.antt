use Rattle.std.proofs.Common.{◌≡◌, true, ap, sym, subst}
use Rattle.hc_exch.specs.{declared.exchanges.Exchanges.{Exchanges}, Exchanges.{table_of}, Known.{is_open}}
use Rattle.hc_stored.specs.Entries.{shelf_of}
use Rattle.hc_effects.proofs.Vocabulary.{act_list}
use Rattle.hc_state.specs.{Stopped.{HasStopped, MayStop}, Stored.{KnowsShort}}
use Rattle.hc_on_leave.proofs.Shorts.{shorts_here}
use Rattle.hc_on_body.proofs.StopHandler.{breaks_off}
use Rattle.hc_on_body.proofs.stop.break_off.Goals as goal

pub stop_bringing-requires-clause-may : goal.stop_bringing-requires-clause-may
stop_bringing-requires-clause-may g c = record {
  running = subst (λ (e : Exchanges). is_open c.args.x (table_of e) ≡ true) (sym c.make_due_to.ensures.exchanges) c.requires.running;
  short = subst (λ z. KnowsShort (shelf_of z)) (sym c.make_due_to.ensures.rest.entries) (shorts_here c.args.rows.now c.requires.stands);
}

pub returns-clause-broken : goal.returns-clause-broken
returns-clause-broken g c = λ limits t w facts stands broken.
    let r = c.args.rows.now in
    let mid = c.make_due_to.new.rows in
    let due = c.make_due_to.ensures in
    breaks_off r mid _ t facts stands c.args.x w broken c.readers-readers.result c.readers-readers.ensures c.args.cause due.rest due.exchanges due.consumers
    (shelf_of r.entries).faults c.args.now (act_list c.args.out.now) _
    (λ f may rows.
    subst (λ n. HasStopped limits n c.stop_bringing.new.rows t f (act_list c.args.out.now) (act_list c.stop_bringing.new.out) c.args.now c.args.x)
    (ap (λ z. (shelf_of z).faults) due.rest.entries)
    (c.stop_bringing.ensures.stopped _ t f facts (subst (λ o. MayStop t f c.args.x o) (sym c.alone.ensures) may) rows))
