use Rattle.std.{proofs.{Common.{Bool, false, None, refl, ap, sym, ◌∙◌, subst}, lemmas.List.{append-nil}}, specs.Prelude.{◌&&◌, not}}
use Rattle.hc_effects.proofs.Vocabulary.{event, RequestClass}
use Rattle.hc_stored.specs.Entries.{shelf_of}
use Rattle.hc_event.specs.declared.place.Place.TheVariants as place
use Rattle.hc_effects.proofs.StartEffects.{starts}
use Rattle.hc_state.specs.Handlers.{IsEntered}
use Rattle.hc_state.proofs.{Answering.{does_answered}, Maps.{inserted, merely_false}}
use Rattle.hc_on_poll.proofs.StartHandler.{stands_started, not_in_yet, class_queues}
use Rattle.hc_on_poll.proofs.start.start.Goals as goal

pub enter_line-requires : goal.enter_line-requires
enter_line-requires g c = merely_false _ c.requires.stands (λ s. not_in_yet c.args.rows.now s.t s.facts.law c.args.c _ s.rows c.requires.ascending)

pub returns-clause-answers : goal.returns-clause-answers
returns-clause-answers g c = λ before limits t facts rows accepted.
    let r = c.args.rows.now in
    let ev = event.Start c.args.c c.args.request.now in
    let queues = c.queues-queues.ensures ∙
    (ap (λ (z : RequestClass). not z.disabled && not z.only) (ap (λ z. z.class) c.in_ok-consumer.ensures) ∙ class_queues c.args.request.now) in
    let rest = c.in_ok-enter_line.ensures.rest in
    does_answered limits (shelf_of r.entries).faults _ t _ before before _ c.args.now ev
    (starts limits t facts.law c.args.now c.args.c c.args.request.now accepted) refl refl (sym (append-nil before))
    (stands_started r _ t facts.law c.args.now c.args.c c.args.request.now c.args.request.now c.in_ok-consumer.consumer rows c.requires.ascending refl
    refl rest.exchanges rest.entries
    (rw rest.consumers (inserted r.consumers c.insert.new.self c.args.c _ c.in_ok-insert.field-0 c.in_ok-insert.ensures.updates c.in_ok-insert.ensures.old
    c.in_ok-insert.ensures.len))
    c.in_ok-consumer.ensures
    (subst (λ (b : Bool). IsEntered b c.args.c c.args.request.now.key r.keys c.enter_line.new.rows.keys) queues c.in_ok-enter_line.ensures.line))
