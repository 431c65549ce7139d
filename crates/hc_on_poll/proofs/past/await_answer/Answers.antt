use Rattle.std.{proofs.Common.{◌≡◌, None, Some, refl, sym, ◌∙◌, nat_eq}, specs.HashMap.{get}}
use Rattle.hc_effects.proofs.Vocabulary.{act_list}
use Rattle.hc_state.specs.Handlers.{IsUnshown}
use Rattle.hc_state.proofs.Maps.{lent, known_of}
use Rattle.hc_on_poll.proofs.ReadPast.{waits_answered, shows_answered}
use Rattle.hc_on_poll.proofs.past.await_answer.Goals as goal

pub returns-in_default-clause-answers : goal.returns-in_default-clause-answers
returns-in_default-clause-answers g c = λ now want limits t facts rows accepted.
    let r = c.args.rows.now in
    let k = c.unwrap-consumer.result.now in
    let at = lent c.get.result (get nat_eq r.consumers c.args.c) c.unwrap-consumer.result c.get.ensures.value c.unwrap-consumer.ensures in
    let unshown = known_of (get nat_eq r.consumers c.args.c) k (IsUnshown c.args.x) at c.requires.unshown in
    let none : k.answer ≡ None = rw at at (sym c.show_answer.ensures.head ∙ c.in_default.is) in
    waits_answered r _ t facts now want c.args.c c.args.x k (act_list c.args.out.now) (act_list c.wait.new.out) rows at unshown refl refl refl refl
    c.show_answer.ensures.shown none c.wait.ensures.acts

pub returns-clause-answers : goal.returns-clause-answers
returns-clause-answers g c = λ now want limits t facts rows accepted.
    let r = c.args.rows.now in
    let k = c.unwrap-consumer.result.now in
    let at = lent c.get.result (get nat_eq r.consumers c.args.c) c.unwrap-consumer.result c.get.ensures.value c.unwrap-consumer.ensures in
    let unshown = known_of (get nat_eq r.consumers c.args.c) k (IsUnshown c.args.x) at c.requires.unshown in
    let some : k.answer ≡ Some c.in-Some.head = rw at at (sym c.show_answer.ensures.head ∙ c.in-Some.is) in
    shows_answered r _ t facts now want c.args.c c.args.x k (act_list c.args.out.now) (act_list c.put_shown.new.out) rows at unshown refl refl refl refl
    c.show_answer.ensures.shown c.in-Some.head some c.put_shown.ensures
