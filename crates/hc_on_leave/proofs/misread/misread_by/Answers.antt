use Rattle.std.{proofs.Common.{◌≡◌, ◌<◌, ℕ, refl, ap, sym, ◌∙◌, subst, true, rules}, specs.Prelude.{is_some}}
use Rattle.hc_effects.proofs.Vocabulary.{act_list, as_over}
use Rattle.hc_stored.specs.Entries.{shelf_of}
use Rattle.hc_exch.specs.Exchanges.{table_of}
use Rattle.hc_effects.proofs.{LettingGo.{may_let_go}, Tests.{none_some}}
use Rattle.hc_state.specs.Reads.{bound, planned}
use Rattle.hc_state.proofs.{LeftRows.{left_is, left_runs}, Maps.{merely_true}}
use Rattle.hc_on_leave.proofs.{MayGo.{may_with}, MisreadHandler.{idle_leaves, fault_answered}, MisreadBound.{misread_alone, misread_closing}}
use Rattle.hc_on_leave.proofs.misread.misread_by.Goals as goal

pub close-requires-clause-running : goal.close-requires-clause-running
close-requires-clause-running g c =
    let r = c.args.rows.now in
    let mid = c.remove_consumer-left.new.rows in
    let x = c.in-Some.x in
    let runs = merely_true (is_some (table_of mid.exchanges x).running) c.requires.stands (λ s.
    let law = s.facts.law in
    left_runs r mid s.t law c.args.c x c.remove_consumer-left.result c.requires.live c.remove_consumer-left.ensures.left c.in-Some.is s.rows
    (λ v row. c.remove_consumer-left.ensures.stands _ s.t v law row s.rows)) in
    subst (λ z. is_some (table_of z x).running ≡ true) (sym c.let_go.ensures.around.exchanges) runs

pub returns-in_default-left : goal.returns-in_default-left
returns-in_default-left g c =
    let r = c.args.rows.now in
    let removed = c.remove_consumer-left.ensures in
    let gone = c.let_go.ensures in
    record {
      failed = search rules;
      memory = search rules;
      answers = λ want faults limits t v failed facts stands row may.
          let still = subst (λ (n : ℕ). faults < n) (sym (gone.around.faults ∙ removed.faults)) failed in
          let leaves = sym (left_is r t facts.law c.args.c v row stands c.remove_consumer-left.result c.remove_consumer-left.ensures.left) ∙
          c.in_default-left.is in
          let then = gone.stands _ _ (may_with t c.args.c v (as_over v) row refl (may_let_go t facts.law)) (removed.stands _ t v facts.law row stands) in
          elim may [
            | bound at ↦ misread_alone limits t facts.law c.args.now c.args.c want c.args.r v row at c.let_go.new.rows faults (act_list c.args.out.now)
                (act_list c.put.new.out) still leaves c.put.ensures.acts then
            | planned idle now_is ↦ fault_answered limits faults c.let_go.new.rows t facts.law c.args.now c.args.c want c.args.r v row idle
                (act_list c.args.out.now) (act_list c.put.new.out) now_is still c.put.ensures.acts then
          ];
      faults = gone.around.faults ∙ removed.faults;
      kept = search rules;
    }

pub returns-in-Some-clause-answers : goal.returns-in-Some-clause-answers
returns-in-Some-clause-answers g c = λ want faults limits t v failed facts stands row may.
    let r = c.args.rows.now in
    let removed = c.remove_consumer-left.ensures in
    let gone = c.let_go.ensures in
    let shut = c.close.ensures in
    let leaves = sym (left_is r t facts.law c.args.c v row stands c.remove_consumer-left.result c.remove_consumer-left.ensures.left) ∙ c.in-Some.is in
    elim may [
      | bound at ↦ misread_closing limits t facts.law c.args.now c.args.c want c.args.r v row at c.close.new.rows faults (act_list c.args.out.now)
          (act_list c.close.new.out)
          (subst (λ (n : ℕ). faults < n) (sym (ap (λ z. (shelf_of z).faults) shut.rest.entries ∙ (gone.around.faults ∙ removed.faults))) failed)
          c.let_go.new.rows c.in-Some.x (act_list c.put.new.out) leaves c.put.ensures.acts shut.acts shut.rest shut.consumers shut.closed
          (gone.stands _ _ (may_with t c.args.c v (as_over v) row refl (may_let_go t facts.law)) (removed.stands _ t v facts.law row stands))
      | planned idle now_is ↦ none_some c.in-Some.x (sym (idle_leaves t facts.law c.args.c v row idle) ∙ leaves)
    ]
