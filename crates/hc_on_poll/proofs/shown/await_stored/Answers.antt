use Rattle.std.{proofs.{Common.{refl, ap, sym, ◌∙◌, nat_eq}, Math.Logic.{∥∥₁_map}}, specs.{Prelude.{is_some}, HashMap.{get}}}
use Rattle.hc_effects.proofs.Vocabulary.{act_list}
use Rattle.hc_stored.specs.{Entries.{shelf_of}, Shelf.{is_kept}}
use Rattle.hc_state.specs.Reads.{IsUnshownBy}
use Rattle.hc_state.proofs.{Maps.{merely_true}, ReaderSteps.{some_read}, Words.{there, on_ok_two, ok_then}}
use Rattle.hc_on_poll.proofs.{BoundMisread.{misread_answered}, PlanHandlers.{fault_only, read_answers}, ShowStored.{bound_row_of, bound_kept, first_waits_answered}}
use Rattle.hc_on_poll.proofs.shown.await_stored.Goals as goal

pub returns-then-is_headless-clause-answers : goal.returns-then-is_headless-clause-answers
returns-then-is_headless-clause-answers g c = λ want limits t facts rows accepted.
    let r = c.args.rows.now in
    let (k, at, unshown) = there (get nat_eq r.consumers c.args.c) (IsUnshownBy c.args.r c.args.by) c.requires.unshown in
    first_waits_answered r r t facts rows c.args.now want c.args.c c.args.r c.args.by k at unshown (act_list c.args.out.now) (act_list c.wait.new.out)
    c.in-FirstHole.x c.in-FirstHole.is (sym c.is_headless.ensures ∙ c.if-is_headless.true) c.wait.ensures.acts

pub head-requires : goal.head-requires
head-requires g c =
    let r = c.args.rows.now in
    let (k, at, unshown) = there (get nat_eq r.consumers c.args.c) (IsUnshownBy c.args.r c.args.by) c.requires.unshown in
    merely_true (is_kept (shelf_of r.entries) c.args.r) c.requires.stands (λ s.
    let t = s.t in
    let law = s.facts.law in
    bound_kept r t law c.args.c c.args.r c.args.by k s.rows (bound_row_of r t law c.args.c c.args.r unshown.0.0 unshown.0.1 c.args.by k s.rows at unshown.0.2))

pub show_stored-requires-clause-stands : goal.show_stored-requires-clause-stands
show_stored-requires-clause-stands g c = ∥∥₁_map c.requires.stands (λ s. some_read c.args.rows.now _ refl refl refl refl c.head.ensures.same s)

pub misread_by-requires-clause-stands : goal.misread_by-requires-clause-stands
misread_by-requires-clause-stands g c = ∥∥₁_map c.requires.stands (λ s. some_read c.args.rows.now _ refl refl refl refl c.head.ensures.same s)

pub misread_by-requires-clause-live : goal.misread_by-requires-clause-live
misread_by-requires-clause-live g c = let (k, at, unshown) =
    there (get nat_eq c.args.rows.now.consumers c.args.c) (IsUnshownBy c.args.r c.args.by) c.requires.unshown in ap (λ o. is_some o) at

pub returns-in-Ok-clause-answers : goal.returns-in-Ok-clause-answers
returns-in-Ok-clause-answers g c =
    ok_then c.show_stored.result c.show_stored.ensures.answers (λ all.
    read_answers c.args.rows.now c.head.new.self c.head.ensures.same c.head.ensures.cause.later c.show_stored.new.rows (act_list c.args.out.now)
    (act_list c.show_stored.new.out) c.args.now c.args.c (λ want. all c.args.now want))

pub returns-in-Err-clause-answers : goal.returns-in-Err-clause-answers
returns-in-Err-clause-answers g c =
    let r = c.args.rows.now in
    let (k, at, unshown) = there (get nat_eq r.consumers c.args.c) (IsUnshownBy c.args.r c.args.by) c.requires.unshown in
    on_ok_two c.misread_by.result c.misread_by.ensures.failed c.misread_by.ensures.answers (λ other answers.
    λ want limits t facts rows accepted. misread_answered r c.head.new.self c.head.ensures.same
    (c.head.ensures.cause.fault (fault_only c.head.result c.in-Err.error c.in-Err.is c.head.ensures.no_limit other)) c.misread_by.new.rows
    (act_list c.args.out.now) (act_list c.misread_by.new.out) c.args.now c.args.c c.args.r k at c.args.by unshown.0 answers want _ t facts rows)
