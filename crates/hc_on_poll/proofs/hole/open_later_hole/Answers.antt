use Rattle.std.{proofs.{Common.{refl, nat_eq}, Math.Logic.{∥∥₁_map}}, specs.HashMap.{get}}
use Rattle.hc_effects.proofs.Vocabulary.{act_list}
use Rattle.hc_stored.specs.{Entries.{shelf_of}, Shelf.{head_at}}
use Rattle.hc_state.specs.Reads.{IsInLength, IsShownAt}
use Rattle.hc_on_poll.proofs.{BoundMisread.{misread_answered}, PlanHandlers.{fault_only}, Polled.{limits_there}}
use Rattle.hc_state.proofs.{Maps.{some_that}, ReaderSteps.{some_read}, Words.{there, on_ok_two}}
use Rattle.hc_on_poll.proofs.hole.open_later_hole.Goals as goal

pub fill_later_hole-requires-clause-within_limits : goal.fill_later_hole-requires-clause-within_limits
fill_later_hole-requires-clause-within_limits g c = limits_there c.args.rows.now c.requires.opens.stands c.args.c (IsShownAt c.args.r) c.requires.shown

pub misread_by-requires-clause-stands : goal.misread_by-requires-clause-stands
misread_by-requires-clause-stands g c = ∥∥₁_map c.requires.opens.stands (λ s. some_read c.args.rows.now _ refl refl refl refl c.head.ensures.same s)

pub returns-in-Err-clause-answers : goal.returns-in-Err-clause-answers
returns-in-Err-clause-answers g c =
    let r = c.args.rows.now in
    let (k, at, reads) = there (get nat_eq r.consumers c.args.c) (IsShownAt c.args.r) c.requires.shown in
    let (head, head_is, within) = there (head_at (shelf_of r.entries) c.args.r) (IsInLength c.args.hole) c.requires.hole in
    on_ok_two c.misread_by.result c.misread_by.ensures.failed c.misread_by.ensures.answers (λ other answers.
    some_that (get nat_eq r.consumers c.args.c) k _ at (some_that (head_at (shelf_of r.entries) c.args.r) head _ head_is (λ want limits t v facts stands row is.
    misread_answered r c.head.new.self c.head.ensures.same
    (c.head.ensures.cause.fault (fault_only c.head.result c.in-Err.error c.in-Err.is c.head.ensures.no_limit other)) c.misread_by.new.rows
    (act_list c.args.out.now) (act_list c.misread_by.new.out) c.args.now c.args.c c.args.r k at reads.0.2 (reads.0.0, reads.0.1, reads.0.3) answers want _
    t facts stands)))
