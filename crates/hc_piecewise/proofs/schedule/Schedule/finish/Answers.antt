use Rattle.std.proofs.{Common.{refl, sym, ◌∙◌, ap}, Math.Logic.{∥∥₁_map}}
use Rattle.hc_piecewise.proofs.Pieces.{no_refusal, some_not_none, may_read, may_lines, no_want, stays_at_end}
use Rattle.hc_piecewise.proofs.schedule.Schedule.finish.Goals as goal

pub finish-requires : goal.finish-requires
finish-requires c =
    let may = c.requires.may in
    may_lines may.0 may.1 may.2 c.args.self.now may.3 (no_refusal c.args.self.now.stopped (sym c.is_some.ensures ∙ c.if-is_some.false))

pub unreachable-requires : goal.unreachable-requires
unreachable-requires c =
    let may = c.requires.may in
    no_want c.args.self.now.feed
    (may_read may.0 may.1 may.2 c.args.self.now may.3 (no_refusal c.args.self.now.stopped (sym c.is_some.ensures ∙ c.if-is_some.false)))
    (sym c.finish.ensures.value ∙ (c.in-Err-NoMemory.is ∙ ap Rattle.std.proofs.Common.Err c.in-Err-NoMemory.field-0-is))

pub returns-in-Ok-clause-may : goal.returns-in-Ok-clause-may
returns-in-Ok-clause-may c = λ last steps received may.
    let none = no_refusal c.args.self.now.stopped (sym c.is_some.ensures ∙ c.if-is_some.false) in
    let reading = may_read last steps received c.args.self.now may none in
    let same = c.finish.ensures.stands ∙ stays_at_end c.args.self.now.feed reading (sym c.finish.ensures.value ∙ c.in-Ok.is) in
    rw same may

pub returns-in-Err-Refused-clause-may : goal.returns-in-Err-Refused-clause-may
returns-in-Err-Refused-clause-may c = λ last steps received may.
    ∥∥₁_map may (λ k. ((λ free. absurd (some_not_none _ c.in-Err-Refused.refused refl free)), k.1))

pub returns-in-Ok-clause-refusal : goal.returns-in-Ok-clause-refusal
returns-in-Ok-clause-refusal c = no_refusal c.args.self.now.stopped (sym c.is_some.ensures ∙ c.if-is_some.false)
