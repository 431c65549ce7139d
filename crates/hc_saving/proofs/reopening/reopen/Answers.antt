use Rattle.std.proofs.Common.{ap, refl, arith}
use Rattle.hc_contents.specs.PlainContents.{plain_contents}
use Rattle.hc_io.specs.Memory.{PlainState}
use Rattle.hc_saving.specs.Opens as opens
use Rattle.hc_saving.specs.Saves.{saved_of}
use Rattle.hc_saving.proofs.{Opened.{always_taken, begun_moment, reopened_ends, reopened_completes, unbegun_ends, unbegun_completes, unopened_ends, unopened_completes}, Saved.{never_risen}}
use Rattle.hc_saving.proofs.reopening.reopen.Goals as goal

pub returns-in-Err-SourceFailed-clause-ends : goal.returns-in-Err-SourceFailed-clause-ends
returns-in-Err-SourceFailed-clause-ends g c = opens.unreadable c.read_all.ensures.front.front c.read_all.ensures.front.gives refl

pub returns-in-Err-NoMemory-clause-ends : goal.returns-in-Err-NoMemory-clause-ends
returns-in-Err-NoMemory-clause-ends g c = opens.wanting c.read_all.ensures.front.front c.read_all.ensures.front.gives refl

pub returns-in-Err-clause-ends : goal.returns-in-Err-clause-ends
returns-in-Err-clause-ends g c = unopened_ends c.args.limits _ _ _ c.in-Ok.text.items c.in-Err.ended c.in-Ok.ensures.ok c.in-Err.ensures.none

pub returns-in-Err-clause-complete : goal.returns-in-Err-clause-complete
returns-in-Err-clause-complete g c = unopened_completes c.args.limits _ _ c.in-Ok.text.items c.in-Err.ended c.in-Ok.ensures.ok c.in-Err.ensures.none

pub returns-in-Err-clause-begins : goal.returns-in-Err-clause-begins
returns-in-Err-clause-begins g c = λ contents image schedule is may here.
    always_taken c.args.limits _ c.in-Err.ended (returns-in-Err-clause-complete g c) contents image schedule is may here

pub returns-in-Err-clause-saved : goal.returns-in-Err-clause-saved
returns-in-Err-clause-saved g c = λ h image schedule is here.
    always_taken c.args.limits _ c.in-Err.ended (returns-in-Err-clause-complete g c) (saved_of is.left) image schedule is.spells is.begins here

pub returns-in-Err-begin-clause-ends : goal.returns-in-Err-begin-clause-ends
returns-in-Err-begin-clause-ends g c =
    rw c.from.ensures (unbegun_ends c.args.limits _ _ _ c.in-Ok.text.items c.in-Ok-parts_of.parts.schedule.items
    (plain_contents c.in-Ok-parts_of.parts.contents) c.in-Err-begin.e c.in-Ok.ensures.ok c.in-Ok-parts_of.ensures.found c.in-Err-begin.ensures.none)

pub returns-in-Err-begin-clause-complete : goal.returns-in-Err-begin-clause-complete
returns-in-Err-begin-clause-complete g c =
    rw c.from.ensures (unbegun_completes c.args.limits _ _ c.in-Ok.text.items c.in-Ok-parts_of.parts.schedule.items
    (plain_contents c.in-Ok-parts_of.parts.contents) c.in-Err-begin.e c.in-Ok.ensures.ok c.in-Ok-parts_of.ensures.found c.in-Err-begin.ensures.none)

pub returns-in-Err-begin-clause-begins : goal.returns-in-Err-begin-clause-begins
returns-in-Err-begin-clause-begins g c = λ contents image schedule is may here.
    always_taken c.args.limits _ c.from.result (returns-in-Err-begin-clause-complete g c) contents image schedule is may here

pub returns-in-Err-begin-clause-saved : goal.returns-in-Err-begin-clause-saved
returns-in-Err-begin-clause-saved g c = λ h image schedule is here.
    always_taken c.args.limits _ c.from.result (returns-in-Err-begin-clause-complete g c) (saved_of is.left) image schedule is.spells is.begins here

pub replay-requires-clause-later : goal.replay-requires-clause-later
replay-requires-clause-later g c =
    let at = begun_moment c.in-Ok-begin.cache (plain_contents c.in-Ok-parts_of.parts.contents) c.in-Ok-begin.ensures.begun.stands in
    omega (arith, at)

pub returns-clause-ends : goal.returns-clause-ends
returns-clause-ends g c =
    reopened_ends c.args.limits _ _ _ _ _ c.in-Ok.text.items c.in-Ok-parts_of.parts.schedule.items c.new-schedule.result.left
    (plain_contents c.in-Ok-parts_of.parts.contents) c.in-Ok-begin.cache c.replay.new.cache c.replay.result
    c.in-Ok.ensures.ok c.in-Ok-parts_of.ensures.found (ap (λ (s : PlainState). s.left) c.new-schedule.ensures) c.in-Ok-begin.ensures.begun (λ v. refl)
    (λ failed. never_risen (c.replay.ensures.source failed)) c.replay.ensures.ends

pub returns-clause-complete : goal.returns-clause-complete
returns-clause-complete g c =
    reopened_completes c.args.limits _ _ c.in-Ok.text.items c.in-Ok-parts_of.parts.schedule.items c.new-schedule.result.left
    (plain_contents c.in-Ok-parts_of.parts.contents) c.replay.result
    c.in-Ok.ensures.ok c.in-Ok-parts_of.ensures.found (ap (λ (s : PlainState). s.left) c.new-schedule.ensures) c.replay.ensures.complete
