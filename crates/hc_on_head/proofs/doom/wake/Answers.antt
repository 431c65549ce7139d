use Rattle.std.proofs.Common.{◌+◌, sym, ◌∙◌, subst}
use Rattle.hc_text.proofs.Basics.{none_or as none_is}
use Rattle.hc_on_head.proofs.{WakeLoop.{WokenSoFar, begins, no_seat, user, one_back, all_over, entries_then, all_lined}, doom.wake.Goals.{in-Some, in_default}}
use Rattle.hc_on_head.proofs.doom.wake.Goals as goal

pub loop-i-init : goal.loop-i-init
loop-i-init g c = begins c.args.rows.now c.args.now c.args.key.now

pub wake_one-requires : goal.wake_one-requires
wake_one-requires g c =
    user c.args.rows.now c.loop-i.rows c.loop-i.i c.args.now c.args.key.now c.loop-i.invariant c.in-Some.c (sym c.in-Some.ensures.there)
    c.in-Some.ensures.inside c.in-Some.ensures.once c.requires.waits

pub loop-i-preserved : goal.loop-i-preserved
loop-i-preserved g c =
    let r = c.args.rows.now in
    let mid = c.loop-i.rows in
    let i = c.loop-i.i in
    let now = c.args.now in
    let key = c.args.key.now in
    elim c.match-seated.branch [
      | in-Some w ↦
          let step = w.wake_one.ensures in
          subst (λ z. WokenSoFar r z (i + 1) now key) (sym w.rows-is)
          (one_back r mid i now key c.loop-i.invariant w.in-Some.c (sym w.in-Some.ensures.there) w.in-Some.ensures.inside w.in-Some.ensures.once
          w.wake_one.new.rows step.over step.unbound step.rest.faults step.keys step.rest.last_start step.rest.exchanges)
      | in_default w ↦ subst (λ z. WokenSoFar r z (i + 1) now key) (sym w.rows-is)
          (no_seat r mid i now key c.loop-i.invariant (sym c.seated.ensures.there ∙ none_is c.seated.result w.in_default.not-Some))
    ]

pub returns-clause-consumers : goal.returns-clause-consumers
returns-clause-consumers g c =
    all_over c.args.rows.now c.loop-i.rows c.loop-i.i c.args.now c.args.key.now c.loop-i.invariant c.seats-i-end.result c.seats-i-end.ensures
    c.loop-i-test.false

pub returns-clause-keys : goal.returns-clause-keys
returns-clause-keys g c =
    all_lined c.args.rows.now c.loop-i.rows c.loop-i.i c.args.now c.args.key.now c.loop-i.invariant c.seats-i-end.result c.seats-i-end.ensures
    c.loop-i-test.false c.all_back.new.self c.all_back.ensures

pub returns-clause-entries : goal.returns-clause-entries
returns-clause-entries g c = entries_then
    c.args.rows.now c.loop-i.rows c.loop-i.i c.args.now c.args.key.now c.loop-i.invariant c.seats-i-end.result c.seats-i-end.ensures c.loop-i-test.false
