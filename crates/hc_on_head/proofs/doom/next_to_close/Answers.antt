use Rattle.hc_state.specs.Dooms.{behind}
use Rattle.hc_on_head.proofs.DoomLoops.{none_seen, more_seen, all_seen}
use Rattle.hc_on_head.proofs.doom.next_to_close.Goals as goal

pub loop-i-init : goal.loop-i-init
loop-i-init g c = rw c.nearer-next.ensures (none_seen c.args.rows.now c.args.key.now c.args.refused (behind c.args.last))

pub loop-i-preserved : goal.loop-i-preserved
loop-i-preserved g c =
    rw c.nearer-next-in-loop-i.ensures
    (more_seen c.args.rows.now c.args.key.now c.args.refused (behind c.args.last) c.loop-i.i c.loop-i.next c.awaited_at.result c.loop-i.invariant
    c.awaited_at.ensures.there
    (λ x is. rw is at c.awaited_at.ensures.inside))

pub returns : goal.returns
returns g c = all_seen c.args.rows.now c.args.key.now c.args.refused (behind c.args.last) c.seats-i-end.result c.loop-i.i c.loop-i.next
    c.seats-i-end.ensures c.loop-i-test.false c.loop-i.invariant
