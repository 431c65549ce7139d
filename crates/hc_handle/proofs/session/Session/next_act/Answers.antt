use Rattle.std.proofs.Common.{refl}
use Rattle.hc_handle.proofs.Reported.{got}
use Rattle.hc_handle.proofs.session.Session.next_act.Goals as goal

pub returns : goal.returns
returns c =
    let there = c.in_ok-act.ensures.lookup in (
      c.in_ok-act.act.now,
      rw c.list.ensures at (got c.list.result.now c.args.self.now.reported c.in_ok-act.act.now there.3.0 there.1),
      c.numbers_of-numbers.ensures.value,
      refl,
      refl,
      refl,
      refl,
      refl,
    )
