use Rattle.std.proofs.{Common.{rules}, lemmas.Fn.{filter_same}}
use Rattle.hc_wire.proofs.StallLemmas.{is_other, unstalled}
use Rattle.hc_wire.proofs.script.end_stall.Goals as goal

pub returns-in-Room : goal.returns-in-Room
returns-in-Room c = λ j len.
    let kept = filter_same _ (is_other c.in-Room.k) _ (λ x b f' k. search rules) _ _ c.retain.ensures.filtered in
    rw (kept, c.in-Room.is) (unstalled c.in-Room.k c.args.stalls.now.items j len)
