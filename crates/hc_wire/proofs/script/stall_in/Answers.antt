use Rattle.std.proofs.{Common.{rules}, lemmas.Fn.{filter_same}}
use Rattle.hc_wire.proofs.StallLemmas.{is_other, stalled_anew}
use Rattle.hc_wire.proofs.script.stall_in.Goals as goal

pub returns : goal.returns
returns c = λ j len.
    let kept = filter_same _ (is_other c.args.new.k) _ (λ x b f' k. search rules) _ _ c.retain.ensures.filtered in
    rw (c.push_reserved.ensures.items, kept) (stalled_anew c.args.new c.args.stalls.now.items j len)
