use Rattle.std.proofs.{Common.{refl}, lemmas.Option.{slice_get_read}}
use Rattle.hc_sched.specs.Report.{act_text, acts_text}
use Rattle.hc_text.proofs.Growth.{texts_grow}
use Rattle.hc_sched.proofs.report.write_entry.Goals as goal

pub loop-act-preserved : goal.loop-act-preserved
loop-act-preserved c =
    let acts = c.args.acts.now in
    let i = c.loop-act.act-index in
    texts_grow act_text acts_text refl (λ _ _. refl) acts i c.act-item.result _ _ _ (slice_get_read acts _ i _ refl c.loop-act-test.true c.act-item.is)
    c.loop-act.invariant c.in_ok-write_act.ensures.ok
