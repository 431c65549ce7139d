use Rattle.hc_proxy.specs.Underway.{one}
use Rattle.hc_proxy.proofs.Dialings.{text_is, becomes_new}
use Rattle.hc_proxy.proofs.carry.open.Goals as goal
use Rattle.hc_record.proofs.JoiningLemmas.{on_err}

pub returns-in_err-open-clause-err : goal.returns-in_err-open-clause-err
returns-in_err-open-clause-err g c =
    on_err _ _ (one c.in_ok-k.k (record { new = c.in_ok-k.ensures.fresh; reported_is = c.in_ok-k.ensures.ok; stands = c.in_ok-k.ensures.stages }))

pub returns-clause-ok : goal.returns-clause-ok
returns-clause-ok g c = record {
  k = c.in_ok-k.k;
  dials = record { new = c.in_ok-k.ensures.fresh; reported_is = c.in_ok-k.ensures.ok; stands = c.in_ok-k.ensures.stages };
  becomes = becomes_new c.args.x c.in_ok-k.k _ _ c.args.request.now c.args.upstreams.now c.open.new.self c.is_head.ensures
      (text_is c.args.request.now c.new-text.result.items _ c.requires.target c.new-text.ensures.items c.in_ok-write_request.ensures.ok)
      c.in_ok-open.ensures.ok;
  news = c.in_ok-open.ensures.news;
  touched = c.in_ok-open.ensures.touched;
}
