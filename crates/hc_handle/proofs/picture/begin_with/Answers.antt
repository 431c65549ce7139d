use Rattle.hc_handle.proofs.picture.begin_with.Goals as goal

pub returns-in-Ok-clause-begun : goal.returns-in-Ok-clause-begun
returns-in-Ok-clause-begun c = record {
  stands = c.in-Ok.ensures.stands;
  serves = c.in-Ok.ensures.serves;
  limited = c.in-Ok.ensures.limits;
  ready = c.in-Ok.ensures.ready;
  unused = c.in-Ok.ensures.unused;
}
