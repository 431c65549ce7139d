use Rattle.hc_record.proofs.Once.{no_line_end}
use Rattle.hc_record.proofs.parts.take_seal.Goals as goal

pub returns-in_err-take_bytes-2 : goal.returns-in_err-take_bytes-2
returns-in_err-take_bytes-2 c = rw c.from_residual-in_err-take_bytes-2.ensures (λ seal after small.
    no_line_end c.in_ok-kind.kind seal.kind c.in_ok-total.total seal.total c.args.text.now c.take_kind.new.self c.take_bytes.new.self
    c.take_total.new.self after c.in_ok-kind.ensures.1 c.in_ok-take_bytes.ensures.taken c.in_ok-total.ensures.0 c.in_ok-total.ensures.1
    c.in_err-take_bytes-2.ensures.taken small)
