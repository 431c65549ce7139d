use Rattle.hc_exch.proofs.TidyLemmas.{agrees-rows, tidy-same}
use Rattle.hc_exch.proofs.exchanges.Exchanges.take_held.Goals as goal

pub invariant_of-self : goal.invariant_of-self
invariant_of-self c =
    let e = c.args.self.now in
    record {
      agree = agrees-rows e.wishes e.rows c.take_in.new.rows c.in_err-bytes.ensures.err e.agree;
      tidy = tidy-same e.next e.rows c.take_in.new.rows c.in_err-bytes.ensures.err e.tidy;
    }
