use Rattle.std.proofs.Common.{arith}
use Rattle.hc_exch.proofs.TidyLemmas.{agrees-refused, agrees-launched, tidy-launched, tidy-same}
use Rattle.hc_exch.proofs.exchanges.Exchanges.launch.Goals as goal

pub invariant_of-self-in-Err : goal.invariant_of-self-in-Err
invariant_of-self-in-Err c =
    let e = c.args.self.now in
    record {
      agree = rw (c.leave.ensures, c.in_ok-launch.ensures.ok)
          (agrees-refused e.next e.wishes e.rows c.begin_in.new.rows e.agree (e.tidy.new e.next (omega arith)) c.in-Err.ensures.err);
      tidy = tidy-same e.next e.rows c.begin_in.new.rows c.in-Err.ensures.err e.tidy;
    }

pub invariant_of-self-2 : goal.invariant_of-self-2
invariant_of-self-2 c =
    let e = c.args.self.now in
    let a = c.args in
    let change = rw c.in_ok-begun.ensures at c.in_default.ensures.ok in
    record {
      agree = rw c.in_ok-launch.ensures.ok
          (agrees-launched a.c a.role a.need a.request.now a.now e.next e.wishes e.rows c.begin_in.new.rows e.agree (e.tidy.new e.next (omega arith)) change);
      tidy = tidy-launched a.c a.role a.need a.request.now a.now e.next e.rows c.begin_in.new.rows e.tidy change c.in_default.ensures.others;
    }
