use Rattle.std.proofs.Common.{◌≡◌, ◌∷◌, ◌++◌, [], Err, length, arith, rules, length-append, ap}
use Rattle.hc_sched.specs.{Feeding.{join_line}, Taking.{Does}}
use Rattle.hc_sched.proofs.FeedLemmas.{Still-next, Still-fails}
use Rattle.hc_sched.proofs.reader.Reader.read.Goals as goal

pub returns-in_err-end_line-clause-feeds : goal.returns-in_err-end_line-clause-feeds
returns-in_err-end_line-clause-feeds c =
    let p = c.loop-line.self.place in
    let line = c.loop-line.self.line.items in
    let e = c.in_err-end_line.field-0.0 in
    let same : c.from_residual.result ≡ Err e = search rules in
    let found = c.in-Some.ensures.found in
    Still-fails _ c.args.piece.now _ p c.end_line.new.self.place line c.in-Some.line.now c.in-Some.behind.now c.loop-line.rest.now c.loop-line.out.items
    c.end_line.new.out.items e c.end_line.result c.from_residual.result _ c.loop-line.invariant.still found.0 c.loop-line.invariant.within.line found.1
    c.end_line.ensures.takes c.in_err-end_line.was same

pub loop-line-preserved : goal.loop-line-preserved
loop-line-preserved c =
    let p = c.loop-line.self.place in
    let line = c.loop-line.self.line.items in
    let seg = c.in-Some.line.now in
    let rest = c.in-Some.behind.now in
    let text = c.loop-line.rest in
    let found = c.in-Some.ensures.found in
    let does : Does (join_line p (line ++ seg)) c.end_line.new.self.place c.loop-line.out.items c.end_line.new.out.items = c.in_ok-end_line.ensures.takes in
    let empty : c.end_line.new.self.line.items ≡ [] = c.in_ok-end_line.ensures.line in
    let more = c.in_ok-end_line.ensures.count in
    record {
      still = rw empty (Still-next _ c.args.piece.now _ p c.end_line.new.self.place line seg rest text.now c.loop-line.out.items c.end_line.new.out.items
          c.loop-line.invariant.still found.0 c.loop-line.invariant.within.line found.1 does);
      within = c.end_line.ensures.within;
      few = omega (arith, c.loop-line.invariant.few, more, length-append seg (10 ∷ rest), ap length found.1);
    }
