use Rattle.std.proofs.Common.{◌<◌, ◌≤◌, ◌++◌, length, arith, length-append}
use Rattle.hc_sched.proofs.FeedLemmas.{line_grows, line_too_long, ReadsOn-from}
use Rattle.hc_sched.proofs.reader.Reader.grow_line.Goals as goal

pub returns-then-rest-len-clause-feeds : goal.returns-then-rest-len-clause-feeds
returns-then-rest-len-clause-feeds c =
    let line = c.args.self.now.line.items in
    let rest = c.args.rest.now in
    let long : 140000 < length (line ++ rest) = omega (arith, length-append line rest) in
    let leads = line_too_long c.args.self.now.place line rest c.requires.unfinished c.requires.within.line long in
    rw c.refusal.ensures (ReadsOn-from _ _ rest leads)

pub returns-clause-feeds : goal.returns-clause-feeds
returns-clause-feeds c =
    let line = c.args.self.now.line.items in
    let rest = c.args.rest.now in
    let short : length (line ++ rest) ≤ 140000 = omega (arith, length-append line rest) in
    let leads = line_grows c.args.self.now.place line rest c.requires.unfinished short in
    rw c.in_ok-grow.ensures.ok (ReadsOn-from _ _ rest leads)
