use Rattle.std.proofs.Common.{◌≡◌, ◌∙◌, vec_len, length, arith}
use Rattle.hc_exch.proofs.PieceLemmas.{taken_is, rest_is}
use Rattle.hc_exch.proofs.held.take_prefix.Goals as goal

pub returns-clause-ok : goal.returns-clause-ok
returns-clause-ok c =
    let i = c.loop-bytes.invariant in
    let few = i.few in
    let enough = c.loop-bytes-test.false in
    let full : vec_len c.loop-bytes.bytes ≡ c.args.count = omega arith in
    let size : length c.loop-bytes.bytes.items ≡ c.args.count = let ok = c.loop-bytes.bytes.ok in omega arith in
    record {
      bytes = c.of.ensures ∙ taken_is c.loop-bytes.bytes.items _ _ _ i.all size;
      rest = rest_is c.loop-bytes.bytes.items _ _ _ i.all size;
      front = i.front;
    }
