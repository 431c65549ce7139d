use Rattle.std.proofs.{Common.{◌≡◌, ◌+◌, ◌-◌, take, drop, length, length-drop, arith, rules}, lemmas.List.{take_all}}
use Rattle.hc_head.proofs.ScanLemmas.{Passed-line, Passed-ends, Passed-rest}
use Rattle.hc_head.proofs.scan.seek.Goals as goal

pub returns-then-not-is_open : goal.returns-then-not-is_open
returns-then-not-is_open c =
    Passed-ends _ _ _ _ _ _ _ c.byte-scan.result c.loop-at.invariant c.in-Some.ensures c.line.ensures.value c.line.ensures.open c.byte-scan.ensures
    (search rules)

pub loop-at-preserved : goal.loop-at-preserved
loop-at-preserved c =
    let text = c.loop-at.rest.now in
    let at = c.in-Some.at in
    let all : take (length text - (at + 1)) (drop (at + 1) text) ≡ drop (at + 1) text =
    take_all (length text - (at + 1)) (drop (at + 1) text) (omega (arith, length-drop (at + 1) text)) in
    rw all (Passed-line _ _ _ _ _ _ _ c.byte-scan.result c.loop-at.invariant c.in-Some.ensures c.line.ensures.value c.byte-scan.ensures (search rules))

pub returns : goal.returns
returns c = Passed-rest c.args.scan c.args.bytes.now c.loop-at.used c.loop-at.scan c.loop-at.rest.now c.line-2.result c.loop-at.invariant
    c.line-2.ensures.value c.line-2.ensures.open
