use Rattle.std.proofs.Common.{◌≡◌, ◌≤◌, arith}
use Rattle.hc_range.proofs.ReadLemmas.{positions_at, number_unique}
use Rattle.hc_range.proofs.read.read_positions.Goals as goal

pub returns-in_err-first-2-clause-spelled : goal.returns-in_err-first-2-clause-spelled
returns-in_err-first-2-clause-spelled c = λ first last h.
    let at = positions_at c.args.text.now c.in_ok-first.first.now c.in_ok-first.last.now c.in_ok-first.ensures.found c.in_ok-first.ensures.first first last h in
    absurd (c.in_err-first-2.ensures.none first at.0)

pub returns-in_err-last-clause-spelled : goal.returns-in_err-last-clause-spelled
returns-in_err-last-clause-spelled c = λ first last h.
    let at = positions_at c.args.text.now c.in_ok-first.first.now c.in_ok-first.last.now c.in_ok-first.ensures.found c.in_ok-first.ensures.first first last h in
    absurd (c.in_err-last.ensures.none last at.1)

pub returns-then-first-last-clause-spelled : goal.returns-then-first-last-clause-spelled
returns-then-first-last-clause-spelled c = λ first last h.
    let at = positions_at c.args.text.now c.in_ok-first.first.now c.in_ok-first.last.now c.in_ok-first.ensures.found c.in_ok-first.ensures.first first last h in
    let one : c.in_ok-first-2.first ≡ first = number_unique c.in_ok-first.first.now c.in_ok-first-2.first first c.in_ok-first-2.ensures.found at.0 in
    let other : c.in_ok-last.last ≡ last = number_unique c.in_ok-first.last.now c.in_ok-last.last last c.in_ok-last.ensures.found at.1 in
    let up : first ≤ last = at.2 in
    absurd (omega arith)

pub returns-clause-spelled : goal.returns-clause-spelled
returns-clause-spelled c = λ first last h.
    let at = positions_at c.args.text.now c.in_ok-first.first.now c.in_ok-first.last.now c.in_ok-first.ensures.found c.in_ok-first.ensures.first first last h in
    let one : c.in_ok-first-2.first ≡ first = number_unique c.in_ok-first.first.now c.in_ok-first-2.first first c.in_ok-first-2.ensures.found at.0 in
    let other : c.in_ok-last.last ≡ last = number_unique c.in_ok-first.last.now c.in_ok-last.last last c.in_ok-last.ensures.found at.1 in
    cc
