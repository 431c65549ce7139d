use Rattle.std.proofs.Common.{◌≤◌, arith}
use Rattle.hc_app.proofs.{Fetched.{same_plain}, fetching.number_up_to.Goals.{else-n-ge1-via-then-n-ge1+else-n-most, else-n-ge1-via-else-n-ge1}}
use Rattle.hc_app.proofs.fetching.number_up_to.Goals as goal

pub returns-else-n-ge1-clause-none : goal.returns-else-n-ge1-clause-none
returns-else-n-ge1-clause-none c = λ m plain some few.
    let same = same_plain _ m c.in_ok-n.n plain (rw c.as_bytes.ensures.value at c.in_ok-n.ensures.found) in
    elim c.else-n-ge1.branch [
      | else-n-ge1-via-then-n-ge1+else-n-most w ↦ let over = w.if-n-most.false in omega (arith, same, few, over)
      | else-n-ge1-via-else-n-ge1 w ↦ let under = w.if-n-ge1.false in omega (arith, same, some, under)
    ]
