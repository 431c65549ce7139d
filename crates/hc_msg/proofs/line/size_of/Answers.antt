use Rattle.hc_msg.proofs.Lines.{not_whole, not_small}
use Rattle.hc_msg.proofs.line.size_of.Goals as goal

pub returns-then-len-line : goal.returns-then-len-line
returns-then-len-line c =
    let at = rw c.in-Ok-Complete.field-0-is at c.in-Ok-Complete.ensures.complete in
    not_whole c.args.line.now _ _ at.0 at.1 c.if-len-line.true

pub returns-then-size-ge-LIMIT : goal.returns-then-size-ge-LIMIT
returns-then-size-ge-LIMIT c =
    let at = rw c.in-Ok-Complete.field-0-is at c.in-Ok-Complete.ensures.complete in
    not_small c.args.line.now _ _ at.0 at.1 c.if-size-ge-LIMIT.true
