use Rattle.std.{proofs.Common.{◌≡◌, length, ap, arith, rules}, specs.Prelude.{map}}
use Rattle.hc_text.proofs.Basics.{same_consumer as same_some}
use Rattle.hc_head.specs.{Rules.{lowercase_field, fields_of}, Held.{fields_in}}
use Rattle.hc_head.proofs.{HeadFacts.{good_at, same_count, small_headers}, Replies.{short_reply, full_reply, no_reply, over_reply, whole_reply}}
use Rattle.hc_head.proofs.response.reply_of.Goals as goal

pub returns-then-len-text : goal.returns-then-len-text
returns-then-len-text c =
    let at = rw c.in-Ok-Complete.field-0-is at c.in-Ok-Complete.ensures.complete in
    short_reply c.args.no_body c.args.text.now _ at.0 at.1.reads c.if-len-text.true

pub returns-then-head-gt-MOST_FIELDS : goal.returns-then-head-gt-MOST_FIELDS
returns-then-head-gt-MOST_FIELDS c =
    let at = rw c.in-Ok-Complete.field-0-is at c.in-Ok-Complete.ensures.complete in
    let count = same_count _ at.0.fields at.1.fields in
    full_reply c.args.no_body c.args.text.now _ at.0 at.1.reads (omega (arith, count))

pub heard_of-requires-clause-good : goal.heard_of-requires-clause-good
heard_of-requires-clause-good c =
    let at = rw c.in-Ok-Complete.field-0-is at c.in-Ok-Complete.ensures.complete in
    good_at _ at.0.fields at.1.fields at.1.reads.0.fields

pub heard_of-requires-clause-small : goal.heard_of-requires-clause-small
heard_of-requires-clause-small c =
    let at = rw c.in-Ok-Complete.field-0-is at c.in-Ok-Complete.ensures.complete in
    small_headers _ at.0 c.args.text.now _ at.1.fields at.1.reads (search rules)

pub returns-else-head-gt-MOST_FIELDS : goal.returns-else-head-gt-MOST_FIELDS
returns-else-head-gt-MOST_FIELDS c =
    let at = rw c.in-Ok-Complete.field-0-is at c.in-Ok-Complete.ensures.complete in
    let count = same_count _ at.0.fields at.1.fields in
    let same : fields_in c.parse.new.self.headers.now ≡ fields_of at.0.fields = ap (map lowercase_field) at.1.fields in
    whole_reply c.args.no_body c.args.text.now _ c.unwrap-status.result _ at.0 c.heard_of.result at.1.reads c.if-len-text.false (omega (arith, count))
    (same_some _ _ _ c.unwrap-status.ensures at.1.code) same c.heard_of.ensures

pub returns-in-Ok-Partial : goal.returns-in-Ok-Partial
returns-in-Ok-Partial c = no_reply c.args.no_body c.args.text.now (rw c.in-Ok-Partial.field-0-is at c.in-Ok-Partial.ensures.partial)

pub returns-in-Err : goal.returns-in-Err
returns-in-Err c =
    let e : length c.new-head.result.headers.now ≡ 64 = search rules in
    over_reply c.args.no_body c.args.text.now (rw e at c.in-Err.ensures.no_room)
