use Rattle.std.{proofs.Common.{◌≡◌, length, ap, ◌∙◌, arith, rules}, specs.{Prelude.{map}, Option.{option_copied}}}
use Rattle.hc_text.proofs.Basics.{same_some as same_value}
use Rattle.hc_head.specs.{Rules.{lowercase_field, fields_of}, Held.{fields_in}}
use Rattle.hc_head.proofs.{HeadFacts.{good_at, same_count, small_asked}, Calls.{short_call, full_call, no_call, never_call, whole_call}}
use Rattle.hc_head.proofs.request.call_in.Goals as goal

pub returns-then-len-text-clause-call : goal.returns-then-len-text-clause-call
returns-then-len-text-clause-call c =
    let at = rw c.in-Ok-Complete.field-0-is at c.in-Ok-Complete.ensures.complete in
    short_call c.args.text.now _ at.0 at.1.reads c.if-len-text.true

pub returns-then-head-gt-MOST_FIELDS-clause-call : goal.returns-then-head-gt-MOST_FIELDS-clause-call
returns-then-head-gt-MOST_FIELDS-clause-call c =
    let at = rw c.in-Ok-Complete.field-0-is at c.in-Ok-Complete.ensures.complete in
    let count = same_count _ at.0.fields at.1.fields in
    full_call c.args.text.now _ at.0 at.1.reads (omega (arith, count))

pub asked_of-requires-clause-good : goal.asked_of-requires-clause-good
asked_of-requires-clause-good c =
    let at = rw c.in-Ok-Complete.field-0-is at c.in-Ok-Complete.ensures.complete in
    good_at _ at.0.fields at.1.fields at.1.reads.0.fields

pub asked_of-requires-clause-small : goal.asked_of-requires-clause-small
asked_of-requires-clause-small c =
    let at = rw c.in-Ok-Complete.field-0-is at c.in-Ok-Complete.ensures.complete in
    small_asked _ at.0 c.args.text.now _ at.1.fields at.1.reads (search rules)

pub returns-else-head-gt-MOST_FIELDS-clause-call : goal.returns-else-head-gt-MOST_FIELDS-clause-call
returns-else-head-gt-MOST_FIELDS-clause-call c =
    let at = rw c.in-Ok-Complete.field-0-is at c.in-Ok-Complete.ensures.complete in
    let count = same_count _ at.0.fields at.1.fields in
    let same : fields_in c.parse.new.self.headers.now ≡ fields_of at.0.fields = ap (map lowercase_field) at.1.fields in
    let method_is : c.as_bytes-method.result.now ≡ at.0.method = c.as_bytes-method.ensures.value ∙
    same_value _ _ _ (ap option_copied c.unwrap.ensures) at.1.method in
    let target_is : c.as_bytes-target.result.now ≡ at.0.target = c.as_bytes-target.ensures.value ∙
    same_value _ _ _ (ap option_copied c.unwrap-in-Ok-Complete.ensures) at.1.path in
    whole_call c.args.text.now _ c.as_bytes-method.result.now c.as_bytes-target.result.now c.unwrap-minor.result _ at.0 c.asked_of.result at.1.reads
    c.if-len-text.false (omega (arith, count)) method_is target_is (same_value _ _ _ c.unwrap-minor.ensures at.1.version) same c.asked_of.ensures

pub returns-in-Ok-Partial-clause-call : goal.returns-in-Ok-Partial-clause-call
returns-in-Ok-Partial-clause-call c = no_call c.args.text.now (rw c.in-Ok-Partial.field-0-is at c.in-Ok-Partial.ensures.partial)

pub returns-in-Err-clause-call : goal.returns-in-Err-clause-call
returns-in-Err-clause-call c = never_call c.args.text.now (c.in-Err.ensures.invalid (search rules))
