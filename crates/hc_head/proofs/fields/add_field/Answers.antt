use Rattle.std.proofs.Common.{◌≡◌, arith, rules}
use Rattle.http_header.specs.Token.{lowercase}
use Rattle.hc_fields.specs.FieldList.{field_list_with}
use Rattle.hc_fields.proofs.Edits.{length-put, size_of-put}
use Rattle.hc_head.proofs.fields.add_field.Goals as goal

pub returns-in-Ok-clause-count : goal.returns-in-Ok-clause-count
returns-in-Ok-clause-count c =
    let put_is : c.append_checked.new.self ≡ field_list_with (lowercase c.args.header.now.name.now) c.args.header.now.value.now c.args.fields.now =
    search rules in
    rw put_is (length-put (lowercase c.args.header.now.name.now) c.args.header.now.value.now c.args.fields.now)

pub returns-in-Ok-clause-size : goal.returns-in-Ok-clause-size
returns-in-Ok-clause-size c =
    let put_is : c.append_checked.new.self ≡ field_list_with (lowercase c.args.header.now.name.now) c.args.header.now.value.now c.args.fields.now =
    search rules in
    let size = size_of-put (lowercase c.args.header.now.name.now) c.args.header.now.value.now c.args.fields.now in
    rw put_is (omega (arith, size))
