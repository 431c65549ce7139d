use Rattle.std.proofs.Common.{◌≡◌, ℕ, List, length, inl, inr, ap, ◌∙◌, arith}
use Rattle.http_header.specs.Token.{lowercase}
use Rattle.hc_fields.specs.FieldList.{field_list_with, size_of}
use Rattle.hc_fields.proofs.Edits.{length-put, size_of-put}
use Rattle.hc_sched.proofs.FieldLemmas.{Follows-from_test, never_refused}
use Rattle.hc_sched.proofs.begun.add_field.Goals as goal

pub append_checked-requires-clause-is_name : goal.append_checked-requires-clause-is_name
append_checked-requires-clause-is_name c =
    let follows = Follows-from_test c.args.fields.now (c.args.name.now, c.args.value.now) c.requires.follows in
    follows.is.is_name

pub append_checked-requires-clause-is_value : goal.append_checked-requires-clause-is_value
append_checked-requires-clause-is_value c =
    let follows = Follows-from_test c.args.fields.now (c.args.name.now, c.args.value.now) c.requires.follows in
    follows.is.is_value

pub unreachable-requires : goal.unreachable-requires
unreachable-requires c =
    let follows = Follows-from_test c.args.fields.now (c.args.name.now, c.args.value.now) c.requires.follows in
    elim c.in-Err.ensures.answer [
      | inl memory ↦ c.in_default.not-NoMemory memory.0
      | inr refused ↦
          never_refused c.in-Err.e c.args.fields.now (c.args.name.now, c.args.value.now) follows c.requires.few c.in_default.not-NoMemory refused
    ]

put_is : (name value : List ℕ) (old new : List (List ℕ × List ℕ)) → lowercase name ≡ name → new ≡ field_list_with (lowercase name) value old →
    new ≡ field_list_with name value old
put_is name value old new low is = rw low at is

pub returns-in-Ok : goal.returns-in-Ok
returns-in-Ok c =
    let follows = Follows-from_test c.args.fields.now (c.args.name.now, c.args.value.now) c.requires.follows in
    let is = put_is c.args.name.now c.args.value.now c.args.fields.now c.append_checked.new.self follows.is.is_lower c.in-Ok.ensures.ok in
    let more = length-put c.args.name.now c.args.value.now c.args.fields.now in
    let bytes = size_of-put c.args.name.now c.args.value.now c.args.fields.now in
    record {
      ok = is;
      count = ap length is ∙ more;
      size = ap size_of is ∙ bytes;
      small = rw is (omega (arith, bytes, follows.fits));
    }
