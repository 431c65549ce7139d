use Rattle.std.proofs.Common.{length, inl, inr, arith, ap}
use Rattle.http_header.specs.Token.{lowercase}
use Rattle.hc_fields.specs.FieldList.{size_of}
use Rattle.hc_validate.proofs.Settings.{length-with_one, never_refused, size_of-with_one}
use Rattle.hc_validate.proofs.setting.set_field.Goals as goal

pub unreachable-requires : goal.unreachable-requires
unreachable-requires c =
    elim c.in-Err.ensures.answer [
      | inl memory ↦ c.in_default.not-NoMemory memory.0
      | inr refused ↦
          never_refused c.in-Err.e c.args.name.now c.args.value.now c.args.fields.now
          (record { name = c.requires.name; value = c.requires.value; short = c.requires.short; few = c.requires.few; small = c.requires.small }) refused
    ]

pub returns-in-Ok-clause-count : goal.returns-in-Ok-clause-count
returns-in-Ok-clause-count c = omega (arith, ap length c.in-Ok.ensures.ok, length-with_one (lowercase c.args.name.now) c.args.value.now c.args.fields.now)

pub returns-in-Ok-clause-size : goal.returns-in-Ok-clause-size
returns-in-Ok-clause-size c = omega (arith, ap size_of c.in-Ok.ensures.ok, size_of-with_one c.args.name.now c.args.value.now c.args.fields.now)
