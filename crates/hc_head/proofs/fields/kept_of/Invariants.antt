use Rattle.std.{proofs.Common.{◌≡◌, ◌+◌, ◌≤◌, length, drop}, specs.Prelude.{filter}}
use Rattle.hc_fields.specs.FieldList.{size_of}
use Rattle.hc_head.specs.{Rules.{is_kept, kept_of, put_all}, Held.{fields_in}}
use Rattle.hc_head.proofs.fields.kept_of.Given as goal

abbrev pub invariant-loop-header : goal.invariant-loop-header
invariant-loop-header l = record {
  same : put_all l.fields (filter (is_kept l.leaving (fields_in l.headers)) (fields_in (drop l.header-index l.headers))) ≡ kept_of l.leaving
      (fields_in l.headers);
  few : length l.fields ≤ l.header-index;
  small : size_of l.fields + size_of (fields_in (drop l.header-index l.headers)) ≤ 32768;
}
