use Rattle.std.{proofs.Common.{◌≡◌, ◌≤◌, ◌∷◌, [], length, take}, specs.Prelude.{codes}}
use Rattle.hc_fields.specs.FieldList.{values_of}
use Rattle.hc_record.proofs.joining.only_etag.Given as goal

abbrev pub invariant-loop-i : goal.invariant-loop-i
invariant-loop-i l =
    (l.count ≡ length (values_of (codes "etag") (take l.i l.fields)))
    × (l.count ≤ l.i)
    × (l.count ≡ 1 → values_of (codes "etag") (take l.i l.fields) ≡ l.found ∷ [])
