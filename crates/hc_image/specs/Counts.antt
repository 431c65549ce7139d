-- What tells where a record ends: its version, and how many fields it has.
use Rattle.std.specs.Prelude.{◌≡◌, ℕ, List, length, codes}
use Rattle.hc_record.specs.Head.{Head}
use Rattle.hc_record.specs.declared.version.Version.{Version}
use Rattle.hc_record.specs.declared.version.Version.TheVariants.{First, Second}
use Rattle.hc_image.specs.declared.record.Counts.{Counts}

-- the line of a version, without its line feed
abbrev pub version_text : Version → List ℕ
version_text First = codes "record 1"
version_text Second = codes "record 2"

-- as many as the head
pub record HasCountsOf (head : Head) (counts : Counts) : Type 0 where
  pub vary : counts.vary ≡ length head.vary_fields
  pub fields : counts.fields ≡ length head.fields
