-- A tag that stands in a text, as plain values.
use Rattle.std.specs.Prelude.{ℕ, Bool, List}
use Rattle.hc_etag.specs.declared.text.TagText.{TagText}

-- whether it is weak, and what stands between its quotes
abbrev pub plain_tag : TagText → Bool × List ℕ
plain_tag tag = (tag.weak, tag.opaque.now)
