-- Bytes of a body, however they are kept.
use Rattle.std.specs.Prelude.{ℕ, List}
use Rattle.hc_text.specs.declared.body.Kept.{Kept}
use Rattle.hc_text.specs.declared.body.Kept.TheVariants.{Own, Shared}

abbrev pub kept_bytes : Kept → List ℕ
kept_bytes (Own list) = list.items
kept_bytes (Shared bytes) = bytes
