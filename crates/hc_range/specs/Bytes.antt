use Rattle.std.specs.Prelude.{◌≡◌, ℕ, true, List}
use Rattle.hc_text.specs.Texts.{lacks}

-- no byte of the text is this one
abbrev pub LacksByte : ℕ → List ℕ → Type 0
LacksByte byte text = lacks byte text ≡ true
