-- Targets: web URLs without a fragment, in the one spelling that the URL Standard gives them.
use Rattle.std.specs.Prelude.{◌≡◌, ℕ, ◌&&◌, ◌||◌, nat_le, Bool, true, false, List, length, codes, bytes_eq, is_none, None, Ok, Err}
use Rattle.std.specs.Str.{is_utf8}
use Rattle.hc_text.specs.Texts.{lacks}
use Rattle.url.specs.Parts.{Parts, serialize, IsValid}
use Rattle.url.specs.Parser.{Parsed, parse_url}

-- an `http` or `https` URL without a fragment, whose text is this
abbrev pub has_own_text : Parts → List ℕ → Bool
has_own_text url text =
    (bytes_eq url.scheme (codes "http") || bytes_eq url.scheme (codes "https"))
    && is_none url.fragment && bytes_eq (serialize url) text

abbrev pub gives_text : Parsed Parts → List ℕ → Bool
gives_text (Ok url) text = has_own_text url text
gives_text (Err e) text = false

-- 1 to 8,192 bytes without a space or a line feed
unfoldable pub is_short_word : List ℕ → Bool
is_short_word text =
    nat_le 1 (length text) && nat_le (length text) 8192 && lacks 32 text && lacks 10 text

-- such bytes, which the URL Standard reads and writes alike
unfoldable pub is_target : List ℕ → Bool
is_target text = is_short_word text && is_utf8 text && gives_text (parse_url None text) text

-- what `url` tells besides: the URL that is read is valid
abbrev pub ReadsTarget : List ℕ → Type 0
ReadsTarget text =
    (url : Parts) × (parse_url None text ≡ Ok url) × IsValid url
    × (has_own_text url text ≡ true)
